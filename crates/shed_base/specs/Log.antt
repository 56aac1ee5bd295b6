-- A log of writes as the files that they leave.
use Rattle.std.specs.Prelude.{ℕ, List, map, string_bytes}
use Rattle.std.specs.FinMap as finite
use Rattle.shed_base.specs.declared.memory_folder.StoredFile.{StoredFile}
use Rattle.shed_base.specs.Files.{Files}

abbrev pub entry_of : StoredFile → List ℕ × List ℕ
entry_of file = (string_bytes file.name, file.bytes.items)

-- the newest write comes first, and hides the older ones of its name
abbrev pub files_of : List StoredFile → Files
files_of log = finite.from_entries (map entry_of log)
