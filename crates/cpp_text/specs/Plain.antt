-- The code's files as those that definitions speak of.
use Rattle.std.specs.Prelude.{List, map, string_bytes}
use Rattle.cpp_meaning.specs.Text.{File}
use Rattle.cpp_text.specs.declared.file.File.{File as FileToWrite}

abbrev pub plain_file : FileToWrite → File
plain_file f = record { name = string_bytes f.name; bytes = f.bytes.items }

abbrev pub plain_files : List FileToWrite → List File
plain_files = map plain_file
