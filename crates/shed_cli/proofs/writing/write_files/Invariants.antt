use Rattle.std.proofs.Common.{◌≡◌, ◌≤◌, take}
use Rattle.shed_meaning.specs.Outcome.{with_files}
use Rattle.cpp_text.specs.Plain.{plain_files}
use Rattle.shed_cli.proofs.writing.write_files.Given as goal

abbrev pub invariant-loop-file : goal.invariant-loop-file
invariant-loop-file g l =
    record {
      written : g.F.Folder.files l.folder ≡ with_files (g.F.Folder.files l.initial.folder) (take l.file-index (plain_files l.files));
      later : g.F.Folder.write_faults l.initial.folder ≤ g.F.Folder.write_faults l.folder;
      others : g.F.Folder.read_faults l.folder ≡ g.F.Folder.read_faults l.initial.folder;
    }
