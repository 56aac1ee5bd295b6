use Rattle.std.proofs.Common.{◌≡◌, ◌++◌, drop}
use Rattle.std.specs.Prelude.{map}
use Rattle.cpp_meaning.specs.Text.{source_files}
use Rattle.cpp_ast.specs.Plain.{plain_module}
use Rattle.cpp_text.specs.Plain.{plain_files}
use Rattle.cpp_text.proofs.text.push_sources.Given as goal

abbrev pub invariant-loop-module : goal.invariant-loop-module
invariant-loop-module l =
    plain_files l.files.items ++ source_files (map plain_module l.modules) (map plain_module (drop l.module-index l.modules))
    ≡ plain_files l.initial.files.items ++ source_files (map plain_module l.modules) (map plain_module l.modules)
