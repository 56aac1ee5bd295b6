use Rattle.std.proofs.Common.{◌≡◌, ◌++◌, drop}
use Rattle.std.specs.Prelude.{map}
use Rattle.cpp_meaning.specs.Text.{includes_text}
use Rattle.cpp_ast.specs.Plain.{plain_module}
use Rattle.cpp_text.proofs.text.push_includes.Given as goal

abbrev pub invariant-loop-module : goal.invariant-loop-module
invariant-loop-module l = l.out.items ++ includes_text (map plain_module (drop l.module-index l.modules)) ≡ l.initial.out.items ++ includes_text (map plain_module l.modules)
