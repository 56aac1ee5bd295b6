use Rattle.std.proofs.Common.{◌≡◌, ◌++◌, drop}
use Rattle.std.specs.Prelude.{map}
use Rattle.cpp_meaning.specs.Text.{source_text}
use Rattle.cpp_ast.specs.Plain.{plain_definition}
use Rattle.cpp_text.proofs.text.push_definitions.Given as goal

abbrev pub invariant-loop-item : goal.invariant-loop-item
invariant-loop-item l = l.out.items ++ source_text (map plain_definition (drop l.item-index l.items)) ≡ l.initial.out.items ++ source_text (map plain_definition l.items)
