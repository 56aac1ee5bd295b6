use Rattle.std.proofs.Common.{◌≡◌, ◌++◌, drop}
use Rattle.std.specs.Prelude.{map}
use Rattle.cpp_meaning.specs.Text.{header_text}
use Rattle.cpp_ast.specs.Plain.{plain_declaration}
use Rattle.cpp_text.proofs.text.push_declarations.Given as goal

abbrev pub invariant-loop-item : goal.invariant-loop-item
invariant-loop-item l = l.out.items ++ header_text (map plain_declaration (drop l.item-index l.items)) ≡ l.initial.out.items ++ header_text (map plain_declaration l.items)
