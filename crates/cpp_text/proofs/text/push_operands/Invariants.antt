use Rattle.std.proofs.Common.{◌≡◌, ◌++◌, drop}
use Rattle.std.specs.Prelude.{map}
use Rattle.cpp_meaning.specs.Text.{operands_text}
use Rattle.cpp_ast.specs.Plain.{plain_expr}
use Rattle.cpp_text.proofs.text.push_operands.Given as goal

abbrev pub invariant-loop-operand : goal.invariant-loop-operand
invariant-loop-operand l = l.out.items ++ operands_text (map plain_expr (drop l.operand-index l.operands)) ≡ l.initial.out.items ++ operands_text (map plain_expr l.operands)
