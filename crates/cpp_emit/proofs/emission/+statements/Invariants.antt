use Rattle.std.proofs.Common.{◌≡◌, drop}
use Rattle.py_built.specs.PlainTrees.{plain_body}
use Rattle.cpp_ast.specs.Plain.{plain_block}
use Rattle.cpp_emit.specs.Emit.{emit_body}
use Rattle.cpp_emit.specs.Blocks.{followed_by}
use Rattle.cpp_emit.proofs.emission.+statements.Given as goal

abbrev pub invariant-emit_body-loop-stmt : goal.invariant-emit_body-loop-stmt
invariant-emit_body-loop-stmt l =
    followed_by (plain_block l.block) (emit_body (plain_body (drop l.stmt-index l.body))) ≡ emit_body (plain_body l.body)
