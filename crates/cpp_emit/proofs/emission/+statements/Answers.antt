use Rattle.cpp_emit.proofs.BlocksGrow.{block_step, block_end}
use Rattle.cpp_emit.proofs.emission.+statements.Goals as goal

pub emit_body-loop-stmt-preserved : goal.emit_body-loop-stmt-preserved
emit_body-loop-stmt-preserved t c =
    block_step _ _ _ c.args.body.now c.loop-stmt.stmt-index c.stmt-item.result c.loop-stmt-test.true c.stmt-item.is c.in_ok-emit_stmt.ensures c.loop-stmt.invariant

pub emit_body-returns : goal.emit_body-returns
emit_body-returns t c = block_end _ _ c.args.body.now c.loop-stmt.stmt-index c.loop-stmt-test.false c.loop-stmt.invariant
