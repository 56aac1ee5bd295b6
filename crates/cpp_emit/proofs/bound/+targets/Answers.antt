use Rattle.cpp_emit.proofs.NamesKept.{names_step}
use Rattle.cpp_emit.proofs.bound.+targets.Goals as goal

pub bind_targets-loop-stmt-preserved : goal.bind_targets-loop-stmt-preserved
bind_targets-loop-stmt-preserved t c =
    names_step _ _ _ c.args.body.now c.loop-stmt.stmt-index c.stmt-item.result c.loop-stmt-test.true c.stmt-item.is c.in_ok-bind_targets_of.ensures c.loop-stmt.invariant
