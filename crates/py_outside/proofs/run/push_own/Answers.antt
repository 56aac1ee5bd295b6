use Rattle.std.proofs.Common.{ap, ◌∙◌}
use Rattle.py_outside.proofs.SymbolStacks.{own_before}
use Rattle.py_outside.specs.Steps.{stack_of}
use Rattle.py_outside.proofs.run.push_own.Goals as goal

pub loop-i-preserved : goal.loop-i-preserved
loop-i-preserved c = ap stack_of c.in_ok-push.ensures.items ∙ own_before _ _ _ _ _ c.loop-i-test.true c.loop-i.auto.i c.loop-i.invariant
