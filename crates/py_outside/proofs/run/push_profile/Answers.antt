use Rattle.std.proofs.Common.{ap, ◌∙◌}
use Rattle.py_outside.proofs.SymbolStacks.{profile_before}
use Rattle.py_outside.specs.Steps.{stack_of}
use Rattle.py_outside.proofs.run.push_profile.Goals as goal

pub loop-i-preserved : goal.loop-i-preserved
loop-i-preserved c = ap stack_of c.in_ok-push.ensures.items ∙ profile_before _ _ _ _ _ _ c.loop-i-test.true c.loop-i.auto.i c.lifted.ensures c.loop-i.invariant
