use Rattle.std.proofs.Common.{ap, ◌∙◌}
use Rattle.py_front_depth.specs.PlainAsks.{aims_of}
use Rattle.py_front_depth.proofs.ReadBack.{simply_more}
use Rattle.py_front_depth.proofs.Stacks.{aims_of-push}
use Rattle.py_front_depth.proofs.readings.simply_all.Goals as goal

pub loop-i-preserved : goal.loop-i-preserved
loop-i-preserved c = simply_more c.args.asks.now c.loop-i.i _ _ _ c.loop-i-test.true c.loop-i.invariant (ap aims_of c.in_ok-push.ensures.items ∙ aims_of-push _ _)
