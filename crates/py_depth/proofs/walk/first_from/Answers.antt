use Rattle.std.proofs.Common.{sym}
use Rattle.py_depth.proofs.Demands.{begun, gone_back, gone_through}
use Rattle.py_depth.proofs.walk.first_from.Goals as goal

pub loop-i-init : goal.loop-i-init
loop-i-init c = begun c.args.events.now _ _

pub loop-i-preserved : goal.loop-i-preserved
loop-i-preserved c =
    gone_back c.args.events.now c.loop-i.i _ _ _ _ _ _ c.loop-i-test.true c.loop-i.auto.i c.loop-i.invariant c.in_ok-first.ensures.back c.in_ok-first.ensures.first

pub returns : goal.returns
returns c = sym (gone_through c.args.events.now c.loop-i.i _ _ _ c.loop-i-test.false c.loop-i.invariant)
