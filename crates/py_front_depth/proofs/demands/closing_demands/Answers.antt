use Rattle.py_front_depth.proofs.Stacks.{begun, one_more_back}
use Rattle.py_front_depth.proofs.demands.closing_demands.Goals as goal

pub loop-i-init : goal.loop-i-init
loop-i-init c = begun _ _ c.new-demands.ensures.items c.in_ok-push.ensures.items

pub loop-i-preserved : goal.loop-i-preserved
loop-i-preserved c = one_more_back c.args.symbols.now c.loop-i.i _ _ _ _ c.loop-i-test.true c.loop-i.invariant c.in_ok-back_over.ensures
