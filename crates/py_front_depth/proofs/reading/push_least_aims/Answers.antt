use Rattle.std.proofs.Common.{refl, ap, ◌∙◌}
use Rattle.py_demands.specs.Aims as aims
use Rattle.py_front_depth.specs.PlainAsks.{plain_aim, aims_of}
use Rattle.py_front_depth.specs.PlainLeasts.{plain_least}
use Rattle.py_front_depth.proofs.Stacks.{aims_of-push, one_before, one_may_be_never}
use Rattle.py_front_depth.proofs.reading.push_least_aims.Goals as goal

pub loop-i-preserved : goal.loop-i-preserved
loop-i-preserved c =
    let put = ap aims_of c.in_ok-push.ensures.items ∙ aims_of-push _ _ in (
      put ∙ one_before (aims.aim_least (plain_aim c.args.aim)) plain_least c.args.leasts.now c.loop-i.i _ _ _ (aims_of c.args.aims.now.items) c.loop-i-test.true c.loop-i.auto.i c.loop-i.invariant.0 c.in_ok-next.ensures,
      λ h. one_may_be_never c.loop-i.never c.is_never-never.result _ (plain_aim c.in_ok-next.next) (aims_of c.loop-i.aims.items) (aims_of c.push.new.self.items) refl (c.loop-i.invariant.1 h) c.is_never-never.ensures put,
    )
