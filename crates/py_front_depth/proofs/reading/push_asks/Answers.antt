use Rattle.std.proofs.Common.{ap, ◌∙◌}
use Rattle.py_demands.specs.Least as at_least
use Rattle.py_front_depth.specs.PlainAsks.{plain_ask, asks_of}
use Rattle.py_front_depth.specs.PlainRoles.{plain_role}
use Rattle.py_front_depth.proofs.Stacks.{asks_of-push, one_before}
use Rattle.py_front_depth.proofs.reading.push_asks.Goals as goal

pub loop-i-preserved : goal.loop-i-preserved
loop-i-preserved c =
    ap asks_of c.in_ok-push.ensures.items ∙ asks_of-push _ _
    ∙ one_before (at_least.ask_by (plain_ask c.args.ask)) plain_role c.args.roles.now c.loop-i.i _ _ _ (asks_of c.args.asks.now.items) c.loop-i-test.true c.loop-i.auto.i c.loop-i.invariant c.in_ok-asked_in.ensures
