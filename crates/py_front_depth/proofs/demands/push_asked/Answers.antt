use Rattle.std.proofs.Common.{ap, ◌∙◌}
use Rattle.py_depth.specs.PlainDemands.{plain_demand, demands_of}
use Rattle.py_depth.proofs.Demands.{demands_of-push}
use Rattle.py_front_depth.proofs.Stacks.{asked_before}
use Rattle.py_front_depth.proofs.demands.push_asked.Goals as goal

pub loop-i-preserved : goal.loop-i-preserved
loop-i-preserved c =
    ap demands_of c.in_ok-push.ensures.items ∙ demands_of-push _ _
    ∙ asked_before c.args.roles.now c.loop-i.i _ (plain_demand c.args.demand) _ _ (demands_of c.args.demands.now.items) c.loop-i-test.true c.loop-i.auto.i c.loop-i.invariant c.in_ok-asked_by.ensures
