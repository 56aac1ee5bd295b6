use Rattle.std.proofs.Common.{ap, sym, ◌∙◌}
use Rattle.std.specs.Option.{option_map}
use Rattle.py_depth.specs.PlainDemands.{plain_demand, demands_of}
use Rattle.py_front_depth.proofs.ReadBack.{asked_begun, asked_more, none_asked_so}
use Rattle.py_depth.proofs.Demands.{demands_of-push, demands_of-nothing}
use Rattle.py_front_depth.proofs.readings.of_aims.Goals as goal

pub loop-i-init : goal.loop-i-init
loop-i-init c = (c.if-aims-entries.false, asked_begun c.args.aims.now c.args.entries.now _ (ap demands_of c.new-demands.ensures.items ∙ demands_of-nothing))

pub returns-in-None : goal.returns-in-None
returns-in-None c =
    none_asked_so c.args.aims.now c.args.entries.now c.loop-i.i _ _ (demands_of c.loop-i.demands.items) c.loop-i.invariant.0 c.loop-i-test.true c.loop-i.invariant.1 (sym (ap (option_map plain_demand) c.in-None.is) ∙ c.in_ok-demand.ensures)

pub loop-i-preserved : goal.loop-i-preserved
loop-i-preserved c = (
  c.loop-i.invariant.0,
  asked_more c.args.aims.now c.args.entries.now c.loop-i.i _ _ (plain_demand c.in-Some.demand) _ _ c.loop-i.invariant.0 c.loop-i-test.true c.loop-i.invariant.1 (sym (ap (option_map plain_demand) c.in-Some.is) ∙ c.in_ok-demand.ensures)
      (ap demands_of c.in_ok-push-in-Some.ensures.items ∙ demands_of-push _ _),
)
