use Rattle.py_depth.specs.PlainDemands.{plain_first}
use Rattle.py_front_depth.proofs.Entries.{one_less, none_left}
use Rattle.py_front_depth.proofs.nodes.first_at_tokens.Goals as goal

pub loop-i-preserved : goal.loop-i-preserved
loop-i-preserved c =
    (c.loop-i.invariant.0, one_less c.args.entries.now c.args.demands.now c.loop-i.i _ _ (plain_first c.loop-i.first) (plain_first c.first_with-first.result) c.loop-i.invariant.0 c.loop-i-test.true c.loop-i.auto.i c.loop-i.invariant.1 c.first_with-first.ensures)

pub returns : goal.returns
returns c = none_left c.args.entries.now c.args.demands.now c.loop-i.i (plain_first c.loop-i.first) c.loop-i-test.false c.loop-i.invariant.1
