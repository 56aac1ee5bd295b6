use Rattle.py_front_depth.proofs.NotedDepths.{walk_split, met_so, walk_done, none_met}
use Rattle.py_front_depth.proofs.depths.note_steps.Goals as goal

pub loop-i-preserved-in-Continue-branch-3 : goal.loop-i-preserved-in-Continue-branch-3
loop-i-preserved-in-Continue-branch-3 c =
    met_so c.loop-i.depths.entries _ c.in-Some.place c.in-Some.above c.in_ok-place.field-0 _ _ c.in-Some.is
    (walk_split c.args.events.now c.loop-i.i _ _ _ c.in_ok-place.field-0 _ _ c.loop-i-test.true c.loop-i.auto.i c.loop-i.invariant c.in_ok-place.ensures.back c.in_ok-place.ensures.met) c.in_ok-note-in-Some.ensures

pub loop-i-preserved : goal.loop-i-preserved
loop-i-preserved c =
    none_met c.loop-i.depths.entries c.in_ok-place.field-0 _ _ c.in-None.is
    (walk_split c.args.events.now c.loop-i.i _ _ _ c.in_ok-place.field-0 _ _ c.loop-i-test.true c.loop-i.auto.i c.loop-i.invariant c.in_ok-place.ensures.back c.in_ok-place.ensures.met)

pub returns : goal.returns
returns c = walk_done c.args.events.now c.loop-i.i _ _ _ c.loop-i-test.false c.loop-i.invariant
