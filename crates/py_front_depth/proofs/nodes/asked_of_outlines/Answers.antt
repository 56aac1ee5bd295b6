use Rattle.py_front_depth.proofs.Entries.{none_asked, one_asked, none_more}
use Rattle.py_front_depth.proofs.nodes.asked_of_outlines.Goals.{then-is_outlined+in_ok-push, else-is_outlined}
use Rattle.py_front_depth.proofs.nodes.asked_of_outlines.Goals as goal

pub loop-i-init : goal.loop-i-init
loop-i-init c = (c.if-entries-demands.false, none_asked c.args.entries.now c.args.demands.now _ c.new-asked.ensures.items)

pub loop-i-preserved : goal.loop-i-preserved
loop-i-preserved c = (
  c.loop-i.invariant.0,
  elim c.if-is_outlined.branch [
    | then-is_outlined+in_ok-push w ↦ rw w.asked-is (one_asked c.args.entries.now c.args.demands.now _ _ c.loop-i.i _ _ c.is_outlined.result c.loop-i.invariant.0 c.loop-i-test.true c.loop-i.invariant.1 c.is_outlined.ensures w.if-is_outlined.true w.in_ok-push.ensures.items)
    | else-is_outlined w ↦ rw w.asked-is (none_more c.args.entries.now c.args.demands.now _ c.loop-i.i _ c.is_outlined.result c.loop-i.invariant.0 c.loop-i-test.true c.loop-i.invariant.1 c.is_outlined.ensures w.if-is_outlined.false)
  ],
)
