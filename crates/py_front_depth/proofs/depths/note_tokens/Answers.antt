use Rattle.py_front_depth.proofs.NotedDepths.{tokens_begun, tokens_more, tokens_same}
use Rattle.py_front_depth.proofs.depths.note_tokens.Goals.{in-Some+in_ok-note-in-Some, in-None}
use Rattle.py_front_depth.proofs.depths.note_tokens.Goals as goal

pub loop-i-init : goal.loop-i-init
loop-i-init c = (c.if-entries-demands.false, tokens_begun _ c.args.entries.now c.args.demands.now)

pub loop-i-preserved : goal.loop-i-preserved
loop-i-preserved c = (
  c.loop-i.invariant.0,
  elim c.match-depth_at_token.branch [
    | in-Some+in_ok-note-in-Some w ↦ rw w.depths-is
        (tokens_more _ c.loop-i.depths.entries _ c.args.entries.now c.args.demands.now c.loop-i.i _ _ _ c.depth_at_token.result w.in-Some.above c.loop-i.invariant.0 c.loop-i-test.true
        c.loop-i.invariant.1 c.depth_at_token.ensures w.in-Some.is w.in_ok-note-in-Some.ensures)
    | in-None w ↦ rw w.depths-is
        (tokens_same _ c.loop-i.depths.entries c.args.entries.now c.args.demands.now c.loop-i.i _ _ _ c.depth_at_token.result c.loop-i.invariant.0 c.loop-i-test.true c.loop-i.invariant.1
        c.depth_at_token.ensures w.in-None.is)
  ],
)
