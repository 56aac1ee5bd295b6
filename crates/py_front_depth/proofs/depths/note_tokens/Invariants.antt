use Rattle.std.proofs.Common.{◌≡◌, length}
use Rattle.py_front_depth.proofs.NotedDepths.{TokensNoted}
use Rattle.py_front_depth.proofs.depths.note_tokens.Given as goal

-- the first tokens are noted
abbrev pub invariant-loop-i : goal.invariant-loop-i
invariant-loop-i l = (length l.entries ≡ length l.demands) × TokensNoted l.initial.depths.entries l.depths.entries l.entries l.demands l.i
