use Rattle.py_front_depth.proofs.NotedDepths.{IsFirstFrom}
use Rattle.py_front_depth.proofs.depths.first_in_both.Given as goal

-- the first place is that of a token from here
abbrev pub invariant-loop-i : goal.invariant-loop-i
invariant-loop-i l = IsFirstFrom l.depths.entries l.others.entries l.tokens l.i
