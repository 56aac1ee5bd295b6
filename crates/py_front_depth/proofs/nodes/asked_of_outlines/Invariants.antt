use Rattle.std.proofs.Common.{◌≡◌, length}
use Rattle.py_front_depth.proofs.Entries.{IsAsked}
use Rattle.py_front_depth.proofs.nodes.asked_of_outlines.Given as goal

abbrev pub invariant-loop-i : goal.invariant-loop-i
invariant-loop-i l = (length l.entries ≡ length l.demands) × IsAsked l.entries l.demands l.i l.asked.items
