use Rattle.std.proofs.Common.{◌≡◌, length}
use Rattle.py_depth.specs.PlainDemands.{plain_first}
use Rattle.py_front_depth.proofs.Entries.{IsLeft}
use Rattle.py_front_depth.proofs.nodes.first_at_tokens.Given as goal

-- what is left of the first place is so from here
abbrev pub invariant-loop-i : goal.invariant-loop-i
invariant-loop-i l = (length l.entries ≡ length l.demands) × IsLeft l.entries l.demands l.i (plain_first l.first)
