use Rattle.std.proofs.Common.{◌≡◌, length, Some}
use Rattle.py_depth.specs.PlainDemands.{demands_of}
use Rattle.py_front_depth.proofs.ReadBack.{asked_first}
use Rattle.py_front_depth.proofs.readings.of_aims.Given as goal

-- what is asked of the first parts
abbrev pub invariant-loop-i : goal.invariant-loop-i
invariant-loop-i l = (length l.aims ≡ length l.entries) × (asked_first l.aims l.entries l.i ≡ Some (demands_of l.demands.items))
