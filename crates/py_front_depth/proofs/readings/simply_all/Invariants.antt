use Rattle.std.proofs.Common.{◌≡◌, map, take}
use Rattle.py_demands.specs.Aims as aiming
use Rattle.py_front_depth.specs.PlainAsks.{asks_of, aims_of}
use Rattle.py_front_depth.proofs.readings.simply_all.Given as goal

-- what was asked of the first
abbrev pub invariant-loop-i : goal.invariant-loop-i
invariant-loop-i l = aims_of l.aims.items ≡ map aiming.Simply (asks_of (take l.i l.asks))
