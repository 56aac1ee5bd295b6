use Rattle.std.proofs.Common.{◌≡◌, ◌++◌, false, map, drop}
use Rattle.py_demands.specs.Aims as aims
use Rattle.py_demands.specs.Readings.{has_never}
use Rattle.py_front_depth.specs.PlainAsks.{plain_aim, aims_of}
use Rattle.py_front_depth.specs.PlainRoles.{plain_roles}
use Rattle.py_front_depth.proofs.reading.push_aims.Given as goal

-- what the last of them are to be lies on top
abbrev pub invariant-loop-i : goal.invariant-loop-i
invariant-loop-i l =
    (aims_of l.aims.items ≡ map (aims.aim_by (plain_aim l.aim)) (plain_roles (drop l.i l.roles)) ++ aims_of l.initial.aims.items)
    × (has_never (aims_of l.initial.aims.items) ≡ false → l.never ≡ has_never (aims_of l.aims.items))
