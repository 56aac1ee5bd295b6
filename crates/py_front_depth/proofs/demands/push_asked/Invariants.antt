use Rattle.std.proofs.Common.{◌≡◌, ◌++◌, map, drop}
use Rattle.py_demands.specs.Roles as asking
use Rattle.py_depth.specs.PlainDemands.{plain_demand, demands_of}
use Rattle.py_front_depth.specs.PlainRoles.{plain_roles}
use Rattle.py_front_depth.proofs.demands.push_asked.Given as goal

-- what the last roles ask lies on top
abbrev pub invariant-loop-i : goal.invariant-loop-i
invariant-loop-i l = demands_of l.demands.items ≡ map (asking.asked_by (plain_demand l.demand)) (plain_roles (drop l.i l.roles)) ++ demands_of l.initial.demands.items
