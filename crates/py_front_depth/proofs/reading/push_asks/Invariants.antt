use Rattle.std.proofs.Common.{◌≡◌, ◌++◌, map, drop}
use Rattle.py_demands.specs.Least as at_least
use Rattle.py_front_depth.specs.PlainAsks.{plain_ask, asks_of}
use Rattle.py_front_depth.specs.PlainRoles.{plain_roles}
use Rattle.py_front_depth.proofs.reading.push_asks.Given as goal

-- what the last of them ask lies on top
abbrev pub invariant-loop-i : goal.invariant-loop-i
invariant-loop-i l = asks_of l.asks.items ≡ map (at_least.ask_by (plain_ask l.ask)) (plain_roles (drop l.i l.roles)) ++ asks_of l.initial.asks.items
