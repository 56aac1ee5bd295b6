use Rattle.std.proofs.Common.{◌≡◌, take}
use Rattle.py_nesting.specs.Walk as walking
use Rattle.py_nesting.specs.First.{first_of}
use Rattle.py_depth.specs.PlainEntries.{events_of}
use Rattle.py_depth.specs.PlainDemands.{demands_of, plain_first}
use Rattle.py_depth.proofs.walk.first_from.Given as goal

-- what is left of the walk is the walk from here
abbrev pub invariant-loop-i : goal.invariant-loop-i
invariant-loop-i l =
    first_of (plain_first l.fn.first) (walking.walk (events_of l.events) (demands_of l.fn.demands.items)) ≡ first_of (plain_first l.first) (walking.walk (events_of (take l.i l.events)) (demands_of l.demands.items))
