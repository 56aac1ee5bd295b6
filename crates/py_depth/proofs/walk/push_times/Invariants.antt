use Rattle.std.proofs.Common.{◌≡◌}
use Rattle.py_nesting.specs.Walk as walking
use Rattle.py_depth.specs.PlainDemands.{plain_demand, demands_of}
use Rattle.py_depth.proofs.walk.push_times.Given as goal

abbrev pub invariant-loop : goal.invariant-loop
invariant-loop l = demands_of l.demands.items ≡ walking.times l.counter (plain_demand l.demand) (demands_of l.initial.demands.items)
