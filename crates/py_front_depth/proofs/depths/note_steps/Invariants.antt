use Rattle.std.proofs.Common.{take}
use Rattle.py_nesting.specs.Walk.{walk}
use Rattle.py_depth.specs.PlainDemands.{demands_of}
use Rattle.py_depth.specs.PlainEntries.{events_of}
use Rattle.py_front_depth.proofs.NotedDepths.{AreLeft}
use Rattle.py_front_depth.proofs.depths.note_steps.Given as goal

-- what is noted, and what is left of the steps
abbrev pub invariant-loop-i : goal.invariant-loop-i
invariant-loop-i l = AreLeft l.depths.entries (walk (events_of (take l.i l.events)) (demands_of l.demands.items)) (walk (events_of l.events) (demands_of l.fn.demands.items))
