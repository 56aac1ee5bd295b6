use Rattle.std.proofs.Common.{◌≡◌, Some, [], ◌∷◌, take}
use Rattle.py_nesting.specs.Walk as walking
use Rattle.py_demands.specs.Closing.{exactly}
use Rattle.py_depth.specs.PlainDemands.{demands_of}
use Rattle.py_table.specs.Steps.{stack_of}
use Rattle.py_front_depth.proofs.demands.closing_demands.Given as goal

-- what the first symbols ask, which lie deepest
abbrev pub invariant-loop-i : goal.invariant-loop-i
invariant-loop-i l = exactly (stack_of (take l.i l.symbols)) (Some (walking.Whole 0 ∷ [])) ≡ Some (demands_of l.demands.items)
