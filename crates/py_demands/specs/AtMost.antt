-- What is asked of a part is no less than some ask.
use Rattle.std.specs.Prelude.{◌≤◌, List, [], ◌∷◌}
use Rattle.py_nesting.specs.Walk.{Demand, Nothing, Whole, Inside, Assigned}
use Rattle.py_demands.specs.Least.{Ask, AtLeast, WithinAtLeast, OpenAtLeast}

-- where nothing is asked no node comes, and so none that has less above it
abbrev pub AtMost : Ask → Demand → Type 0
AtMost q Nothing = Unit {0}
AtMost (AtLeast m) (Whole n) = m ≤ n
AtMost (WithinAtLeast m) (Inside n) = m ≤ n
AtMost (OpenAtLeast m) (Whole n) = m ≤ n
AtMost (OpenAtLeast m) (Assigned n) = m ≤ n
AtMost q d = ⊥

abbrev pub AreAtMost : List Ask → List Demand → Type 0
AreAtMost [] [] = Unit {0}
AreAtMost (q ∷ qs) (d ∷ ds) = AtMost q d × AreAtMost qs ds
AreAtMost qs ds = ⊥
