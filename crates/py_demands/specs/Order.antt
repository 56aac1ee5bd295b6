-- Demands in order, and places at which one part of a stack has nodes at most.
use Rattle.std.specs.Prelude.{◌≡◌, ◌≤◌, ◌<◌, Bool, List, [], ◌∷◌, length}
use Rattle.py_tokens.specs.Token.{Place}
use Rattle.py_syntax.specs.Build.{Parts}
use Rattle.py_nesting.specs.Shapes.{entries_of}
use Rattle.py_nesting.specs.Walk.{Demand, Nothing, Whole, Inside, Assigned, InsideAssigned}
use Rattle.py_demands.specs.Bound.{standing}

-- the first asks for nodes no deeper than the second, where that asks for any
abbrev pub NoDeeper : Demand → Demand → Type 0
NoDeeper u Nothing = Unit {0}
NoDeeper (Whole m) (Whole n) = m ≤ n
NoDeeper (Inside m) (Inside n) = m ≤ n
NoDeeper (Assigned m) (Assigned n) = m ≤ n
NoDeeper (InsideAssigned m) (InsideAssigned n) = m ≤ n
NoDeeper u d = ⊥

abbrev pub AreNoDeeper : List Demand → List Demand → Type 0
AreNoDeeper [] [] = Unit {0}
AreNoDeeper (u ∷ us) (d ∷ ds) = NoDeeper u d × AreNoDeeper us ds
AreNoDeeper us ds = ⊥

-- no node of these parts stands there
abbrev pub IsAway : (Place → Bool) → Parts → Type 0
IsAway at v = (ds : List Demand) → standing at v ds ≡ 0

-- Where some demands ask for a node there, demands that ask for no deeper ones do as well, and no deeper.
abbrev pub IsLone : (Place → Bool) → Parts → Type 0
IsLone at v =
    (us ds : List Demand) → length ds ≡ length (entries_of v) → AreNoDeeper us ds → 0 < standing at v ds
    → (0 < standing at v us) × (standing at v us ≤ standing at v ds)
