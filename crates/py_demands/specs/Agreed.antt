-- Where what is asked at least is what is asked when the symbols are closed.
use Rattle.std.specs.Prelude.{◌≡◌, ◌≤◌, ◌<◌, Bool, true, false, List, [], ◌∷◌, ◌++◌, Option, Some, None, ◌⊎◌}
use Rattle.py_tokens.specs.Token.{Place}
use Rattle.py_syntax.specs.Token.{Token}
use Rattle.py_syntax.specs.Tree.{Body}
use Rattle.py_syntax.specs.Build.{Part, Parts}
use Rattle.py_syntax.specs.Grammar.{IsModule}
use Rattle.py_syntax.specs.Table.{Symbol}
use Rattle.py_nesting.specs.Asked.{targets_last}
use Rattle.py_nesting.specs.Depths.{body_depth}
use Rattle.py_nesting.specs.Outlines.{Outline, as_targets}
use Rattle.py_nesting.specs.Shapes.{part_outline, entry_of}
use Rattle.py_nesting.specs.Walk.{Demand, Whole, Inside}
use Rattle.py_demands.specs.Asks.{avoids}
use Rattle.py_demands.specs.Least.{Ask, NoNode, AtLeast, WithinAtLeast, OpenAtLeast}
use Rattle.py_demands.specs.Bound.{standing}
use Rattle.py_demands.specs.Behind.{heads, is_once, drops_first, Behind}

-- as targets a part has the same nodes
abbrev pub IsSteady : Option Outline → Type 0
IsSteady None = Unit {0}
IsSteady (Some o) = as_targets o ≡ o

-- or it may be no targets
abbrev pub IsReadWhole : Part → Type 0
IsReadWhole part = IsSteady (part_outline part) ⊎ (targets_last (entry_of part ∷ []) ≡ false)

-- tuples that may be targets yet are left out
abbrev pub Agrees : Part → Ask → Demand → Type 0
Agrees part NoNode d = Unit {0}
Agrees part (AtLeast m) (Whole n) = m ≡ n
Agrees part (WithinAtLeast m) (Inside n) = m ≡ n
Agrees part (OpenAtLeast m) (Whole n) = (m ≡ n) × IsReadWhole part
Agrees part q d = ⊥

abbrev pub Agree : Parts → List Ask → List Demand → Type 0
Agree [] [] [] = Unit {0}
Agree (part ∷ v) (q ∷ qs) (d ∷ ds) = Agrees part q d × Agree v qs ds
Agree v qs ds = ⊥

-- Where both agree, and one token of the front at most stands at a place but for layout, the nodes there are in no module that begins with the front,
-- has any there and has no other token there less deep than the closing symbols ask.
abbrev pub LeastLaw : Type 0
LeastLaw =
    (front : List Token) (symbols : List Symbol) (v : Parts) (b : Behind front [] symbols v) → Agree v b.asks b.demands
    → drops_first symbols ≡ false → (at : Place → Bool) → is_once at (heads front) ≡ true
    → (more : List Token) (body : Body) → IsModule body (front ++ more) → avoids at more ≡ true → 0 < body_depth at body
    → (0 < standing at v b.demands) × (standing at v b.demands ≤ body_depth at body)
