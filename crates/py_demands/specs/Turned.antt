-- What is asked as the targets that it turns out to be may be targets, as it stands.
use Rattle.std.specs.Prelude.{◌≡◌, ◌≤◌, Bool, true, List, [], ◌∷◌, ◌++◌, length, Some}
use Rattle.py_tokens.specs.Token.{Place}
use Rattle.py_syntax.specs.Token.{Token}
use Rattle.py_syntax.specs.Tree.{Body}
use Rattle.py_syntax.specs.Build.{Parts}
use Rattle.py_syntax.specs.Grammar.{IsModule}
use Rattle.py_syntax.specs.Table.{Symbol}
use Rattle.py_nesting.specs.Asked.{targets_last}
use Rattle.py_nesting.specs.Depths.{body_depth}
use Rattle.py_nesting.specs.Shapes.{Entry, entries_of}
use Rattle.py_nesting.specs.Walk.{Demand, Assigned, InsideAssigned}
use Rattle.py_fronts.specs.AtFront.{AtFront}
use Rattle.py_demands.specs.Asks.{avoids}
use Rattle.py_demands.specs.AtMost.{AreAtMost}
use Rattle.py_demands.specs.Bound.{standing}
use Rattle.py_demands.specs.Least.{Ask, AtLeast, least, are_askable}

-- asked as targets only where it is true
abbrev pub IfTurned : Bool → Demand → Type 0
IfTurned b (Assigned n) = b ≡ true
IfTurned b (InsideAssigned n) = b ≡ true
IfTurned b d = Unit {0}

abbrev pub AreTurned : List Entry → List Demand → Type 0
AreTurned [] ds = Unit {0}
AreTurned (e ∷ es) [] = Unit {0}
AreTurned (e ∷ es) (d ∷ ds) = IfTurned (targets_last (e ∷ [])) d × AreTurned es ds

-- In a module that begins with a front, the demands that are no less than what the symbols ask of the parts read as targets just such
-- parts as may be targets.
abbrev pub TurnedLaw : Type 0
TurnedLaw =
    (front more : List Token) (symbols : List Symbol) (v : Parts) (body : Body) (asks : List Ask) → AtFront front [] symbols v → IsModule body (front ++ more)
    → are_askable symbols (Some (AtLeast 0 ∷ [])) ≡ true → least symbols (Some (AtLeast 0 ∷ [])) ≡ Some asks
    → (ds : List Demand) × (length ds ≡ length (entries_of v)) × AreAtMost asks ds × AreTurned (entries_of v) ds
    × ((at : Place → Bool) → (standing at v ds ≤ body_depth at body) × (avoids at more ≡ true → body_depth at body ≤ standing at v ds))
