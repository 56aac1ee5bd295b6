-- What is asked of the item that is read of a tuple, where the tuple turns out to be targets and where it doesn't.
use Rattle.std.specs.Prelude.{◌≡◌, ℕ, suc, ◌≤◌, Bool, true, List, [], ◌∷◌, ◌++◌, map, length, Some, ◌⊎◌}
use Rattle.grammars.specs.Grammar.{Do}
use Rattle.py_tokens.specs.Token.{Place}
use Rattle.py_syntax.specs.Token.{Token}
use Rattle.py_syntax.specs.Tree.{Body}
use Rattle.py_syntax.specs.Build.{Parts, AddItem}
use Rattle.py_syntax.specs.Grammar.{IsModule}
use Rattle.py_syntax.specs.Table.{Symbol}
use Rattle.py_nesting.specs.Asked.{targets_last, target_last}
use Rattle.py_nesting.specs.Depths.{body_depth}
use Rattle.py_nesting.specs.Shapes.{Entry, entries_of}
use Rattle.py_nesting.specs.Walk.{Demand, Assigned}
use Rattle.py_fronts.specs.AtFront.{AtFront}
use Rattle.py_demands.specs.Asks.{avoids}
use Rattle.py_demands.specs.AtMost.{AtMost, AreAtMost}
use Rattle.py_demands.specs.Bound.{standing}
use Rattle.py_demands.specs.Least.{Ask, AtLeast, OpenAtLeast, least, are_askable}
use Rattle.py_demands.specs.Turned.{AreTurned}
use Rattle.py_demands.specs.Aims.{Aim, Simply, Targets, Target, MayTarget, Never, aimed, are_aimable}

abbrev pub IsTarget : ℕ → Entry → Demand → Type 0
IsTarget n e d = AtMost (AtLeast n) d × (target_last (e ∷ []) ≡ true)

abbrev pub IsAimed : Aim → Entry → Demand → Type 0
IsAimed (Simply q) e d = AtMost q d
IsAimed (Targets n) e (Assigned m) = (n ≤ m) × (targets_last (e ∷ []) ≡ true)
IsAimed (Targets n) e d = ⊥
IsAimed (Target n) e d = IsTarget n e d
IsAimed (MayTarget n) e d = IsTarget n e d ⊎ AtMost (AtLeast (suc n)) d
IsAimed Never e d = ⊥

abbrev pub AreAimed : List Aim → List Entry → List Demand → Type 0
AreAimed [] [] [] = Unit {0}
AreAimed (aim ∷ aims) (e ∷ es) (d ∷ ds) = IsAimed aim e d × AreAimed aims es ds
AreAimed aims es ds = ⊥

-- what is asked where an item is read of a tuple that may be assigned to
pub record ItemAsks (item rest : List Symbol) : Type 0 where
  pub above : ℕ
  pub below : List Ask
  pub rest_is : least rest (Some (AtLeast 0 ∷ [])) ≡ Some (OpenAtLeast above ∷ below)
  pub rest_askable : are_askable rest (Some (AtLeast 0 ∷ [])) ≡ true
  -- where the tuple is read as a whole
  pub asks : List Ask
  pub asks_are : least item (Some (AtLeast (suc above) ∷ AtLeast above ∷ below)) ≡ Some asks
  pub askable : are_askable item (Some (AtLeast (suc above) ∷ AtLeast above ∷ below)) ≡ true
  -- where it is assigned to, and so the item is a target
  pub aims : List Aim
  pub aims_are : aimed item (Some (Target above ∷ Targets above ∷ map Simply below)) ≡ Some aims
  pub aimable : are_aimable item (Some (Target above ∷ Targets above ∷ map Simply below)) ≡ true

-- Each module that begins with the front either reads the tuple as a whole, or assigns to it.
abbrev pub ItemLaw : Type 0
ItemLaw =
    (front more : List Token) (item rest : List Symbol) (v : Parts) (body : Body) (i : ItemAsks item rest) → AtFront front [] (item ++ Do AddItem ∷ rest) v → IsModule body (front ++ more)
    → (ds : List Demand) × (length ds ≡ length (entries_of v)) × (AreAtMost i.asks ds ⊎ AreAimed i.aims (entries_of v) ds) × AreTurned (entries_of v) ds
    × ((at : Place → Bool) → (standing at v ds ≤ body_depth at body) × (avoids at more ≡ true → body_depth at body ≤ standing at v ds))
