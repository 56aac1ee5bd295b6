-- The two readings of the parts behind a front: as they stand, and with a tuple that is assigned to.
use Rattle.std.specs.Prelude.{◌≡◌, suc, Bool, true, false, if◌then◌else◌, List, [], ◌∷◌, map, Option, Some, None, ◌⊎◌}
use Rattle.grammars.specs.Grammar.{Do}
use Rattle.py_tokens.specs.Token.{Place}
use Rattle.py_syntax.specs.Token.{Token}
use Rattle.py_syntax.specs.Build.{Parts, AddItem}
use Rattle.py_syntax.specs.Table.{Symbol}
use Rattle.py_nesting.specs.Asked.{targets_last, target_last}
use Rattle.py_nesting.specs.Shapes.{Entry, entries_of}
use Rattle.py_nesting.specs.Walk.{Demand, Nothing, Whole, Inside, Assigned}
use Rattle.py_demands.specs.Aims.{Aim, Simply, Targets, Target, MayTarget, Never, aims_symbol}
use Rattle.py_demands.specs.Behind.{Behind}
use Rattle.py_demands.specs.Decided.{IsNoDeeper, InModules}
use Rattle.py_demands.specs.Least.{Ask, NoNode, AtLeast, WithinAtLeast, OpenAtLeast, before_symbol}
use Rattle.py_demands.specs.Ready.{Ready}
use Rattle.py_demands.specs.Turning.{IsReached}

pub data Reading : Type 0 where
  -- no item is read of a tuple that may be assigned to
  Settled : (asks : List Ask) → Reading
  -- one is, and it is a target
  Among : (aims : List Aim) → Reading

abbrev pub has_never : List Aim → Bool
has_never [] = false
has_never (Never ∷ aims) = true
has_never (aim ∷ aims) = has_never aims

abbrev pub settled : Option (List Ask) → Option Reading
settled None = None
settled (Some asks) = Some (Settled asks)

-- nothing that can't be a target
abbrev pub among : Option (List Aim) → Option Reading
among None = None
among (Some aims) = if has_never aims then None else Some (Among aims)

abbrev pub settled_before : Symbol → List Ask → Option Reading
settled_before (Do AddItem) (OpenAtLeast n ∷ qs) = Some (Among (Target n ∷ Targets n ∷ map Simply qs))
settled_before s qs = settled (before_symbol s qs)

abbrev pub reading_before : Symbol → Option Reading → Option Reading
reading_before s None = None
reading_before s (Some (Settled qs)) = settled_before s qs
reading_before s (Some (Among aims)) = among (aims_symbol s aims)

-- the last symbol first
abbrev pub reading : List Symbol → Option Reading
reading [] = Some (Settled (AtLeast 0 ∷ []))
reading (s ∷ symbols) = reading_before s (reading symbols)

-- what is asked of a part, as targets where it may be some
abbrev pub of_ask : Ask → Entry → Demand
of_ask NoNode e = Nothing
of_ask (AtLeast n) e = Whole n
of_ask (WithinAtLeast n) e = Inside n
of_ask (OpenAtLeast n) e = if targets_last (e ∷ []) then Assigned n else Whole n

-- if it can be what it is to be
abbrev pub of_aim : Aim → Entry → Option Demand
of_aim (Simply q) e = Some (of_ask q e)
of_aim (Targets n) e = if targets_last (e ∷ []) then Some (Assigned n) else None
of_aim (Target n) e = if target_last (e ∷ []) then Some (Whole n) else None
of_aim (MayTarget n) e = Some (Whole (if target_last (e ∷ []) then n else suc n))
of_aim Never e = None

abbrev pub more_of : Option Demand → Option (List Demand) → Option (List Demand)
more_of None ds = None
more_of (Some d) None = None
more_of (Some d) (Some ds) = Some (d ∷ ds)

abbrev pub of_aims : List Aim → List Entry → Option (List Demand)
of_aims [] [] = Some []
of_aims (aim ∷ aims) (e ∷ es) = more_of (of_aim aim e) (of_aims aims es)
of_aims aims es = None

abbrev pub of_reading : Option Reading → List Entry → Option (List Demand)
of_reading None es = None
of_reading (Some (Settled qs)) es = of_aims (map Simply qs) es
of_reading (Some (Among aims)) es = of_aims aims es

-- the reading with targets, if a module may assign to what is read
abbrev pub targets_reading : List Symbol → List Entry → Option (List Demand)
targets_reading symbols es = of_reading (reading symbols) es

abbrev pub acts_first : List Symbol → Bool
acts_first (Do a ∷ symbols) = true
acts_first symbols = false

-- In each module that begins with the front, a node stands no less deep than in one of the two readings.
abbrev pub ReadingLaw : Type 0
ReadingLaw =
    (front : List Token) (symbols : List Symbol) (v : Parts) (b : Behind front [] symbols v) → Ready symbols [] → acts_first symbols ≡ false
    → InModules front symbols (λ at body. IsNoDeeper at v b.demands body ⊎ ((ws : List Demand) × (targets_reading symbols (entries_of v) ≡ Some ws) × IsNoDeeper at v ws body))

-- And for the one with targets there is a module.
abbrev pub ReachedReadLaw : Type 0
ReachedReadLaw =
    (front : List Token) (symbols : List Symbol) (v : Parts) (ws : List Demand) → Behind front [] symbols v → Ready symbols [] → acts_first symbols ≡ false → targets_reading symbols (entries_of v) ≡ Some ws
    → (p : Place) → IsReached front v ws p
