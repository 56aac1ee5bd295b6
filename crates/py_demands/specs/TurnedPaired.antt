-- What is asked at least goes together with what is asked where the last expression is assigned to.
use Rattle.std.specs.Prelude.{◌≡◌, Bool, true, false, not, ◌&&◌, if◌then◌else◌, List, [], ◌∷◌, length, Some}
use Rattle.grammars.specs.Grammar.{Tok, Non, Do}
use Rattle.py_syntax.specs.Build.{Parts, Action, MakeTuple, MakeTargets, AddTargets}
use Rattle.py_syntax.specs.Table.{Symbol}
use Rattle.py_nesting.specs.Walk.{Demand, Nothing, Whole, Inside, Assigned}
use Rattle.py_demands.specs.Closing.{exactly}
use Rattle.py_demands.specs.Decided.{AgreeBoth}
use Rattle.py_demands.specs.Least.{Ask, NoNode, AtLeast, WithinAtLeast, OpenAtLeast, least}
use Rattle.py_demands.specs.Paired.{AllPaired, is_open}
use Rattle.py_demands.specs.Turning.{is_tail}

abbrev pub IsPairedTurned : Ask → Demand → Type 0
IsPairedTurned NoNode Nothing = Unit {0}
IsPairedTurned (AtLeast m) (Whole n) = m ≡ n
IsPairedTurned (WithinAtLeast m) (Inside n) = m ≡ n
IsPairedTurned (OpenAtLeast m) (Assigned n) = m ≡ n
IsPairedTurned q d = ⊥

abbrev pub AllPairedTurned : List Ask → List Demand → Type 0
AllPairedTurned [] [] = Unit {0}
AllPairedTurned (q ∷ qs) (d ∷ ds) = IsPairedTurned q d × AllPairedTurned qs ds
AllPairedTurned qs ds = ⊥

abbrev pub begins_targets : Action → Bool
begins_targets MakeTuple = true
begins_targets MakeTargets = true
begins_targets AddTargets = true
begins_targets a = false

-- symbols of an expression before what may come behind it
abbrev pub are_within : List Symbol → Bool
are_within [] = true
are_within (Tok k ∷ symbols) = are_within symbols
are_within (Non x ∷ symbols) = not (is_tail x) && are_within symbols
are_within (Do a ∷ symbols) = not (begins_targets a) && are_within symbols

abbrev pub TurnedPairedLaw : Type 0
TurnedPairedLaw =
    (above : List Symbol) (qs asks : List Ask) (ds demands : List Demand) → AllPairedTurned qs ds → are_within above ≡ true
    → least above (Some qs) ≡ Some asks → exactly above (Some ds) ≡ Some demands → AllPairedTurned asks demands

abbrev pub none_open : List Ask → Bool
none_open [] = true
none_open (q ∷ qs) = not (is_open q) && none_open qs

abbrev pub one_open : List Ask → Bool
one_open [] = false
one_open (q ∷ qs) = if is_open q then none_open qs else one_open qs

-- where one part may be read as targets, the two ways to read it are those that are asked
abbrev pub BothPairsLaw : Type 0
BothPairsLaw =
    (v : Parts) (asks : List Ask) (us ws : List Demand) → length v ≡ length asks → one_open asks ≡ true → AllPaired asks us → AllPairedTurned asks ws → AgreeBoth v asks us ws
