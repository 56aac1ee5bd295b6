-- What is asked at least and what is asked when the symbols are closed go together, but where items are read of a tuple that may be assigned to.
use Rattle.std.specs.Prelude.{◌≡◌, suc, Bool, true, false, not, ◌&&◌, List, [], ◌∷◌, ◌++◌, Option, Some, None}
use Rattle.grammars.specs.Grammar.{Tok, Non, Do}
use Rattle.py_syntax.specs.Token.{Token}
use Rattle.py_syntax.specs.Build.{Part, Parts, Action, MakeTuple, AddItem, MakeTargets, AddTargets}
use Rattle.py_syntax.specs.Table.{Symbol}
use Rattle.py_nesting.specs.Asked.{target_last}
use Rattle.py_nesting.specs.Shapes.{part_outline, entry_of}
use Rattle.py_nesting.specs.Walk.{Demand, Nothing, Whole, Inside}
use Rattle.py_demands.specs.Agreed.{IsSteady, IsReadWhole, Agree}
use Rattle.py_demands.specs.Aimed.{ItemAsks}
use Rattle.py_demands.specs.Behind.{Behind}
use Rattle.py_demands.specs.Closing.{exactly}
use Rattle.py_demands.specs.Least.{Ask, NoNode, AtLeast, WithinAtLeast, OpenAtLeast, least}

abbrev pub ArePaired : Ask → Demand → Type 0
ArePaired NoNode Nothing = Unit {0}
ArePaired (AtLeast m) (Whole n) = m ≡ n
ArePaired (WithinAtLeast m) (Inside n) = m ≡ n
ArePaired (OpenAtLeast m) (Whole n) = m ≡ n
ArePaired q d = ⊥

abbrev pub AllPaired : List Ask → List Demand → Type 0
AllPaired [] [] = Unit {0}
AllPaired (q ∷ qs) (d ∷ ds) = ArePaired q d × AllPaired qs ds
AllPaired qs ds = ⊥

abbrev pub is_open : Ask → Bool
is_open (OpenAtLeast n) = true
is_open q = false

-- whether an action leaves no tuple that may be assigned to, and no targets
abbrev pub settles : Action → Ask → Bool
settles MakeTuple q = not (is_open q)
settles AddItem q = not (is_open q)
settles MakeTargets q = false
settles AddTargets q = false
settles a q = true

abbrev pub settles_first : Action → Option (List Ask) → Bool
settles_first a None = false
settles_first a (Some []) = true
settles_first a (Some (q ∷ qs)) = settles a q

abbrev pub are_settled : List Symbol → Option (List Ask) → Bool
are_settled [] qs = true
are_settled (Tok k ∷ symbols) qs = are_settled symbols qs
are_settled (Non x ∷ symbols) qs = are_settled symbols qs
are_settled (Do a ∷ symbols) qs = settles_first a (least symbols qs) && are_settled symbols qs

abbrev pub PairedLaw : Type 0
PairedLaw =
    (symbols : List Symbol) (qs asks : List Ask) (ds demands : List Demand) → AllPaired qs ds → are_settled symbols (Some qs) ≡ true
    → least symbols (Some qs) ≡ Some asks → exactly symbols (Some ds) ≡ Some demands → AllPaired asks demands

-- as targets, what may be one of several has the same nodes
abbrev pub SteadyLaw : Type 0
SteadyLaw = (part : Part) → target_last (entry_of part ∷ []) ≡ true → IsSteady (part_outline part)

-- what is asked as a whole or as targets is read as a whole
abbrev pub IsWholeIfOpen : Part → Ask → Type 0
IsWholeIfOpen part (OpenAtLeast n) = IsReadWhole part
IsWholeIfOpen part q = Unit {0}

abbrev pub AreWholeIfOpen : Parts → List Ask → Type 0
AreWholeIfOpen [] [] = Unit {0}
AreWholeIfOpen (part ∷ v) (q ∷ qs) = IsWholeIfOpen part q × AreWholeIfOpen v qs
AreWholeIfOpen v qs = ⊥

abbrev pub WholePairsAgree : Type 0
WholePairsAgree = (v : Parts) (asks : List Ask) (ds : List Demand) → AllPaired asks ds → AreWholeIfOpen v asks → Agree v asks ds

-- Behind a front what is asked goes together, and so it does where an item is read of a tuple, if that is read as a whole.
abbrev pub BehindPaired : Type 0
BehindPaired =
    (front : List Token) (symbols : List Symbol) (v : Parts) (b : Behind front [] symbols v) → are_settled symbols (Some (AtLeast 0 ∷ [])) ≡ true → AllPaired b.asks b.demands

abbrev pub ItemPaired : Type 0
ItemPaired =
    (front : List Token) (item rest : List Symbol) (v : Parts) (b : Behind front [] (item ++ Do AddItem ∷ rest) v) (i : ItemAsks item rest) → are_settled rest (Some (AtLeast 0 ∷ [])) ≡ true
    → are_settled item (Some (AtLeast (suc i.above) ∷ AtLeast i.above ∷ i.below)) ≡ true → AllPaired i.asks b.demands

abbrev pub AgreementLaw : Type 0
AgreementLaw = WholePairsAgree × BehindPaired × ItemPaired
