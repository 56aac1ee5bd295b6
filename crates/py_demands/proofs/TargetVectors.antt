-- What is asked behind small fronts that may be assigned to, worked out by hand: among targets, and how deep nodes stand there.
use Rattle.std.proofs.Common.{◌≡◌, ℕ, Bool, true, false, List, [], ◌∷◌, ◌++◌, map, Option, Some, None, inl, inr, refl}
use Rattle.grammars.specs.Grammar.{Non, Do}
use Rattle.py_syntax.specs.Token.{Token}
use Rattle.py_syntax.specs.Build.{Parts, AddItem, MakeAttribute}
use Rattle.py_syntax.specs.Table.{Symbol, Nonterminal, the_dot, AnyName, PrimaryTail, AttributeTail, Expression, Subscription, SubscriptionTail, SmallTail, AssignTail}
use Rattle.py_nesting.specs.Asked.{targets_last}
use Rattle.py_nesting.specs.Shapes.{Entry, entries_of}
use Rattle.py_nesting.specs.Walk.{Demand, Whole, Assigned}
use Rattle.py_demands.specs.Least.{Ask, AtLeast, OpenAtLeast, least}
use Rattle.py_demands.specs.Aims.{Aim, Simply, Targets, Target, MayTarget, Never, aimed}
use Rattle.py_demands.specs.Closing.{exactly}
use Rattle.py_demands.specs.Turning.{turning, ends}
use Rattle.py_demands.specs.Decided.{AgreeAims, AreOut}
use Rattle.py_demands.proofs.DemandVectors.{spot, name, round, close, square, comma, plus, Stop, nowhere, stop, depths, behind}

-- symbols on both sides of one of them
data Sides : Type 0 where
  none : Sides
  sides : (first : List Symbol) → (last : List Symbol) → Sides

abbrev with_first : Symbol → Sides → Sides
with_first s none = none
with_first s (sides first last) = sides (s ∷ first) last

abbrev at_item : List Symbol → Sides
at_item [] = none
at_item (Do AddItem ∷ symbols) = sides [] symbols
at_item (s ∷ symbols) = with_first s (at_item symbols)

abbrev aims_behind : List Symbol → Option (List Ask) → Option (List Aim)
aims_behind item (Some (OpenAtLeast n ∷ qs)) = aimed item (Some (Target n ∷ Targets n ∷ map Simply qs))
aims_behind item o = None

abbrev aims_of : Sides → Option (List Aim)
aims_of none = None
aims_of (sides item rest) = aims_behind item (least rest (Some (AtLeast 0 ∷ [])))

abbrev aims_at : Stop → Option (List Aim)
aims_at nowhere = None
aims_at (stop symbols v) = aims_of (at_item symbols)

abbrev parts_at : Stop → Parts
parts_at nowhere = []
parts_at (stop symbols v) = v

-- the last place at which the item may go on as an attribute
abbrev has_way : List Symbol → Bool
has_way [] = false
has_way (Do AddItem ∷ symbols) = false
has_way (Non PrimaryTail ∷ symbols) = true
has_way (Non AttributeTail ∷ symbols) = true
has_way (s ∷ symbols) = has_way symbols

abbrev at_last : Bool → Symbol → List Symbol → List Symbol → List Symbol
at_last false (Non PrimaryTail) symbols again = the_dot ∷ Non AnyName ∷ Do MakeAttribute ∷ Non AttributeTail ∷ symbols
at_last false (Non AttributeTail) symbols again = the_dot ∷ Non AnyName ∷ Do MakeAttribute ∷ Non AttributeTail ∷ symbols
at_last b s symbols again = s ∷ again

abbrev as_attribute : List Symbol → List Symbol
as_attribute [] = []
as_attribute (s ∷ symbols) = at_last (has_way symbols) s symbols (as_attribute symbols)

-- a subscript that has begun
abbrev as_subscript : List Symbol → List Symbol
as_subscript (Non Subscription ∷ symbols) = Non Expression ∷ Non SubscriptionTail ∷ symbols
as_subscript symbols = symbols

abbrev as_it_is : List Symbol → List Symbol
as_it_is symbols = symbols

-- where the expression is assigned to
abbrev turned : (List Symbol → List Symbol) → List Symbol → List Symbol → Nonterminal → Option (List Demand)
turned change above rest x = exactly (change above) (exactly (turning x ++ rest) (Some (Whole 0 ∷ [])))

abbrev turned_from : (List Symbol → List Symbol) → List Symbol → List Symbol → Option (List Demand)
turned_from change above [] = None
turned_from change above (Non SmallTail ∷ rest) = turned change above rest SmallTail
turned_from change above (Non AssignTail ∷ rest) = turned change above rest AssignTail
turned_from change above (s ∷ symbols) = turned_from change (above ++ s ∷ []) symbols

abbrev turned_at : (List Symbol → List Symbol) → Stop → Option (List Demand)
turned_at change nowhere = None
turned_at change (stop symbols v) = turned_from change [] symbols

abbrev turned_depths : (List Symbol → List Symbol) → Stop → List ℕ → List ℕ
turned_depths change nowhere columns = []
turned_depths change (stop symbols v) columns = depths v (turned_from change [] symbols) columns

abbrev last_of : Option (List Entry) → Bool
last_of None = false
last_of (Some es) = targets_last es

abbrev ends_from : (List Symbol → List Symbol) → List Symbol → List Symbol → List Entry → Bool
ends_from change above [] es = false
ends_from change above (Non SmallTail ∷ rest) es = last_of (ends 40 (spot 0) (change above) es)
ends_from change above (Non AssignTail ∷ rest) es = last_of (ends 40 (spot 0) (change above) es)
ends_from change above (s ∷ symbols) es = ends_from change (above ++ s ∷ []) symbols es

-- whether what the symbols leave before the equals sign may be targets
abbrev may_turn : (List Symbol → List Symbol) → Stop → Bool
may_turn change nowhere = false
may_turn change (stop symbols v) = ends_from change [] symbols (entries_of v)

-- a, b: as targets the items have one less above them, and the comma is no node
abbrev pair : List Token
pair = name 1 ∷ comma 2 ∷ name 4 ∷ []

pair_aimed : aims_at (behind pair) ≡ Some (MayTarget 1 ∷ Targets 1 ∷ Simply (AtLeast 0) ∷ [])
pair_aimed = refl

pair_turns : may_turn as_it_is (behind pair) ≡ true
pair_turns = refl

pair_turned : turned_at as_it_is (behind pair) ≡ Some (Whole 1 ∷ Assigned 1 ∷ Whole 0 ∷ [])
pair_turned = refl

pair_deep : turned_depths as_it_is (behind pair) (1 ∷ 2 ∷ 4 ∷ []) ≡ 2 ∷ 0 ∷ 2 ∷ []
pair_deep = refl

pair_agree : AgreeAims (parts_at (behind pair)) (MayTarget 1 ∷ Targets 1 ∷ Simply (AtLeast 0) ∷ []) (Whole 1 ∷ Assigned 1 ∷ Whole 0 ∷ [])
pair_agree = (inl (refl, refl), (refl, (refl, tt)))

-- (a, f(x): the call is no target, and f(x).y is one
abbrev with_call : List Token
with_call = round 1 ∷ name 2 ∷ comma 3 ∷ name 5 ∷ round 6 ∷ name 7 ∷ close 8 ∷ []

with_call_aimed : aims_at (behind with_call) ≡ Some (MayTarget 2 ∷ Targets 2 ∷ Simply (AtLeast 1) ∷ Simply (AtLeast 0) ∷ [])
with_call_aimed = refl

with_call_turns : may_turn as_attribute (behind with_call) ≡ true
with_call_turns = refl

with_call_turned : turned_at as_attribute (behind with_call) ≡ Some (Whole 3 ∷ Assigned 2 ∷ Whole 1 ∷ Whole 0 ∷ [])
with_call_turned = refl

with_call_deep : turned_depths as_attribute (behind with_call) (1 ∷ 2 ∷ 3 ∷ 5 ∷ 6 ∷ 7 ∷ []) ≡ 2 ∷ 3 ∷ 0 ∷ 5 ∷ 4 ∷ 5 ∷ []
with_call_deep = refl

with_call_agree : AgreeAims (parts_at (behind with_call)) (MayTarget 2 ∷ Targets 2 ∷ Simply (AtLeast 1) ∷ Simply (AtLeast 0) ∷ []) (Whole 3 ∷ Assigned 2 ∷ Whole 1 ∷ Whole 0 ∷ [])
with_call_agree = (inr (refl, refl), (refl, (refl, (refl, tt))))

-- (a, f(x: the same with the call not closed
abbrev within_call : List Token
within_call = round 1 ∷ name 2 ∷ comma 3 ∷ name 5 ∷ round 6 ∷ name 7 ∷ []

within_call_aimed : aims_at (behind within_call) ≡ Some (Simply (AtLeast 4) ∷ Simply (AtLeast 3) ∷ Targets 2 ∷ Simply (AtLeast 1) ∷ Simply (AtLeast 0) ∷ [])
within_call_aimed = refl

within_call_turns : may_turn as_attribute (behind within_call) ≡ true
within_call_turns = refl

within_call_turned : turned_at as_attribute (behind within_call) ≡ Some (Whole 4 ∷ Whole 3 ∷ Assigned 2 ∷ Whole 1 ∷ Whole 0 ∷ [])
within_call_turned = refl

within_call_deep : turned_depths as_attribute (behind within_call) (1 ∷ 2 ∷ 3 ∷ 5 ∷ 6 ∷ 7 ∷ []) ≡ 2 ∷ 3 ∷ 0 ∷ 5 ∷ 4 ∷ 5 ∷ []
within_call_deep = refl

within_call_agree : AgreeAims (parts_at (behind within_call)) (Simply (AtLeast 4) ∷ Simply (AtLeast 3) ∷ Targets 2 ∷ Simply (AtLeast 1) ∷ Simply (AtLeast 0) ∷ []) (Whole 4 ∷ Whole 3 ∷ Assigned 2 ∷ Whole 1 ∷ Whole 0 ∷ [])
within_call_agree = (refl, (refl, (refl, (refl, (refl, tt)))))

-- (a, b[: the subscript may be a target itself
abbrev with_subscript : List Token
with_subscript = round 1 ∷ name 2 ∷ comma 3 ∷ name 5 ∷ square 6 ∷ []

with_subscript_aimed : aims_at (behind with_subscript) ≡ Some (Simply (AtLeast 2) ∷ Simply (AtLeast 3) ∷ Targets 2 ∷ Simply (AtLeast 1) ∷ Simply (AtLeast 0) ∷ [])
with_subscript_aimed = refl

with_subscript_turns : may_turn as_subscript (behind with_subscript) ≡ true
with_subscript_turns = refl

with_subscript_turned : turned_at as_subscript (behind with_subscript) ≡ Some (Whole 2 ∷ Whole 3 ∷ Assigned 2 ∷ Whole 1 ∷ Whole 0 ∷ [])
with_subscript_turned = refl

with_subscript_deep : turned_depths as_subscript (behind with_subscript) (1 ∷ 2 ∷ 3 ∷ 5 ∷ 6 ∷ []) ≡ 2 ∷ 3 ∷ 0 ∷ 4 ∷ 3 ∷ []
with_subscript_deep = refl

with_subscript_agree : AgreeAims (parts_at (behind with_subscript)) (Simply (AtLeast 2) ∷ Simply (AtLeast 3) ∷ Targets 2 ∷ Simply (AtLeast 1) ∷ Simply (AtLeast 0) ∷ []) (Whole 2 ∷ Whole 3 ∷ Assigned 2 ∷ Whole 1 ∷ Whole 0 ∷ [])
with_subscript_agree = (refl, (refl, (refl, (refl, (refl, tt)))))

-- (a, b +: a sum is no target, so that this is read as a whole
abbrev with_sum : List Token
with_sum = round 1 ∷ name 2 ∷ comma 3 ∷ name 5 ∷ plus 7 ∷ []

with_sum_aimed : aims_at (behind with_sum) ≡ Some (Never ∷ Never ∷ Targets 2 ∷ Simply (AtLeast 1) ∷ Simply (AtLeast 0) ∷ [])
with_sum_aimed = refl

with_sum_out : AreOut (parts_at (behind with_sum)) (Never ∷ Never ∷ Targets 2 ∷ Simply (AtLeast 1) ∷ Simply (AtLeast 0) ∷ [])
with_sum_out = inl tt

-- (f(), b: the first item is no target, so that this is as well
abbrev behind_call : List Token
behind_call = round 1 ∷ name 2 ∷ round 3 ∷ close 4 ∷ comma 5 ∷ name 7 ∷ []

behind_call_aimed : aims_at (behind behind_call) ≡ Some (MayTarget 2 ∷ Targets 2 ∷ Simply (AtLeast 1) ∷ Simply (AtLeast 0) ∷ [])
behind_call_aimed = refl

behind_call_out : AreOut (parts_at (behind behind_call)) (MayTarget 2 ∷ Targets 2 ∷ Simply (AtLeast 1) ∷ Simply (AtLeast 0) ∷ [])
behind_call_out = inr (inl refl)

-- (a, b): closed, it may be targets as it stands
abbrev closed_pair : List Token
closed_pair = round 1 ∷ name 2 ∷ comma 3 ∷ name 5 ∷ close 6 ∷ []

closed_pair_turns : may_turn as_it_is (behind closed_pair) ≡ true
closed_pair_turns = refl

closed_pair_turned : turned_at as_it_is (behind closed_pair) ≡ Some (Assigned 1 ∷ Whole 0 ∷ [])
closed_pair_turned = refl

closed_pair_deep : turned_depths as_it_is (behind closed_pair) (1 ∷ 2 ∷ 3 ∷ 5 ∷ []) ≡ 2 ∷ 3 ∷ 0 ∷ 3 ∷ []
closed_pair_deep = refl
