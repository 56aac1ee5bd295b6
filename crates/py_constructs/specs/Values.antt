-- What is kept of a text while the profile's grammar with a construct added is read: what the parts may be as far as rows ask for it,
-- and the construct's head, once it is told.
use Rattle.std.specs.Prelude.{ℕ, zero, suc, nat_lt, Bool, true, false, ◌&&◌, ◌==◌, if◌then◌else◌, List, [], ◌∷◌, Option, Some, None}
use Rattle.py_tokens.specs.Token.{Place}
use Rattle.py_syntax.specs.Token.{Token as SourceToken, At}
use Rattle.py_syntax.specs.Kinds.{kind_of}
use Rattle.py_syntax.specs.Build as build

pub data TokenSort : Type 0 where
  NameToken : TokenSort
  -- a round or a square bracket that opens
  OpenToken : TokenSort
  -- the `for` of a loop
  LoopToken : TokenSort
  OtherToken : TokenSort

-- a token, by how many came before it
pub record Numbered : Type 0 where
  pub number : ℕ
  pub place : Place

-- what stands at the left of an assignment
pub data Targets : Type 0 where
  -- it does not
  NoTargets : Targets
  -- with none added: names, attributes and subscripts, in brackets or not
  OwnTargets : Targets
  -- slices among them, and the bracket of the first
  SlicedTargets : (head : Numbered) → Targets
  -- brackets with targets as one of several, and the first of them
  NestedTargets : (head : Numbered) → Targets

-- what an expression may be
pub record Reading : Type 0 where
  -- it is a name
  pub name : Bool
  -- what it is as one of several targets
  pub item : Targets
  -- what it is as all of them
  pub whole : Targets
  -- an annotation may come behind it
  pub annotable : Bool
  -- all in it are names, in brackets or not
  pub names : Bool
  -- it is a call that has no arguments yet
  pub fresh : Bool

pub data Item : Type 0 where
  -- a token, how many came before it, and its place
  Token : (sort : TokenSort) → (number : ℕ) → (place : Place) → Item
  Expression : (reading : Reading) → Item
  -- the name of a class, and whether it has no point
  Class : (bare : Bool) → Item
  -- the body of a block or of the module, or targets behind which an assignment goes on
  Base : Item
  Other : Item

-- the construct's head, and by how many tokens it is known to be one
pub record Told : Type 0 where
  pub head : Numbered
  pub known : ℕ

-- what a token is to what may stand at the left of an assignment
pub data Mark : Type 0 where
  -- a name or a literal
  Word : Mark
  Dot : Mark
  -- a round or a square bracket that opens
  Bracket : Mark
  Brace : Mark
  Closing : Mark
  Comma : Mark
  -- what stands between lines, statements and the sides of an assignment
  Break : Mark
  Sign : Mark

-- what stands in a bracket, or in none, if it is all at the left of an assignment
pub record Level : Type 0 where
  -- it may be targets
  pub may : Bool
  -- the first bracket that is one of several
  pub head : Option Numbered

-- the level here and those of the brackets round it, the last first
pub record Left : Type 0 where
  pub here : Level
  -- a target has begun
  pub begun : Bool
  pub outer : List Level

pub record Value : Type 0 where
  -- how many tokens were read
  pub read : ℕ
  -- the first that was told
  pub told : Option Told
  -- a head, if another token comes
  pub held : Option Numbered
  -- the first bracket that was opened behind the last `for`
  pub bracket : Option Numbered
  pub left : Left
  -- the last first
  pub items : List Item

abbrev pub at_left : Left
at_left = record { here = record { may = true; head = None }; begun = false; outer = [] }

abbrev pub begin : Value
begin = record { read = 0; told = None; held = None; bracket = None; left = at_left; items = [] }

-- the first that is told stays
abbrev pub first_told : Option Told → Told → Option Told
first_told None t = Some t
first_told (Some s) t = Some s

abbrev pub told_so : Option Told → Option Numbered → ℕ → Option Told
told_so told None n = told
told_so told (Some head) n = first_told told (record { head = head; known = n })

-- by the number of its kind
abbrev pub sort_of : ℕ → TokenSort
sort_of k =
    if k == 0 then NameToken else (if k == 1 then NameToken else (if k == 28 then LoopToken else (if k == 81 then OpenToken else (if k == 83 then OpenToken else OtherToken))))

abbrev pub place_of : SourceToken → Place
place_of (At p k) = p

-- the first bracket behind the last `for`, once such a token is read
abbrev pub bracket_with : TokenSort → Numbered → Option Numbered → Option Numbered
bracket_with LoopToken t o = None
bracket_with OpenToken t None = Some t
bracket_with s t o = o

-- by the number of its kind
abbrev pub mark_of : ℕ → Mark
mark_of k =
    if nat_lt k 4 then Word else (if nat_lt k 8 then Sign else (if nat_lt k 11 then Break else (if nat_lt k 14 then Word else (
    if k == 81 then Bracket else (if k == 83 then Bracket else (if k == 85 then Brace else (
    if k == 82 then Closing else (if k == 84 then Closing else (if k == 86 then Closing else (
    if k == 87 then Comma else (if k == 89 then Dot else (if k == 88 then Break else (if k == 90 then Break else (if k == 91 then Break else Sign))))))))))))))

abbrev pub first_of : Option Numbered → Numbered → Option Numbered
first_of None t = Some t
first_of (Some s) t = Some s

abbrev pub head_round : List Level → Option Numbered
head_round [] = None
head_round (l ∷ outer) = l.head

-- what is no target, here
abbrev pub spoilt : Left → Left
spoilt s = record { here = record { may = false; head = head_round s.outer }; begun = false; outer = s.outer }

-- in a bracket where targets may be
abbrev pub in_bracket : Level → Numbered → Level
in_bracket l t = if l.may then record { may = true; head = first_of l.head t } else l

abbrev pub in_part : Level → Level
in_part l = record { may = false; head = l.head }

-- with one target more
abbrev pub with_part : Targets → Left → Left
with_part NoTargets s = spoilt s
with_part OwnTargets s = record { here = s.here; begun = false; outer = s.outer }
with_part (SlicedTargets t) s = spoilt s
with_part (NestedTargets t) s = record { here = in_bracket s.here t; begun = false; outer = s.outer }

-- where a bracket opens
abbrev pub opened : Level → Left → Left
opened l s = record { here = l; begun = false; outer = s.here ∷ s.outer }

-- and where it closes
abbrev pub closed : Left → List Level → Left
closed s [] = record { here = s.here; begun = true; outer = [] }
closed s (l ∷ outer) = record { here = l; begun = true; outer = outer }

abbrev pub is_within : List Level → Bool
is_within [] = false
is_within (l ∷ outer) = true

abbrev pub anew : Left → Left
anew s = record { here = record { may = true; head = None }; begun = false; outer = s.outer }

-- behind a token, before which these targets stand
abbrev pub left_with : Mark → Targets → Numbered → Left → Left
left_with Word p t s = record { here = s.here; begun = true; outer = s.outer }
left_with Dot p t s = s
left_with Bracket p t s = opened (if s.begun then in_part s.here else in_bracket s.here t) s
left_with Brace p t s = opened (in_part s.here) s
left_with Closing p t s = closed s s.outer
left_with Comma p t s = with_part p s
left_with Break p t s = if is_within s.outer then spoilt s else anew s
left_with Sign p t s = spoilt s

-- one target or some, before a comma
abbrev pub part_in : Targets → Targets → Targets
part_in NoTargets whole = whole
part_in OwnTargets whole = OwnTargets
part_in (SlicedTargets t) whole = SlicedTargets t
part_in (NestedTargets t) whole = NestedTargets t

abbrev pub last_part : List Item → Targets
last_part (Expression r ∷ items) = part_in r.item r.whole
last_part items = NoTargets

abbrev pub take_in : SourceToken → Value → Value
take_in t v = record {
  read = suc v.read;
  told = told_so v.told v.held (suc v.read);
  held = None;
  bracket = bracket_with (sort_of (kind_of t)) (record { number = v.read; place = place_of t }) v.bracket;
  left = left_with (mark_of (kind_of t)) (last_part v.items) (record { number = v.read; place = place_of t }) v.left;
  items = Token (sort_of (kind_of t)) v.read (place_of t) ∷ v.items;
}

-- an expression that is no target
abbrev pub plain : Item
plain = Expression (record { name = false; item = NoTargets; whole = NoTargets; annotable = false; names = false; fresh = false })

-- a call that begins
abbrev pub a_call : Item
a_call = Expression (record { name = false; item = NoTargets; whole = NoTargets; annotable = false; names = false; fresh = true })

abbrev pub a_name : Item
a_name = Expression (record { name = true; item = OwnTargets; whole = OwnTargets; annotable = true; names = true; fresh = false })

-- an attribute or a subscript
abbrev pub a_target : Item
a_target = Expression (record { name = false; item = OwnTargets; whole = OwnTargets; annotable = true; names = false; fresh = false })

-- a slice with this bracket
abbrev pub a_slice : Numbered → Item
a_slice b = Expression (record { name = false; item = SlicedTargets b; whole = SlicedTargets b; annotable = false; names = false; fresh = false })

abbrev pub leaf : TokenSort → Item
leaf NameToken = a_name
leaf s = plain

-- targets of the profile
abbrev pub are_own : Targets → Bool
are_own OwnTargets = true
are_own t = false

-- targets in this bracket, as one of several
abbrev pub among : Numbered → Targets → Targets
among b OwnTargets = NestedTargets b
among b (NestedTargets head) = NestedTargets b
among b t = NoTargets

-- targets and one more: what stands with each alone
abbrev pub together : Targets → Targets → Targets
together OwnTargets t = t
together (SlicedTargets head) OwnTargets = SlicedTargets head
together (SlicedTargets head) (SlicedTargets other) = SlicedTargets head
together (NestedTargets head) OwnTargets = NestedTargets head
together (NestedTargets head) (NestedTargets other) = NestedTargets head
together s t = NoTargets

-- in round brackets; a target keeps that an annotation may come behind it
abbrev pub in_round : Numbered → Reading → Item
in_round b r = Expression (record { name = false; item = among b r.whole; whole = r.whole; annotable = are_own r.item; names = r.names; fresh = false })

abbrev pub in_square : Numbered → Reading → Item
in_square b r = Expression (record { name = false; item = among b r.whole; whole = r.whole; annotable = false; names = r.names; fresh = false })

-- a tuple without brackets, of one item and of one more
abbrev pub tuple_of : Reading → Item
tuple_of r = Expression (record { name = false; item = NoTargets; whole = r.item; annotable = false; names = r.names; fresh = false })

abbrev pub one_more : Reading → Reading → Item
one_more r s = Expression (record { name = false; item = NoTargets; whole = together r.whole s.item; annotable = false; names = r.names && s.names; fresh = false })

-- without the last n
abbrev pub less : ℕ → List Item → List Item
less zero items = items
less (suc n) [] = []
less (suc n) (i ∷ items) = less n items

-- what the actions of the profile's table make
abbrev pub made : build.Action → List Item → List Item
made build.Drop items = less 1 items
made build.MakeLeaf (Token s n p ∷ items) = leaf s ∷ items
made build.MakeLeaf items = plain ∷ items
made build.MakeTrue items = plain ∷ less 1 items
made build.MakeFalse items = plain ∷ less 1 items
made build.MakeNone items = plain ∷ less 1 items
made build.MakeEmptyTuple items = plain ∷ less 2 items
made build.MakeParenthesis (t ∷ Expression r ∷ Token s n p ∷ items) = in_round (record { number = n; place = p }) r ∷ items
made build.MakeParenthesis items = items
made build.MakeTuple (t ∷ Expression r ∷ items) = tuple_of r ∷ items
made build.MakeTuple items = items
made build.AddItem (Expression s ∷ Expression r ∷ items) = one_more r s ∷ items
made build.AddItem items = items
made build.MakeEmptyList items = plain ∷ less 2 items
made build.MakeListOfOne (t ∷ Expression r ∷ Token s n p ∷ items) = in_square (record { number = n; place = p }) r ∷ items
made build.MakeListOfOne items = items
made build.MakeList (t ∷ Expression r ∷ Token s n p ∷ items) = in_square (record { number = n; place = p }) r ∷ items
made build.MakeList items = items
made build.BeginComprehension items = plain ∷ less 2 items
made build.BeginLoop items = Other ∷ less 4 items
made build.AddCondition items = Other ∷ less 3 items
made build.AddLoop items = plain ∷ less 2 items
made build.MakeEmptyDict items = plain ∷ less 2 items
made build.BeginDict items = plain ∷ less 4 items
made build.AddPair items = plain ∷ less 4 items
made build.MakeSetOfOne items = plain ∷ less 3 items
made build.MakeSet items = plain ∷ less 3 items
made build.MakeAttribute items = a_target ∷ less 3 items
made build.BeginCall items = a_call ∷ less 2 items
made build.AddArgument items = plain ∷ less 2 items
made build.AddKeyword items = plain ∷ less 4 items
made build.MakeSubscript items = a_target ∷ less 4 items
made build.MakeSliceFrom (t ∷ e ∷ Token s n p ∷ f ∷ items) = a_slice (record { number = n; place = p }) ∷ items
made build.MakeSliceFrom items = items
made build.MakeSlice (t ∷ Token s n p ∷ f ∷ items) = a_slice (record { number = n; place = p }) ∷ items
made build.MakeSlice items = items
made build.AddUpper items = less 2 items
made (build.MakeUnary o) items = plain ∷ less 2 items
made (build.MakeBinary o) items = plain ∷ less 3 items
made (build.MakeSign o) items = Other ∷ less 1 items
made (build.MakeLongSign o) items = Other ∷ less 2 items
made build.MakeCompare items = plain ∷ less 3 items
made build.AddLink items = plain ∷ less 3 items
made build.MakeNot items = plain ∷ less 2 items
made build.MakeAnd items = plain ∷ less 3 items
made build.AddAnd items = plain ∷ less 3 items
made build.MakeOr items = plain ∷ less 3 items
made build.AddOr items = plain ∷ less 3 items
made build.MakeConditional items = plain ∷ less 5 items
made build.MakeLoopName items = Other ∷ less 1 items
made build.MakeLoopNames items = Other ∷ less 2 items
made build.AddLoopName items = Other ∷ less 2 items
made build.MakeLoopParenthesis items = Other ∷ less 3 items
made build.BeginBody items = Base ∷ items
made build.AddStmt items = Base ∷ less 2 items
made build.MakeExprStmt items = Other ∷ less 1 items
made build.MakeTargets items = Base ∷ less 2 items
made build.AddTargets items = Base ∷ less 3 items
made build.MakeAssign items = Other ∷ less 2 items
made (build.MakeAugmented o) items = Other ∷ less 3 items
made build.MakePass items = Other ∷ less 1 items
made build.MakeBreak items = Other ∷ less 1 items
made build.MakeContinue items = Other ∷ less 1 items
made build.MakeReturn items = Other ∷ less 1 items
made build.MakeReturnValue items = Other ∷ less 2 items
made build.MakeRaise items = Other ∷ less 2 items
made build.MakeYield items = Other ∷ less 2 items
made build.BeginGlobal items = Other ∷ less 1 items
made build.AddGlobal items = Other ∷ less 2 items
made build.MakeAssert items = Other ∷ less 2 items
made build.MakeAssertMessage items = Other ∷ less 4 items
made build.MakeDelete items = Other ∷ less 2 items
made build.MakeIf items = Other ∷ less 5 items
made build.MakeElif items = Base ∷ less 5 items
made build.MakeElse items = Base ∷ less 3 items
made build.MakeWhile items = Other ∷ less 4 items
made build.MakeFor items = Other ∷ less 6 items
made build.BeginTry items = Other ∷ less 3 items
made build.CatchAll items = Other ∷ less 4 items
made build.Catch items = Other ∷ less 5 items
made build.CatchAs items = Other ∷ less 7 items
made build.MakeClassName items = Class true ∷ less 1 items
made build.MakeClassWithin items = Class false ∷ less 3 items
made build.BeginDef items = Other ∷ less 3 items
made build.AddParameter items = Other ∷ less 2 items
made build.AddDefault items = Other ∷ less 4 items
made build.EndDef items = Other ∷ less 4 items
made build.BeginClass items = Other ∷ less 2 items
made build.AddBase items = Other ∷ less 4 items
made build.EndClass items = Other ∷ less 3 items
made build.BeginImport items = Other ∷ less 1 items
made build.BeginFrom items = Other ∷ less 3 items
made build.AddImported items = Other ∷ less 2 items
made build.AddImportedAs items = Other ∷ less 4 items

pub data Action : Type 0 where
  Own : (action : build.Action) → Action
  -- the last token is the head
  Head : Action
  -- the last token on the stack is the head, if another token comes
  Hold : Action
  -- drops the last item
  Forget : Action
  -- the last expression is no target
  Plain : Action
  -- the last token tells the head of the targets before it
  TellTargets : Action
  -- the last token tells that the first bracket of the loop is the head, or one round the loop that may be a target
  TellLoop : Action
  -- the last slice is the head, if another token comes
  HoldSlice : Action

-- the last token on the stack
abbrev pub last_token : List Item → Option Numbered
last_token [] = None
last_token (Token s n p ∷ items) = Some (record { number = n; place = p })
last_token (Expression r ∷ items) = last_token items
last_token (Class b ∷ items) = last_token items
last_token (Base ∷ items) = last_token items
last_token (Other ∷ items) = last_token items

-- what the profile does not have of these targets
abbrev pub head_in : Targets → Option Numbered
head_in NoTargets = None
head_in OwnTargets = None
head_in (SlicedTargets head) = Some head
head_in (NestedTargets head) = Some head

abbrev pub head_of_last : List Item → Option Numbered
head_of_last (Expression r ∷ items) = head_in r.whole
head_of_last items = None

abbrev pub loop_head : Option Numbered → Option Numbered → Option Numbered
loop_head None bracket = bracket
loop_head (Some head) bracket = Some head

abbrev pub with_items : Value → List Item → Value
with_items v items = record { read = v.read; told = v.told; held = v.held; bracket = v.bracket; left = v.left; items = items }

-- where a head is told
abbrev pub with_head : Value → Option Numbered → Value
with_head v head = record { read = v.read; told = told_so v.told head v.read; held = v.held; bracket = v.bracket; left = v.left; items = v.items }

abbrev pub with_held : Value → Option Numbered → Value
with_held v head = record { read = v.read; told = v.told; held = head; bracket = v.bracket; left = v.left; items = v.items }

abbrev pub act : Action → Value → Value
act (Own a) v = with_items v (made a v.items)
act Head v = with_head v (last_token v.items)
act Hold v = with_held v (last_token v.items)
act Forget v = with_items v (less 1 v.items)
act Plain v = with_items v (plain ∷ less 1 v.items)
act TellTargets v = with_head v (head_of_last (less 1 v.items))
act TellLoop v = with_head v (loop_head v.left.here.head v.bracket)
act HoldSlice v = with_held v (head_of_last v.items)

abbrev pub of_expression : (Reading → Bool) → List Item → Bool
of_expression test (Expression r ∷ items) = test r
of_expression test items = false

-- what rows ask of the last items
abbrev pub is_name : Value → Bool
is_name v = of_expression (λ r. r.name) v.items

abbrev pub are_targets : Value → Bool
are_targets v = of_expression (λ r. are_own r.whole) v.items

abbrev pub is_target : Value → Bool
is_target v = of_expression (λ r. are_own r.item) v.items

abbrev pub is_annotable : Value → Bool
is_annotable v = of_expression (λ r. r.annotable) v.items

abbrev pub is_deleted : Value → Bool
is_deleted v = of_expression (λ r. r.names) v.items

abbrev pub is_class_bare : List Item → Bool
is_class_bare (Class b ∷ items) = b
is_class_bare items = false

abbrev pub is_bare : Value → Bool
is_bare v = is_class_bare v.items

abbrev pub is_call_fresh : List Item → Bool
is_call_fresh (Expression r ∷ Expression s ∷ items) = s.fresh
is_call_fresh items = false

abbrev pub is_first_argument : Value → Bool
is_first_argument v = is_call_fresh v.items

-- brackets that are open from where a statement or the right side of an assignment begins
abbrev pub are_open : List Item → Bool
are_open [] = false
are_open (Token OpenToken n p ∷ items) = are_open items
are_open (Base ∷ items) = true
are_open items = false

abbrev pub are_open_targets : List Item → Bool
are_open_targets (Expression r ∷ items) = are_own r.whole && are_open items
are_open_targets items = are_open items

abbrev pub may_be_targets : Value → Bool
may_be_targets v = are_open_targets v.items

-- what a construct lets stand at the left of an assignment besides what the profile has there
pub data Widening : Type 0 where
  NoWidening : Widening
  Slices : Widening
  -- brackets with targets as one of several
  Brackets : Widening

abbrev pub are_wide : Widening → Targets → Bool
are_wide Slices (SlicedTargets head) = true
are_wide Brackets (NestedTargets head) = true
are_wide w t = are_own t

-- as one target alone
abbrev pub is_wide : Widening → Targets → Bool
is_wide Slices (SlicedTargets head) = true
is_wide w t = are_own t

abbrev pub is_target_with : Widening → Value → Bool
is_target_with w v = of_expression (λ r. is_wide w r.item) v.items

abbrev pub are_targets_with : Widening → Value → Bool
are_targets_with w v = of_expression (λ r. are_wide w r.whole) v.items
