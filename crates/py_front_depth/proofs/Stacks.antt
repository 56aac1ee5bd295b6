-- The stacks have their top at the end.
use Rattle.std.proofs.Common.{◌≡◌, ℕ, zero, suc, ◌-◌, ◌+◌, ◌<◌, ◌≤◌, Bool, true, false, ◌||◌, List, [], ◌∷◌, ◌++◌, map, length, take, drop, get_or, Some, refl, sym, ap, ◌∙◌, arith, drop-cons}
use Rattle.std.proofs.Math.Seq.{take-suc}
use Rattle.std.proofs.lemmas.List.{reverse-append}
use Rattle.py_syntax.specs.Table as meaning
use Rattle.py_nesting.specs.Walk as walking
use Rattle.py_demands.specs.Roles as asking
use Rattle.py_demands.specs.Aims as aims
use Rattle.py_demands.specs.Readings.{has_never}
use Rattle.py_front_depth.specs.Reading.{is_never_so}
use Rattle.py_demands.specs.Closing.{exactly, exactly_before, exactly_symbol}
use Rattle.py_depth.specs.PlainDemands.{demands_of}
use Rattle.py_depth.specs.declared.walk.Demand.{Demand}
use Rattle.py_depth.specs.declared.walk.Demand.TheVariants as demand
use Rattle.py_depth.proofs.Demands.{demands_of-push, demands_of-nothing}
use Rattle.py_table.proofs.SymbolStacks.{stack_of-push, stack_of-nothing}
use Rattle.py_table.specs.PlainSymbols.{plain_symbol}
use Rattle.py_table.specs.Steps.{stack_of}
use Rattle.py_table.specs.declared.symbol.Symbol.{Symbol}
use Rattle.py_front_depth.specs.PlainAsks.{plain_ask, plain_aim, asks_of, aims_of}
use Rattle.py_front_depth.specs.PlainRoles.{plain_role, plain_roles}
use Rattle.py_front_depth.specs.declared.aim.Aim.{Aim}
use Rattle.py_front_depth.specs.declared.ask.Ask.{Ask}
use Rattle.py_front_depth.specs.declared.role.Role.{Role}

pub asks_of-push : (xs : List Ask) (x : Ask) → asks_of (xs ++ x ∷ []) ≡ plain_ask x ∷ asks_of xs
unfolding asks_of
asks_of-push xs x = ap (map plain_ask) (reverse-append xs (x ∷ []))

pub asks_of-nothing : asks_of [] ≡ []
unfolding asks_of
asks_of-nothing = refl

pub aims_of-push : (xs : List Aim) (x : Aim) → aims_of (xs ++ x ∷ []) ≡ plain_aim x ∷ aims_of xs
unfolding aims_of
aims_of-push xs x = ap (map plain_aim) (reverse-append xs (x ∷ []))

pub aims_of-nothing : aims_of [] ≡ []
unfolding aims_of
aims_of-nothing = refl

pub ruleset stacks = (demands_of-push, demands_of-nothing, stack_of-push, stack_of-nothing, asks_of-push, asks_of-nothing, aims_of-push, aims_of-nothing)

-- one more of what is put on top from its end
pub one_before : {A B C : Type 0} (go : B → C) (plain : A → B) (these : List A) (i : ℕ) (d : A) (now : List C) (next : C) (below : List C) → 0 < i → i ≤ length these
    → now ≡ map go (map plain (drop i these)) ++ below → next ≡ go (plain (get_or these (i - 1) d)) → next ∷ now ≡ map go (map plain (drop (i - 1) these)) ++ below
one_before go plain these zero d now next below p q h e = absurd (omega arith)
one_before go plain these (suc i) d now next below p q h e =
    let less : i < length these = omega arith in
    let one : suc i - 1 ≡ i = omega arith in
    rw (one, drop-cons these i d) (ap (λ x. x ∷ now) (e ∙ ap (λ (n : ℕ). go (plain (get_or these n d))) one) ∙ ap (λ l. go (plain (get_or these i d)) ∷ l) h)

-- one role more
pub asked_before : (roles : List Role) (i : ℕ) (d : Role) (asked : walking.Demand) (now : List walking.Demand) (next : walking.Demand) (below : List walking.Demand) → 0 < i → i ≤ length roles
    → now ≡ map (asking.asked_by asked) (plain_roles (drop i roles)) ++ below → next ≡ asking.asked_by asked (plain_role (get_or roles (i - 1) d))
    → next ∷ now ≡ map (asking.asked_by asked) (plain_roles (drop (i - 1) roles)) ++ below
asked_before roles i d asked now next below p q h e = one_before (asking.asked_by asked) plain_role roles i d now next below p q h e

-- one symbol more
pub one_more_back : (symbols : List Symbol) (i : ℕ) (d : Symbol) (start old new : List walking.Demand) → i < length symbols
    → exactly (stack_of (take i symbols)) (Some start) ≡ Some old → exactly_symbol (plain_symbol (get_or symbols i d)) old ≡ Some new
    → exactly (stack_of (take (i + 1) symbols)) (Some start) ≡ Some new
unfolding stack_of
one_more_back symbols i d start old new p h e =
    let next : i + 1 ≡ suc i = omega arith in
    let split : take (suc i) symbols ≡ take i symbols ++ get_or symbols i d ∷ [] = take-suc symbols i d p in
    rw (next, split) (ap (λ (l : List meaning.Symbol). exactly l (Some start)) (ap (map plain_symbol) (reverse-append (take i symbols) (get_or symbols i d ∷ []))) ∙ ap (exactly_before (plain_symbol (get_or symbols i d))) h ∙ e)

-- before the first symbol
pub begun : (none one : List Demand) → none ≡ [] → one ≡ none ++ demand.Whole 0 ∷ [] → exactly (stack_of []) (Some (walking.Whole 0 ∷ [])) ≡ Some (demands_of one)
unfolding stack_of demands_of
begun none one e f = ap (λ (l : List Demand). Some (demands_of l)) (sym (f ∙ ap (λ (l : List Demand). l ++ demand.Whole 0 ∷ []) e))

pub stack_of-none : (xs : List Symbol) → length xs ≡ 0 → stack_of xs ≡ []
stack_of-none [] h = stack_of-nothing
stack_of-none (x ∷ xs) h = absurd (omega arith)

pub never_first : (a : aims.Aim) (these : List aims.Aim) → has_never (a ∷ these) ≡ (is_never_so a || has_never these)
never_first aims.Never these = refl
never_first (aims.Simply q) these = refl
never_first (aims.Targets n) these = refl
never_first (aims.Target n) these = refl
never_first (aims.MayTarget n) these = refl

-- with one more on top
pub one_may_be_never : (before now all : Bool) (a : aims.Aim) (below above : List aims.Aim) → all ≡ (before || now) → before ≡ has_never below → now ≡ is_never_so a → above ≡ a ∷ below → all ≡ has_never above
one_may_be_never before now all a below above o e f g =
    o ∙ either_way before now ∙ ap (λ (b : Bool). b || before) f ∙ ap (λ (b : Bool). is_never_so a || b) e ∙ sym (never_first a below) ∙ ap has_never (sym g)
  where
    either_way : (b c : Bool) → (b || c) ≡ (c || b)
    either_way true true = refl
    either_way true false = refl
    either_way false true = refl
    either_way false false = refl
