-- What is asked of the parts of an item where a nonterminal of it is closed.
use Rattle.std.proofs.Common.{◌≡◌, ℕ, zero, suc, Bool, true, false, not, ◌||◌, if◌then◌else◌, List, [], ◌∷◌, ◌++◌, map, length, Option, Some, None, ◌⊎◌, inl, inr, refl, sym, ap, ◌∙◌, subst}
use Rattle.grammars.specs.Grammar.{Tok, Non, Do}
use Rattle.grammars.proofs.Bools.{on_right, not_false}
use Rattle.py_tokens.specs.Token.{Place}
use Rattle.py_syntax.specs.Token.{At}
use Rattle.py_syntax.specs.Kinds.{kind_at}
use Rattle.py_syntax.specs.Build.{PToken, Action, Drop, MakeLeaf, MakeAttribute, MakeSubscript}
use Rattle.py_syntax.specs.Table.{Symbol, Nonterminal, Module, Binding, ComparisonSign, Expression, Subscription, SubscriptionTail, AnyName}
use Rattle.py_nesting.specs.Asked.{target_last}
use Rattle.py_nesting.specs.Effects.{Effect, effect, effect_of}
use Rattle.py_nesting.specs.Outlines.{Event}
use Rattle.py_nesting.specs.Shapes.{Entry, entry_of}
use Rattle.py_nesting.specs.Walk.{Demand, Whole}
use Rattle.py_demands.specs.Aims.{Aim, Simply, Targets, Target, MayTarget, Never, makes_target, Way, Keeps, Extends, Makes, Differs, way, gone, aim_least}
use Rattle.py_demands.specs.Closing.{closing, asks_exactly, exactly_symbol}
use Rattle.py_demands.specs.Least.{Ask, AtLeast, Least, As, low}
use Rattle.py_demands.specs.Paired.{is_open}
use Rattle.py_demands.specs.Readings.{has_never}
use Rattle.py_demands.specs.Ready.{is_inner}
use Rattle.py_demands.specs.Roles.{Lost, Kept, asked_by}
use Rattle.py_demands.specs.Turning.{with_effect, then_ends, ends}
use Rattle.py_demands.proofs.ClosedForms.{begins_expression, expression_left, target_left}
use Rattle.py_demands.proofs.Found.{is_expression, IsFound, AreFound, IsKeptOne, IsKept, paired_with, target_top, leasts_found, never_found, kept_behind}
use Rattle.py_demands.proofs.Made.{Leaves, made}
use Rattle.py_demands.proofs.Paired.{drops_or_both, all_alike}
use Rattle.py_demands.proofs.ReadingsLow.{is_tame}
use Rattle.std.proofs.lemmas.Option.{same_Some}

-- what leaves no target at its end
abbrev leaves_other : Action → Bool
leaves_other Drop = false
leaves_other a = not (makes_target a)

abbrev ends_otherwise : List Symbol → Bool
ends_otherwise [] = false
ends_otherwise (Tok k ∷ symbols) = ends_otherwise symbols
ends_otherwise (Non x ∷ symbols) = ends_otherwise symbols
ends_otherwise (Do a ∷ []) = leaves_other a
ends_otherwise (Do a ∷ (s ∷ symbols)) = ends_otherwise (s ∷ symbols)

makes_none : (a : Action) → leaves_other a ≡ true → makes_target a ≡ false
makes_none MakeLeaf h = absurd (cc)
makes_none MakeAttribute h = absurd (cc)
makes_none MakeSubscript h = absurd (cc)
makes_none _ h = refl

other_made : (a : Action) (es new : List Entry) (events : List Event) → leaves_other a ≡ true → effect_of a es ≡ Some (effect new events) → target_last new ≡ false
other_made a es new events h e = elim (drops_or_both a) [
  | inl is ↦ let no : leaves_other Drop ≡ true = sym (ap leaves_other is) ∙ h in absurd (cc)
  | inr (one, two, three) ↦ let m : Leaves a es new = made a es (effect new events) three e in ap target_last m.4 ∙ target_top m.0 m.2 ∙ m.6 (makes_none a h)
]

other_left : (n : ℕ) (p : Place) (symbols : List Symbol) (es new : List Entry) → ends_otherwise symbols ≡ true → ends n p symbols es ≡ Some new → target_last new ≡ false
other_left n p [] es new h e = absurd (cc)
other_left n p (Tok k ∷ symbols) es new h e = other_left n p symbols _ new h e
other_left n p (Do a ∷ []) es new h e = go (effect_of a es) refl e
  where
    go : (o : Option Effect) → effect_of a es ≡ o → with_effect (ends n p []) o ≡ Some new → target_last new ≡ false
    go None o k = absurd (cc)
    go (Some (effect fs events)) o k = ap target_last (sym (same_Some fs new k)) ∙ other_made a es fs events h o
other_left n p (Do a ∷ (s ∷ symbols)) es new h e = go (effect_of a es) e (λ fs k. other_left n p (s ∷ symbols) fs new h k)
  where
    go : (o : Option Effect) → with_effect (ends n p (s ∷ symbols)) o ≡ Some new → ((fs : List Entry) → ends n p (s ∷ symbols) fs ≡ Some new → target_last new ≡ false) → target_last new ≡ false
    go None k again = absurd (cc)
    go (Some (effect fs events)) k again = again fs k
other_left zero p (Non x ∷ symbols) es new h e = absurd (cc)
other_left (suc n) p (Non x ∷ symbols) es new h e = go (ends n p (closing x) es) e (λ fs k. other_left (suc n) p symbols fs new h k)
  where
    go : (o : Option (List Entry)) → then_ends (ends (suc n) p symbols) o ≡ Some new → ((fs : List Entry) → ends (suc n) p symbols fs ≡ Some new → target_last new ≡ false) → target_last new ≡ false
    go None k again = absurd (cc)
    go (Some fs) k again = again fs k

-- the same part stays
abbrev pub stays : Way → Bool
stays Keeps = true
stays Extends = true
stays w = false

abbrev stays_closed : List Symbol → Bool
stays_closed [] = true
stays_closed (Tok k ∷ (Do Drop ∷ [])) = true
stays_closed symbols = false

closed_stays : (n : ℕ) (p : Place) (symbols : List Symbol) (es new : List Entry) → stays_closed symbols ≡ true → ends n p symbols es ≡ Some new → es ≡ new
closed_stays n p [] es new h e = same_Some es new e
closed_stays n p (Tok k ∷ (Do Drop ∷ [])) es new h e = same_Some es new e
closed_stays n p symbols es new h e = absurd (cc)

all_stay : (x : Nonterminal) → (not (stays (way x)) || stays_closed (closing x)) ≡ true
all_stay Module = refl
all_stay _ = refl

pub stays_low : (x : Nonterminal) → stays (way x) ≡ true → low x ≡ As Kept ∷ []
stays_low Module h = (cc)
stays_low _ h = (cc)

pub stays_exactly : (x : Nonterminal) → stays (way x) ≡ true → asks_exactly x ≡ Kept ∷ []
stays_exactly Module h = (cc)
stays_exactly _ h = (cc)

if_so : (b c : Bool) → b ≡ true → (not b || c) ≡ true → c ≡ true
if_so true c h k = k
if_so false c h k = absurd (cc)

stays_left : (n : ℕ) (p : Place) (x : Nonterminal) (es new : List Entry) → stays (way x) ≡ true → ends n p (closing x) es ≡ Some new → es ≡ new
stays_left n p x es new h e = closed_stays n p (closing x) es new (if_so (stays (way x)) (stays_closed (closing x)) h (all_stay x)) e

-- something else comes out
abbrev is_other : Way → Bool
is_other Differs = true
is_other w = false

all_differ : (x : Nonterminal) → (not (is_other (way x)) || ends_otherwise (closing x)) ≡ true
all_differ Module = refl
all_differ _ = refl

differs_left : (n : ℕ) (p : Place) (x : Nonterminal) (es new : List Entry) → way x ≡ Differs → ends n p (closing x) es ≡ Some new → target_last new ≡ false
differs_left n p x es new h e = other_left n p (closing x) es new (if_so (is_other (way x)) (ends_otherwise (closing x)) (ap is_other h) (all_differ x)) e

abbrev begins_asked : List Least → Bool
begins_asked [] = false
begins_asked (As Lost ∷ ls) = false
begins_asked (l ∷ ls) = true

all_asked : (x : Nonterminal) → (not (is_other (way x)) || begins_asked (low x)) ≡ true
all_asked Module = refl
all_asked _ = refl

-- what can't be a target is found nowhere
differs_never : (below : List Entry) (ls : List Least) (taken rest : List Entry) (aims : List Aim) (ds : List Demand) → begins_asked ls ≡ true → length taken ≡ length ls → AreFound below (map (aim_least Never) ls ++ aims) (taken ++ rest) ds → ⊥
differs_never below [] taken rest aims ds h m k = absurd (cc)
differs_never below (As Lost ∷ ls) taken rest aims ds h m k = absurd (cc)
differs_never below (l ∷ ls) taken rest aims ds h m k = never_found below (aim_least Never) l ls taken rest aims ds m (λ e d i. i) k

-- a target is made, or what is no expression
abbrev may_top : List Entry → Bool
may_top [] = false
may_top (e ∷ es) = not (is_expression e) || target_last (e ∷ [])

top_target : (es : List Entry) → target_last es ≡ true → may_top es ≡ true
top_target [] h = absurd (cc)
top_target (e ∷ es) h = on_right (not (is_expression e)) (target_last (e ∷ [])) (sym (target_top e es) ∙ h)

abbrev is_making : Way → Bool
is_making Makes = true
is_making w = false

subscript_made : (n : ℕ) (p : Place) (es new : List Entry) → with_effect (ends n p []) (effect_of MakeSubscript es) ≡ Some new → target_last new ≡ true
subscript_made n p es new e = go (effect_of MakeSubscript es) refl e
  where
    go : (o : Option Effect) → effect_of MakeSubscript es ≡ o → with_effect (ends n p []) o ≡ Some new → target_last new ≡ true
    go None o k = absurd (cc)
    go (Some (effect fs events)) o k = ap target_last (sym (same_Some fs new k)) ∙ target_left MakeSubscript es fs events refl refl o

subscript_left : (n : ℕ) (p : Place) (es new : List Entry) → ends n p (closing SubscriptionTail) es ≡ Some new → target_last new ≡ true
subscript_left n p es new e = subscript_made n p (entry_of (PToken (At p (kind_at 84))) ∷ es) new e

tail_left : (n : ℕ) (p : Place) (es new : List Entry) → ends (suc n) p (Non SubscriptionTail ∷ []) es ≡ Some new → target_last new ≡ true
tail_left n p es new e = go (ends n p (closing SubscriptionTail) es) refl e
  where
    go : (o : Option (List Entry)) → ends n p (closing SubscriptionTail) es ≡ o → then_ends (ends (suc n) p []) o ≡ Some new → target_last new ≡ true
    go None o k = absurd (cc)
    go (Some fs) o k = ap target_last (sym (same_Some fs new k)) ∙ subscript_left n p es fs o

rest_left : (n : ℕ) (p : Place) (x : Nonterminal) (es new : List Entry) → is_inner x ≡ true → is_making (way x) ≡ true → begins_expression x ≡ false → ends n p (closing x) es ≡ Some new → may_top new ≡ true
rest_left zero p Binding es new i m b e = absurd (cc)
rest_left (suc n) p Binding es new i m b e = ap may_top (sym (same_Some _ new e))
rest_left n p ComparisonSign es new i m b e = ap may_top (sym (same_Some _ new e))
rest_left n p AnyName es new i m b e = ap may_top (sym (same_Some _ new e))
rest_left n p SubscriptionTail es new i m b e = top_target new (subscript_left n p es new e)
rest_left zero p Subscription es new i m b e = absurd (cc)
rest_left (suc n) p Subscription es new i m b e = go (ends n p (closing Expression) es) e
  where
    go : (o : Option (List Entry)) → then_ends (ends (suc n) p (Non SubscriptionTail ∷ [])) o ≡ Some new → may_top new ≡ true
    go None k = absurd (cc)
    go (Some fs) k = top_target new (tail_left n p fs new k)
rest_left n p x es new i m b e = absurd (cc)

makes_left : (n : ℕ) (p : Place) (x : Nonterminal) (es new : List Entry) → is_inner x ≡ true → way x ≡ Makes → ends n p (closing x) es ≡ Some new → may_top new ≡ true
makes_left n p x es new i m e = go (begins_expression x) refl
  where
    go : (b : Bool) → begins_expression x ≡ b → may_top new ≡ true
    go true b = top_target new (expression_left n p x es new b e)
    go false b = rest_left n p x es new i (ap is_making m) b e

-- an expression that is no target where one is asked for, and a nonterminal that may make one
pub record StuckAt (below : List Entry) (x : Nonterminal) (aim : Aim) (aims others : List Aim) (es : List Entry) (ds : List Demand) : Type 0 where
  pub extends : way x ≡ Extends
  pub above : ℕ
  pub aim_is : aim ≡ Target above
  pub part : Entry
  pub lower : List Entry
  pub parts_are : es ≡ part ∷ lower
  pub expression : is_expression part ≡ true
  pub otherwise : target_last (part ∷ []) ≡ false
  pub asked : List Demand
  pub asked_is : ds ≡ Whole (suc above) ∷ asked
  pub found : AreFound below aims lower asked
  pub lost : IsKept others es → IsKept aims lower

abbrev pub ClosedFound : List Entry → Nonterminal → List Entry → List Entry → Aim → List Aim → List Aim → List Demand → Type 0
ClosedFound below x es new aim aims others ds =
    ((us : List Demand) × AreFound below (aim ∷ aims) new us × (exactly_symbol (Non x) us ≡ Some ds) × (IsKept others es → IsKept (aim ∷ aims) new)) ⊎ StuckAt below x aim aims others es ds

-- Where a nonterminal takes so many parts and leaves one.
pub record Turns (n : ℕ) (p : Place) (x : Nonterminal) (es new : List Entry) : Type 0 where
  pub taken : List Entry
  pub lower : List Entry
  pub top : Entry
  pub es_are : es ≡ taken ++ lower
  pub many : length taken ≡ length (low x)
  pub new_are : new ≡ top ∷ lower
  pub closed : ends n p (closing x) es ≡ Some new

simply_closed : (n : ℕ) (p : Place) (below : List Entry) (x : Nonterminal) (es new : List Entry) (q : Ask) (d : Demand) (aim : Aim) (aims : List Aim) (ds : List Demand) (t : Turns n p x es new) → is_open q ≡ false → IsFound (Simply q) t.top d → IsFound aim t.top d
    → AreFound below (map (aim_least (Simply q)) (low x) ++ aims) es ds → ClosedFound below x es new aim aims (map (aim_least (Simply q)) (low x) ++ aims) ds
simply_closed n p below x es new q d aim aims ds t c w f k =
    let r = leasts_found below q d (low x) (asks_exactly x) t.taken t.lower aims ds t.many (all_alike x) w.1 (subst (λ (l : List Entry). AreFound below (map (aim_least (Simply q)) (low x) ++ aims) l ds) t.es_are k) in
    let on_top : AreFound below (aim ∷ aims) (t.top ∷ t.lower) (d ∷ r.0) = (f, r.2) in
    inl (d ∷ r.0, subst (λ (l : List Entry). AreFound below (aim ∷ aims) l (d ∷ r.0)) (sym t.new_are) on_top, ap Some (sym r.1), kept)
  where
    kept : IsKept (map (aim_least (Simply q)) (low x) ++ aims) es → IsKept (aim ∷ aims) new
    kept h =
        let behind = kept_behind (aim_least (Simply q)) (low x) t.taken t.lower aims t.many (λ l e i. i) (subst (IsKept (map (aim_least (Simply q)) (low x) ++ aims)) t.es_are h) in
        let on_top : IsKept (aim ∷ aims) (t.top ∷ t.lower) = inr behind in
        subst (IsKept (aim ∷ aims)) (sym t.new_are) on_top

-- where the part stays what it is
stays_found : (n : ℕ) (p : Place) (below : List Entry) (x : Nonterminal) (es new : List Entry) (aim from : Aim) (aims : List Aim) (ds : List Demand) (t : Turns n p x es new) → stays (way x) ≡ true → ((e : Entry) (d : Demand) → IsFound from e d → IsFound aim e d)
    → ((e : Entry) → IsKeptOne from e → IsKeptOne aim e) → AreFound below (from ∷ aims) es ds → ClosedFound below x es new aim aims (from ∷ aims) ds
stays_found n p below x es new aim from aims ds t s f g k = subst (λ (l : List Entry). ClosedFound below x es l aim aims (from ∷ aims) ds) (stays_left n p x es new s t.closed) (go es ds k)
  where
    go : (es : List Entry) (ds : List Demand) → AreFound below (from ∷ aims) es ds → ClosedFound below x es es aim aims (from ∷ aims) ds
    go [] ds k = absurd k
    go (e ∷ es) [] k = absurd k
    go (e ∷ es) (d ∷ ds) k =
        inl (d ∷ ds, (f e d k.0, k.1), ap (λ (l : List _). Some (map (asked_by d) l ++ ds)) (stays_exactly x s), λ h. elim h [ inl i ↦ inl (g e i) | inr i ↦ inr i ])

-- what is made is a target, if it is an expression
made_target : (n : ℕ) (p : Place) (x : Nonterminal) (es new : List Entry) (t : Turns n p x es new) → is_inner x ≡ true → way x ≡ Makes → is_expression t.top ≡ true → target_last (t.top ∷ []) ≡ true
made_target n p x es new t i e h =
    let may : (not (is_expression t.top) || target_last (t.top ∷ [])) ≡ true = sym (ap may_top t.new_are) ∙ makes_left n p x es new i e t.closed in if_so (is_expression t.top) (target_last (t.top ∷ [])) h may

-- an operand that is an expression
extends_found : (n : ℕ) (p : Place) (below : List Entry) (x : Nonterminal) (es new : List Entry) (above : ℕ) (aims : List Aim) (ds : List Demand) (t : Turns n p x es new) → way x ≡ Extends
    → ((e : Entry) (lower : List Entry) → es ≡ e ∷ lower → is_expression e ≡ true) → AreFound below (MayTarget above ∷ aims) es ds → ClosedFound below x es new (Target above) aims (MayTarget above ∷ aims) ds
extends_found n p below x es new above aims ds t w operand k =
    subst (λ (l : List Entry). ClosedFound below x es l (Target above) aims (MayTarget above ∷ aims) ds) (stays_left n p x es new (ap stays w) t.closed) (go es ds operand k)
  where
    go : (es : List Entry) (ds : List Demand) → ((e : Entry) (lower : List Entry) → es ≡ e ∷ lower → is_expression e ≡ true) → AreFound below (MayTarget above ∷ aims) es ds → ClosedFound below x es es (Target above) aims (MayTarget above ∷ aims) ds
    go [] ds operand k = absurd k
    go (e ∷ es) [] operand k = absurd k
    go (e ∷ es) (d ∷ ds) operand k = by_form (target_last (e ∷ [])) refl
      where
        depth : (b : Bool) → target_last (e ∷ []) ≡ b → d ≡ Whole (if b then above else suc above)
        depth b h = k.0 (operand e es refl) ∙ ap (λ (b : Bool). Whole (if b then above else suc above)) h

        by_form : (b : Bool) → target_last (e ∷ []) ≡ b → ClosedFound below x (e ∷ es) (e ∷ es) (Target above) aims (MayTarget above ∷ aims) (d ∷ ds)
        by_form true h = inl (d ∷ ds, ((depth true h, λ i. h), k.1), ap (λ (l : List _). Some (map (asked_by d) l ++ ds)) (stays_exactly x (ap stays w)), λ i. elim i [ inl j ↦ inl j | inr j ↦ inr j ])
        by_form false h =
            inr (record {
              extends = w;
              above = above;
              aim_is = refl;
              part = e;
              lower = es;
              parts_are = refl;
              expression = operand e es refl;
              otherwise = h;
              asked = ds;
              asked_is = ap (λ (x : Demand). x ∷ ds) (depth false h);
              found = k.1;
              lost = λ i. elim i [ inl j ↦ (let no : true ≡ false = sym (j (operand e es refl)) ∙ h in absurd (cc)) | inr j ↦ j ];
            })

pub closed_found : (n : ℕ) (p : Place) (below : List Entry) (x : Nonterminal) (w : Way) (es new : List Entry) (aim : Aim) (aims : List Aim) (ds : List Demand) (t : Turns n p x es new) → is_inner x ≡ true → way x ≡ w → is_tame aim ≡ true → has_never (aim ∷ []) ≡ false
    → (w ≡ Extends → (e : Entry) (lower : List Entry) → es ≡ e ∷ lower → is_expression e ≡ true) → AreFound below (map (aim_least (gone w aim)) (low x) ++ aims) es ds → ClosedFound below x es new aim aims (map (aim_least (gone w aim)) (low x) ++ aims) ds
closed_found n p below x w es new (Simply q) aims ds t i e tame never operand k =
    let c : is_open q ≡ false = not_false (is_open q) tame in
    let d = paired_with q in
    simply_closed n p below x es new q d.0 (Simply q) aims ds t c (c, d.1) (c, d.1) k
closed_found n p below x w es new (Targets m) aims ds t i e tame never operand k = absurd (cc)
closed_found n p below x w es new Never aims ds t i e tame never operand k = absurd (cc)
closed_found n p below x Keeps es new (Target m) aims ds t i e tame never operand k =
    let l : map (aim_least (Target m)) (low x) ++ aims ≡ Target m ∷ aims = ap (λ (l : List Least). map (aim_least (Target m)) l ++ aims) (stays_low x (ap stays e)) in
    subst (λ (l : List Aim). AreFound below l es ds → ClosedFound below x es new (Target m) aims l ds) (sym l) (stays_found n p below x es new (Target m) (Target m) aims ds t (ap stays e) (λ a d h. h) (λ a h. h)) k
closed_found n p below x Extends es new (Target m) aims ds t i e tame never operand k =
    let l : map (aim_least (MayTarget m)) (low x) ++ aims ≡ MayTarget m ∷ aims = ap (λ (l : List Least). map (aim_least (MayTarget m)) l ++ aims) (stays_low x (ap stays e)) in
    subst (λ (l : List Aim). AreFound below l es ds → ClosedFound below x es new (Target m) aims l ds) (sym l) (extends_found n p below x es new m aims ds t e (operand refl)) k
closed_found n p below x Makes es new (Target m) aims ds t i e tame never operand k =
    simply_closed n p below x es new (AtLeast m) (Whole m) (Target m) aims ds t refl (refl, refl) (refl, made_target n p x es new t i e) k
closed_found n p below x Differs es new (Target m) aims ds t i e tame never operand k =
    absurd (differs_never below (low x) t.taken t.lower aims ds (if_so (is_other (way x)) (begins_asked (low x)) (ap is_other e) (all_asked x)) t.many (subst (λ (l : List Entry). AreFound below (map (aim_least Never) (low x) ++ aims) l ds) t.es_are k))
closed_found n p below x Keeps es new (MayTarget m) aims ds t i e tame never operand k =
    let l : map (aim_least (MayTarget m)) (low x) ++ aims ≡ MayTarget m ∷ aims = ap (λ (l : List Least). map (aim_least (MayTarget m)) l ++ aims) (stays_low x (ap stays e)) in
    subst (λ (l : List Aim). AreFound below l es ds → ClosedFound below x es new (MayTarget m) aims l ds) (sym l) (stays_found n p below x es new (MayTarget m) (MayTarget m) aims ds t (ap stays e) (λ a d h. h) (λ a h. h)) k
closed_found n p below x Extends es new (MayTarget m) aims ds t i e tame never operand k =
    let l : map (aim_least (MayTarget m)) (low x) ++ aims ≡ MayTarget m ∷ aims = ap (λ (l : List Least). map (aim_least (MayTarget m)) l ++ aims) (stays_low x (ap stays e)) in
    subst (λ (l : List Aim). AreFound below l es ds → ClosedFound below x es new (MayTarget m) aims l ds) (sym l) (stays_found n p below x es new (MayTarget m) (MayTarget m) aims ds t (ap stays e) (λ a d h. h) (λ a h. h)) k
closed_found n p below x Makes es new (MayTarget m) aims ds t i e tame never operand k =
    simply_closed n p below x es new (AtLeast m) (Whole m) (MayTarget m) aims ds t refl (refl, refl) (λ h. ap (λ (b : Bool). Whole (if b then m else suc m)) (sym (made_target n p x es new t i e h))) k
closed_found n p below x Differs es new (MayTarget m) aims ds t i e tame never operand k =
    let other : target_last (t.top ∷ []) ≡ false = sym (target_top t.top t.lower) ∙ ap target_last (sym t.new_are) ∙ differs_left n p x es new e t.closed in
    simply_closed n p below x es new (AtLeast (suc m)) (Whole (suc m)) (MayTarget m) aims ds t refl (refl, refl) (λ h. ap (λ (b : Bool). Whole (if b then m else suc m)) (sym other)) k
