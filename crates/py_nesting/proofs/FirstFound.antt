-- The first place that is kept on the way is the first of all that lie too deep.
use Rattle.std.proofs.Common.{◌≡◌, ℕ, zero, suc, ◌<◌, ◌≤◌, max, Bool, true, false, nat_lt, if◌then◌else◌, List, [], ◌∷◌, Option, Some, None, ◌⊎◌, inl, inr, refl, sym, ◌∙◌, subst, arith}
use Rattle.std.proofs.lemmas.Option.{same_Some}
use Rattle.py_tokens.specs.Token.{Place}
use Rattle.py_tokens.specs.Places.{is_before}
use Rattle.py_tokens.proofs.PlacesOrdered.{before_neither}
use Rattle.py_syntax.specs.Heights.{most_ancestors}
use Rattle.py_syntax.specs.Tree.{Body}
use Rattle.py_nesting.specs.Depths.{here, body_depth}
use Rattle.py_nesting.specs.TooDeep.{same_place, IsTooDeepAt}
use Rattle.py_nesting.specs.Outlines.{Event, outline_depth, built}
use Rattle.py_nesting.specs.TreeOutlines.{body_outline}
use Rattle.py_nesting.specs.Walk.{Whole, Met, raise, walk, met_depth}
use Rattle.py_nesting.proofs.Fits.{itself}
use Rattle.py_nesting.proofs.OutlinesCount.{outline_law}
use Rattle.py_nesting.proofs.WalkCounts.{walk_counts}
use Rattle.py_nesting.specs.First.{earlier, first_of, first_in, IsFirst, FirstLaw}

-- too many nodes stand above one that is met here
abbrev pub IsDeepAmong : List Met → Place → Type 0
IsDeepAmong nodes p = suc most_ancestors < met_depth (same_place p) nodes

not_before_itself : (p : Place) → is_before p p ≡ false
not_before_itself p = grind arith

as_before : (p q r : Place) → same_place q r ≡ true → is_before q p ≡ is_before r p
as_before p q r h = grind arith

-- one node of those that are met
deep_first : (x : Met) (nodes : List Met) → nat_lt most_ancestors x.above ≡ true → IsDeepAmong (x ∷ nodes) x.place
deep_first x nodes h = rw (itself x.place) (let k : 100 < x.above = grind arith in omega arith)

deep_later : (x : Met) (nodes : List Met) (p : Place) → IsDeepAmong nodes p → IsDeepAmong (x ∷ nodes) p
deep_later x nodes p h = omega arith

either : {A B C : Type 0} → (A → C) → (B → C) → A ⊎ B → C
either f g (inl a) = f a
either f g (inr b) = g b

one_of : (x : Met) (nodes : List Met) (p : Place) → IsDeepAmong (x ∷ nodes) p
    → ((same_place p x.place ≡ true) × (nat_lt most_ancestors x.above ≡ true)) ⊎ IsDeepAmong nodes p
one_of x nodes p h = go (same_place p x.place) (nat_lt most_ancestors x.above) refl refl h
  where
    go : (b c : Bool) → same_place p x.place ≡ b → nat_lt most_ancestors x.above ≡ c → suc most_ancestors < max (raise x.above (here b)) (met_depth (same_place p) nodes)
        → ((same_place p x.place ≡ true) × (nat_lt most_ancestors x.above ≡ true)) ⊎ IsDeepAmong nodes p
    go true true e f k = inl (e, f)
    go true false e f k = inr (let few : x.above ≤ 100 = grind arith in omega arith)
    go false c e f k = inr (omega arith)

-- what is kept is the first, of the one before and of those that are met
abbrev pub IsLeast : Option Place → List Met → Place → Type 0
IsLeast first nodes p =
    ((first ≡ Some p) ⊎ IsDeepAmong nodes p) × ((q : Place) → first ≡ Some q → is_before q p ≡ false) × ((q : Place) → IsDeepAmong nodes q → is_before q p ≡ false)

before_not : (p q r : Place) → is_before r q ≡ true → is_before r p ≡ false → is_before q p ≡ false
before_not p q r h k = grind arith

-- a node that lies too deep
first_with : (first : Option Place) (x : Met) (nodes : List Met) (p : Place) → nat_lt most_ancestors x.above ≡ true
    → IsLeast (Some (earlier first x.place)) nodes p → IsLeast first (x ∷ nodes) p
first_with None x nodes p deep h = (
  either (λ e. inr (subst (IsDeepAmong (x ∷ nodes)) (same_Some x.place p e) (deep_first x nodes deep))) (λ e. inr (deep_later x nodes p e)) h.0,
  (λ q e. absurd (cc)),
  λ q e. either (λ s. as_before p q x.place s.0 ∙ h.1 x.place refl) (λ d. h.2 q d) (one_of x nodes q e),
)
first_with (Some r) x nodes p deep h = go (is_before x.place r) refl h
  where
    go : (b : Bool) → is_before x.place r ≡ b → IsLeast (Some (if b then x.place else r)) nodes p → IsLeast (Some r) (x ∷ nodes) p
    go true e h = (
      either (λ k. inr (subst (IsDeepAmong (x ∷ nodes)) (same_Some x.place p k) (deep_first x nodes deep))) (λ k. inr (deep_later x nodes p k)) h.0,
      (λ q k. subst (λ (z : Place). is_before z p ≡ false) (same_Some r q k) (before_not p r x.place e (h.1 x.place refl))),
      λ q k. either (λ s. as_before p q x.place s.0 ∙ h.1 x.place refl) (λ d. h.2 q d) (one_of x nodes q k),
    )
    go false e h = (
      either (λ k. inl k) (λ k. inr (deep_later x nodes p k)) h.0,
      h.1,
      λ q k. either (λ s. as_before p q x.place s.0 ∙ before_neither p r x.place e (h.1 r refl)) (λ d. h.2 q d) (one_of x nodes q k),
    )

-- and one that does not
first_without : (first : Option Place) (x : Met) (nodes : List Met) (p : Place) → nat_lt most_ancestors x.above ≡ false → IsLeast first nodes p → IsLeast first (x ∷ nodes) p
first_without first x nodes p few h = (
  either (λ e. inl e) (λ e. inr (deep_later x nodes p e)) h.0,
  h.1,
  λ q e. either (λ s. absurd (let no : true ≡ false = sym s.1 ∙ few in cc)) (λ d. h.2 q d) (one_of x nodes q e),
)

pub is_least : (nodes : List Met) (first : Option Place) (p : Place) → first_of first nodes ≡ Some p → IsLeast first nodes p
is_least [] first p e = (inl e, (λ q f. subst (λ (z : Place). is_before z p ≡ false) (same_Some p q (sym e ∙ f)) (not_before_itself p)), λ q h. absurd (omega arith))
is_least (x ∷ nodes) first p e = go (nat_lt most_ancestors x.above) refl e (λ o k. is_least nodes o p k)
  where
    go : (b : Bool) → nat_lt most_ancestors x.above ≡ b → first_of (if b then Some (earlier first x.place) else first) nodes ≡ Some p
        → ((o : Option Place) → first_of o nodes ≡ Some p → IsLeast o nodes p) → IsLeast first (x ∷ nodes) p
    go true k e again = first_with first x nodes p k (again (Some (earlier first x.place)) e)
    go false k e again = first_without first x nodes p k (again first e)

pub none_found : (nodes : List Met) (first : Option Place) → first_of first nodes ≡ None → (first ≡ None) × ((q : Place) → IsDeepAmong nodes q → ⊥)
none_found [] first e = (e, λ q h. omega arith)
none_found (x ∷ nodes) first e = go (nat_lt most_ancestors x.above) refl e (λ o k. none_found nodes o k)
  where
    go : (b : Bool) → nat_lt most_ancestors x.above ≡ b → first_of (if b then Some (earlier first x.place) else first) nodes ≡ None
        → ((o : Option Place) → first_of o nodes ≡ None → (o ≡ None) × ((q : Place) → IsDeepAmong nodes q → ⊥)) → (first ≡ None) × ((q : Place) → IsDeepAmong (x ∷ nodes) q → ⊥)
    go true k e again = absurd (let no = (again (Some (earlier first x.place)) e).0 in cc)
    go false k e again = (
      (again first e).0,
      λ q h. either (λ s. absurd (let no : true ≡ false = sym s.1 ∙ k in cc)) (λ d. (again first e).1 q d) (one_of x nodes q h),
    )

pub from_the_top : (n : ℕ) → raise 0 n ≡ n
from_the_top zero = refl
from_the_top (suc n) = omega arith

pub depths_met : (events : List Event) (body : Body) (at : Place → Bool) → built events ≡ Some (body_outline body ∷ []) → met_depth at (walk events (Whole 0 ∷ [])) ≡ body_depth at body
depths_met events body at b =
    let top : max (raise 0 (outline_depth at (body_outline body))) 0 ≡ met_depth at (walk events (Whole 0 ∷ [])) = walk_counts at events (body_outline body ∷ []) (Whole 0 ∷ []) b in
    let same : raise 0 (outline_depth at (body_outline body)) ≡ outline_depth at (body_outline body) = from_the_top (outline_depth at (body_outline body)) in
    let whole : outline_depth at (body_outline body) ≡ body_depth at body = outline_law at body in
    omega arith

deep_among : (events : List Event) (body : Body) (p : Place) → built events ≡ Some (body_outline body ∷ []) → IsTooDeepAt p body → IsDeepAmong (walk events (Whole 0 ∷ [])) p
deep_among events body p b h = let same = depths_met events body (same_place p) b in omega arith

deep_in : (events : List Event) (body : Body) (p : Place) → built events ≡ Some (body_outline body ∷ []) → IsDeepAmong (walk events (Whole 0 ∷ [])) p → IsTooDeepAt p body
deep_in events body p b h = let same = depths_met events body (same_place p) b in omega arith

kept_deep : {A : Type 0} {p : Place} {B : Type 0} → (None ≡ Some p) ⊎ A → (A → B) → B
kept_deep (inl e) f = absurd (cc)
kept_deep (inr a) f = f a

pub first_law : FirstLaw
first_law events body b = go (first_in events) refl
  where
    go : (first : Option Place) → first_in events ≡ first → IsFirst first body
    go None e = λ p h. (none_found (walk events (Whole 0 ∷ [])) None e).1 p (deep_among events body p b h)
    go (Some p) e =
        let l = is_least (walk events (Whole 0 ∷ [])) None p e in
        (kept_deep l.0 (λ k. deep_in events body p b k), λ q h. l.2 q (deep_among events body q b h))
