-- A place that is found, token by token, where two readings have a node too deep.
use Rattle.std.proofs.Common.{◌≡◌, suc, Bool, true, false, not, ◌&&◌, ◌||◌, ◌==◌, if◌then◌else◌, List, [], ◌∷◌, Option, Some, None, ◌⊎◌, inl, inr, refl, sym, ap, ◌∙◌, eqb-true, arith}
use Rattle.grammars.proofs.Bools.{and_left, and_right, both, either, on_left, on_right, implied}
use Rattle.py_tokens.specs.Token.{Place}
use Rattle.py_tokens.specs.Places.{is_before}
use Rattle.py_syntax.specs.Token.{Token}
use Rattle.py_syntax.specs.Heights.{most_ancestors}
use Rattle.py_nesting.specs.Shapes.{entries_of}
use Rattle.py_nesting.specs.TooDeep.{same_place, stands_among}
use Rattle.py_nesting.specs.Walk.{Met, met_depth}
use Rattle.py_demands.specs.Asks.{place_of}
use Rattle.py_demands.specs.BothFirst.{IsMetAt, IsDeepAt, IsDeepInBoth, IsFirstInBoth, is_met_at, is_deep_at, is_clear_at, is_deep_in_both, first_in_both, AreInOrder, BothFoundLaw}
use Rattle.py_demands.specs.FrontDepth.{front_met}
use Rattle.py_demands.proofs.BothFirst.{among, both_first_law}
use Rattle.py_demands.proofs.FrontFirst.{front_counts}
use Rattle.std.proofs.lemmas.Bool.{lt-ltb, ltb-true}

met_so : (nodes : List Met) (p : Place) → is_met_at nodes p ≡ true → IsMetAt nodes p
met_so nodes p h = ltb-true 0 (met_depth (same_place p) nodes) h

met_is : (nodes : List Met) (p : Place) → IsMetAt nodes p → is_met_at nodes p ≡ true
met_is nodes p h = lt-ltb 0 (met_depth (same_place p) nodes) h

deep_so : (nodes : List Met) (p : Place) → is_deep_at nodes p ≡ true → IsDeepAt nodes p
deep_so nodes p h = ltb-true (suc most_ancestors) (met_depth (same_place p) nodes) h

deep_is : (nodes : List Met) (p : Place) → IsDeepAt nodes p → is_deep_at nodes p ≡ true
deep_is nodes p h = lt-ltb (suc most_ancestors) (met_depth (same_place p) nodes) h

clear_so : (nodes : List Met) (p : Place) → is_clear_at nodes p ≡ true → IsMetAt nodes p → IsDeepAt nodes p
clear_so nodes p h m = deep_so nodes p (implied (is_met_at nodes p) (is_deep_at nodes p) h (met_is nodes p m))

clear_is : (nodes : List Met) (p : Place) → (IsMetAt nodes p → IsDeepAt nodes p) → is_clear_at nodes p ≡ true
clear_is nodes p f = go (is_met_at nodes p) refl
  where
    go : (b : Bool) → is_met_at nodes p ≡ b → (not b || is_deep_at nodes p) ≡ true
    go true e = deep_is nodes p (f (met_so nodes p e))
    go false e = refl

both_so : (nodes others : List Met) (p : Place) → is_deep_in_both nodes others p ≡ true → IsDeepInBoth nodes others p
both_so nodes others p h =
    let m = and_left (is_met_at nodes p || is_met_at others p) (is_clear_at nodes p && is_clear_at others p) h in
    let c = and_right (is_met_at nodes p || is_met_at others p) (is_clear_at nodes p && is_clear_at others p) h in (
      go (either (is_met_at nodes p) (is_met_at others p) m),
      clear_so nodes p (and_left (is_clear_at nodes p) (is_clear_at others p) c),
      clear_so others p (and_right (is_clear_at nodes p) (is_clear_at others p) c),
    )
  where
    go : (is_met_at nodes p ≡ true) ⊎ (is_met_at others p ≡ true) → IsMetAt nodes p ⊎ IsMetAt others p
    go (inl m) = inl (met_so nodes p m)
    go (inr m) = inr (met_so others p m)

both_is : (nodes others : List Met) (p : Place) → IsDeepInBoth nodes others p → is_deep_in_both nodes others p ≡ true
both_is nodes others p d =
    both (is_met_at nodes p || is_met_at others p) (is_clear_at nodes p && is_clear_at others p) (go d.0)
    (both (is_clear_at nodes p) (is_clear_at others p) (clear_is nodes p d.1) (clear_is others p d.2))
  where
    go : IsMetAt nodes p ⊎ IsMetAt others p → (is_met_at nodes p || is_met_at others p) ≡ true
    go (inl m) = on_left (is_met_at nodes p) (is_met_at others p) (met_is nodes p m)
    go (inr m) = on_right (is_met_at nodes p) (is_met_at others p) (met_is others p m)

place_is : (p q : Place) → same_place p q ≡ true → p ≡ q
place_is p q h =
    let m : p.«module» ≡ q.«module» = eqb-true p.«module» q.«module» (and_left (p.«module» == q.«module») ((p.line == q.line) && (p.column == q.column)) h) in
    let r = and_right (p.«module» == q.«module») ((p.line == q.line) && (p.column == q.column)) h in
    let l : p.line ≡ q.line = eqb-true p.line q.line (and_left (p.line == q.line) (p.column == q.column) r) in
    let c : p.column ≡ q.column = eqb-true p.column q.column (and_right (p.line == q.line) (p.column == q.column) r) in
    λ i. record { «module» = m i; line = l i; column = c i }

not_before_itself : (p : Place) → is_before p p ≡ false
not_before_itself p = grind arith

-- among these tokens
abbrev IsFirstAmong : Option Place → List Token → List Met → List Met → Type 0
IsFirstAmong None ts nodes others = (q : Place) → stands_among ts q ≡ true → IsDeepInBoth nodes others q → ⊥
IsFirstAmong (Some p) ts nodes others = IsDeepInBoth nodes others p × ((q : Place) → stands_among ts q ≡ true → IsDeepInBoth nodes others q → is_before q p ≡ false)

found_among : (ts : List Token) (nodes others : List Met) → AreInOrder ts → IsFirstAmong (first_in_both nodes others ts) ts nodes others
found_among [] nodes others o = λ q s d. absurd (cc)
found_among (t ∷ ts) nodes others o = go (is_deep_in_both nodes others (place_of t)) refl (first_in_both nodes others ts) (found_among ts nodes others o.1)
  where
    here : (q : Place) → is_deep_in_both nodes others (place_of t) ≡ false → same_place q (place_of t) ≡ true → IsDeepInBoth nodes others q → ⊥
    here q e s d = let same : q ≡ place_of t = place_is q (place_of t) s in let no : true ≡ false = sym (both_is nodes others q d) ∙ ap (is_deep_in_both nodes others) same ∙ e in absurd (cc)

    further : (q : Place) (P : Type 0) → stands_among (t ∷ ts) q ≡ true → (same_place q (place_of t) ≡ true → P) → (stands_among ts q ≡ true → P) → P
    further q P s one rest = elim (either (same_place q (place_of t)) (stands_among ts q) s) [ inl k ↦ one k | inr k ↦ rest k ]

    at_token : is_deep_in_both nodes others (place_of t) ≡ false → (w : Option Place) → IsFirstAmong w ts nodes others → IsFirstAmong w (t ∷ ts) nodes others
    at_token e None f = λ q s d. further q ⊥ s (λ k. here q e k d) (λ k. f q k d)
    at_token e (Some p) f = (f.0, λ q s d. further q (is_before q p ≡ false) s (λ k. absurd (here q e k d)) (λ k. f.1 q k d))

    go : (b : Bool) → is_deep_in_both nodes others (place_of t) ≡ b → (w : Option Place) → IsFirstAmong w ts nodes others → IsFirstAmong (if b then Some (place_of t) else w) (t ∷ ts) nodes others
    go true e w f = (both_so nodes others (place_of t) e, λ q s d. further q (is_before q (place_of t) ≡ false) s (λ k. ap (λ (r : Place). is_before r (place_of t)) (place_is q (place_of t) k) ∙ not_before_itself (place_of t)) (λ k. o.0 q k))
    go false e w f = at_token e w f

pub both_found_law : BothFoundLaw
both_found_law front symbols v b us ws events first order apart put lower one two = both_first_law front symbols v b us ws events (first_in_both nodes others front) first apart put lower one two (go (first_in_both nodes others front) (found_among front nodes others order))
  where
    nodes : List Met
    nodes = front_met (entries_of v) events us

    others : List Met
    others = front_met (entries_of v) events ws

    stands : (q : Place) → IsDeepInBoth nodes others q → stands_among front q ≡ true
    stands q d = at (d.0)
      where
        at : IsMetAt nodes q ⊎ IsMetAt others q → stands_among front q ≡ true
        at (inl m) = let c = front_counts (same_place q) v events us put in among front symbols v b us q first (omega arith)
        at (inr m) = let c = front_counts (same_place q) v events ws put in among front symbols v b ws q first (omega arith)

    go : (w : Option Place) → IsFirstAmong w front nodes others → IsFirstInBoth w nodes others
    go None f = λ q d. f q (stands q d) d
    go (Some p) f = (f.0, λ q d. f.1 q (stands q d) d)
