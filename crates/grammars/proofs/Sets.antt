-- What the tests of sets mean.
use Rattle.std.proofs.Common.{◌≡◌, ℕ, Bool, true, false, cond, List, [], ◌∷◌, ◌++◌, ◌⊎◌, inl, inr, refl, ap, subst, Some}
use Rattle.grammars.specs.Grammar.{Sym, Tok, Non, Do, Sight}
use Rattle.grammars.specs.Sets.{Sets, same_sight, has, skip_to, is_within, are_apart, are_nullable, ahead, is_ahead_within}
use Rattle.grammars.proofs.Bools.{and_left, and_right, both, either, on_left, on_right, implied, not_false, same_sight_eq, same_sight_flip}

-- one set lies in another
abbrev pub IsWithin : List Sight → List Sight → Type 0
IsWithin these those = (s : Sight) → has these s ≡ true → has those s ≡ true

-- what is behind the first a
skipped : (a : Sight) (again : List Sight → Bool) (those : List Sight) → skip_to a again those ≡ true
    → (has those a ≡ true) × (left : List Sight) × (again left ≡ true) × IsWithin left those
skipped a again [] h = (cc)
skipped a again (b ∷ those) h = step (same_sight a b) refl h (skipped a again those)
  where
    step : (t : Bool) → same_sight a b ≡ t → (elim t as (λ _. Bool) [ true ↦ again those | false ↦ skip_to a again those ]) ≡ true
        → (skip_to a again those ≡ true → (has those a ≡ true) × (left : List Sight) × (again left ≡ true) × IsWithin left those)
        → (has (b ∷ those) a ≡ true) × (left : List Sight) × (again left ≡ true) × IsWithin left (b ∷ those)
    step true e h rec = (on_left _ _ (same_sight_flip a b e), those, h, λ s p. on_right _ _ p)
    step false e h rec = let r = rec h in (on_right _ _ r.0, r.1, r.2, λ s p. on_right _ _ (r.3 s p))

pub is_within_lem : (these those : List Sight) → is_within these those ≡ true → IsWithin these those
is_within_lem [] those h s p = (cc)
is_within_lem (a ∷ these) those h s p =
    let found : (has those a ≡ true) × (left : List Sight) × (is_within these left ≡ true) × IsWithin left those = skipped a (is_within these) those h in
    elim (either (same_sight a s) (has these s) p) [
      | inl q ↦ subst (λ (x : Sight). has those x ≡ true) (same_sight_eq a s q) found.0
      | inr q ↦ found.3 s (is_within_lem these found.1 found.2 s q)
    ]

pub has-append : (these those : List Sight) (s : Sight) → has (these ++ those) s ≡ true → (has these s ≡ true) ⊎ (has those s ≡ true)
has-append [] those s h = inr h
has-append (a ∷ these) those s h = elim (either (same_sight a s) (has (these ++ those) s) h) [
  | inl q ↦ inl (on_left _ _ q)
  | inr q ↦ elim (has-append these those s q) [ inl r ↦ inl (on_right _ _ r) | inr r ↦ inr r ]
]

pub has_before : (these those : List Sight) (s : Sight) → has these s ≡ true → has (these ++ those) s ≡ true
has_before [] those s h = (cc)
has_before (a ∷ these) those s h = elim (either (same_sight a s) (has these s) h) [ inl q ↦ on_left _ _ q | inr q ↦ on_right _ _ (has_before these those s q) ]

pub has_behind : (these those : List Sight) (s : Sight) → has those s ≡ true → has (these ++ those) s ≡ true
has_behind [] those s h = h
has_behind (a ∷ these) those s h = on_right _ _ (has_behind these those s h)

pub are_apart_lem : (these those : List Sight) (s : Sight) → are_apart these those ≡ true → has these s ≡ true → has those s ≡ false
are_apart_lem [] those s h p = (cc)
are_apart_lem (a ∷ these) those s h p = elim (either (same_sight a s) (has these s) p) [
  | inl q ↦ subst (λ (x : Sight). has those x ≡ false) (same_sight_eq a s q) (not_false _ (and_left _ _ h))
  | inr q ↦ are_apart_lem these those s (and_right _ _ h) q
]

-- what lies ahead of symbols that stand before others
pub ahead-append : {N A T : Type 0} (S : Sets N T) (behind : List Sight) (front symbols : List (Sym N A))
    → ahead S behind (front ++ symbols) ≡ ahead S (ahead S behind symbols) front
ahead-append S behind [] symbols = refl
ahead-append S behind (Tok k ∷ front) symbols = refl
ahead-append S behind (Non x ∷ front) symbols = ap (λ (l : List Sight). S.first x ++ cond (S.nullable x) l []) (ahead-append S behind front symbols)
ahead-append S behind (Do a ∷ front) symbols = ahead-append S behind front symbols

pub split_ahead : {N A T : Type 0} (S : Sets N T) (behind : List Sight) (front symbols : List (Sym N A)) (s : Sight)
    → has (ahead S behind (front ++ symbols)) s ≡ true → has (ahead S (ahead S behind symbols) front) s ≡ true
split_ahead S behind front symbols s h = subst (λ (l : List Sight). has l s ≡ true) (ahead-append S behind front symbols) h

cond_within : (b : Bool) (these those : List Sight) → IsWithin these those → IsWithin (cond b these []) (cond b those [])
cond_within true these those h = h
cond_within false these those h = λ s p. p

pub ahead_within : {N A T : Type 0} (S : Sets N T) (behind more : List Sight) (symbols : List (Sym N A)) → IsWithin behind more
    → IsWithin (ahead S behind symbols) (ahead S more symbols)
ahead_within S behind more [] h s p = h s p
ahead_within S behind more (Tok k ∷ symbols) h s p = p
ahead_within S behind more (Non x ∷ symbols) h s p = elim (has-append (S.first x) _ s p) [
  | inl q ↦ has_before (S.first x) _ s q
  | inr q ↦ has_behind (S.first x) _ s (cond_within (S.nullable x) _ _ (ahead_within S behind more symbols h) s q)
]
ahead_within S behind more (Do a ∷ symbols) h s p = ahead_within S behind more symbols h s p

has_only : (k : ℕ) (s : Sight) (sights : List Sight) → has (Some k ∷ []) s ≡ true → has sights (Some k) ≡ true → has sights s ≡ true
has_only k s sights p h = elim (either _ _ p) [ inl q ↦ subst (λ (x : Sight). has sights x ≡ true) (same_sight_eq _ _ q) h | inr q ↦ absurd (cc) ]

in_cond : (b : Bool) (these : List Sight) (s : Sight) → has (cond b these []) s ≡ true → (b ≡ true) × (has these s ≡ true)
in_cond true these s h = (refl, h)
in_cond false these s h = absurd (cc)

pub is_ahead_within_lem : {N A T : Type 0} (S : Sets N T) (behind : List Sight) (symbols : List (Sym N A)) (sights : List Sight)
    → is_ahead_within S behind symbols sights ≡ true → IsWithin (ahead S behind symbols) sights
is_ahead_within_lem S behind [] sights h s p = is_within_lem behind sights h s p
is_ahead_within_lem S behind (Tok k ∷ symbols) sights h s p = has_only k s sights p h
is_ahead_within_lem S behind (Non x ∷ symbols) sights h s p = elim (has-append (S.first x) _ s p) [
  | inl q ↦ is_within_lem (S.first x) sights (and_left _ _ h) s q
  | inr q ↦ let r : (S.nullable x ≡ true) × (has (ahead S behind symbols) s ≡ true) = in_cond (S.nullable x) _ s q in
      is_ahead_within_lem S behind symbols sights (implied _ _ (and_right _ _ h) r.0) s r.1
]
is_ahead_within_lem S behind (Do a ∷ symbols) sights h s p = is_ahead_within_lem S behind symbols sights h s p

-- what lies ahead lies ahead with nothing behind, or behind symbols that may derive nothing
pub ahead_cases : {N A T : Type 0} (S : Sets N T) (behind : List Sight) (symbols : List (Sym N A)) (s : Sight)
    → has (ahead S behind symbols) s ≡ true → (has (ahead S [] symbols) s ≡ true) ⊎ ((are_nullable S symbols ≡ true) × (has behind s ≡ true))
ahead_cases S behind [] s h = inr (refl, h)
ahead_cases S behind (Tok k ∷ symbols) s h = inl h
ahead_cases S behind (Non x ∷ symbols) s h = elim (has-append (S.first x) _ s h) [
  | inl q ↦ inl (has_before (S.first x) _ s q)
  | inr q ↦ let r : (S.nullable x ≡ true) × (has (ahead S behind symbols) s ≡ true) = in_cond (S.nullable x) _ s q in
      elim (ahead_cases S behind symbols s r.1) [
        | inl a ↦ inl (has_behind (S.first x) _ s (rw r.0 a))
        | inr b ↦ inr (both _ _ r.0 b.0, b.1)
      ]
]
ahead_cases S behind (Do a ∷ symbols) s h = ahead_cases S behind symbols s h
