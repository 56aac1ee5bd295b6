-- Which row is picked.
use Rattle.std.proofs.Common.{◌≡◌, Bool, true, false, cond, ◌&&◌, List, [], ◌∷◌, inl, inr, refl, sym, ap, subst, Some}
use Rattle.grammars.specs.Grammar.{Sym, allows, Row, Grammar, IsRow, Sight}
use Rattle.grammars.specs.Sets.{Sets, has, ahead, are_nullable, is_ahead_within, are_followed, are_closed, is_apart_from, are_told_apart, is_decided}
use Rattle.grammars.specs.Run.{first_row, pick}
use Rattle.grammars.proofs.Bools.{and_left, and_right, both, implied}
use Rattle.grammars.proofs.Sets.{are_apart_lem}

-- what is picked is a row that its guard allows
first_row_is : {N A V : Type 0} (test : Row N A V → Bool) (rows : List (Row N A V)) (r : Row N A V) → first_row test rows ≡ Some r → IsRow r rows × (test r ≡ true)
first_row_is test [] r h = absurd (cc)
first_row_is {N} {A} {V} test (q ∷ rows) r h = step (test q) refl h (first_row_is test rows r)
  where
    step : (t : Bool) → test q ≡ t → cond t (Some q) (first_row test rows) ≡ Some r → (first_row test rows ≡ Some r → IsRow r rows × (test r ≡ true)) → IsRow r (q ∷ rows) × (test r ≡ true)
    step true e p rec = let same : q ≡ r = cc in (inl (sym same), subst (λ (x : Row N A V). test x ≡ true) same e)
    step false e p rec = let found : IsRow r rows × (test r ≡ true) = rec p in (inr found.0, found.1)

pub pick_is_row : {N A T V : Type 0} (G : Grammar N A T V) (S : Sets N T) (x : N) (v : V) (s : Sight) (r : Row N A V)
    → pick G S x v s ≡ Some r → IsRow r (G.rows x) × (allows r.guard v ≡ true)
pick_is_row {N} {A} {T} {V} G S x v s r h =
    let found : IsRow r (G.rows x) × ((has (ahead S (S.follow x) r.symbols) s && allows r.guard v) ≡ true) = first_row_is _ (G.rows x) r h in
    (found.0, and_right _ _ found.1)

-- no row that is apart from these sights is taken at one of them
apart_lem : {N A T V : Type 0} (S : Sets N T) (x : N) (sights : List Sight) (rows : List (Row N A V)) (r : Row N A V) (s : Sight)
    → is_apart_from S x sights rows ≡ true → IsRow r rows → has (ahead S (S.follow x) r.symbols) s ≡ true → has sights s ≡ false
apart_lem S x sights [] r s h i p = absurd i
apart_lem {N} {A} {T} {V} S x sights (q ∷ rows) r s h (inl e) p =
    are_apart_lem (ahead S (S.follow x) q.symbols) sights s (and_left _ _ h) (subst (λ (y : Row N A V). has (ahead S (S.follow x) y.symbols) s ≡ true) e p)
apart_lem S x sights (q ∷ rows) r s h (inr i) p = apart_lem S x sights rows r s (and_right _ _ h) i p

-- a row that may be taken is the one that is picked
taken : {N A T V : Type 0} (S : Sets N T) (x : N) (rows : List (Row N A V)) (r : Row N A V) (v : V) (s : Sight)
    → are_told_apart S x rows ≡ true → IsRow r rows → has (ahead S (S.follow x) r.symbols) s ≡ true → allows r.guard v ≡ true
    → first_row (λ q. has (ahead S (S.follow x) q.symbols) s && allows q.guard v) rows ≡ Some r
taken S x [] r v s h i p g = absurd i
taken {N} {A} {T} {V} S x (q ∷ rows) r v s h (inl e) p g =
    let t : (has (ahead S (S.follow x) q.symbols) s && allows q.guard v) ≡ true =
    subst (λ (y : Row N A V). (has (ahead S (S.follow x) y.symbols) s && allows y.guard v) ≡ true) e (both _ _ p g) in
    rw t (ap Some (sym e))
taken S x (q ∷ rows) r v s h (inr i) p g =
    let f : has (ahead S (S.follow x) q.symbols) s ≡ false = apart_lem S x (ahead S (S.follow x) q.symbols) rows r s (and_left _ _ h) i p in
    rw f (taken S x rows r v s (and_right _ _ h) i p g)

pub pick_row : {N A T V : Type 0} (G : Grammar N A T V) (S : Sets N T) (x : N) (r : Row N A V) (v : V) (s : Sight)
    → is_decided G S x ≡ true → IsRow r (G.rows x) → has (ahead S (S.follow x) r.symbols) s ≡ true → allows r.guard v ≡ true
    → pick G S x v s ≡ Some r
pick_row G S x r v s h i p g = taken S x (G.rows x) r v s (and_right _ _ h) i p g

-- what closed sets say of each row
pub record IsClosed {N A T : Type 0} (S : Sets N T) (x : N) (symbols : List (Sym N A)) : Type 0 where
  pub nullable : are_nullable S symbols ≡ true → S.nullable x ≡ true
  pub first : is_ahead_within S [] symbols (S.first x) ≡ true
  pub follow : are_followed S (S.follow x) symbols ≡ true

closed : {N A T V : Type 0} (S : Sets N T) (x : N) (rows : List (Row N A V)) (r : Row N A V) → are_closed S x rows ≡ true → IsRow r rows → IsClosed S x r.symbols
closed S x [] r h i = absurd i
closed {N} {A} {T} {V} S x (q ∷ rows) r h (inl e) = subst (λ (y : Row N A V). IsClosed S x y.symbols) (sym e) record {
  nullable = λ p. implied _ _ (and_left _ _ (and_left _ _ (and_left _ _ h))) p;
  first = and_right _ _ (and_left _ _ (and_left _ _ h));
  follow = and_right _ _ (and_left _ _ h);
}
closed S x (q ∷ rows) r h (inr i) = closed S x rows r (and_right _ _ h) i

pub row_closed : {N A T V : Type 0} (G : Grammar N A T V) (S : Sets N T) (x : N) (r : Row N A V) → is_decided G S x ≡ true → IsRow r (G.rows x) → IsClosed S x r.symbols
row_closed G S x r h i = closed S x (G.rows x) r (and_left _ _ h) i
