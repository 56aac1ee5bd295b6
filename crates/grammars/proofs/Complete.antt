-- What is derived is run to its end, where one token of sight decides; so a sentence has one value.
use Rattle.std.proofs.Common.{◌≡◌, ℕ, zero, suc, Bool, true, false, cond, ◌==◌, List, [], ◌∷◌, ◌++◌, inl, inr, refl, sym, ap, ◌∙◌, subst, subst₂, eq-eqb, Some, None}
use Rattle.grammars.specs.Grammar.{Sym, Tok, Non, Do, allows, Row, Grammar, IsRow, Sight, sight}
use Rattle.grammars.specs.Derivation.{Derives}
use Rattle.grammars.specs.Sets.{Sets, has, ahead, are_nullable, are_followed, is_decided, is_start}
use Rattle.grammars.specs.Run.{Done, pick, run}
use Rattle.grammars.specs.Laws.{Complete, OneValue, Begins}
use Rattle.grammars.proofs.Bools.{and_left, and_right, both, on_left, same_sight_refl}
use Rattle.grammars.proofs.Sets.{IsWithin, has-append, has_before, has_behind, split_ahead, ahead_within, is_ahead_within_lem, ahead_cases}
use Rattle.grammars.proofs.Rows.{pick_row, IsClosed, row_closed}

-- what may come behind a stack is the end
abbrev pub at_end : List Sight
at_end = None ∷ []

-- the follow set of each nonterminal on the stack has what may come behind it here
abbrev pub IsFollowed : {N A T : Type 0} → Sets N T → List (Sym N A) → Type 0
IsFollowed S [] = Unit {0}
IsFollowed S (Tok k ∷ symbols) = IsFollowed S symbols
IsFollowed S (Non x ∷ symbols) = IsWithin (ahead S at_end symbols) (S.follow x) × IsFollowed S symbols
IsFollowed S (Do a ∷ symbols) = IsFollowed S symbols

pub start_followed : {N A T : Type 0} (S : Sets N T) (symbols : List (Sym N A)) → is_start S symbols ≡ true → IsFollowed S symbols
start_followed S [] h = tt
start_followed S (Tok k ∷ symbols) h = start_followed S symbols h
start_followed S (Non x ∷ symbols) h = (is_ahead_within_lem S at_end symbols (S.follow x) (and_left _ _ h), start_followed S symbols (and_right _ _ h))
start_followed S (Do a ∷ symbols) h = start_followed S symbols h

-- a row of x in place of x
pub row_followed : {N A T : Type 0} (S : Sets N T) (behind : List Sight) (front symbols : List (Sym N A)) → are_followed S behind front ≡ true
    → IsWithin (ahead S at_end symbols) behind → IsFollowed S symbols → IsFollowed S (front ++ symbols)
row_followed S behind [] symbols h i f = f
row_followed S behind (Tok k ∷ front) symbols h i f = row_followed S behind front symbols h i f
row_followed S behind (Non x ∷ front) symbols h i f = (
  λ s p. is_ahead_within_lem S behind front (S.follow x) (and_left _ _ h) s
      (ahead_within S _ behind front i s (split_ahead S at_end front symbols s p)),
  row_followed S behind front symbols (and_right _ _ h) i f,
)
row_followed S behind (Do a ∷ front) symbols h i f = row_followed S behind front symbols h i f

-- what a stack derives begins with what lies ahead of it
pub sight_ahead : {N A T V : Type 0} (G : Grammar N A T V) (S : Sets N T) → ((x : N) → is_decided G S x ≡ true)
    → (n : ℕ) (symbols : List (Sym N A)) (v : V) (ts : List T) (w : V) → Derives G n symbols v ts w → has (ahead S at_end symbols) (sight G ts) ≡ true
sight_ahead G S c zero [] v ts w d = rw d.0 refl
sight_ahead G S c zero (s ∷ symbols) v ts w d = absurd d
sight_ahead G S c (suc n) [] v ts w d = absurd d
sight_ahead G S c (suc n) (Tok k ∷ symbols) v ts w d = rw (d.2, d.3) (on_left _ _ (same_sight_refl (Some k)))
sight_ahead {N} {A} {T} {V} G S c (suc n) (Non x ∷ symbols) v ts w d =
    let r : Row N A V = d.0 in
    let p : has (ahead S at_end (r.symbols ++ symbols)) (sight G ts) ≡ true = sight_ahead G S c n (r.symbols ++ symbols) v ts w d.3 in
    let k : IsClosed S x r.symbols = row_closed G S x r (c x) d.1 in
    elim (ahead_cases S (ahead S at_end symbols) r.symbols (sight G ts) (split_ahead S at_end r.symbols symbols _ p)) [
      | inl q ↦ has_before (S.first x) _ _ (is_ahead_within_lem S [] r.symbols (S.first x) k.first _ q)
      | inr q ↦ has_behind (S.first x) _ _ (rw (k.nullable q.0) q.1)
    ]
sight_ahead G S c (suc n) (Do a ∷ symbols) v ts w d = sight_ahead G S c n symbols (G.act a v) ts w d

-- so the row of a derivation is the one that is picked
pub row_picked : {N A T V : Type 0} (G : Grammar N A T V) (S : Sets N T) → ((x : N) → is_decided G S x ≡ true)
    → (n : ℕ) (x : N) (symbols : List (Sym N A)) (v : V) (ts : List T) (w : V) (r : Row N A V) → IsFollowed S (Non x ∷ symbols)
    → IsRow r (G.rows x) → allows r.guard v ≡ true → Derives G n (r.symbols ++ symbols) v ts w → pick G S x v (sight G ts) ≡ Some r
row_picked G S c n x symbols v ts w r f i g d =
    let p : has (ahead S at_end (r.symbols ++ symbols)) (sight G ts) ≡ true = sight_ahead G S c n (r.symbols ++ symbols) v ts w d in
    pick_row G S x r v (sight G ts) (c x) i (ahead_within S _ (S.follow x) r.symbols f.0 (sight G ts) (split_ahead S at_end r.symbols symbols _ p)) g

pub still_followed : {N A T V : Type 0} (G : Grammar N A T V) (S : Sets N T) → ((x : N) → is_decided G S x ≡ true)
    → (x : N) (symbols : List (Sym N A)) (r : Row N A V) → IsFollowed S (Non x ∷ symbols) → IsRow r (G.rows x) → IsFollowed S (r.symbols ++ symbols)
still_followed G S c x symbols r f i = let k : IsClosed S x r.symbols = row_closed G S x r (c x) i in row_followed S (S.follow x) r.symbols symbols k.follow f.0 f.1

pub complete_from : {N A T V : Type 0} (G : Grammar N A T V) (S : Sets N T) → ((x : N) → is_decided G S x ≡ true)
    → (n : ℕ) (symbols : List (Sym N A)) (v : V) (ts : List T) (w : V) → IsFollowed S symbols
    → Derives G n symbols v ts w → run G S n symbols v ts ≡ Done w
complete_from G S c zero [] v ts w f d = rw d.0 (ap Done d.1)
complete_from G S c zero (s ∷ symbols) v ts w f d = absurd d
complete_from G S c (suc n) [] v ts w f d = absurd d
complete_from G S c (suc n) (Tok k ∷ symbols) v ts w f d =
    let e : (G.kind d.0 == k) ≡ true = eq-eqb _ _ d.3 in
    rw (d.2, e) (complete_from G S c n symbols (G.take_in d.0 v) d.1 w f d.4)
complete_from G S c (suc n) (Non x ∷ symbols) v ts w f d =
    let e : pick G S x v (sight G ts) ≡ Some d.0 = row_picked G S c n x symbols v ts w d.0 f d.1 d.2 d.3 in
    rw e (complete_from G S c n (d.0.symbols ++ symbols) v ts w (still_followed G S c x symbols d.0 f d.1) d.3)
complete_from G S c (suc n) (Do a ∷ symbols) v ts w f d = complete_from G S c n symbols (G.act a v) ts w f d

pub complete : {N A T V : Type 0} → Complete N A T V
complete G S c n symbols v ts w s d = complete_from G S c n symbols v ts w (start_followed S symbols s) d

-- two derivations of one sentence take the same rows
agree : {N A T V : Type 0} (G : Grammar N A T V) (S : Sets N T) → ((x : N) → is_decided G S x ≡ true)
    → (m n : ℕ) (symbols : List (Sym N A)) (v : V) (ts : List T) (w u : V) → IsFollowed S symbols
    → Derives G m symbols v ts w → Derives G n symbols v ts u → w ≡ u
agree G S c zero zero [] v ts w u f d e = sym d.1 ∙ e.1
agree G S c zero (suc n) [] v ts w u f d e = absurd e
agree G S c zero zero (s ∷ symbols) v ts w u f d e = absurd d
agree G S c zero (suc n) (s ∷ symbols) v ts w u f d e = absurd d
agree G S c (suc m) zero [] v ts w u f d e = absurd d
agree G S c (suc m) (suc n) [] v ts w u f d e = absurd d
agree G S c (suc m) zero (s ∷ symbols) v ts w u f d e = absurd e
agree {N} {A} {T} {V} G S c (suc m) (suc n) (Tok k ∷ symbols) v ts w u f d e =
    let first : e.0 ≡ d.0 = cc (d.2, e.2) in
    let rest : e.1 ≡ d.1 = cc (d.2, e.2) in
    agree G S c m n symbols (G.take_in d.0 v) d.1 w u f d.4 (subst₂ (λ (t : T) (l : List T). Derives G n symbols (G.take_in t v) l u) first rest e.4)
agree {N} {A} {T} {V} G S c (suc m) (suc n) (Non x ∷ symbols) v ts w u f d e =
    let p : pick G S x v (sight G ts) ≡ Some d.0 = row_picked G S c m x symbols v ts w d.0 f d.1 d.2 d.3 in
    let q : pick G S x v (sight G ts) ≡ Some e.0 = row_picked G S c n x symbols v ts u e.0 f e.1 e.2 e.3 in
    let same : e.0 ≡ d.0 = cc (p, q) in
    agree G S c m n (d.0.symbols ++ symbols) v ts w u (still_followed G S c x symbols d.0 f d.1) d.3
    (subst (λ (r : Row N A V). Derives G n (r.symbols ++ symbols) v ts u) same e.3)
agree G S c (suc m) (suc n) (Do a ∷ symbols) v ts w u f d e = agree G S c m n symbols (G.act a v) ts w u f d e

pub one_value : {N A T V : Type 0} → OneValue N A T V
one_value G S c symbols v ts w u s y z = agree G S c y.0 z.0 symbols v ts w u (start_followed S symbols s) y.1 z.1

nullable_parts : {N A T : Type 0} (S : Sets N T) (front symbols : List (Sym N A)) → are_nullable S (front ++ symbols) ≡ true
    → (are_nullable S front ≡ true) × (are_nullable S symbols ≡ true)
nullable_parts S [] symbols h = (refl, h)
nullable_parts S (Tok k ∷ front) symbols h = absurd (cc)
nullable_parts {N} {A} S (Non x ∷ front) symbols h =
    let r : (are_nullable S front ≡ true) × (are_nullable S symbols ≡ true) = nullable_parts S front symbols (and_right _ _ h) in
    (both _ _ (and_left _ _ h) r.0, r.1)
nullable_parts S (Do a ∷ front) symbols h = nullable_parts S front symbols h

not_at_end : (b : Bool) (k : ℕ) → has (cond b at_end []) (Some k) ≡ true → ⊥
not_at_end true k h = (cc)
not_at_end false k h = (cc)

-- what derives no token is nullable
nothing_nullable : {N A T V : Type 0} (G : Grammar N A T V) (S : Sets N T) → ((x : N) → is_decided G S x ≡ true)
    → (n : ℕ) (symbols : List (Sym N A)) (v w : V) → Derives G n symbols v [] w → are_nullable S symbols ≡ true
nothing_nullable G S c zero [] v w d = refl
nothing_nullable G S c zero (s ∷ symbols) v w d = absurd d
nothing_nullable G S c (suc n) [] v w d = absurd d
nothing_nullable G S c (suc n) (Tok k ∷ symbols) v w d = absurd (cc (d.2))
nothing_nullable G S c (suc n) (Non x ∷ symbols) v w d =
    let p : are_nullable S (d.0.symbols ++ symbols) ≡ true = nothing_nullable G S c n (d.0.symbols ++ symbols) v w d.3 in
    let q : (are_nullable S d.0.symbols ≡ true) × (are_nullable S symbols ≡ true) = nullable_parts S d.0.symbols symbols p in
    both _ _ ((row_closed G S x d.0 (c x) d.1).nullable q.0) q.1
nothing_nullable G S c (suc n) (Do a ∷ symbols) v w d = nothing_nullable G S c n symbols (G.act a v) w d

pub begins : {N A T V : Type 0} → Begins N A T V
begins G S c x v w = (
  λ y. and_left _ _ (nothing_nullable G S c y.0 (Non x ∷ []) v w y.1),
  λ t ts y. elim (has-append (S.first x) _ _ (sight_ahead G S c y.0 (Non x ∷ []) v (t ∷ ts) w y.1)) [
    | inl q ↦ q
    | inr q ↦ absurd (not_at_end (S.nullable x) _ q)
  ],
)
