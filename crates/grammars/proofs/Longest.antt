-- Where a run is stuck, it has read the longest front.
use Rattle.std.proofs.Common.{◌≡◌, ℕ, zero, suc, Bool, true, false, cond, ◌==◌, List, [], ◌∷◌, ◌++◌, refl, sym, ap, ◌∙◌, subst, subst₂, eq-eqb, eqb-true, Option, Some, None}
use Rattle.grammars.specs.Grammar.{Sym, Tok, Non, Do, allows, Row, Grammar, IsRow, sight}
use Rattle.grammars.specs.Derivation.{Derives, Yields}
use Rattle.grammars.specs.Sets.{Sets, is_decided, is_completable, have_specimens}
use Rattle.grammars.specs.Run.{Stuck, pick, expand, run}
use Rattle.grammars.specs.Laws.{Longest, IsFront, IsNoFrontAt}
use Rattle.grammars.proofs.Bools.{and_right}
use Rattle.grammars.proofs.Rows.{pick_is_row}
use Rattle.grammars.proofs.Complete.{IsFollowed, start_followed, row_picked, still_followed}
use Rattle.grammars.proofs.Completions.{completable, row_has_specimens, specimens_joined}

-- the longest front of these symbols, with what is left of the tokens
abbrev pub IsLongest : {N A T V : Type 0} → Grammar N A T V → List (Sym N A) → V → List T → List T → Type 0
IsLongest {N} {A} {T} {V} G symbols v ts rest =
    (front : List T) × (ts ≡ front ++ rest) × IsFront G symbols v front × IsNoFrontAt G symbols v front rest

-- stuck at once
at_once : {N A T V : Type 0} (G : Grammar N A T V) (symbols : List (Sym N A)) (v : V) (ts rest : List T) → ts ≡ rest → (more : List T) × (w : V) × Yields G symbols v more w
    → ((more : List T) (w : V) → sight G more ≡ sight G ts → Yields G symbols v more w → ⊥) → IsLongest G symbols v ts rest
at_once {N} {A} {T} {V} G symbols v ts rest e a n =
    ([], e, (a.0, a.1, a.2), λ more w s y. n more w (s ∙ ap (sight G) (sym e)) y)

-- what lies ahead of a front and more is known from the tokens read
same_ahead : {N A T V : Type 0} (G : Grammar N A T V) (front more rest : List T) → sight G more ≡ sight G rest → sight G (front ++ more) ≡ sight G (front ++ rest)
same_ahead G [] more rest s = s
same_ahead G (t ∷ front) more rest s = refl

nothing_ends : {N A T V : Type 0} (G : Grammar N A T V) (v : V) (t : T) (ts more : List T) (w : V) → sight G more ≡ sight G (t ∷ ts)
    → Yields {A = A} G [] v more w → ⊥
nothing_ends {N} {A} {T} {V} G v t ts more w s y = go y.0 y.1
  where
    go : (n : ℕ) → Derives {A = A} G n [] v more w → ⊥
    go zero d = let e : sight G more ≡ None = ap (sight G) d.0 in (cc)
    go (suc n) d = d

no_token : {N A T V : Type 0} (G : Grammar N A T V) (k : ℕ) (symbols : List (Sym N A)) (v : V) (more : List T) (w : V) → sight G more ≡ None
    → Yields G (Tok k ∷ symbols) v more w → ⊥
no_token {N} {A} {T} {V} G k symbols v more w s y = go y.0 y.1
  where
    go : (n : ℕ) → Derives G n (Tok k ∷ symbols) v more w → ⊥
    go zero d = d
    go (suc n) d = let e : sight G more ≡ Some (G.kind d.0) = ap (sight G) d.2 in (cc)

other_token : {N A T V : Type 0} (G : Grammar N A T V) (k : ℕ) (symbols : List (Sym N A)) (v : V) (t : T) (ts more : List T) (w : V)
    → (G.kind t == k) ≡ false → sight G more ≡ Some (G.kind t) → Yields G (Tok k ∷ symbols) v more w → ⊥
other_token {N} {A} {T} {V} G k symbols v t ts more w b s y = go y.0 y.1
  where
    go : (n : ℕ) → Derives G n (Tok k ∷ symbols) v more w → ⊥
    go zero d = d
    go (suc n) d =
        let e : sight G more ≡ Some (G.kind d.0) = ap (sight G) d.2 in
        let same : G.kind t ≡ k = cc (e, s, d.3) in
        let yes_it_is : (G.kind t == k) ≡ true = eq-eqb _ _ same in (cc)

no_row : {N A T V : Type 0} (G : Grammar N A T V) (S : Sets N T) → ((x : N) → is_decided G S x ≡ true)
    → (x : N) (symbols : List (Sym N A)) (v : V) (ts more : List T) (w : V) → IsFollowed S (Non x ∷ symbols)
    → pick G S x v (sight G ts) ≡ None → sight G more ≡ sight G ts → Yields G (Non x ∷ symbols) v more w → ⊥
no_row {N} {A} {T} {V} G S c x symbols v ts more w f p s y = go y.0 y.1
  where
    go : (n : ℕ) → Derives G n (Non x ∷ symbols) v more w → ⊥
    go zero d = d
    go (suc n) d =
        let e : pick G S x v (sight G more) ≡ Some d.0 = row_picked G S c n x symbols v more w d.0 f d.1 d.2 d.3 in
        let q : pick G S x v (sight G more) ≡ pick G S x v (sight G ts) = ap (pick G S x v) s in (cc)

token_longest : {N A T V : Type 0} (G : Grammar N A T V) (k : ℕ) (symbols : List (Sym N A)) (v : V) (t : T) (ts rest : List T) → G.kind t ≡ k
    → IsLongest G symbols (G.take_in t v) ts rest → IsLongest G (Tok k ∷ symbols) v (t ∷ ts) rest
token_longest {N} {A} {T} {V} G k symbols v t ts rest e l =
    (t ∷ l.0, ap (λ (x : List T). t ∷ x) l.1, (l.2.0, l.2.1, (suc l.2.2.0, (t, l.0 ++ l.2.0, refl, e, l.2.2.1))), λ more w s y. go more w s y.0 y.1)
  where
    go : (more : List T) (w : V) → sight G more ≡ sight G rest → (n : ℕ) → Derives G n (Tok k ∷ symbols) v (t ∷ (l.0 ++ more)) w → ⊥
    go more w s zero d = d
    go more w s (suc n) d =
        let first : d.0 ≡ t = cc (d.2) in
        let behind : d.1 ≡ l.0 ++ more = cc (d.2) in
        l.3 more w s (n, subst₂ (λ (x : T) (b : List T). Derives G n symbols (G.take_in x v) b w) first behind d.4)

action_longest : {N A T V : Type 0} (G : Grammar N A T V) (a : A) (symbols : List (Sym N A)) (v : V) (ts rest : List T)
    → IsLongest G symbols (G.act a v) ts rest → IsLongest G (Do a ∷ symbols) v ts rest
action_longest {N} {A} {T} {V} G a symbols v ts rest l =
    (l.0, l.1, (l.2.0, l.2.1, (suc l.2.2.0, l.2.2.1)), λ more w s y. go more w s y.0 y.1)
  where
    go : (more : List T) (w : V) → sight G more ≡ sight G rest → (n : ℕ) → Derives G n (Do a ∷ symbols) v (l.0 ++ more) w → ⊥
    go more w s zero d = d
    go more w s (suc n) d = l.3 more w s (n, d)

row_longest : {N A T V : Type 0} (G : Grammar N A T V) (S : Sets N T) → ((x : N) → is_decided G S x ≡ true)
    → (x : N) (symbols : List (Sym N A)) (v : V) (ts rest : List T) (r : Row N A V) → IsFollowed S (Non x ∷ symbols)
    → pick G S x v (sight G ts) ≡ Some r → IsLongest G (r.symbols ++ symbols) v ts rest → IsLongest G (Non x ∷ symbols) v ts rest
row_longest {N} {A} {T} {V} G S c x symbols v ts rest r f p l =
    let q : IsRow r (G.rows x) × (allows r.guard v ≡ true) = pick_is_row G S x v (sight G ts) r p in
    (l.0, l.1, (l.2.0, l.2.1, (suc l.2.2.0, (r, q.0, q.1, l.2.2.1))), λ more w s y. go more w s y.0 y.1)
  where
    go : (more : List T) (w : V) → sight G more ≡ sight G rest → (n : ℕ) → Derives G n (Non x ∷ symbols) v (l.0 ++ more) w → ⊥
    go more w s zero d = d
    go more w s (suc n) d =
        let e : pick G S x v (sight G (l.0 ++ more)) ≡ Some d.0 = row_picked G S c n x symbols v (l.0 ++ more) w d.0 f d.1 d.2 d.3 in
        let a : sight G (l.0 ++ more) ≡ sight G ts = same_ahead G l.0 more rest s ∙ ap (sight G) (sym l.1) in
        let b : pick G S x v (sight G (l.0 ++ more)) ≡ pick G S x v (sight G ts) = ap (pick G S x v) a in
        let same : d.0 ≡ r = cc (e, b, p) in
        l.3 more w s (n, subst (λ (y : Row N A V). Derives G n (y.symbols ++ symbols) v (l.0 ++ more) w) same d.3)

longest_from : {N A T V : Type 0} (G : Grammar N A T V) (S : Sets N T) → ((x : N) → is_decided G S x ≡ true) → ((x : N) → is_completable G S x ≡ true)
    → (n : ℕ) (symbols : List (Sym N A)) (v : V) (ts rest : List T)
    → IsFollowed S symbols → have_specimens G S symbols ≡ true → run G S n symbols v ts ≡ Stuck rest → IsLongest G symbols v ts rest
longest_from G S c m zero [] v [] rest f k h = absurd (cc)
longest_from G S c m (suc n) [] v [] rest f k h = absurd (cc)
longest_from G S c m zero [] v (t ∷ ts) rest f k h = at_once G [] v (t ∷ ts) rest (cc) (completable G S m [] v refl) (λ more w s y. nothing_ends G v t ts more w s y)
longest_from G S c m (suc n) [] v (t ∷ ts) rest f k h = at_once G [] v (t ∷ ts) rest (cc) (completable G S m [] v refl) (λ more w s y. nothing_ends G v t ts more w s y)
longest_from G S c m zero (s ∷ symbols) v ts rest f k h = absurd (cc)
longest_from G S c m (suc n) (Tok kind ∷ symbols) v [] rest f k h =
    at_once G (Tok kind ∷ symbols) v [] rest (cc) (completable G S m (Tok kind ∷ symbols) v k) (λ more w s y. no_token G kind symbols v more w s y)
longest_from {N} {A} {T} {V} G S c m (suc n) (Tok kind ∷ symbols) v (t ∷ ts) rest f k h =
    step (G.kind t == kind) refl h (longest_from G S c m n symbols (G.take_in t v) ts rest f (and_right _ _ k))
  where
    step : (b : Bool) → (G.kind t == kind) ≡ b → cond b (run G S n symbols (G.take_in t v) ts) (Stuck (t ∷ ts)) ≡ Stuck rest
        → (run G S n symbols (G.take_in t v) ts ≡ Stuck rest → IsLongest G symbols (G.take_in t v) ts rest) → IsLongest G (Tok kind ∷ symbols) v (t ∷ ts) rest
    step true e p rec = token_longest G kind symbols v t ts rest (eqb-true _ _ e) (rec p)
    step false e p rec = at_once G (Tok kind ∷ symbols) v (t ∷ ts) rest (cc) (completable G S m (Tok kind ∷ symbols) v k) (λ more w s y. other_token G kind symbols v t ts more w e s y)
longest_from {N} {A} {T} {V} G S c m (suc n) (Non x ∷ symbols) v ts rest f k h =
    step (pick G S x v (sight G ts)) refl h (λ ss. longest_from G S c m n ss v ts rest)
  where
    step : (o : Option (Row N A V)) → pick G S x v (sight G ts) ≡ o → expand (run G S n) symbols v ts o ≡ Stuck rest
        → ((ss : List (Sym N A)) → IsFollowed S ss → have_specimens G S ss ≡ true → run G S n ss v ts ≡ Stuck rest → IsLongest G ss v ts rest)
        → IsLongest G (Non x ∷ symbols) v ts rest
    step None e p rec = at_once G (Non x ∷ symbols) v ts rest (cc) (completable G S m (Non x ∷ symbols) v k) (λ more w s y. no_row G S c x symbols v ts more w f e s y)
    step (Some r) e p rec =
        let q : IsRow r (G.rows x) × (allows r.guard v ≡ true) = pick_is_row G S x v (sight G ts) r e in
        row_longest G S c x symbols v ts rest r f e
        (rec (r.symbols ++ symbols) (still_followed G S c x symbols r f q.0)
        (specimens_joined G S r.symbols symbols (row_has_specimens G S (G.rows x) r (and_right _ _ (m x)) q.0) k) p)
longest_from {N} {A} {T} {V} G S c m (suc n) (Do a ∷ symbols) v ts rest f k h =
    action_longest G a symbols v ts rest (longest_from G S c m n symbols (G.act a v) ts rest f k h)

pub longest : {N A T V : Type 0} → Longest N A T V
longest G S c m n symbols v ts rest s k h = longest_from G S c m n symbols v ts rest (start_followed S symbols s) k h
