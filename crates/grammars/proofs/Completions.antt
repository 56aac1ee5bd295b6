-- Whatever the value, symbols derive something: by exit rows.
use Rattle.std.proofs.Common.{◌≡◌, ℕ, zero, suc, ◌+◌, ◌<◌, ◌≤◌, true, ◌&&◌, List, [], ◌∷◌, ◌++◌, inl, inr, refl, sym, ap, subst, eqb-true, ltb-true, lt-ltb, append_assoc, arith}
use Rattle.grammars.specs.Grammar.{Sym, Tok, Non, Do, Guard, Always, Where, allows, Row, Grammar, IsRow}
use Rattle.grammars.specs.Derivation.{Derives, Yields}
use Rattle.grammars.specs.Sets.{Sets, are_below, have_specimens, have_all_specimens, is_unguarded, have_exit, is_completable}
use Rattle.grammars.specs.Laws.{Completable}
use Rattle.grammars.proofs.Bools.{and_left, and_right, both, either}

-- derivations one after another
pub joined : {N A T V : Type 0} (G : Grammar N A T V) (n : ℕ) (front symbols : List (Sym N A)) (v u w : V) (ts rest : List T)
    → Derives G n front v ts u → Yields G symbols u rest w → Yields G (front ++ symbols) v (ts ++ rest) w
joined {N} {A} {T} {V} G zero [] symbols v u w ts rest d y = rw (d.0, d.1) y
joined G zero (s ∷ front) symbols v u w ts rest d y = absurd d
joined G (suc n) [] symbols v u w ts rest d y = absurd d
joined {N} {A} {T} {V} G (suc n) (Tok k ∷ front) symbols v u w ts rest d y =
    let z : Yields G (front ++ symbols) (G.take_in d.0 v) (d.1 ++ rest) w = joined G n front symbols (G.take_in d.0 v) u w d.1 rest d.4 y in
    (suc z.0, (d.0, d.1 ++ rest, ap (λ (l : List T). l ++ rest) d.2, d.3, z.1))
joined {N} {A} {T} {V} G (suc n) (Non x ∷ front) symbols v u w ts rest d y =
    let z : Yields G ((d.0.symbols ++ front) ++ symbols) v (ts ++ rest) w = joined G n (d.0.symbols ++ front) symbols v u w ts rest d.3 y in
    (suc z.0, (d.0, d.1, d.2, subst (λ (l : List (Sym N A)). Derives G z.0 l v (ts ++ rest) w) (append_assoc d.0.symbols front symbols) z.1))
joined {N} {A} {T} {V} G (suc n) (Do a ∷ front) symbols v u w ts rest d y =
    let z : Yields G (front ++ symbols) (G.act a v) (ts ++ rest) w = joined G n front symbols (G.act a v) u w ts rest d y in
    (suc z.0, z.1)

-- an exit row of x
abbrev pub HasExit : {N A T V : Type 0} → Grammar N A T V → Sets N T → ℕ → List (Row N A V) → Type 0
HasExit {N} {A} {T} {V} G S n rows =
    (r : Row N A V) × IsRow r rows × ((v : V) → allows r.guard v ≡ true) × (are_below S n r.symbols ≡ true) × (have_specimens G S r.symbols ≡ true)

unguarded_allows : {V : Type 0} (g : Guard V) (v : V) → is_unguarded g ≡ true → allows g v ≡ true
unguarded_allows Always v h = refl
unguarded_allows (Where test) v h = absurd (cc)

exit_row : {N A T V : Type 0} (G : Grammar N A T V) (S : Sets N T) (n : ℕ) (rows : List (Row N A V))
    → have_exit S n rows ≡ true → have_all_specimens G S rows ≡ true → HasExit G S n rows
exit_row G S n [] h k = absurd (cc)
exit_row {N} {A} {T} {V} G S n (r ∷ rows) h k = elim (either (is_unguarded r.guard && are_below S n r.symbols) _ h) [
  | inl q ↦ (r, inl refl, λ v. unguarded_allows r.guard v (and_left _ _ q), and_right _ _ q, and_left _ _ k)
  | inr q ↦ let e : HasExit G S n rows = exit_row G S n rows q (and_right _ _ k) in (e.0, inr e.1, e.2, e.3, e.4)
]

below_less : {N A T : Type 0} (S : Sets N T) (m n : ℕ) (symbols : List (Sym N A)) → m ≤ n → are_below S m symbols ≡ true → are_below S n symbols ≡ true
below_less S m n [] l h = refl
below_less S m n (Tok k ∷ symbols) l h = below_less S m n symbols l h
below_less S m n (Non x ∷ symbols) l h = both _ _ (let p : S.rank x < m = ltb-true _ _ (and_left _ _ h) in lt-ltb _ _ (omega arith)) (below_less S m n symbols l (and_right _ _ h))
below_less S m n (Do a ∷ symbols) l h = below_less S m n symbols l h

lower_rank : (m n : ℕ) → m < suc n → m ≤ n
lower_rank m n h = omega arith

-- The row by which x gives way at v has nonterminals of lower ranks alone, and `Leads` holds of x where it holds of the row.
abbrev pub HasWay : {N A T V : Type 0} → Grammar N A T V → Sets N T → (List (Sym N A) → V → V → Type 0) → N → V → Type 0
HasWay {N} {A} {T} {V} G S Leads x v =
    (r : Row N A V) × IsRow r (G.rows x) × (allows r.guard v ≡ true) × (are_below S (S.rank x) r.symbols ≡ true) × (have_specimens G S r.symbols ≡ true)
    × ((symbols : List (Sym N A)) (u w : V) → Leads r.symbols v u → Leads symbols u w → Leads (Non x ∷ symbols) v w)

-- what holds of symbols where it holds step by step, each token being the specimen of its kind
pub record IsLed {N A T V : Type 0} (G : Grammar N A T V) (S : Sets N T) (Leads : List (Sym N A) → V → V → Type 0) : Type 0 where
  pub nothing : (v : V) → Leads [] v v
  pub token : (k : ℕ) (symbols : List (Sym N A)) (v w : V) → G.kind (S.specimen k) ≡ k → Leads symbols (G.take_in (S.specimen k) v) w → Leads (Tok k ∷ symbols) v w
  pub action : (a : A) (symbols : List (Sym N A)) (v w : V) → Leads symbols (G.act a v) w → Leads (Do a ∷ symbols) v w
  pub rows : (x : N) (v : V) → HasWay G S Leads x v

-- each token is the specimen of some kind
abbrev pub AreSpecimens : {N T : Type 0} → Sets N T → List T → Type 0
AreSpecimens S [] = Unit {0}
AreSpecimens S (t ∷ ts) = ((k : ℕ) × (t ≡ S.specimen k)) × AreSpecimens S ts

specimens_both : {N T : Type 0} (S : Sets N T) (ts us : List T) → AreSpecimens S ts → AreSpecimens S us → AreSpecimens S (ts ++ us)
specimens_both S [] us h k = k
specimens_both S (t ∷ ts) us h k = (h.0, specimens_both S ts us h.1 k)

-- the symbols derive specimens from v, and lead there
abbrev pub IsAnswered : {N A T V : Type 0} → Grammar N A T V → Sets N T → (List (Sym N A) → V → V → Type 0) → List (Sym N A) → V → Type 0
IsAnswered {N} {A} {T} {V} G S Leads symbols v = (ts : List T) × (w : V) × Yields G symbols v ts w × Leads symbols v w × AreSpecimens S ts

-- if all symbols of ranks below n are answered, so are those of ranks up to n
one_rank : {N A T V : Type 0} (G : Grammar N A T V) (S : Sets N T) (Leads : List (Sym N A) → V → V → Type 0) → IsLed G S Leads → (n : ℕ)
    → ((symbols : List (Sym N A)) (v : V) → are_below S n symbols ≡ true → have_specimens G S symbols ≡ true → IsAnswered G S Leads symbols v)
    → (symbols : List (Sym N A)) (v : V) → are_below S (suc n) symbols ≡ true → have_specimens G S symbols ≡ true → IsAnswered G S Leads symbols v
one_rank G S Leads i n lower [] v h k = ([], v, (zero, (refl, refl)), i.nothing v, tt)
one_rank {N} {A} {T} {V} G S Leads i n lower (Tok t ∷ symbols) v h k =
    let a : IsAnswered G S Leads symbols (G.take_in (S.specimen t) v) = one_rank G S Leads i n lower symbols (G.take_in (S.specimen t) v) h (and_right _ _ k) in
    (S.specimen t ∷ a.0, a.1, (suc a.2.0, (S.specimen t, a.0, refl, eqb-true _ _ (and_left _ _ k), a.2.1)), i.token t symbols v a.1 (eqb-true _ _ (and_left _ _ k)) a.3, ((t, refl), a.4))
one_rank {N} {A} {T} {V} G S Leads i n lower (Non x ∷ symbols) v h k =
    let e : HasWay G S Leads x v = i.rows x v in
    let a : IsAnswered G S Leads e.0.symbols v = lower e.0.symbols v (below_less S (S.rank x) n e.0.symbols (lower_rank (S.rank x) n (ltb-true _ _ (and_left _ _ h))) e.3) e.4 in
    let b : IsAnswered G S Leads symbols a.1 = one_rank G S Leads i n lower symbols a.1 (and_right _ _ h) k in
    let y : Yields G (e.0.symbols ++ symbols) v (a.0 ++ b.0) b.1 = joined G a.2.0 e.0.symbols symbols v a.1 b.1 a.0 b.0 a.2.1 b.2 in
    (a.0 ++ b.0, b.1, (suc y.0, (e.0, e.1, e.2, y.1)), e.5 symbols a.1 b.1 a.3 b.3, specimens_both S a.0 b.0 a.4 b.4)
one_rank {N} {A} {T} {V} G S Leads i n lower (Do act ∷ symbols) v h k =
    let a : IsAnswered G S Leads symbols (G.act act v) = one_rank G S Leads i n lower symbols (G.act act v) h k in
    (a.0, a.1, (suc a.2.0, a.2.1), i.action act symbols v a.1 a.3, a.4)

-- no symbol has a rank below 0
unranked : {N A T V : Type 0} (G : Grammar N A T V) (S : Sets N T) (Leads : List (Sym N A) → V → V → Type 0) → IsLed G S Leads
    → (symbols : List (Sym N A)) (v : V) → are_below S zero symbols ≡ true → have_specimens G S symbols ≡ true → IsAnswered G S Leads symbols v
unranked G S Leads i [] v h k = ([], v, (zero, (refl, refl)), i.nothing v, tt)
unranked {N} {A} {T} {V} G S Leads i (Tok t ∷ symbols) v h k =
    let a : IsAnswered G S Leads symbols (G.take_in (S.specimen t) v) = unranked G S Leads i symbols (G.take_in (S.specimen t) v) h (and_right _ _ k) in
    (S.specimen t ∷ a.0, a.1, (suc a.2.0, (S.specimen t, a.0, refl, eqb-true _ _ (and_left _ _ k), a.2.1)), i.token t symbols v a.1 (eqb-true _ _ (and_left _ _ k)) a.3, ((t, refl), a.4))
unranked G S Leads i (Non x ∷ symbols) v h k = let p : S.rank x < 0 = ltb-true _ _ (and_left _ _ h) in absurd (omega arith)
unranked {N} {A} {T} {V} G S Leads i (Do act ∷ symbols) v h k =
    let a : IsAnswered G S Leads symbols (G.act act v) = unranked G S Leads i symbols (G.act act v) h k in
    (a.0, a.1, (suc a.2.0, a.2.1), i.action act symbols v a.1 a.3, a.4)

below_answered : {N A T V : Type 0} (G : Grammar N A T V) (S : Sets N T) (Leads : List (Sym N A) → V → V → Type 0) → IsLed G S Leads
    → (n : ℕ) (symbols : List (Sym N A)) (v : V) → are_below S n symbols ≡ true → have_specimens G S symbols ≡ true → IsAnswered G S Leads symbols v
below_answered G S Leads i zero symbols v h k = unranked G S Leads i symbols v h k
below_answered G S Leads i (suc n) symbols v h k = one_rank G S Leads i n (below_answered G S Leads i n) symbols v h k

-- above all their ranks
some_bound : {N A T : Type 0} (S : Sets N T) (symbols : List (Sym N A)) → (n : ℕ) × (are_below S n symbols ≡ true)
some_bound S [] = (zero, refl)
some_bound S (Tok k ∷ symbols) = some_bound S symbols
some_bound {N} {A} {T} S (Non x ∷ symbols) =
    let b : (n : ℕ) × (are_below S n symbols ≡ true) = some_bound S symbols in
    let top : ℕ = suc (S.rank x) + b.0 in
    (top, both _ _ (lt-ltb _ _ (omega arith)) (below_less S b.0 top symbols (omega arith) b.1))
some_bound S (Do a ∷ symbols) = some_bound S symbols

pub answered : {N A T V : Type 0} (G : Grammar N A T V) (S : Sets N T) (Leads : List (Sym N A) → V → V → Type 0) → IsLed G S Leads
    → (symbols : List (Sym N A)) (v : V) → have_specimens G S symbols ≡ true → IsAnswered G S Leads symbols v
answered G S Leads i symbols v k = let b : (n : ℕ) × (are_below S n symbols ≡ true) = some_bound S symbols in below_answered G S Leads i b.0 symbols v b.1 k

-- a row without a guard, whatever it leads to
anywhere : {N A T V : Type 0} (G : Grammar N A T V) (S : Sets N T) → ((x : N) → is_completable G S x ≡ true) → IsLed G S (λ symbols v w. Unit {0})
anywhere {N} {A} {T} {V} G S c = record {
  nothing = λ v. tt;
  token = λ k symbols v w e h. tt;
  action = λ a symbols v w h. tt;
  rows = λ x v.
      let e : HasExit G S (S.rank x) (G.rows x) = exit_row G S (S.rank x) (G.rows x) (and_left _ _ (c x)) (and_right _ _ (c x)) in
      (e.0, e.1, e.2 v, e.3, e.4, λ symbols u w g h. tt);
}

pub completable : {N A T V : Type 0} → Completable N A T V
completable G S c symbols v k = let a : IsAnswered G S (λ symbols v w. Unit {0}) symbols v = answered G S _ (anywhere G S c) symbols v k in (a.0, a.1, a.2)

-- the row's tokens have specimens too
pub row_has_specimens : {N A T V : Type 0} (G : Grammar N A T V) (S : Sets N T) (rows : List (Row N A V)) (r : Row N A V)
    → have_all_specimens G S rows ≡ true → IsRow r rows → have_specimens G S r.symbols ≡ true
row_has_specimens G S [] r h i = absurd i
row_has_specimens {N} {A} {T} {V} G S (q ∷ rows) r h (inl e) = subst (λ (y : Row N A V). have_specimens G S y.symbols ≡ true) (sym e) (and_left _ _ h)
row_has_specimens G S (q ∷ rows) r h (inr i) = row_has_specimens G S rows r (and_right _ _ h) i

pub specimens_joined : {N A T V : Type 0} (G : Grammar N A T V) (S : Sets N T) (front symbols : List (Sym N A))
    → have_specimens G S front ≡ true → have_specimens G S symbols ≡ true → have_specimens G S (front ++ symbols) ≡ true
specimens_joined G S [] symbols h k = k
specimens_joined G S (Tok t ∷ front) symbols h k = both _ _ (and_left _ _ h) (specimens_joined G S front symbols (and_right _ _ h) k)
specimens_joined G S (Non x ∷ front) symbols h k = specimens_joined G S front symbols h k
specimens_joined G S (Do a ∷ front) symbols h k = specimens_joined G S front symbols h k
