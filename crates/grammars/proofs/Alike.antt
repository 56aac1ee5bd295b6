-- Runs of grammars whose values correspond.
use Rattle.std.proofs.Common.{◌≡◌, ℕ, zero, suc, Bool, true, false, cond, ◌&&◌, ◌==◌, List, [], ◌∷◌, ◌++◌, refl, ap, subst, Option, Some, None}
use Rattle.grammars.specs.Grammar.{Sym, Tok, Non, Do, allows, Row, Grammar, Sight, sight}
use Rattle.grammars.specs.Sets.{Sets, has, ahead}
use Rattle.grammars.specs.Alike.{RowsAgree, Agree, OutcomesAgree}
use Rattle.grammars.specs.Run.{Stuck, first_row, pick, expand, run}

abbrev PicksAgree : {N A V W : Type 0} → Option (Row N A V) → Option (Row N A W) → Type 0
PicksAgree None None = Unit {0}
PicksAgree None (Some q) = ⊥
PicksAgree (Some r) None = ⊥
PicksAgree (Some r) (Some q) = r.symbols ≡ q.symbols

rows_pick : {N A T V W : Type 0} (R : V → W → Type 0) (S : Sets N T) (x : N) (v : V) (w : W) (s : Sight) (rows : List (Row N A V)) (others : List (Row N A W))
    → R v w → RowsAgree R rows others
    → PicksAgree (first_row (λ r. has (ahead S (S.follow x) r.symbols) s && allows r.guard v) rows)
    (first_row (λ r. has (ahead S (S.follow x) r.symbols) s && allows r.guard w) others)
rows_pick R S x v w s [] [] h a = tt
rows_pick R S x v w s [] (q ∷ others) h a = absurd a
rows_pick R S x v w s (r ∷ rows) [] h a = absurd a
rows_pick {N} {A} {T} {V} {W} R S x v w s (r ∷ rows) (q ∷ others) h a =
    step (has (ahead S (S.follow x) r.symbols) s && allows r.guard v) (has (ahead S (S.follow x) q.symbols) s && allows q.guard w)
    (cc (ap (λ (l : List (Sym N A)). has (ahead S (S.follow x) l) s) a.0, a.1 v w h)) (rows_pick R S x v w s rows others h a.2)
  where
    step : (b c : Bool) → b ≡ c → PicksAgree (first_row (λ r. has (ahead S (S.follow x) r.symbols) s && allows r.guard v) rows)
        (first_row (λ r. has (ahead S (S.follow x) r.symbols) s && allows r.guard w) others)
        → PicksAgree (cond b (Some r) (first_row (λ r. has (ahead S (S.follow x) r.symbols) s && allows r.guard v) rows))
        (cond c (Some q) (first_row (λ r. has (ahead S (S.follow x) r.symbols) s && allows r.guard w) others))
    step true true e p = a.0
    step true false e p = absurd (cc)
    step false true e p = absurd (cc)
    step false false e p = p

same_sights : {N A T V W : Type 0} (G : Grammar N A T V) (H : Grammar N A T W) (R : V → W → Type 0) → Agree G H R → (ts : List T) → sight G ts ≡ sight H ts
same_sights G H R g [] = refl
same_sights G H R g (t ∷ ts) = ap Some (g.kind t)

pub runs_agree : {N A T V W : Type 0} (G : Grammar N A T V) (H : Grammar N A T W) (R : V → W → Type 0) (S : Sets N T) → Agree G H R
    → (n : ℕ) (symbols : List (Sym N A)) (v : V) (w : W) (ts : List T) → R v w → OutcomesAgree R (run G S n symbols v ts) (run H S n symbols w ts)
runs_agree G H R S g zero [] v w [] h = h
runs_agree G H R S g (suc n) [] v w [] h = h
runs_agree G H R S g zero [] v w (t ∷ ts) h = refl
runs_agree G H R S g (suc n) [] v w (t ∷ ts) h = refl
runs_agree G H R S g zero (s ∷ symbols) v w ts h = tt
runs_agree G H R S g (suc n) (Tok k ∷ symbols) v w [] h = refl
runs_agree {N} {A} {T} {V} {W} G H R S g (suc n) (Tok k ∷ symbols) v w (t ∷ ts) h =
    step (G.kind t == k) (H.kind t == k) (ap (λ (x : ℕ). x == k) (g.kind t)) (runs_agree G H R S g n symbols (G.take_in t v) (H.take_in t w) ts (g.take_in t v w h))
  where
    step : (b c : Bool) → b ≡ c → OutcomesAgree R (run G S n symbols (G.take_in t v) ts) (run H S n symbols (H.take_in t w) ts)
        → OutcomesAgree R (cond b (run G S n symbols (G.take_in t v) ts) (Stuck (t ∷ ts))) (cond c (run H S n symbols (H.take_in t w) ts) (Stuck (t ∷ ts)))
    step true true e p = p
    step true false e p = absurd (cc)
    step false true e p = absurd (cc)
    step false false e p = refl
runs_agree {N} {A} {T} {V} {W} G H R S g (suc n) (Non x ∷ symbols) v w ts h =
    step (pick G S x v (sight G ts)) (pick H S x w (sight H ts))
    (subst (λ (s : Sight). PicksAgree (pick G S x v (sight G ts)) (pick H S x w s)) (same_sights G H R g ts) (rows_pick R S x v w (sight G ts) (G.rows x) (H.rows x) h (g.rows x)))
    (λ l. runs_agree G H R S g n l v w ts h)
  where
    step : (o : Option (Row N A V)) (p : Option (Row N A W)) → PicksAgree o p
        → ((l : List (Sym N A)) → OutcomesAgree R (run G S n l v ts) (run H S n l w ts))
        → OutcomesAgree R (expand (run G S n) symbols v ts o) (expand (run H S n) symbols w ts p)
    step None None a rec = refl
    step None (Some q) a rec = absurd a
    step (Some r) None a rec = absurd a
    step (Some r) (Some q) a rec = subst (λ (l : List (Sym N A)). OutcomesAgree R (run G S n (r.symbols ++ symbols) v ts) (run H S n (l ++ symbols) w ts)) a (rec (r.symbols ++ symbols))
runs_agree G H R S g (suc n) (Do a ∷ symbols) v w ts h = runs_agree G H R S g n symbols (G.act a v) (H.act a w) ts (g.act a v w h)
