-- What is run to its end is derived.
use Rattle.std.proofs.Common.{◌≡◌, ℕ, zero, suc, Bool, true, false, cond, ◌==◌, List, [], ◌∷◌, ◌++◌, refl, eqb-true, Option, Some, None}
use Rattle.grammars.specs.Grammar.{Sym, Tok, Non, Do, allows, Row, Grammar, IsRow, sight}
use Rattle.grammars.specs.Derivation.{Yields}
use Rattle.grammars.specs.Run.{Done, Stuck, pick, expand, run}
use Rattle.grammars.specs.Laws.{Sound}
use Rattle.grammars.proofs.Rows.{pick_is_row}

token_read : {N A T V : Type 0} (G : Grammar N A T V) (k : ℕ) (symbols : List (Sym N A)) (v : V) (t : T) (ts : List T) (w : V) → G.kind t ≡ k
    → Yields G symbols (G.take_in t v) ts w → Yields G (Tok k ∷ symbols) v (t ∷ ts) w
token_read G k symbols v t ts w e y = (suc y.0, (t, ts, refl, e, y.1))

pub sound : {N A T V : Type 0} → Sound N A T V
sound G S zero [] v [] w h = (zero, (refl, (cc)))
sound G S (suc n) [] v [] w h = (zero, (refl, (cc)))
sound G S zero [] v (t ∷ ts) w h = absurd (cc)
sound G S (suc n) [] v (t ∷ ts) w h = absurd (cc)
sound G S zero (s ∷ symbols) v ts w h = absurd (cc)
sound G S (suc n) (Tok k ∷ symbols) v [] w h = absurd (cc)
sound {N} {A} {T} {V} G S (suc n) (Tok k ∷ symbols) v (t ∷ ts) w h = step (G.kind t == k) refl h (sound G S n symbols (G.take_in t v) ts w)
  where
    step : (b : Bool) → (G.kind t == k) ≡ b → cond b (run G S n symbols (G.take_in t v) ts) (Stuck (t ∷ ts)) ≡ Done w
        → (run G S n symbols (G.take_in t v) ts ≡ Done w → Yields G symbols (G.take_in t v) ts w) → Yields G (Tok k ∷ symbols) v (t ∷ ts) w
    step true e p rec = token_read G k symbols v t ts w (eqb-true _ _ e) (rec p)
    step false e p rec = absurd (cc)
sound {N} {A} {T} {V} G S (suc n) (Non x ∷ symbols) v ts w h = step (pick G S x v (sight G ts)) refl h (λ ss. sound G S n ss v ts w)
  where
    step : (o : Option (Row N A V)) → pick G S x v (sight G ts) ≡ o → expand (run G S n) symbols v ts o ≡ Done w
        → ((ss : List (Sym N A)) → run G S n ss v ts ≡ Done w → Yields G ss v ts w) → Yields G (Non x ∷ symbols) v ts w
    step None e p rec = absurd (cc)
    step (Some r) e p rec =
        let q : IsRow r (G.rows x) × (allows r.guard v ≡ true) = pick_is_row G S x v (sight G ts) r e in
        let y : Yields G (r.symbols ++ symbols) v ts w = rec (r.symbols ++ symbols) p in
        (suc y.0, (r, q.0, q.1, y.1))
sound G S (suc n) (Do a ∷ symbols) v ts w h = let y : Yields G symbols (G.act a v) ts w = sound G S n symbols (G.act a v) ts w h in (suc y.0, y.1)
