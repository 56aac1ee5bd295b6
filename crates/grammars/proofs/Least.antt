-- No derivation leads to less than the least, and one leads just there.
use Rattle.std.proofs.Common.{◌≡◌, ℕ, List, [], ◌∷◌, refl, ap, ◌∙◌, subst}
use Rattle.grammars.specs.Grammar.{Sym, Tok, Non, Do, Row, Grammar}
use Rattle.grammars.specs.Derivation.{Yields, Meaning, Chain, AreKept}
use Rattle.grammars.specs.Sets.{Sets}
use Rattle.grammars.specs.Least.{least, AreAbove, IsLow, IsMet, IsReached, Forced, Reached}
use Rattle.grammars.proofs.Chains.{chain_of}
use Rattle.grammars.proofs.Completions.{IsLed, IsAnswered, answered}

keeps_least : {N A T V : Type 0} (R : V → V → Type 0) (G : Grammar N A T V) (low : N → V → V) (lowest : ℕ → V → V) → IsLow R G low lowest
    → (symbols : List (Sym N A)) (v w : V) → R v w → R (least G low lowest symbols v) (least G low lowest symbols w)
keeps_least R G low lowest i [] v w r = r
keeps_least R G low lowest i (Tok k ∷ symbols) v w r = keeps_least R G low lowest i symbols (lowest k v) (lowest k w) (i.tokens k v w r)
keeps_least R G low lowest i (Non x ∷ symbols) v w r = keeps_least R G low lowest i symbols (low x v) (low x w) (i.nonterminals x v w r)
keeps_least R G low lowest i (Do a ∷ symbols) v w r = keeps_least R G low lowest i symbols (G.act a v) (G.act a w) (i.actions a v w r)

-- a nonterminal leads to no less
abbrev LeadsUp : {N T V : Type 0} → (V → V → Type 0) → (N → V → V) → Meaning N T V
LeadsUp R low x v ts w rest = R (low x v) w

above_least : {N A T V : Type 0} (R : V → V → Type 0) (G : Grammar N A T V) (low : N → V → V) (lowest : ℕ → V → V) → IsLow R G low lowest
    → (symbols : List (Sym N A)) (v : V) (ts : List T) (w : V) (rest : List T) → Chain G (LeadsUp R low) symbols v ts w rest → R (least G low lowest symbols v) w
above_least {N} {A} {T} {V} R G low lowest i [] v ts w rest c = subst (λ (y : V). R v y) c.0 (i.same v)
above_least R G low lowest i (Tok k ∷ symbols) v ts w rest c =
    i.further _ _ _
    (keeps_least R G low lowest i symbols (lowest k v) (G.take_in c.0 v) (subst (λ (j : ℕ). R (lowest j v) (G.take_in c.0 v)) c.3 (i.token c.0 v)))
    (above_least R G low lowest i symbols (G.take_in c.0 v) c.1 w rest c.4)
above_least R G low lowest i (Non x ∷ symbols) v ts w rest c =
    i.further _ _ _ (keeps_least R G low lowest i symbols (low x v) c.0 c.2) (above_least R G low lowest i symbols c.0 c.1 w rest c.3)
above_least R G low lowest i (Do a ∷ symbols) v ts w rest c = above_least R G low lowest i symbols (G.act a v) ts w rest c

rows_lead_up : {N A T V : Type 0} (R : V → V → Type 0) (G : Grammar N A T V) (low : N → V → V) (lowest : ℕ → V → V) → IsLow R G low lowest
    → (x : N) (rows : List (Row N A V)) → AreAbove R G low lowest x rows → AreKept G (LeadsUp R low) x rows
rows_lead_up R G low lowest i x [] h = tt
rows_lead_up R G low lowest i x (r ∷ rows) h = (
  λ v ts w rest g c. i.further _ _ _ (h.0 v g) (above_least R G low lowest i r.symbols v ts w rest c),
  rows_lead_up R G low lowest i x rows h.1,
)

pub forced : {N A T V : Type 0} (R : V → V → Type 0) → Forced N A T V R
forced R G low lowest i symbols v ts w y =
    above_least R G low lowest i symbols v ts w [] (chain_of G (LeadsUp R low) (λ x. rows_lead_up R G low lowest i x (G.rows x) (i.rows x)) symbols v ts w y)

-- what leads to the least
leads_to_least : {N A T V : Type 0} (G : Grammar N A T V) (S : Sets N T) (low : N → V → V) (lowest : ℕ → V → V) → IsReached G S low lowest
    → IsLed G S (λ symbols v w. w ≡ least G low lowest symbols v)
leads_to_least {N} {A} {T} {V} G S low lowest i = record {
  nothing = λ v. refl;
  token = λ k symbols v w e h. h ∙ ap (least G low lowest symbols) (i.token k v);
  action = λ a symbols v w h. h;
  rows = λ x v.
      let e : IsMet G S low lowest x v = i.rows x v in
      (e.0, e.1, e.2, e.3, e.4, λ symbols u w g h. h ∙ ap (least G low lowest symbols) (g ∙ e.5));
}

pub reached : {N A T V : Type 0} → Reached N A T V
reached {N} {A} {T} {V} G S low lowest i symbols v k =
    let a : IsAnswered G S (λ l u w. w ≡ least G low lowest l u) symbols v = answered G S _ (leads_to_least G S low lowest i) symbols v k in
    (a.0, subst (λ (w : V). Yields G symbols v a.0 w) a.3 a.2)
