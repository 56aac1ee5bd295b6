-- Two grammars of one language whose values correspond. So a parser may keep less than a whole tree.
use Rattle.std.specs.Prelude.{◌≡◌, ℕ, List, [], ◌∷◌}
use Rattle.grammars.specs.Grammar.{Sym, allows, Row, Grammar}
use Rattle.grammars.specs.Sets.{Sets}
use Rattle.grammars.specs.Run.{Outcome, Done, Stuck, Late, run}

-- the same symbols, under guards that agree on values that correspond
abbrev pub RowsAgree : {N A V W : Type 0} → (V → W → Type 0) → List (Row N A V) → List (Row N A W) → Type 0
RowsAgree R [] [] = Unit {0}
RowsAgree R [] (q ∷ others) = ⊥
RowsAgree R (r ∷ rows) [] = ⊥
RowsAgree {N} {A} {V} {W} R (r ∷ rows) (q ∷ others) =
    (r.symbols ≡ q.symbols) × ((v : V) (w : W) → R v w → allows r.guard v ≡ allows q.guard w) × RowsAgree R rows others

pub record Agree {N A T V W : Type 0} (G : Grammar N A T V) (H : Grammar N A T W) (R : V → W → Type 0) : Type 0 where
  pub kind : (t : T) → G.kind t ≡ H.kind t
  pub take_in : (t : T) (v : V) (w : W) → R v w → R (G.take_in t v) (H.take_in t w)
  pub act : (a : A) (v : V) (w : W) → R v w → R (G.act a v) (H.act a w)
  pub rows : (x : N) → RowsAgree R (G.rows x) (H.rows x)

-- the same outcome, with values that correspond
abbrev pub OutcomesAgree : {T V W : Type 0} → (V → W → Type 0) → Outcome T V → Outcome T W → Type 0
OutcomesAgree R (Done v) (Done w) = R v w
OutcomesAgree R (Done v) (Stuck rest) = ⊥
OutcomesAgree R (Done v) Late = ⊥
OutcomesAgree R (Stuck rest) (Done w) = ⊥
OutcomesAgree R (Stuck rest) (Stuck others) = rest ≡ others
OutcomesAgree R (Stuck rest) Late = ⊥
OutcomesAgree R Late (Done w) = ⊥
OutcomesAgree R Late (Stuck rest) = ⊥
OutcomesAgree R Late Late = Unit {0}

-- their runs have the same outcome, step for step
abbrev pub RunsAgree : (N A T V W : Type 0) → (V → W → Type 0) → Type 0
RunsAgree N A T V W R =
    (G : Grammar N A T V) (H : Grammar N A T W) (S : Sets N T) → Agree G H R
    → (n : ℕ) (symbols : List (Sym N A)) (v : V) (w : W) (ts : List T) → R v w → OutcomesAgree R (run G S n symbols v ts) (run H S n symbols w ts)
