-- Sentences and derivations.
use Rattle.std.specs.Prelude.{◌≡◌, ℕ, zero, suc, true, List, [], ◌∷◌, ◌++◌}
use Rattle.grammars.specs.Grammar.{Sym, Tok, Non, Do, allows, Row, Grammar, IsRow}

-- In n steps these symbols derive just these tokens, and lead from the value v to the value w. It is the leftmost
-- derivation: the first symbol is a token that is read, an action that is done, or a nonterminal that gives way to any
-- one of its rows that its guard allows.
abbrev pub Derives : {N A T V : Type 0} → Grammar N A T V → ℕ → List (Sym N A) → V → List T → V → Type 0
Derives G zero [] v ts w = (ts ≡ []) × (v ≡ w)
Derives G zero (s ∷ symbols) v ts w = ⊥
Derives G (suc n) [] v ts w = ⊥
Derives {N} {A} {T} {V} G (suc n) (Tok k ∷ symbols) v ts w =
    (t : T) × (rest : List T) × (ts ≡ t ∷ rest) × (G.kind t ≡ k) × Derives G n symbols (G.take_in t v) rest w
Derives {N} {A} {T} {V} G (suc n) (Non x ∷ symbols) v ts w =
    (r : Row N A V) × IsRow r (G.rows x) × (allows r.guard v ≡ true) × Derives G n (r.symbols ++ symbols) v ts w
Derives G (suc n) (Do a ∷ symbols) v ts w = Derives G n symbols (G.act a v) ts w

-- the tokens are a sentence of these symbols, with this value
abbrev pub Yields : {N A T V : Type 0} → Grammar N A T V → List (Sym N A) → V → List T → V → Type 0
Yields G symbols v ts w = (n : ℕ) × Derives G n symbols v ts w

-- A meaning of the nonterminals: `M x v ts w rest` says that from ts on x is read, which leads from the value v to w,
-- and that rest comes behind it.
abbrev pub Meaning : Type 0 → Type 0 → Type 0 → Type 1
Meaning N T V = N → V → List T → V → List T → Type 0

-- Under such a meaning, symbols are read one after another.
abbrev pub Chain : {N A T V : Type 0} → Grammar N A T V → Meaning N T V → List (Sym N A) → V → List T → V → List T → Type 0
Chain G M [] v ts w rest = (v ≡ w) × (ts ≡ rest)
Chain {N} {A} {T} {V} G M (Tok k ∷ symbols) v ts w rest =
    (t : T) × (after : List T) × (ts ≡ t ∷ after) × (G.kind t ≡ k) × Chain G M symbols (G.take_in t v) after w rest
Chain {N} {A} {T} {V} G M (Non x ∷ symbols) v ts w rest =
    (u : V) × (after : List T) × M x v ts u after × Chain G M symbols u after w rest
Chain G M (Do a ∷ symbols) v ts w rest = Chain G M symbols (G.act a v) ts w rest

-- each of these rows of x keeps the meaning: what its symbols read is what x means
abbrev pub AreKept : {N A T V : Type 0} → Grammar N A T V → Meaning N T V → N → List (Row N A V) → Type 0
AreKept G M x [] = Unit {0}
AreKept {N} {A} {T} {V} G M x (r ∷ rows) =
    ((v : V) (ts : List T) (w : V) (rest : List T) → allows r.guard v ≡ true → Chain G M r.symbols v ts w rest → M x v ts w rest)
    × AreKept G M x rows
