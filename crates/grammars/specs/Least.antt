-- The least value that symbols may lead to, in an order of values.
use Rattle.std.specs.Prelude.{◌≡◌, ℕ, true, List, [], ◌∷◌}
use Rattle.grammars.specs.Grammar.{Sym, Tok, Non, Do, allows, Row, Grammar, IsRow}
use Rattle.grammars.specs.Derivation.{Yields}
use Rattle.grammars.specs.Sets.{Sets, are_below, have_specimens}

-- Where `low` gives the least value that a nonterminal leads to from another, and `lowest` that of a token of a kind.
abbrev pub least : {N A T V : Type 0} → Grammar N A T V → (N → V → V) → (ℕ → V → V) → List (Sym N A) → V → V
least G low lowest [] v = v
least G low lowest (Tok k ∷ symbols) v = least G low lowest symbols (lowest k v)
least G low lowest (Non x ∷ symbols) v = least G low lowest symbols (low x v)
least G low lowest (Do a ∷ symbols) v = least G low lowest symbols (G.act a v)

-- none of these rows of x leads to less than what x is said to
abbrev pub AreAbove : {N A T V : Type 0} → (V → V → Type 0) → Grammar N A T V → (N → V → V) → (ℕ → V → V) → N → List (Row N A V) → Type 0
AreAbove R G low lowest x [] = Unit {0}
AreAbove {N} {A} {T} {V} R G low lowest x (r ∷ rows) =
    ((v : V) → allows r.guard v ≡ true → R (low x v) (least G low lowest r.symbols v)) × AreAbove R G low lowest x rows

-- nothing leads to less, in an order that tokens, nonterminals and actions keep
pub record IsLow {N A T V : Type 0} (R : V → V → Type 0) (G : Grammar N A T V) (low : N → V → V) (lowest : ℕ → V → V) : Type 0 where
  pub same : (v : V) → R v v
  pub further : (u v w : V) → R u v → R v w → R u w
  pub token : (t : T) (v : V) → R (lowest (G.kind t) v) (G.take_in t v)
  pub tokens : (k : ℕ) (v w : V) → R v w → R (lowest k v) (lowest k w)
  pub nonterminals : (x : N) (v w : V) → R v w → R (low x v) (low x w)
  pub actions : (a : A) (v w : V) → R v w → R (G.act a v) (G.act a w)
  pub rows : (x : N) → AreAbove R G low lowest x (G.rows x)

-- one row of x may be taken at v, has nonterminals of lower ranks alone, and leads just there
abbrev pub IsMet : {N A T V : Type 0} → Grammar N A T V → Sets N T → (N → V → V) → (ℕ → V → V) → N → V → Type 0
IsMet {N} {A} {T} {V} G S low lowest x v =
    (r : Row N A V) × IsRow r (G.rows x) × (allows r.guard v ≡ true) × (are_below S (S.rank x) r.symbols ≡ true) × (have_specimens G S r.symbols ≡ true)
    × (least G low lowest r.symbols v ≡ low x v)

-- the least is what something leads to
pub record IsReached {N A T V : Type 0} (G : Grammar N A T V) (S : Sets N T) (low : N → V → V) (lowest : ℕ → V → V) : Type 0 where
  pub token : (k : ℕ) (v : V) → G.take_in (S.specimen k) v ≡ lowest k v
  pub rows : (x : N) (v : V) → IsMet G S low lowest x v

-- whatever these tokens are, symbols lead to no less
abbrev pub Forced : (N A T V : Type 0) → (V → V → Type 0) → Type 0
Forced N A T V R =
    (G : Grammar N A T V) (low : N → V → V) (lowest : ℕ → V → V) → IsLow R G low lowest
    → (symbols : List (Sym N A)) (v : V) (ts : List T) (w : V) → Yields G symbols v ts w → R (least G low lowest symbols v) w

-- and some tokens lead just there
abbrev pub Reached : (N A T V : Type 0) → Type 0
Reached N A T V =
    (G : Grammar N A T V) (S : Sets N T) (low : N → V → V) (lowest : ℕ → V → V) → IsReached G S low lowest
    → (symbols : List (Sym N A)) (v : V) → have_specimens G S symbols ≡ true → (ts : List T) × Yields G symbols v ts (least G low lowest symbols v)
