-- What holds of every grammar as data.
use Rattle.std.specs.Prelude.{◌≡◌, ℕ, true, List, [], ◌∷◌, ◌++◌, Some}
use Rattle.grammars.specs.Grammar.{Sym, Non, Grammar, sight}
use Rattle.grammars.specs.Derivation.{Derives, Yields, Meaning, Chain, AreKept}
use Rattle.grammars.specs.Sets.{Sets, has, is_decided, is_start, is_completable, have_specimens}
use Rattle.grammars.specs.Run.{Done, Stuck, run}

-- what is run to its end is derived
abbrev pub Sound : (N A T V : Type 0) → Type 0
Sound N A T V =
    (G : Grammar N A T V) (S : Sets N T) (n : ℕ) (symbols : List (Sym N A)) (v : V) (ts : List T) (w : V)
    → run G S n symbols v ts ≡ Done w → Yields G symbols v ts w

-- what is derived is run to its end, where one token of sight decides
abbrev pub Complete : (N A T V : Type 0) → Type 0
Complete N A T V =
    (G : Grammar N A T V) (S : Sets N T) → ((x : N) → is_decided G S x ≡ true)
    → (n : ℕ) (symbols : List (Sym N A)) (v : V) (ts : List T) (w : V) → is_start S symbols ≡ true
    → Derives G n symbols v ts w → run G S n symbols v ts ≡ Done w

-- so a sentence has one value
abbrev pub OneValue : (N A T V : Type 0) → Type 0
OneValue N A T V =
    (G : Grammar N A T V) (S : Sets N T) → ((x : N) → is_decided G S x ≡ true)
    → (symbols : List (Sym N A)) (v : V) (ts : List T) (w u : V) → is_start S symbols ≡ true
    → Yields G symbols v ts w → Yields G symbols v ts u → w ≡ u

-- some sentence begins with these tokens
abbrev pub IsFront : {N A T V : Type 0} → Grammar N A T V → List (Sym N A) → V → List T → Type 0
IsFront {N} {A} {T} {V} G symbols v front = (more : List T) × (w : V) × Yields G symbols v (front ++ more) w

-- no sentence begins with these tokens and goes on as these others do: with a token of the same kind as their first, or
-- not at all where there is none
abbrev pub IsNoFrontAt : {N A T V : Type 0} → Grammar N A T V → List (Sym N A) → V → List T → List T → Type 0
IsNoFrontAt {N} {A} {T} {V} G symbols v front rest =
    (more : List T) (w : V) → sight G more ≡ sight G rest → Yields G symbols v (front ++ more) w → ⊥

-- where a run is stuck, it has read the longest front
abbrev pub Longest : (N A T V : Type 0) → Type 0
Longest N A T V =
    (G : Grammar N A T V) (S : Sets N T) → ((x : N) → is_decided G S x ≡ true) → ((x : N) → is_completable G S x ≡ true)
    → (n : ℕ) (symbols : List (Sym N A)) (v : V) (ts rest : List T)
    → is_start S symbols ≡ true → have_specimens G S symbols ≡ true → run G S n symbols v ts ≡ Stuck rest
    → (front : List T) × (ts ≡ front ++ rest) × IsFront G symbols v front × IsNoFrontAt G symbols v front rest

-- closed sets are right: a nonterminal that derives no token is nullable, and one that derives a token first has its
-- kind in the first set
abbrev pub Begins : (N A T V : Type 0) → Type 0
Begins N A T V =
    (G : Grammar N A T V) (S : Sets N T) → ((x : N) → is_decided G S x ≡ true)
    → (x : N) (v : V) (w : V)
    → (Yields G (Non x ∷ []) v [] w → S.nullable x ≡ true)
    × ((t : T) (ts : List T) → Yields G (Non x ∷ []) v (t ∷ ts) w → has (S.first x) (Some (G.kind t)) ≡ true)

-- whatever the value, symbols derive something
abbrev pub Completable : (N A T V : Type 0) → Type 0
Completable N A T V =
    (G : Grammar N A T V) (S : Sets N T) → ((x : N) → is_completable G S x ≡ true)
    → (symbols : List (Sym N A)) (v : V) → have_specimens G S symbols ≡ true
    → (ts : List T) × (w : V) × Yields G symbols v ts w

-- a meaning that each row keeps is kept by every derivation
abbrev pub ChainOf : (N A T V : Type 0) → Meaning N T V → Type 0
ChainOf N A T V M =
    (G : Grammar N A T V) → ((x : N) → AreKept G M x (G.rows x))
    → (symbols : List (Sym N A)) (v : V) (ts : List T) (w : V) → Yields G symbols v ts w → Chain G M symbols v ts w []
