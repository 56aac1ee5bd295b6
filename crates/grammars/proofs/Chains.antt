-- A meaning that each row keeps is kept by every derivation.
use Rattle.std.proofs.Common.{◌≡◌, ℕ, zero, suc, true, List, [], ◌∷◌, ◌++◌, inl, inr, refl, subst}
use Rattle.grammars.specs.Grammar.{Sym, Tok, Non, Do, allows, Row, Grammar, IsRow}
use Rattle.grammars.specs.Derivation.{Derives, Yields, Meaning, Chain, AreKept}

-- a chain in two parts
pub chain_parts : {N A T V : Type 0} (G : Grammar N A T V) (M : Meaning N T V) (front symbols : List (Sym N A)) (v : V) (ts : List T) (w : V) (rest : List T)
    → Chain G M (front ++ symbols) v ts w rest → (u : V) × (after : List T) × Chain G M front v ts u after × Chain G M symbols u after w rest
chain_parts G M [] symbols v ts w rest c = (v, ts, (refl, refl), c)
chain_parts {N} {A} {T} {V} G M (Tok k ∷ front) symbols v ts w rest c =
    let p : (u : V) × (after : List T) × Chain G M front (G.take_in c.0 v) c.1 u after × Chain G M symbols u after w rest =
    chain_parts G M front symbols (G.take_in c.0 v) c.1 w rest c.4 in
    (p.0, p.1, (c.0, c.1, c.2, c.3, p.2), p.3)
chain_parts {N} {A} {T} {V} G M (Non x ∷ front) symbols v ts w rest c =
    let p : (u : V) × (after : List T) × Chain G M front c.0 c.1 u after × Chain G M symbols u after w rest =
    chain_parts G M front symbols c.0 c.1 w rest c.3 in
    (p.0, p.1, (c.0, c.1, c.2, p.2), p.3)
chain_parts G M (Do a ∷ front) symbols v ts w rest c = chain_parts G M front symbols (G.act a v) ts w rest c

kept : {N A T V : Type 0} (G : Grammar N A T V) (M : Meaning N T V) (x : N) (rows : List (Row N A V)) (r : Row N A V) → AreKept G M x rows → IsRow r rows
    → (v : V) (ts : List T) (w : V) (rest : List T) → allows r.guard v ≡ true → Chain G M r.symbols v ts w rest → M x v ts w rest
kept G M x [] r k i v ts w rest g c = absurd i
kept {N} {A} {T} {V} G M x (q ∷ rows) r k (inl e) v ts w rest g c =
    k.0 v ts w rest (subst (λ (y : Row N A V). allows y.guard v ≡ true) e g) (subst (λ (y : Row N A V). Chain G M y.symbols v ts w rest) e c)
kept G M x (q ∷ rows) r k (inr i) v ts w rest g c = kept G M x rows r k.1 i v ts w rest g c

pub chain_of_steps : {N A T V : Type 0} (G : Grammar N A T V) (M : Meaning N T V) → ((x : N) → AreKept G M x (G.rows x))
    → (n : ℕ) (symbols : List (Sym N A)) (v : V) (ts : List T) (w : V) → Derives G n symbols v ts w → Chain G M symbols v ts w []
chain_of_steps G M k zero [] v ts w d = (d.1, d.0)
chain_of_steps G M k zero (s ∷ symbols) v ts w d = absurd d
chain_of_steps G M k (suc n) [] v ts w d = absurd d
chain_of_steps G M k (suc n) (Tok kind ∷ symbols) v ts w d = (d.0, d.1, d.2, d.3, chain_of_steps G M k n symbols (G.take_in d.0 v) d.1 w d.4)
chain_of_steps {N} {A} {T} {V} G M k (suc n) (Non x ∷ symbols) v ts w d =
    let p : (u : V) × (after : List T) × Chain G M d.0.symbols v ts u after × Chain G M symbols u after w [] =
    chain_parts G M d.0.symbols symbols v ts w [] (chain_of_steps G M k n (d.0.symbols ++ symbols) v ts w d.3) in
    (p.0, p.1, kept G M x (G.rows x) d.0 (k x) d.1 v ts p.0 p.1 d.2 p.2, p.3)
chain_of_steps G M k (suc n) (Do a ∷ symbols) v ts w d = chain_of_steps G M k n symbols (G.act a v) ts w d

pub chain_of : {N A T V : Type 0} (G : Grammar N A T V) (M : Meaning N T V) → ((x : N) → AreKept G M x (G.rows x))
    → (symbols : List (Sym N A)) (v : V) (ts : List T) (w : V) → Yields G symbols v ts w → Chain G M symbols v ts w []
chain_of G M k symbols v ts w y = chain_of_steps G M k y.0 symbols v ts w y.1
