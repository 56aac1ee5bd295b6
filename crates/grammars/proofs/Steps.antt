-- Derivations, step by step.
use Rattle.std.proofs.Common.{◌≡◌, zero, suc, true, List, [], ◌∷◌, ◌++◌, refl}
use Rattle.grammars.specs.Grammar.{Sym, Tok, Non, Do, allows, Row, Grammar, IsRow}
use Rattle.grammars.specs.Derivation.{Yields}

pub by_nothing : {N A T V : Type 0} (G : Grammar N A T V) (v : V) → Yields {A = A} G [] v [] v
by_nothing G v = (zero, (refl, refl))

pub by_token : {N A T V : Type 0} (G : Grammar N A T V) (t : T) (symbols : List (Sym N A)) (v : V) (ts : List T) (w : V)
    → Yields G symbols (G.take_in t v) ts w → Yields G (Tok (G.kind t) ∷ symbols) v (t ∷ ts) w
by_token G t symbols v ts w y = (suc y.0, (t, ts, refl, refl, y.1))

pub by_action : {N A T V : Type 0} (G : Grammar N A T V) (a : A) (symbols : List (Sym N A)) (v : V) (ts : List T) (w : V)
    → Yields G symbols (G.act a v) ts w → Yields G (Do a ∷ symbols) v ts w
by_action G a symbols v ts w y = (suc y.0, y.1)

pub by_row : {N A T V : Type 0} (G : Grammar N A T V) (x : N) (r : Row N A V) (symbols : List (Sym N A)) (v : V) (ts : List T) (w : V)
    → IsRow r (G.rows x) → allows r.guard v ≡ true → Yields G (r.symbols ++ symbols) v ts w → Yields G (Non x ∷ symbols) v ts w
by_row G x r symbols v ts w i g y = (suc y.0, (r, i, g, y.1))
