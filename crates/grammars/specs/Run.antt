-- The run with one token of sight: a stack of symbols, and no way back.
use Rattle.std.specs.Prelude.{ℕ, zero, suc, Bool, cond, ◌&&◌, ◌==◌, List, [], ◌∷◌, ◌++◌, Option, Some, None}
use Rattle.grammars.specs.Grammar.{Sym, Tok, Non, Do, allows, Row, Grammar, Sight, sight}
use Rattle.grammars.specs.Sets.{Sets, has, ahead}

pub data Outcome (T V : Type 0) : Type 0 where
  -- all was read, with this value
  Done : (value : V) → Outcome T V
  -- the first of the rest, or the end where it is empty, fits nowhere
  Stuck : (rest : List T) → Outcome T V
  -- there were too few steps
  Late : Outcome T V

-- the first row that the test takes
abbrev pub first_row : {N A V : Type 0} → (Row N A V → Bool) → List (Row N A V) → Option (Row N A V)
first_row test [] = None
first_row test (r ∷ rows) = cond (test r) (Some r) (first_row test rows)

-- The row of x that is taken at this value and sight: the sight is one at which the row may begin, or one that may
-- come behind x where the row may derive nothing.
abbrev pub pick : {N A T V : Type 0} → Grammar N A T V → Sets N T → N → V → Sight → Option (Row N A V)
pick G S x v s = first_row (λ r. has (ahead S (S.follow x) r.symbols) s && allows r.guard v) (G.rows x)

-- the row's symbols in place of a nonterminal
abbrev pub expand : {N A T V : Type 0} → (List (Sym N A) → V → List T → Outcome T V) → List (Sym N A) → V → List T → Option (Row N A V) → Outcome T V
expand again symbols v ts None = Stuck ts
expand again symbols v ts (Some r) = again (r.symbols ++ symbols) v ts

abbrev pub run : {N A T V : Type 0} → Grammar N A T V → Sets N T → ℕ → List (Sym N A) → V → List T → Outcome T V
run G S zero [] v [] = Done v
run G S (suc n) [] v [] = Done v
run G S zero [] v (t ∷ ts) = Stuck (t ∷ ts)
run G S (suc n) [] v (t ∷ ts) = Stuck (t ∷ ts)
run G S zero (s ∷ symbols) v ts = Late
run G S (suc n) (Tok k ∷ symbols) v [] = Stuck []
run G S (suc n) (Tok k ∷ symbols) v (t ∷ ts) = cond (G.kind t == k) (run G S n symbols (G.take_in t v) ts) (Stuck (t ∷ ts))
run G S (suc n) (Non x ∷ symbols) v ts = expand (run G S n) symbols v ts (pick G S x v (sight G ts))
run G S (suc n) (Do a ∷ symbols) v ts = run G S n symbols (G.act a v) ts
