-- What holds of the table.
use Rattle.std.specs.Prelude.{◌≡◌, ℕ, List, [], ◌∷◌, ◌++◌, ◌↔◌}
use Rattle.grammars.specs.Grammar.{Non, Do}
use Rattle.grammars.specs.Derivation.{Yields}
use Rattle.grammars.specs.Run.{Done, Stuck, run}
use Rattle.py_syntax.specs.Token.{Token}
use Rattle.py_syntax.specs.Tree.{Body}
use Rattle.py_syntax.specs.Build.{Parts, PBody, BeginBody}
use Rattle.py_syntax.specs.Grammar.{IsModule}
use Rattle.py_syntax.specs.Table.{Symbol, Module, table, sets}

-- a whole module
abbrev pub goal : List Symbol
goal = Do BeginBody ∷ Non Module ∷ []

-- nothing is built at the start, and one body at the end
abbrev pub start : Parts
start = []

abbrev pub finished : Body → Parts
finished body = PBody body ∷ []

-- the table derives a tree from just the tokens that spell it
abbrev pub TableSpells : Type 0
TableSpells = (body : Body) (ts : List Token) → IsModule body ts ↔ Yields table goal start ts (finished body)

-- tokens spell one tree at most
abbrev pub OneTree : Type 0
OneTree = (one other : Body) (ts : List Token) → IsModule one ts → IsModule other ts → one ≡ other

-- some module begins with these tokens
abbrev pub IsFrontOfModule : List Token → Type 0
IsFrontOfModule front = (more : List Token) × (body : Body) × IsModule body (front ++ more)

-- The longest front of a module among tokens: no module begins with it and goes on with the next token, or ends with it
-- where no token comes.
abbrev pub IsLongestFront : List Token → List Token → Type 0
IsLongestFront front [] = IsFrontOfModule front × ((body : Body) → IsModule body front → ⊥)
IsLongestFront front (t ∷ rest) = IsFrontOfModule front × (IsFrontOfModule (front ++ t ∷ []) → ⊥)

-- where the run comes to its end, it has built the tree
abbrev pub RunBuildsTree : Type 0
RunBuildsTree =
    (n : ℕ) (ts : List Token) (v : Parts) → run table sets n goal start ts ≡ Done v → (body : Body) × (v ≡ finished body) × IsModule body ts

-- where it is stuck, it has read the longest front
abbrev pub StuckAtLongestFront : Type 0
StuckAtLongestFront =
    (n : ℕ) (ts rest : List Token) → run table sets n goal start ts ≡ Stuck rest
    → (front : List Token) × (ts ≡ front ++ rest) × IsLongestFront front rest

-- each tree comes from some number of steps
abbrev pub TreeIsReached : Type 0
TreeIsReached = (body : Body) (ts : List Token) → IsModule body ts → (n : ℕ) × (run table sets n goal start ts ≡ Done (finished body))
