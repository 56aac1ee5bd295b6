-- What the steps of a run behind a front keep.
use Rattle.std.specs.Prelude.{◌≡◌, ℕ, true, List, ◌∷◌, ◌++◌, Some}
use Rattle.grammars.specs.Grammar.{Tok, Non, Do, allows, Row, IsRow, sight}
use Rattle.grammars.specs.Run.{pick}
use Rattle.py_syntax.specs.Token.{Token}
use Rattle.py_syntax.specs.Kinds.{kind_of}
use Rattle.py_syntax.specs.Build.{PToken, Parts, Action, act}
use Rattle.py_syntax.specs.Table.{Symbol, Nonterminal, rows, table, sets}
use Rattle.py_syntax.specs.Laws.{goal, start}
use Rattle.py_demands.specs.Behind.{Behind}

-- a run stands behind no token of the front at first
abbrev pub Beginning : Type 0
Beginning = (front : List Token) → Behind front front goal start

-- an action, a token that is wanted, and a row that is taken
abbrev pub OverAction : Type 0
OverAction = (front ahead : List Token) (a : Action) (symbols : List Symbol) (v : Parts) → Behind front ahead (Do a ∷ symbols) v → Behind front ahead symbols (act a v)

abbrev pub OverToken : Type 0
OverToken =
    (front ahead : List Token) (t : Token) (k : ℕ) (symbols : List Symbol) (v : Parts) → kind_of t ≡ k → Behind front (t ∷ ahead) (Tok k ∷ symbols) v
    → Behind front ahead symbols (PToken t ∷ v)

abbrev pub OverRow : Type 0
OverRow =
    (front ahead : List Token) (t : Token) (x : Nonterminal) (r : Row Nonterminal Action Parts) (symbols : List Symbol) (v : Parts)
    → pick table sets x v (sight table (t ∷ ahead)) ≡ Some r → IsRow r (rows x) → allows r.guard v ≡ true → Behind front (t ∷ ahead) (Non x ∷ symbols) v
    → Behind front (t ∷ ahead) (r.symbols ++ symbols) v

-- From the beginning, each step of the table's run over a front leads from where the run stands to where it stands.
abbrev pub StepsLaw : Type 0
StepsLaw = Beginning × OverAction × OverToken × OverRow
