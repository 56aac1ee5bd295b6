-- One step of a run, and what is known on the way.
use Rattle.std.specs.Prelude.{◌≡◌, ℕ, ◌+◌, ◌<◌, ◌==◌, if◌then◌else◌, List, [], ◌∷◌, ◌++◌, Option, Some, None}
use Rattle.grammars.specs.Grammar.{Tok, Non, Do, Row, sight}
use Rattle.grammars.specs.Run.{pick, run}
use Rattle.py_syntax.specs.Token.{Token}
use Rattle.py_syntax.specs.Kinds.{kind_of}
use Rattle.py_constructs.specs.Construct.{Construct}
use Rattle.py_constructs.specs.Values.{Told, Value, begin, take_in, Action, act}
use Rattle.py_constructs.specs.Table.{Name, Symbol, Addition, additions, grammar_with, extended, sets, goal}
use Rattle.py_constructs.specs.Reached.{Reached, End, IsHead}

pub data Step : Type 0 where
  Going : (symbols : List Symbol) → (value : Value) → (rest : List Token) → Step
  Finished : Step
  Halted : Step

abbrev pub expanded : Option (Row Name Action Value) → List Symbol → Value → List Token → Step
expanded None symbols v ts = Halted
expanded (Some r) symbols v ts = Going (r.symbols ++ symbols) v ts

abbrev pub one_step : List Addition → List Symbol → Value → List Token → Step
one_step more [] v [] = Finished
one_step more [] v (t ∷ ts) = Halted
one_step more (Tok k ∷ symbols) v [] = Halted
one_step more (Tok k ∷ symbols) v (t ∷ ts) = if kind_of t == k then Going symbols (take_in t v) ts else Halted
one_step more (Non x ∷ symbols) v ts = expanded (pick (grammar_with more) sets x v (sight (grammar_with more) ts)) symbols v ts
one_step more (Do a ∷ symbols) v ts = Going symbols (act a v) ts

-- a run over these tokens has come here
pub record OnWay (c : Construct) (ts : List Token) (symbols : List Symbol) (v : Value) (rest : List Token) : Type 0 where
  pub before : List Token
  pub split : ts ≡ before ++ rest
  pub reached : Reached c before symbols v
  pub steps : ℕ
  pub goes : (n : ℕ) → run (extended c) sets (steps + n) goal begin ts ≡ run (extended c) sets n symbols v rest

abbrev pub StartLaw : Type 0
StartLaw = (c : Construct) (ts : List Token) → OnWay c ts goal begin ts

-- over a step with the construct, and over one with none
abbrev pub StepLaw : Type 0
StepLaw =
    (c : Construct) (ts : List Token) (symbols others : List Symbol) (v w : Value) (rest more : List Token) → OnWay c ts symbols v rest
    → one_step (additions c) symbols v rest ≡ Going others w more → OnWay c ts others w more

abbrev pub OwnStepLaw : Type 0
OwnStepLaw =
    (c : Construct) (ts : List Token) (symbols others : List Symbol) (v w : Value) (rest more : List Token) → OnWay c ts symbols v rest
    → one_step [] symbols v rest ≡ Going others w more → OnWay c ts others w more

-- at the last step the run has ended
abbrev pub HaltLaw : Type 0
HaltLaw = (c : Construct) (ts : List Token) (symbols : List Symbol) (v : Value) (rest : List Token) → OnWay c ts symbols v rest → one_step (additions c) symbols v rest ≡ Halted → End c ts v

abbrev pub FinishLaw : Type 0
FinishLaw = (c : Construct) (ts : List Token) (symbols : List Symbol) (v : Value) (rest : List Token) → OnWay c ts symbols v rest → one_step (additions c) symbols v rest ≡ Finished → End c ts v

-- and it need not go so far, once a head is told and the first bad token read
abbrev pub EarlyLaw : Type 0
EarlyLaw =
    (c : Construct) (ts : List Token) (symbols : List Symbol) (v : Value) (rest : List Token) (t : Told) (first : ℕ) → OnWay c ts symbols v rest
    → v.told ≡ Some t → first < v.read → IsHead c ts first (Some t.head)
