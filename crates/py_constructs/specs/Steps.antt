-- Where a run stands is known at its beginning and over each step.
use Rattle.std.specs.Prelude.{◌≡◌, true, List, [], ◌∷◌, ◌++◌}
use Rattle.grammars.specs.Grammar.{Tok, Non, Do, allows, Row, IsRow}
use Rattle.py_syntax.specs.Token.{Token}
use Rattle.py_syntax.specs.Kinds.{kind_of}
use Rattle.py_constructs.specs.Construct.{Construct}
use Rattle.py_constructs.specs.Values.{Value, begin, take_in, Action, act}
use Rattle.py_constructs.specs.Table.{Name, Symbol, additions, rows_with, goal}
use Rattle.py_constructs.specs.Reached.{Reached}

abbrev pub BeginsLaw : Type 0
BeginsLaw = (c : Construct) → Reached c [] goal begin

abbrev pub OverTokenLaw : Type 0
OverTokenLaw =
    (c : Construct) (before : List Token) (t : Token) (symbols : List Symbol) (v : Value) → Reached c before (Tok (kind_of t) ∷ symbols) v
    → Reached c (before ++ t ∷ []) symbols (take_in t v)

abbrev pub OverActionLaw : Type 0
OverActionLaw =
    (c : Construct) (before : List Token) (a : Action) (symbols : List Symbol) (v : Value) → Reached c before (Do a ∷ symbols) v → Reached c before symbols (act a v)

abbrev pub OverRowLaw : Type 0
OverRowLaw =
    (c : Construct) (before : List Token) (x : Name) (r : Row Name Action Value) (symbols : List Symbol) (v : Value) → Reached c before (Non x ∷ symbols) v
    → IsRow r (rows_with (additions c) x) → allows r.guard v ≡ true → Reached c before (r.symbols ++ symbols) v
