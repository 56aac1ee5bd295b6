-- What is asked of an item is known step by step while it is read.
use Rattle.std.specs.Prelude.{◌≡◌, ℕ, true, List, [], ◌∷◌, ◌++◌, Some}
use Rattle.grammars.specs.Grammar.{Non, Row, IsRow}
use Rattle.py_syntax.specs.Build.{Parts, Action}
use Rattle.py_syntax.specs.Table.{Symbol, Nonterminal, Expression, rows}
use Rattle.py_demands.specs.Aimed.{ItemAsks}
use Rattle.py_demands.specs.Least.{Ask, AtLeast, OpenAtLeast, least, are_askable}

-- an item is to be read of a tuple that may be assigned to
abbrev pub ItemBegins : Type 0
ItemBegins =
    (rest : List Symbol) (n : ℕ) (qs : List Ask) → least rest (Some (AtLeast 0 ∷ [])) ≡ Some (OpenAtLeast n ∷ qs) → are_askable rest (Some (AtLeast 0 ∷ [])) ≡ true
    → ItemAsks (Non Expression ∷ []) rest

-- a token that is read, or an action
abbrev pub OverFirst : Type 0
OverFirst = (s : Symbol) (item rest : List Symbol) → ItemAsks (s ∷ item) rest → ItemAsks item rest

abbrev pub OverItemRow : Type 0
OverItemRow = (x : Nonterminal) (r : Row Nonterminal Action Parts) (item rest : List Symbol) → IsRow r (rows x) → ItemAsks (Non x ∷ item) rest → ItemAsks (r.symbols ++ item) rest

-- From where it begins, each step of the table's run over an item leads to where what is asked of it is known.
abbrev pub ItemStepsLaw : Type 0
ItemStepsLaw = ItemBegins × OverFirst × OverItemRow
