-- Sights as numbers, by which the code finds a row in one step.
use Rattle.std.specs.Prelude.{ℕ, suc, ◌==◌, if◌then◌else◌, Bool, List, [], ◌∷◌, Option, Some, None}
use Rattle.grammars.specs.Grammar.{allows, Row, Sight}
use Rattle.grammars.specs.Sets.{has, ahead}
use Rattle.grammars.specs.Run.{first_row}
use Rattle.py_syntax.specs.Token.{Token}
use Rattle.py_syntax.specs.Kinds.{kind_of}
use Rattle.py_syntax.specs.Build.{Action, Parts}
use Rattle.py_syntax.specs.Table.{Nonterminal, rows, sets}

-- the number of the sight where no token comes: kinds have smaller numbers
abbrev pub end_number : ℕ
end_number = 95

abbrev pub sight_numbered : ℕ → Sight
sight_numbered n = if n == end_number then None else Some n

abbrev pub number_of_sight : List Token → ℕ
number_of_sight [] = end_number
number_of_sight (t ∷ ts) = kind_of t

-- whether a row may be taken at a sight, apart from its guard
abbrev pub is_taken : Nonterminal → Sight → Row Nonterminal Action Parts → Bool
is_taken x s r = has (ahead sets (sets.follow x) r.symbols) s

-- the row that a sight takes, apart from its guard
abbrev pub row_before : Nonterminal → Sight → Option (Row Nonterminal Action Parts)
row_before x s = first_row (is_taken x s) (rows x)

-- where the first row stands that the test takes; how many rows there are, if there is none
abbrev pub place_of_first : (Row Nonterminal Action Parts → Bool) → List (Row Nonterminal Action Parts) → ℕ
place_of_first test [] = 0
place_of_first test (r ∷ rows) = if test r then 0 else suc (place_of_first test rows)

-- a row, if its guard allows it at this value
abbrev pub allowed : Parts → Option (Row Nonterminal Action Parts) → Option (Row Nonterminal Action Parts)
allowed v None = None
allowed v (Some r) = if allows r.guard v then Some r else None
