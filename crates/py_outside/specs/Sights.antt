-- The row that a sight takes.
use Rattle.std.specs.Prelude.{ℕ, suc, ◌==◌, ◌&&◌, if◌then◌else◌, Bool, List, [], ◌∷◌, ◌++◌, Option, Some, None}
use Rattle.grammars.specs.Grammar.{allows, Row, Sight}
use Rattle.grammars.specs.Sets.{has, ahead}
use Rattle.grammars.specs.Run.{first_row}
use Rattle.py_constructs.specs.Values.{Action, Value, Widening}
use Rattle.py_constructs.specs.Table.{Name, number_of, rows_of, Addition, to, widened, rows_with, sets}

-- whether a row may be taken at a sight, apart from its guard
abbrev pub is_taken : Name → Sight → Row Name Action Value → Bool
is_taken x s r = has (ahead sets (sets.follow x) r.symbols) s

-- the row that a sight takes with these additions, apart from its guard
abbrev pub row_before : List Addition → Name → Sight → Option (Row Name Action Value)
row_before more x s = first_row (is_taken x s) (rows_with more x)

-- the same of the rows that stand with none
abbrev pub own_before : Widening → Name → Sight → Option (Row Name Action Value)
own_before w x s = first_row (is_taken x s) (rows_of w x)

-- where the first row stands that the test takes; how many rows there are, if there is none
abbrev pub place_of_first : (Row Name Action Value → Bool) → List (Row Name Action Value) → ℕ
place_of_first test [] = 0
place_of_first test (r ∷ rows) = if test r then 0 else suc (place_of_first test rows)

-- a row, if its guard allows it at this value
abbrev pub allowed : Value → Option (Row Name Action Value) → Option (Row Name Action Value)
allowed v None = None
allowed v (Some r) = if allows r.guard v then Some r else None

-- a row that is added to the name with this number, and the sights that take it
pub record Added : Type 0 where
  pub name : ℕ
  pub sights : List Sight
  pub row : Row Name Action Value

abbrev pub spread_rows : Name → List (Row Name Action Value) → List Added
spread_rows x [] = []
spread_rows x (r ∷ rows) = record { name = number_of x; sights = ahead sets (sets.follow x) r.symbols; row = r } ∷ spread_rows x rows

-- the rows that are added, one after another
abbrev pub spread : List Addition → List Added
spread [] = []
spread (to x rows ∷ more) = spread_rows x rows ++ spread more
spread (widened w ∷ more) = spread more

-- the first row that is added to the name with this number and that the sight takes
abbrev pub first_added : ℕ → Sight → List Added → Option (Row Name Action Value)
first_added n s [] = None
first_added n s (a ∷ added) = if (a.name == n) && has a.sights s then Some a.row else first_added n s added
