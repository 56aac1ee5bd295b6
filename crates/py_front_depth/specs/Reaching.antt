-- Where the code's run stands behind a front.
use Rattle.std.specs.Prelude.{◌≡◌, Bool, false, not, List, [], ◌∷◌, ◌++◌, Option, Some, None}
use Rattle.py_syntax.specs.Token.{Token}
use Rattle.py_syntax.specs.Tree.{Body}
use Rattle.py_syntax.specs.Build.{Parts}
use Rattle.py_syntax.specs.Grammar.{IsModule}
use Rattle.py_syntax.specs.Table.{Symbol}
use Rattle.py_nesting.specs.Outlines.{built}
use Rattle.py_nesting.specs.Shapes as shapes
use Rattle.py_nesting.specs.Shapes.{outlines_of}
use Rattle.py_demands.specs.Behind.{Behind}
use Rattle.py_demands.specs.Readings.{acts_first}
use Rattle.py_demands.specs.Ready.{Ready}
use Rattle.py_table.specs.Steps.{stack_of}
use Rattle.py_table.specs.declared.symbol.Symbol.{Symbol as SymbolKept}
use Rattle.py_depth.specs.PlainEntries.{entries_of, events_of}
use Rattle.py_depth.specs.declared.nest.Nest.{Nest}
use Rattle.py_front_depth.specs.declared.reach.Reached.{Reached}

-- all is read, and no action comes next
abbrev pub is_done : List Token → List Symbol → Bool
is_done [] symbols = not (acts_first symbols)
is_done (t ∷ ts) symbols = false

-- what the code keeps stands for these parts
abbrev pub StandsFor : Nest → Parts → Type 0
StandsFor nest v = (entries_of nest.entries.items ≡ shapes.entries_of v) × (built (events_of nest.events.items) ≡ Some (outlines_of v))

-- the run stands here, with these tokens ahead
abbrev pub StandsHere : List Token → List Token → List SymbolKept → Nest → Type 0
StandsHere front ahead symbols nest = (v : Parts) × Behind front ahead (stack_of symbols) v × Ready (stack_of symbols) ahead × StandsFor nest v

-- no module begins with these tokens, or the run stands behind them
abbrev pub IsBehind : List Token → Option Reached → Type 0
IsBehind ts None = (more : List Token) (body : Body) → IsModule body (ts ++ more) → ⊥
IsBehind ts (Some r) = StandsHere ts [] r.symbols.items r.nest × (acts_first (stack_of r.symbols.items) ≡ false)
