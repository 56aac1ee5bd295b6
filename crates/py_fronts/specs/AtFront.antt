-- Where the table's run stands behind a front of the tokens, before it is known what comes next.
use Rattle.std.specs.Prelude.{◌≡◌, ℕ, ◌+◌, max, Bool, List, [], ◌∷◌, ◌++◌, Some}
use Rattle.grammars.specs.Derivation.{Yields}
use Rattle.grammars.specs.Run.{run}
use Rattle.py_syntax.specs.Token.{Token}
use Rattle.py_syntax.specs.Tree.{Body}
use Rattle.py_syntax.specs.Build.{Parts}
use Rattle.py_syntax.specs.Grammar.{IsModule}
use Rattle.py_syntax.specs.Table.{Symbol, table, sets}
use Rattle.py_syntax.specs.Laws.{goal, start, finished}
use Rattle.py_tokens.specs.Token.{Place}
use Rattle.py_nesting.specs.Depths.{body_depth}
use Rattle.py_nesting.specs.Outlines.{Event, built}
use Rattle.py_nesting.specs.Shapes.{entries_of, outlines_of}
use Rattle.py_nesting.specs.Walk.{Demand, Whole, back, Met, brought, walk, met_depth}
use Rattle.py_fronts.specs.Begins.{Begin}
use Rattle.py_fronts.specs.Fit.{Fit}

-- So many steps lead over the first of these tokens to those ahead, whatever comes behind them, and leave these symbols and parts;
-- and what the symbols derive goes on with what was read.
pub record AtFront (front ahead : List Token) (symbols : List Symbol) (v : Parts) : Type 0 where
  pub steps : ℕ
  pub goes : (more : List Token) (n : ℕ) → run table sets (steps + n) goal start (front ++ more) ≡ run table sets n symbols v (ahead ++ more)
  pub derives : (more : List Token) (w : Parts) → Yields table symbols v (ahead ++ more) w → Yields table goal start (front ++ more) w
  pub fit : Fit symbols (entries_of v)
  -- how the nodes of these parts were put together
  pub events : List Event
  pub put : built events ≡ Some (outlines_of v)
  pub begun : Begin v

-- the modules that begin with a front are what is derived from there
abbrev pub CompletionLaw : Type 0
CompletionLaw =
    (front : List Token) (symbols : List Symbol) (v : Parts) → AtFront front [] symbols v
    → ((more : List Token) (body : Body) → IsModule body (front ++ more) → Yields table symbols v more (finished body))
    × ((more : List Token) (w : Parts) → Yields table symbols v more w → (body : Body) × (w ≡ finished body) × IsModule body (front ++ more))

-- what is asked before some events, the last of which stands first
abbrev pub asked : List Event → List Demand → List Demand
asked [] ds = ds
asked (e ∷ events) ds = asked events (back e ds)

-- the nodes that they bring
abbrev pub nodes_of : List Event → List Demand → List Met
nodes_of [] ds = []
nodes_of (e ∷ events) ds = brought e ds (nodes_of events (back e ds))

-- A module that begins with a front has the depths that events behind the front ask of its nodes so far, and those of the nodes that
-- come behind it.
abbrev pub DepthLaw : Type 0
DepthLaw =
    (front more : List Token) (symbols : List Symbol) (v : Parts) (body : Body) (f : AtFront front [] symbols v) → IsModule body (front ++ more)
    → (later : List Event) × ((at : Place → Bool)
    → body_depth at body ≡ max (met_depth at (nodes_of later (Whole 0 ∷ []))) (met_depth at (walk f.events (asked later (Whole 0 ∷ [])))))
