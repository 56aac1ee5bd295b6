-- The first place where a front of a module is nested too deep.
use Rattle.std.specs.Prelude.{◌≡◌, true, false, List, [], ◌∷◌, Some, None}
use Rattle.py_tokens.specs.Token.{Place}
use Rattle.py_syntax.specs.Token.{Token}
use Rattle.py_syntax.specs.Build.{Parts}
use Rattle.py_syntax.specs.Table.{Symbol}
use Rattle.py_nesting.specs.First.{first_of}
use Rattle.py_nesting.specs.Outlines.{Plain, Event, built}
use Rattle.py_nesting.specs.Shapes.{TokenShape, SignShape, Entry, entry, entries_of, outlines_of}
use Rattle.py_nesting.specs.TooDeep.{same_place, IsFirstInFront}
use Rattle.py_nesting.specs.Walk.{Demand, Met, met, comes, walk}
use Rattle.py_demands.specs.Asks.{of_outlines}
use Rattle.py_demands.specs.Behind.{heads, is_once, drops_first, Behind}
use Rattle.py_demands.specs.Decided.{IsNoDeeper, InModules}
use Rattle.py_demands.specs.Turning.{IsReached}

-- tokens at which nodes may stand have places of their own
abbrev pub AreApart : List Token → Type 0
AreApart front = (p : Place) → is_once (same_place p) (heads front) ≡ true

-- the node at a token, if one is asked for
abbrev pub entry_met : Entry → Demand → List Met → List Met
entry_met (entry (TokenShape f) p) d nodes = met p (comes Plain d) nodes
entry_met (entry SignShape p) d nodes = met p (comes Plain d) nodes
entry_met e d nodes = nodes

abbrev pub tokens_met : List Entry → List Demand → List Met → List Met
tokens_met [] ds nodes = nodes
tokens_met (e ∷ es) [] nodes = nodes
tokens_met (e ∷ es) (d ∷ ds) nodes = entry_met e d (tokens_met es ds nodes)

-- the nodes of parts and those at their tokens, where this is asked of the parts, which these events put together
abbrev pub front_met : List Entry → List Event → List Demand → List Met
front_met es events ds = tokens_met es ds (walk events (of_outlines es ds))

-- Where demands are met in a module that begins with the front, and no module has a node less deep, the first node that is met and has
-- too many others above it stands where the front is nested too deep first.
abbrev pub FirstLaw : Type 0
FirstLaw =
    (front : List Token) (symbols : List Symbol) (v : Parts) (b : Behind front [] symbols v) (ds : List Demand) (events : List Event) → drops_first symbols ≡ false → AreApart front
    → built events ≡ Some (outlines_of v) → InModules front symbols (λ at body. IsNoDeeper at v ds body) → ((p : Place) → IsReached front v ds p)
    → IsFirstInFront (first_of None (front_met (entries_of v) events ds)) front
