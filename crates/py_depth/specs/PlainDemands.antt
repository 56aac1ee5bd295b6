-- What the code asks of outlines, in plain words. Its stack has the last at the end.
use Rattle.std.specs.Prelude.{ℕ, List, ◌∷◌, map, reverse, Option, Some, None}
use Rattle.py_tokens.specs.Token as token
use Rattle.py_lexer.specs.PlainTokens.{plain_place}
use Rattle.py_nesting.specs.Walk as meaning
use Rattle.shed_base.specs.declared.place.Place.{Place}
use Rattle.py_depth.specs.declared.walk.Demand.{Demand}
use Rattle.py_depth.specs.declared.walk.Demand.TheVariants as demand

abbrev pub plain_demand : Demand → meaning.Demand
plain_demand demand.Nothing = meaning.Nothing
plain_demand (demand.Whole d) = meaning.Whole d
plain_demand (demand.Inside d) = meaning.Inside d
plain_demand (demand.Assigned d) = meaning.Assigned d
plain_demand (demand.InsideAssigned d) = meaning.InsideAssigned d

-- the last first
unfoldable pub demands_of : List Demand → List meaning.Demand
demands_of demands = map plain_demand (reverse demands)

abbrev pub plain_first : Option Place → Option token.Place
plain_first None = None
plain_first (Some p) = Some (plain_place p)

-- with a node that is met, if one is
abbrev pub with_met : Option (Place × ℕ) → List meaning.Met → List meaning.Met
with_met None nodes = nodes
with_met (Some node) nodes = record { place = plain_place node.0; above = node.1 } ∷ nodes
