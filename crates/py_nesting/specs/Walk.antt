-- The nodes that stand above each, found by going back through the events that built an outline.
use Rattle.std.specs.Prelude.{◌≡◌, ℕ, zero, suc, ◌+◌, max, Bool, List, [], ◌∷◌, Option, Some, None}
use Rattle.py_tokens.specs.Token.{Place}
use Rattle.py_nesting.specs.Depths.{here}
use Rattle.py_nesting.specs.Outlines.{Label, Plain, Bracket, Tuple, Outline, Node, Group, Outlines, outline_depth, outlines_depth, as_targets, Event, Over, Gather, Join, JoinGroup, Loosen, Assign, Forget, built}

-- what is asked of an outline: so many nodes stand above it
pub data Demand : Type 0 where
  Nothing : Demand
  Whole : (above : ℕ) → Demand
  -- its topmost node is not asked for, and so many stand above what is below
  Inside : (above : ℕ) → Demand
  -- the same of the targets that it turns out to be
  Assigned : (above : ℕ) → Demand
  InsideAssigned : (above : ℕ) → Demand

-- a depth with so many more above
abbrev pub raise : ℕ → ℕ → ℕ
raise d zero = zero
raise d (suc n) = suc n + d

abbrev pub inside : Outline → Outlines
inside (Node l p os) = os
inside (Group os) = os

abbrev pub demanded : (Place → Bool) → Demand → Outline → ℕ
demanded at Nothing o = 0
demanded at (Whole d) o = raise d (outline_depth at o)
demanded at (Inside d) o = raise d (outlines_depth at (inside o))
demanded at (Assigned d) o = raise d (outline_depth at (as_targets o))
demanded at (InsideAssigned d) o = raise d (outlines_depth at (inside (as_targets o)))

-- the greatest depth on a stack, of which each outline is asked something
abbrev pub depth_of : (Place → Bool) → List Outline → List Demand → ℕ
depth_of at [] ds = 0
depth_of at (o ∷ os) [] = 0
depth_of at (o ∷ os) (d ∷ ds) = max (demanded at d o) (depth_of at os ds)

-- what is asked below a node
abbrev pub below : Label → Demand → Demand
below l Nothing = Nothing
below l (Whole d) = Whole (suc d)
below l (Inside d) = Whole d
below Plain (Assigned d) = Whole (suc d)
below Bracket (Assigned d) = Assigned (suc d)
below Tuple (Assigned d) = Whole d
below Plain (InsideAssigned d) = Whole d
below Bracket (InsideAssigned d) = Assigned d
below Tuple (InsideAssigned d) = Whole d

-- and below no node
abbrev pub within : Demand → Demand
within Nothing = Nothing
within (Whole d) = Whole d
within (Inside d) = Whole d
within (Assigned d) = Whole d
within (InsideAssigned d) = Whole d

-- of a node that is none any more
abbrev pub loosened : Demand → Demand
loosened Nothing = Nothing
loosened (Whole d) = Inside d
loosened (Inside d) = Inside d
loosened (Assigned d) = Inside d
loosened (InsideAssigned d) = Inside d

-- of an expression that turns out to be targets
abbrev pub unassigned : Demand → Demand
unassigned Nothing = Nothing
unassigned (Whole d) = Assigned d
unassigned (Inside d) = InsideAssigned d
unassigned (Assigned d) = Assigned d
unassigned (InsideAssigned d) = InsideAssigned d

abbrev pub times : ℕ → Demand → List Demand → List Demand
times zero d ds = ds
times (suc n) d ds = d ∷ times n d ds

-- what was asked before an event
abbrev pub back : Event → List Demand → List Demand
back e [] = []
back (Over l p n) (d ∷ ds) = times n (below l d) ds
back (Gather n) (d ∷ ds) = times n (within d) ds
back (Join l) (d ∷ ds) = below l d ∷ d ∷ ds
back JoinGroup (d ∷ ds) = within d ∷ d ∷ ds
back Loosen (d ∷ ds) = loosened d ∷ ds
back Assign (d ∷ ds) = unassigned d ∷ ds
back Forget (d ∷ ds) = d ∷ Nothing ∷ ds

-- so many nodes stand above the one that comes, if one does
abbrev pub comes : Label → Demand → Option ℕ
comes l Nothing = None
comes l (Whole d) = Some d
comes l (Inside d) = None
comes Tuple (Assigned d) = None
comes Plain (Assigned d) = Some d
comes Bracket (Assigned d) = Some d
comes l (InsideAssigned d) = None

pub record Met : Type 0 where
  pub place : Place
  pub above : ℕ

abbrev pub met : Place → Option ℕ → List Met → List Met
met p None nodes = nodes
met p (Some d) nodes = record { place = p; above = d } ∷ nodes

-- the node that an event brings
abbrev pub brought : Event → List Demand → List Met → List Met
brought (Over l p n) (d ∷ ds) nodes = met p (comes l d) nodes
brought e ds nodes = nodes

-- all nodes, back through the events, the last of which stands first
abbrev pub walk : List Event → List Demand → List Met
walk [] ds = []
walk (e ∷ events) ds = brought e ds (walk events (back e ds))

-- the greatest depth of such nodes
abbrev pub met_depth : (Place → Bool) → List Met → ℕ
met_depth at [] = 0
met_depth at (x ∷ nodes) = max (raise x.above (here (at x.place))) (met_depth at nodes)

-- the nodes that are met are those of the outlines
abbrev pub WalkLaw : Type 0
WalkLaw = (at : Place → Bool) (events : List Event) (os : List Outline) (ds : List Demand) → built events ≡ Some os → depth_of at os ds ≡ met_depth at (walk events ds)
