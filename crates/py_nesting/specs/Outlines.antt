-- The nodes of a module as a tree of their own, and how they are put together step by step on a stack, the last on top.
use Rattle.std.specs.Prelude.{ℕ, zero, suc, max, Bool, true, false, List, [], ◌∷◌, Option, Some, None, if◌then◌else◌}
use Rattle.py_tokens.specs.Token.{Place}
use Rattle.py_nesting.specs.Depths.{under}

pub data Label : Type 0 where
  Plain : Label
  -- brackets round one expression, which may turn out to be targets
  Bracket : Label
  -- items with commas between them, which may turn out to be targets, and then are no node
  Tuple : Label

mutual
  pub data Outline : Type 0 where
    Node : (label : Label) → (place : Place) → (below : Outlines) → Outline
    -- no node: a body, say
    Group : (below : Outlines) → Outline

  pub data Outlines : Type 0 where
    none_below : Outlines
    more_below : (first : Outline) → (rest : Outlines) → Outlines

abbrev mutual
  pub outline_depth : (Place → Bool) → Outline → ℕ
  outline_depth at (Node l p os) = under (at p) (outlines_depth at os)
  outline_depth at (Group os) = outlines_depth at os

  pub outlines_depth : (Place → Bool) → Outlines → ℕ
  outlines_depth at none_below = 0
  outlines_depth at (more_below o os) = max (outline_depth at o) (outlines_depth at os)

-- an expression that turns out to be targets
abbrev mutual
  pub as_targets : Outline → Outline
  as_targets (Node Plain p os) = Node Plain p os
  as_targets (Node Bracket p os) = Node Bracket p (all_as_targets os)
  as_targets (Node Tuple p os) = Group os
  as_targets (Group os) = Group os

  pub all_as_targets : Outlines → Outlines
  all_as_targets none_below = none_below
  all_as_targets (more_below o os) = more_below (as_targets o) (all_as_targets os)

abbrev pub with_last : Outlines → Outline → Outlines
with_last none_below o = more_below o none_below
with_last (more_below first os) o = more_below first (with_last os o)

pub data Event : Type 0 where
  -- a node comes over so many from the top
  Over : (label : Label) → (place : Place) → (count : ℕ) → Event
  -- so many from the top become a group
  Gather : (count : ℕ) → Event
  -- the top one goes below the next, a node with this label, as its last
  Join : (label : Label) → Event
  JoinGroup : Event
  -- the top node is none any more
  Loosen : Event
  -- the top one turns out to be targets
  Assign : Event
  -- the one below the top is let go
  Forget : Event

abbrev pub same_label : Label → Label → Bool
same_label Plain Plain = true
same_label Bracket Bracket = true
same_label Tuple Tuple = true
same_label l k = false

pub record Taken : Type 0 where
  pub taken : Outlines
  pub left : List Outline

-- so many from the top, the first of which goes last
abbrev pub take_below : ℕ → List Outline → Outlines → Option Taken
take_below zero os taken = Some (record { taken = taken; left = os })
take_below (suc n) [] taken = None
take_below (suc n) (o ∷ os) taken = take_below n os (more_below o taken)

abbrev pub put : (Outlines → Outline) → Option Taken → Option (List Outline)
put f None = None
put f (Some t) = Some (f t.taken ∷ t.left)

abbrev pub step : Event → List Outline → Option (List Outline)
step (Over l p n) os = put (Node l p) (take_below n os none_below)
step (Gather n) os = put Group (take_below n os none_below)
step (Join l) (o ∷ Node k p below ∷ os) = if same_label l k then Some (Node k p (with_last below o) ∷ os) else None
step JoinGroup (o ∷ Group below ∷ os) = Some (Group (with_last below o) ∷ os)
step Loosen (Node k q below ∷ os) = Some (Group below ∷ os)
step Assign (o ∷ os) = Some (as_targets o ∷ os)
step Forget (o ∷ n ∷ os) = Some (o ∷ os)
step e os = None

abbrev pub after : Event → Option (List Outline) → Option (List Outline)
after e None = None
after e (Some os) = step e os

-- what events come to, the last of which stands first
abbrev pub built : List Event → Option (List Outline)
built [] = Some []
built (e ∷ events) = after e (built events)
