-- Where a statement begins that is made of an expression or of targets, a deeper node of theirs stands.
use Rattle.std.proofs.Common.{◌≡◌, ℕ, zero, suc, max, ◌≤◌, Bool, true, false, List, [], ◌∷◌, Some, refl, arith}
use Rattle.py_tokens.specs.Token.{Place}
use Rattle.py_syntax.specs.Build.{start_of, PToken, PExpr, PTargets, Parts, Action, MakeExprStmt, MakeAssign, MakeAugmented}
use Rattle.py_nesting.specs.Depths.{here}
use Rattle.py_nesting.specs.Outlines.{Plain, Outline, Group, Event, outline_depth}
use Rattle.py_nesting.specs.TreeOutlines.{expr_outline, assigned_outlines}
use Rattle.py_nesting.specs.Shapes.{Entry, entries_of, outlines_of}
use Rattle.py_nesting.specs.Effects.{effect, effect_of}
use Rattle.py_nesting.specs.Walk.{Demand, Nothing, Whole, Inside, Assigned, InsideAssigned, raise, demanded, below, comes, met, met_depth, depth_of}
use Rattle.py_fronts.specs.Begins.{Begin}
use Rattle.py_fronts.proofs.TreesBegin.{expr_begins}
use Rattle.py_demands.specs.Roles.{asked_before}
use Rattle.py_demands.specs.Asks.{of_outlines, starts_depth}
use Rattle.py_nesting.proofs.EffectsKept.{no_effect}

whole_below : (n k : ℕ) (b : Bool) → (b ≡ true → 1 ≤ k) → max (raise n (here b)) 0 ≤ raise (suc n) k
whole_below n k false h = omega arith
whole_below n zero true h = let l : 1 ≤ 0 = h refl in absurd (omega arith)
whole_below n (suc k) true h = omega arith

-- a node above what begins there
start_below : (at : Place → Bool) (p : Place) (o : Outline) (d : Demand) → (at p ≡ true → 1 ≤ outline_depth at o) → met_depth at (met p (comes Plain d) []) ≤ demanded at (below Plain d) o
start_below at p o Nothing h = omega arith
start_below at p o (Whole n) h = whole_below n (outline_depth at o) (at p) h
start_below at p o (Inside n) h = omega arith
start_below at p o (Assigned n) h = whole_below n (outline_depth at o) (at p) h
start_below at p o (InsideAssigned n) h = omega arith

pub starts_below : (a : Action) (v : Parts) (at : Place → Bool) (ds : List Demand) (new : List Entry) (events : List Event) → Begin v → effect_of a (entries_of v) ≡ Some (effect new events)
    → starts_depth at a (entries_of v) ds ≤ depth_of at (outlines_of v) (of_outlines (entries_of v) (asked_before a ds))
starts_below a v at [] new events b e = omega arith
starts_below MakeExprStmt (PExpr x ∷ v) at (d ∷ ds) new events b e = let s = start_below at (start_of x) (expr_outline x) d (expr_begins at x) in omega arith
starts_below MakeExprStmt v at (d ∷ ds) new events b e = no_effect e
starts_below MakeAssign (PExpr x ∷ PTargets p ts ∷ v) at (d ∷ ds) new events b e = let s : met_depth at (met p (comes Plain d) []) ≤ demanded at (below Plain d) (Group (assigned_outlines ts)) = start_below at p (Group (assigned_outlines ts)) d (b.1.0 at) in omega arith
starts_below MakeAssign v at (d ∷ ds) new events b e = no_effect e
starts_below (MakeAugmented o) (PExpr x ∷ PToken t ∷ PExpr y ∷ v) at (d ∷ ds) new events b e = let s = start_below at (start_of y) (expr_outline y) d (expr_begins at y) in omega arith
starts_below (MakeAugmented o) v at (d ∷ ds) new events b e = no_effect e
starts_below a v at (d ∷ ds) new events b e = omega arith
