-- Where what is assigned to begins, a node of it stands.
use Rattle.std.specs.Prelude.{◌≡◌, ◌≤◌, Bool, true, List, [], ◌∷◌}
use Rattle.py_tokens.specs.Token.{Place}
use Rattle.py_syntax.specs.Tree.{ETuple, no_exprs, Targets}
use Rattle.py_syntax.specs.Build.{Part, PExpr, PTargets, Parts}
use Rattle.py_nesting.specs.Outlines.{outlines_depth}
use Rattle.py_nesting.specs.TreeOutlines.{assigned_outlines}

abbrev pub TargetsBegin : Place → List Targets → Type 0
TargetsBegin p ts = (at : Place → Bool) → at p ≡ true → 1 ≤ outlines_depth at (assigned_outlines ts)

-- a tuple has an item
abbrev pub PartBegins : Part → Type 0
PartBegins (PExpr (ETuple p no_exprs)) = ⊥
PartBegins (PTargets p ts) = TargetsBegin p ts
PartBegins part = Unit {0}

abbrev pub Begin : Parts → Type 0
Begin [] = Unit {0}
Begin (part ∷ v) = PartBegins part × Begin v
