-- What a stack is asked, part by part: tokens, operators of comparisons and names of classes have no outline.
use Rattle.std.specs.Prelude.{ℕ, max, Bool, true, false, not, ◌&&◌, if◌then◌else◌, List, [], ◌∷◌, Option, Some, None}
use Rattle.py_tokens.specs.Token.{Place}
use Rattle.py_syntax.specs.Token.{Token, At}
use Rattle.py_syntax.specs.Build.{Action, MakeExprStmt, MakeAssign, MakeAugmented}
use Rattle.py_nesting.specs.Outlines.{Plain}
use Rattle.py_nesting.specs.TreeOutlines.{leaf}
use Rattle.py_nesting.specs.Shapes.{TokenShape, SignShape, ClassShape, Entry, entry}
use Rattle.py_nesting.specs.Walk.{Demand, demanded, comes, met, met_depth}

abbrev pub has_outline : Entry → Bool
has_outline (entry (TokenShape f) p) = false
has_outline (entry SignShape p) = false
has_outline (entry (ClassShape f) p) = false
has_outline e = true

-- what is asked of outlines
abbrev pub of_outlines : List Entry → List Demand → List Demand
of_outlines [] ds = []
of_outlines (e ∷ es) [] = []
of_outlines (e ∷ es) (d ∷ ds) = if has_outline e then d ∷ of_outlines es ds else of_outlines es ds

-- the depth of a node that stands at a token
abbrev pub entry_depth : (Place → Bool) → Demand → Entry → ℕ
entry_depth at d (entry (TokenShape f) p) = demanded at d (leaf p)
entry_depth at d (entry SignShape p) = demanded at d (leaf p)
entry_depth at d e = 0

abbrev pub tokens_depth : (Place → Bool) → List Entry → List Demand → ℕ
tokens_depth at [] ds = 0
tokens_depth at (e ∷ es) [] = 0
tokens_depth at (e ∷ es) (d ∷ ds) = max (entry_depth at d e) (tokens_depth at es ds)

-- where a statement begins that an action makes of an expression or of targets
abbrev pub begun_by : Action → List Entry → Option Place
begun_by MakeExprStmt (entry f a ∷ es) = Some a
begun_by MakeAssign (e ∷ entry f a ∷ es) = Some a
begun_by (MakeAugmented o) (e ∷ t ∷ entry f a ∷ es) = Some a
begun_by a es = None

abbrev pub met_there : (Place → Bool) → Option Place → Option ℕ → ℕ
met_there at None o = 0
met_there at (Some p) o = met_depth at (met p o [])

-- the depth of such a statement there
abbrev pub starts_depth : (Place → Bool) → Action → List Entry → List Demand → ℕ
starts_depth at a es [] = 0
starts_depth at a es (d ∷ ds) = met_there at (begun_by a es) (comes Plain d)

abbrev pub place_of : Token → Place
place_of (At p k) = p

-- none of these tokens stands there
abbrev pub avoids : (Place → Bool) → List Token → Bool
avoids at [] = true
avoids at (t ∷ ts) = not (at (place_of t)) && avoids at ts
