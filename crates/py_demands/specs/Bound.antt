-- How deep the nodes of the parts behind a front stand in a module that begins with it, at least.
use Rattle.std.specs.Prelude.{◌≡◌, ℕ, max, ◌≤◌, Bool, true, false, List, [], ◌∷◌, ◌++◌, length, Some}
use Rattle.grammars.specs.Sets.{have_specimens}
use Rattle.py_tokens.specs.Token.{Place}
use Rattle.py_syntax.specs.Token.{Token}
use Rattle.py_syntax.specs.Tree.{Body}
use Rattle.py_syntax.specs.Build.{Parts}
use Rattle.py_syntax.specs.Grammar.{IsModule}
use Rattle.py_syntax.specs.Table.{Symbol, table, sets}
use Rattle.py_nesting.specs.Depths.{body_depth}
use Rattle.py_nesting.specs.Shapes.{entries_of, outlines_of}
use Rattle.py_nesting.specs.Walk.{Demand, Whole, depth_of}
use Rattle.py_fronts.specs.AtFront.{AtFront}
use Rattle.py_demands.specs.Asks.{of_outlines, tokens_depth, avoids}
use Rattle.py_demands.specs.Closing.{exactly}
use Rattle.py_demands.specs.Least.{Ask, AtLeast, least, are_askable}
use Rattle.py_demands.specs.AtMost.{AreAtMost}

-- the greatest depth of the nodes of parts, and of those that stand at their tokens
abbrev pub standing : (Place → Bool) → Parts → List Demand → ℕ
standing at v ds = max (tokens_depth at (entries_of v) ds) (depth_of at (outlines_of v) (of_outlines (entries_of v) ds))

-- In a module that begins with a front, the nodes of the parts behind the front have the depths that some demands tell, each of which is
-- no less than what the symbols ask; and no other nodes stand where no token stands that comes behind the front.
abbrev pub LowerLaw : Type 0
LowerLaw =
    (front more : List Token) (symbols : List Symbol) (v : Parts) (body : Body) (asks : List Ask) → AtFront front [] symbols v → IsModule body (front ++ more)
    → are_askable symbols (Some (AtLeast 0 ∷ [])) ≡ true → least symbols (Some (AtLeast 0 ∷ [])) ≡ Some asks
    → (ds : List Demand) × (length ds ≡ length (entries_of v)) × AreAtMost asks ds
    × ((at : Place → Bool) → (standing at v ds ≤ body_depth at body) × (avoids at more ≡ true → body_depth at body ≤ standing at v ds))

-- Where the symbols are closed by tokens at some place, the nodes of the parts behind the front have just the depths that these demands tell.
abbrev pub ClosingLaw : Type 0
ClosingLaw =
    (front : List Token) (symbols : List Symbol) (v : Parts) (ds : List Demand) (p : Place) → AtFront front [] symbols v → have_specimens table sets symbols ≡ true
    → exactly symbols (Some (Whole 0 ∷ [])) ≡ Some ds
    → (more : List Token) × (body : Body) × IsModule body (front ++ more) × ((at : Place → Bool) → at p ≡ false → avoids at more ≡ true)
    × (length ds ≡ length (entries_of v)) × ((at : Place → Bool) → (standing at v ds ≤ body_depth at body) × (at p ≡ false → body_depth at body ≤ standing at v ds))
