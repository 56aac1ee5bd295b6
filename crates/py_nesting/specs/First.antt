-- Of the nodes that are met, the first by place that has too many others above it.
use Rattle.std.specs.Prelude.{◌≡◌, ℕ, nat_lt, if◌then◌else◌, List, [], ◌∷◌, Option, Some, None}
use Rattle.py_tokens.specs.Token.{Place}
use Rattle.py_tokens.specs.Places.{is_before}
use Rattle.py_syntax.specs.Tree.{Body}
use Rattle.py_syntax.specs.Heights.{most_ancestors}
use Rattle.py_nesting.specs.TooDeep.{IsTooDeepAt, IsFirstTooDeep}
use Rattle.py_nesting.specs.Outlines.{Event, built}
use Rattle.py_nesting.specs.TreeOutlines.{body_outline}
use Rattle.py_nesting.specs.Walk.{Whole, Met, walk}

abbrev pub earlier : Option Place → Place → Place
earlier None p = p
earlier (Some q) p = if is_before p q then p else q

-- with one more node, which has so many above it
abbrev pub sooner : Option Place → Place → Option ℕ → Option Place
sooner first p None = first
sooner first p (Some d) = if nat_lt most_ancestors d then Some (earlier first p) else first

abbrev pub first_of : Option Place → List Met → Option Place
first_of first [] = first
first_of first (x ∷ nodes) = first_of (sooner first x.place (Some x.above)) nodes

-- in what these events put together
abbrev pub first_in : List Event → Option Place
first_in events = first_of None (walk events (Whole 0 ∷ []))

-- no node of a module lies too deep, or the first that does stands here
abbrev pub IsFirst : Option Place → Body → Type 0
IsFirst None body = (p : Place) → IsTooDeepAt p body → ⊥
IsFirst (Some p) body = IsFirstTooDeep p body

abbrev pub FirstLaw : Type 0
FirstLaw = (events : List Event) (body : Body) → built events ≡ Some (body_outline body ∷ []) → IsFirst (first_in events) body
