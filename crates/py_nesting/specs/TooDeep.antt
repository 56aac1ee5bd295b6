-- Where a module is nested too deep.
use Rattle.std.specs.Prelude.{◌≡◌, suc, ◌<◌, Bool, true, false, ◌&&◌, ◌==◌, List, ◌++◌, ◌↔◌, Option, Some, None}
use Rattle.std.specs.List.{list_any}
use Rattle.py_tokens.specs.Token.{Place}
use Rattle.py_tokens.specs.Places.{is_before}
use Rattle.py_syntax.specs.Token.{Token, At}
use Rattle.py_syntax.specs.Tree.{Body}
use Rattle.py_syntax.specs.Grammar.{IsModule}
use Rattle.py_syntax.specs.Heights.{most_ancestors, IsShallow}
use Rattle.py_nesting.specs.Depths.{body_depth}

abbrev pub same_place : Place → Place → Bool
same_place p q = (p.«module» == q.«module») && ((p.line == q.line) && (p.column == q.column))

-- some node stands here
abbrev pub HasNode : Place → Body → Type 0
HasNode p body = 0 < body_depth (same_place p) body

-- a node stands here with more than 100 others above it
abbrev pub IsTooDeepAt : Place → Body → Type 0
IsTooDeepAt p body = suc most_ancestors < body_depth (same_place p) body

-- the first such place of a module
abbrev pub IsFirstTooDeep : Place → Body → Type 0
IsFirstTooDeep p body = IsTooDeepAt p body × ((q : Place) → IsTooDeepAt q body → is_before q p ≡ false)

-- a module is shallow exactly where no node lies too deep
abbrev pub ShallowLaw : Type 0
ShallowLaw = (body : Body) → IsShallow body ↔ ((p : Place) → IsTooDeepAt p body → ⊥)

abbrev pub place_of : Token → Place
place_of (At p k) = p

-- one of these tokens stands here
abbrev pub stands_among : List Token → Place → Bool
stands_among ts p = list_any (λ (t : Token). same_place p (place_of t)) ts

-- these tokens go on with others, none of which stands at a place of theirs, and together they are this module
abbrev pub GoesOnAs : List Token → Body → Type 0
GoesOnAs front body =
    (more : List Token) × IsModule body (front ++ more) × ((p : Place) → stands_among front p ≡ true → stands_among more p ≡ false)

-- Of the tokens that begin a module: a node here has more than 100 others above it in every module that begins so, where
-- a node stands here at all.
abbrev pub IsTooDeepInFront : Place → List Token → Type 0
IsTooDeepInFront p front =
    (stands_among front p ≡ true) × ((body : Body) × GoesOnAs front body × HasNode p body)
    × ((body : Body) → GoesOnAs front body → HasNode p body → IsTooDeepAt p body)

-- no place of a front is nested too deep, or the first that is stands here
abbrev pub IsFirstInFront : Option Place → List Token → Type 0
IsFirstInFront None front = (p : Place) → IsTooDeepInFront p front → ⊥
IsFirstInFront (Some p) front = IsTooDeepInFront p front × ((q : Place) → IsTooDeepInFront q front → is_before q p ≡ false)

-- what is nested too deep stands behind this place
abbrev pub IsShallowTo : Place → List Token → Type 0
IsShallowTo p front = (q : Place) → IsTooDeepInFront q front → is_before p q ≡ true
