-- The first place where a front of a module is nested too deep, where two readings tell how deep its nodes stand.
use Rattle.std.specs.Prelude.{◌≡◌, suc, ◌<◌, Bool, true, false, not, ◌&&◌, ◌||◌, nat_lt, if◌then◌else◌, List, [], ◌∷◌, Option, Some, None, ◌⊎◌}
use Rattle.py_tokens.specs.Token.{Place}
use Rattle.py_tokens.specs.Places.{is_before}
use Rattle.py_syntax.specs.Token.{Token}
use Rattle.py_syntax.specs.Heights.{most_ancestors}
use Rattle.py_syntax.specs.Build.{Parts}
use Rattle.py_syntax.specs.Table.{Symbol}
use Rattle.py_nesting.specs.Ordered.{AreOrdered}
use Rattle.py_nesting.specs.Outlines.{Event, built}
use Rattle.py_nesting.specs.Shapes.{entries_of, outlines_of}
use Rattle.py_nesting.specs.TooDeep.{same_place, stands_among, IsFirstInFront}
use Rattle.py_nesting.specs.Walk.{Demand, Met, met_depth}
use Rattle.py_demands.specs.Asks.{place_of}
use Rattle.py_demands.specs.Behind.{drops_first, Behind}
use Rattle.py_demands.specs.Decided.{IsNoDeeper, InModules}
use Rattle.py_demands.specs.FrontDepth.{AreApart, front_met}
use Rattle.py_demands.specs.Turning.{IsReached}

-- some node is met there
abbrev pub IsMetAt : List Met → Place → Type 0
IsMetAt nodes p = 0 < met_depth (same_place p) nodes

-- one with too many others above it
abbrev pub IsDeepAt : List Met → Place → Type 0
IsDeepAt nodes p = suc most_ancestors < met_depth (same_place p) nodes

-- a node is met there in one of both, and one with too many others above it in each of both that has one
abbrev pub IsDeepInBoth : List Met → List Met → Place → Type 0
IsDeepInBoth nodes others p = (IsMetAt nodes p ⊎ IsMetAt others p) × (IsMetAt nodes p → IsDeepAt nodes p) × (IsMetAt others p → IsDeepAt others p)

abbrev pub IsFirstInBoth : Option Place → List Met → List Met → Type 0
IsFirstInBoth None nodes others = (p : Place) → IsDeepInBoth nodes others p → ⊥
IsFirstInBoth (Some p) nodes others = IsDeepInBoth nodes others p × ((q : Place) → IsDeepInBoth nodes others q → is_before q p ≡ false)

-- Where each of two readings is that of a module that begins with the front, and no module has a node less deep than one of both, the
-- first such place is where the front is nested too deep first.
abbrev pub BothFirstLaw : Type 0
BothFirstLaw =
    (front : List Token) (symbols : List Symbol) (v : Parts) (b : Behind front [] symbols v) (us ws : List Demand) (events : List Event) (o : Option Place) → drops_first symbols ≡ false → AreApart front
    → built events ≡ Some (outlines_of v) → InModules front symbols (λ at body. IsNoDeeper at v us body ⊎ IsNoDeeper at v ws body)
    → ((p : Place) → IsReached front v us p) → ((p : Place) → IsReached front v ws p)
    → IsFirstInBoth o (front_met (entries_of v) events us) (front_met (entries_of v) events ws) → IsFirstInFront o front

-- the same by computation
abbrev pub is_met_at : List Met → Place → Bool
is_met_at nodes p = nat_lt 0 (met_depth (same_place p) nodes)

abbrev pub is_deep_at : List Met → Place → Bool
is_deep_at nodes p = nat_lt (suc most_ancestors) (met_depth (same_place p) nodes)

abbrev pub is_clear_at : List Met → Place → Bool
is_clear_at nodes p = not (is_met_at nodes p) || is_deep_at nodes p

abbrev pub is_deep_in_both : List Met → List Met → Place → Bool
is_deep_in_both nodes others p = (is_met_at nodes p || is_met_at others p) && (is_clear_at nodes p && is_clear_at others p)

-- the place of the first token where it is so
abbrev pub first_in_both : List Met → List Met → List Token → Option Place
first_in_both nodes others [] = None
first_in_both nodes others (t ∷ ts) = if is_deep_in_both nodes others (place_of t) then Some (place_of t) else first_in_both nodes others ts

-- no token stands before an earlier one
abbrev pub AreInOrder : List Token → Type 0
AreInOrder [] = Unit {0}
AreInOrder (t ∷ ts) = ((p : Place) → stands_among ts p ≡ true → is_before p (place_of t) ≡ false) × AreInOrder ts

-- Where the tokens of the front are in order, the place is found by going over them.
abbrev pub BothFoundLaw : Type 0
BothFoundLaw =
    (front : List Token) (symbols : List Symbol) (v : Parts) (b : Behind front [] symbols v) (us ws : List Demand) (events : List Event) → drops_first symbols ≡ false → AreInOrder front → AreApart front
    → built events ≡ Some (outlines_of v) → InModules front symbols (λ at body. IsNoDeeper at v us body ⊎ IsNoDeeper at v ws body)
    → ((p : Place) → IsReached front v us p) → ((p : Place) → IsReached front v ws p)
    → IsFirstInFront (first_in_both (front_met (entries_of v) events us) (front_met (entries_of v) events ws) front) front

-- Both hold of tokens in the order of the text.
abbrev pub OrderedFrontLaw : Type 0
OrderedFrontLaw = (front : List Token) → AreOrdered front → AreApart front × AreInOrder front
