-- Tokens in the order of the text stand apart, but for layout, and none of them before an earlier one.
use Rattle.std.proofs.Common.{◌≡◌, Bool, true, false, not, ◌||◌, if◌then◌else◌, List, [], ◌∷◌, refl, arith}
use Rattle.grammars.proofs.Bools.{both}
use Rattle.py_tokens.specs.Token.{Place}
use Rattle.py_tokens.specs.Places.{is_before}
use Rattle.py_syntax.specs.Token.{Token}
use Rattle.py_syntax.specs.Kinds.{kind_of}
use Rattle.py_nesting.specs.Ordered.{is_layout_kind, IsBefore, AreOrdered}
use Rattle.py_nesting.specs.TooDeep.{same_place, stands_among, place_of}
use Rattle.py_demands.specs.Asks.{avoids}
use Rattle.py_demands.specs.Behind.{heads, is_once}
use Rattle.py_demands.specs.BothFirst.{AreInOrder, OrderedFrontLaw}
use Rattle.py_demands.specs.FrontDepth.{AreApart}

here_before : (p q r : Place) → same_place p q ≡ true → is_before q r ≡ false → is_before p r ≡ false
here_before p q r h k = grind arith

not_here : (p q r : Place) → same_place p q ≡ true → is_before q r ≡ true → not (same_place p r) ≡ true
not_here p q r h k = grind arith

standing_behind : (t : Token) (ts : List Token) → IsBefore t ts → (p : Place) → stands_among ts p ≡ true → is_before p (place_of t) ≡ false
standing_behind t [] b p h = absurd (cc)
standing_behind t (u ∷ ts) b p h = go (same_place p (place_of u)) refl h (λ k. standing_behind t ts b.2 p k)
  where
    go : (s : Bool) → same_place p (place_of u) ≡ s → (s || stands_among ts p) ≡ true → (stands_among ts p ≡ true → is_before p (place_of t) ≡ false) → is_before p (place_of t) ≡ false
    go true e k again = here_before p (place_of u) (place_of t) e b.0
    go false e k again = again k

pub ordered_in_order : (front : List Token) → AreOrdered front → AreInOrder front
ordered_in_order [] o = tt
ordered_in_order (t ∷ ts) o = (standing_behind t ts o.0, ordered_in_order ts o.1)

heads_elsewhere : (t : Token) (ts : List Token) → IsBefore t ts → is_layout_kind (kind_of t) ≡ false → (p : Place) → same_place p (place_of t) ≡ true → avoids (same_place p) (heads ts) ≡ true
heads_elsewhere t [] b l p h = refl
heads_elsewhere t (u ∷ ts) b l p h = go (is_layout_kind (kind_of u)) refl (heads_elsewhere t ts b.2 l p h)
  where
    go : (s : Bool) → is_layout_kind (kind_of u) ≡ s → avoids (same_place p) (heads ts) ≡ true → avoids (same_place p) (if s then heads ts else u ∷ heads ts) ≡ true
    go true e r = r
    go false e r = both (not (same_place p (place_of u))) (avoids (same_place p) (heads ts)) (not_here p (place_of t) (place_of u) h (b.1 l e)) r

pub ordered_apart : (front : List Token) → AreOrdered front → AreApart front
ordered_apart [] o p = refl
ordered_apart (t ∷ ts) o p = go (is_layout_kind (kind_of t)) refl (ordered_apart ts o.1 p)
  where
    at_head : is_layout_kind (kind_of t) ≡ false → (s : Bool) → same_place p (place_of t) ≡ s → is_once (same_place p) (heads ts) ≡ true
        → (if s then avoids (same_place p) (heads ts) else is_once (same_place p) (heads ts)) ≡ true
    at_head l true e r = heads_elsewhere t ts o.0 l p e
    at_head l false e r = r

    go : (s : Bool) → is_layout_kind (kind_of t) ≡ s → is_once (same_place p) (heads ts) ≡ true → is_once (same_place p) (if s then heads ts else t ∷ heads ts) ≡ true
    go true e r = r
    go false e r = at_head e (same_place p (place_of t)) refl r

pub apart_and_in_order : OrderedFrontLaw
apart_and_in_order front o = (ordered_apart front o, ordered_in_order front o)
