-- Where the run stands behind a front, with what is asked there.
use Rattle.std.specs.Prelude.{◌≡◌, Bool, true, false, not, ◌&&◌, ◌||◌, if◌then◌else◌, List, [], ◌∷◌, ◌++◌, Some, ◌⊎◌}
use Rattle.grammars.specs.Grammar.{Tok, Non, Do}
use Rattle.grammars.specs.Sets.{have_specimens}
use Rattle.py_tokens.specs.Token.{Place}
use Rattle.py_syntax.specs.Token.{Token}
use Rattle.py_syntax.specs.Kinds.{kind_of}
use Rattle.py_syntax.specs.Build.{PToken, Parts, Drop}
use Rattle.py_syntax.specs.Table.{Symbol, table, sets}
use Rattle.py_nesting.specs.Ordered.{is_layout_kind}
use Rattle.py_nesting.specs.Walk.{Demand, Whole}
use Rattle.py_fronts.specs.AtFront.{AtFront}
use Rattle.py_demands.specs.Asks.{place_of, avoids}
use Rattle.py_demands.specs.Least.{Ask, AtLeast, least, are_askable}
use Rattle.py_demands.specs.Closing.{exactly}
use Rattle.py_demands.specs.Order.{IsAway, IsLone}

-- the tokens at which a node may stand
abbrev pub heads : List Token → List Token
heads [] = []
heads (t ∷ ts) = if is_layout_kind (kind_of t) then heads ts else t ∷ heads ts

-- one of these tokens at most stands there
abbrev pub is_once : (Place → Bool) → List Token → Bool
is_once at [] = true
is_once at (t ∷ ts) = if at (place_of t) then avoids at ts else is_once at ts

abbrev pub drops_first : List Symbol → Bool
drops_first (Do Drop ∷ symbols) = true
drops_first symbols = false

-- tokens of layout are dropped as soon as they are read
abbrev pub drop_layout : List Symbol → Bool
drop_layout [] = true
drop_layout (Tok k ∷ symbols) = (not (is_layout_kind k) || drops_first symbols) && drop_layout symbols
drop_layout (Non x ∷ symbols) = drop_layout symbols
drop_layout (Do a ∷ symbols) = drop_layout symbols

-- a whole module has no node above it
pub record Behind (front ahead : List Token) (symbols : List Symbol) (v : Parts) : Type 0 where
  pub at_front : AtFront front ahead symbols v
  pub specimens : have_specimens table sets symbols ≡ true
  -- what is asked at least
  pub asks : List Ask
  pub least_is : least symbols (Some (AtLeast 0 ∷ [])) ≡ Some asks
  pub askable : are_askable symbols (Some (AtLeast 0 ∷ [])) ≡ true
  -- what is asked where the symbols are closed
  pub demands : List Demand
  pub exactly_is : exactly symbols (Some (Whole 0 ∷ [])) ≡ Some demands
  pub drops : drop_layout symbols ≡ true
  -- the parts without a token of layout that is dropped next
  pub kept : Parts
  pub held : (kept ≡ v) ⊎ ((t : Token) × (v ≡ PToken t ∷ kept) × (drops_first symbols ≡ true))
  -- the tokens that were read, no more than one of which brings nodes to a place where one of them stands at most
  pub read : List Token
  pub split : front ≡ read ++ ahead
  pub away : (at : Place → Bool) → avoids at (heads read) ≡ true → IsAway at kept
  pub lone : (at : Place → Bool) → is_once at (heads read) ≡ true → IsLone at kept
