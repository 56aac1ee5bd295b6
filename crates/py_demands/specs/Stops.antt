-- Where the run over a front alone stands, computed, and whether all nodes at its tokens may lie shallow.
use Rattle.std.specs.Prelude.{◌≡◌, ℕ, zero, suc, Bool, true, false, ◌&&◌, ◌||◌, ◌==◌, nat_lt, if◌then◌else◌, List, [], ◌∷◌, ◌++◌, Option, Some, None}
use Rattle.grammars.specs.Grammar.{Tok, Non, Do, Row, sight}
use Rattle.grammars.specs.Run.{pick}
use Rattle.py_tokens.specs.Token.{Place}
use Rattle.py_syntax.specs.Token.{Token}
use Rattle.py_syntax.specs.Kinds.{kind_of}
use Rattle.py_syntax.specs.Heights.{most_ancestors}
use Rattle.py_syntax.specs.Build.{PToken, Parts, Action, act}
use Rattle.py_syntax.specs.Table.{Symbol, Nonterminal, table, sets}
use Rattle.py_syntax.specs.Laws.{goal, start}
use Rattle.py_nesting.specs.Ordered.{AreOrdered}
use Rattle.py_nesting.specs.Shapes.{entries_of}
use Rattle.py_nesting.specs.TooDeep.{same_place, IsTooDeepInFront}
use Rattle.py_nesting.specs.Walk.{Demand, Whole}
use Rattle.py_demands.specs.Asks.{place_of}
use Rattle.py_demands.specs.Bound.{standing}
use Rattle.py_demands.specs.Closing.{exactly}
use Rattle.py_demands.specs.Readings.{targets_reading}

-- where the run stands when no token is left
pub data Stop : Type 0 where
  nowhere : Stop
  stop : (symbols : List Symbol) → (v : Parts) → Stop

abbrev pub expanded : (List Symbol → Stop) → List Symbol → Option (Row Nonterminal Action Parts) → Stop
expanded go symbols None = nowhere
expanded go symbols (Some r) = go (r.symbols ++ symbols)

abbrev pub read : ℕ → List Symbol → Parts → List Token → Stop
read zero symbols v ts = nowhere
read (suc n) [] v ts = nowhere
read (suc n) (Do a ∷ symbols) v ts = read n symbols (act a v) ts
read (suc n) (Tok k ∷ symbols) v [] = stop (Tok k ∷ symbols) v
read (suc n) (Tok k ∷ symbols) v (t ∷ ts) = if kind_of t == k then read n symbols (PToken t ∷ v) ts else nowhere
read (suc n) (Non x ∷ symbols) v [] = stop (Non x ∷ symbols) v
read (suc n) (Non x ∷ symbols) v (t ∷ ts) = expanded (λ (more : List Symbol). read n more v (t ∷ ts)) symbols (pick table sets x v (sight table (t ∷ ts)))

abbrev pub behind : List Token → Stop
behind ts = read 300 goal start ts

-- how deep a node stands there in a reading, if that is one
abbrev pub depth_read : (Place → Bool) → Parts → Option (List Demand) → ℕ
depth_read at v None = 0
depth_read at v (Some ds) = standing at v ds

-- not too deep in one of both, or none is there
abbrev pub is_light : ℕ → ℕ → Bool
is_light a b = (nat_lt 0 a && nat_lt a (suc (suc most_ancestors))) || ((nat_lt 0 b && nat_lt b (suc (suc most_ancestors))) || (a == 0 && b == 0))

abbrev pub are_light : Parts → Option (List Demand) → Option (List Demand) → List Token → Bool
are_light v us ws [] = true
are_light v us ws (t ∷ ts) = is_light (depth_read (same_place (place_of t)) v us) (depth_read (same_place (place_of t)) v ws) && are_light v us ws ts

abbrev pub is_shallow_at : Stop → List Token → Bool
is_shallow_at nowhere ts = false
is_shallow_at (stop symbols v) ts = are_light v (exactly symbols (Some (Whole 0 ∷ []))) (targets_reading symbols (entries_of v)) ts

-- A front is nested too deep nowhere where this is so by computation.
abbrev pub ShallowFrontLaw : Type 0
ShallowFrontLaw = (front : List Token) → AreOrdered front → is_shallow_at (behind front) front ≡ true → (p : Place) → IsTooDeepInFront p front → ⊥
