-- Where a construct outside the profile stands.
use Rattle.std.specs.Prelude.{◌≡◌, ℕ, ◌<◌, ◌≤◌, List, ◌++◌, length, ◌⊎◌, Option, Some, None}
use Rattle.grammars.specs.Derivation.{Yields}
use Rattle.py_tokens.specs.Token.{Place}
use Rattle.py_syntax.specs.Token.{Token}
use Rattle.py_constructs.specs.Construct.{Construct, construct_order}
use Rattle.py_constructs.specs.Values.{Numbered, Value, begin}
use Rattle.py_constructs.specs.Table.{extended, goal}

-- The construct stands at its head: with the construct added, the grammar has a module that begins with a front of the tokens. In
-- that front stand both the head and the first token, by its number, with which no front of a module of the profile goes on, and it
-- is long enough to know the head.
abbrev pub StandsAt : Construct → Numbered → List Token → ℕ → Type 0
StandsAt c head ts first =
    (front : List Token) × (rest : List Token) × (more : List Token) × (value : Value) × (known : ℕ) × (ts ≡ front ++ rest)
    × Yields (extended c) goal begin (front ++ more) value × (value.told ≡ Some (record { head = head; known = known }))
    × (known ≤ length front) × (first < length front)

-- Of all constructs that stand among the tokens this is the one whose head comes first, and of those with this head the first in order.
abbrev pub IsOutside : Construct → Numbered → List Token → ℕ → Type 0
IsOutside c head ts first =
    StandsAt c head ts first
    × ((d : Construct) (other : Numbered) → StandsAt d other ts first → (head.number < other.number) ⊎ ((head.number ≡ other.number) × (construct_order c ≤ construct_order d)))

-- no construct stands among the tokens
abbrev pub NoneStands : List Token → ℕ → Type 0
NoneStands ts first = (c : Construct) (head : Numbered) → StandsAt c head ts first → ⊥

-- what is found among tokens of which the one with this number is the first with which no front of a module goes on
pub data Finding : Type 0 where
  finding : (construct : Construct) → (place : Place) → Finding

abbrev pub IsFinding : List Token → ℕ → Option Finding → Type 0
IsFinding ts first None = NoneStands ts first
IsFinding ts first (Some (finding c p)) = (number : ℕ) × IsOutside c (record { number = number; place = p }) ts first
