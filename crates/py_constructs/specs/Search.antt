-- The search for the construct whose head comes first, one construct after another.
use Rattle.std.specs.Prelude.{◌≡◌, ℕ, suc, ◌<◌, ◌≤◌, nat_lt, if◌then◌else◌, List, ◌⊎◌, Option, Some, None}
use Rattle.py_syntax.specs.Token.{Token}
use Rattle.py_constructs.specs.Construct.{Construct, construct_order}
use Rattle.py_constructs.specs.Values.{Numbered}
use Rattle.py_constructs.specs.Standing.{StandsAt, Finding, finding, IsFinding}
use Rattle.py_constructs.specs.Reached.{IsHead}

pub data Best : Type 0 where
  best : (construct : Construct) → (head : Numbered) → Best

-- of the first n constructs
abbrev pub IsBest : ℕ → List Token → ℕ → Option Best → Type 0
IsBest n ts first None = (d : Construct) (head : Numbered) → construct_order d < n → StandsAt d head ts first → ⊥
IsBest n ts first (Some (best c head)) =
    (construct_order c < n) × StandsAt c head ts first
    × ((d : Construct) (other : Numbered) → construct_order d < n → StandsAt d other ts first
    → (head.number < other.number) ⊎ ((head.number ≡ other.number) × (construct_order c ≤ construct_order d)))

-- the earlier head of the best so far and of the next construct
abbrev pub better : Option Best → Construct → Option Numbered → Option Best
better o c None = o
better None c (Some head) = Some (best c head)
better (Some (best d other)) c (Some head) = if nat_lt head.number other.number then Some (best c head) else Some (best d other)

abbrev pub found : Option Best → Option Finding
found None = None
found (Some (best c head)) = Some (finding c head.place)

-- one construct more
abbrev pub NextLaw : Type 0
NextLaw =
    (ts : List Token) (first : ℕ) (o : Option Best) (c : Construct) (head : Option Numbered) → IsBest (construct_order c) ts first o → IsHead c ts first head
    → IsBest (suc (construct_order c)) ts first (better o c head)

abbrev pub LastLaw : Type 0
LastLaw = (ts : List Token) (first : ℕ) (o : Option Best) → IsBest 44 ts first o → IsFinding ts first (found o)
