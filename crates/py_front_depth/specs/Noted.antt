-- How deep the code has noted the deepest node at each place.
use Rattle.std.specs.Prelude.{◌≡◌, ℕ, if◌then◌else◌, List, [], ◌∷◌}
use Rattle.py_tokens.specs.Token as token
use Rattle.py_lexer.specs.PlainTokens.{plain_place}
use Rattle.py_nesting.specs.TooDeep.{same_place}
use Rattle.py_nesting.specs.Walk.{Met, met_depth}
use Rattle.shed_base.specs.declared.place.Place.{Place}

-- what is noted first
abbrev pub depth_at : List (Place × ℕ) → token.Place → ℕ
depth_at [] at = 0
depth_at (e ∷ es) at = if same_place at (plain_place e.0) then e.1 else depth_at es at

-- these nodes and no others
abbrev pub AreNoted : List (Place × ℕ) → List Met → Type 0
AreNoted es nodes = (at : token.Place) → depth_at es at ≡ met_depth (same_place at) nodes
