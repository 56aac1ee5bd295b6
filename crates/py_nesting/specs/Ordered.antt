-- Tokens in the order of the text.
use Rattle.std.specs.Prelude.{◌≡◌, ℕ, Bool, true, false, ◌||◌, ◌==◌, List, [], ◌∷◌}
use Rattle.py_tokens.specs.Places.{is_before}
use Rattle.py_syntax.specs.Token.{Token}
use Rattle.py_syntax.specs.Kinds.{kind_of}
use Rattle.py_nesting.specs.TooDeep.{place_of}

-- NEWLINE, INDENT and DEDENT, by their numbers: no node stands at one, and several may stand at one place with another token
abbrev pub is_layout_kind : ℕ → Bool
is_layout_kind k = k == 8 || (k == 9 || k == 10)

-- none of these stands before the token, and none but tokens of layout at its place, if it is none of layout itself
abbrev pub IsBefore : Token → List Token → Type 0
IsBefore t [] = Unit {0}
IsBefore t (u ∷ ts) =
    (is_before (place_of u) (place_of t) ≡ false) × (is_layout_kind (kind_of t) ≡ false → is_layout_kind (kind_of u) ≡ false → is_before (place_of t) (place_of u) ≡ true) × IsBefore t ts

abbrev pub AreOrdered : List Token → Type 0
AreOrdered [] = Unit {0}
AreOrdered (t ∷ ts) = IsBefore t ts × AreOrdered ts
