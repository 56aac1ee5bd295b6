-- The tokens of a text stand in its order.
use Rattle.std.specs.Prelude.{◌≡◌, ℕ, Bool, true, false, List, [], ◌∷◌}
use Rattle.runs.specs.Number.{Width}
use Rattle.py_tokens.specs.Token.{Kind, TNewline, TIndent, TDedent, Token, Tokens}
use Rattle.py_tokens.specs.Places.{is_before}
use Rattle.py_tokens.specs.Tokens.{tokens_of}

-- several tokens of layout may stand at one place with another token
abbrev pub is_layout : Kind → Bool
is_layout TNewline = true
is_layout TIndent = true
is_layout TDedent = true
is_layout _ = false

-- none of these stands before the token, and none but tokens of layout at its place, if it is none of layout itself
abbrev pub IsBefore : Token → List Token → Type 0
IsBefore t [] = Unit {0}
IsBefore t (u ∷ ts) = (is_before u.place t.place ≡ false) × (is_layout t.kind ≡ false → is_layout u.kind ≡ false → is_before t.place u.place ≡ true) × IsBefore t ts

abbrev pub AreOrdered : List Token → Type 0
AreOrdered [] = Unit {0}
AreOrdered (t ∷ ts) = IsBefore t ts × AreOrdered ts

abbrev pub OrderedLaw : Type 0
OrderedLaw = (n : ℕ) (w : Width) (text : List ℕ) (ts : List Token) → tokens_of n w text ≡ Tokens ts → AreOrdered ts
