-- The numbers of names among tokens: names are numbered in the order in which their texts come.
use Rattle.std.specs.Prelude.{◌≡◌, ℕ, ◌<◌, List, [], ◌∷◌, ◌++◌, length, map, get_or}
use Rattle.shed_base.specs.Names.{with_texts}
use Rattle.py_lexer.specs.declared.token.TokenKind.{TokenKind}
use Rattle.py_lexer.specs.declared.token.TokenKind.TheVariants as kind
use Rattle.py_lexer.specs.declared.token.Token.{Token}
use Rattle.py_lexer.specs.declared.lines.Output.{Output}

abbrev pub number_before : TokenKind → List ℕ → List ℕ
number_before (kind.Name name) numbers = name.0 ∷ numbers
number_before _ numbers = numbers

abbrev pub numbers_of : List Token → List ℕ
numbers_of [] = []
numbers_of (t ∷ ts) = number_before t.kind (numbers_of ts)

-- one more token at the end
abbrev pub number_behind : List ℕ → TokenKind → List ℕ
number_behind numbers (kind.Name name) = numbers ++ name.0 ∷ []
number_behind numbers _ = numbers

abbrev pub ArePlaces : List (List ℕ) → List ℕ → Type 0
ArePlaces texts [] = Unit {0}
ArePlaces texts (n ∷ numbers) = (n < length texts) × ArePlaces texts numbers

abbrev pub texts_at : List (List ℕ) → List ℕ → List (List ℕ)
texts_at texts = map (λ n. get_or texts n [])

-- the texts of these numbers were added to the first ones, and no others
abbrev pub AreNumbered : List (List ℕ) → List (List ℕ) → List ℕ → Type 0
AreNumbered first names numbers = ArePlaces names numbers × (names ≡ with_texts first (texts_at names numbers))

-- a step numbers the names that it adds
abbrev pub Numbers : List (List ℕ) → Output → List (List ℕ) → Output → Type 0
Numbers old before new after =
    (first : List (List ℕ)) → AreNumbered first old (numbers_of before.tokens.items) → AreNumbered first new (numbers_of after.tokens.items)
