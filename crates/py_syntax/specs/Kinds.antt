-- Kinds of tokens as numbers, by which the table tells them apart.
use Rattle.std.specs.Prelude.{ℕ, zero, suc, ◌+◌, ◌-◌, ◌==◌, nat_lt, true, false, if◌then◌else◌, List, [], ◌∷◌}
use Rattle.std.specs.Str.{bytes_eq}
use Rattle.py_tokens.specs.Lexeme.{keywords, operators}
use Rattle.py_syntax.specs.Token.{Kind, TName, TKeyword, TOperator, TNumber, TText, TFloat, TImaginary, TBytes, TFormatted, TNewline, TIndent, TDedent, Token, At}

-- where a spelling stands among others; how many there are, if it stands nowhere
abbrev pub place_among : List (List ℕ) → List ℕ → ℕ
place_among [] s = 0
place_among (first ∷ others) s = if bytes_eq first s then 0 else suc (place_among others s)

-- eleven kinds, then the keywords, then the operators
abbrev pub number_of : Kind → ℕ
number_of (TName false x) = 0
number_of (TName true x) = 1
number_of (TNumber n) = 2
number_of (TText t) = 3
number_of TFloat = 4
number_of TImaginary = 5
number_of TBytes = 6
number_of TFormatted = 7
number_of TNewline = 8
number_of TIndent = 9
number_of TDedent = 10
number_of (TKeyword s) = 11 + place_among keywords s
number_of (TOperator s) = 47 + place_among operators s

abbrev pub kind_of : Token → ℕ
kind_of (At p k) = number_of k

-- the spelling at a place
abbrev pub spelling_at : List (List ℕ) → ℕ → List ℕ
spelling_at [] n = []
spelling_at (first ∷ others) zero = first
spelling_at (first ∷ others) (suc n) = spelling_at others n

-- a kind with each number
abbrev pub kind_at : ℕ → Kind
kind_at n =
    if n == 0 then TName false 0 else (if n == 1 then TName true 0 else (if n == 2 then TNumber 0 else (if n == 3 then TText [] else (
    if n == 4 then TFloat else (if n == 5 then TImaginary else (if n == 6 then TBytes else (if n == 7 then TFormatted else (
    if n == 8 then TNewline else (if n == 9 then TIndent else (if n == 10 then TDedent else (
    if nat_lt n 47 then TKeyword (spelling_at keywords (n - 11)) else TOperator (spelling_at operators (n - 47)))))))))))))

abbrev pub specimen : ℕ → Token
specimen n = At (record { «module» = 0; line = 1; column = 1 }) (kind_at n)
