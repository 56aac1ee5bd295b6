-- How a token that was not expected is printed.
use Rattle.std.specs.Prelude.{ℕ, ◌+◌, ◌/◌, ◌%◌, List, [], ◌∷◌, ◌++◌, Bool, not, ◌&&◌, ◌||◌, ◌==◌, nat_lt, if◌then◌else◌, codes}
use Rattle.std.specs.List.{list_any}
use Rattle.std.specs.Fmt.{decimal}
use Rattle.py_tokens.specs.Token.{Kind, TName, TKeyword, TOperator, TNumber, TText, TFloat, TImaginary, TBytes, TFormatted, TNewline, TIndent, TDedent}

-- a lower-case hexadecimal digit
abbrev pub hexadecimal : ℕ → ℕ
hexadecimal n = if nat_lt n 10 then 48 + n else 87 + n

abbrev pub single_quote : ℕ
single_quote = 39

abbrev pub double_quote : ℕ
double_quote = 34

abbrev pub has_character : ℕ → List ℕ → Bool
has_character c text = list_any (λ x. x == c) text

-- the quote that `repr` takes: the double one where the text has single ones alone
abbrev pub quote_of : List ℕ → ℕ
quote_of text = if has_character single_quote text && not (has_character double_quote text) then double_quote else single_quote

-- one character between quotes
abbrev pub quoted : ℕ → ℕ → List ℕ
quoted quote c =
    if c == 92 then codes "\\\\" else (
    if c == quote then 92 ∷ c ∷ [] else (
    if c == 10 then codes "\\n" else (
    if c == 13 then codes "\\r" else (
    if c == 9 then codes "\\t" else (
    if nat_lt c 32 || (c == 127) then codes "\\x" ++ (hexadecimal (c / 16) ∷ hexadecimal (c % 16) ∷ []) else c ∷ [])))))

abbrev pub all_quoted : ℕ → List ℕ → List ℕ
all_quoted quote [] = []
all_quoted quote (c ∷ text) = quoted quote c ++ all_quoted quote text

-- `repr` of a text
abbrev pub repr_of : List ℕ → List ℕ
repr_of text = quote_of text ∷ (all_quoted (quote_of text) text ++ quote_of text ∷ [])

abbrev pub token_text : Kind → List ℕ
token_text (TName name) = name
token_text (TKeyword spelling) = spelling
token_text (TOperator spelling) = spelling
token_text (TNumber value) = decimal value
token_text (TText text) = repr_of text
token_text TFloat = codes "float"
token_text TImaginary = codes "imaginary"
token_text TBytes = codes "bytes"
token_text TFormatted = codes "fstring"
token_text TNewline = codes "NEWLINE"
token_text TIndent = codes "INDENT"
token_text TDedent = codes "DEDENT"
