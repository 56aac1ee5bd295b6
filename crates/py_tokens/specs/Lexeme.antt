-- What stands at the front of a text: white space, a comment, a line end or a token, each as long as it can be. Places
-- and lines play no part here.
use Rattle.std.specs.Prelude.{ℕ, zero, suc, ◌+◌, ◌-◌, Bool, true, false, not, ◌&&◌, ◌||◌, if◌then◌else◌, ◌==◌, nat_le, nat_lt, List, [], ◌∷◌, ◌++◌, length, take, drop, codes, Option, Some, None, encode_utf8_all}
use Rattle.std.specs.List.{take_while, list_any, list_all}
use Rattle.std.specs.Str.{bytes_eq}
use Rattle.runs.specs.Number.{Width, W32, W64}
use Rattle.unicode_normalization.specs.Forms.{Nfkc, is_in_form}
use Rattle.py_tokens.specs.Token.{Kind, TName, TKeyword, TOperator, TNumber, TText, TFloat, TImaginary, TBytes, TFormatted, Refusal, BadCharacter, UnclosedText, BadEscape, WideNumber, NonAsciiText, NotNormal, TooLong}
use Rattle.py_tokens.specs.Characters.{Text, is_digit, is_digit_below, is_hexadecimal, is_control, is_quote, begins_name, continues_name, line_end, to_line_end, begins_with, grouped, value_from}

pub data Lexeme : Type 0 where
  -- a space or a tab
  Blank : (character : ℕ) → Lexeme
  -- a comment, or a backslash with the line end that it takes away
  Nothing : Lexeme
  LineEnd : Lexeme
  Word : (kind : Kind) → Lexeme
  -- no token can be formed; so many characters stand before the wrong one
  Broken : (refusal : Refusal) → (before : ℕ) → Lexeme

-- what stands at the front, and how many characters it has
pub record Front : Type 0 where
  pub length_of : ℕ
  pub lexeme : Lexeme

abbrev pub front : ℕ → Lexeme → Front
front n l = record { length_of = n; lexeme = l }

abbrev pub broken : Refusal → ℕ → Front
broken r n = front 1 (Broken r n)

-- "Comments": the place of the first control character in one, if there is any
abbrev pub first_control : Text → Option ℕ
first_control [] = None
first_control (c ∷ z) = if is_control c then Some 0 else (elim (first_control z) [ None ↦ None | Some n ↦ Some (suc n) ])

abbrev pub comment_of : Text → Option ℕ → Front
comment_of z (Some n) = broken BadCharacter n
comment_of z None = front (length z) Nothing

abbrev pub comment : Text → Front
comment z = comment_of (to_line_end z) (first_control (to_line_end z))

-- "Explicit line joining"
abbrev pub joined : Text → Front
joined z = if line_end z == 0 then broken BadCharacter 0 else front (suc (line_end z)) Nothing

-- "Keywords"
abbrev pub keywords : List Text
keywords =
    codes "False" ∷ codes "None" ∷ codes "True" ∷ codes "and" ∷ codes "as" ∷ codes "assert" ∷ codes "async" ∷ codes "await" ∷ codes "break"
    ∷ codes "class" ∷ codes "continue" ∷ codes "def" ∷ codes "del" ∷ codes "elif" ∷ codes "else" ∷ codes "except" ∷ codes "finally"
    ∷ codes "for" ∷ codes "from" ∷ codes "global" ∷ codes "if" ∷ codes "import" ∷ codes "in" ∷ codes "is" ∷ codes "lambda"
    ∷ codes "nonlocal" ∷ codes "not" ∷ codes "or" ∷ codes "pass" ∷ codes "raise" ∷ codes "return" ∷ codes "try" ∷ codes "while"
    ∷ codes "with" ∷ codes "yield" ∷ []

-- the most bytes of a name
abbrev pub most_bytes_of_name : ℕ
most_bytes_of_name = 1000

-- NFKC leaves it as it is; it changes nothing in ASCII
abbrev pub is_normal : Text → Bool
is_normal word = list_all (λ c. nat_lt c 128) word || is_in_form Nfkc word

abbrev pub name_of : Text → Lexeme
name_of word =
    if list_any (λ k. bytes_eq k word) keywords then Word (TKeyword word)
    else (if not (is_normal word) then Broken NotNormal 0
    else (if nat_lt most_bytes_of_name (length (encode_utf8_all word)) then Broken TooLong 0 else Word (TName (encode_utf8_all word))))

abbrev pub name : Text → Front
name z = let word = take_while continues_name z in front (length word) (name_of word)

-- "Operators" and "Delimiters", the longer ones first; the last line has those that only constructs outside the profile use
abbrev pub operators : List Text
operators =
    codes "//=" ∷ codes "**=" ∷ codes "<<=" ∷ codes ">>=" ∷ codes "..."
    ∷ codes "//" ∷ codes "**" ∷ codes "<<" ∷ codes ">>" ∷ codes "<=" ∷ codes ">=" ∷ codes "==" ∷ codes "!=" ∷ codes "+=" ∷ codes "-="
    ∷ codes "*=" ∷ codes "%=" ∷ codes "&=" ∷ codes "|=" ∷ codes "^=" ∷ codes "/=" ∷ codes "@=" ∷ codes "->" ∷ codes ":="
    ∷ codes "+" ∷ codes "-" ∷ codes "*" ∷ codes "%" ∷ codes "&" ∷ codes "|" ∷ codes "^" ∷ codes "~" ∷ codes "<" ∷ codes ">"
    ∷ codes "(" ∷ codes ")" ∷ codes "[" ∷ codes "]" ∷ codes "{" ∷ codes "}" ∷ codes "," ∷ codes ":" ∷ codes "." ∷ codes ";" ∷ codes "="
    ∷ codes "/" ∷ codes "@" ∷ []

abbrev pub operator_among : List Text → Text → Front
operator_among [] z = broken BadCharacter 0
operator_among (o ∷ others) z = if begins_with o z then front (length o) (Word (TOperator o)) else operator_among others z

abbrev pub operator : Text → Front
operator z = operator_among operators z

-- "Numeric literals": the greatest value
abbrev pub greatest : Width → ℕ
greatest W32 = 2147483647
greatest W64 = 9223372036854775807

-- how many characters an exponent has, or 0
abbrev pub signed_exponent : Text → ℕ
signed_exponent [] = 0
signed_exponent (c ∷ z) =
    if (c == 43) || (c == 45) then (if grouped is_digit z == 0 then 0 else suc (grouped is_digit z)) else grouped is_digit (c ∷ z)

abbrev pub exponent : Text → ℕ
exponent [] = 0
exponent (c ∷ z) = if ((c == 101) || (c == 69)) && not (signed_exponent z == 0) then suc (signed_exponent z) else 0

-- how many characters a point and the digits behind it have, where n digits stand before it, or 0
abbrev pub fraction : ℕ → Text → ℕ
fraction n [] = 0
fraction n (c ∷ z) = if (c == 46) && (not (n == 0) || not (grouped is_digit z == 0)) then suc (grouped is_digit z) else 0

-- how many characters a float has, without its whole part of n digits, or 0
abbrev pub float_part : ℕ → Text → ℕ
float_part n z = fraction n z + exponent (drop (fraction n z) z)

-- whole numbers: a prefix and digits of its base, or decimal ones, where a 0 begins a number of zeros alone
abbrev pub based : ℕ → (ℕ → Bool) → Text → Front
based base digit z = front (2 + grouped digit z) (Word (TNumber (value_from base 0 (take (grouped digit z) z))))

abbrev pub decimal_number : ℕ → Text → Front
decimal_number n z = front n (Word (TNumber (value_from 10 0 (take n z))))

abbrev pub whole_number : Text → Front
whole_number [] = front 0 (Word (TNumber 0))
whole_number (c ∷ []) = decimal_number 1 (c ∷ [])
whole_number (c ∷ d ∷ z) =
    if c == 48
    then (if (d == 120) && not (grouped is_hexadecimal z == 0) then based 16 is_hexadecimal z
    else (if (d == 111) && not (grouped (is_digit_below 8) z == 0) then based 8 (is_digit_below 8) z
    else (if (d == 98) && not (grouped (is_digit_below 2) z == 0) then based 2 (is_digit_below 2) z
    else decimal_number (grouped (is_digit_below 1) (c ∷ d ∷ z)) (c ∷ d ∷ z))))
    else decimal_number (grouped is_digit (c ∷ d ∷ z)) (c ∷ d ∷ z)

abbrev pub has_imaginary_mark : Text → Bool
has_imaginary_mark [] = false
has_imaginary_mark (c ∷ z) = (c == 106) || (c == 74)

-- a number of n digits with a float's part of so many characters behind them, or a whole one
abbrev pub number_with : ℕ → ℕ → Text → Front
number_with n part z =
    if has_imaginary_mark (drop (n + part) z) && not (n + part == 0) then front (suc (n + part)) (Word TImaginary)
    else (if part == 0 then whole_number z else front (n + part) (Word TFloat))

abbrev pub unchecked_number : Text → Front
unchecked_number z = number_with (grouped is_digit z) (float_part (grouped is_digit z) (drop (grouped is_digit z) z)) z

-- no letter or digit stands just behind a number
abbrev pub stands_alone : Text → Bool
stands_alone [] = true
stands_alone (c ∷ z) = (c == 95) || not (continues_name c)

abbrev pub is_wide : Width → Lexeme → Bool
is_wide w (Word (TNumber n)) = nat_lt (greatest w) n
is_wide w _ = false

abbrev pub checked_number : Width → Text → Front → Front
checked_number w z f =
    if is_wide w f.lexeme then broken WideNumber 0 else (if stands_alone (drop f.length_of z) then f else broken BadCharacter f.length_of)

abbrev pub number : Width → Text → Front
number w z = checked_number w z (unchecked_number z)

-- "String and Bytes literals": what the letters before a quote say
pub data Sort : Type 0 where
  Cooked : Sort
  Raw : Sort
  OfBytes : Sort
  Formatted : Sort

-- the small letter, for letters
abbrev pub small : ℕ → ℕ
small c = if nat_le 65 c && nat_le c 90 then c + 32 else c

abbrev pub sort_of : Text → Option Sort
sort_of [] = Some Cooked
sort_of (c ∷ []) =
    if small c == 114 then Some Raw else (if small c == 117 then Some Cooked else (if small c == 98 then Some OfBytes else (if small c == 102 then Some Formatted else None)))
sort_of (c ∷ d ∷ []) =
    if ((small c == 98) && (small d == 114)) || ((small c == 114) && (small d == 98)) then Some OfBytes
    else (if ((small c == 102) && (small d == 114)) || ((small c == 114) && (small d == 102)) then Some Formatted else None)
sort_of (c ∷ d ∷ e ∷ z) = None

-- how many characters stand before the closing quotes, if they come: a backslash keeps the character behind it from closing,
-- and only three quotes close a text that may go on over line ends; `left` characters are kept so
abbrev pub closes_at : Bool → ℕ → ℕ → Text → Option ℕ
closes_at three quote left [] = None
closes_at three quote (suc left) (c ∷ z) = elim (closes_at three quote left z) [ None ↦ None | Some n ↦ Some (suc n) ]
closes_at three quote zero (c ∷ z) =
    if begins_with (if three then quote ∷ quote ∷ quote ∷ [] else quote ∷ []) (c ∷ z) then Some 0
    else (if not three && not (line_end (c ∷ z) == 0) then None
    else (elim (closes_at three quote (if c == 92 then (if line_end z == 0 then 1 else line_end z) else 0) z) [ None ↦ None | Some n ↦ Some (suc n) ]))

-- what some characters of a text stand for
pub data Piece : Type 0 where
  Stands : (characters : Text) → Piece
  Wrong : (refusal : Refusal) → Piece

pub record Part : Type 0 where
  pub length_of : ℕ
  pub piece : Piece

abbrev pub part : ℕ → Text → Part
part n t = record { length_of = n; piece = Stands t }

abbrev pub wrong : Refusal → Part
wrong r = record { length_of = 1; piece = Wrong r }

-- a text has code points 0 to 127
abbrev pub coded : ℕ → ℕ → Part
coded n c = if nat_le c 127 then part n (c ∷ []) else wrong NonAsciiText

-- a line end stands for a line feed, and all else for itself
abbrev pub plain_part : Text → Part
plain_part [] = part 1 []
plain_part (c ∷ z) = if line_end (c ∷ z) == 0 then coded 1 c else part (line_end (c ∷ z)) (10 ∷ [])

-- how many octal digits stand at the front, three at most
abbrev pub octal : Text → ℕ
octal z = length (take_while (is_digit_below 8) (take 3 z))

-- "Escape sequences": what a backslash and the characters behind it stand for
abbrev pub escape : Text → Part
escape [] = part 1 (92 ∷ [])
escape (c ∷ z) =
    if not (line_end (c ∷ z) == 0) then part (suc (line_end (c ∷ z))) []
    else (if (c == 92) || is_quote c then part 2 (c ∷ [])
    else (if c == 97 then part 2 (7 ∷ [])
    else (if c == 98 then part 2 (8 ∷ [])
    else (if c == 102 then part 2 (12 ∷ [])
    else (if c == 110 then part 2 (10 ∷ [])
    else (if c == 114 then part 2 (13 ∷ [])
    else (if c == 116 then part 2 (9 ∷ [])
    else (if c == 118 then part 2 (11 ∷ [])
    else (if is_digit_below 8 c then coded (suc (octal (c ∷ z))) (value_from 8 0 (take (octal (c ∷ z)) (c ∷ z)))
    else (if c == 120
    then (if length (take_while is_hexadecimal (take 2 z)) == 2 then coded 4 (value_from 16 0 (take 2 z)) else wrong BadEscape)
    else (if (c == 78) || ((c == 117) || (c == 85)) then wrong BadEscape
    else part 1 (92 ∷ []))))))))))))

abbrev pub part_of : Bool → Text → Part
part_of raw [] = part 1 []
part_of raw (c ∷ z) = if not raw && (c == 92) then escape z else plain_part (c ∷ z)

-- what a whole text stands for, or where its first wrong character is
pub data Contents : Type 0 where
  Holds : (characters : Text) → Contents
  Fails : (refusal : Refusal) → (before : ℕ) → Contents

abbrev pub before_contents : Part → Contents → Contents
before_contents p contents = elim p.piece [ Wrong r ↦ Fails r 0 | Stands t ↦ elim contents [ Holds u ↦ Holds (t ++ u) | Fails r n ↦ Fails r (suc n) ] ]

-- `left` characters belong to a part that began before
abbrev pub contents_of : Bool → ℕ → Text → Contents
contents_of raw left [] = Holds []
contents_of raw (suc left) (c ∷ z) = elim (contents_of raw left z) [ Holds u ↦ Holds u | Fails r n ↦ Fails r (suc n) ]
contents_of raw zero (c ∷ z) = before_contents (part_of raw (c ∷ z)) (contents_of raw ((part_of raw (c ∷ z)).length_of - 1) z)

abbrev pub text_token : ℕ → ℕ → Contents → Front
text_token before whole (Holds t) = front whole (Word (TText t))
text_token before whole (Fails r n) = broken r (before + n)

-- a literal of a sort, with so many characters before what is in it and with so many in all
abbrev pub literal_of : Sort → ℕ → ℕ → Text → Front
literal_of Cooked before whole inside = text_token before whole (contents_of false 0 inside)
literal_of Raw before whole inside = text_token before whole (contents_of true 0 inside)
literal_of OfBytes before whole inside = front whole (Word TBytes)
literal_of Formatted before whole inside = front whole (Word TFormatted)

abbrev pub closed_literal : Sort → ℕ → ℕ → Text → Option ℕ → Front
closed_literal s letters quotes z None = broken UnclosedText letters
closed_literal s letters quotes z (Some n) = literal_of s (letters + quotes) (letters + quotes + n + quotes) (take n z)

-- a literal whose quotes begin behind so many letters
abbrev pub literal : Sort → ℕ → Text → Front
literal s letters [] = broken UnclosedText letters
literal s letters (q ∷ z) =
    if begins_with (q ∷ q ∷ []) z then closed_literal s letters 3 (drop 2 z) (closes_at true q 0 (drop 2 z)) else closed_literal s letters 1 z (closes_at false q 0 z)

abbrev pub literal_behind : Text → Text → Option Front
literal_behind letters [] = None
literal_behind letters (q ∷ z) = if is_quote q then (elim (sort_of letters) [ None ↦ None | Some s ↦ Some (literal s (length letters) (q ∷ z)) ]) else None

-- a name, or a literal with letters before its quotes
abbrev pub name_or_literal : Text → Front
name_or_literal z = let letters = take_while continues_name z in elim (literal_behind letters (drop (length letters) z)) [ Some f ↦ f | None ↦ name z ]

abbrev pub begins_number : Text → Bool
begins_number [] = false
begins_number (c ∷ []) = is_digit c
begins_number (c ∷ d ∷ z) = is_digit c || ((c == 46) && is_digit d)

-- what stands at the front of a text that is not empty
abbrev pub front_of : Width → Text → Front
front_of w [] = front 0 Nothing
front_of w (c ∷ z) =
    if not (line_end (c ∷ z) == 0) then front (line_end (c ∷ z)) LineEnd
    else (if (c == 32) || (c == 9) then front 1 (Blank c)
    else (if c == 35 then comment (c ∷ z)
    else (if c == 92 then joined z
    else (if begins_name c then name_or_literal (c ∷ z)
    else (if is_quote c then literal Cooked 0 (c ∷ z)
    else (if begins_number (c ∷ z) then number w (c ∷ z)
    else operator (c ∷ z)))))))
