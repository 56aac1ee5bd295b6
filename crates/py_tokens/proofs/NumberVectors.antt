-- Numbers, at their limits and where one ends.
use Rattle.std.proofs.Common.{◌≡◌, [], ◌∷◌, refl}
use Rattle.std.specs.Prelude.{codes}
use Rattle.py_tokens.specs.Token.{TFloat, TImaginary, BadCharacter, WideNumber, Tokens, Refused}
use Rattle.py_tokens.proofs.Notation.{at, lexed, lexed_wide, named, number, other, newline}

decimal : lexed (codes "0 00 0_0 1_000 2147483647\n") ≡ Tokens (
    number 1 1 0
    ∷ number 1 3 0
    ∷ number 1 6 0
    ∷ number 1 10 1000
    ∷ number 1 16 2147483647
    ∷ newline 1 26
    ∷ [])
unfolding lib.Utf8.encode
decimal = refl

bases : lexed (codes "0x1F 0o17 0b101 0x7fff_ffff\n") ≡ Tokens (
    number 1 1 31
    ∷ number 1 6 15
    ∷ number 1 11 5
    ∷ number 1 17 2147483647
    ∷ newline 1 28
    ∷ [])
unfolding lib.Utf8.encode
bases = refl

-- floats and imaginary numbers
floats : lexed (codes "1. .5 1.5e-3 1e5 0777.5 1_0.0_1 1j 077j .5J 1e1j\n") ≡ Tokens (
    other 1 1 TFloat
    ∷ other 1 4 TFloat
    ∷ other 1 7 TFloat
    ∷ other 1 14 TFloat
    ∷ other 1 18 TFloat
    ∷ other 1 25 TFloat
    ∷ other 1 33 TImaginary
    ∷ other 1 36 TImaginary
    ∷ other 1 41 TImaginary
    ∷ other 1 45 TImaginary
    ∷ newline 1 49
    ∷ [])
unfolding lib.Utf8.encode
floats = refl

-- a point may stand just behind a number
two_floats : lexed (codes "1..2\n") ≡ Tokens (
    other 1 1 TFloat
    ∷ other 1 3 TFloat
    ∷ newline 1 5
    ∷ [])
unfolding lib.Utf8.encode
two_floats = refl

-- an underscore is no letter
underscore_behind : lexed (codes "1_ 1__0 0_1\n") ≡ Tokens (
    number 1 1 1
    ∷ named 1 2 (codes "_")
    ∷ number 1 4 1
    ∷ named 1 5 (codes "__0")
    ∷ number 1 9 0
    ∷ named 1 10 (codes "_1")
    ∷ newline 1 12
    ∷ [])
unfolding lib.Utf8.encode
underscore_behind = refl

one_too_wide : lexed (codes "2147483648\n") ≡ Refused WideNumber (at 1 1)
unfolding lib.Utf8.encode
one_too_wide = refl

-- with 64 bits
wide : lexed_wide (codes "9223372036854775807\n") ≡ Tokens (
    number 1 1 9223372036854775807
    ∷ newline 1 20
    ∷ [])
unfolding lib.Utf8.encode
wide = refl

too_wide_for_both : lexed_wide (codes "x = 9223372036854775808\n") ≡ Refused WideNumber (at 1 5)
unfolding lib.Utf8.encode
too_wide_for_both = refl

-- the width is looked at first
wide_before_letter : lexed (codes "2147483648x\n") ≡ Refused WideNumber (at 1 1)
unfolding lib.Utf8.encode
wide_before_letter = refl

letter_behind : lexed (codes "12x\n") ≡ Refused BadCharacter (at 1 3)
unfolding lib.Utf8.encode
letter_behind = refl

leading_zero : lexed (codes "012\n") ≡ Refused BadCharacter (at 1 2)
unfolding lib.Utf8.encode
leading_zero = refl

zeros_and_digit : lexed (codes "001\n") ≡ Refused BadCharacter (at 1 3)
unfolding lib.Utf8.encode
zeros_and_digit = refl

large_prefix : lexed (codes "0X1\n") ≡ Refused BadCharacter (at 1 2)
unfolding lib.Utf8.encode
large_prefix = refl

underscore_in_prefix : lexed (codes "0x_1\n") ≡ Refused BadCharacter (at 1 2)
unfolding lib.Utf8.encode
underscore_in_prefix = refl

binary_digit_too_great : lexed (codes "0b12\n") ≡ Refused BadCharacter (at 1 4)
unfolding lib.Utf8.encode
binary_digit_too_great = refl

empty_exponent : lexed (codes "1e+\n") ≡ Refused BadCharacter (at 1 2)
unfolding lib.Utf8.encode
empty_exponent = refl

letter_behind_float : lexed (codes "1.5a\n") ≡ Refused BadCharacter (at 1 4)
unfolding lib.Utf8.encode
letter_behind_float = refl

digit_behind_imaginary : lexed (codes "1j2\n") ≡ Refused BadCharacter (at 1 3)
unfolding lib.Utf8.encode
digit_behind_imaginary = refl

keyword_behind : lexed (codes "1if\n") ≡ Refused BadCharacter (at 1 2)
unfolding lib.Utf8.encode
keyword_behind = refl
