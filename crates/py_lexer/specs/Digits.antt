-- The digits of a base.
use Rattle.std.specs.Prelude.{ℕ, Bool}
use Rattle.py_tokens.specs.Characters.{is_digit, is_digit_below, is_hexadecimal}
use Rattle.py_lexer.specs.declared.character.Digits.{Digits}
use Rattle.py_lexer.specs.declared.character.Digits.TheVariants as digits

abbrev pub is_digit_of : Digits → ℕ → Bool
is_digit_of digits.Zero = is_digit_below 1
is_digit_of digits.Binary = is_digit_below 2
is_digit_of digits.Octal = is_digit_below 8
is_digit_of digits.Decimal = is_digit
is_digit_of digits.Hexadecimal = is_hexadecimal
