-- Whole numbers of a width, which wrap, and their text. Both machines speak of them, each in its own operations.
use Rattle.std.specs.Prelude.{ℕ, List, ℤ}
use Rattle.std.specs.Int.{int_wrap, w32, w64}
use Rattle.std.specs.Fmt.{signed_decimal}

pub data Width : Type 0 where
  W32 : Width
  W64 : Width

-- what is left of an exact number at this width, in two's complement
abbrev pub wrapped : Width → ℤ → ℤ
wrapped W32 z = int_wrap w32 z
wrapped W64 z = int_wrap w64 z

-- a whole number in decimal, with `-` before a negative one
abbrev pub decimal_of : ℤ → List ℕ
decimal_of z = signed_decimal z
