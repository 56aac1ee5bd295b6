-- Tokens as the grammar sees them. A name is a number from here on: that of its text among the names of the program.
use Rattle.std.specs.Prelude.{ℕ, Bool, List}
use Rattle.py_tokens.specs.Token.{Place}

abbrev pub Name : Type 0
Name = ℕ

pub data Kind : Type 0 where
  -- a name that is no keyword; the name of an imported module must be of ASCII characters alone
  TName : (ascii : Bool) → (name : Name) → Kind
  -- keywords and operators, as they are spelt
  TKeyword : (spelling : List ℕ) → Kind
  TOperator : (spelling : List ℕ) → Kind
  TNumber : (value : ℕ) → Kind
  -- a text, as its code points
  TText : (text : List ℕ) → Kind
  -- what stands in no module of the profile: a number with a point or an exponent, an imaginary one, a literal of bytes,
  -- a formatted text
  TFloat : Kind
  TImaginary : Kind
  TBytes : Kind
  TFormatted : Kind
  TNewline : Kind
  -- a level of indentation begins, or one ends
  TIndent : Kind
  TDedent : Kind

pub data Token : Type 0 where
  At : (place : Place) → (kind : Kind) → Token
