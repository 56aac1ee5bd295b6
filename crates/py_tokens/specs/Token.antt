-- Tokens of a module (Python reference, "Lexical analysis"), and why a text has none.
use Rattle.std.specs.Prelude.{ℕ, ◌+◌, ◌==◌, List, [], ◌∷◌, if◌then◌else◌}

-- where something stands: the module's number, and the line and the column of its first character, both from 1
pub record Place : Type 0 where
  pub «module» : ℕ
  pub line : ℕ
  pub column : ℕ

pub data Kind : Type 0 where
  -- a name that is no keyword, as its bytes
  TName : (name : List ℕ) → Kind
  -- keywords and operators, as they are spelt
  TKeyword : (spelling : List ℕ) → Kind
  TOperator : (spelling : List ℕ) → Kind
  TNumber : (value : ℕ) → Kind
  -- a text, as its code points
  TText : (text : List ℕ) → Kind
  -- what only constructs outside the profile have: a number with a point or an exponent, an imaginary one, a literal of
  -- bytes, a formatted text
  TFloat : Kind
  TImaginary : Kind
  TBytes : Kind
  TFormatted : Kind
  TNewline : Kind
  -- a level of indentation begins, or one ends
  TIndent : Kind
  TDedent : Kind

pub record Token : Type 0 where
  pub place : Place
  pub kind : Kind

pub data Refusal : Type 0 where
  -- bytes that belong to no character
  NotUtf8 : Refusal
  -- a character that begins no token, or that may not stand behind a number
  BadCharacter : Refusal
  -- a line comes back to no level of indentation
  BadIndent : Refusal
  -- its level depends on the width of a tab
  MixedTabs : Refusal
  UnclosedText : Refusal
  -- a bracket that is open at the end, or one that closes none
  UnclosedBracket : Refusal
  BadEscape : Refusal
  WideNumber : Refusal
  NonAsciiText : Refusal
  -- a name that NFKC would change
  NotNormal : Refusal
  TooLong : Refusal

pub data Outcome : Type 0 where
  Tokens : (tokens : List Token) → Outcome
  Refused : (refusal : Refusal) → (place : Place) → Outcome

-- the place behind a character: a line feed ends a line
abbrev pub next_place : Place → ℕ → Place
next_place p c =
    if c == 10 then record { «module» = p.module; line = p.line + 1; column = 1 } else record { «module» = p.module; line = p.line; column = p.column + 1 }

-- the place behind some characters
abbrev pub place_after : Place → List ℕ → Place
place_after p [] = p
place_after p (c ∷ z) = place_after (next_place p c) z
