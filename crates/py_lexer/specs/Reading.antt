-- What cutting a text into tokens gives.
use Rattle.std.specs.Prelude.{◌≡◌, ℕ, ◌<◌, List, [], ◌∷◌, ◌++◌, length}
use Rattle.py_tokens.specs.Token.{NotUtf8, BadCharacter, BadIndent, MixedTabs, UnclosedText, UnclosedBracket, BadEscape, WideNumber, NonAsciiText, NotNormal, TooLong, Outcome, Tokens, Refused}
use Rattle.py_lexer.specs.PlainTokens.{plain_place, plain_tokens}
use Rattle.py_lexer.specs.declared.refusal.LexRefusal.{LexRefusal}
use Rattle.py_lexer.specs.declared.refusal.LexRefusal.TheVariants as refusal
use Rattle.py_lexer.specs.declared.token.TokenKind.{TokenKind}
use Rattle.py_lexer.specs.declared.token.TokenKind.TheVariants as kind
use Rattle.py_lexer.specs.declared.token.Token.{Token}

-- these are the tokens, where names stand for these texts
abbrev pub AreTokens : Outcome → List (List ℕ) → List Token → Type 0
AreTokens outcome texts ts = outcome ≡ Tokens (plain_tokens texts ts)

-- a refusal is the one that the text has; memory may run out at any
abbrev pub IsRefused : Outcome → LexRefusal → Type 0
IsRefused outcome (refusal.NotUtf8 p) = outcome ≡ Refused NotUtf8 (plain_place p)
IsRefused outcome (refusal.BadCharacter p) = outcome ≡ Refused BadCharacter (plain_place p)
IsRefused outcome (refusal.BadIndent p) = outcome ≡ Refused BadIndent (plain_place p)
IsRefused outcome (refusal.MixedTabs p) = outcome ≡ Refused MixedTabs (plain_place p)
IsRefused outcome (refusal.UnclosedText p) = outcome ≡ Refused UnclosedText (plain_place p)
IsRefused outcome (refusal.UnclosedBracket p) = outcome ≡ Refused UnclosedBracket (plain_place p)
IsRefused outcome (refusal.BadEscape p) = outcome ≡ Refused BadEscape (plain_place p)
IsRefused outcome (refusal.WideNumber p) = outcome ≡ Refused WideNumber (plain_place p)
IsRefused outcome (refusal.NonAsciiText p) = outcome ≡ Refused NonAsciiText (plain_place p)
IsRefused outcome (refusal.NotNormal p) = outcome ≡ Refused NotNormal (plain_place p)
IsRefused outcome (refusal.TooLong p) = outcome ≡ Refused TooLong (plain_place p)
IsRefused outcome refusal.NoMemory = Unit {0}

-- names may have been added, and none is lost
abbrev pub Extends : List (List ℕ) → List (List ℕ) → Type 0
Extends old new = (further : List (List ℕ)) × (new ≡ old ++ further)

-- the number of a name is the place of a text
abbrev pub IsHeld : List (List ℕ) → TokenKind → Type 0
IsHeld texts (kind.Name name) = name.0 < length texts
IsHeld texts _ = Unit {0}

abbrev pub AreHeld : List (List ℕ) → List Token → Type 0
AreHeld texts [] = Unit {0}
AreHeld texts (t ∷ ts) = IsHeld texts t.kind × AreHeld texts ts
