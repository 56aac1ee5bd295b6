-- Short words for tokens, which the vectors use.
use Rattle.std.specs.Prelude.{ℕ, List}
use Rattle.runs.specs.Number.{W32, W64}
use Rattle.py_tokens.specs.Token.{Place, Kind, TName, TKeyword, TOperator, TNumber, TText, TNewline, TIndent, TDedent, Token, Outcome}
use Rattle.py_tokens.specs.Characters.{Text}
use Rattle.py_tokens.specs.Tokens.{token, tokens_of_characters, beginning}

abbrev pub at : ℕ → ℕ → Place
at line column = record { «module» = 0; line = line; column = column }

-- the tokens of a text, with numbers of 32 bits or of 64
abbrev pub lexed : Text → Outcome
lexed z = tokens_of_characters W32 (beginning 0) z

abbrev pub lexed_wide : Text → Outcome
lexed_wide z = tokens_of_characters W64 (beginning 0) z

abbrev pub named : ℕ → ℕ → List ℕ → Token
named l c x = token (at l c) (TName x)

abbrev pub word : ℕ → ℕ → List ℕ → Token
word l c x = token (at l c) (TKeyword x)

abbrev pub sign : ℕ → ℕ → List ℕ → Token
sign l c x = token (at l c) (TOperator x)

abbrev pub number : ℕ → ℕ → ℕ → Token
number l c n = token (at l c) (TNumber n)

abbrev pub text : ℕ → ℕ → List ℕ → Token
text l c t = token (at l c) (TText t)

abbrev pub other : ℕ → ℕ → Kind → Token
other l c k = token (at l c) k

abbrev pub newline : ℕ → ℕ → Token
newline l c = token (at l c) TNewline

abbrev pub indent : ℕ → ℕ → Token
indent l c = token (at l c) TIndent

abbrev pub dedent : ℕ → ℕ → Token
dedent l c = token (at l c) TDedent
