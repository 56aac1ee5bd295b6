-- The code's tokens as the plain tokens that the grammar sees, where names stand for these texts.
use Rattle.std.specs.Prelude.{ℕ, Bool, nat_lt, List, [], map, get_or}
use Rattle.std.specs.List.{list_all}
use Rattle.py_syntax.specs.Token as meaning
use Rattle.py_lexer.specs.PlainTokens.{plain_place, keyword_text, operator_text}
use Rattle.py_lexer.specs.declared.token.TokenKind.{TokenKind}
use Rattle.py_lexer.specs.declared.token.TokenKind.TheVariants as kind
use Rattle.py_lexer.specs.declared.token.Token.{Token}

-- whether a text has ASCII characters alone
abbrev pub is_ascii : List ℕ → Bool
is_ascii = list_all (λ byte. nat_lt byte 128)

abbrev pub plain_kind : List (List ℕ) → TokenKind → meaning.Kind
plain_kind texts (kind.Name name) = meaning.TName (is_ascii (get_or texts name.0 [])) name.0
plain_kind texts (kind.Keyword k) = meaning.TKeyword (keyword_text k)
plain_kind texts (kind.Operator o) = meaning.TOperator (operator_text o)
plain_kind texts (kind.Number value) = meaning.TNumber value
plain_kind texts (kind.Text text) = meaning.TText text
plain_kind texts kind.Float = meaning.TFloat
plain_kind texts kind.Imaginary = meaning.TImaginary
plain_kind texts kind.Bytes = meaning.TBytes
plain_kind texts kind.Formatted = meaning.TFormatted
plain_kind texts kind.Newline = meaning.TNewline
plain_kind texts kind.Indent = meaning.TIndent
plain_kind texts kind.Dedent = meaning.TDedent

abbrev pub plain_token : List (List ℕ) → Token → meaning.Token
plain_token texts t = meaning.At (plain_place t.place) (plain_kind texts t.kind)

abbrev pub plain_tokens : List (List ℕ) → List Token → List meaning.Token
plain_tokens texts = map (plain_token texts)
