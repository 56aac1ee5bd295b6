-- The code's tokens as the plain tokens that definitions speak of. Names are numbers of texts.
use Rattle.std.specs.Prelude.{ℕ, List, [], map, get_or, codes}
use Rattle.runs.specs.Number.{Width as PlainWidth, W32, W64}
use Rattle.py_tokens.specs.Token as meaning
use Rattle.shed_base.specs.declared.place.Place.{Place}
use Rattle.shed_base.specs.declared.width.Width.{Width}
use Rattle.shed_base.specs.declared.width.Width.TheVariants as width
use Rattle.py_lexer.specs.declared.token.Keyword.{Keyword}
use Rattle.py_lexer.specs.declared.token.Keyword.TheVariants as keyword
use Rattle.py_lexer.specs.declared.token.Operator.{Operator}
use Rattle.py_lexer.specs.declared.token.Operator.TheVariants as operator
use Rattle.py_lexer.specs.declared.token.TokenKind.{TokenKind}
use Rattle.py_lexer.specs.declared.token.TokenKind.TheVariants as kind
use Rattle.py_lexer.specs.declared.token.Token.{Token}

abbrev pub plain_width : Width → PlainWidth
plain_width width.W32 = W32
plain_width width.W64 = W64

abbrev pub plain_place : Place → meaning.Place
plain_place p = record { «module» = p.module; line = p.line; column = p.column }

abbrev pub keyword_text : Keyword → List ℕ
keyword_text keyword.False = codes "False"
keyword_text keyword.None = codes "None"
keyword_text keyword.True = codes "True"
keyword_text keyword.And = codes "and"
keyword_text keyword.As = codes "as"
keyword_text keyword.Assert = codes "assert"
keyword_text keyword.Async = codes "async"
keyword_text keyword.Await = codes "await"
keyword_text keyword.Break = codes "break"
keyword_text keyword.Class = codes "class"
keyword_text keyword.Continue = codes "continue"
keyword_text keyword.Def = codes "def"
keyword_text keyword.Del = codes "del"
keyword_text keyword.Elif = codes "elif"
keyword_text keyword.Else = codes "else"
keyword_text keyword.Except = codes "except"
keyword_text keyword.Finally = codes "finally"
keyword_text keyword.For = codes "for"
keyword_text keyword.From = codes "from"
keyword_text keyword.Global = codes "global"
keyword_text keyword.If = codes "if"
keyword_text keyword.Import = codes "import"
keyword_text keyword.In = codes "in"
keyword_text keyword.Is = codes "is"
keyword_text keyword.Lambda = codes "lambda"
keyword_text keyword.Nonlocal = codes "nonlocal"
keyword_text keyword.Not = codes "not"
keyword_text keyword.Or = codes "or"
keyword_text keyword.Pass = codes "pass"
keyword_text keyword.Raise = codes "raise"
keyword_text keyword.Return = codes "return"
keyword_text keyword.Try = codes "try"
keyword_text keyword.While = codes "while"
keyword_text keyword.With = codes "with"
keyword_text keyword.Yield = codes "yield"

abbrev pub operator_text : Operator → List ℕ
operator_text operator.DoubleSlashEqual = codes "//="
operator_text operator.DoubleStarEqual = codes "**="
operator_text operator.LeftShiftEqual = codes "<<="
operator_text operator.RightShiftEqual = codes ">>="
operator_text operator.Ellipsis = codes "..."
operator_text operator.DoubleSlash = codes "//"
operator_text operator.DoubleStar = codes "**"
operator_text operator.LeftShift = codes "<<"
operator_text operator.RightShift = codes ">>"
operator_text operator.LessEqual = codes "<="
operator_text operator.GreaterEqual = codes ">="
operator_text operator.EqualEqual = codes "=="
operator_text operator.NotEqual = codes "!="
operator_text operator.PlusEqual = codes "+="
operator_text operator.MinusEqual = codes "-="
operator_text operator.StarEqual = codes "*="
operator_text operator.PercentEqual = codes "%="
operator_text operator.AmpersandEqual = codes "&="
operator_text operator.BarEqual = codes "|="
operator_text operator.CaretEqual = codes "^="
operator_text operator.SlashEqual = codes "/="
operator_text operator.AtEqual = codes "@="
operator_text operator.Arrow = codes "->"
operator_text operator.ColonEqual = codes ":="
operator_text operator.Plus = codes "+"
operator_text operator.Minus = codes "-"
operator_text operator.Star = codes "*"
operator_text operator.Percent = codes "%"
operator_text operator.Ampersand = codes "&"
operator_text operator.Bar = codes "|"
operator_text operator.Caret = codes "^"
operator_text operator.Tilde = codes "~"
operator_text operator.Less = codes "<"
operator_text operator.Greater = codes ">"
operator_text operator.OpenParenthesis = codes "("
operator_text operator.CloseParenthesis = codes ")"
operator_text operator.OpenBracket = codes "["
operator_text operator.CloseBracket = codes "]"
operator_text operator.OpenBrace = codes "{"
operator_text operator.CloseBrace = codes "}"
operator_text operator.Comma = codes ","
operator_text operator.Colon = codes ":"
operator_text operator.Dot = codes "."
operator_text operator.Semicolon = codes ";"
operator_text operator.Equal = codes "="
operator_text operator.Slash = codes "/"
operator_text operator.At = codes "@"

-- where names stand for these texts
abbrev pub plain_kind : List (List ℕ) → TokenKind → meaning.Kind
plain_kind texts (kind.Name name) = meaning.TName (get_or texts name.0 [])
plain_kind texts (kind.Keyword k) = meaning.TKeyword (keyword_text k)
plain_kind texts (kind.Operator o) = meaning.TOperator (operator_text o)
plain_kind texts (kind.Number value) = meaning.TNumber value
plain_kind texts (kind.Text text) = meaning.TText text
plain_kind texts kind.Float = meaning.TFloat
plain_kind texts kind.Imaginary = meaning.TImaginary
plain_kind texts kind.Bytes = meaning.TBytes
plain_kind texts kind.Formatted = meaning.TFormatted
plain_kind texts kind.Newline = meaning.TNewline
plain_kind texts kind.Indent = meaning.TIndent
plain_kind texts kind.Dedent = meaning.TDedent

abbrev pub plain_token : List (List ℕ) → Token → meaning.Token
plain_token texts t = record { place = plain_place t.place; kind = plain_kind texts t.kind }

abbrev pub plain_tokens : List (List ℕ) → List Token → List meaning.Token
plain_tokens texts = map (plain_token texts)
