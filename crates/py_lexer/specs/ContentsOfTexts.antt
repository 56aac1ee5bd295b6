-- What whole texts stand for, as the code tells it.
use Rattle.std.specs.Prelude.{ℕ, ◌+◌, ◌≤◌, ◌++◌}
use Rattle.py_tokens.specs.Characters.{Text}
use Rattle.py_tokens.specs.Lexeme as meaning
use Rattle.py_lexer.specs.PlainLexemes.{plain_fault}
use Rattle.py_lexer.specs.declared.contents.Contents.{Contents}
use Rattle.py_lexer.specs.declared.contents.Contents.TheVariants as contents

abbrev pub plain_contents : Contents → meaning.Contents
plain_contents (contents.Holds text) = meaning.Holds text
plain_contents (contents.Fails fault before) = meaning.Fails (plain_fault fault) before

-- behind n characters that stand for some text
abbrev pub behind : Text → ℕ → meaning.Contents → meaning.Contents
behind t n (meaning.Holds u) = meaning.Holds (t ++ u)
behind t n (meaning.Fails r k) = meaning.Fails r (n + k)

-- the first wrong character is one of so many, or the place behind them
abbrev pub IsWithin : ℕ → Contents → Type 0
IsWithin n (contents.Holds text) = Unit {0}
IsWithin n (contents.Fails fault before) = before ≤ n
