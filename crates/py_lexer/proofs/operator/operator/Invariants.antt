use Rattle.std.proofs.Common.{◌≡◌, length, map}
use Rattle.py_tokens.specs.Lexeme.{operator_among, operator}
use Rattle.py_lexer.specs.PlainTokens.{operator_text}
use Rattle.py_lexer.proofs.operator.operator.Given as goal

abbrev pub invariant-loop-first : goal.invariant-loop-first
invariant-loop-first l = operator_among (map operator_text l.rest) l.text ≡ operator l.text

abbrev pub decreases-loop-first : goal.decreases-loop-first
decreases-loop-first l = length l.rest
