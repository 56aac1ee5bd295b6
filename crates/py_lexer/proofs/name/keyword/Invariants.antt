use Rattle.std.proofs.Common.{◌≡◌, length, map, bytes_eq}
use Rattle.std.specs.List.{list_any}
use Rattle.py_tokens.specs.Lexeme.{keywords}
use Rattle.py_lexer.specs.PlainTokens.{keyword_text}
use Rattle.py_lexer.proofs.name.keyword.Given as goal

abbrev pub invariant-loop-first : goal.invariant-loop-first
invariant-loop-first l = list_any (λ k. bytes_eq k l.word) (map keyword_text l.rest) ≡ list_any (λ k. bytes_eq k l.word) keywords

abbrev pub decreases-loop-first : goal.decreases-loop-first
decreases-loop-first l = length l.rest
