use Rattle.std.proofs.Common.{◌≡◌, ◌+◌, drop}
use Rattle.std.specs.List.{prefix_len}
use Rattle.py_tokens.specs.Characters.{continues_name}
use Rattle.py_lexer.proofs.lexeme.word_len.Given as goal

abbrev pub invariant-loop-at : goal.invariant-loop-at
invariant-loop-at l = l.at + prefix_len continues_name (drop l.at l.text) ≡ prefix_len continues_name l.text
