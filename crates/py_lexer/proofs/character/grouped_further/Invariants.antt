use Rattle.std.proofs.Common.{◌≡◌, ◌+◌, length}
use Rattle.py_tokens.specs.Characters.{grouped_further}
use Rattle.py_lexer.specs.Digits.{is_digit_of}
use Rattle.py_lexer.proofs.character.grouped_further.Given as goal

abbrev pub invariant-loop-first : goal.invariant-loop-first
invariant-loop-first l = record {
  value : l.n + grouped_further (is_digit_of l.digits) l.rest ≡ grouped_further (is_digit_of l.digits) l.text;
  within : l.n + length l.rest ≡ length l.text;
}

abbrev pub decreases-loop-first : goal.decreases-loop-first
decreases-loop-first l = length l.rest
