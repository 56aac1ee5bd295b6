use Rattle.std.proofs.Common.{◌≡◌, ◌+◌, length}
use Rattle.py_tokens.specs.Characters.{to_line_end}
use Rattle.py_lexer.proofs.character.len_to_line_end.Given as goal

abbrev pub invariant-loop-after : goal.invariant-loop-after
invariant-loop-after l = record {
  value : l.n + length (to_line_end l.rest) ≡ length (to_line_end l.text);
  within : l.n + length l.rest ≡ length l.text;
}

abbrev pub decreases-loop-after : goal.decreases-loop-after
decreases-loop-after l = length l.rest
