use Rattle.std.proofs.Common.{◌≡◌, ◌+◌, drop}
use Rattle.std.specs.List.{prefix_len}
use Rattle.py_lexer.specs.Digits.{is_digit_of}
use Rattle.py_lexer.proofs.escape.digits_of.Given as goal

abbrev pub invariant-loop-at : goal.invariant-loop-at
invariant-loop-at l = l.at + prefix_len (is_digit_of l.digits) (drop l.at l.text) ≡ prefix_len (is_digit_of l.digits) l.text
