use Rattle.std.proofs.Common.{◌≡◌, ◌+◌, drop}
use Rattle.std.specs.Option.{option_map}
use Rattle.py_tokens.specs.Lexeme.{first_control}
use Rattle.py_lexer.proofs.space.first_control.Given as goal

abbrev pub invariant-loop-at : goal.invariant-loop-at
invariant-loop-at l = option_map (λ n. l.at + n) (first_control (drop l.at l.text)) ≡ first_control l.text
