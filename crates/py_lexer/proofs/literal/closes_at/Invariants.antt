use Rattle.std.proofs.Common.{◌≡◌, ◌+◌, length, option_map}
use Rattle.py_tokens.specs.Lexeme.{closes_at}
use Rattle.py_lexer.proofs.literal.closes_at.Given as goal

abbrev pub invariant-loop-first : goal.invariant-loop-first
invariant-loop-first l = record {
  value : option_map (λ k. l.n + k) (closes_at l.three l.quote l.left l.rest) ≡ closes_at l.three l.quote 0 l.text;
  within : l.n + length l.rest ≡ length l.text;
}

abbrev pub decreases-loop-first : goal.decreases-loop-first
decreases-loop-first l = length l.rest
