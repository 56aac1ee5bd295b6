use Rattle.std.proofs.Common.{◌≡◌, ℕ, List, length}
use Rattle.py_tokens.specs.Token.{Outcome}
use Rattle.py_tokens.specs.Lines.{Widths}
use Rattle.py_tokens.specs.Tokens.{indented}
use Rattle.py_lexer.specs.Ahead.{back_to}
use Rattle.py_lexer.specs.PlainTokens.{plain_place}
use Rattle.py_lexer.specs.Wanted.{plain_widths, followed, IsApart}
use Rattle.py_lexer.specs.Numbering.{numbers_of}
use Rattle.py_lexer.proofs.lines.Output.dedent.Given as goal

abbrev pub invariant-loop-self : goal.invariant-loop-self
invariant-loop-self l = record {
  followed :
      (texts : List (List ℕ)) (go : List Widths → Outcome)
      → followed texts l.initial.self (λ levels. indented (back_to (plain_widths l.widths) levels) (plain_place l.place) (plain_widths l.widths) levels go)
      ≡ followed texts l.self (λ levels. indented (back_to (plain_widths l.widths) levels) (plain_place l.place) (plain_widths l.widths) levels go);
  apart : IsApart l.initial.self → IsApart l.self;
  numbers : numbers_of l.self.tokens.items ≡ numbers_of l.initial.self.tokens.items;
}

abbrev pub decreases-loop-self : goal.decreases-loop-self
decreases-loop-self l = length l.self.outer.items
