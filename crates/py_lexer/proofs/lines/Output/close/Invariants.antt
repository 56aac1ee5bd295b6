use Rattle.std.proofs.Common.{◌≡◌, ℕ, List, ◌++◌, length}
use Rattle.py_tokens.specs.Tokens.{dedents}
use Rattle.py_lexer.specs.PlainTokens.{plain_place, plain_tokens}
use Rattle.py_lexer.specs.Wanted.{IsApart}
use Rattle.py_lexer.specs.Numbering.{numbers_of}
use Rattle.py_lexer.proofs.lines.Output.close.Given as goal

abbrev pub invariant-loop-level : goal.invariant-loop-level
invariant-loop-level l = record {
  tokens :
      (texts : List (List ℕ)) → plain_tokens texts l.self.tokens.items ++ dedents (plain_place l.last) (length l.self.outer.items)
      ≡ plain_tokens texts l.initial.self.tokens.items ++ dedents (plain_place l.last) (length l.initial.self.outer.items);
  apart : IsApart l.initial.self → IsApart l.self;
  numbers : numbers_of l.self.tokens.items ≡ numbers_of l.initial.self.tokens.items;
}

abbrev pub decreases-loop-level : goal.decreases-loop-level
decreases-loop-level l = length l.self.outer.items
