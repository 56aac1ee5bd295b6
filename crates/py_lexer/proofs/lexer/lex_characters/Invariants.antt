use Rattle.std.proofs.Common.{◌≡◌, ℕ, List, length}
use Rattle.py_tokens.specs.Token.{place_after}
use Rattle.py_tokens.specs.Lines.{cut}
use Rattle.py_tokens.specs.Tokens.{tokens_of_characters}
use Rattle.py_lexer.specs.PlainTokens.{plain_place, plain_width}
use Rattle.py_lexer.specs.Reading.{Extends}
use Rattle.py_lexer.specs.Wanted.{ahead, IsApart}
use Rattle.py_lexer.specs.Numbering.{numbers_of, AreNumbered}
use Rattle.py_lexer.proofs.lexer.lex_characters.Given as goal

abbrev pub invariant-loop-rest : goal.invariant-loop-rest
invariant-loop-rest l = record {
  value :
      (texts : List (List ℕ)) → Extends l.names texts
      → ahead texts l.lines (place_after (plain_place l.place) l.rest) (cut (plain_width l.width) (plain_place l.place) 0 l.rest)
      ≡ tokens_of_characters (plain_width l.width) (plain_place l.initial.place) l.initial.rest;
  apart : IsApart l.lines.output;
  names : Extends l.initial.names l.names;
  numbered : AreNumbered l.initial.names l.names (numbers_of l.lines.output.tokens.items);
}

abbrev pub decreases-loop-rest : goal.decreases-loop-rest
decreases-loop-rest l = length l.rest
