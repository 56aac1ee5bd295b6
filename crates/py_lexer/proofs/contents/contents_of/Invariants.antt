use Rattle.std.proofs.Common.{◌≡◌, ◌+◌, length}
use Rattle.py_tokens.specs.Lexeme.{contents_of}
use Rattle.py_lexer.specs.ContentsOfTexts.{behind}
use Rattle.py_lexer.proofs.contents.contents_of.Given as goal

abbrev pub invariant-loop-first : goal.invariant-loop-first
invariant-loop-first l = record {
  value : behind l.held l.n (contents_of l.raw l.left l.rest) ≡ contents_of l.raw 0 l.text;
  within : l.n + length l.rest ≡ length l.text;
}

abbrev pub decreases-loop-first : goal.decreases-loop-first
decreases-loop-first l = length l.rest
