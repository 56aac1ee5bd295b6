use Rattle.std.proofs.Common.{ap, ◌∙◌}
use Rattle.py_lexer.specs.Numbering.{numbers_of}
use Rattle.py_lexer.proofs.NumberingLemmas.{numbers-pushed}
use Rattle.py_lexer.proofs.lines.Output.push.Goals as goal

pub returns-clause-numbers : goal.returns-clause-numbers
returns-clause-numbers c = ap numbers_of c.in_ok-push.ensures.items ∙ numbers-pushed c.args.self.now.tokens.items _
