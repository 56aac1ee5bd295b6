use Rattle.std.proofs.Common.{sym, ap, ◌∙◌, subst}
use Rattle.std.proofs.lemmas.Result.{on_ok_weaker}
use Rattle.py_lexer.specs.PlainTokens.{plain_tokens}
use Rattle.py_lexer.specs.Ahead.{Apart}
use Rattle.py_lexer.specs.Numbering.{numbers_of}
use Rattle.py_lexer.proofs.NumberingLemmas.{numbers-pushed}
use Rattle.py_lexer.proofs.OutputLemmas.{tokens-pushed}
use Rattle.py_lexer.proofs.lines.Output.push_text.Goals as goal

pub returns-in-Some-clause-apart : goal.returns-in-Some-clause-apart
returns-in-Some-clause-apart c =
    on_ok_weaker c.push_behind.result
    (λ h a. h (λ texts. subst Apart (ap (plain_tokens texts) c.in-Some.ensures.items ∙ tokens-pushed texts c.pop.new.self.items c.in-Some.last) (a texts)))
    c.push_behind.ensures.apart

pub returns-in-Some-clause-numbers : goal.returns-in-Some-clause-numbers
returns-in-Some-clause-numbers c =
    on_ok_weaker c.push_behind.result (λ h. h ∙ sym (ap numbers_of c.in-Some.ensures.items ∙ numbers-pushed c.pop.new.self.items c.in-Some.last)) c.push_behind.ensures.numbers
