use Rattle.std.proofs.Common.{◌∙◌}
use Rattle.py_tokens.specs.Lexeme.{unchecked_number}
use Rattle.py_lexer.specs.PlainTokens.{plain_width}
use Rattle.py_lexer.specs.PlainLexemes.{plain_front}
use Rattle.py_lexer.proofs.NumberLemmas.{checked_number-some}
use Rattle.py_lexer.proofs.number.number.Goals as goal

pub returns-then-stands_alone : goal.returns-then-stands_alone
returns-then-stands_alone c =
    let h = checked_number-some (plain_width c.args.width) c.args.text.now (unchecked_number c.args.text.now) (plain_front c.in-Some.front) c.stands_alone.result c.in-Some.ensures c.stands_alone.ensures in
    rw c.if-stands_alone.true at h

pub returns-else-stands_alone : goal.returns-else-stands_alone
returns-else-stands_alone c =
    let h = checked_number-some (plain_width c.args.width) c.args.text.now (unchecked_number c.args.text.now) (plain_front c.in-Some.front) c.stands_alone.result c.in-Some.ensures c.stands_alone.ensures in
    c.broken.ensures ∙ (rw c.if-stands_alone.false at h)
