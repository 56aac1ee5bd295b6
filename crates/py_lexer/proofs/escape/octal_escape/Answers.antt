use Rattle.std.proofs.Common.{◌+◌, length, refl, ap, ◌∙◌}
use Rattle.std.specs.List.{take_while}
use Rattle.py_tokens.specs.Characters.{is_digit_below}
use Rattle.py_lexer.proofs.EscapeLemmas.{coded-octal}
use Rattle.py_lexer.proofs.escape.octal_escape.Goals as goal

pub returns : goal.returns
returns c =
    c.coded_value.ensures
    ∙ coded-octal c.args.text.now c.digits_of-digits.result.now (length c.digits_of-digits.result.now + 1) (c.digits_of-digits.ensures ∙ ap (take_while (is_digit_below 8)) c.front.ensures) refl
