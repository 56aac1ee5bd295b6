use Rattle.std.proofs.Common.{◌≡◌, chars, sym, ap, ◌∙◌, subst}
use Rattle.py_tokens.specs.Tokens.{unmarked, beginning, tokens_of_characters, tokens_of}
use Rattle.py_lexer.specs.PlainTokens.{plain_width}
use Rattle.py_lexer.specs.Reading.{AreTokens, IsRefused}
use Rattle.py_lexer.proofs.NamesLemmas.{from_ok, from_err}
use Rattle.py_lexer.proofs.TextLemmas.{tokens_of-characters}
use Rattle.py_lexer.proofs.lexer.lex.Goals as goal

pub returns-in-Ok-Ok-clause-tokens : goal.returns-in-Ok-Ok-clause-tokens
returns-in-Ok-Ok-clause-tokens c =
    let w = plain_width c.args.width in
    let n = c.args.module in
    let cases = c.in-Ok.ensures.cases in
    let e : tokens_of_characters w (beginning n) (unmarked (chars c.in-Ok.valid.now)) ≡ tokens_of n w c.args.text.now =
    ap (λ z. tokens_of_characters w (beginning n) (unmarked (chars z))) cases.0 ∙ sym (tokens_of-characters n w c.args.text.now cases.1) in
    subst (λ o. AreTokens o c.lex_text.new.names c.in-Ok-Ok.tokens.items) e (from_ok c.in-Ok-Ok.field-0 c.in-Ok-Ok.tokens _ c.in-Ok-Ok.field-0-is c.in-Ok-Ok.ensures.tokens)

pub returns-in-Ok-Err-clause-refused : goal.returns-in-Ok-Err-clause-refused
returns-in-Ok-Err-clause-refused c =
    let w = plain_width c.args.width in
    let n = c.args.module in
    let cases = c.in-Ok.ensures.cases in
    let e : tokens_of_characters w (beginning n) (unmarked (chars c.in-Ok.valid.now)) ≡ tokens_of n w c.args.text.now =
    ap (λ z. tokens_of_characters w (beginning n) (unmarked (chars z))) cases.0 ∙ sym (tokens_of-characters n w c.args.text.now cases.1) in
    subst (λ o. IsRefused o c.in-Ok-Err.refusal) e (from_err c.in-Ok-Err.field-0 c.in-Ok-Err.refusal _ c.in-Ok-Err.field-0-is c.in-Ok-Err.ensures.refused)
