use Rattle.std.proofs.Common.{◌++◌, string_bytes, sym, ap, ◌∙◌, append-nil}
use Rattle.py_lexer.specs.PlainTokens.{plain_kind}
use Rattle.shed_meaning.specs.TokenText.{token_text}
use Rattle.py_table.proofs.NameTexts.{no_text_there}
use Rattle.shed_source.proofs.fault.push_token.Goals as goal

pub returns-in-None : goal.returns-in-None
returns-in-None c =
    let said = string_bytes c.args.said.now in
    sym (append-nil said)
    ∙ ap (λ text. said ++ text) (sym (no_text_there c.args.names.now c.in-Name.name.0 (sym c.in-None.ensures.text)))
    ∙ ap (λ kind. said ++ token_text (plain_kind c.args.names.now kind)) (sym c.in-Name.is)
