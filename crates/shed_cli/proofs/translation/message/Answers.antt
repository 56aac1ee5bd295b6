use Rattle.std.proofs.Common.{◌≡◌, IfOk, string_bytes, subst}
use Rattle.py_lexer.specs.PlainTokens.{plain_place}
use Rattle.shed_cli.proofs.Appends.{located_said}
use Rattle.shed_cli.proofs.translation.message.Goals as goal

pub returns : goal.returns
returns c =
    let fault = c.args.fault.now in
    subst (λ line. IfOk c.format.result (λ m. string_bytes m ≡ line))
    (located_said c.args.name.now (plain_place fault.place) c.as_str-said.result.now (string_bytes fault.said) c.as_str-said.ensures.value) c.format.ensures.ok
