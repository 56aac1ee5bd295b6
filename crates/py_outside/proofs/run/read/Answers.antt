use Rattle.std.proofs.Common.{refl, sym, ap, ◌∙◌}
use Rattle.py_table.specs.PlainTokens.{plain_token, plain_tokens}
use Rattle.py_outside.specs.PlainConstructs.{additions_of}
use Rattle.py_outside.specs.PlainValues.{plain_value}
use Rattle.py_outside.specs.Steps.{stack_of}
use Rattle.py_outside.proofs.Turns.{token_read}
use Rattle.py_outside.proofs.run.read.Goals as goal

pub returns : goal.returns
returns c =
    token_read (additions_of c.args.construct) c.args.kind (stack_of c.args.symbols.now) (plain_value c.args.value.now) (plain_value c.take.new.self)
    (plain_token c.args.names.now c.in-Some.token.now) (plain_tokens c.args.names.now c.in-Some.more.now) (plain_tokens c.args.names.now c.args.rest.now)
    (ap (plain_tokens c.args.names.now) c.in-Some.ensures.cases.0) (sym c.kind_of.ensures.number ∙ c.if-kind_of-kind.false)
    (c.in_ok-take.ensures (plain_token c.args.names.now c.in-Some.token.now) (sym c.kind_of.ensures.number ∙ c.if-kind_of-kind.false) refl)
