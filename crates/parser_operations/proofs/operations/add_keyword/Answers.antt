use Rattle.std.proofs.Common.{ap, ◌∙◌}
use Rattle.std.proofs.lemmas.Result.{on_ok_weaker}
use Rattle.py_syntax.specs.Build.{add_keyword}
use Rattle.py_table.specs.PlainTokens.{plain_token}
use Rattle.parser_parts.specs.PlainParts.{parts_of}
use Rattle.parser_operations.proofs.Taken.{four_taken}
use Rattle.parser_operations.proofs.operations.add_keyword.Goals as goal

pub returns : goal.returns
returns c =
    on_ok_weaker c.push.result
    (λ pushed texts.
    pushed texts
    ∙ c.in_ok-call.ensures (plain_token texts c.in_ok-pop_token.field-0.now) (parts_of texts c.pop_expr-2.new.parts.items)
    ∙ ap add_keyword (four_taken _ _ _ _ _ _ _ _ _ (c.in_ok-value.ensures texts) (c.in_ok-pop_token.ensures texts) (c.in_ok-name.ensures texts) (c.in_ok-before.ensures texts)))
    c.push.ensures
