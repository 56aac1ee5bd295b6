use Rattle.std.proofs.Common.{◌∙◌}
use Rattle.std.proofs.lemmas.Result.{on_ok_weaker}
use Rattle.parser_operations.proofs.Additions.{link_added}
use Rattle.parser_operations.proofs.operations.add_link.Goals as goal

pub returns-in_ok-push-in-Compare : goal.returns-in_ok-push-in-Compare
returns-in_ok-push-in-Compare c =
    on_ok_weaker c.push-in-Compare.result
    (λ pushed texts.
    pushed texts
    ∙ link_added _ _ _ _ c.in_ok-operand.operand c.in_ok-_other._other c.in_ok-sign.sign c.in_ok-sign.operator c.in-Compare.place c.in-Compare.first c.in-Compare.left c.in-Compare.right
    c.in-Compare.links c.push.new.self
    (c.in_ok-operand.ensures texts) (c.in_ok-sign.ensures texts) (c.in_ok-_other.ensures texts) c.in-Compare.is c.in_ok-push-in-Compare.ensures.ok)
    c.push-in-Compare.ensures
