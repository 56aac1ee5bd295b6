use Rattle.std.proofs.Common.{◌∙◌}
use Rattle.std.proofs.lemmas.Result.{on_ok_weaker}
use Rattle.parser_atoms.proofs.Additions.{loop_added}
use Rattle.parser_atoms.proofs.atoms.add_loop.Goals as goal

pub returns-in_ok-push-in-ListComprehension : goal.returns-in_ok-push-in-ListComprehension
returns-in_ok-push-in-ListComprehension c =
    on_ok_weaker c.push-in-ListComprehension.result
    (λ pushed texts.
    pushed texts
    ∙ loop_added _ _ _ c.in_ok-clause.clause c.in-Ok.comprehension c.in-ListComprehension.place c.in-ListComprehension.element c.in-ListComprehension.loops c.push.new.self
    (c.in_ok-clause.ensures texts) (c.in-Ok.ensures texts) c.in-ListComprehension.is c.in_ok-push-in-ListComprehension.ensures.ok)
    c.push-in-ListComprehension.ensures
