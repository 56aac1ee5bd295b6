use Rattle.std.proofs.Common.{◌∙◌}
use Rattle.std.proofs.lemmas.Result.{on_ok_weaker}
use Rattle.parser_blocks.proofs.Handlers.{everything_caught}
use Rattle.parser_blocks.proofs.blocks.catch_all.Goals as goal

pub returns : goal.returns
returns c =
    on_ok_weaker c.push-2.result
    (λ pushed texts.
    pushed texts
    ∙ everything_caught _ _ _ _ _ texts c.in_ok-body.body c.in-Try.tried _ c.in_ok-word.word.now c.in_ok-place.field-0 c.in-Try.place c.in-Try.handlers c.push.new.self
    (c.in_ok-body.ensures texts) (c.in_ok-pop_token.ensures texts) (c.in_ok-word.ensures texts) (c.in_ok-place.ensures texts)
    c.in-Try.is c.in_ok-push.ensures.ok)
    c.push-2.ensures
