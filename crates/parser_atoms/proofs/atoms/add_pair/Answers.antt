use Rattle.std.proofs.Common.{◌∙◌}
use Rattle.std.proofs.lemmas.Result.{on_ok_weaker}
use Rattle.parser_atoms.proofs.Additions.{pair_added}
use Rattle.parser_atoms.proofs.atoms.add_pair.Goals as goal

pub returns-in_ok-push-in-Dict : goal.returns-in_ok-push-in-Dict
returns-in_ok-push-in-Dict c =
    on_ok_weaker c.push-in-Dict.result
    (λ pushed texts.
    pushed texts
    ∙ pair_added _ _ _ c.in_ok-key.key c.in_ok-key.value c.in-Ok.dict _ c.in-Dict.place c.in-Dict.pairs c.push.new.self
    (c.in_ok-key.ensures texts) (c.in-Ok.ensures texts) c.in-Dict.is c.in_ok-push-in-Dict.ensures.ok)
    c.push-in-Dict.ensures
