use Rattle.parser_targets.proofs.TargetLemmas.{peeled_list}
use Rattle.parser_targets.proofs.targets.peel.Goals as goal

pub returns-in-None : goal.returns-in-None
returns-in-None c =
    peeled_list c.args.expr c.in_ok-only_item-in-None.field-0 c.in-List.place c.in-List.comma c.in-List.items c.in-List.is c.in-None.is c.in_ok-only_item-in-None.ensures
