use Rattle.parser_targets.proofs.TargetLemmas.{one_found}
use Rattle.parser_targets.proofs.targets.target_list_of.Goals as goal

pub loop-turn-preserved : goal.loop-turn-preserved
loop-turn-preserved c =
    one_found c.loop-turn.rest c.pop.new.self c.args.exprs c.in-Some.expr c.in_ok-target_of-in-Some.field-0 c.loop-turn.targets.items c.push.new.self.items
    c.in-Some.ensures c.in_ok-push-in-Some.ensures.items c.in_ok-target_of-in-Some.ensures c.loop-turn.invariant
