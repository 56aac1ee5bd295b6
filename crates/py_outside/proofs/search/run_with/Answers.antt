use Rattle.std.proofs.Common.{sym, ap, ◌∙◌}
use Rattle.std.specs.Option.{option_map}
use Rattle.py_outside.specs.PlainConstructs.{plain_construct}
use Rattle.py_outside.specs.PlainValues.{plain_numbered, plain_value}
use Rattle.py_outside.proofs.Ways.{told_early, step_further, none_halted, none_finished}
use Rattle.py_outside.proofs.search.run_with.Goals as goal

pub returns-in-Some : goal.returns-in-Some
returns-in-Some c = λ ts w. told_early (plain_construct c.args.construct) ts _ (plain_value c.loop-turn.value) _ (plain_numbered c.in-Some.head) c.args.first (c.loop-turn.invariant ts w) (sym c.head_at.ensures ∙ ap (λ o. option_map plain_numbered o) c.in-Some.is)

pub returns-in-Done : goal.returns-in-Done
returns-in-Done c = λ ts w. none_finished (plain_construct c.args.construct) ts _ (plain_value c.loop-turn.value) _ c.args.first (c.loop-turn.invariant ts w) (rw c.in-Done.is at c.in_ok-more.ensures).0 (sym c.head_at.ensures ∙ ap (λ o. option_map plain_numbered o) c.in_default.is)

pub returns-in-Stuck : goal.returns-in-Stuck
returns-in-Stuck c = λ ts w. none_halted (plain_construct c.args.construct) ts _ (plain_value c.loop-turn.value) _ c.args.first (c.loop-turn.invariant ts w) (rw c.in-Stuck.is at c.in_ok-more.ensures).0 (sym c.head_at.ensures ∙ ap (λ o. option_map plain_numbered o) c.in_default.is)

pub loop-turn-preserved : goal.loop-turn-preserved
loop-turn-preserved c = λ ts w. step_further (plain_construct c.args.construct) ts _ _ _ _ _ _ (c.loop-turn.invariant ts w) (rw c.in-Goes.is at c.in_ok-more.ensures)
