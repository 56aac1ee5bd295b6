use Rattle.std.proofs.Common.{sym, ap, ◌∙◌}
use Rattle.py_table.specs.PlainTokens.{plain_tokens}
use Rattle.py_table.specs.Steps.{stack_of}
use Rattle.py_front_depth.specs.Reaching.{is_done}
use Rattle.py_front_depth.proofs.Standing.{at_start, further, stuck_so, done_so}
use Rattle.py_front_depth.proofs.reach.reach.Goals as goal

pub loop-turn-init : goal.loop-turn-init
loop-turn-init c =
    at_start (plain_tokens c.args.names.now c.args.front.now) _ _ _ (record { entries = c.new.result; events = c.new-2.result }) c.new-symbols.ensures.items c.in_ok-push.ensures.items c.in_ok-push-2.ensures.items c.new.ensures.items c.new-2.ensures.items

pub loop-turn-preserved : goal.loop-turn-preserved
loop-turn-preserved c =
    further (plain_tokens c.args.names.now c.args.front.now) (plain_tokens c.args.names.now c.loop-turn.rest.now) (plain_tokens c.args.names.now c.in-Goes.more.now) (stack_of c.loop-turn.symbols.items) c.step.new.symbols.items
    c.loop-turn.nest c.step.new.values c.loop-turn.invariant
    (sym (c.is_behind.ensures c.args.names.now ∙ ap (λ items. is_done (plain_tokens c.args.names.now c.loop-turn.rest.now) (stack_of items)) c.deref.ensures.value) ∙ c.if-is_behind.false)
    (rw c.in-Goes.is at c.in_ok-more.ensures)

pub returns-in-Done : goal.returns-in-Done
returns-in-Done c =
    done_so (plain_tokens c.args.names.now c.args.front.now) (plain_tokens c.args.names.now c.loop-turn.rest.now) (stack_of c.loop-turn.symbols.items)
    c.loop-turn.nest _ c.loop-turn.invariant
    (sym (c.is_behind.ensures c.args.names.now ∙ ap (λ items. is_done (plain_tokens c.args.names.now c.loop-turn.rest.now) (stack_of items)) c.deref.ensures.value) ∙ c.if-is_behind.false)
    (rw c.in-Done.is at c.in_ok-more.ensures)

pub returns-in-Stuck : goal.returns-in-Stuck
returns-in-Stuck c =
    stuck_so (plain_tokens c.args.names.now c.args.front.now) (plain_tokens c.args.names.now c.loop-turn.rest.now) (stack_of c.loop-turn.symbols.items)
    c.loop-turn.nest c.loop-turn.invariant
    (sym (c.is_behind.ensures c.args.names.now ∙ ap (λ items. is_done (plain_tokens c.args.names.now c.loop-turn.rest.now) (stack_of items)) c.deref.ensures.value) ∙ c.if-is_behind.false)
    (rw c.in-Stuck.is at c.in_ok-more.ensures)
