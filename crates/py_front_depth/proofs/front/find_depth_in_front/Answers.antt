use Rattle.std.proofs.Common.{ap, sym, ◌∙◌, Some, None, [], ◌∷◌}
use Rattle.py_nesting.specs.First.{first_of}
use Rattle.py_nesting.specs.Walk as walking
use Rattle.py_demands.specs.Closing.{exactly}
use Rattle.py_demands.specs.FrontDepth.{front_met}
use Rattle.py_demands.specs.Readings.{targets_reading}
use Rattle.py_table.specs.PlainTokens.{plain_tokens}
use Rattle.py_table.specs.Steps.{stack_of}
use Rattle.py_depth.specs.PlainDemands.{demands_of}
use Rattle.py_depth.specs.PlainEntries.{entries_of, events_of}
use Rattle.py_front_depth.proofs.FrontDecided.{without_targets, with_same, with_both, noted_in}
use Rattle.py_front_depth.proofs.front.find_depth_in_front.Goals as goal

pub returns-in_default-2 : goal.returns-in_default-2
returns-in_default-2 c =
    let h = rw c.in-Some.is at c.in_ok-reached.ensures in
    let symbols = c.in-Some.reached.symbols.items in
    let nest = c.in-Some.reached.nest in
    without_targets _ (plain_tokens c.args.names.now c.args.front.now) symbols nest (demands_of c.in_ok-whole.whole.items) c.in_ok-targets.field-0 _ h.0 h.1
    (ap (λ l. exactly (stack_of l) (Some (walking.Whole 0 ∷ []))) (sym c.deref.ensures.value) ∙ c.in_ok-whole.ensures)
    (c.in_ok-targets.ensures ∙ ap (λ l. targets_reading (stack_of l) (entries_of c.deref-3.result.now)) c.deref-2.ensures.value ∙ ap (λ l. targets_reading (stack_of symbols) (entries_of l)) c.deref-3.ensures.value)
    c.in_default-2.is
    (c.in_ok-first.ensures ∙ ap (λ l. first_of None (front_met (entries_of nest.entries.items) (events_of nest.events.items) (demands_of l))) c.deref-in_default-2.ensures.value)

pub returns-then-are_same : goal.returns-then-are_same
returns-then-are_same c =
    let h = rw c.in-Some.is at c.in_ok-reached.ensures in
    let symbols = c.in-Some.reached.symbols.items in
    let nest = c.in-Some.reached.nest in
    with_same _ (plain_tokens c.args.names.now c.args.front.now) symbols nest (demands_of c.in_ok-whole.whole.items) c.in_ok-targets.field-0 c.in-Some-2.targets _ h.0 h.1
    (ap (λ l. exactly (stack_of l) (Some (walking.Whole 0 ∷ []))) (sym c.deref.ensures.value) ∙ c.in_ok-whole.ensures)
    (c.in_ok-targets.ensures ∙ ap (λ l. targets_reading (stack_of l) (entries_of c.deref-3.result.now)) c.deref-2.ensures.value ∙ ap (λ l. targets_reading (stack_of symbols) (entries_of l)) c.deref-3.ensures.value)
    c.in-Some-2.is (ap demands_of (sym c.deref-4.ensures.value ∙ c.are_same.ensures c.if-are_same.true ∙ c.deref-5.ensures.value))
    (c.in_ok-first-2.ensures ∙ ap (λ l. first_of None (front_met (entries_of nest.entries.items) (events_of nest.events.items) (demands_of l))) c.deref-then-are_same.ensures.value)

pub returns : goal.returns
returns c =
    let h = rw c.in-Some.is at c.in_ok-reached.ensures in
    let symbols = c.in-Some.reached.symbols.items in
    let nest = c.in-Some.reached.nest in
    with_both _ (plain_tokens c.args.names.now c.args.front.now) symbols nest (demands_of c.in_ok-whole.whole.items) c.in_ok-targets.field-0 c.in-Some-2.targets _ h.0 h.1
    (ap (λ l. exactly (stack_of l) (Some (walking.Whole 0 ∷ []))) (sym c.deref.ensures.value) ∙ c.in_ok-whole.ensures)
    (c.in_ok-targets.ensures ∙ ap (λ l. targets_reading (stack_of l) (entries_of c.deref-3.result.now)) c.deref-2.ensures.value ∙ ap (λ l. targets_reading (stack_of symbols) (entries_of l)) c.deref-3.ensures.value)
    c.in-Some-2.is
    (c.first_in_both.ensures c.args.names.now _ _ (noted_in nest c.in_ok-depths.depths.entries c.deref-6.ensures.value c.in_ok-depths.ensures) (noted_in nest c.in_ok-others.others.entries c.deref-7.ensures.value c.in_ok-others.ensures))
