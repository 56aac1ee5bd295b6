use Rattle.std.proofs.Common.{ap, ◌∙◌}
use Rattle.py_table.specs.PlainTokens.{plain_tokens}
use Rattle.py_lexer.specs.PlainTokens.{plain_place}
use Rattle.py_nesting.specs.First.{first_in}
use Rattle.py_depth.specs.PlainEntries.{entries_of, events_of}
use Rattle.py_depth.specs.PlainDemands.{plain_first}
use Rattle.py_depth.proofs.DepthFound.{finished, begins, found_shallow, found_deep, rest_of_stuck}
use Rattle.py_depth.proofs.depth.find_depth.Goals as goal

pub returns-in-None : goal.returns-in-None
returns-in-None c =
    found_shallow (plain_tokens c.args.names.now c.args.tokens.now) (events_of c.run.new.values.events.items) _
    (finished _ (entries_of c.run.new.values.entries.items) (events_of c.run.new.values.events.items) (rw c.in-Done.is at (c.in_ok-run.ensures (begins _ _ c.new.ensures.items c.new-2.ensures.items))))
    (c.in_ok-first_too_deep-in-Done.ensures ∙ ap (λ items. first_in (events_of items)) c.deref.ensures.value)
    (ap plain_first c.in-None.is)

pub returns-in-Done : goal.returns-in-Done
returns-in-Done c =
    found_deep (plain_tokens c.args.names.now c.args.tokens.now) (events_of c.run.new.values.events.items) _ (plain_place c.in-Some.place)
    (finished _ (entries_of c.run.new.values.entries.items) (events_of c.run.new.values.events.items) (rw c.in-Done.is at (c.in_ok-run.ensures (begins _ _ c.new.ensures.items c.new-2.ensures.items))))
    (c.in_ok-first_too_deep-in-Done.ensures ∙ ap (λ items. first_in (events_of items)) c.deref.ensures.value)
    (ap plain_first c.in-Some.is)

pub returns : goal.returns
returns c =
    rest_of_stuck (plain_tokens c.args.names.now c.args.tokens.now) _ (rw c.in-Stuck.is at (c.in_ok-run.ensures (begins _ _ c.new.ensures.items c.new-2.ensures.items)))
