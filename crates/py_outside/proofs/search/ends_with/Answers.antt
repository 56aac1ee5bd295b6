use Rattle.std.proofs.Common.{◌≡◌, [], inl, sym, ap, ◌∙◌}
use Rattle.std.specs.Option.{option_map}
use Rattle.grammars.proofs.Bools.{not_false}
use Rattle.py_constructs.specs.Table.{additions, widening_of}
use Rattle.py_table.specs.PlainTokens.{plain_tokens}
use Rattle.py_table.specs.Sights.{sight_numbered}
use Rattle.py_outside.specs.PlainConstructs.{plain_construct}
use Rattle.py_outside.specs.PlainSymbols.{plain_name, plain_action, plain_taken}
use Rattle.py_outside.specs.PlainValues.{plain_value}
use Rattle.py_outside.specs.Sights.{allowed}
use Rattle.py_outside.specs.Steps.{stack_of}
use Rattle.py_outside.proofs.SymbolStacks.{top_of, nothing_left}
use Rattle.py_outside.proofs.Turns.{at_sight, no_row, forbidden}
use Rattle.py_outside.proofs.Ways.{read_ended, done_ended, nothing_ended, ended_there}
use Rattle.py_outside.proofs.search.ends_with.Goals as goal

pub returns-in-Some : goal.returns-in-Some
returns-in-Some c = λ e h.
    ended_there (additions (plain_construct c.args.construct)) _ _ (plain_value c.args.way.now.value) (plain_tokens c.args.names.now c.args.way.now.rest.now) (top_of _ _ c.in-Some-Expand-default.field-0-1.now c.in-Some-Expand-default.field-0-0.now _ c.deref.ensures.value c.in-Some-Expand-default.ensures.cases.0 c.in-Some-Expand-default.field-0-0-is)
    (inl (no_row (additions (plain_construct c.args.construct)) (plain_name c.in-Some-Expand-default.name) _ (plain_value c.args.way.now.value) (plain_tokens c.args.names.now c.args.way.now.rest.now) (sight_numbered c.sight.result) _ (at_sight (additions (plain_construct c.args.construct)) (plain_tokens c.args.names.now c.args.way.now.rest.now) c.sight.result c.sight.ensures.number) (c.row_at.ensures.picked (plain_value c.args.way.now.value))
    (ap (λ o. allowed (plain_value c.args.way.now.value) (option_map (plain_taken (widening_of (additions (plain_construct c.args.construct)))) o)) c.in-Some.is ∙ forbidden (plain_value c.args.way.now.value) (plain_taken (widening_of (additions (plain_construct c.args.construct))) c.in-Some.row) (sym (not_false c.allows_row.result e) ∙ c.allows_row.ensures))))

pub returns-in-None-row_at : goal.returns-in-None-row_at
returns-in-None-row_at c = λ e h.
    ended_there (additions (plain_construct c.args.construct)) _ _ (plain_value c.args.way.now.value) (plain_tokens c.args.names.now c.args.way.now.rest.now) (top_of _ _ c.in-Some-Expand-default.field-0-1.now c.in-Some-Expand-default.field-0-0.now _ c.deref.ensures.value c.in-Some-Expand-default.ensures.cases.0 c.in-Some-Expand-default.field-0-0-is)
    (inl (no_row (additions (plain_construct c.args.construct)) (plain_name c.in-Some-Expand-default.name) _ (plain_value c.args.way.now.value) (plain_tokens c.args.names.now c.args.way.now.rest.now) (sight_numbered c.sight.result) _ (at_sight (additions (plain_construct c.args.construct)) (plain_tokens c.args.names.now c.args.way.now.rest.now) c.sight.result c.sight.ensures.number) (c.row_at.ensures.picked (plain_value c.args.way.now.value))
    (ap (λ o. allowed (plain_value c.args.way.now.value) (option_map (plain_taken (widening_of (additions (plain_construct c.args.construct)))) o)) c.in-None-row_at.is)))

pub returns-in-Some-Read-default : goal.returns-in-Some-Read-default
returns-in-Some-Read-default c = λ e h.
    ended_there (additions (plain_construct c.args.construct)) _ _ (plain_value c.args.way.now.value) (plain_tokens c.args.names.now c.args.way.now.rest.now) (top_of _ _ c.in-Some-Read-default.field-0-1.now c.in-Some-Read-default.field-0-0.now _ c.deref.ensures.value c.in-Some-Read-default.ensures.cases.0 c.in-Some-Read-default.field-0-0-is) (read_ended (additions (plain_construct c.args.construct)) c.in-Some-Read-default.field-0-0-0 _ (plain_value c.args.way.now.value) (plain_tokens c.args.names.now c.args.way.now.rest.now) (ended_there [] _ _ (plain_value c.args.way.now.value) (plain_tokens c.args.names.now c.args.way.now.rest.now) (sym (top_of _ _ c.in-Some-Read-default.field-0-1.now c.in-Some-Read-default.field-0-0.now _ c.deref.ensures.value c.in-Some-Read-default.ensures.cases.0 c.in-Some-Read-default.field-0-0-is)) h))

pub returns-in-Some-Do-default : goal.returns-in-Some-Do-default
returns-in-Some-Do-default c = λ e h.
    ended_there (additions (plain_construct c.args.construct)) _ _ (plain_value c.args.way.now.value) (plain_tokens c.args.names.now c.args.way.now.rest.now) (top_of _ _ c.in-Some-Do-default.field-0-1.now c.in-Some-Do-default.field-0-0.now _ c.deref.ensures.value c.in-Some-Do-default.ensures.cases.0 c.in-Some-Do-default.field-0-0-is) (done_ended (additions (plain_construct c.args.construct)) (plain_action c.in-Some-Do-default.field-0-0-0) _ (plain_value c.args.way.now.value) (plain_tokens c.args.names.now c.args.way.now.rest.now) (ended_there [] _ _ (plain_value c.args.way.now.value) (plain_tokens c.args.names.now c.args.way.now.rest.now) (sym (top_of _ _ c.in-Some-Do-default.field-0-1.now c.in-Some-Do-default.field-0-0.now _ c.deref.ensures.value c.in-Some-Do-default.ensures.cases.0 c.in-Some-Do-default.field-0-0-is)) h))

pub returns-in-None : goal.returns-in-None
returns-in-None c = λ e h.
    let none : stack_of c.args.way.now.symbols.items ≡ [] = nothing_left _ _ c.deref.ensures.value c.in-None.ensures.cases in
    ended_there (additions (plain_construct c.args.construct)) _ _ (plain_value c.args.way.now.value) (plain_tokens c.args.names.now c.args.way.now.rest.now) none (nothing_ended (additions (plain_construct c.args.construct)) (plain_value c.args.way.now.value) (plain_tokens c.args.names.now c.args.way.now.rest.now) (ended_there [] _ _ (plain_value c.args.way.now.value) (plain_tokens c.args.names.now c.args.way.now.rest.now) (sym none) h))
