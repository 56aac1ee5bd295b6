use Rattle.std.proofs.Common.{refl, sym, ap, ◌∙◌}
use Rattle.std.specs.Option.{option_map}
use Rattle.py_table.specs.PlainTokens.{plain_tokens}
use Rattle.py_table.specs.Sights.{sight_numbered}
use Rattle.py_constructs.specs.Table.{widening_of}
use Rattle.py_outside.specs.PlainConstructs.{additions_of}
use Rattle.py_outside.specs.PlainSymbols.{plain_name, plain_taken}
use Rattle.py_outside.specs.PlainValues.{plain_value}
use Rattle.py_outside.specs.Sights.{allowed}
use Rattle.py_outside.specs.Steps.{stack_of}
use Rattle.py_outside.proofs.Turns.{at_sight, row_taken, no_row, forbidden}
use Rattle.py_outside.proofs.run.expand.Goals as goal

pub returns-in_default : goal.returns-in_default
returns-in_default c = (
  no_row (additions_of c.args.construct) (plain_name c.args.name) _ (plain_value c.args.value.now) (plain_tokens c.args.names.now c.args.rest.now) (sight_numbered c.sight.result) _
      (at_sight (additions_of c.args.construct) (plain_tokens c.args.names.now c.args.rest.now) c.sight.result c.sight.ensures.number) (c.row_at.ensures.picked (plain_value c.args.value.now))
      (ap (λ o. allowed (plain_value c.args.value.now) (option_map (plain_taken (widening_of (additions_of c.args.construct))) o)) c.in_default.is),
  refl,
  refl,
)

pub returns-then-not-allows_row : goal.returns-then-not-allows_row
returns-then-not-allows_row c = (
  no_row (additions_of c.args.construct) (plain_name c.args.name) _ (plain_value c.args.value.now) (plain_tokens c.args.names.now c.args.rest.now) (sight_numbered c.sight.result) _
      (at_sight (additions_of c.args.construct) (plain_tokens c.args.names.now c.args.rest.now) c.sight.result c.sight.ensures.number) (c.row_at.ensures.picked (plain_value c.args.value.now))
      (ap (λ o. allowed (plain_value c.args.value.now) (option_map (plain_taken (widening_of (additions_of c.args.construct))) o)) c.in-Some.is ∙ forbidden (plain_value c.args.value.now) (plain_taken (widening_of (additions_of c.args.construct)) c.in-Some.row) (sym c.if-not-allows_row.true ∙ c.allows_row.ensures)),
  refl,
  refl,
)

pub returns : goal.returns
returns c =
    row_taken (additions_of c.args.construct) (plain_name c.args.name) (stack_of c.args.symbols.now.items) (stack_of c.push_row.new.symbols.items) (plain_value c.args.value.now) (plain_tokens c.args.names.now c.args.rest.now) (sight_numbered c.sight.result) (plain_taken (widening_of (additions_of c.args.construct)) c.in-Some.row)
    (at_sight (additions_of c.args.construct) (plain_tokens c.args.names.now c.args.rest.now) c.sight.result c.sight.ensures.number)
    (c.row_at.ensures.picked (plain_value c.args.value.now) ∙ ap (λ o. allowed (plain_value c.args.value.now) (option_map (plain_taken (widening_of (additions_of c.args.construct))) o)) c.in-Some.is) (sym c.if-not-allows_row.false ∙ c.allows_row.ensures)
    (c.in_ok-push_row.ensures (widening_of (additions_of c.args.construct)))
