use Rattle.std.proofs.Common.{sym, ◌∙◌}
use Rattle.py_outside.proofs.Taken.{added_here}
use Rattle.py_outside.proofs.table.is_added_here.Goals as goal

pub returns-then-number_of-number : goal.returns-then-number_of-number
returns-then-number_of-number c = added_here _ _ c.args.sight c.args.row.now.sights.now _ (sym c.number_of.ensures ∙ c.if-number_of-number.true) c.contains.ensures.value
