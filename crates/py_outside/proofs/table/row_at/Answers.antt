use Rattle.std.proofs.Common.{sym, ap, ◌∙◌}
use Rattle.py_outside.proofs.Picked.{pick_before}
use Rattle.py_outside.specs.PlainSymbols.{plain_name}
use Rattle.py_outside.specs.Sights.{allowed}
use Rattle.py_table.specs.Sights.{sight_numbered}
use Rattle.py_outside.proofs.table.row_at.Goals as goal

pub returns-clause-picked : goal.returns-clause-picked
returns-clause-picked c = λ v. pick_before c.args.construct (plain_name c.args.name) v (sight_numbered c.args.sight) ∙ ap (allowed v) (sym c.row_with.ensures)
