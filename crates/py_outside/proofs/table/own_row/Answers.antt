use Rattle.std.proofs.Common.{sym}
use Rattle.py_outside.proofs.Picked.{row_found, number_missing}
use Rattle.py_outside.specs.PlainSymbols.{plain_name}
use Rattle.py_outside.proofs.table.own_row.Goals as goal

pub returns-in-Some : goal.returns-in-Some
returns-in-Some c = λ w.
    row_found w (plain_name c.args.name) c.args.sight c.in-Some.number.now _ _ _ c.requires c.row_numbers_of.ensures (sym c.in-Some.ensures) (c.rows_of.ensures w) (c.taken_at.ensures w)

pub returns-in-None : goal.returns-in-None
returns-in-None c = λ w. absurd (number_missing (plain_name c.args.name) c.args.sight _ c.requires c.row_numbers_of.ensures (sym c.in-None.ensures))
