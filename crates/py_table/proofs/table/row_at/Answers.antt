use Rattle.std.proofs.Common.{sym}
use Rattle.py_table.proofs.Picked.{row_found, number_missing}
use Rattle.py_table.specs.PlainSymbols.{plain_nonterminal}
use Rattle.py_table.proofs.table.row_at.Goals as goal

pub returns-in-Some : goal.returns-in-Some
returns-in-Some c =
    row_found (plain_nonterminal c.args.nonterminal) c.args.sight c.in-Some.number.now _ _ _ c.requires c.row_numbers_of.ensures (sym c.in-Some.ensures)
    c.rows_of.ensures c.at-in-Some.ensures

pub returns-in-None : goal.returns-in-None
returns-in-None c =
    absurd (number_missing (plain_nonterminal c.args.nonterminal) c.args.sight _ c.requires c.row_numbers_of.ensures (sym c.in-None.ensures))
