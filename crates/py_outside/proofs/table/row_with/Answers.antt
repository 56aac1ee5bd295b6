use Rattle.std.proofs.Common.{sym, ◌∙◌}
use Rattle.py_outside.proofs.Picked.{own_taken, added_taken}
use Rattle.py_constructs.specs.Table.{widening_of}
use Rattle.py_outside.specs.PlainConstructs.{additions_of}
use Rattle.py_outside.specs.PlainSymbols.{plain_name, plain_taken}
use Rattle.py_table.specs.Sights.{sight_numbered}
use Rattle.py_outside.proofs.table.row_with.Goals as goal

pub returns-in-Some : goal.returns-in-Some
returns-in-Some c =
    sym (own_taken (additions_of c.args.construct) (plain_name c.args.name) (sight_numbered c.args.sight) (plain_taken (widening_of (additions_of c.args.construct)) c.in-Some.row) (sym (rw c.in-Some.is at c.own_row.ensures (widening_of (additions_of c.args.construct)))))

pub returns-in-None : goal.returns-in-None
returns-in-None c =
    c.row_added.ensures ∙ sym (added_taken (additions_of c.args.construct) (plain_name c.args.name) (sight_numbered c.args.sight) (sym (rw c.in-None.is at c.own_row.ensures (widening_of (additions_of c.args.construct)))))
