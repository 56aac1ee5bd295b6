use Rattle.std.proofs.Common.{◌≡◌, map, drop}
use Rattle.py_constructs.specs.Table.{additions, widening_of}
use Rattle.py_outside.specs.PlainConstructs.{plain_construct}
use Rattle.py_outside.specs.PlainSymbols.{plain_added}
use Rattle.py_outside.specs.Sights.{first_added, spread}
use Rattle.py_table.specs.Sights.{sight_numbered}
use Rattle.py_outside.proofs.table.added_row.Given as goal

-- none of those before is it
abbrev pub invariant-loop-row : goal.invariant-loop-row
invariant-loop-row l =
    first_added l.number (sight_numbered l.sight) (map (plain_added (widening_of (additions (plain_construct l.fn.construct)))) (drop l.row-index l.added))
    ≡ first_added l.number (sight_numbered l.sight) (spread (additions (plain_construct l.fn.construct)))
