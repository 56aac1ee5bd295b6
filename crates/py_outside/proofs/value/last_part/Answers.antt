use Rattle.std.proofs.Common.{sym, ap}
use Rattle.py_constructs.specs.Values.{last_part}
use Rattle.py_outside.proofs.Items.{items_of_none}
use Rattle.py_outside.proofs.value.last_part.Goals as goal

pub returns-in-None : goal.returns-in-None
returns-in-None c = sym (ap last_part (items_of_none _ c.in-None.ensures.cases))
