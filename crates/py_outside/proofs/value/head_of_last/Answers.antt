use Rattle.std.proofs.Common.{sym, ap}
use Rattle.py_constructs.specs.Values.{head_of_last}
use Rattle.py_outside.proofs.Items.{items_of_none}
use Rattle.py_outside.proofs.value.head_of_last.Goals as goal

pub returns-in-None : goal.returns-in-None
returns-in-None c = sym (ap head_of_last (items_of_none _ c.in-None.ensures.cases))
