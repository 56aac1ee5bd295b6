use Rattle.std.proofs.Common.{sym, ap}
use Rattle.py_constructs.specs.Values.{are_open_targets}
use Rattle.py_outside.proofs.Items.{items_of_none}
use Rattle.py_outside.proofs.value.are_open_targets.Goals as goal

pub returns-in-None : goal.returns-in-None
returns-in-None c = sym (ap are_open_targets (items_of_none _ c.in-None.ensures.cases))
