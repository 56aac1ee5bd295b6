use Rattle.std.proofs.Common.{sym, ap}
use Rattle.py_constructs.specs.Values.{is_call_fresh}
use Rattle.py_outside.proofs.Items.{items_of_none}
use Rattle.py_outside.proofs.value.is_call_fresh.Goals as goal

pub returns-in-None : goal.returns-in-None
returns-in-None c = sym (ap is_call_fresh (items_of_none _ c.in-None.ensures.cases))
