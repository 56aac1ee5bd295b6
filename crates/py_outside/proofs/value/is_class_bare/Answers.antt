use Rattle.std.proofs.Common.{sym, ap}
use Rattle.py_constructs.specs.Values.{is_class_bare}
use Rattle.py_outside.proofs.Items.{items_of_none}
use Rattle.py_outside.proofs.value.is_class_bare.Goals as goal

pub returns-in-None : goal.returns-in-None
returns-in-None c = sym (ap is_class_bare (items_of_none _ c.in-None.ensures.cases))
