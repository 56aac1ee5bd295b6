use Rattle.std.proofs.Common.{sym, ap}
use Rattle.py_outside.specs.PlainValues.{last_reading}
use Rattle.py_outside.proofs.Items.{items_of_none}
use Rattle.py_outside.proofs.value.last_reading.Goals as goal

pub returns-in-None : goal.returns-in-None
returns-in-None c = sym (ap last_reading (items_of_none _ c.in-None.ensures.cases))
