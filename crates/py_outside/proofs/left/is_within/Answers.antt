use Rattle.std.proofs.Common.{sym, ap}
use Rattle.py_constructs.specs.Values.{is_within}
use Rattle.py_outside.proofs.Levels.{levels_of_none}
use Rattle.py_outside.proofs.left.is_within.Goals as goal

pub returns-in-None : goal.returns-in-None
returns-in-None c = sym (ap is_within (levels_of_none _ c.in-None.ensures.cases))
