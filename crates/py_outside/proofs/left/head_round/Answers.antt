use Rattle.std.proofs.Common.{sym, ap}
use Rattle.py_constructs.specs.Values.{head_round}
use Rattle.py_outside.proofs.Levels.{levels_of_none}
use Rattle.py_outside.proofs.left.head_round.Goals as goal

pub returns-in-None : goal.returns-in-None
returns-in-None c = sym (ap head_round (levels_of_none _ c.in-None.ensures.cases))
