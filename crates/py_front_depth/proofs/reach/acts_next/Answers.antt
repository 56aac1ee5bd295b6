use Rattle.std.proofs.Common.{sym, ap}
use Rattle.py_demands.specs.Readings.{acts_first}
use Rattle.py_front_depth.proofs.Stacks.{stack_of-none}
use Rattle.py_front_depth.proofs.reach.acts_next.Goals as goal

pub returns-in-None : goal.returns-in-None
returns-in-None c = sym (ap acts_first (stack_of-none _ c.in-None.ensures.cases))
