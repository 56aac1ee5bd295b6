use Rattle.std.proofs.Common.{sym, ap}
use Rattle.py_nesting.specs.Asked.{target_last}
use Rattle.py_depth.proofs.Stacks.{entries_of-none}
use Rattle.py_depth.proofs.depth.is_target_last.Goals as goal

pub returns-in-None : goal.returns-in-None
returns-in-None c = sym (ap target_last (entries_of-none _ c.in-None.ensures.cases))
