use Rattle.std.proofs.Common.{sym, ap, ◌∙◌}
use Rattle.py_constructs.specs.Values.{are_open}
use Rattle.py_outside.proofs.Items.{items_of_none}
use Rattle.py_outside.proofs.value.are_open.Goals as goal

pub returns : goal.returns
returns c = sym (ap are_open (items_of_none c.loop-last.rest.now (rw c.in_default.is at c.split_last.ensures.cases))) ∙ c.loop-last.invariant
