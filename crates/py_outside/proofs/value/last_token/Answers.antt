use Rattle.std.proofs.Common.{sym, ap, ◌∙◌}
use Rattle.py_constructs.specs.Values.{last_token}
use Rattle.py_outside.proofs.Items.{items_of_none}
use Rattle.py_outside.proofs.value.last_token.Goals as goal

pub returns : goal.returns
returns c = sym (ap last_token (items_of_none c.loop-last.rest.now (rw c.in_default.is at c.split_last.ensures.cases))) ∙ c.loop-last.invariant
