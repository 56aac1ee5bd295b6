use Rattle.std.proofs.Common.{List, sym, ap}
use Rattle.py_constructs.specs.Values.{Item, less, head_of_last}
use Rattle.py_outside.proofs.Items.{items_of_none}
use Rattle.py_outside.proofs.value.head_before_last.Goals as goal

pub returns-in-None : goal.returns-in-None
returns-in-None c = sym (ap (λ (l : List Item). head_of_last (less 1 l)) (items_of_none _ c.in-None.ensures.cases))
