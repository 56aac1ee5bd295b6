use Rattle.py_demands.proofs.OrderedFronts.{apart_and_in_order}
use Rattle.py_demands.proofs.tokens_in_order_are_apart.Goals as goal

pub returns : goal.returns
returns c = record { law = apart_and_in_order }
