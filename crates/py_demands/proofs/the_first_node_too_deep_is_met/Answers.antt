use Rattle.py_demands.proofs.FrontFirst.{first_in_front}
use Rattle.py_demands.proofs.the_first_node_too_deep_is_met.Goals as goal

pub returns : goal.returns
returns c = record { law = first_in_front }
