use Rattle.py_demands.proofs.BothFirst.{both_first_law}
use Rattle.py_demands.proofs.the_first_node_too_deep_in_both_readings_is_met.Goals as goal

pub returns : goal.returns
returns c = record { law = both_first_law }
