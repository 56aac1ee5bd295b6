use Rattle.py_demands.proofs.BothFound.{both_found_law}
use Rattle.py_demands.proofs.the_first_node_too_deep_in_both_readings_is_found_by_tokens.Goals as goal

pub returns : goal.returns
returns c = record { law = both_found_law }
