use Rattle.py_demands.proofs.Decided.{both_law}
use Rattle.py_demands.proofs.no_module_stands_less_deep_than_both_readings.Goals as goal

pub returns : goal.returns
returns c = record { law = both_law }
