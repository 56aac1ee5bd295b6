use Rattle.py_demands.proofs.Decided.{either_law}
use Rattle.py_demands.proofs.no_module_stands_less_deep_than_either_reading.Goals as goal

pub returns : goal.returns
returns c = record { law = either_law }
