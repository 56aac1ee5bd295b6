use Rattle.py_demands.proofs.ReadingsLow.{reading_law}
use Rattle.py_demands.proofs.a_module_stands_no_less_deep_than_a_reading.Goals as goal

pub returns : goal.returns
returns c = record { law = reading_law }
