use Rattle.py_demands.proofs.ReadItems.{reached_read_law}
use Rattle.py_demands.proofs.a_reading_with_targets_is_that_of_a_module.Goals as goal

pub returns : goal.returns
returns c = record { law = reached_read_law }
