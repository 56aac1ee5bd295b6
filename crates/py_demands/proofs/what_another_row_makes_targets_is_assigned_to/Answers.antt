use Rattle.py_demands.proofs.Turning.{other_row_law}
use Rattle.py_demands.proofs.what_another_row_makes_targets_is_assigned_to.Goals as goal

pub returns : goal.returns
returns c = record { law = other_row_law }
