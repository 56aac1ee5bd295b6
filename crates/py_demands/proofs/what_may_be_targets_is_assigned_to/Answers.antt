use Rattle.py_demands.proofs.Turning.{turning_law}
use Rattle.py_demands.proofs.what_may_be_targets_is_assigned_to.Goals as goal

pub returns : goal.returns
returns c = record { law = turning_law }
