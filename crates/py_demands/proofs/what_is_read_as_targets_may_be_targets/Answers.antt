use Rattle.py_demands.proofs.Lower.{turned_law}
use Rattle.py_demands.proofs.what_is_read_as_targets_may_be_targets.Goals as goal

pub returns : goal.returns
returns c = record { law = turned_law }
