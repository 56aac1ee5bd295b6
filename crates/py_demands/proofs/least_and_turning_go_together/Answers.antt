use Rattle.py_demands.proofs.TurnedPaired.{turned_paired_law}
use Rattle.py_demands.proofs.least_and_turning_go_together.Goals as goal

pub returns : goal.returns
returns c = record { law = turned_paired_law }
