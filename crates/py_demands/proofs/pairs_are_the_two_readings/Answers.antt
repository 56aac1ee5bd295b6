use Rattle.py_demands.proofs.TurnedPaired.{both_pairs_law}
use Rattle.py_demands.proofs.pairs_are_the_two_readings.Goals as goal

pub returns : goal.returns
returns c = record { law = both_pairs_law }
