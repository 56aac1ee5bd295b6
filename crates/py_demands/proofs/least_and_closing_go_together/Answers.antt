use Rattle.py_demands.proofs.Paired.{paired_law}
use Rattle.py_demands.proofs.least_and_closing_go_together.Goals as goal

pub returns : goal.returns
returns c = record { law = paired_law }
