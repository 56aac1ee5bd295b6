use Rattle.py_demands.proofs.Paired.{agreement_law}
use Rattle.py_demands.proofs.least_and_closing_agree_behind_a_front.Goals as goal

pub returns : goal.returns
returns c = record { law = agreement_law }
