use Rattle.py_demands.proofs.Paired.{steady_law}
use Rattle.py_demands.proofs.a_target_has_the_same_nodes.Goals as goal

pub returns : goal.returns
returns c = record { law = steady_law }
