use Rattle.py_demands.proofs.ShallowFronts.{shallow_front_law}
use Rattle.py_demands.proofs.a_front_is_shallow_by_computation.Goals as goal

pub returns : goal.returns
returns c = record { law = shallow_front_law }
