use Rattle.py_constructs.proofs.Standing.{once_law}
use Rattle.py_constructs.proofs.a_construct_stands_once.Goals as goal

pub returns : goal.returns
returns c = record { law = once_law }
