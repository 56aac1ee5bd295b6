use Rattle.py_constructs.proofs.Standing.{stuck_law}
use Rattle.py_constructs.proofs.a_construct_stands_nowhere_where_its_run_is_stuck.Goals as goal

pub returns : goal.returns
returns c = record { law = stuck_law }
