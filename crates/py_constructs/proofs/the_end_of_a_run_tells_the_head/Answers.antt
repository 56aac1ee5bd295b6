use Rattle.py_constructs.proofs.Trial.{end_law}
use Rattle.py_constructs.proofs.the_end_of_a_run_tells_the_head.Goals as goal

pub returns : goal.returns
returns c = record { law = end_law }
