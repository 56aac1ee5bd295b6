use Rattle.py_demands.proofs.Steps.{steps_law}
use Rattle.py_demands.proofs.a_run_finds_what_is_asked.Goals as goal

pub returns : goal.returns
returns c = record { law = steps_law }
