use Rattle.py_demands.proofs.Decided.{whole_law}
use Rattle.py_demands.proofs.what_is_no_target_is_read_as_a_whole.Goals as goal

pub returns : goal.returns
returns c = record { law = whole_law }
