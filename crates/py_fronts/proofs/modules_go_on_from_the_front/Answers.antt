use Rattle.py_fronts.proofs.FrontsReached.{completion_law}
use Rattle.py_fronts.proofs.modules_go_on_from_the_front.Goals as goal

pub returns : goal.returns
returns c = record { law = completion_law }
