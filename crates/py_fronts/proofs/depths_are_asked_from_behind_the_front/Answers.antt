use Rattle.py_fronts.proofs.DepthsGo.{depth_law}
use Rattle.py_fronts.proofs.depths_are_asked_from_behind_the_front.Goals as goal

pub returns : goal.returns
returns c = record { law = depth_law }
