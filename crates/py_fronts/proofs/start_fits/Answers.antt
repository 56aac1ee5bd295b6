use Rattle.py_fronts.proofs.DerivedFit.{start_law}
use Rattle.py_fronts.proofs.start_fits.Goals as goal

pub returns : goal.returns
returns c = record { law = start_law }
