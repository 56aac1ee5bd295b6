use Rattle.py_fronts.proofs.DerivedFit.{fit_law}
use Rattle.py_fronts.proofs.fitting_symbols_put_outlines_together.Goals as goal

pub returns : goal.returns
returns c = record { law = fit_law }
