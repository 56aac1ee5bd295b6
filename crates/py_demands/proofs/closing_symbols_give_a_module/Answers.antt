use Rattle.py_demands.proofs.Ways.{closing_law}
use Rattle.py_demands.proofs.closing_symbols_give_a_module.Goals as goal

pub returns : goal.returns
returns c = record { law = closing_law }
