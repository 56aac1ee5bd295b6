use Rattle.py_demands.proofs.Lower.{lower_law}
use Rattle.py_demands.proofs.nodes_stand_as_deep_as_symbols_ask.Goals as goal

pub returns : goal.returns
returns c = record { law = lower_law }
