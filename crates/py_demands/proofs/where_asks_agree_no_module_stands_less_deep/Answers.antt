use Rattle.py_demands.proofs.Agreed.{least_law}
use Rattle.py_demands.proofs.where_asks_agree_no_module_stands_less_deep.Goals as goal

pub returns : goal.returns
returns c = record { law = least_law }
