use Rattle.py_demands.proofs.Items.{item_law}
use Rattle.py_demands.proofs.item_is_read_in_a_whole_or_among_targets.Goals as goal

pub returns : goal.returns
returns c = record { law = item_law }
