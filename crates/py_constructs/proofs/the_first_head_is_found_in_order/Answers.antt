use Rattle.py_constructs.proofs.Searched.{next_law, last_law}
use Rattle.py_constructs.proofs.the_first_head_is_found_in_order.Goals as goal

pub returns : goal.returns
returns c = record { next = next_law; last = last_law }
