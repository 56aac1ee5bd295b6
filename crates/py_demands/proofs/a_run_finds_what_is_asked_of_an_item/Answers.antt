use Rattle.py_demands.proofs.ItemSteps.{item_steps_law}
use Rattle.py_demands.proofs.a_run_finds_what_is_asked_of_an_item.Goals as goal

pub returns : goal.returns
returns c = record { law = item_steps_law }
