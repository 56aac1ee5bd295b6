use Rattle.py_nesting.proofs.ShallowModules.{shallow_law}
use Rattle.py_nesting.proofs.shallow_where_no_place_is_too_deep.Goals as goal

pub returns : goal.returns
returns c = record { law = shallow_law }
