use Rattle.py_constructs.proofs.Standing.{told_law}
use Rattle.py_constructs.proofs.a_construct_stands_where_it_is_told.Goals as goal

pub returns : goal.returns
returns c = record { law = told_law }
