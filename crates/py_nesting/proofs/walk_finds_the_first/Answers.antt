use Rattle.py_nesting.proofs.FirstFound.{first_law}
use Rattle.py_nesting.proofs.walk_finds_the_first.Goals as goal

pub returns : goal.returns
returns c = record { law = first_law }
