use Rattle.py_parser.proofs.Shallow.{shallow}
use Rattle.py_parser.proofs.parser.parse.Goals as goal

pub returns-clause-tree : goal.returns-clause-tree
returns-clause-tree c = (c.in_ok-module.ensures, shallow _ c.in_ok-recognise.ensures.recognised _ c.in_ok-module.ensures)
