use Rattle.py_nesting.proofs.OutlinesCount.{outline_law}
use Rattle.py_nesting.proofs.outline_has_the_depths.Goals as goal

pub returns : goal.returns
returns c = record { law = outline_law }
