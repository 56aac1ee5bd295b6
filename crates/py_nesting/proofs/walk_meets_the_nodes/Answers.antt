use Rattle.py_nesting.proofs.WalkCounts.{walk_counts}
use Rattle.py_nesting.proofs.walk_meets_the_nodes.Goals as goal

pub returns : goal.returns
returns c = record { law = walk_counts }
