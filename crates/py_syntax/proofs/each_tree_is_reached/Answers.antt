use Rattle.py_syntax.proofs.TableLaws.{tree_is_reached}
use Rattle.py_syntax.proofs.each_tree_is_reached.Goals as goal

pub returns : goal.returns
returns c = record { law = tree_is_reached }
