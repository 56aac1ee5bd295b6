use Rattle.py_syntax.proofs.TableLaws.{one_tree}
use Rattle.py_syntax.proofs.tokens_have_one_tree.Goals as goal

pub returns : goal.returns
returns c = record { law = one_tree }
