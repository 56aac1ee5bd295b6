use Rattle.py_syntax.proofs.TableLaws.{run_builds_tree}
use Rattle.py_syntax.proofs.finished_run_has_built_the_tree.Goals as goal

pub returns : goal.returns
returns c = record { law = run_builds_tree }
