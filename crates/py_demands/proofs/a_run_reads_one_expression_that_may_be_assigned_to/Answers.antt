use Rattle.py_demands.proofs.ReadySteps.{ready_law}
use Rattle.py_demands.proofs.a_run_reads_one_expression_that_may_be_assigned_to.Goals as goal

pub returns : goal.returns
returns c = record { law = ready_law }
