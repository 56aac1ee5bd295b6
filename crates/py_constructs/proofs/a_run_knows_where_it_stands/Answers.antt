use Rattle.py_constructs.proofs.OnWay.{start_law, step_law, own_step_law, halt_law, finish_law, early_law}
use Rattle.py_constructs.proofs.a_run_knows_where_it_stands.Goals as goal

pub returns : goal.returns
returns c = record { start = start_law; step = step_law; own_step = own_step_law; halt = halt_law; finish = finish_law; early = early_law }
