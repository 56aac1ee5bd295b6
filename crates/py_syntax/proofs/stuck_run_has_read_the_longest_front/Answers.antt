use Rattle.py_syntax.proofs.TableLaws.{stuck_at_longest_front}
use Rattle.py_syntax.proofs.stuck_run_has_read_the_longest_front.Goals as goal

pub returns : goal.returns
returns c = record { law = stuck_at_longest_front }
