use Rattle.grammars.proofs.Longest.{longest}
use Rattle.grammars.proofs.stuck_run_has_longest_front.Goals as goal

pub returns : goal.returns
returns g c = record { law = longest }
