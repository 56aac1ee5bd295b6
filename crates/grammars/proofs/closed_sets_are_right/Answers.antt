use Rattle.grammars.proofs.Complete.{begins}
use Rattle.grammars.proofs.closed_sets_are_right.Goals as goal

pub returns : goal.returns
returns g c = record { law = begins }
