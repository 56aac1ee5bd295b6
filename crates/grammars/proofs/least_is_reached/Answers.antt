use Rattle.grammars.proofs.Least.{reached}
use Rattle.grammars.proofs.least_is_reached.Goals as goal

pub returns : goal.returns
returns g c = record { law = reached }
