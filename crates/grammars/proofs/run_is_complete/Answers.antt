use Rattle.grammars.proofs.Complete.{complete}
use Rattle.grammars.proofs.run_is_complete.Goals as goal

pub returns : goal.returns
returns g c = record { law = complete }
