use Rattle.grammars.proofs.Complete.{one_value}
use Rattle.grammars.proofs.sentence_has_one_value.Goals as goal

pub returns : goal.returns
returns g c = record { law = one_value }
