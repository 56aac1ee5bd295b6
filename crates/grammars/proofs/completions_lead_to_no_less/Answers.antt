use Rattle.grammars.proofs.Least.{forced}
use Rattle.grammars.proofs.completions_lead_to_no_less.Goals as goal

pub returns : goal.returns
returns g c = record { law = forced g.O.Order.at_most }
