use Rattle.grammars.proofs.Alike.{runs_agree}
use Rattle.grammars.proofs.runs_keep_what_actions_keep.Goals as goal

pub returns : goal.returns
returns g c = record { law = λ G H S a. runs_agree G H g.C.Correspondence.stands S a }
