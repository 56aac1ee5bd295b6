use Rattle.shed_base.proofs.NamesPlaced.{kept_place}
use Rattle.shed_base.proofs.names.kept_place.Goals as goal

pub returns : goal.returns
returns c = kept_place
