use Rattle.shed_base.proofs.NamesPlaced.{one_place}
use Rattle.shed_base.proofs.names.one_place.Goals as goal

pub returns : goal.returns
returns c = one_place
