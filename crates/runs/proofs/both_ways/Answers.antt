use Rattle.runs.proofs.OneResult.{both_ways}
use Rattle.runs.proofs.both_ways.Goals as goal

pub returns : goal.returns
returns g c = both_ways
