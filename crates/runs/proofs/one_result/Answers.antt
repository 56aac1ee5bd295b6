use Rattle.runs.proofs.OneResult.{one_result}
use Rattle.runs.proofs.one_result.Goals as goal

pub returns : goal.returns
returns g c = one_result
