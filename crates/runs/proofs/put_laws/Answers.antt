use Rattle.runs.proofs.FiniteMaps.{put_laws}
use Rattle.runs.proofs.put_laws.Goals as goal

pub returns : goal.returns
returns g c = put_laws
