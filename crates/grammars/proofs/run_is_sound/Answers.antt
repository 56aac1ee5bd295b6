use Rattle.grammars.proofs.Sound.{sound}
use Rattle.grammars.proofs.run_is_sound.Goals as goal

pub returns : goal.returns
returns g c = record { law = sound }
