use Rattle.grammars.proofs.Completions.{completable}
use Rattle.grammars.proofs.symbols_derive_something.Goals as goal

pub returns : goal.returns
returns g c = record { law = completable }
