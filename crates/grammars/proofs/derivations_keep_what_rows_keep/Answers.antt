use Rattle.grammars.proofs.Chains.{chain_of}
use Rattle.grammars.proofs.derivations_keep_what_rows_keep.Goals as goal

pub returns : goal.returns
returns g c = record { law = λ G k. chain_of G g.R.Reading.means k }
