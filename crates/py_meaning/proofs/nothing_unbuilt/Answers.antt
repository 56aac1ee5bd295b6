use Rattle.py_meaning.proofs.BuiltLaws.{nothing_unbuilt}
use Rattle.py_meaning.proofs.nothing_unbuilt.Goals as goal

pub returns : goal.returns
returns c = record { law = nothing_unbuilt }
