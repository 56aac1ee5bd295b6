use Rattle.py_nesting.proofs.EffectsKept.{effects_kept}
use Rattle.py_nesting.proofs.effects_are_those_of_actions.Goals as goal

pub returns : goal.returns
returns c = record { law = effects_kept }
