-- Events that come later are taken after the others.
use Rattle.std.proofs.Common.{◌≡◌, List, [], ◌∷◌, ◌++◌, refl, ap}
use Rattle.py_nesting.specs.Outlines.{Event, after, built}
use Rattle.py_nesting.specs.Effects.{after_all}

pub built_more : (more events : List Event) → built (more ++ events) ≡ after_all more (built events)
built_more [] events = refl
built_more (e ∷ more) events = ap (after e) (built_more more events)
