use Rattle.std.proofs.Common.{sym, ap, ◌∙◌, refl}
use Rattle.std.specs.Option.{option_copied}
use Rattle.py_front_depth.proofs.NotedDepths.{depth_got, none_got}
use Rattle.py_front_depth.proofs.depths.depth_noted.Goals as goal

pub returns-in-Some : goal.returns-in-Some
returns-in-Some c = depth_got _ (λ p q. refl) c.args.depths.now.entries c.args.place c.in-Some.depth.now (sym c.get.ensures.value ∙ ap option_copied c.in-Some.is)

pub returns-in-None : goal.returns-in-None
returns-in-None c = none_got _ (λ p q. refl) c.args.depths.now.entries c.args.place (sym c.get.ensures.value ∙ ap option_copied c.in-None.is)
