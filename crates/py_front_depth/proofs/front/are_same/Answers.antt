use Rattle.std.proofs.Common.{◌≡◌, true, ap, sym, ◌∙◌, refl, eqb-true}
use Rattle.py_depth.specs.contracts.walk.DemandPartialEq.TheImpl.{ghosts}
use Rattle.py_depth.specs.declared.walk.Demand.{Demand}
use Rattle.py_depth.specs.declared.walk.Demand.TheVariants as demand
use Rattle.py_front_depth.proofs.FrontDecided.{same_all}
use Rattle.py_front_depth.proofs.front.are_same.Goals as goal

sound : (a b : Demand) → ghosts.eq a b ≡ true → a ≡ b
sound demand.Nothing demand.Nothing h = refl
sound (demand.Whole m) (demand.Whole n) h = ap demand.Whole (eqb-true m n h)
sound (demand.Inside m) (demand.Inside n) h = ap demand.Inside (eqb-true m n h)
sound (demand.Assigned m) (demand.Assigned n) h = ap demand.Assigned (eqb-true m n h)
sound (demand.InsideAssigned m) (demand.InsideAssigned n) h = ap demand.InsideAssigned (eqb-true m n h)
sound a b h = absurd (cc)

pub returns : goal.returns
returns c h = same_all _ sound c.args.demands.now c.args.others.now (sym c.eq.ensures ∙ h)
