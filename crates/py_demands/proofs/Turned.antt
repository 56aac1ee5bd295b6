-- What is asked as targets may be targets: before an action where it is so behind it, and so in each module that begins with a front.
use Rattle.std.proofs.Common.{◌≡◌, List, [], ◌∷◌, ◌++◌, map, length, Some, None, inl, inr, ◌⊎◌, refl, sym, ap, ◌∙◌, subst, arith}
use Rattle.py_syntax.specs.Build.{Action, Drop}
use Rattle.py_nesting.specs.Outlines.{Event}
use Rattle.py_nesting.specs.Shapes.{TokenShape, Entry, entry}
use Rattle.py_nesting.specs.Effects.{effect, effect_of, effect_drop}
use Rattle.py_nesting.specs.Walk.{Demand, Nothing}
use Rattle.py_nesting.proofs.EffectsKept.{no_effect}
use Rattle.py_demands.specs.Roles.{asked_by, roles, asked_before}
use Rattle.py_demands.specs.Least.{Ask, ask_by, before_action}
use Rattle.py_demands.specs.Turned.{AreTurned}
use Rattle.py_demands.proofs.AsksKept.{drops_or_leaves}
use Rattle.py_demands.proofs.Made.{Leaves, made}
use Rattle.std.proofs.lemmas.List.{length-map}

none_turned : (es : List Entry) → AreTurned es []
none_turned [] = tt
none_turned (e ∷ es) = tt

turned_joined : (es fs : List Entry) (ds us : List Demand) → length es ≡ length ds → AreTurned es ds → AreTurned fs us → AreTurned (es ++ fs) (ds ++ us)
turned_joined [] fs [] us m h k = k
turned_joined [] fs (d ∷ ds) us m h k = absurd (omega arith)
turned_joined (e ∷ es) fs [] us m h k = absurd (omega arith)
turned_joined (e ∷ es) fs (d ∷ ds) us m h k = (h.0, turned_joined es fs ds us (omega arith) h.1 k)

none_before : (a : Action) → before_action a [] ≡ None → asked_before a [] ≡ []
none_before Drop h = absurd (cc)
none_before _ h = refl

turned_drop : (es new : List Entry) (events : List Event) (ds : List Demand) → effect_drop es ≡ Some (effect new events) → AreTurned new ds → AreTurned es (Nothing ∷ ds)
turned_drop (entry (TokenShape t) p ∷ es) new events ds e h = let is : es ≡ new = cc in (tt, subst (λ (l : List Entry). AreTurned l ds) (sym is) h)
turned_drop es new events ds e h = no_effect e

pub turned_before : (a : Action) (es new : List Entry) (events : List Event) (ds : List Demand) → effect_of a es ≡ Some (effect new events) → AreTurned new ds → AreTurned es (asked_before a ds)
turned_before a es new events ds e h = go (drops_or_leaves a) ds h
  where
    go : (a ≡ Drop) ⊎ (((d : Demand) (ds : List Demand) → asked_before a (d ∷ ds) ≡ map (asked_by d) (roles a) ++ ds)
        × ((q : Ask) (qs : List Ask) → before_action a (q ∷ qs) ≡ Some (map (ask_by q) (roles a) ++ qs)) × (before_action a [] ≡ None))
        → (ds : List Demand) → AreTurned new ds → AreTurned es (asked_before a ds)
    go (inl is) ds h =
        subst (λ (b : Action). AreTurned es (asked_before b ds)) (sym is) (turned_drop es new events ds (sym (ap (λ (b : Action). effect_of b es) is) ∙ e) h)
    go (inr (one, two, three)) [] h = subst (AreTurned es) (sym (none_before a three)) (none_turned es)
    go (inr (one, two, three)) (d ∷ ds) h =
        let m : Leaves a es new = made a es (effect new events) three e in
        let k : AreTurned (m.0 ∷ m.2) (d ∷ ds) = subst (λ (l : List Entry). AreTurned l (d ∷ ds)) m.4 h in
        subst (AreTurned es) (sym (one d ds))
        (subst (λ (l : List Entry). AreTurned l (map (asked_by d) (roles a) ++ ds)) (sym m.3)
        (turned_joined m.1 m.2 (map (asked_by d) (roles a)) ds (m.5 ∙ sym (length-map (roles a) (asked_by d))) (m.7 d k.0) k.1))
