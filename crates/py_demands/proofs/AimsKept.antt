-- What is aimed at behind an action is aimed at before it, and no less where more is asked.
use Rattle.std.proofs.Common.{◌≡◌, ℕ, suc, Bool, true, false, if◌then◌else◌, List, [], ◌∷◌, ◌++◌, map, length, Some, None, ◌⊎◌, inl, inr, refl, sym, ap, ◌∙◌, subst, arith}
use Rattle.grammars.proofs.Bools.{and_left, and_right}
use Rattle.py_syntax.specs.Build.{Action, Drop}
use Rattle.py_nesting.specs.Asked.{target_last}
use Rattle.py_nesting.specs.Outlines.{Event}
use Rattle.py_nesting.specs.Shapes.{TokenShape, Entry, entry}
use Rattle.py_nesting.specs.Effects.{effect, effect_of, effect_drop}
use Rattle.py_nesting.specs.Walk.{Demand, Nothing, Whole, Assigned}
use Rattle.py_nesting.proofs.EffectsKept.{no_effect}
use Rattle.py_demands.specs.Roles.{Role, asked_by, roles, asked_before}
use Rattle.py_demands.specs.Least.{NoNode, AtLeast, OpenAtLeast, before_action}
use Rattle.py_demands.specs.AtMost.{AtMost}
use Rattle.py_demands.specs.Aims.{Aim, Simply, Targets, Target, MayTarget, Never, makes_target, made_by, aim_by, aims_by}
use Rattle.py_demands.specs.Aimed.{IsTarget, IsAimed, AreAimed}
use Rattle.py_demands.proofs.AsksKept.{role_kept, no_more_so}
use Rattle.py_demands.proofs.RowsAimed.{aims_no_more, all_aim_no_more}
use Rattle.py_demands.proofs.Made.{Leaves, made}
use Rattle.std.proofs.lemmas.Option.{same_Some}

-- only one action leaves nothing
pub drops_or_aims : (a : Action) → (a ≡ Drop)
    ⊎ (((d : Demand) (ds : List Demand) → asked_before a (d ∷ ds) ≡ map (asked_by d) (roles a) ++ ds)
    × ((aim : Aim) (aims : List Aim) → aims_by a (aim ∷ aims) ≡ Some (map (aim_by (made_by a aim)) (roles a) ++ aims)) × (aims_by a [] ≡ None) × (before_action a [] ≡ None))
drops_or_aims Drop = inl refl
drops_or_aims _ = inr ((λ d ds. refl), (λ aim aims. refl), refl, refl)

one_less : (n : ℕ) (d : Demand) → AtMost (AtLeast (suc n)) d → AtMost (AtLeast n) d
one_less n Nothing h = tt
one_less n (Whole m) h = omega arith
one_less n d h = absurd h

-- whatever the form
abbrev IsSimply : Aim → Demand → Type 0
IsSimply (Simply q) d = AtMost q d
IsSimply aim d = ⊥

target_made : (b : Bool) (n : ℕ) (e : Entry) (d : Demand) → (b ≡ false → target_last (e ∷ []) ≡ false) → IsTarget n e d → IsSimply (if b then Simply (AtLeast n) else Never) d
target_made true n e d f h = h.0
target_made false n e d f h = let no : true ≡ false = sym h.1 ∙ f refl in absurd (cc)

may_made : (b : Bool) (n : ℕ) (e : Entry) (d : Demand) → (b ≡ false → target_last (e ∷ []) ≡ false) → IsTarget n e d ⊎ AtMost (AtLeast (suc n)) d
    → IsSimply (if b then Simply (AtLeast n) else Simply (AtLeast (suc n))) d
may_made true n e d f (inl h) = h.0
may_made true n e d f (inr h) = one_less n d h
may_made false n e d f (inl h) = let no : true ≡ false = sym h.1 ∙ f refl in absurd (cc)
may_made false n e d f (inr h) = h

opened_simply : (n : ℕ) (e : Entry) (d : Demand) → IsAimed (Targets n) e d → AtMost (OpenAtLeast n) d
opened_simply n e (Assigned m) h = h.0
opened_simply n e d h = absurd h

made_aimed : (a : Action) (aim : Aim) (e : Entry) (d : Demand) → (makes_target a ≡ false → target_last (e ∷ []) ≡ false) → IsAimed aim e d → IsSimply (made_by a aim) d
made_aimed a (Simply q) e d f h = h
made_aimed a (Targets n) e d f h = opened_simply n e d h
made_aimed a (Target n) e d f h = target_made (makes_target a) n e d f h
made_aimed a (MayTarget n) e d f h = may_made (makes_target a) n e d f h
made_aimed a Never e d f h = absurd h

roles_aimed : (aim : Aim) (d : Demand) (these : List Role) (taken es : List Entry) (ds : List Demand) (aims : List Aim) → IsSimply aim d → length taken ≡ length these → AreAimed aims es ds
    → AreAimed (map (aim_by aim) these ++ aims) (taken ++ es) (map (asked_by d) these ++ ds)
roles_aimed (Simply q) d [] [] es ds aims h m k = k
roles_aimed (Simply q) d [] (e ∷ taken) es ds aims h m k = absurd (omega arith)
roles_aimed (Simply q) d (role ∷ these) [] es ds aims h m k = absurd (omega arith)
roles_aimed (Simply q) d (role ∷ these) (e ∷ taken) es ds aims h m k = (role_kept role q d h, roles_aimed (Simply q) d these taken es ds aims h (omega arith) k)
roles_aimed (Targets n) d these taken es ds aims h m k = absurd h
roles_aimed (Target n) d these taken es ds aims h m k = absurd h
roles_aimed (MayTarget n) d these taken es ds aims h m k = absurd h
roles_aimed Never d these taken es ds aims h m k = absurd h

aimed_drop : (es new : List Entry) (events : List Event) (ds : List Demand) (aims : List Aim) → effect_drop es ≡ Some (effect new events) → AreAimed aims new ds
    → AreAimed (Simply NoNode ∷ aims) es (Nothing ∷ ds)
aimed_drop (entry (TokenShape t) p ∷ es) new events ds aims e h = let is : es ≡ new = cc in (tt, subst (λ (l : List Entry). AreAimed aims l ds) (sym is) h)
aimed_drop es new events ds aims e h = no_effect e

pub action_aimed : (a : Action) (es new : List Entry) (events : List Event) (ds : List Demand) (aims others : List Aim) → effect_of a es ≡ Some (effect new events) → aims_by a aims ≡ Some others
    → AreAimed aims new ds → AreAimed others es (asked_before a ds)
action_aimed a es new events ds aims others e f h = go (drops_or_aims a) aims ds f h
  where
    go : (a ≡ Drop) ⊎ (((d : Demand) (ds : List Demand) → asked_before a (d ∷ ds) ≡ map (asked_by d) (roles a) ++ ds)
        × ((aim : Aim) (aims : List Aim) → aims_by a (aim ∷ aims) ≡ Some (map (aim_by (made_by a aim)) (roles a) ++ aims)) × (aims_by a [] ≡ None) × (before_action a [] ≡ None))
        → (aims : List Aim) (ds : List Demand) → aims_by a aims ≡ Some others → AreAimed aims new ds → AreAimed others es (asked_before a ds)
    go (inl is) aims ds f h =
        let same : Simply NoNode ∷ aims ≡ others = same_Some (Simply NoNode ∷ aims) others (sym (ap (λ (b : Action). aims_by b aims) is) ∙ f) in
        subst (λ (b : Action). AreAimed others es (asked_before b ds)) (sym is)
        (subst (λ (l : List Aim). AreAimed l es (Nothing ∷ ds)) same (aimed_drop es new events ds aims (sym (ap (λ (b : Action). effect_of b es) is) ∙ e) h))
    go (inr (one, two, three, four)) [] ds f h = let none : None ≡ Some others = sym three ∙ f in absurd (cc)
    go (inr (one, two, three, four)) (aim ∷ aims) [] f h = absurd (no_demand aim aims new h)
      where
        no_demand : (aim : Aim) (aims : List Aim) (es : List Entry) → AreAimed (aim ∷ aims) es [] → ⊥
        no_demand aim aims [] h = h
        no_demand aim aims (e ∷ es) h = h
    go (inr (one, two, three, four)) (aim ∷ aims) (d ∷ ds) f h =
        let m : Leaves a es new = made a es (effect new events) four e in
        let k : AreAimed (aim ∷ aims) (m.0 ∷ m.2) (d ∷ ds) = subst (λ (l : List Entry). AreAimed (aim ∷ aims) l (d ∷ ds)) m.4 h in
        let same : map (aim_by (made_by a aim)) (roles a) ++ aims ≡ others = same_Some _ others (sym (two aim aims) ∙ f) in
        subst (AreAimed others es) (sym (one d ds))
        (subst (λ (l : List Aim). AreAimed l es (map (asked_by d) (roles a) ++ ds)) same
        (subst (λ (l : List Entry). AreAimed (map (aim_by (made_by a aim)) (roles a) ++ aims) l (map (asked_by d) (roles a) ++ ds)) (sym m.3)
        (roles_aimed (made_by a aim) d (roles a) m.1 m.2 ds aims (made_aimed a aim m.0 d m.6 k.0) m.5 k.1)))

aim_no_more_so : (q r : Aim) (e : Entry) (d : Demand) → aims_no_more q r ≡ true → IsAimed r e d → IsAimed q e d
aim_no_more_so q Never e d h k = absurd k
aim_no_more_so (Simply q) (Simply r) e d h k = no_more_so q r d h k
aim_no_more_so (Simply q) (Target n) e d h k = no_more_so q (AtLeast n) d h k.0
aim_no_more_so (Simply q) (MayTarget n) e d h (inl k) = no_more_so q (AtLeast n) d h k.0
aim_no_more_so (Simply q) (MayTarget n) e d h (inr k) = no_more_so q (AtLeast n) d h (one_less n d k)
aim_no_more_so (Target m) (Target n) e d h k = (no_more_so (AtLeast m) (AtLeast n) d h k.0, k.1)
aim_no_more_so (MayTarget m) (Target n) e d h k = inl (no_more_so (AtLeast m) (AtLeast n) d h k.0, k.1)
aim_no_more_so (MayTarget m) (MayTarget n) e d h (inl k) = inl (no_more_so (AtLeast m) (AtLeast n) d h k.0, k.1)
aim_no_more_so (MayTarget m) (MayTarget n) e d h (inr k) = inr (no_more_so (AtLeast (suc m)) (AtLeast (suc n)) d h k)
aim_no_more_so (MayTarget m) (Simply r) e d h k = inr (no_more_so (AtLeast (suc m)) r d h k)
aim_no_more_so q r e d h k = absurd (cc)

pub no_more_aimed : (qs rs cs : List Aim) (es : List Entry) (ds : List Demand) → all_aim_no_more qs rs ≡ true → AreAimed (rs ++ cs) es ds → AreAimed (qs ++ cs) es ds
no_more_aimed [] [] cs es ds h k = k
no_more_aimed [] (r ∷ rs) cs es ds h k = absurd (cc)
no_more_aimed (q ∷ qs) [] cs es ds h k = absurd (cc)
no_more_aimed (q ∷ qs) (r ∷ rs) cs [] ds h k = absurd k
no_more_aimed (q ∷ qs) (r ∷ rs) cs (e ∷ es) [] h k = absurd k
no_more_aimed (q ∷ qs) (r ∷ rs) cs (e ∷ es) (d ∷ ds) h k =
    (aim_no_more_so q r e d (and_left (aims_no_more q r) (all_aim_no_more qs rs) h) k.0, no_more_aimed qs rs cs es ds (and_right (aims_no_more q r) (all_aim_no_more qs rs) h) k.1)
