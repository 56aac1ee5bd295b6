-- What asks no more than something still does after it was changed.
use Rattle.std.proofs.Common.{◌≡◌, ℕ, zero, suc, ◌≤◌, true, List, [], ◌∷◌, ◌++◌, map, Some, None, ◌⊎◌, inl, inr, refl, sym, ap, ◌∙◌, subst, arith}
use Rattle.grammars.proofs.Bools.{and_left, and_right}
use Rattle.py_syntax.specs.Build.{Action, Drop}
use Rattle.py_nesting.specs.Outlines.{Label, Plain, Bracket, Tuple}
use Rattle.py_nesting.specs.Walk.{Demand, Nothing, Whole, Inside, Assigned, comes}
use Rattle.py_demands.specs.Roles.{Change, Below, Apart, Loose, Turned, Role, Lost, Head, Through, changed, all_changed, at_token, asked_by, roles, asked_before}
use Rattle.py_demands.specs.Least.{Ask, NoNode, AtLeast, WithinAtLeast, OpenAtLeast, ask_changed, ask_all_changed, ask_by, ask_head, before_action, is_below, asks_no_more, ask_no_more}
use Rattle.py_demands.specs.AtMost.{AtMost, AreAtMost}
use Rattle.std.proofs.lemmas.Option.{same_Some}

change_kept : (c : Change) (q : Ask) (d : Demand) → AtMost q d → AtMost (ask_changed c q) (changed c d)
change_kept (Below l) q Nothing h = tt
change_kept (Below Plain) (AtLeast m) (Whole n) h = (omega arith)
change_kept (Below Bracket) (AtLeast m) (Whole n) h = (omega arith)
change_kept (Below Tuple) (AtLeast m) (Whole n) h = (omega arith)
change_kept (Below Plain) (WithinAtLeast m) (Inside n) h = h
change_kept (Below Bracket) (WithinAtLeast m) (Inside n) h = h
change_kept (Below Tuple) (WithinAtLeast m) (Inside n) h = h
change_kept (Below Plain) (OpenAtLeast m) (Whole n) h = (omega arith)
change_kept (Below Bracket) (OpenAtLeast m) (Whole n) h = (omega arith)
change_kept (Below Tuple) (OpenAtLeast m) (Whole n) h = (omega arith)
change_kept (Below Plain) (OpenAtLeast m) (Assigned n) h = (omega arith)
change_kept (Below Bracket) (OpenAtLeast m) (Assigned n) h = (omega arith)
change_kept (Below Tuple) (OpenAtLeast m) (Assigned n) h = h
change_kept Apart q Nothing h = tt
change_kept Apart (AtLeast m) (Whole n) h = h
change_kept Apart (WithinAtLeast m) (Inside n) h = h
change_kept Apart (OpenAtLeast m) (Whole n) h = h
change_kept Apart (OpenAtLeast m) (Assigned n) h = h
change_kept Loose q Nothing h = tt
change_kept Loose (AtLeast m) (Whole n) h = h
change_kept Loose (WithinAtLeast m) (Inside n) h = h
change_kept Loose (OpenAtLeast m) (Whole n) h = h
change_kept Loose (OpenAtLeast m) (Assigned n) h = h
change_kept Turned q Nothing h = tt
change_kept Turned (AtLeast m) (Whole n) h = h
change_kept Turned (WithinAtLeast m) (Inside n) h = h
change_kept Turned (OpenAtLeast m) (Whole n) h = h
change_kept Turned (OpenAtLeast m) (Assigned n) h = h
change_kept c q d h = absurd h

changes_kept : (changes : List Change) (q : Ask) (d : Demand) → AtMost q d → AtMost (ask_all_changed changes q) (all_changed changes d)
changes_kept [] q d h = h
changes_kept (c ∷ changes) q d h = changes_kept changes (ask_changed c q) (changed c d) (change_kept c q d h)

head_kept : (l : Label) (q : Ask) (d : Demand) → AtMost q d → AtMost (ask_head q) (at_token (comes l d))
head_kept l q Nothing h = tt
head_kept l (AtLeast m) (Whole n) h = h
head_kept l (WithinAtLeast m) (Inside n) h = tt
head_kept l (OpenAtLeast m) (Whole n) h = h
head_kept Plain (OpenAtLeast m) (Assigned n) h = h
head_kept Bracket (OpenAtLeast m) (Assigned n) h = h
head_kept Tuple (OpenAtLeast m) (Assigned n) h = tt
head_kept l q d h = absurd h

pub role_kept : (role : Role) (q : Ask) (d : Demand) → AtMost q d → AtMost (ask_by q role) (asked_by d role)
role_kept Lost q d h = tt
role_kept (Head l changes) q d h = head_kept l (ask_all_changed changes q) (all_changed changes d) (changes_kept changes q d h)
role_kept (Through changes) q d h = changes_kept changes q d h

roles_kept : (these : List Role) (q : Ask) (d : Demand) (qs : List Ask) (ds : List Demand) → AtMost q d → AreAtMost qs ds → AreAtMost (map (ask_by q) these ++ qs) (map (asked_by d) these ++ ds)
roles_kept [] q d qs ds h k = k
roles_kept (role ∷ these) q d qs ds h k = (role_kept role q d h, roles_kept these q d qs ds h k)

-- only one action leaves nothing
pub drops_or_leaves : (a : Action) → (a ≡ Drop)
    ⊎ (((d : Demand) (ds : List Demand) → asked_before a (d ∷ ds) ≡ map (asked_by d) (roles a) ++ ds) × ((q : Ask) (qs : List Ask) → before_action a (q ∷ qs) ≡ Some (map (ask_by q) (roles a) ++ qs))
    × (before_action a [] ≡ None))
drops_or_leaves Drop = inl refl
drops_or_leaves _ = inr ((λ d ds. refl), (λ q qs. refl), refl)

pub action_kept : (a : Action) (qs bs : List Ask) (ds : List Demand) → before_action a qs ≡ Some bs → AreAtMost qs ds → AreAtMost bs (asked_before a ds)
action_kept a qs bs ds e h = go (drops_or_leaves a) qs ds e h
  where
    go : (a ≡ Drop) ⊎ (((d : Demand) (ds : List Demand) → asked_before a (d ∷ ds) ≡ map (asked_by d) (roles a) ++ ds)
        × ((q : Ask) (qs : List Ask) → before_action a (q ∷ qs) ≡ Some (map (ask_by q) (roles a) ++ qs)) × (before_action a [] ≡ None))
        → (qs : List Ask) (ds : List Demand) → before_action a qs ≡ Some bs → AreAtMost qs ds → AreAtMost bs (asked_before a ds)
    go (inl is) qs ds e h =
        let same : NoNode ∷ qs ≡ bs = same_Some (NoNode ∷ qs) bs (sym (ap (λ (b : Action). before_action b qs) is) ∙ e) in
        subst (λ (x : Action). AreAtMost bs (asked_before x ds)) (sym is) (subst (λ (x : List Ask). AreAtMost x (Nothing ∷ ds)) same (tt, h))
    go (inr (one, two, three)) [] ds e h = let none : None ≡ Some bs = sym three ∙ e in absurd (cc)
    go (inr (one, two, three)) (q ∷ qs) [] e h = absurd h
    go (inr (one, two, three)) (q ∷ qs) (d ∷ ds) e h =
        let same : map (ask_by q) (roles a) ++ qs ≡ bs = same_Some _ bs (sym (two q qs) ∙ e) in
        subst (λ (x : List Demand). AreAtMost bs x) (sym (one d ds)) (subst (λ (x : List Ask). AreAtMost x (map (asked_by d) (roles a) ++ ds)) same (roles_kept (roles a) q d qs ds h.0 h.1))

below_so : (m n : ℕ) → is_below m n ≡ true → m ≤ n
below_so zero n h = omega arith
below_so (suc m) zero h = absurd (cc)
below_so (suc m) (suc n) h = let l : m ≤ n = below_so m n h in omega arith

pub no_more_so : (q r : Ask) (d : Demand) → asks_no_more q r ≡ true → AtMost r d → AtMost q d
no_more_so q r Nothing h k = tt
no_more_so (AtLeast m) (AtLeast n) (Whole k) h l = let b : m ≤ n = below_so m n h in omega arith
no_more_so (WithinAtLeast m) (WithinAtLeast n) (Inside k) h l = let b : m ≤ n = below_so m n h in omega arith
no_more_so (OpenAtLeast m) (OpenAtLeast n) (Whole k) h l = let b : m ≤ n = below_so m n h in omega arith
no_more_so (OpenAtLeast m) (OpenAtLeast n) (Assigned k) h l = let b : m ≤ n = below_so m n h in omega arith
no_more_so (OpenAtLeast m) (AtLeast n) (Whole k) h l = let b : m ≤ n = below_so m n h in omega arith
no_more_so NoNode (AtLeast n) d h l = absurd (cc)
no_more_so NoNode (WithinAtLeast n) d h l = absurd (cc)
no_more_so NoNode (OpenAtLeast n) d h l = absurd (cc)
no_more_so (AtLeast m) (WithinAtLeast n) d h l = absurd (cc)
no_more_so (AtLeast m) (OpenAtLeast n) d h l = absurd (cc)
no_more_so (WithinAtLeast m) (AtLeast n) d h l = absurd (cc)
no_more_so (WithinAtLeast m) (OpenAtLeast n) d h l = absurd (cc)
no_more_so (OpenAtLeast m) (WithinAtLeast n) d h l = absurd (cc)
no_more_so q r d h l = absurd l

pub no_more_all : (qs rs cs : List Ask) (ds : List Demand) → ask_no_more qs rs ≡ true → AreAtMost (rs ++ cs) ds → AreAtMost (qs ++ cs) ds
no_more_all [] [] cs ds h k = k
no_more_all [] (r ∷ rs) cs ds h k = absurd (cc)
no_more_all (q ∷ qs) [] cs ds h k = absurd (cc)
no_more_all (q ∷ qs) (r ∷ rs) cs [] h k = absurd k
no_more_all (q ∷ qs) (r ∷ rs) cs (d ∷ ds) h k = (no_more_so q r d (and_left (asks_no_more q r) (ask_no_more qs rs) h) k.0, no_more_all qs rs cs ds (and_right (asks_no_more q r) (ask_no_more qs rs) h) k.1)
