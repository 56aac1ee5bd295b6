-- What is asked of the parts of an item while its symbols are closed one after another, where it is to be a target.
use Rattle.std.proofs.Common.{◌≡◌, suc, Bool, true, false, not, if◌then◌else◌, List, [], ◌∷◌, ◌++◌, map, length, Some, None, ◌⊎◌, inl, inr, refl, sym, ap, ◌∙◌, subst, arith}
use Rattle.grammars.proofs.Bools.{and_left, and_right, both, not_false}
use Rattle.py_syntax.specs.Build.{Action, Drop, BeginBody}
use Rattle.py_nesting.specs.Asked.{target_last}
use Rattle.py_nesting.specs.Effects.{effect, effect_of, effect_drop}
use Rattle.py_nesting.specs.Outlines.{Event}
use Rattle.py_nesting.specs.Shapes.{TokenShape, ExprShape, BodyShape, nowhere, Entry, entry}
use Rattle.py_nesting.specs.Walk.{Demand, Nothing, Whole, Inside}
use Rattle.py_nesting.proofs.EffectsKept.{no_effect}
use Rattle.py_demands.specs.Aims.{Aim, Simply, Targets, Target, MayTarget, Never, makes_target, made_by, aim_by, aim_least, aims_by}
use Rattle.py_demands.specs.Closing.{exactly_by}
use Rattle.py_demands.specs.Least.{Ask, NoNode, AtLeast, WithinAtLeast, OpenAtLeast, ask_by, Least, ask_least, before_action}
use Rattle.py_demands.specs.Paired.{ArePaired, is_open, settles}
use Rattle.py_demands.specs.Readings.{has_never}
use Rattle.py_demands.specs.Ready.{begins_row}
use Rattle.py_demands.specs.Roles.{Role, asked_by, roles}
use Rattle.py_demands.proofs.ClosedForms.{target_left}
use Rattle.py_demands.proofs.Made.{Leaves, made}
use Rattle.py_demands.proofs.Paired.{are_good, is_good, all_good, role_paired, is_alike, are_alike, alike_paired}
use Rattle.py_demands.proofs.ReadingsLow.{is_tame, all_tame, settles_so, adds_none}
use Rattle.std.proofs.lemmas.Option.{same_Some}

abbrev pub is_expression : Entry → Bool
is_expression (entry (ExprShape f n) p) = true
is_expression e = false

-- what is asked of a part, which is what it is to be if it is an expression
abbrev pub IsFound : Aim → Entry → Demand → Type 0
IsFound (Simply q) e d = (is_open q ≡ false) × ArePaired q d
IsFound (Targets n) e d = ⊥
IsFound (Target n) e d = (d ≡ Whole n) × (is_expression e ≡ true → target_last (e ∷ []) ≡ true)
IsFound (MayTarget n) e d = is_expression e ≡ true → d ≡ Whole (if target_last (e ∷ []) then n else suc n)
IsFound Never e d = ⊥

-- with others below them
abbrev pub AreFound : List Entry → List Aim → List Entry → List Demand → Type 0
AreFound below [] es [] = es ≡ below
AreFound below (aim ∷ aims) (e ∷ es) (d ∷ ds) = IsFound aim e d × AreFound below aims es ds
AreFound below aims es ds = ⊥

-- one of them is a target already
abbrev pub IsKeptOne : Aim → Entry → Type 0
IsKeptOne (Target n) e = is_expression e ≡ true → target_last (e ∷ []) ≡ true
IsKeptOne (MayTarget n) e = is_expression e ≡ true → target_last (e ∷ []) ≡ true
IsKeptOne aim e = ⊥

abbrev pub IsKept : List Aim → List Entry → Type 0
IsKept (aim ∷ aims) (e ∷ es) = IsKeptOne aim e ⊎ IsKept aims es
IsKept aims es = ⊥

pub paired_one : (q : Ask) (d u : Demand) → ArePaired q d → ArePaired q u → d ≡ u
paired_one NoNode Nothing Nothing h k = refl
paired_one (AtLeast m) (Whole n) (Whole i) h k = ap Whole (sym h ∙ k)
paired_one (WithinAtLeast m) (Inside n) (Inside i) h k = ap Inside (sym h ∙ k)
paired_one (OpenAtLeast m) (Whole n) (Whole i) h k = ap Whole (sym h ∙ k)
paired_one NoNode Nothing u h k = absurd k
paired_one (AtLeast m) (Whole n) u h k = absurd k
paired_one (WithinAtLeast m) (Inside n) u h k = absurd k
paired_one (OpenAtLeast m) (Whole n) u h k = absurd k
paired_one q d u h k = absurd h

pub paired_with : (q : Ask) → (d : Demand) × ArePaired q d
paired_with NoNode = (Nothing, tt)
paired_with (AtLeast n) = (Whole n, refl)
paired_with (WithinAtLeast n) = (Inside n, refl)
paired_with (OpenAtLeast n) = (Whole n, refl)

pub target_top : (e : Entry) (es : List Entry) → target_last (e ∷ es) ≡ target_last (e ∷ [])
target_top (entry (ExprShape f n) p) es = refl
target_top e es = refl

-- what is asked of the parts that go into one
roles_found : (below : List Entry) (q : Ask) (d : Demand) (these : List Role) (taken rest : List Entry) (aims : List Aim) (ds : List Demand) → length taken ≡ length these → are_good false these ≡ true → is_open q ≡ false → ArePaired q d
    → AreFound below (map (aim_by (Simply q)) these ++ aims) (taken ++ rest) ds → (us : List Demand) × (ds ≡ map (asked_by d) these ++ us) × AreFound below aims rest us
roles_found below q d [] [] rest aims ds m g c h k = (ds, refl, k)
roles_found below q d [] (e ∷ taken) rest aims ds m g c h k = absurd (omega arith)
roles_found below q d (role ∷ these) [] rest aims ds m g c h k = absurd (omega arith)
roles_found below q d (role ∷ these) (e ∷ taken) rest aims [] m g c h k = absurd k
roles_found below q d (role ∷ these) (e ∷ taken) rest aims (u ∷ ds) m g c h k =
    let r = roles_found below q d these taken rest aims ds (omega arith) (and_right (is_good false role) (are_good false these) g) c h k.1 in
    let one : ArePaired (ask_by q role) (asked_by d role) = role_paired role q d (subst (λ (b : Bool). is_good b role ≡ true) (sym c) (and_left (is_good false role) (are_good false these) g)) h in
    let same : u ≡ asked_by d role = paired_one (ask_by q role) u (asked_by d role) k.0.1 one in
    (r.0, ap (λ (x : Demand). x ∷ ds) same ∙ ap (λ (l : List Demand). asked_by d role ∷ l) r.1, r.2)

pub leasts_found : (below : List Entry) (q : Ask) (d : Demand) (ls : List Least) (these : List Role) (taken rest : List Entry) (aims : List Aim) (ds : List Demand) → length taken ≡ length ls → are_alike ls these ≡ true → ArePaired q d
    → AreFound below (map (aim_least (Simply q)) ls ++ aims) (taken ++ rest) ds → (us : List Demand) × (ds ≡ map (asked_by d) these ++ us) × AreFound below aims rest us
leasts_found below q d [] [] [] rest aims ds m g h k = (ds, refl, k)
leasts_found below q d [] [] (e ∷ taken) rest aims ds m g h k = absurd (omega arith)
leasts_found below q d [] (role ∷ these) taken rest aims ds m g h k = absurd (cc)
leasts_found below q d (l ∷ ls) [] taken rest aims ds m g h k = absurd (cc)
leasts_found below q d (l ∷ ls) (role ∷ these) [] rest aims ds m g h k = absurd (omega arith)
leasts_found below q d (l ∷ ls) (role ∷ these) (e ∷ taken) rest aims [] m g h k = absurd k
leasts_found below q d (l ∷ ls) (role ∷ these) (e ∷ taken) rest aims (u ∷ ds) m g h k =
    let r = leasts_found below q d ls these taken rest aims ds (omega arith) (and_right (is_alike l role) (are_alike ls these) g) h k.1 in
    let same : u ≡ asked_by d role = paired_one (ask_least q l) u (asked_by d role) k.0.1 (alike_paired l role q d (and_left (is_alike l role) (are_alike ls these) g) h) in
    (r.0, ap (λ (x : Demand). x ∷ ds) same ∙ ap (λ (x : List Demand). asked_by d role ∷ x) r.1, r.2)

-- and where something can't be a target
pub never_found : {A : Type 0} (below : List Entry) (f : A → Aim) (a : A) (these : List A) (taken rest : List Entry) (aims : List Aim) (ds : List Demand) → length taken ≡ length (a ∷ these) → ((e : Entry) (d : Demand) → IsFound (f a) e d → ⊥)
    → AreFound below (map f (a ∷ these) ++ aims) (taken ++ rest) ds → ⊥
never_found below f a these [] rest aims ds m n k = absurd (omega arith)
never_found below f a these (e ∷ taken) rest aims [] m n k = k
never_found below f a these (e ∷ taken) rest aims (d ∷ ds) m n k = n e d k.0

pub kept_behind : {A : Type 0} (f : A → Aim) (these : List A) (taken rest : List Entry) (aims : List Aim) → length taken ≡ length these → ((a : A) (e : Entry) → IsKeptOne (f a) e → ⊥) → IsKept (map f these ++ aims) (taken ++ rest) → IsKept aims rest
kept_behind f [] [] rest aims m n h = h
kept_behind f [] (e ∷ taken) rest aims m n h = absurd (omega arith)
kept_behind f (a ∷ these) [] rest aims m n h = absurd (omega arith)
kept_behind f (a ∷ these) (e ∷ taken) rest aims m n h = elim h [ inl k ↦ absurd (n a e k) | inr k ↦ kept_behind f these taken rest aims (omega arith) n k ]

none_kept_by : (aim : Aim) (role : Role) (e : Entry) → IsKeptOne (aim_by aim role) e → ⊥
none_kept_by (Simply q) role e h = h
none_kept_by (Targets n) role e h = h
none_kept_by (Target n) role e h = h
none_kept_by (MayTarget n) role e h = h
none_kept_by Never role e h = h

-- what an action leaves is what it is to be
abbrev MadeSo : Action → Aim → Entry → Type 0
MadeSo a aim e = (made_by a aim ≡ Never) ⊎ ((q : Ask) × (d : Demand) × (made_by a aim ≡ Simply q) × (is_open q ≡ false) × ArePaired q d × IsFound aim e d)

made_so : (a : Action) (aim : Aim) (e : Entry) → is_tame aim ≡ true → (makes_target a ≡ true → target_last (e ∷ []) ≡ true) → (makes_target a ≡ false → target_last (e ∷ []) ≡ false) → MadeSo a aim e
made_so a (Simply q) e t f g = let c : is_open q ≡ false = not_false (is_open q) t in let w = paired_with q in inr (q, w.0, refl, c, w.1, (c, w.1))
made_so a (Targets n) e t f g = absurd (cc)
made_so a (Target n) e t f g = go (makes_target a) refl
  where
    go : (b : Bool) → makes_target a ≡ b → MadeSo a (Target n) e
    go true h = inr (AtLeast n, Whole n, ap (λ (b : Bool). if b then Simply (AtLeast n) else Never) h, refl, refl, (refl, λ x. f h))
    go false h = inl (ap (λ (b : Bool). if b then Simply (AtLeast n) else Never) h)
made_so a (MayTarget n) e t f g = go (makes_target a) refl
  where
    go : (b : Bool) → makes_target a ≡ b → MadeSo a (MayTarget n) e
    go true h = inr (AtLeast n, Whole n, ap (λ (b : Bool). if b then Simply (AtLeast n) else Simply (AtLeast (suc n))) h, refl, refl, λ x. ap (λ (b : Bool). Whole (if b then n else suc n)) (sym (f h)))
    go false h = inr (AtLeast (suc n), Whole (suc n), ap (λ (b : Bool). if b then Simply (AtLeast n) else Simply (AtLeast (suc n))) h, refl, refl, λ x. ap (λ (b : Bool). Whole (if b then n else suc n)) (sym (g h)))
made_so a Never e t f g = inl refl

-- one action takes no part, one leaves none
abbrev StepsSo : Action → Type 0
StepsSo a =
    (a ≡ Drop) ⊎ (a ≡ BeginBody)
    ⊎ ((role : Role) × (these : List Role) × (roles a ≡ role ∷ these) × ((d : Demand) (ds : List Demand) → exactly_by a (d ∷ ds) ≡ Some (map (asked_by d) (roles a) ++ ds))
    × ((aim : Aim) (aims : List Aim) → aims_by a (aim ∷ aims) ≡ Some (map (aim_by (made_by a aim)) (roles a) ++ aims)) × (aims_by a [] ≡ None) × (before_action a [] ≡ None))

steps_so : (a : Action) → StepsSo a
steps_so Drop = inl refl
steps_so BeginBody = inr (inl refl)
steps_so _ = inr (inr (_, _, refl, (λ d ds. refl), (λ aim aims. refl), refl, refl))

abbrev pub ActionFound : List Entry → Action → List Entry → List Entry → List Aim → List Aim → List Demand → Type 0
ActionFound below a es new aims others ds = (us : List Demand) × AreFound below aims new us × (exactly_by a us ≡ Some ds) × (IsKept others es → IsKept aims new)

dropped_found : (below es new : List Entry) (events : List Event) (aims others : List Aim) (ds : List Demand) → effect_drop es ≡ Some (effect new events) → Some (Simply NoNode ∷ aims) ≡ Some others → AreFound below others es ds → ActionFound below Drop es new aims others ds
dropped_found below es new events aims others ds f e k = subst (λ (l : List Aim). AreFound below l es ds → ActionFound below Drop es new aims l ds) (same_Some (Simply NoNode ∷ aims) others e) (go es ds f) k
  where
    go : (es : List Entry) (ds : List Demand) → effect_drop es ≡ Some (effect new events) → AreFound below (Simply NoNode ∷ aims) es ds → ActionFound below Drop es new aims (Simply NoNode ∷ aims) ds
    go (entry (TokenShape t) p ∷ es) [] f k = absurd k
    go (entry (TokenShape t) p ∷ es) (d ∷ ds) f k =
        let is : es ≡ new = cc in
        let same : Nothing ≡ d = paired_one NoNode Nothing d tt k.0.1 in
        (ds, subst (λ (l : List Entry). AreFound below aims l ds) is k.1, ap (λ (x : Demand). Some (x ∷ ds)) same, λ h. elim h [ inl j ↦ absurd j | inr j ↦ subst (IsKept aims) is j ])
    go es ds f k = no_effect f

-- a part that is no expression is whatever it is to be
pub other_so : (aim : Aim) (e : Entry) → is_expression e ≡ false → is_tame aim ≡ true → has_never (aim ∷ []) ≡ false → (d : Demand) × IsFound aim e d
other_so (Simply q) e o t n = let w = paired_with q in (w.0, (not_false (is_open q) t, w.1))
other_so (Targets m) e o t n = absurd (cc)
other_so (Target m) e o t n = (Whole m, (refl, λ h. let no : true ≡ false = sym h ∙ o in absurd (cc)))
other_so (MayTarget m) e o t n = (Whole m, λ h. let no : true ≡ false = sym h ∙ o in absurd (cc))
other_so Never e o t n = absurd (cc)

pub first_never : (aim : Aim) (aims : List Aim) → has_never (aim ∷ aims) ≡ false → has_never (aim ∷ []) ≡ false
first_never Never aims h = h
first_never aim aims h = refl

body_found : (below es new : List Entry) (events : List Event) (aims others : List Aim) (ds : List Demand) → effect_of BeginBody es ≡ Some (effect new events) → aims_by BeginBody aims ≡ Some others → all_tame aims ≡ true → has_never aims ≡ false
    → AreFound below others es ds → ActionFound below BeginBody es new aims others ds
body_found below es new events [] others ds f e t n k = absurd (cc)
body_found below es new events (aim ∷ aims) others ds f e t n k =
    let w = other_so aim (entry (BodyShape false) nowhere) refl (and_left (is_tame aim) (all_tame aims) t) (first_never aim aims n) in
    let same : others ≡ aims = sym (same_Some aims others e) in
    let is : entry (BodyShape false) nowhere ∷ es ≡ new = cc in
    let on_top : AreFound below (aim ∷ aims) (entry (BodyShape false) nowhere ∷ es) (w.0 ∷ ds) = (w.1, subst (λ (l : List Aim). AreFound below l es ds) same k) in (
      w.0 ∷ ds,
      subst (λ (l : List Entry). AreFound below (aim ∷ aims) l (w.0 ∷ ds)) is on_top,
      refl,
      λ h. subst (IsKept (aim ∷ aims)) is (behind (subst (λ (l : List Aim). IsKept l es) same h)),
    )
  where
    behind : IsKept aims es → IsKept (aim ∷ aims) (entry (BodyShape false) nowhere ∷ es)
    behind h = inr h

taken_found : (below : List Entry) (a : Action) (es new : List Entry) (aim : Aim) (aims others : List Aim) (ds : List Demand) (role : Role) (these : List Role) → roles a ≡ role ∷ these → not (begins_row a) ≡ true
    → ((d : Demand) (ds : List Demand) → exactly_by a (d ∷ ds) ≡ Some (map (asked_by d) (roles a) ++ ds)) → others ≡ map (aim_by (made_by a aim)) (roles a) ++ aims → (m : Leaves a es new) → MadeSo a aim m.0 → AreFound below others es ds
    → ActionFound below a es new (aim ∷ aims) others ds
taken_found below a es new aim aims others ds role these has row one same m made k = at_aim made (subst (λ (l : List Entry). AreFound below (map (aim_by (made_by a aim)) (roles a) ++ aims) l ds) m.3 (subst (λ (l : List Aim). AreFound below l es ds) same k))
  where
    kept : IsKept others es → IsKept (aim ∷ aims) new
    kept h =
        let behind = kept_behind (aim_by (made_by a aim)) (roles a) m.1 m.2 aims m.5 (none_kept_by (made_by a aim)) (subst (IsKept (map (aim_by (made_by a aim)) (roles a) ++ aims)) m.3 (subst (λ (l : List Aim). IsKept l es) same h)) in
        let on_top : IsKept (aim ∷ aims) (m.0 ∷ m.2) = inr behind in
        subst (IsKept (aim ∷ aims)) (sym m.4) on_top

    good : (q : Ask) → is_open q ≡ false → are_good false (roles a) ≡ true
    good q c =
        let settled : settles a q ≡ true = settles_so a (q ∷ []) row (adds_none a (q ∷ []) (both (not (is_open q)) true (ap not c) refl)) in
        subst (λ (b : Bool). are_good b (roles a) ≡ true) c (all_good a q settled)

    at_aim : MadeSo a aim m.0 → AreFound below (map (aim_by (made_by a aim)) (roles a) ++ aims) (m.1 ++ m.2) ds → ActionFound below a es new (aim ∷ aims) others ds
    at_aim (inl is) there =
        absurd (never_found below (aim_by Never) role these m.1 m.2 aims ds (m.5 ∙ ap length has) (λ e d h. h)
        (subst (λ (l : List Role). AreFound below (map (aim_by Never) l ++ aims) (m.1 ++ m.2) ds) has (subst (λ (i : Aim). AreFound below (map (aim_by i) (roles a) ++ aims) (m.1 ++ m.2) ds) is there)))
    at_aim (inr (q, d, is, c, p, found)) there =
        let r = roles_found below q d (roles a) m.1 m.2 aims ds m.5 (good q c) c p (subst (λ (i : Aim). AreFound below (map (aim_by i) (roles a) ++ aims) (m.1 ++ m.2) ds) is there) in
        let on_top : AreFound below (aim ∷ aims) (m.0 ∷ m.2) (d ∷ r.0) = (found, r.2) in
        (d ∷ r.0, subst (λ (l : List Entry). AreFound below (aim ∷ aims) l (d ∷ r.0)) (sym m.4) on_top, one d r.0 ∙ ap Some (sym r.1), kept)

pub action_found : (below : List Entry) (a : Action) (es new : List Entry) (events : List Event) (aims others : List Aim) (ds : List Demand) → not (begins_row a) ≡ true → effect_of a es ≡ Some (effect new events) → aims_by a aims ≡ Some others → all_tame aims ≡ true
    → has_never aims ≡ false → AreFound below others es ds → ActionFound below a es new aims others ds
action_found below a es new events aims others ds row f e tame never k = go (steps_so a) aims e tame never
  where
    go : StepsSo a → (aims : List Aim) → aims_by a aims ≡ Some others → all_tame aims ≡ true → has_never aims ≡ false → ActionFound below a es new aims others ds
    go (inl is) aims e tame never =
        subst (λ (b : Action). ActionFound below b es new aims others ds) (sym is)
        (dropped_found below es new events aims others ds (sym (ap (λ (b : Action). effect_of b es) is) ∙ f) (sym (ap (λ (b : Action). aims_by b aims) is) ∙ e) k)
    go (inr (inl is)) aims e tame never =
        subst (λ (b : Action). ActionFound below b es new aims others ds) (sym is)
        (body_found below es new events aims others ds (sym (ap (λ (b : Action). effect_of b es) is) ∙ f) (sym (ap (λ (b : Action). aims_by b aims) is) ∙ e) tame never k)
    go (inr (inr (role, these, has, one, two, three, four))) [] e tame never = let none : None ≡ Some others = sym three ∙ e in absurd (cc)
    go (inr (inr (role, these, has, one, two, three, four))) (aim ∷ aims) e tame never =
        let m : Leaves a es new = made a es (effect new events) four f in
        let target : makes_target a ≡ true → target_last (m.0 ∷ []) ≡ true = λ b. sym (ap target_last m.4 ∙ target_top m.0 m.2) ∙ target_left a es new events b (not_false (begins_row a) row) f in
        taken_found below a es new aim aims others ds role these has row one (sym (same_Some _ others (sym (two aim aims) ∙ e))) m (made_so a aim m.0 (and_left (is_tame aim) (all_tame aims) tame) target m.6) k
