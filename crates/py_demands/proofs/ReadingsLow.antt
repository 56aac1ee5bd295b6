-- No module that begins with a front has a node less deep than one of the two readings.
use Rattle.std.proofs.Common.{◌≡◌, ℕ, suc, Bool, true, false, not, ◌&&◌, ◌||◌, if◌then◌else◌, List, [], ◌∷◌, ◌++◌, map, length, Option, Some, None, ◌⊎◌, inl, inr, refl, sym, ap, ◌∙◌, subst, arith}
use Rattle.grammars.specs.Grammar.{Tok, Non, Do}
use Rattle.grammars.proofs.Bools.{and_left, and_right, both, not_false}
use Rattle.py_syntax.specs.Token.{Token}
use Rattle.py_syntax.specs.Build.{Part, Parts, Action, Drop, MakeTuple, AddItem, MakeTargets, AddTargets}
use Rattle.py_syntax.specs.Table.{Symbol, SmallTail, AssignTail}
use Rattle.py_nesting.specs.Asked.{targets_last, target_last}
use Rattle.py_nesting.specs.Depths.{body_depth}
use Rattle.py_nesting.specs.Shapes.{nowhere, Entry, entry_of, entries_of}
use Rattle.py_nesting.specs.Walk.{Demand, Whole, Assigned}
use Rattle.py_demands.specs.Agreed.{Agrees, Agree}
use Rattle.py_demands.specs.Aimed.{ItemAsks}
use Rattle.py_demands.specs.Aims.{Aim, Simply, Targets, Target, MayTarget, Never, makes_target, made_by, aim_by, Way, Keeps, Extends, Makes, Differs, way, gone, aim_least, aims_by, aims_symbol, aims_before, aimed}
use Rattle.py_demands.specs.Behind.{Behind}
use Rattle.py_demands.specs.Decided.{IsNoDeeper, InModules, AgreesAim, AgreeAims, IsOut, AreOut}
use Rattle.py_demands.specs.Least.{Ask, NoNode, AtLeast, WithinAtLeast, OpenAtLeast, ask_by, Least, As, ask_least, low, before_action, before_symbol, before, least}
use Rattle.py_demands.specs.Paired.{AllPaired, is_open, settles_first, are_settled, IsWholeIfOpen, AreWholeIfOpen}
use Rattle.py_demands.specs.Readings.{Reading, Settled, Among, has_never, settled, among, settled_before, reading_before, reading, of_ask, of_aim, more_of, of_aims, of_reading, targets_reading, acts_first, ReadingLaw}
use Rattle.py_demands.specs.Ready.{begins_row, are_calm, are_calm_below, are_calm_soon, is_inner, are_inner, are_quiet, are_single, adds_to_open, adds_to_none, makes_targets, IsMore, Itemed, Ready}
use Rattle.py_demands.specs.Roles.{Role, Lost, asked_by, roles, asked_before}
use Rattle.py_demands.specs.Turning.{is_tail}
use Rattle.py_demands.specs.TurnedPaired.{IsPairedTurned, AllPairedTurned, none_open, one_open}
use Rattle.py_demands.proofs.Agreed.{all_whole, lone_so, least_law}
use Rattle.py_demands.proofs.AimRows.{aimed_frame}
use Rattle.py_demands.proofs.AimsKept.{drops_or_aims}
use Rattle.py_demands.proofs.Decided.{either_law, whole_law, both_law}
use Rattle.py_demands.proofs.FewOpen.{few_open, action_few, low_few, role_closed, least_closed, none_turn, least_turns_not, calm_makes_none, none_rest, none_kept, few_kept, calm_first, turns_not}
use Rattle.py_demands.proofs.ItemSteps.{aims_first}
use Rattle.py_demands.proofs.Items.{never_law}
use Rattle.py_demands.proofs.Ways.{closing_law}
use Rattle.py_demands.proofs.Paired.{agreement_law}
use Rattle.py_demands.proofs.Steps.{asks_behind}
use Rattle.py_demands.proofs.TurnedPaired.{both_pairs_law}
use Rattle.std.proofs.lemmas.Option.{same_Some}

-- where no item is added to a tuple that may be assigned to, what is asked at least is read
settled_step : (s : Symbol) (rs : List Ask) → adds_to_none (s ∷ []) (Some rs) ≡ true → settled_before s rs ≡ settled (before_symbol s rs)
settled_step (Do AddItem) (OpenAtLeast n ∷ qs) h = absurd (cc)
settled_step s rs h = refl

pub adds_first : (s : Symbol) (symbols : List Symbol) (qs rs : List Ask) → adds_to_none (s ∷ symbols) (Some qs) ≡ true → least symbols (Some qs) ≡ Some rs
    → (adds_to_none (s ∷ []) (Some rs) ≡ true) × (adds_to_none symbols (Some qs) ≡ true)
adds_first (Tok k) symbols qs rs h e = (refl, h)
adds_first (Non x) symbols qs rs h e = (refl, h)
adds_first (Do a) symbols qs rs h e = (
  both (not (adds_to_open a (Some rs))) true (sym (ap (λ (o : Option (List Ask)). not (adds_to_open a o)) e) ∙ and_left (not (adds_to_open a (least symbols (Some qs)))) (adds_to_none symbols (Some qs)) h) refl,
  and_right (not (adds_to_open a (least symbols (Some qs)))) (adds_to_none symbols (Some qs)) h,
)

pub settled_reading : (symbols : List Symbol) (asks : List Ask) → adds_to_none symbols (Some (AtLeast 0 ∷ [])) ≡ true → least symbols (Some (AtLeast 0 ∷ [])) ≡ Some asks → reading symbols ≡ Some (Settled asks)
settled_reading [] asks h e = ap settled e
settled_reading (s ∷ symbols) asks h e =
    let b = asks_behind s symbols (Some (AtLeast 0 ∷ [])) asks e in
    let f = adds_first s symbols (AtLeast 0 ∷ []) b.0 h b.1 in
    ap (reading_before s) (settled_reading symbols b.0 f.1 b.1) ∙ settled_step s b.0 f.0 ∙ ap settled (sym (ap (before s) b.1) ∙ e)

pub settles_so : (a : Action) (rs : List Ask) → not (begins_row a) ≡ true → not (adds_to_open a (Some rs)) ≡ true → settles_first a (Some rs) ≡ true
settles_so a [] h k = refl
settles_so MakeTuple (q ∷ rs) h k = absurd (cc)
settles_so MakeTargets (q ∷ rs) h k = absurd (cc)
settles_so AddTargets (q ∷ rs) h k = absurd (cc)
settles_so AddItem (q ∷ rs) h k = k
settles_so a (q ∷ rs) h k = refl

pub calm_settled : (symbols : List Symbol) (qs asks : List Ask) → are_calm symbols ≡ true → adds_to_none symbols (Some qs) ≡ true → least symbols (Some qs) ≡ Some asks → are_settled symbols (Some qs) ≡ true
calm_settled [] qs asks c h e = refl
calm_settled (Tok k ∷ symbols) qs asks c h e = let b = asks_behind (Tok k) symbols (Some qs) asks e in calm_settled symbols qs b.0 c h b.1
calm_settled (Non x ∷ symbols) qs asks c h e = let b = asks_behind (Non x) symbols (Some qs) asks e in calm_settled symbols qs b.0 c h b.1
calm_settled (Do a ∷ symbols) qs asks c h e =
    let b = asks_behind (Do a) symbols (Some qs) asks e in
    let f = adds_first (Do a) symbols qs b.0 h b.1 in
    both (settles_first a (least symbols (Some qs))) (are_settled symbols (Some qs))
    (ap (settles_first a) b.1 ∙ settles_so a b.0 (and_left (not (begins_row a)) (are_calm symbols) c) (and_left (not (adds_to_open a (Some b.0))) true f.0))
    (calm_settled symbols qs b.0 (and_right (not (begins_row a)) (are_calm symbols) c) f.1 b.1)

pub adds_none : (a : Action) (rs : List Ask) → none_open rs ≡ true → not (adds_to_open a (Some rs)) ≡ true
adds_none AddItem [] h = refl
adds_none AddItem (q ∷ rs) h = and_left (not (is_open q)) (none_open rs) h
adds_none a rs h = refl

-- where nothing is asked as a whole or as targets
pub item_adds : (symbols : List Symbol) (qs asks : List Ask) → are_quiet symbols ≡ true → are_calm symbols ≡ true → none_open qs ≡ true → least symbols (Some qs) ≡ Some asks → adds_to_none symbols (Some qs) ≡ true
item_adds [] qs asks h c n e = refl
item_adds (Tok k ∷ symbols) qs asks h c n e = let b = asks_behind (Tok k) symbols (Some qs) asks e in item_adds symbols qs b.0 h c n b.1
item_adds (Non x ∷ symbols) qs asks h c n e = let b = asks_behind (Non x) symbols (Some qs) asks e in item_adds symbols qs b.0 (and_right (not (is_tail x)) (are_quiet symbols) h) c n b.1
item_adds (Do a ∷ symbols) qs asks h c n e =
    let b = asks_behind (Do a) symbols (Some qs) asks e in
    let calm = and_right (not (begins_row a)) (are_calm symbols) c in
    both (not (adds_to_open a (least symbols (Some qs)))) (adds_to_none symbols (Some qs))
    (ap (λ (o : Option (List Ask)). not (adds_to_open a o)) b.1 ∙ adds_none a b.0 (none_kept symbols qs b.0 h calm n b.1)) (item_adds symbols qs b.0 h calm n b.1)

pub inner_quiet : (symbols : List Symbol) → are_inner symbols ≡ true → are_quiet symbols ≡ true
inner_quiet [] h = refl
inner_quiet (Tok k ∷ symbols) h = inner_quiet symbols h
inner_quiet (Do a ∷ symbols) h = inner_quiet symbols (and_right (not (makes_targets a)) (are_inner symbols) h)
inner_quiet (Non SmallTail ∷ symbols) h = absurd (cc)
inner_quiet (Non AssignTail ∷ symbols) h = absurd (cc)
inner_quiet (Non x ∷ symbols) h = inner_quiet symbols (and_right (is_inner x) (are_inner symbols) h)

-- some part that may be targets is asked as a whole or as targets
abbrev pub open_targets : List Ask → List Entry → Bool
open_targets (q ∷ qs) (e ∷ es) = (is_open q && targets_last (e ∷ [])) || open_targets qs es
open_targets qs es = false

pub as_many : (v : Parts) → length (entries_of v) ≡ length v
as_many [] = refl
as_many (part ∷ v) = ap suc (as_many v)

if_not_open : (part : Part) (q : Ask) → is_open q ≡ false → IsWholeIfOpen part q
if_not_open part (OpenAtLeast n) h = absurd (cc)
if_not_open part q h = tt

none_whole : (v : Parts) (qs : List Ask) → length v ≡ length qs → none_open qs ≡ true → AreWholeIfOpen v qs
none_whole [] [] m h = tt
none_whole [] (q ∷ qs) m h = absurd (omega arith)
none_whole (part ∷ v) [] m h = absurd (omega arith)
none_whole (part ∷ v) (q ∷ qs) m h = (if_not_open part q (none_rest q qs h).0, none_whole v qs (omega arith) (none_rest q qs h).1)

if_no_targets : (part : Part) (q : Ask) → (is_open q && targets_last (entry_of part ∷ [])) ≡ false → IsWholeIfOpen part q
if_no_targets part (OpenAtLeast n) h = inr h
if_no_targets part q h = tt

or_left : (a b : Bool) → (a || b) ≡ false → a ≡ false
or_left true b h = (cc)
or_left false b h = refl

or_right : (a b : Bool) → (a || b) ≡ false → b ≡ false
or_right true b h = absurd (cc)
or_right false b h = h

no_targets_whole : (v : Parts) (qs : List Ask) → length v ≡ length qs → open_targets qs (entries_of v) ≡ false → AreWholeIfOpen v qs
no_targets_whole [] [] m h = tt
no_targets_whole [] (q ∷ qs) m h = absurd (omega arith)
no_targets_whole (part ∷ v) [] m h = absurd (omega arith)
no_targets_whole (part ∷ v) (q ∷ qs) m h = (
  if_no_targets part q (or_left (is_open q && targets_last (entry_of part ∷ [])) (open_targets qs (entries_of v)) h),
  no_targets_whole v qs (omega arith) (or_right (is_open q && targets_last (entry_of part ∷ [])) (open_targets qs (entries_of v)) h),
)

-- what is asked, as targets where it may be
abbrev pub of_asks : List Ask → List Entry → List Demand
of_asks [] es = []
of_asks (q ∷ qs) [] = []
of_asks (q ∷ qs) (e ∷ es) = of_ask q e ∷ of_asks qs es

pub plainly_of : (qs : List Ask) (es : List Entry) → length qs ≡ length es → of_aims (map Simply qs) es ≡ Some (of_asks qs es)
plainly_of [] [] m = refl
plainly_of [] (e ∷ es) m = absurd (omega arith)
plainly_of (q ∷ qs) [] m = absurd (omega arith)
plainly_of (q ∷ qs) (e ∷ es) m = ap (more_of (Some (of_ask q e))) (plainly_of qs es (omega arith))

pub one_paired : (q : Ask) (e : Entry) → (is_open q ≡ true → targets_last (e ∷ []) ≡ true) → IsPairedTurned q (of_ask q e)
one_paired NoNode e h = tt
one_paired (AtLeast n) e h = refl
one_paired (WithinAtLeast n) e h = refl
one_paired (OpenAtLeast n) e h = subst (λ (b : Bool). IsPairedTurned (OpenAtLeast n) (if b then Assigned n else Whole n)) (sym (h refl)) refl

pub none_targets : (qs : List Ask) (es : List Entry) → none_open qs ≡ true → open_targets qs es ≡ false
none_targets [] es h = refl
none_targets (q ∷ qs) [] h = refl
none_targets (q ∷ qs) (e ∷ es) h = ap (λ (b : Bool). (b && targets_last (e ∷ [])) || open_targets qs es) (none_rest q qs h).0 ∙ none_targets qs es (none_rest q qs h).1

pub none_paired : (qs : List Ask) (es : List Entry) → length qs ≡ length es → none_open qs ≡ true → AllPairedTurned qs (of_asks qs es)
none_paired [] es m h = tt
none_paired (q ∷ qs) [] m h = absurd (omega arith)
none_paired (q ∷ qs) (e ∷ es) m h = (one_paired q e (λ o. let no : true ≡ false = sym o ∙ (none_rest q qs h).0 in absurd (cc)), none_paired qs es (omega arith) (none_rest q qs h).1)

pub one_targets : (qs : List Ask) (es : List Entry) → length qs ≡ length es → few_open qs ≡ true → open_targets qs es ≡ true → AllPairedTurned qs (of_asks qs es) × (one_open qs ≡ true)
one_targets [] es m f h = absurd (cc)
one_targets (q ∷ qs) [] m f h = absurd (cc)
one_targets (q ∷ qs) (e ∷ es) m f h = go (is_open q) refl f h (λ g k. one_targets qs es (omega arith) g k)
  where
    go : (b : Bool) → is_open q ≡ b → (if b then none_open qs else few_open qs) ≡ true → ((b && targets_last (e ∷ [])) || open_targets qs es) ≡ true
        → (few_open qs ≡ true → open_targets qs es ≡ true → AllPairedTurned qs (of_asks qs es) × (one_open qs ≡ true)) → AllPairedTurned (q ∷ qs) (of_asks (q ∷ qs) (e ∷ es)) × (one_open (q ∷ qs) ≡ true)
    go true i f h again =
        let last : targets_last (e ∷ []) ≡ true = no_other (targets_last (e ∷ [])) (none_targets qs es f) h in
        ((one_paired q e (λ o. last), none_paired qs es (omega arith) f), ap (λ (b : Bool). if b then none_open qs else one_open qs) i ∙ f)
      where
        no_other : (b : Bool) → open_targets qs es ≡ false → (b || open_targets qs es) ≡ true → b ≡ true
        no_other true n h = refl
        no_other false n h = let no : true ≡ false = sym h ∙ n in absurd (cc)
    go false i f h again =
        let r = again f h in
        ((one_paired q e (λ o. let no : true ≡ false = sym o ∙ i in absurd (cc)), r.0), ap (λ (b : Bool). if b then none_open qs else one_open qs) i ∙ r.1)

-- among targets nothing else is asked as a whole or as targets
abbrev pub is_tame : Aim → Bool
is_tame (Simply q) = not (is_open q)
is_tame (Targets n) = false
is_tame aim = true

abbrev pub all_tame : List Aim → Bool
all_tame [] = true
all_tame (aim ∷ aims) = is_tame aim && all_tame aims

chosen_tame : (b : Bool) (p q : Aim) → is_tame p ≡ true → is_tame q ≡ true → is_tame (if b then p else q) ≡ true
chosen_tame true p q h k = h
chosen_tame false p q h k = k

made_tame : (a : Action) (aim : Aim) → is_tame aim ≡ true → is_tame (made_by a aim) ≡ true
made_tame a (Simply q) h = h
made_tame a (Targets n) h = absurd (cc)
made_tame a (Target n) h = chosen_tame (makes_target a) (Simply (AtLeast n)) Never refl refl
made_tame a (MayTarget n) h = chosen_tame (makes_target a) (Simply (AtLeast n)) (Simply (AtLeast (suc n))) refl refl
made_tame a Never h = refl

role_tame : (aim : Aim) (role : Role) → turns_not role ≡ true → is_tame aim ≡ true → is_tame (aim_by aim role) ≡ true
role_tame (Simply q) role t h = ap not (role_closed role q t (not_false (is_open q) h))
role_tame (Targets n) role t h = refl
role_tame (Target n) role t h = refl
role_tame (MayTarget n) role t h = refl
role_tame Never role t h = refl

roles_tame : (aim : Aim) (these : List Role) (aims : List Aim) → none_turn (map As these) ≡ true → is_tame aim ≡ true → all_tame aims ≡ true → all_tame (map (aim_by aim) these ++ aims) ≡ true
roles_tame aim [] aims t h k = k
roles_tame aim (role ∷ these) aims t h k =
    both (is_tame (aim_by aim role)) (all_tame (map (aim_by aim) these ++ aims)) (role_tame aim role (and_left (turns_not role) (none_turn (map As these)) t) h)
    (roles_tame aim these aims (and_right (turns_not role) (none_turn (map As these)) t) h k)

gone_tame : (w : Way) (aim : Aim) → is_tame aim ≡ true → is_tame (gone w aim) ≡ true
gone_tame w (Simply q) h = h
gone_tame w (Targets n) h = absurd (cc)
gone_tame w Never h = refl
gone_tame Keeps (Target n) h = refl
gone_tame Keeps (MayTarget n) h = refl
gone_tame Extends (Target n) h = refl
gone_tame Extends (MayTarget n) h = refl
gone_tame Makes (Target n) h = refl
gone_tame Makes (MayTarget n) h = refl
gone_tame Differs (Target n) h = refl
gone_tame Differs (MayTarget n) h = refl

least_tame : (aim : Aim) (l : Least) → least_turns_not l ≡ true → is_tame aim ≡ true → is_tame (aim_least aim l) ≡ true
least_tame (Simply q) l t h = ap not (least_closed l q t (not_false (is_open q) h))
least_tame (Targets n) l t h = absurd (cc)
least_tame aim (As Lost) t h = refl
least_tame aim l t h = h

leasts_tame : (aim : Aim) (ls : List Least) (aims : List Aim) → none_turn ls ≡ true → is_tame aim ≡ true → all_tame aims ≡ true → all_tame (map (aim_least aim) ls ++ aims) ≡ true
leasts_tame aim [] aims t h k = k
leasts_tame aim (l ∷ ls) aims t h k =
    both (is_tame (aim_least aim l)) (all_tame (map (aim_least aim) ls ++ aims)) (least_tame aim l (and_left (least_turns_not l) (none_turn ls) t) h)
    (leasts_tame aim ls aims (and_right (least_turns_not l) (none_turn ls) t) h k)

symbol_tame : (s : Symbol) (aims others : List Aim) → are_quiet (s ∷ []) ≡ true → are_calm (s ∷ []) ≡ true → aims_symbol s aims ≡ Some others → all_tame aims ≡ true → all_tame others ≡ true
symbol_tame (Tok k) [] others h c e t = absurd (cc)
symbol_tame (Tok k) (aim ∷ aims) others h c e t = subst (λ (l : List Aim). all_tame l ≡ true) (same_Some aims others e) (and_right (is_tame aim) (all_tame aims) t)
symbol_tame (Non x) [] others h c e t = absurd (cc)
symbol_tame (Non x) (aim ∷ aims) others h c e t =
    subst (λ (l : List Aim). all_tame l ≡ true) (same_Some _ others e)
    (leasts_tame (gone (way x) aim) (low x) aims (low_few x (not_false (is_tail x) (and_left (not (is_tail x)) true h))).0 (gone_tame (way x) aim (and_left (is_tame aim) (all_tame aims) t)) (and_right (is_tame aim) (all_tame aims) t))
symbol_tame (Do a) aims others h c e t = go (drops_or_aims a) aims e t
  where
    go : (a ≡ Drop) ⊎ (((d : Demand) (ds : List Demand) → asked_before a (d ∷ ds) ≡ map (asked_by d) (roles a) ++ ds) × ((aim : Aim) (aims : List Aim) → aims_by a (aim ∷ aims) ≡ Some (map (aim_by (made_by a aim)) (roles a) ++ aims)) × (aims_by a [] ≡ None) × (before_action a [] ≡ None))
        → (aims : List Aim) → aims_by a aims ≡ Some others → all_tame aims ≡ true → all_tame others ≡ true
    go (inl is) aims e t = subst (λ (l : List Aim). all_tame l ≡ true) (same_Some (Simply NoNode ∷ aims) others (sym (ap (λ (b : Action). aims_by b aims) is) ∙ e)) t
    go (inr (one, two, three, four)) [] e t = let none : None ≡ Some others = sym three ∙ e in absurd (cc)
    go (inr (one, two, three, four)) (aim ∷ aims) e t =
        subst (λ (l : List Aim). all_tame l ≡ true) (same_Some _ others (sym (two aim aims) ∙ e))
        (roles_tame (made_by a aim) (roles a) aims (action_few a (calm_makes_none a (and_left (not (begins_row a)) true c))).0 (made_tame a aim (and_left (is_tame aim) (all_tame aims) t)) (and_right (is_tame aim) (all_tame aims) t))

quiet_first : (s : Symbol) (symbols : List Symbol) → are_quiet (s ∷ symbols) ≡ true → (are_quiet (s ∷ []) ≡ true) × (are_quiet symbols ≡ true)
quiet_first (Tok k) symbols h = (refl, h)
quiet_first (Non x) symbols h = (both (not (is_tail x)) true (and_left (not (is_tail x)) (are_quiet symbols) h) refl, and_right (not (is_tail x)) (are_quiet symbols) h)
quiet_first (Do a) symbols h = (refl, h)

pub tame_kept : (symbols : List Symbol) (aims others : List Aim) → are_quiet symbols ≡ true → are_calm symbols ≡ true → all_tame aims ≡ true → aimed symbols (Some aims) ≡ Some others → all_tame others ≡ true
tame_kept [] aims others h c t e = subst (λ (l : List Aim). all_tame l ≡ true) (same_Some aims others e) t
tame_kept (s ∷ symbols) aims others h c t e =
    let b = aims_first s symbols (Some aims) others e in
    symbol_tame s b.0 others (quiet_first s symbols h).0 (calm_first s symbols c).0 (sym (ap (aims_before s) b.1) ∙ e) (tame_kept symbols aims b.0 (quiet_first s symbols h).1 (calm_first s symbols c).1 t b.1)

-- what can be what it is to be is asked so
pub more_so : (o : Option Demand) (w : Option (List Demand)) (ds : List Demand) → more_of o w ≡ Some ds → (d : Demand) × (us : List Demand) × (o ≡ Some d) × (w ≡ Some us) × (ds ≡ d ∷ us)
more_so None w ds e = absurd (cc)
more_so (Some d) None ds e = absurd (cc)
more_so (Some d) (Some us) ds e = (d, us, refl, refl, sym (same_Some (d ∷ us) ds e))

closed_agrees : (part : Part) (q : Ask) → is_open q ≡ false → Agrees part q (of_ask q (entry_of part))
closed_agrees part NoNode h = tt
closed_agrees part (AtLeast n) h = refl
closed_agrees part (WithinAtLeast n) h = refl
closed_agrees part (OpenAtLeast n) h = absurd (cc)

abbrev IsClosed : Aim → Type 0
IsClosed (Simply q) = is_open q ≡ false
IsClosed aim = Unit {0}

may_agrees : (part : Part) (n : ℕ) (b : Bool) → target_last (entry_of part ∷ []) ≡ b → AgreesAim part (MayTarget n) (Whole (if b then n else suc n))
may_agrees part n true h = inl (h, refl)
may_agrees part n false h = inr (h, refl)

if_some : (b : Bool) (d e : Demand) → (if b then Some d else None) ≡ Some e → d ≡ e
if_some true d e h = same_Some d e h
if_some false d e h = absurd (cc)

aim_agrees : (part : Part) (aim : Aim) (d : Demand) → IsClosed aim → of_aim aim (entry_of part) ≡ Some d → AgreesAim part aim d
aim_agrees part (Simply q) d c e = subst (Agrees part q) (same_Some (of_ask q (entry_of part)) d e) (closed_agrees part q c)
aim_agrees part (Targets n) d c e = subst (AgreesAim part (Targets n)) (if_some (targets_last (entry_of part ∷ [])) (Assigned n) d e) refl
aim_agrees part (Target n) d c e = subst (AgreesAim part (Target n)) (if_some (target_last (entry_of part ∷ [])) (Whole n) d e) refl
aim_agrees part (MayTarget n) d c e =
    subst (AgreesAim part (MayTarget n)) (same_Some (Whole (if target_last (entry_of part ∷ []) then n else suc n)) d e) (may_agrees part n (target_last (entry_of part ∷ [])) refl)
aim_agrees part Never d c e = absurd (cc)

abbrev AreClosed : List Aim → Type 0
AreClosed [] = Unit {0}
AreClosed (aim ∷ aims) = IsClosed aim × AreClosed aims

aims_agree : (v : Parts) (aims : List Aim) (ds : List Demand) → AreClosed aims → of_aims aims (entries_of v) ≡ Some ds → AgreeAims v aims ds
aims_agree [] [] ds c e = subst (AgreeAims [] []) (same_Some [] ds e) tt
aims_agree [] (aim ∷ aims) ds c e = absurd (cc)
aims_agree (part ∷ v) [] ds c e = absurd (cc)
aims_agree (part ∷ v) (aim ∷ aims) ds c e =
    let m = more_so (of_aim aim (entry_of part)) (of_aims aims (entries_of v)) ds e in
    subst (AgreeAims (part ∷ v) (aim ∷ aims)) (sym m.4) (aim_agrees part aim m.0 c.0 m.2, aims_agree v aims m.1 c.1 m.3)

tame_closed : (aim : Aim) → is_tame aim ≡ true → IsClosed aim
tame_closed (Simply q) h = not_false (is_open q) h
tame_closed (Targets n) h = tt
tame_closed (Target n) h = tt
tame_closed (MayTarget n) h = tt
tame_closed Never h = tt

tame_joined : (aims others : List Aim) → all_tame aims ≡ true → AreClosed others → AreClosed (aims ++ others)
tame_joined [] others h c = c
tame_joined (aim ∷ aims) others h c = (tame_closed aim (and_left (is_tame aim) (all_tame aims) h), tame_joined aims others (and_right (is_tame aim) (all_tame aims) h) c)

none_closed : (qs : List Ask) → none_open qs ≡ true → AreClosed (map Simply qs)
none_closed [] h = tt
none_closed (q ∷ qs) h = ((none_rest q qs h).0, none_closed qs (none_rest q qs h).1)

-- and what can't is in no module
if_none : (b : Bool) (d : Demand) → (if b then Some d else None) ≡ None → b ≡ false
if_none true d h = absurd (cc)
if_none false d h = refl

aim_out : (part : Part) (aim : Aim) → of_aim aim (entry_of part) ≡ None → IsOut part aim
aim_out part (Simply q) e = absurd (cc)
aim_out part (Targets n) e = if_none (targets_last (entry_of part ∷ [])) (Assigned n) e
aim_out part (Target n) e = if_none (target_last (entry_of part ∷ [])) (Whole n) e
aim_out part (MayTarget n) e = absurd (cc)
aim_out part Never e = tt

aims_out : (v : Parts) (aims : List Aim) → length aims ≡ length v → of_aims aims (entries_of v) ≡ None → AreOut v aims
aims_out [] [] m e = absurd (cc)
aims_out [] (aim ∷ aims) m e = absurd (omega arith)
aims_out (part ∷ v) [] m e = absurd (omega arith)
aims_out (part ∷ v) (aim ∷ aims) m e = go (of_aim aim (entry_of part)) (of_aims aims (entries_of v)) refl refl e (λ k. aims_out v aims (omega arith) k)
  where
    go : (o : Option Demand) (w : Option (List Demand)) → of_aim aim (entry_of part) ≡ o → of_aims aims (entries_of v) ≡ w → more_of o w ≡ None → (of_aims aims (entries_of v) ≡ None → AreOut v aims) → AreOut (part ∷ v) (aim ∷ aims)
    go None w i j e again = inl (aim_out part aim i)
    go (Some d) None i j e again = inr (again j)
    go (Some d) (Some ds) i j e again = absurd (cc)

-- a reading goes on over an item, or finds that something in it can't be a target
abbrev Scanned : List Symbol → List Symbol → List Aim → List Aim → Type 0
Scanned item rest base aims =
    (reading (item ++ Do AddItem ∷ rest) ≡ Some (Among aims))
    ⊎ ((these : List Symbol) × (those : List Symbol) × (others : List Aim) × (item ≡ these ++ those) × (aimed those (Some base) ≡ Some others) × (has_never others ≡ true))

pub scanned : (item rest : List Symbol) (base aims : List Aim) → reading (Do AddItem ∷ rest) ≡ Some (Among base) → aimed item (Some base) ≡ Some aims → Scanned item rest base aims
scanned [] rest base aims r e = inl (r ∙ ap (λ (l : List Aim). Some (Among l)) (same_Some base aims e))
scanned (s ∷ item) rest base aims r e = go b.1 (scanned item rest base b.0 r b.1)
  where
    b : (others : List Aim) × (aimed item (Some base) ≡ Some others)
    b = aims_first s item (Some base) aims e

    choose : (n : Bool) → has_never aims ≡ n → aims_symbol s b.0 ≡ Some aims → reading (item ++ Do AddItem ∷ rest) ≡ Some (Among b.0) → Scanned (s ∷ item) rest base aims
    choose true h f k = inr ([], s ∷ item, aims, refl, e, h)
    choose false h f k = inl (ap (reading_before s) k ∙ ap among f ∙ ap (λ (n : Bool). if n then None else Some (Among aims)) h)

    go : aimed item (Some base) ≡ Some b.0 → Scanned item rest base b.0 → Scanned (s ∷ item) rest base aims
    go f (inl k) = choose (has_never aims) refl (sym (ap (aims_before s) f) ∙ e) k
    go f (inr (these, those, others, is, k, h)) = inr (s ∷ these, those, others, ap (λ (l : List Symbol). s ∷ l) is, k, h)

-- as many aims as asks
mapped_many : (qs : List Ask) → length (map Simply qs) ≡ length qs
mapped_many [] = refl
mapped_many (q ∷ qs) = ap suc (mapped_many qs)

both_many : {A : Type 0} (f : A → Ask) (g : A → Aim) (these : List A) (qs : List Ask) (aims : List Aim) → length qs ≡ length aims → length (map f these ++ qs) ≡ length (map g these ++ aims)
both_many f g [] qs aims m = m
both_many f g (a ∷ these) qs aims m = ap suc (both_many f g these qs aims m)

abbrev LeavesSo : Action → Type 0
LeavesSo a =
    (a ≡ Drop)
    ⊎ (((q : Ask) (qs : List Ask) → before_action a (q ∷ qs) ≡ Some (map (ask_by q) (roles a) ++ qs)) × ((aim : Aim) (aims : List Aim) → aims_by a (aim ∷ aims) ≡ Some (map (aim_by (made_by a aim)) (roles a) ++ aims))
    × (before_action a [] ≡ None))

leaves_so : (a : Action) → LeavesSo a
leaves_so Drop = inl refl
leaves_so _ = inr ((λ q qs. refl), (λ aim aims. refl), refl)

symbol_many : (s : Symbol) (qs asks : List Ask) (aims others : List Aim) → length qs ≡ length aims → before_symbol s qs ≡ Some asks → aims_symbol s aims ≡ Some others → length asks ≡ length others
symbol_many (Tok k) [] asks aims others m e f = absurd (cc)
symbol_many (Tok k) (q ∷ qs) asks [] others m e f = absurd (omega arith)
symbol_many (Tok k) (q ∷ qs) asks (aim ∷ aims) others m e f = let l = ap length (same_Some qs asks e) in let r = ap length (same_Some aims others f) in omega arith
symbol_many (Non x) [] asks aims others m e f = absurd (cc)
symbol_many (Non x) (q ∷ qs) asks [] others m e f = absurd (omega arith)
symbol_many (Non x) (q ∷ qs) asks (aim ∷ aims) others m e f =
    sym (ap length (same_Some (map (ask_least q) (low x) ++ qs) asks e)) ∙ both_many (ask_least q) (aim_least (gone (way x) aim)) (low x) qs aims (omega arith) ∙ ap length (same_Some _ others f)
symbol_many (Do a) qs asks aims others m e f = go (leaves_so a) qs aims m e f
  where
    go : LeavesSo a → (qs : List Ask) (aims : List Aim) → length qs ≡ length aims → before_action a qs ≡ Some asks → aims_by a aims ≡ Some others → length asks ≡ length others
    go (inl is) qs aims m e f =
        sym (ap length (same_Some (NoNode ∷ qs) asks (sym (ap (λ (b : Action). before_action b qs) is) ∙ e))) ∙ ap suc m
        ∙ ap length (same_Some (Simply NoNode ∷ aims) others (sym (ap (λ (b : Action). aims_by b aims) is) ∙ f))
    go (inr (one, two, three)) [] aims m e f = let none : None ≡ Some asks = sym three ∙ e in absurd (cc)
    go (inr (one, two, three)) (q ∷ qs) [] m e f = absurd (omega arith)
    go (inr (one, two, three)) (q ∷ qs) (aim ∷ aims) m e f =
        sym (ap length (same_Some (map (ask_by q) (roles a) ++ qs) asks (sym (one q qs) ∙ e))) ∙ both_many (ask_by q) (aim_by (made_by a aim)) (roles a) qs aims (omega arith)
        ∙ ap length (same_Some (map (aim_by (made_by a aim)) (roles a) ++ aims) others (sym (two aim aims) ∙ f))

pub same_many : (symbols : List Symbol) (qs asks : List Ask) (aims others : List Aim) → length qs ≡ length aims → least symbols (Some qs) ≡ Some asks → aimed symbols (Some aims) ≡ Some others → length asks ≡ length others
same_many [] qs asks aims others m e f = sym (ap length (same_Some qs asks e)) ∙ m ∙ ap length (same_Some aims others f)
same_many (s ∷ symbols) qs asks aims others m e f =
    let b = asks_behind s symbols (Some qs) asks e in
    let c = aims_first s symbols (Some aims) others f in
    symbol_many s b.0 asks c.0 others (same_many symbols qs b.0 aims c.0 m b.1 c.1) (sym (ap (before s) b.1) ∙ e) (sym (ap (aims_before s) c.1) ∙ f)

-- a node stands no less deep than in one of the readings
abbrev InReadings : List Token → List Symbol → (v : Parts) → List Demand → Type 0
InReadings front symbols v us =
    InModules front symbols (λ at body. IsNoDeeper at v us body ⊎ ((ws : List Demand) × (targets_reading symbols (entries_of v) ≡ Some ws) × IsNoDeeper at v ws body))

pub demands_many : (front : List Token) (symbols : List Symbol) (v : Parts) (b : Behind front [] symbols v) → length b.demands ≡ length (entries_of v)
demands_many front symbols v b = (closing_law front symbols v b.demands nowhere b.at_front b.specimens b.exactly_is).4

pub paired_many : (qs : List Ask) (ds : List Demand) → AllPaired qs ds → length qs ≡ length ds
paired_many [] [] h = refl
paired_many [] (d ∷ ds) h = absurd h
paired_many (q ∷ qs) [] h = absurd h
paired_many (q ∷ qs) (d ∷ ds) h = ap suc (paired_many qs ds h.1)

read_settled : (front : List Token) (symbols : List Symbol) (v : Parts) (b : Behind front [] symbols v) → are_calm symbols ≡ true → are_single symbols ≡ true → adds_to_none symbols (Some (AtLeast 0 ∷ [])) ≡ true
    → InReadings front symbols v b.demands
read_settled front symbols v b c s h = go (open_targets b.asks (entries_of v)) refl
  where
    paired : AllPaired b.asks b.demands
    paired = agreement_law.1 front symbols v b (calm_settled symbols (AtLeast 0 ∷ []) b.asks c h b.least_is)

    many : length b.asks ≡ length (entries_of v)
    many = paired_many b.asks b.demands paired ∙ demands_many front symbols v b

    read : targets_reading symbols (entries_of v) ≡ Some (of_asks b.asks (entries_of v))
    read = ap (λ (r : Option Reading). of_reading r (entries_of v)) (settled_reading symbols b.asks h b.least_is) ∙ plainly_of b.asks (entries_of v) many

    go : (o : Bool) → open_targets b.asks (entries_of v) ≡ o → InReadings front symbols v b.demands
    go false e =
        let whole : AreWholeIfOpen v b.asks = no_targets_whole v b.asks (sym (as_many v) ∙ sym many) e in
        let agree : Agree v b.asks b.demands = agreement_law.0 v b.asks b.demands paired whole in
        λ clear at once more body m away k. inl (least_law front symbols v b agree clear at once more body m away k)
    go true e =
        let t = one_targets b.asks (entries_of v) many (few_kept symbols b.asks s c b.least_is) e in
        let agree = both_pairs_law v b.asks b.demands (of_asks b.asks (entries_of v)) (sym (as_many v) ∙ sym many) t.1 paired t.0 in
        λ clear at once more body m away k. elim (both_law front symbols v b (of_asks b.asks (entries_of v)) agree clear at once more body m away k) [ inl r ↦ inl r | inr r ↦ inr (of_asks b.asks (entries_of v), read, r) ]

read_item : (front : List Token) (item rest : List Symbol) (v : Parts) (b : Behind front [] (item ++ Do AddItem ∷ rest) v) (i : ItemAsks item rest) (alone : List Aim) → are_calm item ≡ true → are_inner item ≡ true → are_calm rest ≡ true
    → adds_to_none rest (Some (AtLeast 0 ∷ [])) ≡ true → none_open i.below ≡ true → aimed item (Some (Target i.above ∷ [])) ≡ Some alone → InReadings front (item ++ Do AddItem ∷ rest) v b.demands
read_item front item rest v b i alone c inner rest_calm rest_settled none alone_are = go (scanned item rest (Target i.above ∷ Targets i.above ∷ map Simply i.below) i.aims read_tuple i.aims_are)
  where
    quiet : are_quiet item ≡ true
    quiet = inner_quiet item inner

    none_base : none_open (AtLeast (suc i.above) ∷ AtLeast i.above ∷ i.below) ≡ true
    none_base = none

    item_is_settled : are_settled item (Some (AtLeast (suc i.above) ∷ AtLeast i.above ∷ i.below)) ≡ true
    item_is_settled = calm_settled item (AtLeast (suc i.above) ∷ AtLeast i.above ∷ i.below) i.asks c (item_adds item (AtLeast (suc i.above) ∷ AtLeast i.above ∷ i.below) i.asks quiet c none_base i.asks_are) i.asks_are

    paired : AllPaired i.asks b.demands
    paired = agreement_law.2 front item rest v b i (calm_settled rest (AtLeast 0 ∷ []) (OpenAtLeast i.above ∷ i.below) rest_calm rest_settled i.rest_is) item_is_settled

    many : length i.asks ≡ length (entries_of v)
    many = paired_many i.asks b.demands paired ∙ demands_many front (item ++ Do AddItem ∷ rest) v b

    agree : Agree v i.asks b.demands
    agree = agreement_law.0 v i.asks b.demands paired (none_whole v i.asks (sym (as_many v) ∙ sym many) (none_kept item (AtLeast (suc i.above) ∷ AtLeast i.above ∷ i.below) i.asks quiet c none_base i.asks_are))

    read_tuple : reading (Do AddItem ∷ rest) ≡ Some (Among (Target i.above ∷ Targets i.above ∷ map Simply i.below))
    read_tuple = ap (reading_before (Do AddItem)) (settled_reading rest (OpenAtLeast i.above ∷ i.below) rest_settled i.rest_is)

    aims_are : i.aims ≡ alone ++ Targets i.above ∷ map Simply i.below
    aims_are = same_Some i.aims (alone ++ Targets i.above ∷ map Simply i.below) (sym i.aims_are ∙ aimed_frame item (Target i.above ∷ []) alone (Targets i.above ∷ map Simply i.below) alone_are)

    aims_many : length i.aims ≡ length v
    aims_many = sym (same_many item (AtLeast (suc i.above) ∷ AtLeast i.above ∷ i.below) i.asks (Target i.above ∷ Targets i.above ∷ map Simply i.below) i.aims (ap suc (ap suc (sym (mapped_many i.below)))) i.asks_are i.aims_are) ∙ many ∙ as_many v

    are_closed : AreClosed i.aims
    are_closed = subst AreClosed (sym aims_are) (tame_joined alone (Targets i.above ∷ map Simply i.below) (tame_kept item (Target i.above ∷ []) alone quiet c refl alone_are) (tt, none_closed i.below none))

    by_reading : (o : Option (List Demand)) → of_aims i.aims (entries_of v) ≡ o → reading (item ++ Do AddItem ∷ rest) ≡ Some (Among i.aims) → length i.aims ≡ length v → InReadings front (item ++ Do AddItem ∷ rest) v b.demands
    by_reading None e r m =
        let out = aims_out v i.aims m e in
        λ clear at once more body w away k. inl (whole_law front item rest v b i agree out clear at once more body w away k)
    by_reading (Some ws) e r m =
        let agrees = aims_agree v i.aims ws are_closed e in
        λ clear at once more body w away k. elim (either_law front item rest v b i ws agree agrees clear at once more body w away k) [
          | inl n ↦ inl n
          | inr n ↦ inr (ws, ap (λ (r : Option Reading). of_reading r (entries_of v)) r ∙ e, n)
        ]

    go : Scanned item rest (Target i.above ∷ Targets i.above ∷ map Simply i.below) i.aims → InReadings front (item ++ Do AddItem ∷ rest) v b.demands
    go (inl r) = by_reading (of_aims i.aims (entries_of v)) refl r aims_many
    go (inr (these, those, others, is, e, never)) =
        λ clear at once more body m away k.
        let l = never_law front more item rest these those v body i others is e never b.at_front m in
        inl (elim l.2 [
          | inl w ↦ lone_so front (item ++ Do AddItem ∷ rest) v b clear at once b.demands l.0 l.1 (all_whole v i.asks b.demands l.0 agree w l.3) (body_depth at body) k (l.4 at).0 ((l.4 at).1 away)
          | inr w ↦ absurd w
        ])

calm_on_top : (symbols : List Symbol) → acts_first symbols ≡ false → are_calm_below symbols ≡ true → are_calm symbols ≡ true
calm_on_top [] h c = c
calm_on_top (Tok k ∷ symbols) h c = c
calm_on_top (Non x ∷ symbols) h c = c
calm_on_top (Do a ∷ symbols) h c = absurd (cc)

pub ready_calm : (symbols : List Symbol) → Ready symbols [] → acts_first symbols ≡ false → are_calm symbols ≡ true
ready_calm symbols y h = go y.calm
  where
    go : (are_calm_below symbols ≡ true) ⊎ ((are_calm_soon symbols ≡ true) × IsMore []) → are_calm symbols ≡ true
    go (inl c) = calm_on_top symbols h c
    go (inr c) = absurd c.1

pub calm_item : (these symbols : List Symbol) → are_calm (these ++ symbols) ≡ true → are_calm these ≡ true
calm_item [] symbols h = refl
calm_item (Tok k ∷ these) symbols h = calm_item these symbols h
calm_item (Non x ∷ these) symbols h = calm_item these symbols h
calm_item (Do a ∷ these) symbols h = both (not (begins_row a)) (are_calm these) (and_left (not (begins_row a)) (are_calm (these ++ symbols)) h) (calm_item these symbols (and_right (not (begins_row a)) (are_calm (these ++ symbols)) h))

pub reading_law : ReadingLaw
reading_law front symbols v b y acts = go y.shaped
  where
    calm : are_calm symbols ≡ true
    calm = ready_calm symbols y acts

    at_item : (i : Itemed symbols) → (c : Behind front [] (i.item ++ Do AddItem ∷ i.rest) v) → InReadings front (i.item ++ Do AddItem ∷ i.rest) v c.demands
    at_item i c =
        let item_calm : are_calm i.item ≡ true = calm_item i.item (Do AddItem ∷ i.rest) (sym (ap are_calm i.symbols_are) ∙ calm) in
        read_item front i.item i.rest v c i.asks i.alone item_calm i.inner i.rest_calm i.rest_settled i.none_open_below i.alone_are

    go : (adds_to_none symbols (Some (AtLeast 0 ∷ [])) ≡ true) ⊎ Itemed symbols → InReadings front symbols v b.demands
    go (inl h) = read_settled front symbols v b calm y.single h
    go (inr i) = subst (λ (l : List Symbol). (c : Behind front [] l v) → InReadings front l v c.demands) (sym i.symbols_are) (at_item i) b
