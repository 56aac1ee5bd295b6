-- Where an item is read of a tuple that may be assigned to, there is a module for the reading with targets.
use Rattle.std.proofs.Common.{◌≡◌, ℕ, suc, Bool, true, false, not, ◌&&◌, ◌||◌, if◌then◌else◌, List, [], ◌∷◌, ◌++◌, map, length, Option, Some, None, ◌⊎◌, inl, inr, refl, sym, ap, ◌∙◌, subst, append_assoc}
use Rattle.grammars.specs.Grammar.{Tok, Non, Do, IsRow}
use Rattle.grammars.specs.Sets.{have_specimens}
use Rattle.grammars.proofs.Bools.{and_left, and_right, both}
use Rattle.py_tokens.specs.Token.{Place}
use Rattle.py_syntax.specs.Token.{Token}
use Rattle.py_syntax.specs.Build.{Parts, Action, Drop, AddItem, MakeAttribute}
use Rattle.py_syntax.specs.Table.{Symbol, Nonterminal, row, rows, table, sets, the_dot, AnyName, AttributeTail, PrimaryTail}
use Rattle.py_nesting.specs.Asked.{targets_last, target_last}
use Rattle.py_nesting.specs.Effects.{effect, effect_add_item}
use Rattle.py_nesting.specs.Forms.{TargetForm}
use Rattle.py_nesting.specs.Outlines.{Event}
use Rattle.py_nesting.specs.Shapes.{ExprShape, Entry, entry, entries_of}
use Rattle.py_nesting.specs.Walk.{Demand, Whole, Assigned}
use Rattle.py_nesting.proofs.EffectsKept.{no_effect}
use Rattle.py_fronts.specs.AtFront.{AtFront}
use Rattle.py_fronts.specs.Fit.{Fit}
use Rattle.py_fronts.proofs.TableFits.{row_fits}
use Rattle.py_demands.specs.Aims.{Aim, Simply, Targets, Target, MayTarget, Never, Way, Keeps, Extends, Makes, Differs, way, made_by, aim_by, gone, aim_least, aims_by, aims_symbol, aims_before, aimed}
use Rattle.py_demands.specs.Behind.{Behind}
use Rattle.py_demands.specs.Closing.{exactly}
use Rattle.py_demands.specs.Least.{Ask, NoNode, AtLeast, WithinAtLeast, OpenAtLeast, Least, As, low, least}
use Rattle.py_demands.specs.Paired.{ArePaired, is_open}
use Rattle.py_demands.specs.Readings.{Reading, Settled, Among, has_never, among, reading_before, reading, of_ask, of_aim, of_aims, of_reading, ReachedReadLaw}
use Rattle.py_demands.specs.Ready.{are_calm, is_inner, are_inner, are_quiet, are_single, adds_to_none, Itemed}
use Rattle.py_demands.specs.Roles.{Role, Lost, Kept, roles}
use Rattle.py_demands.specs.Turning.{is_tail, ends, IsReached}
use Rattle.py_demands.specs.TurnedPaired.{are_within, AllPairedTurned, none_open}
use Rattle.py_demands.proofs.AimRows.{aimed_frame}
use Rattle.py_demands.proofs.Closed.{sets_at, anywhere}
use Rattle.py_demands.proofs.ExactRows.{behind_first, exactly_frame, exactly_joined}
use Rattle.py_demands.proofs.Found.{is_expression, IsFound, AreFound, IsKept, target_top}
use Rattle.py_demands.proofs.FoundClosed.{stays, stays_low}
use Rattle.py_demands.proofs.ItemFollowed.{are_clear, never_there, IsFollowable, Followed, Stopped, followed}
use Rattle.py_demands.proofs.ItemSteps.{aims_first}
use Rattle.py_demands.proofs.LowRows.{least_joined}
use Rattle.py_demands.proofs.ItemTurned.{ends_joined, tuple_targets, item_turned, item_turned_by_row}
use Rattle.py_demands.proofs.ReadingsLow.{settled_reading, more_so, of_asks, plainly_of, none_paired, is_tame, all_tame, tame_kept, inner_quiet, ready_calm, calm_item}
use Rattle.py_demands.proofs.ReadSettled.{Tailed, tail_found, TailAsked, tail_asked, demands_below, turned_many, turned_is, exactly_there, last_so, IsSettled, stays_read, settled_read_law}
use Rattle.py_demands.proofs.Shut.{Shut, shut}
use Rattle.py_demands.proofs.Turning.{specimens_first, specimens_last}
use Rattle.std.proofs.lemmas.Option.{same_Some}

-- the reading goes on over the item, and nothing in it can't be a target
pub simply_never : (qs : List Ask) → has_never (map Simply qs) ≡ false
simply_never [] = refl
simply_never (q ∷ qs) = simply_never qs

among_is : (o : Option (List Aim)) (aims : List Aim) → among o ≡ Some (Among aims) → (o ≡ Some aims) × (has_never aims ≡ false)
among_is None aims h = absurd (cc)
among_is (Some others) aims h = go (has_never others) refl h
  where
    go : (b : Bool) → has_never others ≡ b → (if b then None else Some (Among others)) ≡ Some (Among aims) → (Some others ≡ Some aims) × (has_never aims ≡ false)
    go true n h = absurd (cc)
    go false n h = let same : others ≡ aims = cc in (ap Some same, ap has_never (sym same) ∙ n)

clear_so : (item rest : List Symbol) (base aims : List Aim) → reading (Do AddItem ∷ rest) ≡ Some (Among base) → has_never base ≡ false → reading (item ++ Do AddItem ∷ rest) ≡ Some (Among aims)
    → (aimed item (Some base) ≡ Some aims) × (are_clear item (Some base) ≡ true) × (has_never aims ≡ false)
clear_so [] rest base aims e n h = let same : base ≡ aims = (let both : Some (Among base) ≡ Some (Among aims) = sym e ∙ h in cc) in (ap Some same, refl, ap has_never (sym same) ∙ n)
clear_so (s ∷ item) rest base aims e n h = go (reading (item ++ Do AddItem ∷ rest)) refl h (λ bs k. clear_so item rest base bs e n k)
  where
    go : (o : Option Reading) → reading (item ++ Do AddItem ∷ rest) ≡ o → reading_before s o ≡ Some (Among aims)
        → ((bs : List Aim) → reading (item ++ Do AddItem ∷ rest) ≡ Some (Among bs) → (aimed item (Some base) ≡ Some bs) × (are_clear item (Some base) ≡ true) × (has_never bs ≡ false))
        → (aimed (s ∷ item) (Some base) ≡ Some aims) × (are_clear (s ∷ item) (Some base) ≡ true) × (has_never aims ≡ false)
    go None o k again = absurd (cc)
    go (Some (Settled qs)) o k again = absurd (stays_read item rest base qs e (subst (λ (r : Option Reading). IsSettled r qs) (sym o) refl))
    go (Some (Among bs)) o k again =
        let r = again bs o in
        let a = among_is (aims_symbol s bs) aims k in
        let none : not (never_there (aimed item (Some base))) ≡ true = ap (λ (w : Option (List Aim)). not (never_there w)) r.0 ∙ ap not r.2 in
        (ap (aims_before s) r.0 ∙ a.0, both (not (never_there (aimed item (Some base)))) (are_clear item (Some base)) none r.1, a.1)

never_front : (aims others : List Aim) → has_never (aims ++ others) ≡ false → has_never aims ≡ false
never_front [] others h = refl
never_front (Never ∷ aims) others h = h
never_front (Simply q ∷ aims) others h = never_front aims others h
never_front (Targets n ∷ aims) others h = never_front aims others h
never_front (Target n ∷ aims) others h = never_front aims others h
never_front (MayTarget n ∷ aims) others h = never_front aims others h

clear_alone : (item : List Symbol) (base cs others : List Aim) → are_clear item (Some (base ++ cs)) ≡ true → aimed item (Some base) ≡ Some others → are_clear item (Some base) ≡ true
clear_alone [] base cs others h e = refl
clear_alone (s ∷ item) base cs others h e =
    let b = aims_first s item (Some base) others e in
    let all : has_never (b.0 ++ cs) ≡ false = sym (ap never_there (aimed_frame item base b.0 cs b.1)) ∙ not_true (never_there (aimed item (Some (base ++ cs)))) (and_left (not (never_there (aimed item (Some (base ++ cs))))) (are_clear item (Some (base ++ cs))) h) in
    both (not (never_there (aimed item (Some base)))) (are_clear item (Some base)) (ap (λ (w : Option (List Aim)). not (never_there w)) b.1 ∙ ap not (never_front b.0 cs all))
    (clear_alone item base cs b.0 (and_right (not (never_there (aimed item (Some (base ++ cs))))) (are_clear item (Some (base ++ cs))) h) b.1)
  where
    not_true : (b : Bool) → not b ≡ true → b ≡ false
    not_true true h = (cc)
    not_true false h = refl

-- what is asked of the parts of the item
closed_paired : (q : Ask) (e : Entry) → is_open q ≡ false → ArePaired q (of_ask q e)
closed_paired NoNode e h = tt
closed_paired (AtLeast n) e h = refl
closed_paired (WithinAtLeast n) e h = refl
closed_paired (OpenAtLeast n) e h = absurd (cc)

chosen_so : (b : Bool) (d u : Demand) → (if b then Some u else None) ≡ Some d → (b ≡ true) × (d ≡ u)
chosen_so true d u h = (refl, sym (same_Some u d h))
chosen_so false d u h = absurd (cc)

is_closed : (q : Ask) → not (is_open q) ≡ true → is_open q ≡ false
is_closed (OpenAtLeast n) h = absurd (cc)
is_closed q h = refl

aim_found : (aim : Aim) (e : Entry) (d : Demand) → is_tame aim ≡ true → of_aim aim e ≡ Some d → IsFound aim e d
aim_found (Simply q) e d t h = (is_closed q t, subst (ArePaired q) (same_Some (of_ask q e) d h) (closed_paired q e (is_closed q t)))
aim_found (Targets n) e d t h = absurd (cc)
aim_found (Target n) e d t h = let c = chosen_so (target_last (e ∷ [])) d (Whole n) h in (c.1, λ x. c.0)
aim_found (MayTarget n) e d t h = λ x. sym (same_Some (Whole (if target_last (e ∷ []) then n else suc n)) d h)
aim_found Never e d t h = absurd (cc)

record Parted (alone others : List Aim) (es : List Entry) (ws : List Demand) : Type 0 where
  asked : List Demand
  lower : List Entry
  behind : List Demand
  all : ws ≡ asked ++ behind
  found : AreFound lower alone es asked
  rest : of_aims others lower ≡ Some behind

parted : (alone others : List Aim) (es : List Entry) (ws : List Demand) → all_tame alone ≡ true → of_aims (alone ++ others) es ≡ Some ws → Parted alone others es ws
parted [] others es ws t h = record { asked = []; lower = es; behind = ws; all = refl; found = refl; rest = h }
parted (aim ∷ alone) others [] ws t h = absurd (cc)
parted (aim ∷ alone) others (e ∷ es) ws t h =
    let m = more_so (of_aim aim e) (of_aims (alone ++ others) es) ws h in
    let r = parted alone others es m.1 (and_right (is_tame aim) (all_tame alone) t) m.3 in
    record { asked = m.0 ∷ r.asked; lower = r.lower; behind = r.behind; all = m.4 ∙ ap (λ (l : List Demand). m.0 ∷ l) r.all; found = (aim_found aim e m.0 (and_left (is_tame aim) (all_tame alone) t) m.2, r.found); rest = r.rest }

simply_many : (qs : List Ask) (es : List Entry) (ws : List Demand) → of_aims (map Simply qs) es ≡ Some ws → length qs ≡ length es
simply_many [] [] ws h = refl
simply_many [] (e ∷ es) ws h = absurd (cc)
simply_many (q ∷ qs) [] ws h = absurd (cc)
simply_many (q ∷ qs) (e ∷ es) ws h = let m = more_so (of_aim (Simply q) e) (of_aims (map Simply qs) es) ws h in ap suc (simply_many qs es m.1 m.3)

record TupleAsked (n : ℕ) (below : List Ask) (lower : List Entry) (behind : List Demand) : Type 0 where
  low : List Demand
  behind_is : behind ≡ Assigned n ∷ low
  tuple : targets_last lower ≡ true
  turned : AllPairedTurned below low

tuple_asked : (n : ℕ) (below : List Ask) (lower : List Entry) (behind : List Demand) → none_open below ≡ true → of_aims (Targets n ∷ map Simply below) lower ≡ Some behind → TupleAsked n below lower behind
tuple_asked n below [] behind c h = absurd (cc)
tuple_asked n below (e ∷ es) behind c h =
    let m = more_so (of_aim (Targets n) e) (of_aims (map Simply below) es) behind h in
    let s = chosen_so (targets_last (e ∷ [])) m.0 (Assigned n) m.2 in
    let many = simply_many below es m.1 m.3 in
    let same : of_asks below es ≡ m.1 = same_Some (of_asks below es) m.1 (sym (plainly_of below es many) ∙ m.3) in
    record { low = m.1; behind_is = m.4 ∙ ap (λ (d : Demand). d ∷ m.1) s.1; tuple = last_so e es s.0; turned = subst (AllPairedTurned below) same (none_paired below es many c) }

-- what is aimed at stands alone
abbrev is_simple : Aim → Bool
is_simple (Simply q) = true
is_simple Never = true
is_simple aim = false

abbrev has_none : List Aim → Bool
has_none [] = true
has_none (aim ∷ aims) = false

abbrev is_lone : List Aim → Bool
is_lone [] = true
is_lone (aim ∷ aims) = (is_simple aim || has_none aims) && is_lone aims

simple_more : {A : Type 0} (f : A → Aim) (these : List A) (aims : List Aim) → ((a : A) → is_simple (f a) ≡ true) → is_lone aims ≡ true → is_lone (map f these ++ aims) ≡ true
simple_more f [] aims s h = h
simple_more f (a ∷ these) aims s h = both (is_simple (f a) || has_none (map f these ++ aims)) (is_lone (map f these ++ aims)) (ap (λ (b : Bool). b || has_none (map f these ++ aims)) (s a)) (simple_more f these aims s h)

by_simple : (aim : Aim) (role : Role) → is_simple (aim_by aim role) ≡ true
by_simple (Simply q) role = refl
by_simple (Targets n) role = refl
by_simple (Target n) role = refl
by_simple (MayTarget n) role = refl
by_simple Never role = refl

least_simple : (aim : Aim) (l : Least) → is_simple aim ≡ true → is_simple (aim_least aim l) ≡ true
least_simple (Simply q) l h = refl
least_simple (Targets n) l h = absurd (cc)
least_simple (Target n) l h = absurd (cc)
least_simple (MayTarget n) l h = absurd (cc)
least_simple Never (As Lost) h = refl
least_simple Never l h = refl

nonterminal_lone : (x : Nonterminal) (w : Way) (aim : Aim) (aims : List Aim) → way x ≡ w → is_lone (aim ∷ aims) ≡ true → is_lone (map (aim_least (gone w aim)) (low x) ++ aims) ≡ true
nonterminal_lone x w aim aims e h = go w aim e h
  where
    rest : (aim : Aim) → is_lone (aim ∷ aims) ≡ true → is_lone aims ≡ true
    rest aim h = and_right (is_simple aim || has_none aims) (is_lone aims) h

    simply : (aim : Aim) → is_simple aim ≡ true → is_lone aims ≡ true → is_lone (map (aim_least aim) (low x) ++ aims) ≡ true
    simply aim s h = simple_more (aim_least aim) (low x) aims (λ l. least_simple aim l s) h

    kept : (aim from : Aim) → stays (way x) ≡ true → is_simple from ≡ false → aim_least aim (As Kept) ≡ aim → is_lone (from ∷ aims) ≡ true → is_lone (map (aim_least aim) (low x) ++ aims) ≡ true
    kept aim from s f a h =
        let alone : has_none aims ≡ true = sym (ap (λ (b : Bool). b || has_none aims) f) ∙ and_left (is_simple from || has_none aims) (is_lone aims) h in
        ap (λ (l : List Least). is_lone (map (aim_least aim) l ++ aims)) (stays_low x s) ∙ both (is_simple (aim_least aim (As Kept)) || has_none aims) (is_lone aims) (last (is_simple (aim_least aim (As Kept))) alone) (rest from h)
      where
        last : (b : Bool) → has_none aims ≡ true → (b || has_none aims) ≡ true
        last true k = refl
        last false k = k

    go : (w : Way) (aim : Aim) → way x ≡ w → is_lone (aim ∷ aims) ≡ true → is_lone (map (aim_least (gone w aim)) (low x) ++ aims) ≡ true
    go w (Simply q) e h = simply (Simply q) refl (rest (Simply q) h)
    go w (Targets n) e h = simply (Simply (OpenAtLeast n)) refl (rest (Targets n) h)
    go w Never e h = simply Never refl (rest Never h)
    go Keeps (Target n) e h = kept (Target n) (Target n) (ap stays e) refl refl h
    go Keeps (MayTarget n) e h = kept (MayTarget n) (MayTarget n) (ap stays e) refl refl h
    go Extends (Target n) e h = kept (MayTarget n) (Target n) (ap stays e) refl refl h
    go Extends (MayTarget n) e h = kept (MayTarget n) (MayTarget n) (ap stays e) refl refl h
    go Makes (Target n) e h = simply (Simply (AtLeast n)) refl (rest (Target n) h)
    go Makes (MayTarget n) e h = simply (Simply (AtLeast n)) refl (rest (MayTarget n) h)
    go Differs (Target n) e h = simply Never refl (rest (Target n) h)
    go Differs (MayTarget n) e h = simply (Simply (AtLeast (suc n))) refl (rest (MayTarget n) h)

symbol_lone : (s : Symbol) (aims others : List Aim) → aims_symbol s aims ≡ Some others → is_lone aims ≡ true → is_lone others ≡ true
symbol_lone (Tok k) [] others e h = absurd (cc)
symbol_lone (Tok k) (aim ∷ aims) others e h = subst (λ (l : List Aim). is_lone l ≡ true) (same_Some aims others e) (and_right (is_simple aim || has_none aims) (is_lone aims) h)
symbol_lone (Non x) [] others e h = absurd (cc)
symbol_lone (Non x) (aim ∷ aims) others e h = subst (λ (l : List Aim). is_lone l ≡ true) (same_Some _ others e) (nonterminal_lone x (way x) aim aims refl h)
symbol_lone (Do a) aims others e h = go (leaves a) aims e h
  where
    leaves : (a : Action) → (a ≡ Drop) ⊎ (((aim : Aim) (aims : List Aim) → aims_by a (aim ∷ aims) ≡ Some (map (aim_by (made_by a aim)) (roles a) ++ aims)) × (aims_by a [] ≡ None))
    leaves Drop = inl refl
    leaves _ = inr ((λ aim aims. refl), refl)

    go : (a ≡ Drop) ⊎ (((aim : Aim) (aims : List Aim) → aims_by a (aim ∷ aims) ≡ Some (map (aim_by (made_by a aim)) (roles a) ++ aims)) × (aims_by a [] ≡ None)) → (aims : List Aim) → aims_by a aims ≡ Some others → is_lone aims ≡ true → is_lone others ≡ true
    go (inl is) aims e h = subst (λ (l : List Aim). is_lone l ≡ true) (same_Some (Simply NoNode ∷ aims) others (sym (ap (λ (b : Action). aims_by b aims) is) ∙ e)) h
    go (inr (one, two)) [] e h = let none : None ≡ Some others = sym two ∙ e in absurd (cc)
    go (inr (one, two)) (aim ∷ aims) e h =
        subst (λ (l : List Aim). is_lone l ≡ true) (same_Some _ others (sym (one aim aims) ∙ e)) (simple_more (aim_by (made_by a aim)) (roles a) aims (by_simple (made_by a aim)) (and_right (is_simple aim || has_none aims) (is_lone aims) h))

lone_kept : (symbols : List Symbol) (base others : List Aim) → aimed symbols (Some base) ≡ Some others → is_lone base ≡ true → is_lone others ≡ true
lone_kept [] base others e h = subst (λ (l : List Aim). is_lone l ≡ true) (same_Some base others e) h
lone_kept (s ∷ symbols) base others e h = let b = aims_first s symbols (Some base) others e in symbol_lone s b.0 others (sym (ap (aims_before s) b.1) ∙ e) (lone_kept symbols base b.0 b.1 h)

none_behind : (n : ℕ) (aims : List Aim) (es : List Entry) → is_lone (Target n ∷ aims) ≡ true → IsKept aims es → ⊥
none_behind n [] es h k = k
none_behind n (aim ∷ aims) es h k = absurd (cc)

-- an attribute is made of an operand that is no target yet
abbrev dotted : List Symbol
dotted = the_dot ∷ Non AnyName ∷ Do MakeAttribute ∷ Non AttributeTail ∷ []

dotted_row : (x : Nonterminal) → way x ≡ Extends → IsRow (row dotted) (rows x)
dotted_row PrimaryTail h = inr (inl refl)
dotted_row AttributeTail h = inr (inl refl)
dotted_row x h = absurd (cc)

dotted_left : (p : Place) (e : Entry) (es new : List Entry) → is_expression e ≡ true → ends 100 p dotted (e ∷ es) ≡ Some new → (a : Place) × (new ≡ entry (ExprShape TargetForm false) a ∷ es)
dotted_left p (entry (ExprShape f k) a) es new h e = (a, sym (same_Some _ new e))
dotted_left p e es new h k = absurd (cc)

dotted_asks : (n : ℕ) (ds : List Demand) → exactly dotted (Some (Whole n ∷ ds)) ≡ Some (Whole (suc n) ∷ ds)
dotted_asks n ds = refl

item_expression : (e : Entry) (es new : List Entry) (events : List Event) → effect_add_item (e ∷ es) ≡ Some (effect new events) → is_expression e ≡ true
item_expression (entry (ExprShape f k) b) es new events h = refl
item_expression e es new events h = no_effect h

single_rest : (item rest : List Symbol) → are_inner item ≡ true → are_single (item ++ Do AddItem ∷ rest) ≡ true → are_single rest ≡ true
single_rest [] rest i h = h
single_rest (Tok k ∷ item) rest i h = single_rest item rest i h
single_rest (Do a ∷ item) rest i h = single_rest item rest (and_right _ (are_inner item) i) h
single_rest (Non x ∷ item) rest i h =
    single_rest item rest (and_right (is_inner x) (are_inner item) i) (sym (ap (λ (b : Bool). if b then are_single (item ++ Do AddItem ∷ rest) else are_quiet (item ++ Do AddItem ∷ rest)) (and_left (is_inner x) (are_inner item) i)) ∙ h)

-- the item is a target in the end, and its tuple stands below it
record Ended (n : ℕ) (lower es : List Entry) (ds : List Demand) : Type 0 where
  part : Entry
  parts_are : es ≡ part ∷ lower
  asked_is : ds ≡ Whole n ∷ []
  target : is_expression part ≡ true → target_last (part ∷ []) ≡ true

ended : (n : ℕ) (lower es : List Entry) (ds : List Demand) → AreFound lower (Target n ∷ []) es ds → Ended n lower es ds
ended n lower [] ds h = absurd h
ended n lower (e ∷ es) [] h = absurd h
ended n lower (e ∷ es) (d ∷ []) h = record { part = e; parts_are = ap (λ (l : List Entry). e ∷ l) h.1; asked_is = ap (λ (x : Demand). x ∷ []) h.0.0; target = h.0.1 }
ended n lower (e ∷ es) (d ∷ (u ∷ ds)) h = absurd h.1

ended_target : (n : ℕ) (symbols : List Symbol) (lower es : List Entry) (ds : List Demand) → Ended n lower es ds → Fit (Do AddItem ∷ symbols) es → target_last es ≡ true
ended_target n symbols lower es ds e f =
    let added : effect_add_item (e.part ∷ lower) ≡ Some (effect f.0 f.1) = sym (ap effect_add_item e.parts_are) ∙ f.2 in
    ap target_last e.parts_are ∙ target_top e.part lower ∙ e.target (item_expression e.part lower f.0 f.1 added)

among_read : (front : List Token) (item above rest : List Symbol) (x : Nonterminal) (v : Parts) (n : ℕ) (below : List Ask) (alone : List Aim) (ws : List Demand) (p : Place) → is_tail x ≡ true → are_within above ≡ true → TailAsked above x rest
    → AtFront front [] (item ++ Do AddItem ∷ (above ++ Non x ∷ rest)) v → have_specimens table sets (item ++ Do AddItem ∷ (above ++ Non x ∷ rest)) ≡ true
    → least (above ++ Non x ∷ rest) (Some (AtLeast 0 ∷ [])) ≡ Some (OpenAtLeast n ∷ below) → (zs : List Demand) → exactly (above ++ Non x ∷ rest) (Some (Whole 0 ∷ [])) ≡ Some zs → none_open below ≡ true
    → IsFollowable p item (Target n ∷ []) → aimed item (Some (Target n ∷ [])) ≡ Some alone → of_aims (alone ++ Targets n ∷ map Simply below) (entries_of v) ≡ Some ws → IsReached front v ws p
among_read front item above rest x v n below alone ws p tail within t at_front specimens asks zs demands closed followable aims read = go (followed p item (Do AddItem ∷ (above ++ Non x ∷ rest)) v r.lower (Target n ∷ []) alone r.asked followable at_front.fit aims refl r.found)
  where
    calm_tame : all_tame alone ≡ true
    calm_tame = tame_kept item (Target n ∷ []) alone (inner_quiet item followable.0) followable.1 refl aims

    r : Parted alone (Targets n ∷ map Simply below) (entries_of v) ws
    r = parted alone (Targets n ∷ map Simply below) (entries_of v) ws calm_tame read

    tuple : TupleAsked n below r.lower r.behind
    tuple = tuple_asked n below r.lower r.behind closed r.rest

    ws_are : ws ≡ r.asked ++ Assigned n ∷ tuple.low
    ws_are = r.all ∙ ap (λ (l : List Demand). r.asked ++ l) tuple.behind_is

    low_is : (ds : List Demand) → AllPairedTurned below ds → ds ≡ tuple.low
    low_is ds h = turned_is below ds tuple.low h tuple.turned

    asks_above : least above (Some t.asks) ≡ Some (OpenAtLeast n ∷ below)
    asks_above = sym (ap (least above) t.asks_are) ∙ sym (least_joined above (Non x ∷ rest) (Some (AtLeast 0 ∷ []))) ∙ asks

    there : (us : List Demand) × (exactly above (Some t.assigned) ≡ Some us) × (length zs ≡ length us)
    there =
        exactly_there above t.demands t.assigned zs (sym t.many ∙ turned_many t.asks t.assigned t.turned)
        (sym (ap (exactly above) t.demands_are) ∙ sym (exactly_joined above (Non x ∷ rest) (Some (Whole 0 ∷ []))) ∙ demands)

    above_specimens : have_specimens table (sets_at p) above ≡ true
    above_specimens = anywhere p above (specimens_first above (Non x ∷ rest) (specimens_last item (Do AddItem ∷ (above ++ Non x ∷ rest)) specimens))

    tuple_so : (m : ℕ) (es : List Entry) (ds : List Demand) → Ended m r.lower es ds → tuple_targets es ≡ true
    tuple_so m es ds e = ap tuple_targets e.parts_are ∙ tuple.tuple

    straight : Followed p item (Do AddItem ∷ (above ++ Non x ∷ rest)) v r.lower (Target n ∷ []) r.asked → IsReached front v ws p
    straight f =
        let e = ended n r.lower (entries_of f.left) f.asked f.found in
        let same : item ++ Do AddItem ∷ (above ++ Non x ∷ rest) ≡ (item ++ Do AddItem ∷ above) ++ Non x ∷ rest = sym (append_assoc item (Do AddItem ∷ above) (Non x ∷ rest)) in
        item_turned front item above rest x v f.left n below t.asks t.assigned ws p tail within t.adds (subst (λ (l : List Symbol). AtFront front [] l v) same at_front)
        (sym (ap (have_specimens table sets) same) ∙ specimens) above_specimens asks_above t.on_top t.assigned_are t.turned there.0 there.1 f.ends_so f.fit (ended_target n (above ++ Non x ∷ rest) r.lower (entries_of f.left) f.asked e f.fit) (tuple_so n (entries_of f.left) f.asked e)
        (λ ds h.
        exactly_frame item (Whole n ∷ []) r.asked (Assigned n ∷ ds) (sym (ap (λ (l : List Demand). exactly item (Some l)) e.asked_is) ∙ f.exact)
        ∙ ap (λ (l : List Demand). Some (r.asked ++ Assigned n ∷ l)) (low_is ds h) ∙ ap Some (sym ws_are))

    by_row : Stopped p item (Do AddItem ∷ (above ++ Non x ∷ rest)) v r.lower (Target n ∷ []) alone r.asked → IsReached front v ws p
    by_row s = further (dotted_left p s.part s.lower (entries_of l.left) s.expression (sym (ap (ends 100 p dotted) s.parts_are) ∙ l.ends_so))
      where
        l : Shut 100 p dotted (s.last ++ Do AddItem ∷ (above ++ Non x ∷ rest)) s.left 1 1
        l = shut 100 p dotted (s.last ++ Do AddItem ∷ (above ++ Non x ∷ rest)) s.left (AtLeast 0 ∷ []) (AtLeast 1 ∷ []) refl (anywhere p dotted refl) (row_fits s.tail (row dotted) s.left (s.last ++ Do AddItem ∷ (above ++ Non x ∷ rest)) (dotted_row s.tail s.extends) refl s.fit.0 s.fit.1) refl

        lone : is_lone (Target s.above ∷ s.rest) ≡ true
        lone = lone_kept s.last (Target n ∷ []) (Target s.above ∷ s.rest) s.aims_are refl

        further : (a : Place) × (entries_of l.left ≡ entry (ExprShape TargetForm false) a ∷ s.lower) → IsReached front v ws p
        further (a, is) = at_last (followed p s.last (Do AddItem ∷ (above ++ Non x ∷ rest)) l.left r.lower (Target n ∷ []) (Target s.above ∷ s.rest) (Whole s.above ∷ s.asked) s.last_so l.fit s.aims_are refl found)
          where
            on_top : AreFound r.lower (Target s.above ∷ s.rest) (entry (ExprShape TargetForm false) a ∷ s.lower) (Whole s.above ∷ s.asked)
            on_top = ((refl, λ h. refl), s.found)

            found : AreFound r.lower (Target s.above ∷ s.rest) (entries_of l.left) (Whole s.above ∷ s.asked)
            found = subst (λ (es : List Entry). AreFound r.lower (Target s.above ∷ s.rest) es (Whole s.above ∷ s.asked)) (sym is) on_top

            target_kept : IsKept (Target s.above ∷ s.rest) (entry (ExprShape TargetForm false) a ∷ s.lower)
            target_kept = inl (λ h. refl)

            at_last : Followed p s.last (Do AddItem ∷ (above ++ Non x ∷ rest)) l.left r.lower (Target n ∷ []) (Whole s.above ∷ s.asked)
                ⊎ Stopped p s.last (Do AddItem ∷ (above ++ Non x ∷ rest)) l.left r.lower (Target n ∷ []) (Target s.above ∷ s.rest) (Whole s.above ∷ s.asked) → IsReached front v ws p
            at_last (inr o) =
                absurd (none_behind o.above o.rest o.lower (lone_kept o.last (Target n ∷ []) (Target o.above ∷ o.rest) o.aims_are refl) (o.lost (subst (IsKept (Target s.above ∷ s.rest)) (sym is) target_kept)))
            at_last (inl f) =
                item_turned_by_row front s.first dotted s.last above rest s.tail x v f.left (entries_of s.left) n below t.asks t.assigned (Whole (suc s.above) ∷ s.asked ++ Assigned n ∷ tuple.low) ws p (dotted_row s.tail s.extends) tail within t.adds
                (subst (λ (l : List Symbol). AtFront front [] l v) same at_front) (sym (ap (have_specimens table sets) same) ∙ specimens) above_specimens asks_above t.on_top t.assigned_are t.turned there.0 there.1 s.ends_so
                (ends_joined 100 p dotted s.last (entries_of s.left) (entries_of l.left) l.ends_so ∙ f.ends_so) f.fit (ended_target n (above ++ Non x ∷ rest) r.lower (entries_of f.left) f.asked e f.fit) (tuple_so n (entries_of f.left) f.asked e) asked
                (exactly_frame s.first (Whole (suc s.above) ∷ s.asked) r.asked (Assigned n ∷ tuple.low) s.exact ∙ ap Some (sym ws_are))
              where
                e : Ended n r.lower (entries_of f.left) f.asked
                e = ended n r.lower (entries_of f.left) f.asked f.found

                same : item ++ Do AddItem ∷ (above ++ Non x ∷ rest) ≡ s.first ++ (Non s.tail ∷ (s.last ++ Do AddItem ∷ above) ++ Non x ∷ rest)
                same =
                    ap (λ (l : List Symbol). l ++ Do AddItem ∷ (above ++ Non x ∷ rest)) s.item_is ∙ append_assoc s.first (Non s.tail ∷ s.last) (Do AddItem ∷ (above ++ Non x ∷ rest))
                    ∙ ap (λ (l : List Symbol). s.first ++ (Non s.tail ∷ l)) (sym (append_assoc s.last (Do AddItem ∷ above) (Non x ∷ rest)))

                asked : (ds : List Demand) → AllPairedTurned below ds → exactly (dotted ++ s.last) (Some (Whole n ∷ Assigned n ∷ ds)) ≡ Some (Whole (suc s.above) ∷ s.asked ++ Assigned n ∷ tuple.low)
                asked ds h =
                    exactly_joined dotted s.last (Some (Whole n ∷ Assigned n ∷ ds))
                    ∙ ap (exactly dotted) (exactly_frame s.last (Whole n ∷ []) (Whole s.above ∷ s.asked) (Assigned n ∷ ds) (sym (ap (λ (l : List Demand). exactly s.last (Some l)) e.asked_is) ∙ f.exact))
                    ∙ dotted_asks s.above (s.asked ++ Assigned n ∷ ds) ∙ ap (λ (l : List Demand). Some (Whole (suc s.above) ∷ s.asked ++ Assigned n ∷ l)) (low_is ds h)

    go : Followed p item (Do AddItem ∷ (above ++ Non x ∷ rest)) v r.lower (Target n ∷ []) r.asked ⊎ Stopped p item (Do AddItem ∷ (above ++ Non x ∷ rest)) v r.lower (Target n ∷ []) alone r.asked → IsReached front v ws p
    go (inl f) = straight f
    go (inr s) = by_row s

item_read : (front : List Token) (symbols : List Symbol) (v : Parts) (aims : List Aim) (ws : List Demand) (p : Place) (i : Itemed symbols) → Behind front [] (i.item ++ Do AddItem ∷ i.rest) v → are_calm (i.item ++ Do AddItem ∷ i.rest) ≡ true
    → are_single (i.item ++ Do AddItem ∷ i.rest) ≡ true → reading (i.item ++ Do AddItem ∷ i.rest) ≡ Some (Among aims) → of_aims aims (entries_of v) ≡ Some ws → IsReached front v ws p
item_read front symbols v aims ws p i b calm single r w = at_tail (tail_found i.rest (OpenAtLeast n ∷ i.asks.below) (single_rest i.item i.rest i.inner single) i.rest_calm i.asks.rest_is)
  where
    n : ℕ
    n = i.asks.above

    full : List Aim
    full = Target n ∷ Targets n ∷ map Simply i.asks.below

    read_tuple : reading (Do AddItem ∷ i.rest) ≡ Some (Among full)
    read_tuple = ap (reading_before (Do AddItem)) (settled_reading i.rest (OpenAtLeast n ∷ i.asks.below) i.rest_settled i.asks.rest_is)

    clear : (aimed i.item (Some full) ≡ Some aims) × (are_clear i.item (Some full) ≡ true) × (has_never aims ≡ false)
    clear = clear_so i.item i.rest full aims read_tuple (simply_never i.asks.below) r

    aims_are : aims ≡ i.alone ++ Targets n ∷ map Simply i.asks.below
    aims_are = same_Some aims (i.alone ++ Targets n ∷ map Simply i.asks.below) (sym clear.0 ∙ aimed_frame i.item (Target n ∷ []) i.alone (Targets n ∷ map Simply i.asks.below) i.alone_are)

    followable : IsFollowable p i.item (Target n ∷ [])
    followable = (
      i.inner,
      calm_item i.item (Do AddItem ∷ i.rest) calm,
      anywhere p i.item (specimens_first i.item (Do AddItem ∷ i.rest) b.specimens),
      clear_alone i.item (Target n ∷ []) (Targets n ∷ map Simply i.asks.below) i.alone clear.1 i.alone_are,
    )

    demands : (ds : List Demand) × (exactly i.rest (Some (Whole 0 ∷ [])) ≡ Some ds)
    demands = let d = demands_below i.item (Do AddItem ∷ i.rest) b.demands b.exactly_is in behind_first (Do AddItem) i.rest (Some (Whole 0 ∷ [])) d.0 d.1

    at_tail : (none_open (OpenAtLeast n ∷ i.asks.below) ≡ true) ⊎ Tailed i.rest → IsReached front v ws p
    at_tail (inl h) = absurd (cc)
    at_tail (inr t) =
        let adds = sym (ap (λ (l : List Symbol). adds_to_none l (Some (AtLeast 0 ∷ []))) t.symbols_are) ∙ i.rest_settled in
        let asks = sym (ap (λ (l : List Symbol). least l (Some (AtLeast 0 ∷ []))) t.symbols_are) ∙ i.asks.rest_is in
        let exact = sym (ap (λ (l : List Symbol). exactly l (Some (Whole 0 ∷ []))) t.symbols_are) ∙ demands.1 in
        let same : i.item ++ Do AddItem ∷ i.rest ≡ i.item ++ Do AddItem ∷ (t.above ++ Non t.tail ∷ t.rest) = ap (λ (l : List Symbol). i.item ++ Do AddItem ∷ l) t.symbols_are in
        let asked = tail_asked t.above t.rest t.tail (OpenAtLeast n ∷ i.asks.below) demands.0 t.is_one t.quiet t.calm adds asks exact in
        among_read front i.item t.above t.rest t.tail v n i.asks.below i.alone ws p t.is_one t.within asked (subst (λ (l : List Symbol). AtFront front [] l v) same b.at_front) (sym (ap (have_specimens table sets) same) ∙ b.specimens) asks
        demands.0 exact i.none_open_below followable i.alone_are (sym (ap (λ (l : List Aim). of_aims l (entries_of v)) aims_are) ∙ w)

-- a reading without an item stays so
adds_settled : (symbols : List Symbol) (asks : List Ask) (aims : List Aim) → adds_to_none symbols (Some (AtLeast 0 ∷ [])) ≡ true → least symbols (Some (AtLeast 0 ∷ [])) ≡ Some asks → reading symbols ≡ Some (Among aims) → ⊥
adds_settled symbols asks aims h e r = let no : Some (Settled asks) ≡ Some (Among aims) = sym (settled_reading symbols asks h e) ∙ r in absurd (cc)

pub reached_read_law : ReachedReadLaw
reached_read_law front symbols v ws b y acts w p = go (reading symbols) refl w
  where
    at_item : (aims : List Aim) → reading symbols ≡ Some (Among aims) → of_aims aims (entries_of v) ≡ Some ws → (adds_to_none symbols (Some (AtLeast 0 ∷ [])) ≡ true) ⊎ Itemed symbols → IsReached front v ws p
    at_item aims r w (inl h) = absurd (adds_settled symbols b.asks aims h b.least_is r)
    at_item aims r w (inr i) =
        item_read front symbols v aims ws p i (subst (λ (l : List Symbol). Behind front [] l v) i.symbols_are b) (sym (ap are_calm i.symbols_are) ∙ ready_calm symbols y acts) (sym (ap are_single i.symbols_are) ∙ y.single)
        (sym (ap reading i.symbols_are) ∙ r) w

    go : (o : Option Reading) → reading symbols ≡ o → of_reading o (entries_of v) ≡ Some ws → IsReached front v ws p
    go None r w = absurd (cc)
    go (Some (Settled asks)) r w = settled_read_law front symbols v asks ws b y acts r (ap (λ (o : Option Reading). of_reading o (entries_of v)) r ∙ w) p
    go (Some (Among aims)) r w = at_item aims r w y.shaped
