-- One part at most is asked as a whole or as targets.
use Rattle.std.proofs.Common.{◌≡◌, Bool, true, false, not, ◌&&◌, if◌then◌else◌, List, [], ◌∷◌, ◌++◌, map, Some, None, ◌⊎◌, inl, inr, refl, sym, ap, ◌∙◌, subst}
use Rattle.grammars.specs.Grammar.{Tok, Non, Do}
use Rattle.grammars.proofs.Bools.{and_left, and_right, both, not_false}
use Rattle.py_syntax.specs.Build.{Action, Drop, MakeTargets, AddTargets}
use Rattle.py_syntax.specs.Table.{Symbol, Nonterminal, SmallTail, AssignTail}
use Rattle.py_nesting.specs.Outlines.{Plain, Bracket, Tuple}
use Rattle.py_demands.specs.Least.{Ask, NoNode, AtLeast, WithinAtLeast, OpenAtLeast, ask_by, ask_head, ask_all_changed, ask_changed, Least, As, Opened, ask_least, low, before_action, before_symbol, before, least}
use Rattle.py_nesting.specs.Walk.{Demand}
use Rattle.py_demands.specs.Closing.{exactly_by}
use Rattle.py_demands.specs.Paired.{is_open}
use Rattle.py_demands.specs.Ready.{begins_row, are_calm, is_inner, makes_targets, are_quiet, are_single}
use Rattle.py_demands.specs.Roles.{Change, Below, Apart, Loose, Turned, Role, Lost, Head, Through, asked_by, roles}
use Rattle.py_demands.specs.Turning.{is_tail}
use Rattle.py_demands.specs.TurnedPaired.{none_open}
use Rattle.py_demands.proofs.Paired.{drops_or_both}
use Rattle.py_demands.proofs.Steps.{asks_behind}
use Rattle.std.proofs.lemmas.Option.{same_Some}

-- what is asked as a whole or as targets comes from one part, if from any
abbrev pub few_open : List Ask → Bool
few_open [] = true
few_open (q ∷ qs) = if is_open q then none_open qs else few_open qs

abbrev pub passes_change : Change → Bool
passes_change (Below Bracket) = true
passes_change c = false

abbrev pub pass_changes : List Change → Bool
pass_changes [] = true
pass_changes (c ∷ changes) = passes_change c && pass_changes changes

abbrev pub turns_none : List Change → Bool
turns_none [] = true
turns_none (Turned ∷ changes) = false
turns_none (c ∷ changes) = turns_none changes

-- what is asked of the part may be asked as a whole or as targets where that of the whole is
abbrev pub passes : Role → Bool
passes Lost = false
passes (Head l changes) = false
passes (Through changes) = pass_changes changes

-- or there alone
abbrev pub turns_not : Role → Bool
turns_not Lost = true
turns_not (Head l changes) = true
turns_not (Through changes) = turns_none changes

abbrev pub least_passes : Least → Bool
least_passes (As role) = passes role
least_passes Opened = true

abbrev pub least_turns_not : Least → Bool
least_turns_not (As role) = turns_not role
least_turns_not Opened = false

abbrev pub none_turn : List Least → Bool
none_turn [] = true
none_turn (l ∷ ls) = least_turns_not l && none_turn ls

abbrev pub none_pass : List Least → Bool
none_pass [] = true
none_pass (l ∷ ls) = not (least_passes l) && none_pass ls

abbrev pub few_pass : List Least → Bool
few_pass [] = true
few_pass (l ∷ ls) = if least_passes l then none_pass ls else few_pass ls

pub action_few : (a : Action) → makes_targets a ≡ false → (none_turn (map As (roles a)) ≡ true) × (few_pass (map As (roles a)) ≡ true)
action_few MakeTargets h = absurd (cc)
action_few AddTargets h = absurd (cc)
action_few _ h = (refl, refl)

pub low_few : (x : Nonterminal) → is_tail x ≡ false → (none_turn (low x) ≡ true) × (few_pass (low x) ≡ true)
low_few SmallTail h = absurd (cc)
low_few AssignTail h = absurd (cc)
low_few _ h = (refl, refl)

change_closed : (c : Change) (changes : List Change) (q : Ask) → turns_none (c ∷ changes) ≡ true → is_open q ≡ false → is_open (ask_changed c q) ≡ false
change_closed c changes (OpenAtLeast n) h k = absurd (cc)
change_closed (Below l) changes NoNode h k = refl
change_closed (Below l) changes (AtLeast n) h k = refl
change_closed (Below l) changes (WithinAtLeast n) h k = refl
change_closed Apart changes NoNode h k = refl
change_closed Apart changes (AtLeast n) h k = refl
change_closed Apart changes (WithinAtLeast n) h k = refl
change_closed Loose changes NoNode h k = refl
change_closed Loose changes (AtLeast n) h k = refl
change_closed Loose changes (WithinAtLeast n) h k = refl
change_closed Turned changes q h k = absurd (cc)

turns_rest : (c : Change) (changes : List Change) → turns_none (c ∷ changes) ≡ true → turns_none changes ≡ true
turns_rest Turned changes h = absurd (cc)
turns_rest (Below l) changes h = h
turns_rest Apart changes h = h
turns_rest Loose changes h = h

changes_closed : (changes : List Change) (q : Ask) → turns_none changes ≡ true → is_open q ≡ false → is_open (ask_all_changed changes q) ≡ false
changes_closed [] q h k = k
changes_closed (c ∷ changes) q h k = changes_closed changes (ask_changed c q) (turns_rest c changes h) (change_closed c changes q h k)

head_closed : (q : Ask) → is_open (ask_head q) ≡ false
head_closed NoNode = refl
head_closed (AtLeast n) = refl
head_closed (WithinAtLeast n) = refl
head_closed (OpenAtLeast n) = refl

pub role_closed : (role : Role) (q : Ask) → turns_not role ≡ true → is_open q ≡ false → is_open (ask_by q role) ≡ false
role_closed Lost q h k = refl
role_closed (Head l changes) q h k = head_closed (ask_all_changed changes q)
role_closed (Through changes) q h k = changes_closed changes q h k

change_stops : (c : Change) (changes : List Change) (q : Ask) → turns_none (c ∷ changes) ≡ true → passes_change c ≡ false → is_open (ask_changed c q) ≡ false
change_stops (Below Bracket) changes q h k = absurd (cc)
change_stops Turned changes q h k = absurd (cc)
change_stops (Below Plain) changes NoNode h k = refl
change_stops (Below Plain) changes (AtLeast n) h k = refl
change_stops (Below Plain) changes (WithinAtLeast n) h k = refl
change_stops (Below Plain) changes (OpenAtLeast n) h k = refl
change_stops (Below Tuple) changes NoNode h k = refl
change_stops (Below Tuple) changes (AtLeast n) h k = refl
change_stops (Below Tuple) changes (WithinAtLeast n) h k = refl
change_stops (Below Tuple) changes (OpenAtLeast n) h k = refl
change_stops Apart changes NoNode h k = refl
change_stops Apart changes (AtLeast n) h k = refl
change_stops Apart changes (WithinAtLeast n) h k = refl
change_stops Apart changes (OpenAtLeast n) h k = refl
change_stops Loose changes NoNode h k = refl
change_stops Loose changes (AtLeast n) h k = refl
change_stops Loose changes (WithinAtLeast n) h k = refl
change_stops Loose changes (OpenAtLeast n) h k = refl

changes_stop : (changes : List Change) (q : Ask) → turns_none changes ≡ true → pass_changes changes ≡ false → is_open (ask_all_changed changes q) ≡ false
changes_stop [] q h k = absurd (cc)
changes_stop (c ∷ changes) q h k = go (passes_change c) refl k (λ l. changes_stop changes (ask_changed c q) (turns_rest c changes h) l)
  where
    go : (b : Bool) → passes_change c ≡ b → (b && pass_changes changes) ≡ false → (pass_changes changes ≡ false → is_open (ask_all_changed changes (ask_changed c q)) ≡ false) → is_open (ask_all_changed changes (ask_changed c q)) ≡ false
    go true e k again = again k
    go false e k again = changes_closed changes (ask_changed c q) (turns_rest c changes h) (change_stops c changes q h e)

pub role_stops : (role : Role) (q : Ask) → turns_not role ≡ true → passes role ≡ false → is_open (ask_by q role) ≡ false
role_stops Lost q h k = refl
role_stops (Head l changes) q h k = head_closed (ask_all_changed changes q)
role_stops (Through changes) q h k = changes_stop changes q h k

pub least_closed : (l : Least) (q : Ask) → least_turns_not l ≡ true → is_open q ≡ false → is_open (ask_least q l) ≡ false
least_closed (As role) q h k = role_closed role q h k
least_closed Opened q h k = absurd (cc)

pub least_stops : (l : Least) (q : Ask) → least_turns_not l ≡ true → least_passes l ≡ false → is_open (ask_least q l) ≡ false
least_stops (As role) q h k = role_stops role q h k
least_stops Opened q h k = absurd (cc)

pub none_few : (qs : List Ask) → none_open qs ≡ true → few_open qs ≡ true
none_few [] h = refl
none_few (q ∷ qs) h = ap (λ (b : Bool). if b then none_open qs else few_open qs) (not_false (is_open q) (and_left (not (is_open q)) (none_open qs) h)) ∙ none_few qs (and_right (not (is_open q)) (none_open qs) h)

none_leasts : (ls : List Least) (q : Ask) (qs : List Ask) → none_turn ls ≡ true → is_open q ≡ false → none_open qs ≡ true → none_open (map (ask_least q) ls ++ qs) ≡ true
none_leasts [] q qs h k n = n
none_leasts (l ∷ ls) q qs h k n =
    both (not (is_open (ask_least q l))) (none_open (map (ask_least q) ls ++ qs)) (ap not (least_closed l q (and_left (least_turns_not l) (none_turn ls) h) k))
    (none_leasts ls q qs (and_right (least_turns_not l) (none_turn ls) h) k n)

few_leasts : (ls : List Least) (q : Ask) (qs : List Ask) → none_turn ls ≡ true → is_open q ≡ false → few_open qs ≡ true → few_open (map (ask_least q) ls ++ qs) ≡ true
few_leasts [] q qs h k n = n
few_leasts (l ∷ ls) q qs h k n =
    ap (λ (b : Bool). if b then none_open (map (ask_least q) ls ++ qs) else few_open (map (ask_least q) ls ++ qs)) (least_closed l q (and_left (least_turns_not l) (none_turn ls) h) k)
    ∙ few_leasts ls q qs (and_right (least_turns_not l) (none_turn ls) h) k n

none_passed : (ls : List Least) (q : Ask) (qs : List Ask) → none_turn ls ≡ true → none_pass ls ≡ true → none_open qs ≡ true → none_open (map (ask_least q) ls ++ qs) ≡ true
none_passed [] q qs h k n = n
none_passed (l ∷ ls) q qs h k n =
    both (not (is_open (ask_least q l))) (none_open (map (ask_least q) ls ++ qs))
    (ap not (least_stops l q (and_left (least_turns_not l) (none_turn ls) h) (not_false (least_passes l) (and_left (not (least_passes l)) (none_pass ls) k))))
    (none_passed ls q qs (and_right (least_turns_not l) (none_turn ls) h) (and_right (not (least_passes l)) (none_pass ls) k) n)

few_passed : (ls : List Least) (q : Ask) (qs : List Ask) → none_turn ls ≡ true → few_pass ls ≡ true → none_open qs ≡ true → few_open (map (ask_least q) ls ++ qs) ≡ true
few_passed [] q qs h k n = none_few qs n
few_passed (l ∷ ls) q qs h k n = go (least_passes l) refl k (λ m. few_passed ls q qs (and_right (least_turns_not l) (none_turn ls) h) m n)
  where
    turned : none_turn ls ≡ true
    turned = and_right (least_turns_not l) (none_turn ls) h

    open_or_not : (b : Bool) → none_open (map (ask_least q) ls ++ qs) ≡ true → (if b then none_open (map (ask_least q) ls ++ qs) else few_open (map (ask_least q) ls ++ qs)) ≡ true
    open_or_not true r = r
    open_or_not false r = none_few (map (ask_least q) ls ++ qs) r

    go : (b : Bool) → least_passes l ≡ b → (if b then none_pass ls else few_pass ls) ≡ true → (few_pass ls ≡ true → few_open (map (ask_least q) ls ++ qs) ≡ true) → few_open (map (ask_least q) (l ∷ ls) ++ qs) ≡ true
    go true e k again = open_or_not (is_open (ask_least q l)) (none_passed ls q qs turned k n)
    go false e k again =
        ap (λ (b : Bool). if b then none_open (map (ask_least q) ls ++ qs) else few_open (map (ask_least q) ls ++ qs)) (least_stops l q (and_left (least_turns_not l) (none_turn ls) h) e)
        ∙ again k

pub few_behind : (ls : List Least) (q : Ask) (qs : List Ask) → none_turn ls ≡ true → few_pass ls ≡ true → few_open (q ∷ qs) ≡ true → few_open (map (ask_least q) ls ++ qs) ≡ true
few_behind ls q qs h k n = go (is_open q) refl n
  where
    go : (b : Bool) → is_open q ≡ b → (if b then none_open qs else few_open qs) ≡ true → few_open (map (ask_least q) ls ++ qs) ≡ true
    go true e n = few_passed ls q qs h k n
    go false e n = few_leasts ls q qs h e n

pub as_leasts : (q : Ask) (these : List Role) → map (ask_least q) (map As these) ≡ map (ask_by q) these
as_leasts q [] = refl
as_leasts q (role ∷ these) = ap (λ (l : List Ask). ask_by q role ∷ l) (as_leasts q these)

pub none_rest : (q : Ask) (qs : List Ask) → none_open (q ∷ qs) ≡ true → (is_open q ≡ false) × (none_open qs ≡ true)
none_rest q qs h = (not_false (is_open q) (and_left (not (is_open q)) (none_open qs) h), and_right (not (is_open q)) (none_open qs) h)

few_rest : (q : Ask) (qs : List Ask) → few_open (q ∷ qs) ≡ true → few_open qs ≡ true
few_rest q qs h = go (is_open q) h
  where
    go : (b : Bool) → (if b then none_open qs else few_open qs) ≡ true → few_open qs ≡ true
    go true k = none_few qs k
    go false k = k

-- before an action that makes no targets
action_keeps : (P : List Ask → Type 0) (a : Action) (qs asks : List Ask) → before_action a qs ≡ Some asks → P (NoNode ∷ qs) → ((q : Ask) (rs : List Ask) → qs ≡ q ∷ rs → P (map (ask_least q) (map As (roles a)) ++ rs)) → P asks
action_keeps P a qs asks e none some = go (drops_or_both a) qs e none some
  where
    go : (a ≡ Drop)
        ⊎ (((q : Ask) (qs : List Ask) → before_action a (q ∷ qs) ≡ Some (map (ask_by q) (roles a) ++ qs)) × ((d : Demand) (ds : List Demand) → exactly_by a (d ∷ ds) ≡ Some (map (asked_by d) (roles a) ++ ds)) × (before_action a [] ≡ None))
        → (qs : List Ask) → before_action a qs ≡ Some asks → P (NoNode ∷ qs) → ((q : Ask) (rs : List Ask) → qs ≡ q ∷ rs → P (map (ask_least q) (map As (roles a)) ++ rs)) → P asks
    go (inl is) qs e none some = subst P (same_Some (NoNode ∷ qs) asks (sym (ap (λ (b : Action). before_action b qs) is) ∙ e)) none
    go (inr (one, two, three)) [] e none some = let no : None ≡ Some asks = sym three ∙ e in absurd (cc)
    go (inr (one, two, three)) (q ∷ rs) e none some =
        subst P (ap (λ (l : List Ask). l ++ rs) (as_leasts q (roles a)) ∙ same_Some (map (ask_by q) (roles a) ++ rs) asks (sym (one q rs) ∙ e)) (some q rs refl)

pub calm_makes_none : (a : Action) → not (begins_row a) ≡ true → makes_targets a ≡ false
calm_makes_none MakeTargets h = absurd (cc)
calm_makes_none AddTargets h = absurd (cc)
calm_makes_none a h = refl

pub symbol_none : (s : Symbol) (qs asks : List Ask) → are_quiet (s ∷ []) ≡ true → are_calm (s ∷ []) ≡ true → before_symbol s qs ≡ Some asks → none_open qs ≡ true → none_open asks ≡ true
symbol_none (Tok k) [] asks h c e n = absurd (cc)
symbol_none (Tok k) (q ∷ qs) asks h c e n = subst (λ (l : List Ask). none_open l ≡ true) (same_Some qs asks e) (none_rest q qs n).1
symbol_none (Do a) qs asks h c e n =
    let few = action_few a (calm_makes_none a (and_left (not (begins_row a)) true c)) in
    action_keeps (λ l. none_open l ≡ true) a qs asks e n
    (λ q rs is. let o = none_rest q rs (subst (λ (l : List Ask). none_open l ≡ true) is n) in none_leasts (map As (roles a)) q rs few.0 o.0 o.1)
symbol_none (Non x) [] asks h c e n = absurd (cc)
symbol_none (Non x) (q ∷ qs) asks h c e n =
    let few = low_few x (not_false (is_tail x) (and_left (not (is_tail x)) true h)) in
    let o = none_rest q qs n in
    subst (λ (l : List Ask). none_open l ≡ true) (same_Some (map (ask_least q) (low x) ++ qs) asks e) (none_leasts (low x) q qs few.0 o.0 o.1)

quiet_first : (s : Symbol) (symbols : List Symbol) → are_quiet (s ∷ symbols) ≡ true → (are_quiet (s ∷ []) ≡ true) × (are_quiet symbols ≡ true)
quiet_first (Tok k) symbols h = (refl, h)
quiet_first (Non x) symbols h = (both (not (is_tail x)) true (and_left (not (is_tail x)) (are_quiet symbols) h) refl, and_right (not (is_tail x)) (are_quiet symbols) h)
quiet_first (Do a) symbols h = (refl, h)

pub calm_first : (s : Symbol) (symbols : List Symbol) → are_calm (s ∷ symbols) ≡ true → (are_calm (s ∷ []) ≡ true) × (are_calm symbols ≡ true)
calm_first (Tok k) symbols h = (refl, h)
calm_first (Non x) symbols h = (refl, h)
calm_first (Do a) symbols h = (both (not (begins_row a)) true (and_left (not (begins_row a)) (are_calm symbols) h) refl, and_right (not (begins_row a)) (are_calm symbols) h)

pub none_kept : (symbols : List Symbol) (qs asks : List Ask) → are_quiet symbols ≡ true → are_calm symbols ≡ true → none_open qs ≡ true → least symbols (Some qs) ≡ Some asks → none_open asks ≡ true
none_kept [] qs asks h c n e = subst (λ (l : List Ask). none_open l ≡ true) (same_Some qs asks e) n
none_kept (s ∷ symbols) qs asks h c n e =
    let b = asks_behind s symbols (Some qs) asks e in
    symbol_none s b.0 asks (quiet_first s symbols h).0 (calm_first s symbols c).0 (sym (ap (before s) b.1) ∙ e) (none_kept symbols qs b.0 (quiet_first s symbols h).1 (calm_first s symbols c).1 n b.1)

tail_is : (x : Nonterminal) → (is_tail x ≡ false) ⊎ ((q : Ask) (qs : List Ask) → none_open (q ∷ qs) ≡ true → few_open (map (ask_least q) (low x) ++ qs) ≡ true)
tail_is SmallTail = inr (λ q qs n. opened q qs (none_rest q qs n).1)
  where
    opened : (q : Ask) (qs : List Ask) → none_open qs ≡ true → few_open (map (ask_least q) (low SmallTail) ++ qs) ≡ true
    opened NoNode qs n = none_few qs n
    opened (AtLeast m) qs n = n
    opened (WithinAtLeast m) qs n = n
    opened (OpenAtLeast m) qs n = n
tail_is AssignTail = inr (λ q qs n. opened q qs (none_rest q qs n).1)
  where
    opened : (q : Ask) (qs : List Ask) → none_open qs ≡ true → few_open (map (ask_least q) (low AssignTail) ++ qs) ≡ true
    opened NoNode qs n = none_few qs n
    opened (AtLeast m) qs n = n
    opened (WithinAtLeast m) qs n = n
    opened (OpenAtLeast m) qs n = n
tail_is x = inl refl

pub few_kept : (symbols : List Symbol) (asks : List Ask) → are_single symbols ≡ true → are_calm symbols ≡ true → least symbols (Some (AtLeast 0 ∷ [])) ≡ Some asks → few_open asks ≡ true
few_kept [] asks h c e = subst (λ (l : List Ask). few_open l ≡ true) (same_Some (AtLeast 0 ∷ []) asks e) refl
few_kept (Tok k ∷ symbols) asks h c e = go b.0 (sym (ap (before (Tok k)) b.1) ∙ e) (few_kept symbols b.0 h c b.1)
  where
    b : (rs : List Ask) × (least symbols (Some (AtLeast 0 ∷ [])) ≡ Some rs)
    b = asks_behind (Tok k) symbols (Some (AtLeast 0 ∷ [])) asks e

    go : (qs : List Ask) → before_symbol (Tok k) qs ≡ Some asks → few_open qs ≡ true → few_open asks ≡ true
    go [] e n = absurd (cc)
    go (q ∷ qs) e n = subst (λ (l : List Ask). few_open l ≡ true) (same_Some qs asks e) (few_rest q qs n)
few_kept (Do a ∷ symbols) asks h c e =
    let b = asks_behind (Do a) symbols (Some (AtLeast 0 ∷ [])) asks e in
    let few = action_few a (calm_makes_none a (and_left (not (begins_row a)) (are_calm symbols) c)) in
    let n = few_kept symbols b.0 h (and_right (not (begins_row a)) (are_calm symbols) c) b.1 in
    action_keeps (λ l. few_open l ≡ true) a b.0 asks (sym (ap (before (Do a)) b.1) ∙ e) n
    (λ q rs is. few_behind (map As (roles a)) q rs few.0 few.1 (subst (λ (l : List Ask). few_open l ≡ true) is n))
few_kept (Non x ∷ symbols) asks h c e =
    let b = asks_behind (Non x) symbols (Some (AtLeast 0 ∷ [])) asks e in
    go (is_inner x) refl h b.0 (sym (ap (before (Non x)) b.1) ∙ e) (λ k. few_kept symbols b.0 k c b.1) (λ k. none_kept symbols (AtLeast 0 ∷ []) b.0 k c refl b.1)
  where
    inner_few : is_inner x ≡ true → (none_turn (low x) ≡ true) × (few_pass (low x) ≡ true)
    inner_few i = low_few x (tail_false x i)
      where
        tail_false : (x : Nonterminal) → is_inner x ≡ true → is_tail x ≡ false
        tail_false SmallTail h = absurd (cc)
        tail_false AssignTail h = absurd (cc)
        tail_false x h = refl

    other : (is_tail x ≡ false) ⊎ ((q : Ask) (qs : List Ask) → none_open (q ∷ qs) ≡ true → few_open (map (ask_least q) (low x) ++ qs) ≡ true) → (q : Ask) (qs : List Ask) → none_open (q ∷ qs) ≡ true
        → few_open (map (ask_least q) (low x) ++ qs) ≡ true
    other (inl none) q qs n = let few = low_few x none in few_behind (low x) q qs few.0 few.1 (none_few (q ∷ qs) n)
    other (inr some) q qs n = some q qs n

    go : (i : Bool) → is_inner x ≡ i → (if i then are_single symbols else are_quiet symbols) ≡ true → (qs : List Ask) → before_symbol (Non x) qs ≡ Some asks
        → (are_single symbols ≡ true → few_open qs ≡ true) → (are_quiet symbols ≡ true → none_open qs ≡ true) → few_open asks ≡ true
    go i is h [] e few none = absurd (cc)
    go true is h (q ∷ qs) e few none =
        let f = inner_few is in subst (λ (l : List Ask). few_open l ≡ true) (same_Some (map (ask_least q) (low x) ++ qs) asks e) (few_behind (low x) q qs f.0 f.1 (few h))
    go false is h (q ∷ qs) e few none = subst (λ (l : List Ask). few_open l ≡ true) (same_Some (map (ask_least q) (low x) ++ qs) asks e) (other (tail_is x) q qs (none h))
