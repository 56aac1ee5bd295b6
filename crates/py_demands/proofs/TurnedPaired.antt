-- What is asked at least goes together with what is asked where the last expression is assigned to.
use Rattle.std.proofs.Common.{◌≡◌, suc, Bool, true, false, not, ◌&&◌, if◌then◌else◌, List, [], ◌∷◌, ◌++◌, map, length, Option, Some, None, ◌⊎◌, inl, inr, refl, sym, ap, ◌∙◌, subst, arith}
use Rattle.grammars.specs.Grammar.{Tok, Non, Do}
use Rattle.grammars.proofs.Bools.{and_left, and_right, not_false}
use Rattle.py_syntax.specs.Build.{Part, Parts, Action, Drop, MakeTuple, MakeTargets, AddTargets}
use Rattle.py_syntax.specs.Table.{Symbol, Nonterminal, SmallTail, AssignTail}
use Rattle.py_nesting.specs.Outlines.{Plain, Bracket, Tuple}
use Rattle.py_nesting.specs.Walk.{Demand, Nothing, Whole, Inside, Assigned, comes}
use Rattle.py_demands.specs.Agreed.{Agrees, Agree}
use Rattle.py_demands.specs.Roles.{Change, Below, Apart, Loose, Turned, Role, Lost, Head, Through, changed, all_changed, at_token, asked_by, roles}
use Rattle.py_demands.specs.Least.{Ask, NoNode, AtLeast, WithinAtLeast, OpenAtLeast, ask_changed, ask_all_changed, ask_head, ask_by, Least, As, ask_least, low, before_action, before_symbol, before, least}
use Rattle.py_demands.specs.Closing.{asks_exactly, exactly_by, exactly_symbol, exactly_before, exactly}
use Rattle.py_demands.specs.Decided.{IsOpen, AgreeBoth}
use Rattle.py_demands.specs.Paired.{ArePaired, AllPaired, is_open}
use Rattle.py_demands.specs.Turning.{is_tail}
use Rattle.py_demands.specs.TurnedPaired.{IsPairedTurned, AllPairedTurned, begins_targets, are_within, TurnedPairedLaw, none_open, one_open, BothPairsLaw}
use Rattle.py_demands.proofs.Paired.{drops_or_both}
use Rattle.std.proofs.lemmas.Option.{same_Some}

abbrev is_fair_change : Change → Bool
is_fair_change (Below l) = true
is_fair_change Apart = true
is_fair_change Loose = true
is_fair_change Turned = false

abbrev are_fair_changes : List Change → Bool
are_fair_changes [] = true
are_fair_changes (c ∷ changes) = is_fair_change c && are_fair_changes changes

-- a comma among targets is no node
abbrev is_fair : Role → Bool
is_fair Lost = true
is_fair (Head Tuple changes) = false
is_fair (Head Plain changes) = are_fair_changes changes
is_fair (Head Bracket changes) = are_fair_changes changes
is_fair (Through changes) = are_fair_changes changes

abbrev are_fair : List Role → Bool
are_fair [] = true
are_fair (role ∷ these) = is_fair role && are_fair these

all_fair : (a : Action) → begins_targets a ≡ false → are_fair (roles a) ≡ true
all_fair MakeTuple h = absurd (cc)
all_fair MakeTargets h = absurd (cc)
all_fair AddTargets h = absurd (cc)
all_fair _ h = refl

change_paired : (c : Change) (q : Ask) (d : Demand) → is_fair_change c ≡ true → IsPairedTurned q d → IsPairedTurned (ask_changed c q) (changed c d)
change_paired (Below Plain) NoNode Nothing k h = tt
change_paired (Below Plain) (AtLeast m) (Whole n) k h = ap suc h
change_paired (Below Plain) (WithinAtLeast m) (Inside n) k h = h
change_paired (Below Plain) (OpenAtLeast m) (Assigned n) k h = ap suc h
change_paired (Below Bracket) NoNode Nothing k h = tt
change_paired (Below Bracket) (AtLeast m) (Whole n) k h = ap suc h
change_paired (Below Bracket) (WithinAtLeast m) (Inside n) k h = h
change_paired (Below Bracket) (OpenAtLeast m) (Assigned n) k h = ap suc h
change_paired (Below Tuple) NoNode Nothing k h = tt
change_paired (Below Tuple) (AtLeast m) (Whole n) k h = ap suc h
change_paired (Below Tuple) (WithinAtLeast m) (Inside n) k h = h
change_paired (Below Tuple) (OpenAtLeast m) (Assigned n) k h = h
change_paired Apart NoNode Nothing k h = tt
change_paired Apart (AtLeast m) (Whole n) k h = h
change_paired Apart (WithinAtLeast m) (Inside n) k h = h
change_paired Apart (OpenAtLeast m) (Assigned n) k h = h
change_paired Loose NoNode Nothing k h = tt
change_paired Loose (AtLeast m) (Whole n) k h = h
change_paired Loose (WithinAtLeast m) (Inside n) k h = h
change_paired Loose (OpenAtLeast m) (Assigned n) k h = h
change_paired Turned q d k h = absurd (cc)
change_paired c q d k h = absurd h

changes_paired : (changes : List Change) (q : Ask) (d : Demand) → are_fair_changes changes ≡ true → IsPairedTurned q d → IsPairedTurned (ask_all_changed changes q) (all_changed changes d)
changes_paired [] q d k h = h
changes_paired (c ∷ changes) q d k h =
    changes_paired changes (ask_changed c q) (changed c d) (and_right (is_fair_change c) (are_fair_changes changes) k) (change_paired c q d (and_left (is_fair_change c) (are_fair_changes changes) k) h)

plain_head : (q : Ask) (d : Demand) → IsPairedTurned q d → IsPairedTurned (ask_head q) (at_token (comes Plain d))
plain_head NoNode Nothing h = tt
plain_head (AtLeast m) (Whole n) h = h
plain_head (WithinAtLeast m) (Inside n) h = tt
plain_head (OpenAtLeast m) (Assigned n) h = h
plain_head q d h = absurd h

bracket_head : (q : Ask) (d : Demand) → IsPairedTurned q d → IsPairedTurned (ask_head q) (at_token (comes Bracket d))
bracket_head NoNode Nothing h = tt
bracket_head (AtLeast m) (Whole n) h = h
bracket_head (WithinAtLeast m) (Inside n) h = tt
bracket_head (OpenAtLeast m) (Assigned n) h = h
bracket_head q d h = absurd h

role_paired : (role : Role) (q : Ask) (d : Demand) → is_fair role ≡ true → IsPairedTurned q d → IsPairedTurned (ask_by q role) (asked_by d role)
role_paired Lost q d k h = tt
role_paired (Head Tuple changes) q d k h = absurd (cc)
role_paired (Head Plain changes) q d k h = plain_head (ask_all_changed changes q) (all_changed changes d) (changes_paired changes q d k h)
role_paired (Head Bracket changes) q d k h = bracket_head (ask_all_changed changes q) (all_changed changes d) (changes_paired changes q d k h)
role_paired (Through changes) q d k h = changes_paired changes q d k h

roles_paired : (these : List Role) (q : Ask) (d : Demand) (qs : List Ask) (ds : List Demand) → are_fair these ≡ true → IsPairedTurned q d → AllPairedTurned qs ds
    → AllPairedTurned (map (ask_by q) these ++ qs) (map (asked_by d) these ++ ds)
roles_paired [] q d qs ds k h l = l
roles_paired (role ∷ these) q d qs ds k h l = (role_paired role q d (and_left (is_fair role) (are_fair these) k) h, roles_paired these q d qs ds (and_right (is_fair role) (are_fair these) k) h l)

abbrev LeavesBoth : Action → Type 0
LeavesBoth a = (a ≡ Drop)
    ⊎ (((q : Ask) (qs : List Ask) → before_action a (q ∷ qs) ≡ Some (map (ask_by q) (roles a) ++ qs)) × ((d : Demand) (ds : List Demand) → exactly_by a (d ∷ ds) ≡ Some (map (asked_by d) (roles a) ++ ds))
    × (before_action a [] ≡ None))

action_paired : (a : Action) (qs asks : List Ask) (ds demands : List Demand) → begins_targets a ≡ false → AllPairedTurned qs ds → before_action a qs ≡ Some asks → exactly_by a ds ≡ Some demands → AllPairedTurned asks demands
action_paired a qs asks ds demands k h e f = go (drops_or_both a) qs ds h e f
  where
    go : LeavesBoth a → (qs : List Ask) (ds : List Demand) → AllPairedTurned qs ds → before_action a qs ≡ Some asks → exactly_by a ds ≡ Some demands → AllPairedTurned asks demands
    go (inl is) qs ds h e f =
        let one : NoNode ∷ qs ≡ asks = same_Some (NoNode ∷ qs) asks (sym (ap (λ (b : Action). before_action b qs) is) ∙ e) in
        let two : Nothing ∷ ds ≡ demands = same_Some (Nothing ∷ ds) demands (sym (ap (λ (b : Action). exactly_by b ds) is) ∙ f) in
        subst (λ (l : List Ask). AllPairedTurned l demands) one (subst (AllPairedTurned (NoNode ∷ qs)) two (tt, h))
    go (inr (one, two, three)) [] ds h e f = let none : None ≡ Some asks = sym three ∙ e in absurd (cc)
    go (inr (one, two, three)) (q ∷ qs) [] h e f = absurd h
    go (inr (one, two, three)) (q ∷ qs) (d ∷ ds) h e f =
        let left : map (ask_by q) (roles a) ++ qs ≡ asks = same_Some _ asks (sym (one q qs) ∙ e) in
        let right : map (asked_by d) (roles a) ++ ds ≡ demands = same_Some _ demands (sym (two d ds) ∙ f) in
        subst (λ (l : List Ask). AllPairedTurned l demands) left (subst (AllPairedTurned (map (ask_by q) (roles a) ++ qs)) right (roles_paired (roles a) q d qs ds (all_fair a k) h.0 h.1))

abbrev is_same : Least → Role → Bool
is_same (As Lost) Lost = true
is_same (As (Head Plain [])) (Head Plain []) = true
is_same (As (Head Bracket [])) (Head Bracket []) = true
is_same (As (Through [])) (Through []) = true
is_same (As (Through (Below Plain ∷ []))) (Through (Below Plain ∷ [])) = true
is_same (As (Through (Below Bracket ∷ []))) (Through (Below Bracket ∷ [])) = true
is_same (As (Through (Below Plain ∷ []))) (Through (Below Plain ∷ Apart ∷ [])) = true
is_same l role = false

abbrev are_same : List Least → List Role → Bool
are_same [] [] = true
are_same (l ∷ ls) (role ∷ these) = is_same l role && are_same ls these
are_same ls these = false

all_same : (x : Nonterminal) → is_tail x ≡ false → are_same (low x) (asks_exactly x) ≡ true
all_same SmallTail h = absurd (cc)
all_same AssignTail h = absurd (cc)
all_same _ h = refl

apart_paired : (q : Ask) (d : Demand) → IsPairedTurned q d → IsPairedTurned (ask_changed (Below Plain) q) (all_changed (Below Plain ∷ Apart ∷ []) d)
apart_paired NoNode Nothing h = tt
apart_paired (AtLeast m) (Whole n) h = ap suc h
apart_paired (WithinAtLeast m) (Inside n) h = h
apart_paired (OpenAtLeast m) (Assigned n) h = ap suc h
apart_paired q d h = absurd h

same_paired : (l : Least) (role : Role) (q : Ask) (d : Demand) → is_same l role ≡ true → IsPairedTurned q d → IsPairedTurned (ask_least q l) (asked_by d role)
same_paired (As Lost) Lost q d k h = tt
same_paired (As (Head Plain [])) (Head Plain []) q d k h = plain_head q d h
same_paired (As (Head Bracket [])) (Head Bracket []) q d k h = bracket_head q d h
same_paired (As (Through [])) (Through []) q d k h = h
same_paired (As (Through (Below Plain ∷ []))) (Through (Below Plain ∷ [])) q d k h = change_paired (Below Plain) q d refl h
same_paired (As (Through (Below Bracket ∷ []))) (Through (Below Bracket ∷ [])) q d k h = change_paired (Below Bracket) q d refl h
same_paired (As (Through (Below Plain ∷ []))) (Through (Below Plain ∷ Apart ∷ [])) q d k h = apart_paired q d h
same_paired l role q d k h = absurd (cc)

all_paired : (ls : List Least) (these : List Role) (q : Ask) (d : Demand) (qs : List Ask) (ds : List Demand) → are_same ls these ≡ true → IsPairedTurned q d → AllPairedTurned qs ds
    → AllPairedTurned (map (ask_least q) ls ++ qs) (map (asked_by d) these ++ ds)
all_paired [] [] q d qs ds k h l = l
all_paired [] (role ∷ these) q d qs ds k h l = absurd (cc)
all_paired (m ∷ ls) [] q d qs ds k h l = absurd (cc)
all_paired (m ∷ ls) (role ∷ these) q d qs ds k h l =
    (same_paired m role q d (and_left (is_same m role) (are_same ls these) k) h, all_paired ls these q d qs ds (and_right (is_same m role) (are_same ls these) k) h l)

symbol_paired : (s : Symbol) (qs asks : List Ask) (ds demands : List Demand) → are_within (s ∷ []) ≡ true → AllPairedTurned qs ds → before_symbol s qs ≡ Some asks → exactly_symbol s ds ≡ Some demands → AllPairedTurned asks demands
symbol_paired (Tok k) [] asks ds demands j h e f = absurd (cc)
symbol_paired (Tok k) (q ∷ qs) asks [] demands j h e f = absurd h
symbol_paired (Tok k) (q ∷ qs) asks (d ∷ ds) demands j h e f =
    subst (λ (l : List Ask). AllPairedTurned l demands) (same_Some qs asks e) (subst (AllPairedTurned qs) (same_Some ds demands f) h.1)
symbol_paired (Do a) qs asks ds demands j h e f = action_paired a qs asks ds demands (not_false (begins_targets a) (and_left (not (begins_targets a)) true j)) h e f
symbol_paired (Non x) [] asks ds demands j h e f = absurd (cc)
symbol_paired (Non x) (q ∷ qs) asks [] demands j h e f = absurd h
symbol_paired (Non x) (q ∷ qs) asks (d ∷ ds) demands j h e f =
    subst (λ (l : List Ask). AllPairedTurned l demands) (same_Some _ asks e)
    (subst (AllPairedTurned (map (ask_least q) (low x) ++ qs)) (same_Some _ demands f)
    (all_paired (low x) (asks_exactly x) q d qs ds (all_same x (not_false (is_tail x) (and_left (not (is_tail x)) true j))) h.0 h.1))

within_first : (s : Symbol) (symbols : List Symbol) → are_within (s ∷ symbols) ≡ true → (are_within (s ∷ []) ≡ true) × (are_within symbols ≡ true)
within_first (Tok k) symbols h = (refl, h)
within_first (Non x) symbols h = (ap (λ (b : Bool). b && true) (and_left (not (is_tail x)) (are_within symbols) h), and_right (not (is_tail x)) (are_within symbols) h)
within_first (Do a) symbols h = (ap (λ (b : Bool). b && true) (and_left (not (begins_targets a)) (are_within symbols) h), and_right (not (begins_targets a)) (are_within symbols) h)

pub turned_paired_law : TurnedPairedLaw
turned_paired_law [] qs asks ds demands h k e f = subst (λ (l : List Ask). AllPairedTurned l demands) (same_Some qs asks e) (subst (AllPairedTurned qs) (same_Some ds demands f) h)
turned_paired_law (s ∷ symbols) qs asks ds demands h k e f =
    go (least symbols (Some qs)) (exactly symbols (Some ds)) refl refl e f (λ rs us i j. turned_paired_law symbols qs rs ds us h (within_first s symbols k).1 i j)
  where
    go : (o : Option (List Ask)) (w : Option (List Demand)) → least symbols (Some qs) ≡ o → exactly symbols (Some ds) ≡ w → before s o ≡ Some asks → exactly_before s w ≡ Some demands
        → ((rs : List Ask) (us : List Demand) → least symbols (Some qs) ≡ Some rs → exactly symbols (Some ds) ≡ Some us → AllPairedTurned rs us) → AllPairedTurned asks demands
    go None w i j e f again = absurd (cc)
    go (Some rs) None i j e f again = absurd (cc)
    go (Some rs) (Some us) i j e f again = symbol_paired s rs asks us demands (within_first s symbols k).0 (again rs us i j) e f

-- what is not asked as a whole or as targets is asked the same both ways
closed_pair : (part : Part) (q : Ask) (u w : Demand) → is_open q ≡ false → ArePaired q u → IsPairedTurned q w → Agrees part q u × (u ≡ w)
closed_pair part NoNode Nothing Nothing k h i = (tt, refl)
closed_pair part (AtLeast m) (Whole a) (Whole b) k h i = (h, ap Whole (sym h ∙ i))
closed_pair part (WithinAtLeast m) (Inside a) (Inside b) k h i = (h, ap Inside (sym h ∙ i))
closed_pair part (OpenAtLeast m) (Whole a) (Assigned b) k h i = absurd (cc)
closed_pair part NoNode Nothing w k h i = absurd i
closed_pair part (AtLeast m) (Whole a) w k h i = absurd i
closed_pair part (WithinAtLeast m) (Inside a) w k h i = absurd i
closed_pair part (OpenAtLeast m) (Whole a) w k h i = absurd i
closed_pair part q u w k h i = absurd h

closed_pairs : (v : Parts) (qs : List Ask) (us ws : List Demand) → length v ≡ length qs → none_open qs ≡ true → AllPaired qs us → AllPairedTurned qs ws → Agree v qs us × (us ≡ ws)
closed_pairs [] [] [] [] m k h i = (tt, refl)
closed_pairs [] [] [] (w ∷ ws) m k h i = absurd i
closed_pairs [] [] (u ∷ us) ws m k h i = absurd h
closed_pairs [] (q ∷ qs) us ws m k h i = absurd (omega arith)
closed_pairs (part ∷ v) [] us ws m k h i = absurd (omega arith)
closed_pairs (part ∷ v) (q ∷ qs) [] ws m k h i = absurd h
closed_pairs (part ∷ v) (q ∷ qs) (u ∷ us) [] m k h i = absurd i
closed_pairs (part ∷ v) (q ∷ qs) (u ∷ us) (w ∷ ws) m k h i =
    let one = closed_pair part q u w (not_false (is_open q) (and_left (not (is_open q)) (none_open qs) k)) h.0 i.0 in
    let rest = closed_pairs v qs us ws (omega arith) (and_right (not (is_open q)) (none_open qs) k) h.1 i.1 in
    ((one.0, rest.0), ap (λ (d : Demand). d ∷ us) one.1 ∙ ap (λ (l : List Demand). w ∷ l) rest.1)

open_pair : (q : Ask) (u w : Demand) → is_open q ≡ true → ArePaired q u → IsPairedTurned q w → IsOpen q u w
open_pair (OpenAtLeast m) (Whole a) (Assigned b) k h i = (h, i)
open_pair (OpenAtLeast m) (Whole a) w k h i = absurd i
open_pair (OpenAtLeast m) u w k h i = absurd h
open_pair q u w k h i = absurd (cc)

pub both_pairs_law : BothPairsLaw
both_pairs_law [] [] us ws m k h i = absurd (cc)
both_pairs_law [] (q ∷ qs) us ws m k h i = absurd (omega arith)
both_pairs_law (part ∷ v) [] us ws m k h i = absurd (omega arith)
both_pairs_law (part ∷ v) (q ∷ qs) [] ws m k h i = absurd h
both_pairs_law (part ∷ v) (q ∷ qs) (u ∷ us) [] m k h i = absurd i
both_pairs_law (part ∷ v) (q ∷ qs) (u ∷ us) (w ∷ ws) m k h i = go (is_open q) refl k (λ j. both_pairs_law v qs us ws (omega arith) j h.1 i.1)
  where
    go : (b : Bool) → is_open q ≡ b → (if b then none_open qs else one_open qs) ≡ true → (one_open qs ≡ true → AgreeBoth v qs us ws) → AgreeBoth (part ∷ v) (q ∷ qs) (u ∷ us) (w ∷ ws)
    go true e j again = let r = closed_pairs v qs us ws (omega arith) j h.1 i.1 in inr (open_pair q u w e h.0 i.0, r.1, r.0)
    go false e j again = let r = closed_pair part q u w e h.0 i.0 in inl (r.0, r.1, again j)
