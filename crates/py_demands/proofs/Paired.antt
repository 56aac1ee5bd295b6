-- What is asked at least and what is asked when the symbols are closed go together.
use Rattle.std.proofs.Common.{◌≡◌, suc, Bool, true, false, not, ◌&&◌, List, [], ◌∷◌, ◌++◌, map, Option, Some, None, ◌⊎◌, inl, inr, refl, sym, ap, ◌∙◌, subst}
use Rattle.grammars.specs.Grammar.{Tok, Non, Do}
use Rattle.grammars.proofs.Bools.{and_left, and_right, both}
use Rattle.py_syntax.specs.Tree.{EName, EAttribute, ESubscript}
use Rattle.py_syntax.specs.Build.{Part, PExpr, Action, Drop, MakeTuple, AddItem, MakeTargets, AddTargets}
use Rattle.py_syntax.specs.Table.{Symbol, Nonterminal, Module}
use Rattle.py_nesting.specs.Outlines.{Label, Plain, Bracket, Tuple}
use Rattle.py_nesting.specs.Walk.{Demand, Nothing, Whole, Inside, comes}
use Rattle.py_demands.specs.Roles.{Change, Below, Apart, Loose, Turned, Role, Lost, Head, Through, changed, all_changed, at_token, asked_by, roles}
use Rattle.py_demands.specs.Least.{Ask, NoNode, AtLeast, WithinAtLeast, OpenAtLeast, ask_changed, ask_all_changed, ask_head, ask_by, Least, As, Opened, opened, ask_least, low, before_action, before_symbol, before, least}
use Rattle.py_demands.specs.Closing.{asks_exactly, exactly_by, exactly_symbol, exactly_before, exactly}
use Rattle.py_demands.specs.Paired.{ArePaired, AllPaired, is_open, settles, settles_first, are_settled, PairedLaw, SteadyLaw, IsWholeIfOpen, WholePairsAgree, BehindPaired, ItemPaired, AgreementLaw}
use Rattle.py_demands.specs.Agreed.{Agrees}
use Rattle.py_demands.proofs.ExactRows.{exactly_joined}
use Rattle.std.proofs.lemmas.Option.{same_Some}

-- changes that keep pairs, whatever is asked
abbrev is_kind : Change → Bool
is_kind (Below Plain) = true
is_kind (Below Bracket) = true
is_kind (Below Tuple) = false
is_kind Apart = true
is_kind Loose = true
is_kind Turned = false

abbrev are_kind : List Change → Bool
are_kind [] = true
are_kind (c ∷ changes) = is_kind c && are_kind changes

-- what goes below a tuple that may not be assigned to does as well
abbrev pub is_good : Bool → Role → Bool
is_good b Lost = true
is_good b (Head l changes) = are_kind changes
is_good b (Through (Below Tuple ∷ [])) = not b
is_good b (Through changes) = are_kind changes

abbrev pub are_good : Bool → List Role → Bool
are_good b [] = true
are_good b (role ∷ these) = is_good b role && are_good b these

pub all_good : (a : Action) (q : Ask) → settles a q ≡ true → are_good (is_open q) (roles a) ≡ true
all_good MakeTuple q h = both (not (is_open q)) true h refl
all_good AddItem q h = both (not (is_open q)) true h refl
all_good MakeTargets q h = absurd (cc)
all_good AddTargets q h = absurd (cc)
all_good _ q h = refl

change_paired : (c : Change) (q : Ask) (d : Demand) → is_kind c ≡ true → ArePaired q d → ArePaired (ask_changed c q) (changed c d)
change_paired (Below Plain) NoNode Nothing k h = tt
change_paired (Below Plain) (AtLeast m) (Whole n) k h = ap suc h
change_paired (Below Plain) (WithinAtLeast m) (Inside n) k h = h
change_paired (Below Plain) (OpenAtLeast m) (Whole n) k h = ap suc h
change_paired (Below Bracket) NoNode Nothing k h = tt
change_paired (Below Bracket) (AtLeast m) (Whole n) k h = ap suc h
change_paired (Below Bracket) (WithinAtLeast m) (Inside n) k h = h
change_paired (Below Bracket) (OpenAtLeast m) (Whole n) k h = ap suc h
change_paired Apart NoNode Nothing k h = tt
change_paired Apart (AtLeast m) (Whole n) k h = h
change_paired Apart (WithinAtLeast m) (Inside n) k h = h
change_paired Apart (OpenAtLeast m) (Whole n) k h = h
change_paired Loose NoNode Nothing k h = tt
change_paired Loose (AtLeast m) (Whole n) k h = h
change_paired Loose (WithinAtLeast m) (Inside n) k h = h
change_paired Loose (OpenAtLeast m) (Whole n) k h = h
change_paired (Below Tuple) q d k h = absurd (cc)
change_paired Turned q d k h = absurd (cc)
change_paired c q d k h = absurd h

changes_paired : (changes : List Change) (q : Ask) (d : Demand) → are_kind changes ≡ true → ArePaired q d → ArePaired (ask_all_changed changes q) (all_changed changes d)
changes_paired [] q d k h = h
changes_paired (c ∷ changes) q d k h = changes_paired changes (ask_changed c q) (changed c d) (and_right (is_kind c) (are_kind changes) k) (change_paired c q d (and_left (is_kind c) (are_kind changes) k) h)

head_paired : (l : Label) (q : Ask) (d : Demand) → ArePaired q d → ArePaired (ask_head q) (at_token (comes l d))
head_paired l NoNode Nothing h = tt
head_paired l (AtLeast m) (Whole n) h = h
head_paired l (WithinAtLeast m) (Inside n) h = tt
head_paired l (OpenAtLeast m) (Whole n) h = h
head_paired l q d h = absurd h

-- below a tuple that may not be assigned to
tuple_paired : (q : Ask) (d : Demand) → not (is_open q) ≡ true → ArePaired q d → ArePaired (ask_changed (Below Tuple) q) (changed (Below Tuple) d)
tuple_paired NoNode Nothing k h = tt
tuple_paired (AtLeast m) (Whole n) k h = ap suc h
tuple_paired (WithinAtLeast m) (Inside n) k h = h
tuple_paired (OpenAtLeast m) (Whole n) k h = absurd (cc)
tuple_paired q d k h = absurd h

pub role_paired : (role : Role) (q : Ask) (d : Demand) → is_good (is_open q) role ≡ true → ArePaired q d → ArePaired (ask_by q role) (asked_by d role)
role_paired Lost q d k h = tt
role_paired (Head l changes) q d k h = head_paired l (ask_all_changed changes q) (all_changed changes d) (changes_paired changes q d k h)
role_paired (Through (Below Tuple ∷ [])) q d k h = tuple_paired q d k h
role_paired (Through []) q d k h = h
role_paired (Through (Below Tuple ∷ (c ∷ changes))) q d k h = absurd (cc)
role_paired (Through (Below Plain ∷ changes)) q d k h = changes_paired (Below Plain ∷ changes) q d k h
role_paired (Through (Below Bracket ∷ changes)) q d k h = changes_paired (Below Bracket ∷ changes) q d k h
role_paired (Through (Apart ∷ changes)) q d k h = changes_paired (Apart ∷ changes) q d k h
role_paired (Through (Loose ∷ changes)) q d k h = changes_paired (Loose ∷ changes) q d k h
role_paired (Through (Turned ∷ changes)) q d k h = absurd (cc)

roles_paired : (these : List Role) (q : Ask) (d : Demand) (qs : List Ask) (ds : List Demand) → are_good (is_open q) these ≡ true → ArePaired q d → AllPaired qs ds
    → AllPaired (map (ask_by q) these ++ qs) (map (asked_by d) these ++ ds)
roles_paired [] q d qs ds k h l = l
roles_paired (role ∷ these) q d qs ds k h l =
    (role_paired role q d (and_left (is_good (is_open q) role) (are_good (is_open q) these) k) h, roles_paired these q d qs ds (and_right (is_good (is_open q) role) (are_good (is_open q) these) k) h l)

pub drops_or_both : (a : Action) → (a ≡ Drop)
    ⊎ (((q : Ask) (qs : List Ask) → before_action a (q ∷ qs) ≡ Some (map (ask_by q) (roles a) ++ qs)) × ((d : Demand) (ds : List Demand) → exactly_by a (d ∷ ds) ≡ Some (map (asked_by d) (roles a) ++ ds))
    × (before_action a [] ≡ None))
drops_or_both Drop = inl refl
drops_or_both _ = inr ((λ q qs. refl), (λ d ds. refl), refl)

action_paired : (a : Action) (qs asks : List Ask) (ds demands : List Demand) → settles_first a (Some qs) ≡ true → AllPaired qs ds → before_action a qs ≡ Some asks → exactly_by a ds ≡ Some demands → AllPaired asks demands
action_paired a qs asks ds demands k h e f = go (drops_or_both a) qs ds k h e f
  where
    go : (a ≡ Drop)
        ⊎ (((q : Ask) (qs : List Ask) → before_action a (q ∷ qs) ≡ Some (map (ask_by q) (roles a) ++ qs)) × ((d : Demand) (ds : List Demand) → exactly_by a (d ∷ ds) ≡ Some (map (asked_by d) (roles a) ++ ds))
        × (before_action a [] ≡ None))
        → (qs : List Ask) (ds : List Demand) → settles_first a (Some qs) ≡ true → AllPaired qs ds → before_action a qs ≡ Some asks → exactly_by a ds ≡ Some demands → AllPaired asks demands
    go (inl is) qs ds k h e f =
        let one : NoNode ∷ qs ≡ asks = same_Some (NoNode ∷ qs) asks (sym (ap (λ (b : Action). before_action b qs) is) ∙ e) in
        let two : Nothing ∷ ds ≡ demands = same_Some (Nothing ∷ ds) demands (sym (ap (λ (b : Action). exactly_by b ds) is) ∙ f) in
        subst (λ (l : List Ask). AllPaired l demands) one (subst (AllPaired (NoNode ∷ qs)) two (tt, h))
    go (inr (one, two, three)) [] ds k h e f = let none : None ≡ Some asks = sym three ∙ e in absurd (cc)
    go (inr (one, two, three)) (q ∷ qs) [] k h e f = absurd h
    go (inr (one, two, three)) (q ∷ qs) (d ∷ ds) k h e f =
        let left : map (ask_by q) (roles a) ++ qs ≡ asks = same_Some _ asks (sym (one q qs) ∙ e) in
        let right : map (asked_by d) (roles a) ++ ds ≡ demands = same_Some _ demands (sym (two d ds) ∙ f) in
        subst (λ (l : List Ask). AllPaired l demands) left (subst (AllPaired (map (ask_by q) (roles a) ++ qs)) right (roles_paired (roles a) q d qs ds (all_good a q k) h.0 h.1))

-- what a nonterminal asks at least, and where it is closed
abbrev pub is_alike : Least → Role → Bool
is_alike (As Lost) Lost = true
is_alike (As (Head Plain [])) (Head Plain []) = true
is_alike (As (Head Bracket [])) (Head Bracket []) = true
is_alike (As (Through [])) (Through []) = true
is_alike (As (Through (Below Plain ∷ []))) (Through (Below Plain ∷ [])) = true
is_alike (As (Through (Below Bracket ∷ []))) (Through (Below Bracket ∷ [])) = true
is_alike (As (Through (Below Plain ∷ []))) (Through (Below Plain ∷ Apart ∷ [])) = true
is_alike Opened (Through (Below Plain ∷ [])) = true
is_alike l role = false

abbrev pub are_alike : List Least → List Role → Bool
are_alike [] [] = true
are_alike (l ∷ ls) (role ∷ these) = is_alike l role && are_alike ls these
are_alike ls these = false

pub all_alike : (x : Nonterminal) → are_alike (low x) (asks_exactly x) ≡ true
all_alike Module = refl
all_alike _ = refl

opened_paired : (q : Ask) (d : Demand) → ArePaired q d → ArePaired (opened q) (changed (Below Plain) d)
opened_paired NoNode Nothing h = tt
opened_paired (AtLeast m) (Whole n) h = ap suc h
opened_paired (WithinAtLeast m) (Inside n) h = h
opened_paired (OpenAtLeast m) (Whole n) h = ap suc h
opened_paired q d h = absurd h

apart_paired : (q : Ask) (d : Demand) → ArePaired q d → ArePaired (ask_changed (Below Plain) q) (all_changed (Below Plain ∷ Apart ∷ []) d)
apart_paired NoNode Nothing h = tt
apart_paired (AtLeast m) (Whole n) h = ap suc h
apart_paired (WithinAtLeast m) (Inside n) h = h
apart_paired (OpenAtLeast m) (Whole n) h = ap suc h
apart_paired q d h = absurd h

pub alike_paired : (l : Least) (role : Role) (q : Ask) (d : Demand) → is_alike l role ≡ true → ArePaired q d → ArePaired (ask_least q l) (asked_by d role)
alike_paired (As Lost) Lost q d k h = tt
alike_paired (As (Head Plain [])) (Head Plain []) q d k h = head_paired Plain q d h
alike_paired (As (Head Bracket [])) (Head Bracket []) q d k h = head_paired Bracket q d h
alike_paired (As (Through [])) (Through []) q d k h = h
alike_paired (As (Through (Below Plain ∷ []))) (Through (Below Plain ∷ [])) q d k h = change_paired (Below Plain) q d refl h
alike_paired (As (Through (Below Bracket ∷ []))) (Through (Below Bracket ∷ [])) q d k h = change_paired (Below Bracket) q d refl h
alike_paired (As (Through (Below Plain ∷ []))) (Through (Below Plain ∷ Apart ∷ [])) q d k h = apart_paired q d h
alike_paired Opened (Through (Below Plain ∷ [])) q d k h = opened_paired q d h
alike_paired l role q d k h = absurd (cc)

all_paired : (ls : List Least) (these : List Role) (q : Ask) (d : Demand) (qs : List Ask) (ds : List Demand) → are_alike ls these ≡ true → ArePaired q d → AllPaired qs ds
    → AllPaired (map (ask_least q) ls ++ qs) (map (asked_by d) these ++ ds)
all_paired [] [] q d qs ds k h l = l
all_paired [] (role ∷ these) q d qs ds k h l = absurd (cc)
all_paired (m ∷ ls) [] q d qs ds k h l = absurd (cc)
all_paired (m ∷ ls) (role ∷ these) q d qs ds k h l =
    (alike_paired m role q d (and_left (is_alike m role) (are_alike ls these) k) h, all_paired ls these q d qs ds (and_right (is_alike m role) (are_alike ls these) k) h l)

symbol_paired : (s : Symbol) (qs asks : List Ask) (ds demands : List Demand) → are_settled (s ∷ []) (Some qs) ≡ true → AllPaired qs ds → before_symbol s qs ≡ Some asks → exactly_symbol s ds ≡ Some demands → AllPaired asks demands
symbol_paired (Tok k) [] asks ds demands j h e f = absurd (cc)
symbol_paired (Tok k) (q ∷ qs) asks [] demands j h e f = absurd h
symbol_paired (Tok k) (q ∷ qs) asks (d ∷ ds) demands j h e f =
    subst (λ (l : List Ask). AllPaired l demands) (same_Some qs asks e) (subst (AllPaired qs) (same_Some ds demands f) h.1)
symbol_paired (Do a) qs asks ds demands j h e f = action_paired a qs asks ds demands (and_left (settles_first a (Some qs)) true j) h e f
symbol_paired (Non x) [] asks ds demands j h e f = absurd (cc)
symbol_paired (Non x) (q ∷ qs) asks [] demands j h e f = absurd h
symbol_paired (Non x) (q ∷ qs) asks (d ∷ ds) demands j h e f =
    subst (λ (l : List Ask). AllPaired l demands) (same_Some _ asks e)
    (subst (AllPaired (map (ask_least q) (low x) ++ qs)) (same_Some _ demands f) (all_paired (low x) (asks_exactly x) q d qs ds (all_alike x) h.0 h.1))

settled_first : (s : Symbol) (symbols : List Symbol) (qs rs : List Ask) → are_settled (s ∷ symbols) (Some qs) ≡ true → least symbols (Some qs) ≡ Some rs → are_settled (s ∷ []) (Some rs) ≡ true
settled_first (Tok k) symbols qs rs h e = refl
settled_first (Non x) symbols qs rs h e = refl
settled_first (Do a) symbols qs rs h e = both (settles_first a (Some rs)) true (sym (ap (settles_first a) e) ∙ and_left (settles_first a (least symbols (Some qs))) (are_settled symbols (Some qs)) h) refl

settled_rest : (s : Symbol) (symbols : List Symbol) (qs : List Ask) → are_settled (s ∷ symbols) (Some qs) ≡ true → are_settled symbols (Some qs) ≡ true
settled_rest (Tok k) symbols qs h = h
settled_rest (Non x) symbols qs h = h
settled_rest (Do a) symbols qs h = and_right (settles_first a (least symbols (Some qs))) (are_settled symbols (Some qs)) h

pub paired_law : PairedLaw
paired_law [] qs asks ds demands h k e f = subst (λ (l : List Ask). AllPaired l demands) (same_Some qs asks e) (subst (AllPaired qs) (same_Some ds demands f) h)
paired_law (s ∷ symbols) qs asks ds demands h k e f =
    go (least symbols (Some qs)) (exactly symbols (Some ds)) refl refl e f (λ rs us i j. paired_law symbols qs rs ds us h (settled_rest s symbols qs k) i j)
  where
    go : (o : Option (List Ask)) (w : Option (List Demand)) → least symbols (Some qs) ≡ o → exactly symbols (Some ds) ≡ w → before s o ≡ Some asks → exactly_before s w ≡ Some demands
        → ((rs : List Ask) (us : List Demand) → least symbols (Some qs) ≡ Some rs → exactly symbols (Some ds) ≡ Some us → AllPaired rs us) → AllPaired asks demands
    go None w i j e f again = absurd (cc)
    go (Some rs) None i j e f again = absurd (cc)
    go (Some rs) (Some us) i j e f again = symbol_paired s rs asks us demands (settled_first s symbols qs rs k i) (again rs us i j) e f

pub steady_law : SteadyLaw
steady_law (PExpr (EName p x)) h = refl
steady_law (PExpr (EAttribute p e x)) h = refl
steady_law (PExpr (ESubscript p e i)) h = refl
steady_law part h = absurd (cc)

one_agrees : (part : Part) (q : Ask) (d : Demand) → ArePaired q d → IsWholeIfOpen part q → Agrees part q d
one_agrees part NoNode d h w = tt
one_agrees part (AtLeast m) (Whole n) h w = h
one_agrees part (WithinAtLeast m) (Inside n) h w = h
one_agrees part (OpenAtLeast m) (Whole n) h w = (h, w)
one_agrees part q d h w = absurd h

whole_pairs_agree : WholePairsAgree
whole_pairs_agree [] [] [] h w = tt
whole_pairs_agree (part ∷ v) (q ∷ qs) (d ∷ ds) h w = (one_agrees part q d h.0 w.0, whole_pairs_agree v qs ds h.1 w.1)
whole_pairs_agree [] [] (d ∷ ds) h w = absurd h
whole_pairs_agree (part ∷ v) (q ∷ qs) [] h w = absurd h
whole_pairs_agree v asks ds h w = absurd w

behind_paired : BehindPaired
behind_paired front symbols v b k = paired_law symbols (AtLeast 0 ∷ []) b.asks (Whole 0 ∷ []) b.demands (refl, tt) k b.least_is b.exactly_is

item_paired : ItemPaired
item_paired front item rest v b i k j =
    go (exactly rest (Some (Whole 0 ∷ []))) refl (sym (exactly_joined item (Do AddItem ∷ rest) (Some (Whole 0 ∷ []))) ∙ b.exactly_is)
  where
    all : (us : List Demand) → exactly rest (Some (Whole 0 ∷ [])) ≡ Some us → AllPaired (OpenAtLeast i.above ∷ i.below) us
    all us e = paired_law rest (AtLeast 0 ∷ []) (OpenAtLeast i.above ∷ i.below) (Whole 0 ∷ []) us (refl, tt) k i.rest_is e

    with_tuple : (us : List Demand) → AllPaired (OpenAtLeast i.above ∷ i.below) us → exactly item (exactly_before (Do AddItem) (Some us)) ≡ Some b.demands → AllPaired i.asks b.demands
    with_tuple [] h e = absurd h
    with_tuple (Whole n ∷ us) h e =
        paired_law item (AtLeast (suc i.above) ∷ AtLeast i.above ∷ i.below) i.asks (Whole (suc n) ∷ Whole n ∷ us) b.demands (ap suc h.0, (h.0, h.1)) j i.asks_are e
    with_tuple (d ∷ us) h e = absurd h.0

    go : (o : Option (List Demand)) → exactly rest (Some (Whole 0 ∷ [])) ≡ o → exactly item (exactly_before (Do AddItem) (exactly rest (Some (Whole 0 ∷ [])))) ≡ Some b.demands → AllPaired i.asks b.demands
    go None e f = let none : exactly item None ≡ Some b.demands = sym (ap (λ (o : Option (List Demand)). exactly item (exactly_before (Do AddItem) o)) e) ∙ f in absurd (nothing_more item b.demands none)
      where
        nothing_more : (these : List Symbol) (ds : List Demand) → exactly these None ≡ Some ds → ⊥
        nothing_more [] ds h = absurd (cc)
        nothing_more (s ∷ these) ds h = further (exactly these None) refl h (λ us k. nothing_more these us k)
          where
            further : (o : Option (List Demand)) → exactly these None ≡ o → exactly_before s o ≡ Some ds → ((us : List Demand) → exactly these None ≡ Some us → ⊥) → ⊥
            further None e h again = absurd (cc)
            further (Some us) e h again = again us e
    go (Some us) e f = with_tuple us (all us e) (sym (ap (λ (o : Option (List Demand)). exactly item (exactly_before (Do AddItem) o)) e) ∙ f)

pub agreement_law : AgreementLaw
agreement_law = (whole_pairs_agree, behind_paired, item_paired)
