-- No row asks less than its nonterminal is said to, however much is asked of what it gives and whatever lies below.
use Rattle.std.proofs.Common.{◌≡◌, zero, suc, Bool, true, not, ◌&&◌, ◌||◌, List, [], ◌∷◌, ◌++◌, map, Option, Some, None, ◌⊎◌, inl, inr, refl, sym, ap, ◌∙◌, subst, append_assoc}
use Rattle.grammars.specs.Grammar.{Tok, Non, Do, Row, IsRow}
use Rattle.grammars.proofs.Bools.{and_left, and_right, both, implied}
use Rattle.py_syntax.specs.Build.{Parts, Action, Drop}
use Rattle.py_syntax.specs.Table.{Symbol, Nonterminal, rows}
use Rattle.py_nesting.specs.Outlines.{Plain, Bracket, Tuple}
use Rattle.py_nesting.specs.Walk.{Demand}
use Rattle.py_fronts.specs.Kinds.{gives}
use Rattle.py_demands.specs.Roles.{Change, Below, Apart, Loose, Turned, Role, Lost, Head, Through, asked_by, roles, asked_before}
use Rattle.py_demands.specs.Least.{Ask, NoNode, AtLeast, WithinAtLeast, OpenAtLeast, ask_changed, ask_all_changed, ask_head, ask_by, Least, As, Opened, ask_least, low, before_action, before_symbol, before, least, gives_expression, gives_items, may_ask, may_ask_first, are_askable, asks_no_more, ask_no_more}
use Rattle.py_demands.proofs.AsksKept.{drops_or_leaves}
use Rattle.std.proofs.lemmas.Option.{same_Some}
use Rattle.py_demands.proofs.RowsLow.{no_more, row_is_low, rows_are_low, all_low}

-- one more above
abbrev pub more : Ask → Ask
more NoNode = NoNode
more (AtLeast n) = AtLeast (suc n)
more (WithinAtLeast n) = WithinAtLeast (suc n)
more (OpenAtLeast n) = OpenAtLeast (suc n)

change_more : (c : Change) (q : Ask) → ask_changed c (more q) ≡ more (ask_changed c q)
change_more (Below l) NoNode = refl
change_more (Below l) (AtLeast n) = refl
change_more (Below l) (WithinAtLeast n) = refl
change_more (Below Plain) (OpenAtLeast n) = refl
change_more (Below Bracket) (OpenAtLeast n) = refl
change_more (Below Tuple) (OpenAtLeast n) = refl
change_more Apart NoNode = refl
change_more Apart (AtLeast n) = refl
change_more Apart (WithinAtLeast n) = refl
change_more Apart (OpenAtLeast n) = refl
change_more Loose NoNode = refl
change_more Loose (AtLeast n) = refl
change_more Loose (WithinAtLeast n) = refl
change_more Loose (OpenAtLeast n) = refl
change_more Turned NoNode = refl
change_more Turned (AtLeast n) = refl
change_more Turned (WithinAtLeast n) = refl
change_more Turned (OpenAtLeast n) = refl

changes_more : (changes : List Change) (q : Ask) → ask_all_changed changes (more q) ≡ more (ask_all_changed changes q)
changes_more [] q = refl
changes_more (c ∷ changes) q = ap (ask_all_changed changes) (change_more c q) ∙ changes_more changes (ask_changed c q)

head_more : (q : Ask) → ask_head (more q) ≡ more (ask_head q)
head_more NoNode = refl
head_more (AtLeast n) = refl
head_more (WithinAtLeast n) = refl
head_more (OpenAtLeast n) = refl

pub role_more : (q : Ask) (role : Role) → ask_by (more q) role ≡ more (ask_by q role)
role_more q Lost = refl
role_more q (Head l changes) = ap ask_head (changes_more changes q) ∙ head_more (ask_all_changed changes q)
role_more q (Through changes) = changes_more changes q

pub least_more : (q : Ask) (l : Least) → ask_least (more q) l ≡ more (ask_least q l)
least_more q (As role) = role_more q role
least_more NoNode Opened = refl
least_more (AtLeast n) Opened = refl
least_more (WithinAtLeast n) Opened = refl
least_more (OpenAtLeast n) Opened = refl

mapped_more : {A : Type 0} (f : Ask → A → Ask) (q : Ask) (these : List A) → ((a : A) → f (more q) a ≡ more (f q a)) → map (f (more q)) these ≡ map more (map (f q) these)
mapped_more f q [] h = refl
mapped_more f q (a ∷ these) h = ap (λ (x : Ask). x ∷ map (f (more q)) these) (h a) ∙ ap (λ (l : List Ask). more (f q a) ∷ l) (mapped_more f q these h)

map_joined : (qs rs : List Ask) → map more (qs ++ rs) ≡ map more qs ++ map more rs
map_joined [] rs = refl
map_joined (q ∷ qs) rs = ap (λ (l : List Ask). more q ∷ l) (map_joined qs rs)

abbrev all_more : Option (List Ask) → Option (List Ask)
all_more None = None
all_more (Some qs) = Some (map more qs)

action_more : (a : Action) (qs : List Ask) → before_action a (map more qs) ≡ all_more (before_action a qs)
action_more a qs = go (drops_or_leaves a) qs
  where
    go : (a ≡ Drop) ⊎ (((d : Demand) (ds : List Demand) → asked_before a (d ∷ ds) ≡ map (asked_by d) (roles a) ++ ds)
        × ((q : Ask) (qs : List Ask) → before_action a (q ∷ qs) ≡ Some (map (ask_by q) (roles a) ++ qs)) × (before_action a [] ≡ None))
        → (qs : List Ask) → before_action a (map more qs) ≡ all_more (before_action a qs)
    go (inl is) qs = subst (λ (b : Action). before_action b (map more qs) ≡ all_more (before_action b qs)) (sym is) refl
    go (inr (one, two, three)) [] = three ∙ sym (ap all_more three)
    go (inr (one, two, three)) (q ∷ qs) =
        two (more q) (map more qs)
        ∙ ap (λ (l : List Ask). Some (l ++ map more qs)) (mapped_more ask_by q (roles a) (role_more q))
        ∙ ap Some (sym (map_joined (map (ask_by q) (roles a)) qs))
        ∙ sym (ap all_more (two q qs))

symbol_more : (s : Symbol) (qs : List Ask) → before_symbol s (map more qs) ≡ all_more (before_symbol s qs)
symbol_more (Tok k) [] = refl
symbol_more (Tok k) (q ∷ qs) = refl
symbol_more (Do a) qs = action_more a qs
symbol_more (Non x) [] = refl
symbol_more (Non x) (q ∷ qs) =
    ap (λ (l : List Ask). Some (l ++ map more qs)) (mapped_more ask_least q (low x) (least_more q)) ∙ ap Some (sym (map_joined (map (ask_least q) (low x)) qs))

before_more : (s : Symbol) (o : Option (List Ask)) → before s (all_more o) ≡ all_more (before s o)
before_more s None = refl
before_more s (Some qs) = symbol_more s qs

all_least_more : (symbols : List Symbol) (o : Option (List Ask)) → least symbols (all_more o) ≡ all_more (least symbols o)
all_least_more [] o = refl
all_least_more (s ∷ symbols) o = ap (before s) (all_least_more symbols o) ∙ before_more s (least symbols o)

pub may_more : (x : Nonterminal) (q : Ask) → may_ask x (more q) ≡ may_ask x q
may_more x NoNode = refl
may_more x (AtLeast n) = refl
may_more x (WithinAtLeast n) = refl
may_more x (OpenAtLeast n) = refl

may_first_more : (x : Nonterminal) (o : Option (List Ask)) → may_ask_first x (all_more o) ≡ may_ask_first x o
may_first_more x None = refl
may_first_more x (Some []) = refl
may_first_more x (Some (q ∷ qs)) = may_more x q

askable_more : (symbols : List Symbol) (o : Option (List Ask)) → are_askable symbols (all_more o) ≡ are_askable symbols o
askable_more [] o = refl
askable_more (Tok k ∷ symbols) o = askable_more symbols o
askable_more (Do a ∷ symbols) o = askable_more symbols o
askable_more (Non x ∷ symbols) o =
    ap (λ (l : Option (List Ask)). may_ask_first x l && are_askable symbols (all_more o)) (all_least_more symbols o)
    ∙ ap (λ (b : Bool). b && are_askable symbols (all_more o)) (may_first_more x (least symbols o))
    ∙ ap (λ (b : Bool). may_ask_first x (least symbols o) && b) (askable_more symbols o)

pub no_more_more : (q r : Ask) → asks_no_more q r ≡ true → asks_no_more (more q) (more r) ≡ true
no_more_more q NoNode h = refl
no_more_more (AtLeast m) (AtLeast n) h = h
no_more_more (WithinAtLeast m) (WithinAtLeast n) h = h
no_more_more (OpenAtLeast m) (OpenAtLeast n) h = h
no_more_more (OpenAtLeast m) (AtLeast n) h = h
no_more_more q r h = absurd (cc)

all_no_more_more : (qs rs : List Ask) → ask_no_more qs rs ≡ true → ask_no_more (map more qs) (map more rs) ≡ true
all_no_more_more [] [] h = refl
all_no_more_more [] (r ∷ rs) h = absurd (cc)
all_no_more_more (q ∷ qs) [] h = absurd (cc)
all_no_more_more (q ∷ qs) (r ∷ rs) h =
    both (asks_no_more (more q) (more r)) (ask_no_more (map more qs) (map more rs)) (no_more_more q r (and_left (asks_no_more q r) (ask_no_more qs rs) h))
    (all_no_more_more qs rs (and_right (asks_no_more q r) (ask_no_more qs rs) h))

-- what a row's test tells
pub record IsLow (x : Nonterminal) (q : Ask) (symbols : List Symbol) : Type 0 where
  pub asks : List Ask
  pub least_is : least symbols (Some (q ∷ [])) ≡ Some asks
  pub no_more_is : ask_no_more (map (ask_least q) (low x)) asks ≡ true
  pub askable : are_askable symbols (Some (q ∷ [])) ≡ true

pub low_so : (x : Nonterminal) (q : Ask) (r : Row Nonterminal Action Parts) → row_is_low x q r ≡ true → IsLow x q r.symbols
low_so x q r h = go (least r.symbols (Some (q ∷ []))) refl (and_left _ _ h)
  where
    go : (o : Option (List Ask)) → least r.symbols (Some (q ∷ [])) ≡ o → no_more (map (ask_least q) (low x)) o ≡ true → IsLow x q r.symbols
    go None e k = absurd (cc)
    go (Some qs) e k = record { asks = qs; least_is = e; no_more_is = k; askable = and_right (no_more (map (ask_least q) (low x)) (least r.symbols (Some (q ∷ [])))) _ h }

one_higher : (x : Nonterminal) (q : Ask) (symbols : List Symbol) → IsLow x q symbols → IsLow x (more q) symbols
one_higher x q symbols l =
    record {
      asks = map more l.asks;
      least_is = all_least_more symbols (Some (q ∷ [])) ∙ ap all_more l.least_is;
      no_more_is = ap (λ (qs : List Ask). ask_no_more qs (map more l.asks)) (mapped_more ask_least q (low x) (least_more q)) ∙ all_no_more_more (map (ask_least q) (low x)) l.asks l.no_more_is;
      askable = askable_more symbols (Some (q ∷ [])) ∙ l.askable;
    }

rows_low : (x : Nonterminal) (q : Ask) (r : Row Nonterminal Action Parts) (these : List (Row Nonterminal Action Parts)) → rows_are_low x q these ≡ true → IsRow r these → IsLow x q r.symbols
rows_low x q r [] h i = absurd i
rows_low x q r (p ∷ these) h (inl e) = subst (λ (s : Row Nonterminal Action Parts). IsLow x q s.symbols) (sym e) (low_so x q p (and_left (row_is_low x q p) (rows_are_low x q these) h))
rows_low x q r (p ∷ these) h (inr i) = rows_low x q r these (and_right (row_is_low x q p) (rows_are_low x q these) h) i

pub low_row : (x : Nonterminal) (q : Ask) (r : Row Nonterminal Action Parts) → IsRow r (rows x) → may_ask x q ≡ true → IsLow x q r.symbols
low_row x NoNode r i m = rows_low x NoNode r (rows x) (and_left _ _ (and_left _ _ (all_low x))) i
low_row x (AtLeast zero) r i m = rows_low x (AtLeast 0) r (rows x) (and_right (rows_are_low x NoNode (rows x)) _ (and_left _ _ (all_low x))) i
low_row x (AtLeast (suc n)) r i m = one_higher x (AtLeast n) r.symbols (low_row x (AtLeast n) r i refl)
low_row x (OpenAtLeast zero) r i m =
    rows_low x (OpenAtLeast 0) r (rows x) (implied (gives_expression (gives x)) _ (and_left _ _ (and_right (rows_are_low x NoNode (rows x) && rows_are_low x (AtLeast 0) (rows x)) _ (all_low x))) m) i
low_row x (OpenAtLeast (suc n)) r i m = one_higher x (OpenAtLeast n) r.symbols (low_row x (OpenAtLeast n) r i m)
low_row x (WithinAtLeast zero) r i m =
    rows_low x (WithinAtLeast 0) r (rows x)
    (implied (gives_items x) _ (and_right (not (gives_expression (gives x)) || rows_are_low x (OpenAtLeast 0) (rows x)) _ (and_right (rows_are_low x NoNode (rows x) && rows_are_low x (AtLeast 0) (rows x)) _ (all_low x))) m) i
low_row x (WithinAtLeast (suc n)) r i m = one_higher x (WithinAtLeast n) r.symbols (low_row x (WithinAtLeast n) r i m)

-- what lies below is left alone
action_frame : (a : Action) (qs bs cs : List Ask) → before_action a qs ≡ Some bs → before_action a (qs ++ cs) ≡ Some (bs ++ cs)
action_frame a qs bs cs e = go (drops_or_leaves a) qs e
  where
    go : (a ≡ Drop) ⊎ (((d : Demand) (ds : List Demand) → asked_before a (d ∷ ds) ≡ map (asked_by d) (roles a) ++ ds)
        × ((q : Ask) (qs : List Ask) → before_action a (q ∷ qs) ≡ Some (map (ask_by q) (roles a) ++ qs)) × (before_action a [] ≡ None))
        → (qs : List Ask) → before_action a qs ≡ Some bs → before_action a (qs ++ cs) ≡ Some (bs ++ cs)
    go (inl is) qs e =
        let same : NoNode ∷ qs ≡ bs = same_Some (NoNode ∷ qs) bs (sym (ap (λ (b : Action). before_action b qs) is) ∙ e) in
        ap (λ (b : Action). before_action b (qs ++ cs)) is ∙ ap (λ (l : List Ask). Some (l ++ cs)) same
    go (inr (one, two, three)) [] e = let none : None ≡ Some bs = sym three ∙ e in absurd (cc)
    go (inr (one, two, three)) (q ∷ qs) e =
        let same : map (ask_by q) (roles a) ++ qs ≡ bs = same_Some _ bs (sym (two q qs) ∙ e) in
        two q (qs ++ cs) ∙ ap Some (sym (append_assoc (map (ask_by q) (roles a)) qs cs)) ∙ ap (λ (l : List Ask). Some (l ++ cs)) same

symbol_frame : (s : Symbol) (qs bs cs : List Ask) → before_symbol s qs ≡ Some bs → before_symbol s (qs ++ cs) ≡ Some (bs ++ cs)
symbol_frame (Tok k) [] bs cs e = absurd (cc)
symbol_frame (Tok k) (q ∷ qs) bs cs e = ap (λ (l : List Ask). Some (l ++ cs)) (same_Some qs bs e)
symbol_frame (Do a) qs bs cs e = action_frame a qs bs cs e
symbol_frame (Non x) [] bs cs e = absurd (cc)
symbol_frame (Non x) (q ∷ qs) bs cs e = ap Some (sym (append_assoc (map (ask_least q) (low x)) qs cs)) ∙ ap (λ (l : List Ask). Some (l ++ cs)) (same_Some _ bs e)

pub least_frame : (symbols : List Symbol) (qs bs cs : List Ask) → least symbols (Some qs) ≡ Some bs → least symbols (Some (qs ++ cs)) ≡ Some (bs ++ cs)
least_frame [] qs bs cs e = ap (λ (l : List Ask). Some (l ++ cs)) (same_Some qs bs e)
least_frame (s ∷ symbols) qs bs cs e = go (least symbols (Some qs)) refl e (λ rs h. least_frame symbols qs rs cs h)
  where
    go : (o : Option (List Ask)) → least symbols (Some qs) ≡ o → before s o ≡ Some bs
        → ((rs : List Ask) → least symbols (Some qs) ≡ Some rs → least symbols (Some (qs ++ cs)) ≡ Some (rs ++ cs)) → before s (least symbols (Some (qs ++ cs))) ≡ Some (bs ++ cs)
    go None o h again = absurd (cc)
    go (Some rs) o h again = ap (before s) (again rs o) ∙ symbol_frame s rs bs cs h

pub least_joined : (these symbols : List Symbol) (o : Option (List Ask)) → least (these ++ symbols) o ≡ least these (least symbols o)
least_joined [] symbols o = refl
least_joined (s ∷ these) symbols o = ap (before s) (least_joined these symbols o)

first_frame : (x : Nonterminal) (o w : Option (List Ask)) (cs : List Ask) → may_ask_first x o ≡ true → ((rs : List Ask) → o ≡ Some rs → w ≡ Some (rs ++ cs)) → may_ask_first x w ≡ true
first_frame x None w cs h f = absurd (cc)
first_frame x (Some []) w cs h f = absurd (cc)
first_frame x (Some (q ∷ qs)) w cs h f = ap (may_ask_first x) (f (q ∷ qs) refl) ∙ h

pub askable_joined : (these symbols : List Symbol) (q : Ask) (cs : List Ask) (o : Option (List Ask)) → least symbols o ≡ Some (q ∷ cs) → are_askable these (Some (q ∷ [])) ≡ true
    → are_askable symbols o ≡ true → are_askable (these ++ symbols) o ≡ true
askable_joined [] symbols q cs o e h k = k
askable_joined (Tok n ∷ these) symbols q cs o e h k = askable_joined these symbols q cs o e h k
askable_joined (Do a ∷ these) symbols q cs o e h k = askable_joined these symbols q cs o e h k
askable_joined (Non x ∷ these) symbols q cs o e h k =
    let may : may_ask_first x (least these (Some (q ∷ []))) ≡ true = and_left _ _ h in
    both (may_ask_first x (least (these ++ symbols) o)) (are_askable (these ++ symbols) o)
    (first_frame x (least these (Some (q ∷ []))) (least (these ++ symbols) o) cs may (λ rs f. least_joined these symbols o ∙ ap (least these) e ∙ least_frame these (q ∷ []) rs cs f))
    (askable_joined these symbols q cs o e (and_right (may_ask_first x (least these (Some (q ∷ [])))) _ h) k)
