-- No row asks less than its nonterminal is said to, however deep the item among targets stands and whatever lies below.
use Rattle.std.proofs.Common.{◌≡◌, zero, suc, Bool, true, false, ◌&&◌, if◌then◌else◌, List, [], ◌∷◌, ◌++◌, map, Option, Some, None, ◌⊎◌, inl, inr, refl, sym, ap, ◌∙◌, subst, append_assoc}
use Rattle.grammars.specs.Grammar.{Tok, Non, Do, Row, IsRow}
use Rattle.grammars.proofs.Bools.{and_left, and_right, both}
use Rattle.py_syntax.specs.Build.{Parts, Action, Drop}
use Rattle.py_syntax.specs.Table.{Symbol, Nonterminal, rows}
use Rattle.py_nesting.specs.Walk.{Demand}
use Rattle.py_demands.specs.Roles.{Role, Lost, Head, Through, asked_by, roles, asked_before}
use Rattle.py_demands.specs.Least.{Ask, NoNode, AtLeast, ask_by, before_action, before, before_symbol, least, Least, As, Opened, ask_least, low, may_ask_first, are_askable, ask_no_more, asks_no_more}
use Rattle.py_demands.specs.Aims.{Aim, Simply, Targets, Target, MayTarget, Never, makes_target, made_by, aim_by, Way, Keeps, Extends, Makes, Differs, way, gone, aim_least, aims_by, aims_symbol, aims_before, aimed, may_aim, may_aim_first, are_aimable}
use Rattle.py_demands.proofs.AimsKept.{drops_or_aims}
use Rattle.py_demands.proofs.LowRows.{more, role_more, least_more, may_more, no_more_more, IsLow, low_row}
use Rattle.py_demands.proofs.RowsAimed.{aims_no_more, all_aim_no_more, aim_no_more, said, row_is_aimed, rows_are_aimed, all_aimed}
use Rattle.std.proofs.lemmas.Option.{same_Some}

-- one more above
abbrev further : Aim → Aim
further (Simply q) = Simply (more q)
further (Targets n) = Targets (suc n)
further (Target n) = Target (suc n)
further (MayTarget n) = MayTarget (suc n)
further Never = Never

made_further : (a : Action) (aim : Aim) → made_by a (further aim) ≡ further (made_by a aim)
made_further a (Simply q) = refl
made_further a (Targets n) = refl
made_further a (Target n) = go (makes_target a)
  where
    go : (b : Bool) → (if b then Simply (AtLeast (suc n)) else Never) ≡ further (if b then Simply (AtLeast n) else Never)
    go true = refl
    go false = refl
made_further a (MayTarget n) = go (makes_target a)
  where
    go : (b : Bool) → (if b then Simply (AtLeast (suc n)) else Simply (AtLeast (suc (suc n)))) ≡ further (if b then Simply (AtLeast n) else Simply (AtLeast (suc n)))
    go true = refl
    go false = refl
made_further a Never = refl

role_further : (aim : Aim) (role : Role) → aim_by (further aim) role ≡ further (aim_by aim role)
role_further (Simply q) role = ap Simply (role_more q role)
role_further (Targets n) role = refl
role_further (Target n) role = refl
role_further (MayTarget n) role = refl
role_further Never role = refl

gone_further : (w : Way) (aim : Aim) → gone w (further aim) ≡ further (gone w aim)
gone_further w (Simply q) = refl
gone_further w (Targets n) = refl
gone_further w Never = refl
gone_further Keeps (Target n) = refl
gone_further Keeps (MayTarget n) = refl
gone_further Extends (Target n) = refl
gone_further Extends (MayTarget n) = refl
gone_further Makes (Target n) = refl
gone_further Makes (MayTarget n) = refl
gone_further Differs (Target n) = refl
gone_further Differs (MayTarget n) = refl

kept_further : (aim : Aim) (l : Least) → aim_least (further aim) l ≡ further (aim_least aim l)
kept_further (Simply q) l = ap Simply (least_more q l)
kept_further (Targets n) (As Lost) = refl
kept_further (Targets n) (As (Head l changes)) = refl
kept_further (Targets n) (As (Through changes)) = refl
kept_further (Targets n) Opened = refl
kept_further (Target n) (As Lost) = refl
kept_further (Target n) (As (Head l changes)) = refl
kept_further (Target n) (As (Through changes)) = refl
kept_further (Target n) Opened = refl
kept_further (MayTarget n) (As Lost) = refl
kept_further (MayTarget n) (As (Head l changes)) = refl
kept_further (MayTarget n) (As (Through changes)) = refl
kept_further (MayTarget n) Opened = refl
kept_further Never (As Lost) = refl
kept_further Never (As (Head l changes)) = refl
kept_further Never (As (Through changes)) = refl
kept_further Never Opened = refl

mapped_further : {A : Type 0} (f : Aim → A → Aim) (aim : Aim) (these : List A) → ((a : A) → f (further aim) a ≡ further (f aim a)) → map (f (further aim)) these ≡ map further (map (f aim) these)
mapped_further f aim [] h = refl
mapped_further f aim (a ∷ these) h = ap (λ (x : Aim). x ∷ map (f (further aim)) these) (h a) ∙ ap (λ (l : List Aim). further (f aim a) ∷ l) (mapped_further f aim these h)

map_joined : {A B : Type 0} (f : A → B) (qs rs : List A) → map f (qs ++ rs) ≡ map f qs ++ map f rs
map_joined f [] rs = refl
map_joined f (q ∷ qs) rs = ap (λ l. f q ∷ l) (map_joined f qs rs)

abbrev all_further : Option (List Aim) → Option (List Aim)
all_further None = None
all_further (Some aims) = Some (map further aims)

abbrev Leaving : Action → Type 0
Leaving a = (a ≡ Drop)
    ⊎ (((d : Demand) (ds : List Demand) → asked_before a (d ∷ ds) ≡ map (asked_by d) (roles a) ++ ds)
    × ((aim : Aim) (aims : List Aim) → aims_by a (aim ∷ aims) ≡ Some (map (aim_by (made_by a aim)) (roles a) ++ aims)) × (aims_by a [] ≡ None) × (before_action a [] ≡ None))

action_further : (a : Action) (aims : List Aim) → aims_by a (map further aims) ≡ all_further (aims_by a aims)
action_further a aims = go (drops_or_aims a) aims
  where
    go : Leaving a → (aims : List Aim) → aims_by a (map further aims) ≡ all_further (aims_by a aims)
    go (inl is) aims = subst (λ (b : Action). aims_by b (map further aims) ≡ all_further (aims_by b aims)) (sym is) refl
    go (inr (one, two, three, four)) [] = three ∙ sym (ap all_further three)
    go (inr (one, two, three, four)) (aim ∷ aims) =
        two (further aim) (map further aims)
        ∙ ap (λ (x : Aim). Some (map (aim_by x) (roles a) ++ map further aims)) (made_further a aim)
        ∙ ap (λ (l : List Aim). Some (l ++ map further aims)) (mapped_further aim_by (made_by a aim) (roles a) (role_further (made_by a aim)))
        ∙ ap Some (sym (map_joined further (map (aim_by (made_by a aim)) (roles a)) aims))
        ∙ sym (ap all_further (two aim aims))

said_further : (x : Nonterminal) (aim : Aim) → said x (further aim) ≡ map further (said x aim)
said_further x aim = ap (λ (b : Aim). map (aim_least b) (low x)) (gone_further (way x) aim) ∙ mapped_further aim_least (gone (way x) aim) (low x) (kept_further (gone (way x) aim))

symbol_further : (s : Symbol) (aims : List Aim) → aims_symbol s (map further aims) ≡ all_further (aims_symbol s aims)
symbol_further (Tok k) [] = refl
symbol_further (Tok k) (aim ∷ aims) = refl
symbol_further (Do a) aims = action_further a aims
symbol_further (Non x) [] = refl
symbol_further (Non x) (aim ∷ aims) = ap (λ (l : List Aim). Some (l ++ map further aims)) (said_further x aim) ∙ ap Some (sym (map_joined further (said x aim) aims))

before_further : (s : Symbol) (o : Option (List Aim)) → aims_before s (all_further o) ≡ all_further (aims_before s o)
before_further s None = refl
before_further s (Some aims) = symbol_further s aims

aimed_further : (symbols : List Symbol) (o : Option (List Aim)) → aimed symbols (all_further o) ≡ all_further (aimed symbols o)
aimed_further [] o = refl
aimed_further (s ∷ symbols) o = ap (aims_before s) (aimed_further symbols o) ∙ before_further s (aimed symbols o)

may_further : (x : Nonterminal) (aim : Aim) → may_aim x (further aim) ≡ may_aim x aim
may_further x (Simply q) = may_more x q
may_further x (Targets n) = refl
may_further x (Target n) = refl
may_further x (MayTarget n) = refl
may_further x Never = refl

first_further : (x : Nonterminal) (o : Option (List Aim)) → may_aim_first x (all_further o) ≡ may_aim_first x o
first_further x None = refl
first_further x (Some []) = refl
first_further x (Some (aim ∷ aims)) = may_further x aim

aimable_further : (symbols : List Symbol) (o : Option (List Aim)) → are_aimable symbols (all_further o) ≡ are_aimable symbols o
aimable_further [] o = refl
aimable_further (Tok k ∷ symbols) o = aimable_further symbols o
aimable_further (Do a ∷ symbols) o = aimable_further symbols o
aimable_further (Non x ∷ symbols) o =
    ap (λ (l : Option (List Aim)). may_aim_first x l && are_aimable symbols (all_further o)) (aimed_further symbols o)
    ∙ ap (λ (b : Bool). b && are_aimable symbols (all_further o)) (first_further x (aimed symbols o))
    ∙ ap (λ (b : Bool). may_aim_first x (aimed symbols o) && b) (aimable_further symbols o)

no_more_further : (q r : Aim) → aims_no_more q r ≡ true → aims_no_more (further q) (further r) ≡ true
no_more_further q Never h = refl
no_more_further (Simply q) (Simply r) h = no_more_more q r h
no_more_further (Simply q) (Target n) h = no_more_more q (AtLeast n) h
no_more_further (Simply q) (MayTarget n) h = no_more_more q (AtLeast n) h
no_more_further (Target m) (Target n) h = h
no_more_further (MayTarget m) (Target n) h = h
no_more_further (MayTarget m) (MayTarget n) h = h
no_more_further (MayTarget m) (Simply r) h = no_more_more (AtLeast (suc m)) r h
no_more_further q r h = absurd (cc)

all_no_more_further : (qs rs : List Aim) → all_aim_no_more qs rs ≡ true → all_aim_no_more (map further qs) (map further rs) ≡ true
all_no_more_further [] [] h = refl
all_no_more_further [] (r ∷ rs) h = absurd (cc)
all_no_more_further (q ∷ qs) [] h = absurd (cc)
all_no_more_further (q ∷ qs) (r ∷ rs) h =
    both (aims_no_more (further q) (further r)) (all_aim_no_more (map further qs) (map further rs)) (no_more_further q r (and_left (aims_no_more q r) (all_aim_no_more qs rs) h))
    (all_no_more_further qs rs (and_right (aims_no_more q r) (all_aim_no_more qs rs) h))

-- what a row's test tells
pub record HasAims (x : Nonterminal) (aim : Aim) (symbols : List Symbol) : Type 0 where
  pub aims : List Aim
  pub aimed_is : aimed symbols (Some (aim ∷ [])) ≡ Some aims
  pub no_more_is : all_aim_no_more (said x aim) aims ≡ true
  pub aimable : are_aimable symbols (Some (aim ∷ [])) ≡ true

aims_so : (x : Nonterminal) (aim : Aim) (r : Row Nonterminal Action Parts) → row_is_aimed x aim r ≡ true → HasAims x aim r.symbols
aims_so x aim r h = go (aimed r.symbols (Some (aim ∷ []))) refl (and_left _ _ h)
  where
    go : (o : Option (List Aim)) → aimed r.symbols (Some (aim ∷ [])) ≡ o → aim_no_more (said x aim) o ≡ true → HasAims x aim r.symbols
    go None e k = absurd (cc)
    go (Some aims) e k = record { aims = aims; aimed_is = e; no_more_is = k; aimable = and_right (aim_no_more (said x aim) (aimed r.symbols (Some (aim ∷ [])))) _ h }

one_further : (x : Nonterminal) (aim : Aim) (symbols : List Symbol) → HasAims x aim symbols → HasAims x (further aim) symbols
one_further x aim symbols l =
    record {
      aims = map further l.aims;
      aimed_is = aimed_further symbols (Some (aim ∷ [])) ∙ ap all_further l.aimed_is;
      no_more_is = ap (λ (these : List Aim). all_aim_no_more these (map further l.aims)) (said_further x aim) ∙ all_no_more_further (said x aim) l.aims l.no_more_is;
      aimable = aimable_further symbols (Some (aim ∷ [])) ∙ l.aimable;
    }

-- where nothing is to be an item
abbrev all_simply : Option (List Ask) → Option (List Aim)
all_simply None = None
all_simply (Some qs) = Some (map Simply qs)

mapped_simply : {A : Type 0} (f : Ask → A → Ask) (g : Aim → A → Aim) (q : Ask) (these : List A) → ((a : A) → g (Simply q) a ≡ Simply (f q a)) → map (g (Simply q)) these ≡ map Simply (map (f q) these)
mapped_simply f g q [] h = refl
mapped_simply f g q (a ∷ these) h = ap (λ (x : Aim). x ∷ map (g (Simply q)) these) (h a) ∙ ap (λ (l : List Aim). Simply (f q a) ∷ l) (mapped_simply f g q these h)

action_simply : (a : Action) (qs : List Ask) → aims_by a (map Simply qs) ≡ all_simply (before_action a qs)
action_simply Drop qs = refl
action_simply a [] = refl
action_simply a (q ∷ qs) =
    ap (λ (l : List Aim). Some (l ++ map Simply qs)) (mapped_simply ask_by aim_by q (roles a) (λ role. refl)) ∙ ap Some (sym (map_joined Simply (map (ask_by q) (roles a)) qs))

symbol_simply : (s : Symbol) (qs : List Ask) → aims_symbol s (map Simply qs) ≡ all_simply (before_symbol s qs)
symbol_simply (Tok k) [] = refl
symbol_simply (Tok k) (q ∷ qs) = refl
symbol_simply (Do a) qs = action_simply a qs
symbol_simply (Non x) [] = refl
symbol_simply (Non x) (q ∷ qs) =
    ap (λ (l : List Aim). Some (l ++ map Simply qs)) (mapped_simply ask_least aim_least q (low x) (λ l. refl)) ∙ ap Some (sym (map_joined Simply (map (ask_least q) (low x)) qs))

before_simply : (s : Symbol) (o : Option (List Ask)) → aims_before s (all_simply o) ≡ all_simply (before s o)
before_simply s None = refl
before_simply s (Some qs) = symbol_simply s qs

aimed_simply : (symbols : List Symbol) (o : Option (List Ask)) → aimed symbols (all_simply o) ≡ all_simply (least symbols o)
aimed_simply [] o = refl
aimed_simply (s ∷ symbols) o = ap (aims_before s) (aimed_simply symbols o) ∙ before_simply s (least symbols o)

first_simply : (x : Nonterminal) (o : Option (List Ask)) → may_aim_first x (all_simply o) ≡ may_ask_first x o
first_simply x None = refl
first_simply x (Some []) = refl
first_simply x (Some (q ∷ qs)) = refl

aimable_simply : (symbols : List Symbol) (o : Option (List Ask)) → are_aimable symbols (all_simply o) ≡ are_askable symbols o
aimable_simply [] o = refl
aimable_simply (Tok k ∷ symbols) o = aimable_simply symbols o
aimable_simply (Do a ∷ symbols) o = aimable_simply symbols o
aimable_simply (Non x ∷ symbols) o =
    ap (λ (l : Option (List Aim)). may_aim_first x l && are_aimable symbols (all_simply o)) (aimed_simply symbols o)
    ∙ ap (λ (b : Bool). b && are_aimable symbols (all_simply o)) (first_simply x (least symbols o))
    ∙ ap (λ (b : Bool). may_ask_first x (least symbols o) && b) (aimable_simply symbols o)

no_more_simply : (qs rs : List Ask) → ask_no_more qs rs ≡ true → all_aim_no_more (map Simply qs) (map Simply rs) ≡ true
no_more_simply [] [] h = refl
no_more_simply [] (r ∷ rs) h = absurd (cc)
no_more_simply (q ∷ qs) [] h = absurd (cc)
no_more_simply (q ∷ qs) (r ∷ rs) h =
    both (asks_no_more q r) (all_aim_no_more (map Simply qs) (map Simply rs)) (and_left (asks_no_more q r) (ask_no_more qs rs) h) (no_more_simply qs rs (and_right (asks_no_more q r) (ask_no_more qs rs) h))

simply_so : (x : Nonterminal) (q : Ask) (symbols : List Symbol) → IsLow x q symbols → HasAims x (Simply q) symbols
simply_so x q symbols l =
    record {
      aims = map Simply l.asks;
      aimed_is = aimed_simply symbols (Some (q ∷ [])) ∙ ap all_simply l.least_is;
      no_more_is =
          ap (λ (these : List Aim). all_aim_no_more these (map Simply l.asks)) (mapped_simply ask_least aim_least q (low x) (λ m. refl))
          ∙ no_more_simply (map (ask_least q) (low x)) l.asks l.no_more_is;
      aimable = aimable_simply symbols (Some (q ∷ [])) ∙ l.askable;
    }

rows_aims : (x : Nonterminal) (aim : Aim) (r : Row Nonterminal Action Parts) (these : List (Row Nonterminal Action Parts)) → rows_are_aimed x aim these ≡ true → IsRow r these → HasAims x aim r.symbols
rows_aims x aim r [] h i = absurd i
rows_aims x aim r (p ∷ these) h (inl e) = subst (λ (s : Row Nonterminal Action Parts). HasAims x aim s.symbols) (sym e) (aims_so x aim p (and_left (row_is_aimed x aim p) (rows_are_aimed x aim these) h))
rows_aims x aim r (p ∷ these) h (inr i) = rows_aims x aim r these (and_right (row_is_aimed x aim p) (rows_are_aimed x aim these) h) i

pub aims_row : (x : Nonterminal) (aim : Aim) (r : Row Nonterminal Action Parts) → IsRow r (rows x) → may_aim x aim ≡ true → HasAims x aim r.symbols
aims_row x (Simply q) r i m = simply_so x q r.symbols (low_row x q r i m)
aims_row x (Targets n) r i m = absurd (cc)
aims_row x (Target zero) r i m = rows_aims x (Target 0) r (rows x) (and_left _ _ (all_aimed x)) i
aims_row x (Target (suc n)) r i m = one_further x (Target n) r.symbols (aims_row x (Target n) r i refl)
aims_row x (MayTarget zero) r i m = rows_aims x (MayTarget 0) r (rows x) (and_left _ _ (and_right (rows_are_aimed x (Target 0) (rows x)) _ (all_aimed x))) i
aims_row x (MayTarget (suc n)) r i m = one_further x (MayTarget n) r.symbols (aims_row x (MayTarget n) r i refl)
aims_row x Never r i m = rows_aims x Never r (rows x) (and_right (rows_are_aimed x (MayTarget 0) (rows x)) _ (and_right (rows_are_aimed x (Target 0) (rows x)) _ (all_aimed x))) i

-- what lies below is left alone
action_frame : (a : Action) (aims others cs : List Aim) → aims_by a aims ≡ Some others → aims_by a (aims ++ cs) ≡ Some (others ++ cs)
action_frame a aims others cs e = go (drops_or_aims a) aims e
  where
    go : Leaving a → (aims : List Aim) → aims_by a aims ≡ Some others → aims_by a (aims ++ cs) ≡ Some (others ++ cs)
    go (inl is) aims e =
        let same : Simply NoNode ∷ aims ≡ others = same_Some (Simply NoNode ∷ aims) others (sym (ap (λ (b : Action). aims_by b aims) is) ∙ e) in
        ap (λ (b : Action). aims_by b (aims ++ cs)) is ∙ ap (λ (l : List Aim). Some (l ++ cs)) same
    go (inr (one, two, three, four)) [] e = let none : None ≡ Some others = sym three ∙ e in absurd (cc)
    go (inr (one, two, three, four)) (aim ∷ aims) e =
        let same : map (aim_by (made_by a aim)) (roles a) ++ aims ≡ others = same_Some _ others (sym (two aim aims) ∙ e) in
        two aim (aims ++ cs) ∙ ap Some (sym (append_assoc (map (aim_by (made_by a aim)) (roles a)) aims cs)) ∙ ap (λ (l : List Aim). Some (l ++ cs)) same

symbol_frame : (s : Symbol) (aims others cs : List Aim) → aims_symbol s aims ≡ Some others → aims_symbol s (aims ++ cs) ≡ Some (others ++ cs)
symbol_frame (Tok k) [] others cs e = absurd (cc)
symbol_frame (Tok k) (aim ∷ aims) others cs e = ap (λ (l : List Aim). Some (l ++ cs)) (same_Some aims others e)
symbol_frame (Do a) aims others cs e = action_frame a aims others cs e
symbol_frame (Non x) [] others cs e = absurd (cc)
symbol_frame (Non x) (aim ∷ aims) others cs e = ap Some (sym (append_assoc (said x aim) aims cs)) ∙ ap (λ (l : List Aim). Some (l ++ cs)) (same_Some _ others e)

pub aimed_frame : (symbols : List Symbol) (aims others cs : List Aim) → aimed symbols (Some aims) ≡ Some others → aimed symbols (Some (aims ++ cs)) ≡ Some (others ++ cs)
aimed_frame [] aims others cs e = ap (λ (l : List Aim). Some (l ++ cs)) (same_Some aims others e)
aimed_frame (s ∷ symbols) aims others cs e = go (aimed symbols (Some aims)) refl e (λ rs h. aimed_frame symbols aims rs cs h)
  where
    go : (o : Option (List Aim)) → aimed symbols (Some aims) ≡ o → aims_before s o ≡ Some others
        → ((rs : List Aim) → aimed symbols (Some aims) ≡ Some rs → aimed symbols (Some (aims ++ cs)) ≡ Some (rs ++ cs)) → aims_before s (aimed symbols (Some (aims ++ cs))) ≡ Some (others ++ cs)
    go None o h again = absurd (cc)
    go (Some rs) o h again = ap (aims_before s) (again rs o) ∙ symbol_frame s rs others cs h

pub aimed_joined : (these symbols : List Symbol) (o : Option (List Aim)) → aimed (these ++ symbols) o ≡ aimed these (aimed symbols o)
aimed_joined [] symbols o = refl
aimed_joined (s ∷ these) symbols o = ap (aims_before s) (aimed_joined these symbols o)

first_frame : (x : Nonterminal) (o w : Option (List Aim)) (cs : List Aim) → may_aim_first x o ≡ true → ((rs : List Aim) → o ≡ Some rs → w ≡ Some (rs ++ cs)) → may_aim_first x w ≡ true
first_frame x None w cs h f = absurd (cc)
first_frame x (Some []) w cs h f = absurd (cc)
first_frame x (Some (aim ∷ aims)) w cs h f = ap (may_aim_first x) (f (aim ∷ aims) refl) ∙ h

pub aimable_joined : (these symbols : List Symbol) (aim : Aim) (cs : List Aim) (o : Option (List Aim)) → aimed symbols o ≡ Some (aim ∷ cs) → are_aimable these (Some (aim ∷ [])) ≡ true
    → are_aimable symbols o ≡ true → are_aimable (these ++ symbols) o ≡ true
aimable_joined [] symbols aim cs o e h k = k
aimable_joined (Tok n ∷ these) symbols aim cs o e h k = aimable_joined these symbols aim cs o e h k
aimable_joined (Do a ∷ these) symbols aim cs o e h k = aimable_joined these symbols aim cs o e h k
aimable_joined (Non x ∷ these) symbols aim cs o e h k =
    let may : may_aim_first x (aimed these (Some (aim ∷ []))) ≡ true = and_left _ _ h in
    both (may_aim_first x (aimed (these ++ symbols) o)) (are_aimable (these ++ symbols) o)
    (first_frame x (aimed these (Some (aim ∷ []))) (aimed (these ++ symbols) o) cs may (λ rs f. aimed_joined these symbols o ∙ ap (aimed these) e ∙ aimed_frame these (aim ∷ []) rs cs f))
    (aimable_joined these symbols aim cs o e (and_right (may_aim_first x (aimed these (Some (aim ∷ [])))) _ h) k)
