-- What is known on the way of a run, step by step.
use Rattle.std.proofs.Common.{◌≡◌, ℕ, suc, ◌+◌, Bool, true, false, cond, ◌&&◌, ◌==◌, if◌then◌else◌, List, [], ◌∷◌, ◌++◌, Option, Some, None, ◌⊎◌, inl, inr, refl, sym, ap, ◌∙◌, subst, arith, eq-eqb, eqb-true, append-nil, append_assoc}
use Rattle.grammars.specs.Grammar.{Tok, Non, Do, allows, Row, IsRow, Sight, sight}
use Rattle.grammars.specs.Sets.{has, ahead}
use Rattle.grammars.specs.Run.{Stuck, first_row, pick, expand, run}
use Rattle.grammars.proofs.Bools.{and_left, and_right}
use Rattle.grammars.proofs.Rows.{pick_is_row, pick_row}
use Rattle.py_syntax.specs.Token.{Token}
use Rattle.py_syntax.specs.Kinds.{kind_of}
use Rattle.py_constructs.specs.Construct.{Construct}
use Rattle.py_syntax.specs.Table as t
use Rattle.py_constructs.specs.Values.{Targets, NoTargets, OwnTargets, SlicedTargets, NestedTargets, Item, Token as TokenItem, Expression, Class, Base, Other, Value, begin, take_in, Action, act, of_expression, are_own, Widening, NoWidening, Slices, Brackets, are_wide, is_wide, are_targets_with, is_target_with}
use Rattle.py_constructs.specs.Table.{Name, Profile, Symbol, rows_of, number_of, additions, added_to, widening_of, grammar_with, extended, sets, goal}
use Rattle.py_constructs.specs.Standing.{StandsAt}
use Rattle.py_constructs.specs.Reached.{settled, End}
use Rattle.py_constructs.specs.OneStep.{Step, Going, Finished, Halted, expanded, one_step, OnWay, StartLaw, StepLaw, OwnStepLaw, HaltLaw, FinishLaw, EarlyLaw}
use Rattle.std.proofs.lemmas.Option.{same_Some}
use Rattle.py_constructs.proofs.TableSets.{decided}
use Rattle.py_constructs.proofs.Standing.{told_law}
use Rattle.py_constructs.proofs.Steps.{begins, over_token, over_action, over_row}

abbrev OneRow : Type 0
OneRow = Row Name Action Value

pub start_law : StartLaw
start_law c ts = record {
  before = [];
  split = refl;
  reached = begins c;
  steps = 0;
  goes = λ n. ap (λ (m : ℕ). run (extended c) sets m goal begin ts) (let z : 0 + n ≡ n = omega arith in z);
}

further : {A : Type 0} (f : ℕ → A) (m n : ℕ) → f (suc m + n) ≡ f (m + suc n)
further f m n = ap f (let e : suc m + n ≡ m + suc n = omega arith in e)

-- where the step goes
abbrev symbols_of : Step → List Symbol
symbols_of (Going symbols v ts) = symbols
symbols_of Finished = []
symbols_of Halted = []

abbrev value_of : Step → Value
value_of (Going symbols v ts) = v
value_of Finished = begin
value_of Halted = begin

abbrev rest_of : Step → List Token
rest_of (Going symbols v ts) = ts
rest_of Finished = []
rest_of Halted = []

-- of the same step
abbrev At : Construct → List Token → Step → Type 0
At c ts s = OnWay c ts (symbols_of s) (value_of s) (rest_of s)

over_read : (c : Construct) (ts : List Token) (symbols : List Symbol) (v : Value) (t : Token) (rest : List Token) → OnWay c ts (Tok (kind_of t) ∷ symbols) v (t ∷ rest)
    → ((n : ℕ) → run (extended c) sets (suc n) (Tok (kind_of t) ∷ symbols) v (t ∷ rest) ≡ run (extended c) sets n symbols (take_in t v) rest) → OnWay c ts symbols (take_in t v) rest
over_read c ts symbols v t rest w g = record {
  before = w.before ++ t ∷ [];
  split = w.split ∙ sym (append_assoc w.before (t ∷ []) rest);
  reached = over_token c w.before t symbols v w.reached;
  steps = suc w.steps;
  goes = λ n. further (λ j. run (extended c) sets j goal begin ts) w.steps n ∙ w.goes (suc n) ∙ g n;
}

over_expand : (c : Construct) (ts : List Token) (x : Name) (r : Row Name Action Value) (symbols : List Symbol) (v : Value) (rest : List Token) → OnWay c ts (Non x ∷ symbols) v rest
    → pick (extended c) sets x v (sight (extended c) rest) ≡ Some r → OnWay c ts (r.symbols ++ symbols) v rest
over_expand c ts x r symbols v rest w p =
    let i = pick_is_row (extended c) sets x v (sight (extended c) rest) r p in
    record {
      before = w.before;
      split = w.split;
      reached = over_row c w.before x r symbols v w.reached i.0 i.1;
      steps = suc w.steps;
      goes = λ n. further (λ j. run (extended c) sets j goal begin ts) w.steps n ∙ w.goes (suc n) ∙ ap (expand (run (extended c) sets n) symbols v rest) p;
    }

over_do : (c : Construct) (ts : List Token) (a : Action) (symbols : List Symbol) (v : Value) (rest : List Token) → OnWay c ts (Do a ∷ symbols) v rest → OnWay c ts symbols (act a v) rest
over_do c ts a symbols v rest w = record {
  before = w.before;
  split = w.split;
  reached = over_action c w.before a symbols v w.reached;
  steps = suc w.steps;
  goes = λ n. further (λ j. run (extended c) sets j goal begin ts) w.steps n ∙ w.goes (suc n);
}

read_goes : (c : Construct) (k : ℕ) (symbols : List Symbol) (v : Value) (t : Token) (rest : List Token) (n : ℕ) → (kind_of t == k) ≡ true
    → run (extended c) sets (suc n) (Tok k ∷ symbols) v (t ∷ rest) ≡ run (extended c) sets n symbols (take_in t v) rest
read_goes c k symbols v t rest n e = ap (λ (b : Bool). cond b (run (extended c) sets n symbols (take_in t v) rest) (Stuck (t ∷ rest))) e

-- a row that is picked stands there, and the test takes it
first_is : (test : OneRow → Bool) (rows : List OneRow) (r : OneRow) → first_row test rows ≡ Some r → IsRow r rows × (test r ≡ true)
first_is test [] r e = absurd (cc)
first_is test (q ∷ rows) r e = go (test q) refl e (first_is test rows r)
  where
    go : (b : Bool) → test q ≡ b → cond b (Some q) (first_row test rows) ≡ Some r → (first_row test rows ≡ Some r → IsRow r rows × (test r ≡ true)) → IsRow r (q ∷ rows) × (test r ≡ true)
    go true t k later = let same : q ≡ r = same_Some q r k in (inl (sym same), subst (λ (x : OneRow). test x ≡ true) same t)
    go false t k later = let found = later k in (inr found.0, found.1)

-- row for row the same symbols, and a guard that allows no less at this value
abbrev AllowNoLess : Value → List OneRow → List OneRow → Type 0
AllowNoLess v [] [] = Unit {0}
AllowNoLess v [] (q ∷ those) = ⊥
AllowNoLess v (r ∷ these) [] = ⊥
AllowNoLess v (r ∷ these) (q ∷ those) = (r.symbols ≡ q.symbols) × (allows r.guard v ≡ true → allows q.guard v ≡ true) × AllowNoLess v these those

same_rows : (v : Value) (rows : List OneRow) → AllowNoLess v rows rows
same_rows v [] = tt
same_rows v (r ∷ rows) = (refl, λ h. h, same_rows v rows)

-- the row that stands in place of one that is allowed
abbrev InPlace : Value → OneRow → List OneRow → Type 0
InPlace v r rows = (q : OneRow) × IsRow q rows × (r.symbols ≡ q.symbols) × (allows q.guard v ≡ true)

in_place : (v : Value) (these those : List OneRow) (r : OneRow) → AllowNoLess v these those → IsRow r these → allows r.guard v ≡ true → InPlace v r those
in_place v [] [] r a i g = absurd i
in_place v [] (q ∷ those) r a i g = absurd a
in_place v (p ∷ these) [] r a i g = absurd a
in_place v (p ∷ these) (q ∷ those) r a (inl e) g = (q, inl refl, ap (λ (x : OneRow). x.symbols) e ∙ a.0, a.1 (subst (λ (x : OneRow). allows x.guard v ≡ true) e g))
in_place v (p ∷ these) (q ∷ those) r a (inr i) g = let l = in_place v these those r a.2 i g in (l.0, inr l.1, l.2, l.3)

-- where more may be targets, no guard allows less
own_are_targets : (w : Widening) (t : Targets) → are_own t ≡ true → are_wide w t ≡ true
own_are_targets NoWidening t h = h
own_are_targets Slices NoTargets h = h
own_are_targets Slices OwnTargets h = h
own_are_targets Slices (SlicedTargets head) h = refl
own_are_targets Slices (NestedTargets head) h = h
own_are_targets Brackets NoTargets h = h
own_are_targets Brackets OwnTargets h = h
own_are_targets Brackets (SlicedTargets head) h = h
own_are_targets Brackets (NestedTargets head) h = refl

own_is_target : (w : Widening) (t : Targets) → are_own t ≡ true → is_wide w t ≡ true
own_is_target NoWidening t h = h
own_is_target Slices NoTargets h = h
own_is_target Slices OwnTargets h = h
own_is_target Slices (SlicedTargets head) h = refl
own_is_target Slices (NestedTargets head) h = h
own_is_target Brackets t h = h

more_targets : (w : Widening) (v : Value) → are_targets_with NoWidening v ≡ true → are_targets_with w v ≡ true
more_targets w v = go v.items
  where
    go : (items : List Item) → of_expression (λ r. are_wide NoWidening r.whole) items ≡ true → of_expression (λ r. are_wide w r.whole) items ≡ true
    go [] h = h
    go (Expression r ∷ items) h = own_are_targets w r.whole h
    go (TokenItem s n p ∷ items) h = h
    go (Class b ∷ items) h = h
    go (Base ∷ items) h = h
    go (Other ∷ items) h = h

more_target : (w : Widening) (v : Value) → is_target_with NoWidening v ≡ true → is_target_with w v ≡ true
more_target w v = go v.items
  where
    go : (items : List Item) → of_expression (λ r. is_wide NoWidening r.item) items ≡ true → of_expression (λ r. is_wide w r.item) items ≡ true
    go [] h = h
    go (Expression r ∷ items) h = own_is_target w r.item h
    go (TokenItem s n p ∷ items) h = h
    go (Class b ∷ items) h = h
    go (Base ∷ items) h = h
    go (Other ∷ items) h = h

-- only these two names have such guards
alike : (w : Widening) (x : Name) → (rows_of NoWidening x ≡ rows_of w x) ⊎ (x ≡ Profile t.SmallTail) ⊎ (x ≡ Profile t.AssignTail)
alike w (Profile t.SmallTail) = inr (inl refl)
alike w (Profile t.AssignTail) = inr (inr refl)
alike w (Profile t.Module) = inl refl
alike w _ = inl refl

behind_expressions : (w : Widening) (v : Value) → AllowNoLess v (rows_of NoWidening (Profile t.SmallTail)) (rows_of w (Profile t.SmallTail))
behind_expressions w v =
    let one = more_target w v in
    (refl, λ h. h, (refl, more_targets w v, (refl, one, (refl, one, (refl, one, (refl, one, (refl, one, (refl, one, (refl, one, (refl, one, (refl, one, (refl, one, (refl, one, tt)))))))))))))

behind_assignments : (w : Widening) (v : Value) → AllowNoLess v (rows_of NoWidening (Profile t.AssignTail)) (rows_of w (Profile t.AssignTail))
behind_assignments w v = (refl, λ h. h, (refl, more_targets w v, tt))

no_less : (w : Widening) (x : Name) (v : Value) → AllowNoLess v (rows_of NoWidening x) (rows_of w x)
no_less w x v = go (alike w x)
  where
    go : (rows_of NoWidening x ≡ rows_of w x) ⊎ (x ≡ Profile t.SmallTail) ⊎ (x ≡ Profile t.AssignTail) → AllowNoLess v (rows_of NoWidening x) (rows_of w x)
    go (inl e) = subst (λ (l : List OneRow). AllowNoLess v (rows_of NoWidening x) l) e (same_rows v (rows_of NoWidening x))
    go (inr (inl e)) = subst (λ (y : Name). AllowNoLess v (rows_of NoWidening y) (rows_of w y)) (sym e) (behind_expressions w v)
    go (inr (inr e)) = subst (λ (y : Name). AllowNoLess v (rows_of NoWidening y) (rows_of w y)) (sym e) (behind_assignments w v)

in_front : (these those : List OneRow) (r : OneRow) → IsRow r these → IsRow r (these ++ those)
in_front [] those r i = absurd i
in_front (q ∷ these) those r (inl e) = inl e
in_front (q ∷ these) those r (inr i) = inr (in_front these those r i)

-- where a row is picked with none added, one with the same symbols is picked with each
abbrev PickedWith : Construct → Name → Value → Sight → OneRow → Type 0
PickedWith c x v s r = (q : OneRow) × (pick (extended c) sets x v s ≡ Some q) × (r.symbols ≡ q.symbols)

picked_with : (c : Construct) (x : Name) (v : Value) (s : Sight) (r : OneRow) → pick (grammar_with []) sets x v s ≡ Some r → PickedWith c x v s r
picked_with c x v s r e =
    let w : Widening = widening_of (additions c) in
    let test : OneRow → Bool = λ q. has (ahead sets (sets.follow x) q.symbols) s && allows q.guard v in
    let f : IsRow r (rows_of NoWidening x) × (test r ≡ true) = first_is test (rows_of NoWidening x) r (ap (first_row test) (sym (append-nil (rows_of NoWidening x))) ∙ e) in
    let seen : has (ahead sets (sets.follow x) r.symbols) s ≡ true = and_left (has (ahead sets (sets.follow x) r.symbols) s) (allows r.guard v) f.1 in
    let q : InPlace v r (rows_of w x) = in_place v (rows_of NoWidening x) (rows_of w x) r (no_less w x v) f.0 (and_right (has (ahead sets (sets.follow x) r.symbols) s) (allows r.guard v) f.1) in (
      q.0,
      pick_row (extended c) sets x q.0 v s (decided c x) (in_front (rows_of w x) (added_to (number_of x) (additions c)) q.0 q.1)
          (subst (λ (l : List Symbol). has (ahead sets (sets.follow x) l) s ≡ true) q.2 seen) q.3,
      q.2,
    )

sight_alike : (c : Construct) (ts : List Token) → sight (grammar_with []) ts ≡ sight (extended c) ts
sight_alike c [] = refl
sight_alike c (t ∷ ts) = refl

-- what is gone to
abbrev IsGoing : Step → Type 0
IsGoing (Going symbols v ts) = Unit {0}
IsGoing Finished = ⊥
IsGoing Halted = ⊥

stepped : (c : Construct) (ts : List Token) (symbols : List Symbol) (v : Value) (rest : List Token) → OnWay c ts symbols v rest → IsGoing (one_step (additions c) symbols v rest)
    → At c ts (one_step (additions c) symbols v rest)
stepped c ts [] v [] w g = absurd g
stepped c ts [] v (t ∷ rest) w g = absurd g
stepped c ts (Tok k ∷ symbols) v [] w g = absurd g
stepped c ts (Tok k ∷ symbols) v (t ∷ rest) w g = go (kind_of t == k) refl g
  where
    go : (b : Bool) → (kind_of t == k) ≡ b → IsGoing (if b then Going symbols (take_in t v) rest else Halted) → At c ts (if b then Going symbols (take_in t v) rest else Halted)
    go true e i =
        let is : kind_of t ≡ k = eqb-true (kind_of t) k e in
        over_read c ts symbols v t rest (subst (λ (m : ℕ). OnWay c ts (Tok m ∷ symbols) v (t ∷ rest)) (sym is) w) (λ n. read_goes c (kind_of t) symbols v t rest n (eq-eqb (kind_of t) (kind_of t) refl))
    go false e i = absurd i
stepped c ts (Non x ∷ symbols) v rest w g = go (pick (extended c) sets x v (sight (extended c) rest)) refl g
  where
    go : (o : Option (Row Name Action Value)) → pick (extended c) sets x v (sight (extended c) rest) ≡ o → IsGoing (expanded o symbols v rest) → At c ts (expanded o symbols v rest)
    go None e i = absurd i
    go (Some r) e i = over_expand c ts x r symbols v rest w e
stepped c ts (Do a ∷ symbols) v rest w g = over_do c ts a symbols v rest w

pub step_law : StepLaw
step_law c ts symbols others v u rest more w e =
    subst (λ (s : Step). At c ts s) e (stepped c ts symbols v rest w (subst (λ (s : Step). IsGoing s) (sym e) tt))

-- a step with no construct is one with each
own_stepped : (c : Construct) (ts : List Token) (symbols : List Symbol) (v : Value) (rest : List Token) → OnWay c ts symbols v rest → IsGoing (one_step [] symbols v rest) → At c ts (one_step [] symbols v rest)
own_stepped c ts [] v [] w g = absurd g
own_stepped c ts [] v (t ∷ rest) w g = absurd g
own_stepped c ts (Tok k ∷ symbols) v [] w g = absurd g
own_stepped c ts (Tok k ∷ symbols) v (t ∷ rest) w g = stepped c ts (Tok k ∷ symbols) v (t ∷ rest) w g
own_stepped c ts (Non x ∷ symbols) v rest w g = go (pick (grammar_with []) sets x v (sight (grammar_with []) rest)) refl g
  where
    go : (o : Option (Row Name Action Value)) → pick (grammar_with []) sets x v (sight (grammar_with []) rest) ≡ o → IsGoing (expanded o symbols v rest) → At c ts (expanded o symbols v rest)
    go None e i = absurd i
    go (Some r) e i =
        let q : PickedWith c x v (sight (extended c) rest) r = subst (λ (s : Sight). PickedWith c x v s r) (sight_alike c rest) (picked_with c x v (sight (grammar_with []) rest) r e) in
        subst (λ (l : List Symbol). OnWay c ts (l ++ symbols) v rest) (sym q.2) (over_expand c ts x q.0 symbols v rest w q.1)
own_stepped c ts (Do a ∷ symbols) v rest w g = over_do c ts a symbols v rest w

pub own_step_law : OwnStepLaw
own_step_law c ts symbols others v u rest more w e =
    subst (λ (s : Step). At c ts s) e (own_stepped c ts symbols v rest w (subst (λ (s : Step). IsGoing s) (sym e) tt))

-- where the run has ended, what is told is settled
ended : (c : Construct) (ts : List Token) (symbols : List Symbol) (v : Value) (rest : List Token) (w : OnWay c ts symbols v rest) → settled symbols v ≡ v.told
    → (run (extended c) sets 1 symbols v rest ≡ Stuck rest) ⊎ (rest ≡ []) → End c ts v
ended c ts symbols v rest w s h = record { before = w.before; rest = rest; symbols = symbols; split = w.split; reached = w.reached; settled_so = s; steps = w.steps + 1; ended = on_way h }
  where
    on_way : (run (extended c) sets 1 symbols v rest ≡ Stuck rest) ⊎ (rest ≡ []) → (run (extended c) sets (w.steps + 1) goal begin ts ≡ Stuck rest) ⊎ (rest ≡ [])
    on_way (inl e) = inl (w.goes 1 ∙ e)
    on_way (inr e) = inr e

pub halt_law : HaltLaw
halt_law c ts [] v [] w e = absurd (cc)
halt_law c ts [] v (t ∷ rest) w e = ended c ts [] v (t ∷ rest) w refl (inl refl)
halt_law c ts (Tok k ∷ symbols) v [] w e = ended c ts (Tok k ∷ symbols) v [] w refl (inr refl)
halt_law c ts (Tok k ∷ symbols) v (t ∷ rest) w e = go (kind_of t == k) refl e
  where
    go : (b : Bool) → (kind_of t == k) ≡ b → (if b then Going symbols (take_in t v) rest else Halted) ≡ Halted → End c ts v
    go true b h = absurd (cc)
    go false b h = ended c ts (Tok k ∷ symbols) v (t ∷ rest) w refl (inl (ap (λ (x : Bool). cond x (run (extended c) sets 0 symbols (take_in t v) rest) (Stuck (t ∷ rest))) b))
halt_law c ts (Non x ∷ symbols) v rest w e = go (pick (extended c) sets x v (sight (extended c) rest)) refl e
  where
    go : (o : Option (Row Name Action Value)) → pick (extended c) sets x v (sight (extended c) rest) ≡ o → expanded o symbols v rest ≡ Halted → End c ts v
    go None p h = ended c ts (Non x ∷ symbols) v rest w refl (inl (ap (expand (run (extended c) sets 0) symbols v rest) p))
    go (Some r) p h = absurd (cc)
halt_law c ts (Do a ∷ symbols) v rest w e = absurd (cc)

pub finish_law : FinishLaw
finish_law c ts [] v [] w e = ended c ts [] v [] w refl (inr refl)
finish_law c ts [] v (t ∷ rest) w e = absurd (cc)
finish_law c ts (Tok k ∷ symbols) v [] w e = absurd (cc)
finish_law c ts (Tok k ∷ symbols) v (t ∷ rest) w e = go (kind_of t == k) e
  where
    go : (b : Bool) → (if b then Going symbols (take_in t v) rest else Halted) ≡ Finished → End c ts v
    go true h = absurd (cc)
    go false h = absurd (cc)
finish_law c ts (Non x ∷ symbols) v rest w e = go (pick (extended c) sets x v (sight (extended c) rest)) e
  where
    go : (o : Option (Row Name Action Value)) → expanded o symbols v rest ≡ Finished → End c ts v
    go None h = absurd (cc)
    go (Some r) h = absurd (cc)
finish_law c ts (Do a ∷ symbols) v rest w e = absurd (cc)

pub early_law : EarlyLaw
early_law c ts symbols v rest t first w e l =
    subst (λ (x : List Token). StandsAt c t.head x first) (sym w.split) (told_law c w.before rest symbols v t first w.reached e (let r = w.reached.read in omega arith))
