-- Symbols that are closed leave as many parts as are asked for behind them, and leave alone what lies below those that they take.
use Rattle.std.proofs.Common.{◌≡◌, ℕ, zero, suc, ◌+◌, nat_lt, ◌<◌, Bool, true, false, ◌==◌, List, [], ◌∷◌, ◌++◌, map, length, Option, Some, None, inl, inr, refl, sym, ap, ◌∙◌, subst, append_assoc, eqb-true, arith}
use Rattle.grammars.specs.Grammar.{Tok, Non, Do}
use Rattle.grammars.specs.Sets.{are_below, have_specimens}
use Rattle.grammars.proofs.Bools.{and_left, and_right}
use Rattle.py_tokens.specs.Token.{Place}
use Rattle.py_syntax.specs.Token.{Token, At}
use Rattle.py_syntax.specs.Kinds.{kind_at, kind_of}
use Rattle.py_syntax.specs.Build.{PToken, Parts, Action, act}
use Rattle.py_syntax.specs.Table.{Symbol, Nonterminal, row, table, Module}
use Rattle.py_nesting.specs.Effects.{effect, effect_of, effect_drop}
use Rattle.py_nesting.specs.Outlines.{Event}
use Rattle.py_nesting.specs.Shapes.{TokenShape, Entry, entry, entry_of, entries_of}
use Rattle.py_nesting.proofs.EffectsKept.{no_effect, effects_kept}
use Rattle.py_fronts.specs.Fit.{Fit}
use Rattle.py_fronts.specs.Kinds.{fits, token_kind}
use Rattle.py_fronts.proofs.DerivedFit.{token_fits_so}
use Rattle.py_fronts.proofs.TableFits.{row_fits}
use Rattle.py_demands.specs.Closing.{closing}
use Rattle.py_demands.specs.Least.{Ask, NoNode, AtLeast, WithinAtLeast, OpenAtLeast, Least, ask_by, ask_least, low, before_action, before_symbol, before, least}
use Rattle.py_demands.specs.Roles.{roles}
use Rattle.py_demands.specs.Turning.{with_effect, then_ends, ends}
use Rattle.py_demands.proofs.Closed.{sets_at, anywhere}
use Rattle.py_demands.proofs.LowRows.{least_frame}
use Rattle.py_demands.proofs.Made.{Leaves, made}
use Rattle.py_demands.proofs.Passing.{LeavesOne, leaves_one}
use Rattle.py_demands.proofs.RowsClose.{is_row, closing_rank, closing_sets, closed_below, closed_by_specimens}
use Rattle.py_demands.proofs.Steps.{asks_behind}
use Rattle.py_demands.proofs.TargetsLeft.{below_more}
use Rattle.std.proofs.lemmas.Bool.{ltb-true}
use Rattle.std.proofs.lemmas.Option.{same_Some}

-- so many parts from the top give way to so many others
abbrev pub Frame : ℕ → ℕ → List Entry → List Entry → Type 0
Frame m n es new = (front below : List Entry) → es ≡ front ++ below → length front ≡ m → (others : List Entry) × (new ≡ others ++ below) × (length others ≡ n)

frame_then : (l m n : ℕ) (es fs new : List Entry) → Frame l m es fs → Frame m n fs new → Frame l n es new
frame_then l m n es fs new f g front below e k = let a = f front below e k in g a.0 below a.1 a.2

record Parted (es : List Entry) (m k : ℕ) : Type 0 where
  pub first : List Entry
  pub last : List Entry
  pub parts : es ≡ first ++ last
  pub first_many : length first ≡ m
  pub last_many : length last ≡ k

parted : (es : List Entry) (m k : ℕ) → length es ≡ m + k → Parted es m k
parted es zero k h = record { first = []; last = es; parts = refl; first_many = refl; last_many = omega arith }
parted [] (suc m) k h = absurd (omega arith)
parted (e ∷ es) (suc m) k h =
    let r = parted es m k (omega arith) in
    record { first = e ∷ r.first; last = r.last; parts = ap (λ (l : List Entry). e ∷ l) r.parts; first_many = ap suc r.first_many; last_many = r.last_many }

joined_many : (es fs : List Entry) → length (es ++ fs) ≡ length es + length fs
joined_many [] fs = omega arith
joined_many (e ∷ es) fs = let r = joined_many es fs in omega arith

same_below : (es fs gs hs : List Entry) → es ++ gs ≡ fs ++ hs → length es ≡ length fs → gs ≡ hs
same_below [] [] gs hs e m = e
same_below [] (f ∷ fs) gs hs e m = absurd (omega arith)
same_below (e ∷ es) [] gs hs h m = absurd (omega arith)
same_below (e ∷ es) (f ∷ fs) gs hs h m = let t : es ++ gs ≡ fs ++ hs = cc in same_below es fs gs hs t (omega arith)

-- where more are left alone
frame_more : (m n k : ℕ) (es new : List Entry) → Frame m n es new → Frame (m + k) (n + k) es new
frame_more m n k es new f front below e l =
    let r = parted front m k l in
    let a = f r.first (r.last ++ below) (e ∙ ap (λ (x : List Entry). x ++ below) r.parts ∙ append_assoc r.first r.last below) r.first_many in
    let many = joined_many a.0 r.last in let one = a.2 in let two = r.last_many in (a.0 ++ r.last, a.1 ∙ sym (append_assoc a.0 r.last below), omega arith)

asks_joined : (qs rs : List Ask) → length (qs ++ rs) ≡ length qs + length rs
asks_joined [] rs = omega arith
asks_joined (q ∷ qs) rs = let r = asks_joined qs rs in omega arith

action_frame : (a : Action) (es new : List Entry) (events : List Event) → before_action a [] ≡ None → effect_of a es ≡ Some (effect new events) → Frame (length (roles a)) 1 es new
action_frame a es new events n f front below e l =
    let m : Leaves a es new = made a es (effect new events) n f in
    let same : m.2 ≡ below = same_below m.1 front m.2 below (sym m.3 ∙ e) (m.5 ∙ sym l) in
    (m.0 ∷ [], m.4 ∙ ap (λ (x : List Entry). m.0 ∷ x) same, refl)

drop_frame : (k : ℕ) (es new : List Entry) (events : List Event) → effect_drop es ≡ Some (effect new events) → Frame (suc k) k es new
drop_frame k (entry (TokenShape t) p ∷ es) new events f [] below e l = absurd (omega arith)
drop_frame k (entry (TokenShape t) p ∷ es) new events f (x ∷ front) below e l = let one : es ≡ front ++ below = cc in let is : es ≡ new = cc in (front, sym is ∙ one, omega arith)
drop_frame k es new events f front below e l = no_effect f

pub asks_many : {A : Type 0} (f : A → Ask) (these : List A) (qs : List Ask) → length (map f these ++ qs) ≡ length these + length qs
asks_many f [] qs = omega arith
asks_many f (a ∷ these) qs = let r = asks_many f these qs in omega arith

action_many : (a : Action) (es new : List Entry) (events : List Event) (qs asks : List Ask) → effect_of a es ≡ Some (effect new events) → before_action a qs ≡ Some asks → Frame (length asks) (length qs) es new
action_many a es new events qs asks f e = go (leaves_one a) qs e
  where
    go : LeavesOne a → (qs : List Ask) → before_action a qs ≡ Some asks → Frame (length asks) (length qs) es new
    go (inl is) qs e =
        let same : suc (length qs) ≡ length asks = ap length (same_Some (NoNode ∷ qs) asks (sym (ap (λ (b : Action). before_action b qs) is) ∙ e)) in
        subst (λ (m : ℕ). Frame m (length qs) es new) same (drop_frame (length qs) es new events (sym (ap (λ (b : Action). effect_of b es) is) ∙ f))
    go (inr (one, two)) [] e = let none : None ≡ Some asks = sym two ∙ e in absurd (cc)
    go (inr (one, two)) (q ∷ rs) e =
        let same : length (roles a) + length rs ≡ length asks = sym (asks_many (ask_by q) (roles a) rs) ∙ ap length (same_Some (map (ask_by q) (roles a) ++ rs) asks (sym (one q rs) ∙ e)) in
        let r = frame_more (length (roles a)) 1 (length rs) es new (action_frame a es new events two f) in
        let more : 1 + length rs ≡ suc (length rs) = omega arith in
        subst (λ (m : ℕ). Frame m (suc (length rs)) es new) same (subst (λ (m : ℕ). Frame (length (roles a) + length rs) m es new) more r)

-- the closing row takes as many parts as its nonterminal
abbrev has_many : List Least → Option (List Ask) → Bool
has_many ls None = false
has_many ls (Some qs) = length ls == length qs

closing_many : (x : Nonterminal) (q : Ask) → has_many (low x) (least (closing x) (Some (q ∷ []))) ≡ true
closing_many Module NoNode = refl
closing_many Module (AtLeast n) = refl
closing_many Module (WithinAtLeast n) = refl
closing_many Module (OpenAtLeast n) = refl
closing_many _ NoNode = refl
closing_many _ (AtLeast n) = refl
closing_many _ (WithinAtLeast n) = refl
closing_many _ (OpenAtLeast n) = refl

pub record Shut (n : ℕ) (p : Place) (symbols more : List Symbol) (v : Parts) (taken kept : ℕ) : Type 0 where
  pub left : Parts
  pub ends_so : ends n p symbols (entries_of v) ≡ Some (entries_of left)
  pub fit : Fit more (entries_of left)
  pub frame : Frame taken kept (entries_of v) (entries_of left)

pub shut : (n : ℕ) (p : Place) (symbols more : List Symbol) (v : Parts) (qs asks : List Ask) → are_below closing_sets n symbols ≡ true → have_specimens table (sets_at p) symbols ≡ true → Fit (symbols ++ more) (entries_of v)
    → least symbols (Some qs) ≡ Some asks → Shut n p symbols more v (length asks) (length qs)
shut n p [] more v qs asks r k f e =
    record { left = v; ends_so = refl; fit = f; frame = λ front below is m. (front, is, m ∙ sym (ap length (same_Some qs asks e))) }
shut n p (Tok j ∷ symbols) more v qs asks r k f e =
    let t : Token = At p (kind_at j) in
    let kind : kind_of t ≡ j = eqb-true _ _ (and_left (kind_of t == j) (have_specimens table (sets_at p) symbols) k) in
    let b = asks_behind (Tok j) symbols (Some qs) asks e in
    let l = shut n p symbols more (PToken t ∷ v) qs b.0 r (and_right (kind_of t == j) (have_specimens table (sets_at p) symbols) k)
    (f (entry_of (PToken t)) (subst (λ (m : ℕ). fits (token_kind m) (entry_of (PToken t)) ≡ true) kind (token_fits_so t))) b.1 in
    record { left = l.left; ends_so = l.ends_so; fit = l.fit; frame = frame_then (length asks) (length b.0) (length qs) (entries_of v) (entries_of (PToken t ∷ v)) (entries_of l.left) (with_token b.0 (sym (ap (before (Tok j)) b.1) ∙ e)) l.frame }
  where
    with_token : (rs : List Ask) → before_symbol (Tok j) rs ≡ Some asks → Frame (length asks) (length rs) (entries_of v) (entries_of (PToken (At p (kind_at j)) ∷ v))
    with_token [] i = absurd (cc)
    with_token (q ∷ rs) i = λ front below is m. (entry_of (PToken (At p (kind_at j))) ∷ front, ap (λ (l : List Entry). entry_of (PToken (At p (kind_at j))) ∷ l) is, ap suc (m ∙ sym (ap length (same_Some rs asks i))))
shut n p (Do c ∷ symbols) more v qs asks r k f e =
    let kept = effects_kept c v (effect f.0 f.1) f.2 in
    let b = asks_behind (Do c) symbols (Some qs) asks e in
    let l = shut n p symbols more (act c v) qs b.0 r k (subst (Fit (symbols ++ more)) (sym kept.0) f.3) b.1 in
    let one : Frame (length asks) (length b.0) (entries_of v) (entries_of (act c v)) = subst (Frame (length asks) (length b.0) (entries_of v)) (sym kept.0) (action_many c (entries_of v) f.0 f.1 b.0 asks f.2 (sym (ap (before (Do c)) b.1) ∙ e)) in
    record {
      left = l.left;
      ends_so = ap (with_effect (ends n p symbols)) f.2 ∙ ap (ends n p symbols) (sym kept.0) ∙ l.ends_so;
      fit = l.fit;
      frame = frame_then (length asks) (length b.0) (length qs) (entries_of v) (entries_of (act c v)) (entries_of l.left) one l.frame;
    }
shut zero p (Non x ∷ symbols) more v qs asks r k f e = let l : closing_rank x < 0 = ltb-true (closing_rank x) 0 (and_left (nat_lt (closing_rank x) 0) (are_below closing_sets 0 symbols) r) in absurd (omega arith)
shut (suc n) p (Non x ∷ symbols) more v qs asks r k f e =
    let b = asks_behind (Non x) symbols (Some qs) asks e in
    at_row b.0 b.1 (sym (ap (before (Non x)) b.1) ∙ e)
    (λ q cs rs i. shut n p (closing x) (symbols ++ more) v (q ∷ cs) rs (below_more (closing x) (closing_rank x) n (and_left (nat_lt (closing_rank x) (suc n)) (are_below closing_sets (suc n) symbols) r) (closed_below x)) (anywhere p (closing x) (closed_by_specimens x))
    (row_fits x (row (closing x)) v (symbols ++ more) (is_row x) refl f.0 f.1) i)
    (λ rs u g i. shut (suc n) p symbols more u qs rs (and_right (nat_lt (closing_rank x) (suc n)) (are_below closing_sets (suc n) symbols) r) k g i)
  where
    at_row : (rs : List Ask) → least symbols (Some qs) ≡ Some rs → before_symbol (Non x) rs ≡ Some asks
        → ((q : Ask) (cs others : List Ask) → least (closing x) (Some (q ∷ cs)) ≡ Some others → Shut n p (closing x) (symbols ++ more) v (length others) (suc (length cs)))
        → ((rs : List Ask) (u : Parts) → Fit (symbols ++ more) (entries_of u) → least symbols (Some qs) ≡ Some rs → Shut (suc n) p symbols more u (length rs) (length qs)) → Shut (suc n) p (Non x ∷ symbols) more v (length asks) (length qs)
    at_row [] i j close again = absurd (cc)
    at_row (q ∷ cs) i j close again = at_closing (least (closing x) (Some (q ∷ []))) refl (closing_many x q)
      where
        at_closing : (o : Option (List Ask)) → least (closing x) (Some (q ∷ [])) ≡ o → has_many (low x) o ≡ true → Shut (suc n) p (Non x ∷ symbols) more v (length asks) (length qs)
        at_closing None o l = absurd (cc)
        at_closing (Some others) o l =
            let c = close q cs (others ++ cs) (least_frame (closing x) (q ∷ []) others cs o) in
            let d = again (q ∷ cs) c.left c.fit i in
            let low_many : length (low x) ≡ length others = eqb-true _ _ l in
            let all = asks_many (ask_least q) (low x) cs in
            let same : length asks ≡ length (map (ask_least q) (low x) ++ cs) = sym (ap length (same_Some (map (ask_least q) (low x) ++ cs) asks j)) in
            let joined = asks_joined others cs in
            let count : length asks ≡ length (others ++ cs) = omega arith in
            record {
              left = d.left;
              ends_so = ap (then_ends (ends (suc n) p symbols)) c.ends_so ∙ d.ends_so;
              fit = d.fit;
              frame = frame_then (length asks) (suc (length cs)) (length qs) (entries_of v) (entries_of c.left) (entries_of d.left) (subst (λ (m : ℕ). Frame m (suc (length cs)) (entries_of v) (entries_of c.left)) (sym count) c.frame) d.frame;
            }
