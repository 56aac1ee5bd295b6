-- Where a construct stands, by where runs stand.
use Rattle.std.proofs.Common.{◌≡◌, ℕ, ◌+◌, ◌<◌, ◌≤◌, List, [], ◌∷◌, ◌++◌, length, ◌⊎◌, inl, inr, Option, Some, None, refl, sym, ap, ◌∙◌, subst, arith, append-nil, append_assoc}
use Rattle.std.proofs.lemmas.Option.{same_Some}
use mathlib.Core.List.{append_cancel_left, append_cancel_right}
use Rattle.std.proofs.lemmas.List.{length-append}
use Rattle.grammars.specs.Grammar.{Sight, sight}
use Rattle.grammars.specs.Derivation.{Yields}
use Rattle.grammars.specs.Run.{Done, Stuck, run}
use Rattle.grammars.proofs.Sound.{sound}
use Rattle.grammars.proofs.Complete.{complete}
use Rattle.grammars.proofs.Completions.{completable}
use Rattle.grammars.proofs.Longest.{longest}
use Rattle.py_syntax.specs.Token.{Token}
use Rattle.py_constructs.specs.Construct.{Construct}
use Rattle.py_constructs.specs.Values.{Numbered, Told, Value, begin}
use Rattle.py_constructs.specs.Table.{Symbol, extended, sets, goal}
use Rattle.py_constructs.specs.Standing.{StandsAt}
use Rattle.py_constructs.specs.Reached.{settled, Reached, OnceLaw, ToldLaw, StuckLaw}
use Rattle.py_constructs.specs.FrontRead.{Standing, at, front_read}
use Rattle.py_constructs.proofs.TableSets as table
use Rattle.py_constructs.proofs.ToldLater.{Later, settled_stays, told_later}
use Rattle.py_constructs.proofs.SharedFronts.{splits, one_place, place_headed}

-- a module that begins with a front: where its run has read the front, and what is told later
abbrev Behind : Construct → List Token → Value → Type 0
Behind c front w =
    (n : ℕ) × (symbols : List Symbol) × (u : Value) × (front_read c n goal begin front ≡ Some (at symbols u)) × (u.read ≡ length front) × Later (settled symbols u) (length front) w.told

behind : (c : Construct) (front more : List Token) (w : Value) → Yields (extended c) goal begin (front ++ more) w → Behind c front w
behind c front more w y =
    let done : run (extended c) sets y.0 goal begin (front ++ more) ≡ Done w = complete (extended c) sets (table.decided c) y.0 goal begin (front ++ more) w table.goal_decided y.1 in
    let s = splits c y.0 goal begin front more w done in
    let p = place_headed c y.0 goal s.0 begin s.1 front refl s.3 in
    let read : s.1.read ≡ length front = (let r = p.1 in omega arith) in
    let d = sound (extended c) sets s.2 s.0 s.1 more w s.4 in
    (y.0, s.0, s.1, s.3, read, subst (λ (n : ℕ). Later (settled s.0 s.1) n w.told) read (told_later c d.0 s.0 s.1 more w p.0 d.1))

-- what is known within a front that two modules begin with is told of both
told_of_both : (c : Construct) (front more others : List Token) (w x : Value) (t : Told) → Yields (extended c) goal begin (front ++ more) w → Yields (extended c) goal begin (front ++ others) x
    → w.told ≡ Some t → t.known ≤ length front → x.told ≡ Some t
told_of_both c front more others w x t y z e k =
    let one = behind c front more w y in
    let other = behind c front others x z in
    let same : at one.1 one.2 ≡ at other.1 other.2 = one_place c one.0 other.0 goal begin front (at one.1 one.2) (at other.1 other.2) one.3 other.3 in
    go one.1 one.2 (settled one.1 one.2) refl one.5 (subst (λ (o : Option Told). Later o (length front) x.told) (ap settled_at (sym same)) other.5)
  where
    settled_at : Standing → Option Told
    settled_at (at symbols u) = settled symbols u

    go : (symbols : List Symbol) (u : Value) (o : Option Told) → settled symbols u ≡ o → Later o (length front) w.told → Later o (length front) x.told → x.told ≡ Some t
    go symbols u None s l m = absurd (let late = l t e in omega arith)
    go symbols u (Some v) s l m = m ∙ sym l ∙ e

-- the head of what is told
head_of : (s t : Told) → s ≡ t → s.head ≡ t.head
head_of s t e = ap (λ (u : Told). u.head) e

-- of two fronts of the same tokens the one goes on as the other
abbrev GoesOn : List Token → List Token → Type 0
GoesOn front other = (more : List Token) × (other ≡ front ++ more)

one_goes_on : (front other rest others : List Token) → front ++ rest ≡ other ++ others → GoesOn front other ⊎ GoesOn other front
one_goes_on [] other rest others e = inl (other, refl)
one_goes_on (t ∷ front) [] rest others e = inr (t ∷ front, refl)
one_goes_on (t ∷ front) (u ∷ other) rest others e = go (one_goes_on front other rest others (ap tail_of e))
  where
    head_is : List Token → Token → Token
    head_is [] d = d
    head_is (x ∷ xs) d = x

    tail_of : List Token → List Token
    tail_of [] = []
    tail_of (x ∷ xs) = xs

    same : t ≡ u
    same = ap (λ (l : List Token). head_is l t) e

    go : GoesOn front other ⊎ GoesOn other front → GoesOn (t ∷ front) (u ∷ other) ⊎ GoesOn (u ∷ other) (t ∷ front)
    go (inl g) = inl (g.0, ap (λ (x : Token). x ∷ other) (sym same) ∙ ap (λ (l : List Token). t ∷ l) g.1)
    go (inr g) = inr (g.0, ap (λ (x : Token). x ∷ front) same ∙ ap (λ (l : List Token). u ∷ l) g.1)

pub once_law : OnceLaw
once_law c one other ts first a b =
    go (one_goes_on a.0 b.0 a.1 b.1 (sym a.5 ∙ b.5))
  where
    go : GoesOn a.0 b.0 ⊎ GoesOn b.0 a.0 → one ≡ other
    go (inl g) =
        let y : Yields (extended c) goal begin (a.0 ++ (g.0 ++ b.2)) b.3 =
        subst (λ (l : List Token). Yields (extended c) goal begin l b.3) (ap (λ (l : List Token). l ++ b.2) g.1 ∙ append_assoc a.0 g.0 b.2) b.6 in
        let told = told_of_both c a.0 a.2 (g.0 ++ b.2) a.3 b.3 (record { head = one; known = a.4 }) a.6 y a.7 a.8 in
        head_of _ _ (same_Some _ _ (sym told ∙ b.7))
    go (inr g) =
        let y : Yields (extended c) goal begin (b.0 ++ (g.0 ++ a.2)) a.3 =
        subst (λ (l : List Token). Yields (extended c) goal begin l a.3) (ap (λ (l : List Token). l ++ a.2) g.1 ∙ append_assoc b.0 g.0 a.2) a.6 in
        let told = told_of_both c b.0 b.2 (g.0 ++ a.2) b.3 a.3 (record { head = other; known = b.4 }) b.6 y b.7 b.8 in
        head_of _ _ (same_Some _ _ (sym a.7 ∙ told))

-- what is left is closed by some tokens
abbrev Closed : Construct → List Token → List Symbol → Value → Type 0
Closed c before symbols v = (more : List Token) × (w : Value) × Yields (extended c) goal begin (before ++ more) w × Later (settled symbols v) v.read w.told

closed : (c : Construct) (before : List Token) (symbols : List Symbol) (v : Value) → Reached c before symbols v → Closed c before symbols v
closed c before symbols v r =
    let y = completable (extended c) sets (table.completable c) symbols v r.specimens in
    (y.0, y.1, r.derives y.0 y.1 y.2, told_later c y.2.0 symbols v y.0 y.1 r.headed y.2.1)

pub told_law : ToldLaw
told_law c before rest symbols v t first r e l =
    let d = closed c before symbols v r in
    let told : d.1.told ≡ Some t = subst (λ (o : Option Told). Later o v.read d.1.told) (settled_stays symbols v t e) d.3 in
    (before, rest, d.0, d.1, t.known, refl, d.2, told, (let k = r.known t e in let n = r.read in omega arith), l)

-- no module goes on further than a stuck run does
not_further : (c : Construct) (n : ℕ) (before rest : List Token) → run (extended c) sets n goal begin (before ++ rest) ≡ Stuck rest
    → (t : Token) (later more : List Token) (w : Value) → GoesOn (t ∷ later) rest → Yields (extended c) goal begin ((before ++ t ∷ later) ++ more) w → ⊥
not_further c n before rest h t later more w g y =
    let l = longest (extended c) sets (table.decided c) (table.completable c) n goal begin (before ++ rest) rest table.goal_decided (table.goal_has_specimens c) h in
    let same : before ≡ l.0 = append_cancel_right before l.0 rest l.1 in
    l.3 (t ∷ (later ++ more)) w (ap sight_of (sym g.1)) (subst (λ (f : List Token). Yields (extended c) goal begin (f ++ t ∷ (later ++ more)) w) same (subst (λ (x : List Token). Yields (extended c) goal begin x w) (append_assoc before (t ∷ later) more) y))
  where
    sight_of : List Token → Sight
    sight_of ts = sight (extended c) ts

-- a front that a stuck run has read
within : (c : Construct) (before rest : List Token) (symbols : List Symbol) (v : Value) (first : ℕ) → Reached c before symbols v → (length before ≤ first) ⊎ (settled symbols v ≡ None)
    → (head : Numbered) (s : StandsAt c head (before ++ rest) first) → GoesOn s.0 before → ⊥
within c before rest symbols v first r none head s g = go none
  where
    go : (length before ≤ first) ⊎ (settled symbols v ≡ None) → ⊥
    go (inl l) = let longer : length before ≡ length s.0 + length g.0 = ap length g.1 ∙ length-append s.0 g.0 in let m = s.9 in omega arith
    go (inr e) =
        let d = closed c before symbols v r in
        let y : Yields (extended c) goal begin (s.0 ++ (g.0 ++ d.0)) d.1 =
        subst (λ (l : List Token). Yields (extended c) goal begin l d.1) (ap (λ (l : List Token). l ++ d.0) g.1 ∙ append_assoc s.0 g.0 d.0) d.2 in
        let told : d.1.told ≡ Some (record { head = head; known = s.4 }) = told_of_both c s.0 s.2 (g.0 ++ d.0) s.3 d.1 (record { head = head; known = s.4 }) s.6 y s.7 s.8 in
        let late : Later None v.read d.1.told = subst (λ (o : Option Told). Later o v.read d.1.told) e d.3 in
        let behind_it : v.read < s.4 = late (record { head = head; known = s.4 }) told in
        let longer : length before ≡ length s.0 + length g.0 = ap length g.1 ∙ length-append s.0 g.0 in
        let m = s.8 in let q = r.read in omega arith

-- nor than all tokens
not_beyond : (before rest : List Token) (t : Token) (later : List Token) → rest ≡ [] → GoesOn (t ∷ later) rest → ⊥
not_beyond before rest t later e g = absurd (let none : [] ≡ t ∷ (later ++ g.0) = sym e ∙ g.1 in cc)

pub stuck_law : StuckLaw
stuck_law c n before rest symbols v first r ended none head s = go (one_goes_on s.0 before s.1 rest (sym s.5))
  where
    further : (more : List Token) → s.0 ≡ before ++ more → ⊥
    further [] e = within c before rest symbols v first r none head s ([], sym (append-nil s.0 ∙ e ∙ append-nil before))
    further (t ∷ later) e =
        let ahead : before ++ rest ≡ before ++ ((t ∷ later) ++ s.1) = s.5 ∙ ap (λ (l : List Token). l ++ s.1) e ∙ append_assoc before (t ∷ later) s.1 in
        by ended (s.1, append_cancel_left before rest ((t ∷ later) ++ s.1) ahead) (subst (λ (l : List Token). Yields (extended c) goal begin (l ++ s.2) s.3) e s.6)
      where
        by : (run (extended c) sets n goal begin (before ++ rest) ≡ Stuck rest) ⊎ (rest ≡ []) → GoesOn (t ∷ later) rest → Yields (extended c) goal begin ((before ++ t ∷ later) ++ s.2) s.3 → ⊥
        by (inl h) g y = not_further c n before rest h t later s.2 s.3 g y
        by (inr h) g y = not_beyond before rest t later h g

    go : GoesOn s.0 before ⊎ GoesOn before s.0 → ⊥
    go (inl g) = within c before rest symbols v first r none head s g
    go (inr g) = further g.0 g.1
