-- Where kinds stand behind symbols, the symbols fit.
use Rattle.std.proofs.Common.{◌≡◌, Bool, true, false, if◌then◌else◌, List, [], ◌∷◌, ◌++◌, Option, Some, None, refl, sym, ap, ◌∙◌, subst, append_assoc}
use Rattle.grammars.specs.Grammar.{Tok, Non, Do}
use Rattle.grammars.proofs.Bools.{and_left, and_right, both}
use Rattle.py_syntax.specs.Build.{Action, MakeLeaf}
use Rattle.py_syntax.specs.Table.{Symbol}
use Rattle.py_nesting.specs.Shapes.{Entry}
use Rattle.py_nesting.specs.Effects.{Effect, effect, effect_of}
use Rattle.py_fronts.specs.Kinds.{Kind, ANameToken, ANameExpr, fits, all_fit, is_kind_of, without, with_kinds, needs, leaves, done, token_kind, takes, gives, behind}
use Rattle.py_fronts.specs.Fit.{Fit}
use Rattle.py_fronts.proofs.SubKinds.{of_kind}
use Rattle.py_fronts.proofs.ActionsFit.{Leaves, actions_fit, fit_name}

-- parts that are taken from the top
pub record Split (ls : List Kind) (ks : List Kind) (es : List Entry) : Type 0 where
  pub front : List Entry
  pub rest : List Entry
  pub parts : es ≡ front ++ rest
  pub fit : all_fit ls front ≡ true
  pub others : all_fit ks rest ≡ true

pub split : (ls ks rest : List Kind) (es : List Entry) → without ls ks ≡ Some rest → all_fit ks es ≡ true → Split ls rest es
split [] ks rest es h f = let same : ks ≡ rest = cc in record { front = []; rest = es; parts = refl; fit = refl; others = subst (λ (l : List Kind). all_fit l es ≡ true) same f }
split (l ∷ ls) [] rest es h f = absurd (cc)
split (l ∷ ls) (k ∷ ks) rest [] h f = absurd (cc)
split (l ∷ ls) (k ∷ ks) rest (e ∷ es) h f = go (is_kind_of k l) refl h (λ g. split ls ks rest es g (and_right (fits k e) (all_fit ks es) f))
  where
    go : (b : Bool) → is_kind_of k l ≡ b → (if b then without ls ks else None) ≡ Some rest → (without ls ks ≡ Some rest → Split ls rest es) → Split (l ∷ ls) rest (e ∷ es)
    go true p h again =
        let s = again h in
        record {
          front = e ∷ s.front;
          rest = s.rest;
          parts = ap (λ (r : List Entry). e ∷ r) s.parts;
          fit = both (fits l e) (all_fit ls s.front) (of_kind k l e p (and_left (fits k e) (all_fit ks es) f)) s.fit;
          others = s.others;
        }
    go false p h again = absurd (cc)

joined : (ks ls : List Kind) (front rest : List Entry) → all_fit ks front ≡ true → all_fit ls rest ≡ true → all_fit (ks ++ ls) (front ++ rest) ≡ true
joined [] ls [] rest h f = f
joined [] ls (e ∷ front) rest h f = absurd (cc)
joined (k ∷ ks) ls [] rest h f = absurd (cc)
joined (k ∷ ks) ls (e ∷ front) rest h f = both (fits k e) (all_fit (ks ++ ls) (front ++ rest)) (and_left (fits k e) (all_fit ks front) h) (joined ks ls front rest (and_right (fits k e) (all_fit ks front) h) f)

-- parts that lie below are left as they are
lower : (o : Option Effect) (ks ls : List Kind) (rest below : List Entry) → Leaves o ks (rest ++ below) → all_fit ls rest ≡ true → Leaves o (ks ++ ls) below
lower None ks ls rest below l f = l
lower (Some (effect es events)) ks ls rest below l f = (l.0 ++ rest, l.1 ∙ sym (append_assoc l.0 rest below), joined ks ls l.0 rest l.2 f)

generic : (a : Action) (ks out : List Kind) (es below : List Entry) → with_kinds (leaves a) (without (needs a) ks) ≡ Some out → all_fit ks es ≡ true → Leaves (effect_of a (es ++ below)) out below
generic a ks out es below h f = go (without (needs a) ks) refl h
  where
    go : (o : Option (List Kind)) → without (needs a) ks ≡ o → with_kinds (leaves a) o ≡ Some out → Leaves (effect_of a (es ++ below)) out below
    go None e h = absurd (cc)
    go (Some r) e h =
        let s = split (needs a) ks r es e f in
        let same : leaves a ++ r ≡ out = cc in
        let l = lower _ (leaves a) r s.rest below (actions_fit a s.front (s.rest ++ below) s.fit) s.others in
        subst (λ (l : List Kind). Leaves (effect_of a (es ++ below)) l below) same
        (subst (λ (l : List Entry). Leaves (effect_of a l) (leaves a ++ r) below) (sym (ap (λ (l : List Entry). l ++ below) s.parts ∙ append_assoc s.front s.rest below)) l)

name_made : (ks out : List Kind) (es below : List Entry) → Some (ANameExpr ∷ ks) ≡ Some out → all_fit (ANameToken ∷ ks) es ≡ true → Leaves (effect_of MakeLeaf (es ++ below)) out below
name_made ks out [] below h f = absurd (cc)
name_made ks out (e ∷ es) below h f =
    let same : ANameExpr ∷ ks ≡ out = cc in
    subst (λ (l : List Kind). Leaves (effect_of MakeLeaf (e ∷ es ++ below)) l below) same
    (lower _ (ANameExpr ∷ []) ks es below (fit_name (e ∷ []) (es ++ below) (both (fits ANameToken e) true (and_left (fits ANameToken e) (all_fit ks es) f) refl)) (and_right (fits ANameToken e) (all_fit ks es) f))

done_fits : (a : Action) (ks out : List Kind) (es below : List Entry) → done a ks ≡ Some out → all_fit ks es ≡ true → Leaves (effect_of a (es ++ below)) out below
done_fits MakeLeaf (ANameToken ∷ ks) out es below h f = name_made ks out es below h f
done_fits a ks out es below h f = generic a ks out es below h f

behind_nothing : (symbols : List Symbol) (out : List Kind) → behind symbols None ≡ Some out → ⊥
behind_nothing [] out h = (cc)
behind_nothing (s ∷ symbols) out h = behind_nothing symbols out h

-- with what comes behind them
pub fit_so : (symbols rest : List Symbol) (ks out : List Kind) (es below : List Entry) → behind symbols (Some ks) ≡ Some out → all_fit ks es ≡ true
    → ((new : List Entry) → all_fit out new ≡ true → Fit rest (new ++ below)) → Fit (symbols ++ rest) (es ++ below)
fit_so [] rest ks out es below h f next = let same : ks ≡ out = cc in next es (subst (λ (l : List Kind). all_fit l es ≡ true) same f)
fit_so (Tok k ∷ symbols) rest ks out es below h f next = λ e g. fit_so symbols rest (token_kind k ∷ ks) out (e ∷ es) below h (both (fits (token_kind k) e) (all_fit ks es) g f) next
fit_so (Do a ∷ symbols) rest ks out es below h f next = go (done a ks) refl h (λ ks2 es2 k g. fit_so symbols rest ks2 out es2 below k g next)
  where
    leave : (ks2 : List Kind) (o : Option Effect) → effect_of a (es ++ below) ≡ o → Leaves o ks2 below → behind symbols (Some ks2) ≡ Some out
        → ((ks2 : List Kind) (es2 : List Entry) → behind symbols (Some ks2) ≡ Some out → all_fit ks2 es2 ≡ true → Fit (symbols ++ rest) (es2 ++ below)) → Fit (Do a ∷ symbols ++ rest) (es ++ below)
    leave ks2 None e l k again = absurd l
    leave ks2 (Some (effect new events)) e l k again = (new, events, e, subst (Fit (symbols ++ rest)) (sym l.1) (again ks2 l.0 k l.2))

    go : (o : Option (List Kind)) → done a ks ≡ o → behind symbols o ≡ Some out
        → ((ks2 : List Kind) (es2 : List Entry) → behind symbols (Some ks2) ≡ Some out → all_fit ks2 es2 ≡ true → Fit (symbols ++ rest) (es2 ++ below)) → Fit (Do a ∷ symbols ++ rest) (es ++ below)
    go None e k again = absurd (behind_nothing symbols out k)
    go (Some ks2) e k again = leave ks2 (effect_of a (es ++ below)) refl (done_fits a ks ks2 es below e f) k again
fit_so (Non x ∷ symbols) rest ks out es below h f next = go (without (takes x) ks) refl h (λ ks2 es2 k g. fit_so symbols rest ks2 out es2 below k g next)
  where
    go : (o : Option (List Kind)) → without (takes x) ks ≡ o → behind symbols (with_kinds (gives x) o) ≡ Some out
        → ((ks2 : List Kind) (es2 : List Entry) → behind symbols (Some ks2) ≡ Some out → all_fit ks2 es2 ≡ true → Fit (symbols ++ rest) (es2 ++ below)) → Fit (Non x ∷ symbols ++ rest) (es ++ below)
    go None e k again = absurd (behind_nothing symbols out k)
    go (Some ks2) e k again =
        let s = split (takes x) ks ks2 es e f in (
          record { front = s.front; below = s.rest ++ below; parts = ap (λ (l : List Entry). l ++ below) s.parts ∙ append_assoc s.front s.rest below; fit = s.fit },
          λ new g. subst (Fit (symbols ++ rest)) (append_assoc new s.rest below) (again (gives x ++ ks2) (new ++ s.rest) k (joined (gives x) ks2 new s.rest g s.others)),
        )
