-- What closed nonterminals leave, where an item is read: a target, the same part, or no target.
use Rattle.std.proofs.Common.{◌≡◌, ℕ, zero, suc, Bool, true, false, List, [], ◌∷◌, Option, Some, None, refl, sym, ap, ◌∙◌}
use Rattle.grammars.specs.Grammar.{Non}
use Rattle.py_tokens.specs.Token.{Place}
use Rattle.py_syntax.specs.Build.{Action, MakeLeaf, MakeAttribute, MakeSubscript}
use Rattle.py_syntax.specs.Table.{Symbol, Nonterminal, ExpressionList, Expression, OrTest, AndTest, NotTest, Comparison, OrExpr, XorExpr, AndExpr, ShiftExpr, Sum, Product, Factor, PowerExpr, Primary, Atom, ExpressionListTail, ExpressionTail, OrTail, AndTail, ComparisonTail, OrExprTail, XorExprTail, AndExprTail, ShiftTail, SumTail, ProductTail, PowerTail, PrimaryTail}
use Rattle.py_nesting.specs.Asked.{target_last}
use Rattle.py_nesting.specs.Effects.{effect, effect_of, effect_make_attribute, effect_make_subscript}
use Rattle.py_nesting.specs.Forms.{NameToken, TargetForm, SubscriptForm}
use Rattle.py_nesting.specs.Outlines.{Event}
use Rattle.py_nesting.specs.Shapes.{TokenShape, ExprShape, Entry, entry}
use Rattle.py_nesting.proofs.EffectsKept.{no_effect}
use Rattle.py_demands.specs.Aims.{makes_target}
use Rattle.py_demands.specs.Closing.{closing}
use Rattle.py_demands.specs.Ready.{begins_row}
use Rattle.py_demands.specs.Turning.{then_ends, ends}
use Rattle.std.proofs.lemmas.Option.{same_Some}

abbrev pub begins_expression : Nonterminal → Bool
begins_expression ExpressionList = true
begins_expression Expression = true
begins_expression OrTest = true
begins_expression AndTest = true
begins_expression NotTest = true
begins_expression Comparison = true
begins_expression OrExpr = true
begins_expression XorExpr = true
begins_expression AndExpr = true
begins_expression ShiftExpr = true
begins_expression Sum = true
begins_expression Product = true
begins_expression Factor = true
begins_expression PowerExpr = true
begins_expression Primary = true
begins_expression Atom = true
begins_expression x = false

-- through what stands first in a closing row, with nothing behind it
by_first : (n : ℕ) (p : Place) (y t : Nonterminal) (es new : List Entry) → closing t ≡ [] → ((fs : List Entry) → ends n p (closing y) es ≡ Some fs → target_last fs ≡ true) → ends (suc n) p (Non y ∷ Non t ∷ []) es ≡ Some new → target_last new ≡ true
by_first n p y t es new c f e = go (ends n p (closing y) es) refl e
  where
    go : (o : Option (List Entry)) → ends n p (closing y) es ≡ o → then_ends (ends (suc n) p (Non t ∷ [])) o ≡ Some new → target_last new ≡ true
    go None o h = absurd (cc)
    go (Some fs) o h =
        let same : Some fs ≡ ends (suc n) p (Non t ∷ []) fs = sym (ap (λ (l : List Symbol). then_ends (ends (suc n) p []) (ends n p l fs)) c) in
        ap target_last (sym (same_Some fs new (same ∙ h))) ∙ f fs o

by_one : (n : ℕ) (p : Place) (y : Nonterminal) (es new : List Entry) → ((fs : List Entry) → ends n p (closing y) es ≡ Some fs → target_last fs ≡ true) → ends (suc n) p (Non y ∷ []) es ≡ Some new → target_last new ≡ true
by_one n p y es new f e = go (ends n p (closing y) es) refl e
  where
    go : (o : Option (List Entry)) → ends n p (closing y) es ≡ o → then_ends (ends (suc n) p []) o ≡ Some new → target_last new ≡ true
    go None o h = absurd (cc)
    go (Some fs) o h = ap target_last (sym (same_Some fs new h)) ∙ f fs o

name_left : (n : ℕ) (p : Place) (es new : List Entry) → ends (suc n) p (closing Atom) es ≡ Some new → target_last new ≡ true
name_left n p es new e = ap target_last (sym (same_Some _ new e))

-- an expression is closed by a name
pub expression_left : (n : ℕ) (p : Place) (x : Nonterminal) (es new : List Entry) → begins_expression x ≡ true → ends n p (closing x) es ≡ Some new → target_last new ≡ true
expression_left zero p ExpressionList es new b e = absurd (cc)
expression_left zero p Expression es new b e = absurd (cc)
expression_left zero p OrTest es new b e = absurd (cc)
expression_left zero p AndTest es new b e = absurd (cc)
expression_left zero p NotTest es new b e = absurd (cc)
expression_left zero p Comparison es new b e = absurd (cc)
expression_left zero p OrExpr es new b e = absurd (cc)
expression_left zero p XorExpr es new b e = absurd (cc)
expression_left zero p AndExpr es new b e = absurd (cc)
expression_left zero p ShiftExpr es new b e = absurd (cc)
expression_left zero p Sum es new b e = absurd (cc)
expression_left zero p Product es new b e = absurd (cc)
expression_left zero p Factor es new b e = absurd (cc)
expression_left zero p PowerExpr es new b e = absurd (cc)
expression_left zero p Primary es new b e = absurd (cc)
expression_left zero p Atom es new b e = absurd (cc)
expression_left (suc n) p ExpressionList es new b e = by_first n p Expression ExpressionListTail es new refl (λ fs h. expression_left n p Expression es fs refl h) e
expression_left (suc n) p Expression es new b e = by_first n p OrTest ExpressionTail es new refl (λ fs h. expression_left n p OrTest es fs refl h) e
expression_left (suc n) p OrTest es new b e = by_first n p AndTest OrTail es new refl (λ fs h. expression_left n p AndTest es fs refl h) e
expression_left (suc n) p AndTest es new b e = by_first n p NotTest AndTail es new refl (λ fs h. expression_left n p NotTest es fs refl h) e
expression_left (suc n) p NotTest es new b e = by_one n p Comparison es new (λ fs h. expression_left n p Comparison es fs refl h) e
expression_left (suc n) p Comparison es new b e = by_first n p OrExpr ComparisonTail es new refl (λ fs h. expression_left n p OrExpr es fs refl h) e
expression_left (suc n) p OrExpr es new b e = by_first n p XorExpr OrExprTail es new refl (λ fs h. expression_left n p XorExpr es fs refl h) e
expression_left (suc n) p XorExpr es new b e = by_first n p AndExpr XorExprTail es new refl (λ fs h. expression_left n p AndExpr es fs refl h) e
expression_left (suc n) p AndExpr es new b e = by_first n p ShiftExpr AndExprTail es new refl (λ fs h. expression_left n p ShiftExpr es fs refl h) e
expression_left (suc n) p ShiftExpr es new b e = by_first n p Sum ShiftTail es new refl (λ fs h. expression_left n p Sum es fs refl h) e
expression_left (suc n) p Sum es new b e = by_first n p Product SumTail es new refl (λ fs h. expression_left n p Product es fs refl h) e
expression_left (suc n) p Product es new b e = by_first n p Factor ProductTail es new refl (λ fs h. expression_left n p Factor es fs refl h) e
expression_left (suc n) p Factor es new b e = by_one n p PowerExpr es new (λ fs h. expression_left n p PowerExpr es fs refl h) e
expression_left (suc n) p PowerExpr es new b e = by_first n p Primary PowerTail es new refl (λ fs h. expression_left n p Primary es fs refl h) e
expression_left (suc n) p Primary es new b e = by_first n p Atom PrimaryTail es new refl (λ fs h. expression_left n p Atom es fs refl h) e
expression_left (suc n) p Atom es new b e = name_left n p es new e
expression_left n p x es new b e = absurd (cc)

-- the actions that make a target of other parts than a token
pub target_left : (a : Action) (es new : List Entry) (events : List Event) → makes_target a ≡ true → begins_row a ≡ false → effect_of a es ≡ Some (effect new events) → target_last new ≡ true
target_left MakeLeaf es new events m b e = absurd (cc)
target_left MakeAttribute es new events m b e = attribute es new events e
  where
    attribute : (es new : List Entry) (events : List Event) → effect_make_attribute es ≡ Some (effect new events) → target_last new ≡ true
    attribute (entry (TokenShape NameToken) q ∷ entry (TokenShape t) p ∷ entry (ExprShape f n) a ∷ es) new events e = let is : entry (ExprShape TargetForm false) a ∷ es ≡ new = cc in ap target_last (sym is)
    attribute es new events e = no_effect e
target_left MakeSubscript es new events m b e = subscript es new events e
  where
    subscript : (es new : List Entry) (events : List Event) → effect_make_subscript es ≡ Some (effect new events) → target_last new ≡ true
    subscript (entry (TokenShape c) q ∷ entry (ExprShape f n) b ∷ entry (TokenShape t) p ∷ entry (ExprShape g m) a ∷ es) new events e = let is : entry (ExprShape SubscriptForm false) a ∷ es ≡ new = cc in ap target_last (sym is)
    subscript es new events e = no_effect e
target_left a es new events m b e = absurd (cc)
