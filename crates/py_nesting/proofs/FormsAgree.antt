-- Expressions that turn out to be targets, by their forms, and what guards ask, by entries.
use Rattle.std.proofs.Common.{◌≡◌, true, false, List, ◌∷◌, Option, Some, None, refl, sym, subst}
use Rattle.py_tokens.specs.Token.{Place}
use Rattle.py_syntax.specs.Tree.{Expr, EName, EAttribute, ESubscript, ETuple, EParenthesis, EList, Exprs, no_exprs, more_exprs, Target, Targets, ParenthesisTargets, BracketTargets}
use Rattle.py_syntax.specs.Build.{PExpr, Parts, target_of, one_more, target_list_of, some_targets, in_brackets, targets_of, targets_of_one, is_some, are_targets_last, is_target_last, is_name_last}
use Rattle.py_nesting.specs.Shapes as shapes
use Rattle.py_nesting.specs.Asked.{targets_last, target_last, name_last}
use Rattle.py_nesting.specs.Forms.{is_target, are_targets, expr_form, items_are_targets, item_is_targets}

abbrev pub IsTargetSo : Expr → Option Target → Type 0
IsTargetSo e None = is_target (expr_form e) ≡ false
IsTargetSo e (Some t) = is_target (expr_form e) ≡ true

abbrev AreTargetsSo : Exprs → Option (List Target) → Type 0
AreTargetsSo es None = items_are_targets es ≡ false
AreTargetsSo es (Some ts) = items_are_targets es ≡ true

abbrev pub AreSo : Expr → Option Targets → Type 0
AreSo e None = are_targets (expr_form e) ≡ false
AreSo e (Some t) = are_targets (expr_form e) ≡ true

abbrev IsOneSo : Exprs → Option Targets → Type 0
IsOneSo es None = item_is_targets es ≡ false
IsOneSo es (Some t) = item_is_targets es ≡ true

pub target_formed : (e : Expr) (o : Option Target) → target_of e ≡ o → IsTargetSo e o
target_formed e o h = subst (IsTargetSo e) h (so e)
  where
    so : (e : Expr) → IsTargetSo e (target_of e)
    so (EName p x) = refl
    so (EAttribute p f x) = refl
    so (ESubscript p f i) = refl
    so _ = refl

list_formed : (es : Exprs) → AreTargetsSo es (target_list_of es)
list_formed no_exprs = refl
list_formed (more_exprs e es) = step (target_of e) (target_list_of es) (target_formed e (target_of e) refl) (list_formed es)
  where
    step : (o : Option Target) (l : Option (List Target)) → IsTargetSo e o → AreTargetsSo es l → AreTargetsSo (more_exprs e es) (one_more o l)
    step None l h k = rw h refl
    step (Some t) None h k = rw (h, k) refl
    step (Some t) (Some ts) h k = rw (h, k) refl

tuple_formed : (p : Place) (es : Exprs) (l : Option (List Target)) → AreTargetsSo es l → AreSo (ETuple p es) (some_targets p l)
tuple_formed p es None h = h
tuple_formed p es (Some ts) h = h

parenthesis_formed : (p : Place) (e : Expr) (o : Option Targets) → AreSo e o → AreSo (EParenthesis p e) (in_brackets (ParenthesisTargets p) o)
parenthesis_formed p e None h = h
parenthesis_formed p e (Some t) h = h

bracket_formed : (p : Place) (es : Exprs) (o : Option Targets) → IsOneSo es o → AreSo (EList p None es) (in_brackets (BracketTargets p) o)
bracket_formed p es None h = h
bracket_formed p es (Some t) h = h

list_of_some_formed : (p c : Place) (es : Exprs) (l : Option (List Target)) → AreTargetsSo es l
    → AreSo (EList p (Some c) es) (in_brackets (BracketTargets p) (some_targets c l))
list_of_some_formed p c es None h = h
list_of_some_formed p c es (Some ts) h = h

mutual
  pub targets_formed : (e : Expr) → AreSo e (targets_of e)
  targets_formed (EName p x) = refl
  targets_formed (EAttribute p e x) = refl
  targets_formed (ESubscript p e i) = refl
  targets_formed (ETuple p es) = tuple_formed p es (target_list_of es) (list_formed es)
  targets_formed (EParenthesis p e) = parenthesis_formed p e (targets_of e) (targets_formed e)
  targets_formed (EList p None es) = bracket_formed p es (targets_of_one es) (one_formed es)
  targets_formed (EList p (Some c) es) = list_of_some_formed p c es (target_list_of es) (list_formed es)
  targets_formed _ = refl

  one_formed : (es : Exprs) → IsOneSo es (targets_of_one es)
  one_formed no_exprs = refl
  one_formed (more_exprs e no_exprs) = targets_formed e
  one_formed (more_exprs e (more_exprs f es)) = refl

some_targets_formed : (e : Expr) (o : Option Targets) → AreSo e o → is_some o ≡ are_targets (expr_form e)
some_targets_formed e None h = sym h
some_targets_formed e (Some t) h = sym h

some_target_formed : (e : Expr) (o : Option Target) → IsTargetSo e o → is_some o ≡ is_target (expr_form e)
some_target_formed e None h = sym h
some_target_formed e (Some t) h = sym h

pub targets_of_entries : (v : Parts) → are_targets_last v ≡ targets_last (shapes.entries_of v)
targets_of_entries (PExpr e ∷ v) = some_targets_formed e (targets_of e) (targets_formed e)
targets_of_entries v = refl

pub target_of_entries : (v : Parts) → is_target_last v ≡ target_last (shapes.entries_of v)
target_of_entries (PExpr e ∷ v) = some_target_formed e (target_of e) (target_formed e (target_of e) refl)
target_of_entries v = refl

pub name_of_entries : (v : Parts) → is_name_last v ≡ name_last (shapes.entries_of v)
name_of_entries (PExpr (EName p x) ∷ v) = refl
name_of_entries v = refl
