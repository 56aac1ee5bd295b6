-- Where an expression begins, a node of it stands, whether it turns out to be targets or not.
use Rattle.std.proofs.Common.{◌≡◌, ℕ, zero, suc, max, ◌≤◌, Bool, true, List, ◌∷◌, Option, Some, None, refl, ap, subst, arith}
use Rattle.std.proofs.lemmas.Option.{same_Some}
use Rattle.py_tokens.specs.Token.{Place}
use Rattle.py_syntax.specs.Tree.{Expr, EName, ENumber, EText, ETrue, EFalse, ENone, EParenthesis, EEmptyTuple, ETuple, EList, EListComprehension, EDict, ESet, EAttribute, ECall, ESubscript, ESlice, EUnary, EBinary, ECompare, ENot, EAnd, EOr, EConditional, no_exprs, more_exprs, Target, Targets, SomeTargets, ParenthesisTargets, BracketTargets}
use Rattle.py_syntax.specs.Build.{PExpr, start_of, target_of, one_more, target_list_of, in_brackets, some_targets, targets_of}
use Rattle.py_nesting.specs.Depths.{here, up, under}
use Rattle.py_nesting.specs.Outlines.{outline_depth, outlines_depth}
use Rattle.py_fronts.specs.Begins.{PartBegins}
use Rattle.py_nesting.specs.TreeOutlines.{expr_outline, target_outline, target_list_outlines, targets_outline}

up_grows : (n : ℕ) → n ≤ up n
up_grows zero = omega arith
up_grows (suc n) = omega arith

-- at the node itself
at_head : (at : Place → Bool) (p : Place) (n : ℕ) → at p ≡ true → 1 ≤ under (at p) n
at_head at p n h = let e : here (at p) ≡ 1 = ap here h in omega arith

-- in the first of what is below it
in_first : (b : Bool) (n m : ℕ) → 1 ≤ n → 1 ≤ under b (max n m)
in_first b n m h = let g : max n m ≤ up (max n m) = up_grows (max n m) in omega arith

mutual
  pub expr_begins : (at : Place → Bool) (e : Expr) → at (start_of e) ≡ true → 1 ≤ outline_depth at (expr_outline e)
  expr_begins at (EName p x) h = at_head at p 0 h
  expr_begins at (ENumber p n) h = at_head at p 0 h
  expr_begins at (EText p t) h = at_head at p 0 h
  expr_begins at (ETrue p) h = at_head at p 0 h
  expr_begins at (EFalse p) h = at_head at p 0 h
  expr_begins at (ENone p) h = at_head at p 0 h
  expr_begins at (EParenthesis p e) h = at_head at p _ h
  expr_begins at (EEmptyTuple p) h = at_head at p 0 h
  expr_begins at (ETuple p no_exprs) h = at_head at p 0 h
  expr_begins at (ETuple p (more_exprs e es)) h = in_first (at p) _ _ (expr_begins at e h)
  expr_begins at (EList p None es) h = at_head at p _ h
  expr_begins at (EList p (Some c) es) h = at_head at p _ h
  expr_begins at (EListComprehension p e loops) h = at_head at p _ h
  expr_begins at (EDict p pairs) h = at_head at p _ h
  expr_begins at (ESet p es) h = at_head at p _ h
  expr_begins at (EAttribute p e x) h = in_first (at p) _ _ (expr_begins at e h)
  expr_begins at (ECall p e es ks) h = in_first (at p) _ _ (expr_begins at e h)
  expr_begins at (ESubscript p e i) h = in_first (at p) _ _ (expr_begins at e h)
  expr_begins at (ESlice p e l u) h = in_first (at p) _ _ (expr_begins at e h)
  expr_begins at (EUnary p o e) h = at_head at p _ h
  expr_begins at (EBinary p o a b) h = in_first (at p) _ _ (expr_begins at a h)
  expr_begins at (ECompare p o a b links) h = in_first (at p) _ _ (expr_begins at a h)
  expr_begins at (ENot p e) h = at_head at p _ h
  expr_begins at (EAnd p a b es) h = in_first (at p) _ _ (expr_begins at a h)
  expr_begins at (EOr p a b es) h = in_first (at p) _ _ (expr_begins at a h)
  expr_begins at (EConditional p a t b) h = in_first (at p) _ _ (expr_begins at a h)

target_begins : (at : Place → Bool) (e : Expr) (t : Target) → target_of e ≡ Some t → at (start_of e) ≡ true → 1 ≤ outline_depth at (target_outline t)
target_begins at (EName p x) t f h = subst (λ (u : Target). 1 ≤ outline_depth at (target_outline u)) (same_Some _ t f) (at_head at p 0 h)
target_begins at (EAttribute p e x) t f h = subst (λ (u : Target). 1 ≤ outline_depth at (target_outline u)) (same_Some _ t f) (in_first (at p) _ _ (expr_begins at e h))
target_begins at (ESubscript p e i) t f h = subst (λ (u : Target). 1 ≤ outline_depth at (target_outline u)) (same_Some _ t f) (in_first (at p) _ _ (expr_begins at e h))
target_begins at _ t f h = absurd (cc)

first_begins : (at : Place → Bool) (e : Expr) (o : Option Target) (r : Option (List Target)) (ts : List Target) → target_of e ≡ o → one_more o r ≡ Some ts → at (start_of e) ≡ true
    → 1 ≤ outlines_depth at (target_list_outlines ts)
first_begins at e None r ts q f h = absurd (cc)
first_begins at e (Some t) None ts q f h = absurd (cc)
first_begins at e (Some t) (Some us) ts q f h =
    let b : 1 ≤ outline_depth at (target_outline t) = target_begins at e t q h in
    subst (λ (l : List Target). 1 ≤ outlines_depth at (target_list_outlines l)) (same_Some (t ∷ us) ts f) (omega arith)

bracket_begins : (at : Place → Bool) (p : Place) (f : Targets → Targets) (o : Option Targets) (t : Targets) → in_brackets f o ≡ Some t → ((u : Targets) → 1 ≤ outline_depth at (targets_outline (f u)))
    → 1 ≤ outline_depth at (targets_outline t)
bracket_begins at p f None t e h = absurd (cc)
bracket_begins at p f (Some u) t e h = subst (λ (x : Targets). 1 ≤ outline_depth at (targets_outline x)) (same_Some (f u) t e) (h u)

list_begins : (at : Place → Bool) (p : Place) (e : Expr) (r : Option (List Target)) (t : Targets) → some_targets p r ≡ Some t
    → ((ts : List Target) → r ≡ Some ts → 1 ≤ outlines_depth at (target_list_outlines ts)) → 1 ≤ outline_depth at (targets_outline t)
list_begins at p e None t f h = absurd (cc)
list_begins at p e (Some ts) t f h = subst (λ (x : Targets). 1 ≤ outline_depth at (targets_outline x)) (same_Some (SomeTargets p ts) t f) (h ts refl)

pub targets_begin : (at : Place → Bool) (e : Expr) (t : Targets) → PartBegins (PExpr e) → targets_of e ≡ Some t → at (start_of e) ≡ true → 1 ≤ outline_depth at (targets_outline t)
targets_begin at (EName p x) t b f h = subst (λ (u : Targets). 1 ≤ outline_depth at (targets_outline u)) (same_Some _ t f) (at_head at p 0 h)
targets_begin at (EAttribute p e x) t b f h = subst (λ (u : Targets). 1 ≤ outline_depth at (targets_outline u)) (same_Some _ t f) (in_first (at p) _ _ (expr_begins at e h))
targets_begin at (ESubscript p e i) t b f h = subst (λ (u : Targets). 1 ≤ outline_depth at (targets_outline u)) (same_Some _ t f) (in_first (at p) _ _ (expr_begins at e h))
targets_begin at (ETuple p no_exprs) t b f h = absurd b
targets_begin at (ETuple p (more_exprs e es)) t b f h =
    list_begins at p e (one_more (target_of e) (target_list_of es)) t f (λ ts g. first_begins at e (target_of e) (target_list_of es) ts refl g h)
targets_begin at (EParenthesis p e) t b f h = bracket_begins at p (ParenthesisTargets p) (targets_of e) t f (λ u. at_head at p _ h)
targets_begin at (EList p None es) t b f h = bracket_begins at p (BracketTargets p) _ t f (λ u. at_head at p _ h)
targets_begin at (EList p (Some c) es) t b f h = bracket_begins at p (BracketTargets p) (some_targets c (target_list_of es)) t f (λ u. at_head at p _ h)
targets_begin at _ t b f h = absurd (cc)
