-- Expressions that turn out to be targets, as loops find them.
use Rattle.std.proofs.Common.{◌≡◌, false, List, [], ◌∷◌, ◌++◌, map, reverse, length, get_or, slice_get, Option, Some, None, arith, refl, sym, ap, ◌∙◌}
use Rattle.std.proofs.lemmas.List.{append-nil}
use Rattle.py_ast.proofs.Pushes.{reverse_push}
use Rattle.py_syntax.specs.Tree as meaning
use Rattle.py_syntax.specs.Build.{start_of, is_some, target_of, one_more, target_list_of, in_brackets, targets_of, targets_of_one}
use Rattle.py_ast.specs.PlainExprs.{plain_expr, plain_exprs, plain_expr-Parenthesis, plain_expr-Tuple, plain_expr-List, plain_expr-Slice}
use Rattle.py_ast.specs.PlainTrees.{plain_target}
use Rattle.parser_targets.specs.PlainTargets.{bracketed, all_around, followed}
use Rattle.py_lexer.specs.PlainTokens.{plain_place}
use Rattle.shed_base.specs.declared.place.Place.{Place}
use Rattle.py_ast.specs.declared.tree.Expr.{Expr}
use Rattle.py_ast.specs.declared.tree.Expr.TheVariants as expr
use Rattle.py_ast.specs.declared.tree.Target.{Target}
use Rattle.parser_targets.specs.declared.targets.Around.{Around}

one_more_followed : (f : Option meaning.Target) (a b : Option (List meaning.Target)) (t : meaning.Target) (ts : List meaning.Target)
    → followed a ts ≡ followed b (t ∷ ts) → followed (one_more f a) ts ≡ followed (one_more f b) (t ∷ ts)
one_more_followed None a b t ts h = refl
one_more_followed (Some f) None None t ts h = refl
one_more_followed (Some f) None (Some b) t ts h = absurd (cc)
one_more_followed (Some f) (Some a) None t ts h = absurd (cc)
one_more_followed (Some f) (Some a) (Some b) t ts h =
    let e : a ++ ts ≡ b ++ t ∷ ts = cc in
    ap (λ (l : List meaning.Target). Some (f ∷ l)) e

-- the last expression becomes the first target
pub last_target : (es : List Expr) (e : Expr) (t : meaning.Target) (ts : List meaning.Target) → target_of (plain_expr e) ≡ Some t
    → followed (target_list_of (plain_exprs (es ++ e ∷ []))) ts ≡ followed (target_list_of (plain_exprs es)) (t ∷ ts)
last_target [] e t ts h = rw h refl
last_target (first ∷ es) e t ts h = one_more_followed (target_of (plain_expr first)) _ _ t ts (last_target es e t ts h)

-- the same of the lists as they are before and after
pub one_found : (es fs all : List Expr) (e : Expr) (t : Target) (ts us : List Target) → es ≡ fs ++ e ∷ [] → us ≡ ts ++ t ∷ [] → target_of (plain_expr e) ≡ Some (plain_target t)
    → followed (target_list_of (plain_exprs es)) (map plain_target (reverse ts)) ≡ target_list_of (plain_exprs all)
    → followed (target_list_of (plain_exprs fs)) (map plain_target (reverse us)) ≡ target_list_of (plain_exprs all)
one_found es fs all e t ts us popped pushed found before =
    rw (pushed, reverse_push) (
    sym (last_target fs e (plain_target t) (map plain_target (reverse ts)) found)
    ∙ ap (λ (l : List Expr). followed (target_list_of (plain_exprs l)) (map plain_target (reverse ts))) (sym popped)
    ∙ before)

-- the innermost bracket
pub all_around-push : (brackets : List Around) (b : Around) (t : Option meaning.Targets)
    → all_around (brackets ++ b ∷ []) t ≡ all_around brackets (in_brackets (bracketed b) t)
all_around-push [] b t = refl
all_around-push (first ∷ brackets) b t = ap (in_brackets (bracketed first)) (all_around-push brackets b t)

-- brackets make no difference to whether there are targets
pub is_some-in_brackets : (f : meaning.Targets → meaning.Targets) (t : Option meaning.Targets) → is_some (in_brackets f t) ≡ is_some t
is_some-in_brackets f None = refl
is_some-in_brackets f (Some t) = refl

pub is_some-some_targets : (p : Rattle.py_tokens.specs.Token.Place) (t : Option (List meaning.Target)) → is_some (Rattle.py_syntax.specs.Build.some_targets p t) ≡ is_some t
is_some-some_targets p None = refl
is_some-some_targets p (Some t) = refl

pub ruleset around = (all_around-push, is_some-in_brackets, is_some-some_targets)

pub followed-nothing : (a : Option (List meaning.Target)) → followed a [] ≡ a
followed-nothing None = refl
followed-nothing (Some a) = ap Some (append-nil a)

pub ruleset lists = (reverse_push, followed-nothing)

-- a list in brackets is targets where its one item is
not_one : (es : List Expr) → (length es ≡ 1 → ⊥) → false ≡ is_some (targets_of_one (plain_exprs es))
not_one [] h = refl
not_one (e ∷ []) h = absurd (h refl)
not_one (e ∷ f ∷ es) h = refl

pub not_one_inside : (outer : Expr) (p : Place) (comma : Option Place) (es : List Expr) → outer ≡ expr.List p comma es → comma ≡ None → (length es ≡ 1 → ⊥)
    → false ≡ is_some (targets_of (plain_expr outer))
not_one_inside outer p comma es e no_comma h = rw (e, no_comma, plain_expr-List, is_some-in_brackets) (not_one es h)

pub one_inside : (outer inner item : Expr) (p : Place) (comma : Option Place) (es l : List Expr) → outer ≡ expr.List p comma es → comma ≡ None
    → l ≡ es → length l ≡ 1 → item ≡ get_or l 0 item → inner ≡ item → is_some (targets_of (plain_expr inner)) ≡ is_some (targets_of (plain_expr outer))
one_inside outer inner item p comma es [] e no_comma same one at it_is = absurd (omega arith)
one_inside outer inner item p comma es (x ∷ []) e no_comma same one at it_is =
    rw (e, no_comma, ← same, plain_expr-List, is_some-in_brackets) (ap (λ (i : Expr). is_some (targets_of (plain_expr i))) (it_is ∙ at))
one_inside outer inner item p comma es (x ∷ y ∷ l) e no_comma same one at it_is = absurd (omega arith)

pub commas_inside : (outer : Expr) (p q : Place) (comma : Option Place) (es : List Expr) → outer ≡ expr.List p comma es → comma ≡ Some q
    → is_some (target_list_of (plain_exprs es)) ≡ is_some (targets_of (plain_expr outer))
commas_inside outer p q comma es e commas = rw (e, commas, plain_expr-List, is_some-in_brackets, is_some-some_targets) refl

pub in_parenthesis : (outer inner within : Expr) (p : Place) → outer ≡ expr.Parenthesis p within → inner ≡ within
    → is_some (targets_of (plain_expr inner)) ≡ is_some (targets_of (plain_expr outer))
in_parenthesis outer inner within p e same = rw (e, same, plain_expr-Parenthesis, is_some-in_brackets) refl

-- what stands in the outermost bracket
pub peeled_list : (outer inner : Expr) (p : Place) (comma : Option Place) (es : List Expr) → outer ≡ expr.List p comma es → comma ≡ None → es ≡ inner ∷ []
    → targets_of (plain_expr outer) ≡ in_brackets (meaning.BracketTargets (plain_place p)) (targets_of (plain_expr inner))
peeled_list outer inner p comma es e no_comma one = rw (e, no_comma, one, plain_expr-List) refl

-- a tuple begins where its first item does
pub starts_at_first : (outer inner first : Expr) (p : Place) (es : List Expr) → outer ≡ expr.Tuple p es → inner ≡ first → Some first ≡ slice_get es 0
    → start_of (plain_expr inner) ≡ start_of (plain_expr outer)
starts_at_first outer inner first p [] e same found = absurd (cc)
starts_at_first outer inner first p (x ∷ es) e same found =
    let it_is : inner ≡ x = cc in
    rw (e, plain_expr-Tuple) (ap (λ (i : Expr). start_of (plain_expr i)) it_is)

pub starts_at_comma : (outer : Expr) (p : Place) (es : List Expr) → outer ≡ expr.Tuple p es → None ≡ slice_get es 0 → plain_place p ≡ start_of (plain_expr outer)
starts_at_comma outer p [] e none = rw (e, plain_expr-Tuple) refl
starts_at_comma outer p (x ∷ es) e none = absurd (cc)

-- a slice with any bounds, for functions that match expressions and build none
pub ruleset slices = (plain_expr-Slice)
