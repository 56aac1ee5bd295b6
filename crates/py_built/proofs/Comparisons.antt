-- What is unbuilt in a comparison that is tested.
use Rattle.std.proofs.Common.{◌≡◌, List, [], ◌∷◌, length, Option, Some, None, refl, sym, ap, ◌∙◌}
use Rattle.py_tokens.specs.Token.{Place}
use Rattle.py_syntax.specs.Tree as whole
use Rattle.shed_base.specs.declared.place.Place.{Place as CodePlace}
use Rattle.py_ast.specs.declared.operator.ComparisonOperator.{ComparisonOperator}
use Rattle.py_ast.specs.declared.tree.Expr.{Expr}
use Rattle.py_ast.specs.PlainExprs.{plain_links}
use Rattle.py_meaning.specs.Name.{Name}
use Rattle.py_meaning.specs.Tree.{Comparison}
use Rattle.py_meaning.specs.Built.{first_place, built_comparison, unless_compared, unbuilt_expr, unbuilt_condition}
use Rattle.py_built.specs.First.{earliest}
use Rattle.py_built.proofs.FirstPlaces.{first_place-append}

abbrev Links : Type 0
Links = List (CodePlace × ComparisonOperator × Expr)

pub first_of_chain : (texts sure : List Name) (p : Place) (u : whole.ComparisonOperator) (a b : whole.Expr) (links : Links) → (length links ≡ 0 → ⊥)
    → earliest (Some p) (earliest (Some p) (first_place (unbuilt_expr texts sure a))) ≡ first_place (unbuilt_condition texts sure (whole.ECompare p u a b (plain_links links)))
first_of_chain texts sure p u a b [] there = absurd (there refl)
first_of_chain texts sure p u a b (link ∷ links) there = refl

-- of one comparison, which is built as this one or not
first_of_one : (texts sure : List Name) (p : Place) (u : whole.ComparisonOperator) (a b : whole.Expr) (links : Links) → length links ≡ 0
    → first_place (unless_compared p (built_comparison u) (unbuilt_expr texts sure a) (unbuilt_expr texts sure b)) ≡ first_place (unbuilt_condition texts sure (whole.ECompare p u a b (plain_links links)))
first_of_one texts sure p u a b [] alone = refl
first_of_one texts sure p u a b (link ∷ links) alone = absurd (cc)

pub first_of_built : (texts sure : List Name) (p : Place) (u : whole.ComparisonOperator) (o : Comparison) (a b : whole.Expr) (links : Links)
    → length links ≡ 0 → Some o ≡ built_comparison u
    → earliest (first_place (unbuilt_expr texts sure a)) (first_place (unbuilt_expr texts sure b)) ≡ first_place (unbuilt_condition texts sure (whole.ECompare p u a b (plain_links links)))
first_of_built texts sure p u o a b links alone is =
    sym (first_place-append (unbuilt_expr texts sure a) (unbuilt_expr texts sure b))
    ∙ ap (λ (c : Option Comparison). first_place (unless_compared p c (unbuilt_expr texts sure a) (unbuilt_expr texts sure b))) is
    ∙ first_of_one texts sure p u a b links alone

pub first_of_unbuilt : (texts sure : List Name) (p : Place) (u : whole.ComparisonOperator) (a b : whole.Expr) (links : Links)
    → length links ≡ 0 → None ≡ built_comparison u
    → earliest (Some p) (first_place (unbuilt_expr texts sure a)) ≡ first_place (unbuilt_condition texts sure (whole.ECompare p u a b (plain_links links)))
first_of_unbuilt texts sure p u a b links alone is =
    ap (λ (c : Option Comparison). first_place (unless_compared p c (unbuilt_expr texts sure a) (unbuilt_expr texts sure b))) is
    ∙ first_of_one texts sure p u a b links alone
