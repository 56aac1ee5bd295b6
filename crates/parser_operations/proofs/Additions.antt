-- One more comparison at the end of a chain.
use Rattle.std.proofs.Common.{◌≡◌, List, [], ◌∷◌, ◌++◌, refl}
use Rattle.py_syntax.specs.Build.{Parts, PExpr, PSign, with_link, add_link}
use Rattle.py_lexer.specs.PlainTokens.{plain_place}
use Rattle.py_ast.specs.PlainOperators.{plain_comparison}
use Rattle.py_ast.specs.PlainExprs.{plain_expr, plain_links, plain_expr-Compare}
use Rattle.py_ast.proofs.Pushes.{plain_links-push}
use Rattle.shed_base.specs.declared.place.Place.{Place}
use Rattle.py_ast.specs.declared.operator.ComparisonOperator.{ComparisonOperator}
use Rattle.py_ast.specs.declared.tree.Expr.{Expr}
use Rattle.py_ast.specs.declared.tree.Expr.TheVariants as expr

plain_links-link : (links : List (Place × ComparisonOperator × Expr)) (q : Place) (o : ComparisonOperator) (e : Expr)
    → plain_links (links ++ (q, o, e) ∷ []) ≡ with_link (plain_links links) (plain_place q) (plain_comparison o) (plain_expr e)
plain_links-link links q o e = plain_links-push links (q, o, e)

pub link_added : (u v w x : Parts) (operand whole : Expr) (q : Place) (o : ComparisonOperator) (p : Place) (first : ComparisonOperator) (left right : Expr)
    (before after : List (Place × ComparisonOperator × Expr))
    → u ≡ PExpr (plain_expr operand) ∷ v → v ≡ PSign (plain_place q) (plain_comparison o) ∷ w → w ≡ PExpr (plain_expr whole) ∷ x
    → whole ≡ expr.Compare p first left right before → after ≡ before ++ (q, o, operand) ∷ []
    → PExpr (plain_expr (expr.Compare p first left right after)) ∷ x ≡ add_link u
link_added u v w x operand whole q o p first left right before after e₁ e₂ e₃ is_comparison more =
    rw (e₁, e₂, e₃, is_comparison, plain_expr-Compare p first left right before, plain_expr-Compare p first left right after, more, plain_links-link) refl
