-- One more pair or loop at the end of an expression.
use Rattle.std.proofs.Common.{◌≡◌, List, [], ◌∷◌, ◌++◌, refl}
use Rattle.py_syntax.specs.Token as meaning_token
use Rattle.py_syntax.specs.Build.{Parts, PToken, PExpr, PLoop, with_pair, add_pair, add_loop}
use Rattle.py_lexer.specs.PlainTokens.{plain_place}
use Rattle.py_ast.specs.PlainExprs.{plain_loop_target, plain_expr, plain_exprs, plain_pairs, plain_expr-Dict, plain_expr-ListComprehension}
use Rattle.py_ast.proofs.Pushes.{plain_pairs-push, plain_loops-push}
use Rattle.shed_base.specs.declared.place.Place.{Place}
use Rattle.py_ast.specs.declared.tree.LoopTarget.{LoopTarget}
use Rattle.py_ast.specs.declared.tree.Expr.{Expr}
use Rattle.py_ast.specs.declared.tree.Expr.TheVariants as expr

plain_pairs-pair : (pairs : List (Expr × Expr)) (k e : Expr) → plain_pairs (pairs ++ (k, e) ∷ []) ≡ with_pair (plain_pairs pairs) (plain_expr k) (plain_expr e)
plain_pairs-pair pairs k e = plain_pairs-push pairs (k, e)

pub pair_added : (u v w : Parts) (k e dict : Expr) (colon : meaning_token.Token) (p : Place) (before after : List (Expr × Expr))
    → u ≡ PExpr (plain_expr e) ∷ PToken colon ∷ PExpr (plain_expr k) ∷ v → v ≡ PExpr (plain_expr dict) ∷ w
    → dict ≡ expr.Dict p before → after ≡ before ++ (k, e) ∷ []
    → PExpr (plain_expr (expr.Dict p after)) ∷ w ≡ add_pair u
pair_added u v w k e dict colon p before after e₁ e₂ is_dict more = rw (e₁, e₂, is_dict, plain_expr-Dict p before, plain_expr-Dict p after, more, plain_pairs-pair) refl

pub loop_added : (u v w : Parts) (l : Place × LoopTarget × Expr × List Expr) (whole : Expr) (p : Place) (element : Expr) (before after : List (Place × LoopTarget × Expr × List Expr))
    → u ≡ PLoop (plain_place l.0) (plain_loop_target l.1) (plain_expr l.2) (plain_exprs l.3) ∷ v → v ≡ PExpr (plain_expr whole) ∷ w
    → whole ≡ expr.ListComprehension p element before → after ≡ before ++ l ∷ []
    → PExpr (plain_expr (expr.ListComprehension p element after)) ∷ w ≡ add_loop u
loop_added u v w l whole p element before after e₁ e₂ is_comprehension more =
    rw (e₁, e₂, is_comprehension, plain_expr-ListComprehension p element before, plain_expr-ListComprehension p element after, more, plain_loops-push before l) refl
