-- One more at the end of a list of children.
use Rattle.std.proofs.Common.{◌≡◌, List, [], ◌∷◌, ◌++◌, reverse, refl, ap}
use Rattle.std.proofs.lemmas.List.{map-append, reverse-append}
use Rattle.py_syntax.specs.Tree as meaning
use Rattle.py_syntax.specs.Build.{with_expr, with_pair, with_link, with_keyword, with_loop, with_stmt, with_handler}
use Rattle.py_lexer.specs.PlainTokens.{plain_place}
use Rattle.py_ast.specs.PlainExprs.{plain_name, plain_loop_target, plain_expr, plain_exprs, plain_pairs, plain_links, plain_keywords, plain_loops}
use Rattle.py_ast.specs.PlainOperators.{plain_comparison}
use Rattle.py_ast.specs.PlainTrees.{plain_caught, plain_stmt, plain_body, plain_handlers}
use Rattle.shed_base.specs.declared.place.Place.{Place}
use Rattle.py_ast.specs.declared.tree.NameAt.{NameAt}
use Rattle.py_ast.specs.declared.operator.ComparisonOperator.{ComparisonOperator}
use Rattle.py_ast.specs.declared.tree.LoopTarget.{LoopTarget}
use Rattle.py_ast.specs.declared.tree.Expr.{Expr}
use Rattle.py_ast.specs.declared.tree.Caught.{Caught}
use Rattle.py_ast.specs.declared.tree.Stmt.{Stmt}

pub reverse_push : {A : Type 0} (xs : List A) (x : A) → reverse (xs ++ x ∷ []) ≡ x ∷ reverse xs
reverse_push xs x = reverse-append xs (x ∷ [])

pub plain_exprs-push : (es : List Expr) (e : Expr) → plain_exprs (es ++ e ∷ []) ≡ with_expr (plain_exprs es) (plain_expr e)
plain_exprs-push [] e = refl
plain_exprs-push (first ∷ es) e = ap (meaning.more_exprs (plain_expr first)) (plain_exprs-push es e)

pub plain_pairs-push : (es : List (Expr × Expr)) (e : Expr × Expr) → plain_pairs (es ++ e ∷ []) ≡ with_pair (plain_pairs es) (plain_expr e.0) (plain_expr e.1)
plain_pairs-push [] e = refl
plain_pairs-push (first ∷ es) e = ap (meaning.more_pairs (plain_expr first.0) (plain_expr first.1)) (plain_pairs-push es e)

pub plain_links-push : (es : List (Place × ComparisonOperator × Expr)) (e : Place × ComparisonOperator × Expr)
    → plain_links (es ++ e ∷ []) ≡ with_link (plain_links es) (plain_place e.0) (plain_comparison e.1) (plain_expr e.2)
plain_links-push [] e = refl
plain_links-push (first ∷ es) e = ap (meaning.more_links (plain_place first.0) (plain_comparison first.1) (plain_expr first.2)) (plain_links-push es e)

pub plain_keywords-push : (es : List (NameAt × Expr)) (e : NameAt × Expr) → plain_keywords (es ++ e ∷ []) ≡ with_keyword (plain_keywords es) (plain_name e.0) (plain_expr e.1)
plain_keywords-push [] e = refl
plain_keywords-push (first ∷ es) e = ap (meaning.more_keywords (plain_name first.0) (plain_expr first.1)) (plain_keywords-push es e)

pub plain_loops-push : (es : List (Place × LoopTarget × Expr × List Expr)) (e : Place × LoopTarget × Expr × List Expr)
    → plain_loops (es ++ e ∷ []) ≡ with_loop (plain_loops es) (plain_place e.0) (plain_loop_target e.1) (plain_expr e.2) (plain_exprs e.3)
plain_loops-push [] e = refl
plain_loops-push (first ∷ es) e =
    ap (meaning.more_loops (plain_place first.0) (plain_loop_target first.1) (plain_expr first.2) (plain_exprs first.3)) (plain_loops-push es e)

pub plain_body-push : (body : List Stmt) (s : Stmt) → plain_body (body ++ s ∷ []) ≡ with_stmt (plain_body body) (plain_stmt s)
plain_body-push [] s = refl
plain_body-push (first ∷ body) s = ap (meaning.more_stmts (plain_stmt first)) (plain_body-push body s)

pub plain_handlers-push : (hs : List (Place × Caught × List Stmt)) (h : Place × Caught × List Stmt)
    → plain_handlers (hs ++ h ∷ []) ≡ with_handler (plain_handlers hs) (plain_place h.0) (plain_caught h.1) (plain_body h.2)
plain_handlers-push [] h = refl
plain_handlers-push (first ∷ hs) h = ap (meaning.more_handlers (plain_place first.0) (plain_caught first.1) (plain_body first.2)) (plain_handlers-push hs h)

pub ruleset pushes = (map-append, plain_exprs-push, plain_pairs-push, plain_links-push, plain_keywords-push, plain_loops-push, plain_body-push, plain_handlers-push)
