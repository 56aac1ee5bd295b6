-- Of the names that are sure to be bound it counts only which they are.
use Rattle.std.proofs.Common.{◌≡◌, Bool, ◌&&◌, if◌then◌else◌, List, [], ◌∷◌, ◌++◌, refl, sym, ap, ap₂, ◌∙◌, Option, Some, None}
use Rattle.std.specs.Prelude.{◌||◌}
use Rattle.py_tokens.specs.Token.{Place}
use Rattle.py_syntax.specs.Tree as whole
use Rattle.py_meaning.specs.Name.{Name, same_name}
use Rattle.py_meaning.specs.Rules.{has_name}
use Rattle.py_meaning.specs.Built.{text_at, is_variable, built_binary, built_comparison, assigned, printed, unbuilt_unary, unless_built, unbuilt_expr, unbuilt_first, head_of, unless_compared, unbuilt_condition, unbuilt_assignment, unbuilt_print, unbuilt_stmt, unbuilt_block, with_assigned, sure_behind, unbuilt}
use Rattle.py_built.specs.Names.{with_name, Alike}
use Rattle.py_built.proofs.NamesKept.{with_name-alike}

mutual
  expr_alike : (texts s t : List Name) → Alike s t → (e : whole.Expr) → unbuilt_expr texts s e ≡ unbuilt_expr texts t e
  expr_alike texts s t h (whole.EName p x) =
      ap (λ (b : Bool). if is_variable (text_at texts x) && b then [] else p ∷ []) (h (text_at texts x))
  expr_alike texts s t h (whole.EUnary p u e) = ap (unbuilt_unary p u) (expr_alike texts s t h e)
  expr_alike texts s t h (whole.EBinary p u a b) = ap₂ (unless_built p (built_binary u)) (expr_alike texts s t h a) (expr_alike texts s t h b)
  expr_alike texts s t h (whole.ETuple p es) = ap (◌∷◌ p) (first_alike texts s t h es)
  expr_alike texts s t h (whole.EAttribute p e x) = ap (◌∷◌ p) (expr_alike texts s t h e)
  expr_alike texts s t h (whole.ECall p e es ks) = ap (◌∷◌ p) (expr_alike texts s t h e)
  expr_alike texts s t h (whole.ESubscript p e i) = ap (◌∷◌ p) (expr_alike texts s t h e)
  expr_alike texts s t h (whole.ESlice p e l u) = ap (◌∷◌ p) (expr_alike texts s t h e)
  expr_alike texts s t h (whole.ECompare p u a b links) = ap (◌∷◌ p) (expr_alike texts s t h a)
  expr_alike texts s t h (whole.EAnd p a b es) = ap (◌∷◌ p) (expr_alike texts s t h a)
  expr_alike texts s t h (whole.EOr p a b es) = ap (◌∷◌ p) (expr_alike texts s t h a)
  expr_alike texts s t h (whole.EConditional p a c b) = ap (◌∷◌ p) (expr_alike texts s t h a)
  expr_alike texts s t h _ = refl

  first_alike : (texts s t : List Name) → Alike s t → (es : whole.Exprs) → unbuilt_first texts s es ≡ unbuilt_first texts t es
  first_alike texts s t h whole.no_exprs = refl
  first_alike texts s t h (whole.more_exprs e es) = expr_alike texts s t h e

condition_alike : (texts s t : List Name) → Alike s t → (e : whole.Expr) → unbuilt_condition texts s e ≡ unbuilt_condition texts t e
condition_alike texts s t h (whole.ECompare p u a b whole.no_links) =
    ap₂ (unless_compared p (built_comparison u)) (expr_alike texts s t h a) (expr_alike texts s t h b)
condition_alike texts s t h (whole.ECompare p u a b (whole.more_links q v c links)) =
    ap (λ (places : List Place). p ∷ p ∷ places) (expr_alike texts s t h a)
condition_alike texts s t h e = ap (◌∷◌ (head_of e)) (expr_alike texts s t h e)

assignment_alike : (texts s t : List Name) (p : Place) → Alike s t → (x : Option Name) (e : whole.Expr) → unbuilt_assignment texts s p x e ≡ unbuilt_assignment texts t p x e
assignment_alike texts s t p h None e = refl
assignment_alike texts s t p h (Some x) e = expr_alike texts s t h e

print_alike : (texts s t : List Name) (p : Place) → Alike s t → (call : Option (Place × whole.Expr)) → unbuilt_print texts s p call ≡ unbuilt_print texts t p call
print_alike texts s t p h None = refl
print_alike texts s t p h (Some call) = expr_alike texts s t h call.1

mutual
  stmt_alike : (texts s t : List Name) → Alike s t → (stmt : whole.Stmt) → unbuilt_stmt texts s stmt ≡ unbuilt_stmt texts t stmt
  stmt_alike texts s t h (whole.SAssign p targets e) = assignment_alike texts s t p h (assigned texts targets) e
  stmt_alike texts s t h (whole.SExpr p e) = print_alike texts s t p h (printed texts e)
  stmt_alike texts s t h (whole.SIf p e body other) =
      ap₂ ◌++◌ (condition_alike texts s t h e) (ap₂ ◌++◌ (block_alike texts s t h body) (block_alike texts s t h other))
  stmt_alike texts s t h (whole.SWhile p e body) = ap₂ ◌++◌ (condition_alike texts s t h e) (block_alike texts s t h body)
  stmt_alike texts s t h _ = refl

  block_alike : (texts s t : List Name) → Alike s t → (body : whole.Body) → unbuilt_block texts s body ≡ unbuilt_block texts t body
  block_alike texts s t h whole.no_stmts = refl
  block_alike texts s t h (whole.more_stmts stmt body) = ap₂ ◌++◌ (stmt_alike texts s t h stmt) (block_alike texts s t h body)

assigned_alike : (s t : List Name) → Alike s t → (x : Option Name) → Alike (with_assigned x s) (with_assigned x t)
assigned_alike s t h None = h
assigned_alike s t h (Some x) = λ y. ap (λ b. same_name x y || b) (h y)

behind_alike : (texts s t : List Name) → Alike s t → (stmt : whole.Stmt) → Alike (sure_behind texts stmt s) (sure_behind texts stmt t)
behind_alike texts s t h (whole.SAssign p targets e) = assigned_alike s t h (assigned texts targets)
behind_alike texts s t h _ = h

pub unbuilt_alike : (texts s t : List Name) → Alike s t → (body : whole.Body) → unbuilt texts s body ≡ unbuilt texts t body
unbuilt_alike texts s t h whole.no_stmts = refl
unbuilt_alike texts s t h (whole.more_stmts stmt body) =
    ap₂ ◌++◌ (stmt_alike texts s t h stmt) (unbuilt_alike texts (sure_behind texts stmt s) (sure_behind texts stmt t) (behind_alike texts s t h stmt) body)

-- a name that a set takes in last is sure
pub bound_alike : (texts old now : List Name) (stmt : whole.Stmt) (p : Place) (targets : List whole.Targets) (e : whole.Expr) (x : Name)
    → stmt ≡ whole.SAssign p targets e → Some x ≡ assigned texts targets → now ≡ with_name old x → Alike now (sure_behind texts stmt old)
bound_alike texts old now stmt p targets e x form is kept y =
    ap (λ (names : List Name). has_name names y) kept
    ∙ with_name-alike old x y
    ∙ ap (λ (o : Option Name). has_name (with_assigned o old) y) is
    ∙ ap (λ (s : whole.Stmt). has_name (sure_behind texts s old) y) (sym form)
