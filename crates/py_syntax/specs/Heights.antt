-- How deep a tree is: the nodes on its longest path. Nodes are statements, expressions and parentheses. Arguments, clauses,
-- handlers and parameters are none, nor is a tuple of targets without brackets.
use Rattle.std.specs.Prelude.{ℕ, suc, max, ◌≤◌, List, [], ◌∷◌}
use Rattle.py_syntax.specs.Tree.{LoopTarget, LoopName, LoopNames, LoopParenthesis, Expr, EName, ENumber, EText, ETrue, EFalse, ENone, EParenthesis, EEmptyTuple, ETuple, EList, EListComprehension, EDict, ESet, EAttribute, ECall, ESubscript, ESlice, EUnary, EBinary, ECompare, ENot, EAnd, EOr, EConditional, Exprs, no_exprs, more_exprs, MaybeExpr, no_expr, an_expr, Pairs, no_pairs, more_pairs, Links, no_links, more_links, Keywords, no_keywords, more_keywords, Loops, no_loops, more_loops, Target, TargetName, TargetAttribute, TargetSubscript, Targets, OneTarget, SomeTargets, ParenthesisTargets, BracketTargets, Parameter, Stmt, SExpr, SAssign, SAugmented, SPass, SBreak, SContinue, SReturn, SRaise, SYield, SGlobal, SAssert, SDelete, SIf, SWhile, SFor, STry, SDef, SClass, SImport, SFromImport, Body, no_stmts, more_stmts, Handlers, no_handlers, more_handlers}

abbrev pub loop_target_height : LoopTarget → ℕ
loop_target_height (LoopName x) = 1
loop_target_height (LoopNames p xs) = 1
loop_target_height (LoopParenthesis p t) = suc (loop_target_height t)

abbrev mutual
  pub expr_height : Expr → ℕ
  expr_height (EName p x) = 1
  expr_height (ENumber p n) = 1
  expr_height (EText p t) = 1
  expr_height (ETrue p) = 1
  expr_height (EFalse p) = 1
  expr_height (ENone p) = 1
  expr_height (EParenthesis p e) = suc (expr_height e)
  expr_height (EEmptyTuple p) = 1
  expr_height (ETuple p es) = suc (exprs_height es)
  expr_height (EList p c es) = suc (exprs_height es)
  expr_height (EListComprehension p e loops) = suc (max (expr_height e) (loops_height loops))
  expr_height (EDict p pairs) = suc (pairs_height pairs)
  expr_height (ESet p es) = suc (exprs_height es)
  expr_height (EAttribute p e x) = suc (expr_height e)
  expr_height (ECall p e es ks) = suc (max (max (expr_height e) (exprs_height es)) (keywords_height ks))
  expr_height (ESubscript p e i) = suc (max (expr_height e) (expr_height i))
  expr_height (ESlice p e l u) = suc (max (max (expr_height e) (maybe_height l)) (maybe_height u))
  expr_height (EUnary p o e) = suc (expr_height e)
  expr_height (EBinary p o a b) = suc (max (expr_height a) (expr_height b))
  expr_height (ECompare p o a b links) = suc (max (max (expr_height a) (expr_height b)) (links_height links))
  expr_height (ENot p e) = suc (expr_height e)
  expr_height (EAnd p a b es) = suc (max (max (expr_height a) (expr_height b)) (exprs_height es))
  expr_height (EOr p a b es) = suc (max (max (expr_height a) (expr_height b)) (exprs_height es))
  expr_height (EConditional p a t b) = suc (max (max (expr_height a) (expr_height t)) (expr_height b))

  pub exprs_height : Exprs → ℕ
  exprs_height no_exprs = 0
  exprs_height (more_exprs e es) = max (expr_height e) (exprs_height es)

  pub maybe_height : MaybeExpr → ℕ
  maybe_height no_expr = 0
  maybe_height (an_expr e) = expr_height e

  pub pairs_height : Pairs → ℕ
  pairs_height no_pairs = 0
  pairs_height (more_pairs k e pairs) = max (max (expr_height k) (expr_height e)) (pairs_height pairs)

  pub links_height : Links → ℕ
  links_height no_links = 0
  links_height (more_links p o e links) = max (expr_height e) (links_height links)

  pub keywords_height : Keywords → ℕ
  keywords_height no_keywords = 0
  keywords_height (more_keywords x e ks) = max (expr_height e) (keywords_height ks)

  pub loops_height : Loops → ℕ
  loops_height no_loops = 0
  loops_height (more_loops p t i cs loops) = max (max (max (loop_target_height t) (expr_height i)) (exprs_height cs)) (loops_height loops)

abbrev pub target_height : Target → ℕ
target_height (TargetName x) = 1
target_height (TargetAttribute p e x) = suc (expr_height e)
target_height (TargetSubscript p e i) = suc (max (expr_height e) (expr_height i))

abbrev pub target_list_height : List Target → ℕ
target_list_height [] = 0
target_list_height (t ∷ targets) = max (target_height t) (target_list_height targets)

abbrev pub targets_height : Targets → ℕ
targets_height (OneTarget t) = target_height t
targets_height (SomeTargets p targets) = target_list_height targets
targets_height (ParenthesisTargets p t) = suc (targets_height t)
targets_height (BracketTargets p t) = suc (targets_height t)

abbrev pub assigned_height : List Targets → ℕ
assigned_height [] = 0
assigned_height (t ∷ targets) = max (targets_height t) (assigned_height targets)

abbrev pub parameters_height : List Parameter → ℕ
parameters_height [] = 0
parameters_height (x ∷ parameters) = max (maybe_height x.default) (parameters_height parameters)

abbrev mutual
  pub stmt_height : Stmt → ℕ
  stmt_height (SExpr p e) = suc (expr_height e)
  stmt_height (SAssign p targets e) = suc (max (assigned_height targets) (expr_height e))
  stmt_height (SAugmented p o t e) = suc (max (target_height t) (expr_height e))
  stmt_height (SPass p) = 1
  stmt_height (SBreak p) = 1
  stmt_height (SContinue p) = 1
  stmt_height (SReturn p e) = suc (maybe_height e)
  stmt_height (SRaise p e) = suc (expr_height e)
  stmt_height (SYield p e) = suc (expr_height e)
  stmt_height (SGlobal p names) = 1
  stmt_height (SAssert p e m) = suc (max (expr_height e) (maybe_height m))
  stmt_height (SDelete p q e i) = suc (suc (max (expr_height e) (expr_height i)))
  stmt_height (SIf p e body other) = suc (max (max (expr_height e) (body_height body)) (body_height other))
  stmt_height (SWhile p e body) = suc (max (expr_height e) (body_height body))
  stmt_height (SFor p t e body) = suc (max (max (loop_target_height t) (expr_height e)) (body_height body))
  stmt_height (STry p body handlers) = suc (max (body_height body) (handlers_height handlers))
  stmt_height (SDef p x parameters body) = suc (max (parameters_height parameters) (body_height body))
  stmt_height (SClass p x base body) = suc (body_height body)
  stmt_height (SImport p modules) = 1
  stmt_height (SFromImport p m names) = 1

  pub body_height : Body → ℕ
  body_height no_stmts = 0
  body_height (more_stmts s body) = max (stmt_height s) (body_height body)

  pub handlers_height : Handlers → ℕ
  handlers_height no_handlers = 0
  handlers_height (more_handlers p c body handlers) = max (body_height body) (handlers_height handlers)

-- a node may have this many others above it
abbrev pub most_ancestors : ℕ
most_ancestors = 100

-- no node of these statements has more
abbrev pub IsShallow : Body → Type 0
IsShallow body = body_height body ≤ suc most_ancestors
