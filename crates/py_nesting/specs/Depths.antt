-- How many nodes stand above one. A node stands at its head token, and `at` picks places: `.._depth at` is 0 where no node
-- of a tree stands at such a place, and else one more than the most nodes of the tree that stand above one that does. Nodes
-- are statements, expressions and parentheses. Arguments, clauses, handlers and parameters are none, nor is a tuple of targets
-- without brackets.
use Rattle.std.specs.Prelude.{ℕ, zero, suc, max, Bool, true, false, List, [], ◌∷◌}
use Rattle.py_tokens.specs.Token.{Place}
use Rattle.py_syntax.specs.Tree.{NameAt, LoopTarget, LoopName, LoopNames, LoopParenthesis, Expr, EName, ENumber, EText, ETrue, EFalse, ENone, EParenthesis, EEmptyTuple, ETuple, EList, EListComprehension, EDict, ESet, EAttribute, ECall, ESubscript, ESlice, EUnary, EBinary, ECompare, ENot, EAnd, EOr, EConditional, Exprs, no_exprs, more_exprs, MaybeExpr, no_expr, an_expr, Pairs, no_pairs, more_pairs, Links, no_links, more_links, Keywords, no_keywords, more_keywords, Loops, no_loops, more_loops, Target, TargetName, TargetAttribute, TargetSubscript, Targets, OneTarget, SomeTargets, ParenthesisTargets, BracketTargets, Parameter, Stmt, SExpr, SAssign, SAugmented, SPass, SBreak, SContinue, SReturn, SRaise, SYield, SGlobal, SAssert, SDelete, SIf, SWhile, SFor, STry, SDef, SClass, SImport, SFromImport, Body, no_stmts, more_stmts, Handlers, no_handlers, more_handlers}

abbrev pub here : Bool → ℕ
here true = 1
here false = 0

-- seen from the node above
abbrev pub up : ℕ → ℕ
up zero = zero
up (suc n) = suc (suc n)

-- a node, with what is below it
abbrev pub under : Bool → ℕ → ℕ
under b n = max (here b) (up n)

-- names that are bound, each a node; of no names, which nothing spells, the comma counts
abbrev pub names_depth : (Place → Bool) → Place → List NameAt → ℕ
names_depth at p [] = here (at p)
names_depth at p (x ∷ []) = here (at x.place)
names_depth at p (x ∷ y ∷ xs) = max (here (at x.place)) (names_depth at p (y ∷ xs))

abbrev pub loop_target_depth : (Place → Bool) → LoopTarget → ℕ
loop_target_depth at (LoopName x) = here (at x.place)
loop_target_depth at (LoopNames p xs) = names_depth at p xs
loop_target_depth at (LoopParenthesis p t) = under (at p) (loop_target_depth at t)

abbrev mutual
  pub expr_depth : (Place → Bool) → Expr → ℕ
  expr_depth at (EName p x) = here (at p)
  expr_depth at (ENumber p n) = here (at p)
  expr_depth at (EText p t) = here (at p)
  expr_depth at (ETrue p) = here (at p)
  expr_depth at (EFalse p) = here (at p)
  expr_depth at (ENone p) = here (at p)
  expr_depth at (EParenthesis p e) = under (at p) (expr_depth at e)
  expr_depth at (EEmptyTuple p) = here (at p)
  expr_depth at (ETuple p es) = under (at p) (exprs_depth at es)
  expr_depth at (EList p c es) = under (at p) (exprs_depth at es)
  expr_depth at (EListComprehension p e loops) = under (at p) (max (expr_depth at e) (loops_depth at loops))
  expr_depth at (EDict p pairs) = under (at p) (pairs_depth at pairs)
  expr_depth at (ESet p es) = under (at p) (exprs_depth at es)
  expr_depth at (EAttribute p e x) = under (at p) (expr_depth at e)
  expr_depth at (ECall p e es ks) = under (at p) (max (max (expr_depth at e) (exprs_depth at es)) (keywords_depth at ks))
  expr_depth at (ESubscript p e i) = under (at p) (max (expr_depth at e) (expr_depth at i))
  expr_depth at (ESlice p e l u) = under (at p) (max (max (expr_depth at e) (maybe_depth at l)) (maybe_depth at u))
  expr_depth at (EUnary p o e) = under (at p) (expr_depth at e)
  expr_depth at (EBinary p o a b) = under (at p) (max (expr_depth at a) (expr_depth at b))
  expr_depth at (ECompare p o a b links) = under (at p) (max (max (expr_depth at a) (expr_depth at b)) (links_depth at links))
  expr_depth at (ENot p e) = under (at p) (expr_depth at e)
  expr_depth at (EAnd p a b es) = under (at p) (max (max (expr_depth at a) (expr_depth at b)) (exprs_depth at es))
  expr_depth at (EOr p a b es) = under (at p) (max (max (expr_depth at a) (expr_depth at b)) (exprs_depth at es))
  expr_depth at (EConditional p a t b) = under (at p) (max (max (expr_depth at a) (expr_depth at t)) (expr_depth at b))

  pub exprs_depth : (Place → Bool) → Exprs → ℕ
  exprs_depth at no_exprs = 0
  exprs_depth at (more_exprs e es) = max (expr_depth at e) (exprs_depth at es)

  pub maybe_depth : (Place → Bool) → MaybeExpr → ℕ
  maybe_depth at no_expr = 0
  maybe_depth at (an_expr e) = expr_depth at e

  pub pairs_depth : (Place → Bool) → Pairs → ℕ
  pairs_depth at no_pairs = 0
  pairs_depth at (more_pairs k e pairs) = max (max (expr_depth at k) (expr_depth at e)) (pairs_depth at pairs)

  pub links_depth : (Place → Bool) → Links → ℕ
  links_depth at no_links = 0
  links_depth at (more_links p o e links) = max (expr_depth at e) (links_depth at links)

  pub keywords_depth : (Place → Bool) → Keywords → ℕ
  keywords_depth at no_keywords = 0
  keywords_depth at (more_keywords x e ks) = max (expr_depth at e) (keywords_depth at ks)

  pub loops_depth : (Place → Bool) → Loops → ℕ
  loops_depth at no_loops = 0
  loops_depth at (more_loops p t i cs loops) = max (max (max (loop_target_depth at t) (expr_depth at i)) (exprs_depth at cs)) (loops_depth at loops)

abbrev pub target_depth : (Place → Bool) → Target → ℕ
target_depth at (TargetName x) = here (at x.place)
target_depth at (TargetAttribute p e x) = under (at p) (expr_depth at e)
target_depth at (TargetSubscript p e i) = under (at p) (max (expr_depth at e) (expr_depth at i))

abbrev pub target_list_depth : (Place → Bool) → List Target → ℕ
target_list_depth at [] = 0
target_list_depth at (t ∷ targets) = max (target_depth at t) (target_list_depth at targets)

abbrev pub targets_depth : (Place → Bool) → Targets → ℕ
targets_depth at (OneTarget t) = target_depth at t
targets_depth at (SomeTargets p targets) = target_list_depth at targets
targets_depth at (ParenthesisTargets p t) = under (at p) (targets_depth at t)
targets_depth at (BracketTargets p t) = under (at p) (targets_depth at t)

abbrev pub assigned_depth : (Place → Bool) → List Targets → ℕ
assigned_depth at [] = 0
assigned_depth at (t ∷ targets) = max (targets_depth at t) (assigned_depth at targets)

abbrev pub parameters_depth : (Place → Bool) → List Parameter → ℕ
parameters_depth at [] = 0
parameters_depth at (x ∷ parameters) = max (maybe_depth at x.default) (parameters_depth at parameters)

abbrev mutual
  pub stmt_depth : (Place → Bool) → Stmt → ℕ
  stmt_depth at (SExpr p e) = under (at p) (expr_depth at e)
  stmt_depth at (SAssign p targets e) = under (at p) (max (assigned_depth at targets) (expr_depth at e))
  stmt_depth at (SAugmented p o t e) = under (at p) (max (target_depth at t) (expr_depth at e))
  stmt_depth at (SPass p) = here (at p)
  stmt_depth at (SBreak p) = here (at p)
  stmt_depth at (SContinue p) = here (at p)
  stmt_depth at (SReturn p e) = under (at p) (maybe_depth at e)
  stmt_depth at (SRaise p e) = under (at p) (expr_depth at e)
  stmt_depth at (SYield p e) = under (at p) (expr_depth at e)
  stmt_depth at (SGlobal p names) = here (at p)
  stmt_depth at (SAssert p e m) = under (at p) (max (expr_depth at e) (maybe_depth at m))
  stmt_depth at (SDelete p q e i) = under (at p) (under (at q) (max (expr_depth at e) (expr_depth at i)))
  stmt_depth at (SIf p e body other) = under (at p) (max (max (expr_depth at e) (body_depth at body)) (body_depth at other))
  stmt_depth at (SWhile p e body) = under (at p) (max (expr_depth at e) (body_depth at body))
  stmt_depth at (SFor p t e body) = under (at p) (max (max (loop_target_depth at t) (expr_depth at e)) (body_depth at body))
  stmt_depth at (STry p body handlers) = under (at p) (max (body_depth at body) (handlers_depth at handlers))
  stmt_depth at (SDef p x parameters body) = under (at p) (max (parameters_depth at parameters) (body_depth at body))
  stmt_depth at (SClass p x base body) = under (at p) (body_depth at body)
  stmt_depth at (SImport p modules) = here (at p)
  stmt_depth at (SFromImport p m names) = here (at p)

  pub body_depth : (Place → Bool) → Body → ℕ
  body_depth at no_stmts = 0
  body_depth at (more_stmts s body) = max (stmt_depth at s) (body_depth at body)

  pub handlers_depth : (Place → Bool) → Handlers → ℕ
  handlers_depth at no_handlers = 0
  handlers_depth at (more_handlers p c body handlers) = max (body_depth at body) (handlers_depth at handlers)
