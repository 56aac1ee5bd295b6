-- An outline of a tree has the depths of the tree.
use Rattle.std.proofs.Common.{◌≡◌, ℕ, max, Bool, List, [], ◌∷◌, Some, None, arith, ap}
use Rattle.py_tokens.specs.Token.{Place}
use Rattle.py_syntax.specs.Tree.{NameAt, LoopTarget, LoopName, LoopNames, LoopParenthesis, Expr, EName, ENumber, EText, ETrue, EFalse, ENone, EParenthesis, EEmptyTuple, ETuple, EList, EListComprehension, EDict, ESet, EAttribute, ECall, ESubscript, ESlice, EUnary, EBinary, ECompare, ENot, EAnd, EOr, EConditional, Exprs, no_exprs, more_exprs, MaybeExpr, no_expr, an_expr, Pairs, no_pairs, more_pairs, Links, no_links, more_links, Keywords, no_keywords, more_keywords, Loops, no_loops, more_loops, Target, TargetName, TargetAttribute, TargetSubscript, Targets, OneTarget, SomeTargets, ParenthesisTargets, BracketTargets, Parameter, Stmt, SExpr, SAssign, SAugmented, SPass, SBreak, SContinue, SReturn, SRaise, SYield, SGlobal, SAssert, SDelete, SIf, SWhile, SFor, STry, SDef, SClass, SImport, SFromImport, Body, no_stmts, more_stmts, Handlers, no_handlers, more_handlers}
use Rattle.py_nesting.specs.Depths.{under, names_depth, loop_target_depth, expr_depth, exprs_depth, maybe_depth, pairs_depth, links_depth, keywords_depth, loops_depth, target_depth, target_list_depth, targets_depth, assigned_depth, parameters_depth, stmt_depth, body_depth, handlers_depth}
use Rattle.py_nesting.specs.Outlines.{Outlines, none_below, outline_depth, outlines_depth}
use Rattle.py_nesting.specs.TreeOutlines.{two_below, names_outlines, loop_target_outline, expr_outline, exprs_outlines, maybe_outlines, pairs_outlines, links_outlines, keywords_outlines, loops_outlines, target_outline, target_list_outlines, targets_outline, assigned_outlines, parameters_outlines, stmt_outline, stmts_outlines, body_outline, definition_outlines, handlers_outlines, OutlineLaw}

-- a node over what has the same depth
same_node : (at : Place → Bool) (p : Place) (m n : ℕ) → m ≡ n → under (at p) m ≡ under (at p) n
same_node at p m n e = ap (under (at p)) e

same_names : (at : Place → Bool) (p : Place) (xs : List NameAt) → outlines_depth at (names_outlines p xs) ≡ names_depth at p xs
same_names at p [] = omega arith
same_names at p (x ∷ []) = omega arith
same_names at p (x ∷ y ∷ xs) = let e = same_names at p (y ∷ xs) in omega arith

same_loop_target : (at : Place → Bool) (t : LoopTarget) → outline_depth at (loop_target_outline t) ≡ loop_target_depth at t
same_loop_target at (LoopName x) = omega arith
same_loop_target at (LoopNames p xs) = same_names at p xs
same_loop_target at (LoopParenthesis p t) = same_node at p _ _ (let e = same_loop_target at t in omega arith)

mutual
  same_expr : (at : Place → Bool) (x : Expr) → outline_depth at (expr_outline x) ≡ expr_depth at x
  same_expr at (EName p x) = omega arith
  same_expr at (ENumber p n) = omega arith
  same_expr at (EText p t) = omega arith
  same_expr at (ETrue p) = omega arith
  same_expr at (EFalse p) = omega arith
  same_expr at (ENone p) = omega arith
  same_expr at (EParenthesis p e) = same_node at p _ _ (let first = same_expr at e in omega arith)
  same_expr at (EEmptyTuple p) = omega arith
  same_expr at (ETuple p es) = same_node at p _ _ (let first = same_exprs at es none_below in omega arith)
  same_expr at (EList p None es) = same_node at p _ _ (let first = same_exprs at es none_below in omega arith)
  same_expr at (EList p (Some c) es) = same_node at p _ _ (let first = same_exprs at es none_below in omega arith)
  same_expr at (EListComprehension p e loops) = same_node at p _ _ (let first = same_expr at e in let second = same_loops at loops in omega arith)
  same_expr at (EDict p pairs) = same_node at p _ _ (let first = same_pairs at pairs in omega arith)
  same_expr at (ESet p es) = same_node at p _ _ (let first = same_exprs at es none_below in omega arith)
  same_expr at (EAttribute p e x) = same_node at p _ _ (let first = same_expr at e in omega arith)
  same_expr at (ECall p e es ks) = same_node at p _ _ (let first = same_expr at e in let second = same_exprs at es (keywords_outlines ks) in let third = same_keywords at ks in omega arith)
  same_expr at (ESubscript p e i) = same_node at p _ _ (let first = same_expr at e in let second = same_expr at i in omega arith)
  same_expr at (ESlice p e l u) = same_node at p _ _ (let first = same_expr at e in let second = same_maybe at l (maybe_outlines u none_below) in let third = same_maybe at u none_below in omega arith)
  same_expr at (EUnary p o e) = same_node at p _ _ (let first = same_expr at e in omega arith)
  same_expr at (EBinary p o a b) = same_node at p _ _ (let first = same_expr at a in let second = same_expr at b in omega arith)
  same_expr at (ECompare p o a b links) = same_node at p _ _ (let first = same_expr at a in let second = same_expr at b in let third = same_links at links in omega arith)
  same_expr at (ENot p e) = same_node at p _ _ (let first = same_expr at e in omega arith)
  same_expr at (EAnd p a b es) = same_node at p _ _ (let first = same_expr at a in let second = same_expr at b in let third = same_exprs at es none_below in omega arith)
  same_expr at (EOr p a b es) = same_node at p _ _ (let first = same_expr at a in let second = same_expr at b in let third = same_exprs at es none_below in omega arith)
  same_expr at (EConditional p a t b) = same_node at p _ _ (let first = same_expr at a in let second = same_expr at t in let third = same_expr at b in omega arith)

  same_exprs : (at : Place → Bool) (es : Exprs) (rest : Outlines) → outlines_depth at (exprs_outlines es rest) ≡ max (exprs_depth at es) (outlines_depth at rest)
  same_exprs at no_exprs rest = omega arith
  same_exprs at (more_exprs e es) rest = let first = same_expr at e in let second = same_exprs at es rest in omega arith

  same_maybe : (at : Place → Bool) (e : MaybeExpr) (rest : Outlines) → outlines_depth at (maybe_outlines e rest) ≡ max (maybe_depth at e) (outlines_depth at rest)
  same_maybe at no_expr rest = omega arith
  same_maybe at (an_expr e) rest = let first = same_expr at e in omega arith

  same_pairs : (at : Place → Bool) (x : Pairs) → outlines_depth at (pairs_outlines x) ≡ pairs_depth at x
  same_pairs at no_pairs = omega arith
  same_pairs at (more_pairs k e pairs) = let first = same_expr at k in let second = same_expr at e in let third = same_pairs at pairs in omega arith

  same_links : (at : Place → Bool) (x : Links) → outlines_depth at (links_outlines x) ≡ links_depth at x
  same_links at no_links = omega arith
  same_links at (more_links p o e links) = let first = same_expr at e in let second = same_links at links in omega arith

  same_keywords : (at : Place → Bool) (x : Keywords) → outlines_depth at (keywords_outlines x) ≡ keywords_depth at x
  same_keywords at no_keywords = omega arith
  same_keywords at (more_keywords x e ks) = let first = same_expr at e in let second = same_keywords at ks in omega arith

  same_loops : (at : Place → Bool) (x : Loops) → outlines_depth at (loops_outlines x) ≡ loops_depth at x
  same_loops at no_loops = omega arith
  same_loops at (more_loops p t i cs loops) = let first = same_loop_target at t in let second = same_expr at i in let third = same_exprs at cs none_below in let fourth = same_loops at loops in omega arith

same_target : (at : Place → Bool) (x : Target) → outline_depth at (target_outline x) ≡ target_depth at x
same_target at (TargetName x) = omega arith
same_target at (TargetAttribute p e x) = same_node at p _ _ (let first = same_expr at e in omega arith)
same_target at (TargetSubscript p e i) = same_node at p _ _ (let first = same_expr at e in let second = same_expr at i in omega arith)

same_target_list : (at : Place → Bool) (x : List Target) → outlines_depth at (target_list_outlines x) ≡ target_list_depth at x
same_target_list at [] = omega arith
same_target_list at (t ∷ targets) = let first = same_target at t in let second = same_target_list at targets in omega arith

same_targets : (at : Place → Bool) (x : Targets) → outline_depth at (targets_outline x) ≡ targets_depth at x
same_targets at (OneTarget t) = let first = same_target at t in omega arith
same_targets at (SomeTargets p targets) = let first = same_target_list at targets in omega arith
same_targets at (ParenthesisTargets p t) = same_node at p _ _ (let first = same_targets at t in omega arith)
same_targets at (BracketTargets p t) = same_node at p _ _ (let first = same_targets at t in omega arith)

same_assigned : (at : Place → Bool) (x : List Targets) → outlines_depth at (assigned_outlines x) ≡ assigned_depth at x
same_assigned at [] = omega arith
same_assigned at (t ∷ targets) = let first = same_targets at t in let second = same_assigned at targets in omega arith

same_parameters : (at : Place → Bool) (xs : List Parameter) (rest : Outlines) → outlines_depth at (parameters_outlines xs rest) ≡ max (parameters_depth at xs) (outlines_depth at rest)
same_parameters at [] rest = omega arith
same_parameters at (x ∷ parameters) rest = let first = same_maybe at x.default (parameters_outlines parameters rest) in let second = same_parameters at parameters rest in omega arith

mutual
  same_stmt : (at : Place → Bool) (x : Stmt) → outline_depth at (stmt_outline x) ≡ stmt_depth at x
  same_stmt at (SExpr p e) = same_node at p _ _ (let first = same_expr at e in omega arith)
  same_stmt at (SAssign p targets e) = same_node at p _ _ (let first = same_assigned at targets in let second = same_expr at e in omega arith)
  same_stmt at (SAugmented p o t e) = same_node at p _ _ (let first = same_target at t in let second = same_expr at e in omega arith)
  same_stmt at (SPass p) = omega arith
  same_stmt at (SBreak p) = omega arith
  same_stmt at (SContinue p) = omega arith
  same_stmt at (SReturn p e) = same_node at p _ _ (let first = same_maybe at e none_below in omega arith)
  same_stmt at (SRaise p e) = same_node at p _ _ (let first = same_expr at e in omega arith)
  same_stmt at (SYield p e) = same_node at p _ _ (let first = same_expr at e in omega arith)
  same_stmt at (SGlobal p names) = omega arith
  same_stmt at (SAssert p e m) = same_node at p _ _ (let first = same_expr at e in let second = same_maybe at m none_below in omega arith)
  same_stmt at (SDelete p q e i) = same_node at p _ _ (let first = same_expr at e in let second = same_expr at i in let n : outlines_depth at (two_below (expr_outline e) (expr_outline i)) ≡ max (expr_depth at e) (expr_depth at i) = omega arith in let k = same_node at q _ _ n in omega arith)
  same_stmt at (SIf p e body other) = same_node at p _ _ (let first = same_expr at e in let second = same_body at body in let third = same_body at other in omega arith)
  same_stmt at (SWhile p e body) = same_node at p _ _ (let first = same_expr at e in let second = same_body at body in omega arith)
  same_stmt at (SFor p t e body) = same_node at p _ _ (let first = same_loop_target at t in let second = same_expr at e in let third = same_body at body in omega arith)
  same_stmt at (STry p body handlers) = same_node at p _ _ (let first = same_body at body in let second = same_handlers at handlers in omega arith)
  same_stmt at (SDef p x parameters body) = same_node at p _ _ (let first = same_parameters at parameters (definition_outlines body) in let second = same_definition at body in omega arith)
  same_stmt at (SClass p x base body) = same_node at p _ _ (let first = same_definition at body in omega arith)
  same_stmt at (SImport p modules) = omega arith
  same_stmt at (SFromImport p m names) = omega arith

  same_body : (at : Place → Bool) (x : Body) → outline_depth at (body_outline x) ≡ body_depth at x
  same_body at no_stmts = omega arith
  same_body at (more_stmts s body) = let a = same_stmt at s in let b = same_stmts at body in omega arith

  same_stmts : (at : Place → Bool) (x : Body) → outlines_depth at (stmts_outlines x) ≡ body_depth at x
  same_stmts at no_stmts = omega arith
  same_stmts at (more_stmts s body) = let a = same_stmt at s in let b = same_stmts at body in omega arith

  same_definition : (at : Place → Bool) (x : Body) → outlines_depth at (definition_outlines x) ≡ body_depth at x
  same_definition at no_stmts = omega arith
  same_definition at (more_stmts s body) = let a = same_stmt at s in let b = same_stmts at body in omega arith

  same_handlers : (at : Place → Bool) (x : Handlers) → outlines_depth at (handlers_outlines x) ≡ handlers_depth at x
  same_handlers at no_handlers = omega arith
  same_handlers at (more_handlers p c body handlers) = let first = same_body at body in let second = same_handlers at handlers in omega arith

pub outline_law : OutlineLaw
outline_law at body = same_body at body
