-- The nodes of a tree, in an outline.
use Rattle.std.specs.Prelude.{◌≡◌, Bool, List, [], ◌∷◌, Some, None}
use Rattle.py_tokens.specs.Token.{Place}
use Rattle.py_syntax.specs.Tree.{NameAt, LoopTarget, LoopName, LoopNames, LoopParenthesis, Expr, EName, ENumber, EText, ETrue, EFalse, ENone, EParenthesis, EEmptyTuple, ETuple, EList, EListComprehension, EDict, ESet, EAttribute, ECall, ESubscript, ESlice, EUnary, EBinary, ECompare, ENot, EAnd, EOr, EConditional, Exprs, no_exprs, more_exprs, MaybeExpr, no_expr, an_expr, Pairs, no_pairs, more_pairs, Links, no_links, more_links, Keywords, no_keywords, more_keywords, Loops, no_loops, more_loops, Target, TargetName, TargetAttribute, TargetSubscript, Targets, OneTarget, SomeTargets, ParenthesisTargets, BracketTargets, Parameter, Stmt, SExpr, SAssign, SAugmented, SPass, SBreak, SContinue, SReturn, SRaise, SYield, SGlobal, SAssert, SDelete, SIf, SWhile, SFor, STry, SDef, SClass, SImport, SFromImport, Body, no_stmts, more_stmts, Handlers, no_handlers, more_handlers}
use Rattle.py_nesting.specs.Outlines.{Plain, Bracket, Tuple, Outline, Node, Group, Outlines, none_below, more_below, outline_depth}
use Rattle.py_nesting.specs.Depths.{body_depth}

abbrev pub leaf : Place → Outline
leaf p = Node Plain p none_below

abbrev pub one_below : Outline → Outlines
one_below o = more_below o none_below

abbrev pub two_below : Outline → Outline → Outlines
two_below o n = more_below o (one_below n)

abbrev pub names_outlines : Place → List NameAt → Outlines
names_outlines p [] = one_below (leaf p)
names_outlines p (x ∷ []) = one_below (leaf x.place)
names_outlines p (x ∷ y ∷ xs) = more_below (leaf x.place) (names_outlines p (y ∷ xs))

abbrev pub loop_target_outline : LoopTarget → Outline
loop_target_outline (LoopName x) = leaf x.place
loop_target_outline (LoopNames p xs) = Group (names_outlines p xs)
loop_target_outline (LoopParenthesis p t) = Node Plain p (one_below (loop_target_outline t))

-- A list takes what stands behind it too. The items of a list with commas are a group, so that they are targets where its one item would be.
abbrev mutual
  pub expr_outline : Expr → Outline
  expr_outline (EName p x) = leaf p
  expr_outline (ENumber p n) = leaf p
  expr_outline (EText p t) = leaf p
  expr_outline (ETrue p) = leaf p
  expr_outline (EFalse p) = leaf p
  expr_outline (ENone p) = leaf p
  expr_outline (EParenthesis p e) = Node Bracket p (one_below (expr_outline e))
  expr_outline (EEmptyTuple p) = leaf p
  expr_outline (ETuple p es) = Node Tuple p (exprs_outlines es none_below)
  expr_outline (EList p None es) = Node Bracket p (exprs_outlines es none_below)
  expr_outline (EList p (Some c) es) = Node Bracket p (one_below (Group (exprs_outlines es none_below)))
  expr_outline (EListComprehension p e loops) = Node Plain p (more_below (expr_outline e) (loops_outlines loops))
  expr_outline (EDict p pairs) = Node Plain p (pairs_outlines pairs)
  expr_outline (ESet p es) = Node Plain p (one_below (Group (exprs_outlines es none_below)))
  expr_outline (EAttribute p e x) = Node Plain p (one_below (expr_outline e))
  expr_outline (ECall p e es ks) = Node Plain p (more_below (expr_outline e) (exprs_outlines es (keywords_outlines ks)))
  expr_outline (ESubscript p e i) = Node Plain p (two_below (expr_outline e) (expr_outline i))
  expr_outline (ESlice p e l u) = Node Plain p (more_below (expr_outline e) (maybe_outlines l (maybe_outlines u none_below)))
  expr_outline (EUnary p o e) = Node Plain p (one_below (expr_outline e))
  expr_outline (EBinary p o a b) = Node Plain p (two_below (expr_outline a) (expr_outline b))
  expr_outline (ECompare p o a b links) = Node Plain p (more_below (expr_outline a) (more_below (expr_outline b) (links_outlines links)))
  expr_outline (ENot p e) = Node Plain p (one_below (expr_outline e))
  expr_outline (EAnd p a b es) = Node Plain p (more_below (expr_outline a) (more_below (expr_outline b) (exprs_outlines es none_below)))
  expr_outline (EOr p a b es) = Node Plain p (more_below (expr_outline a) (more_below (expr_outline b) (exprs_outlines es none_below)))
  expr_outline (EConditional p a t b) = Node Plain p (more_below (expr_outline a) (two_below (expr_outline t) (expr_outline b)))

  pub exprs_outlines : Exprs → Outlines → Outlines
  exprs_outlines no_exprs rest = rest
  exprs_outlines (more_exprs e es) rest = more_below (expr_outline e) (exprs_outlines es rest)

  pub maybe_outlines : MaybeExpr → Outlines → Outlines
  maybe_outlines no_expr rest = rest
  maybe_outlines (an_expr e) rest = more_below (expr_outline e) rest

  pub pairs_outlines : Pairs → Outlines
  pairs_outlines no_pairs = none_below
  pairs_outlines (more_pairs k e pairs) = more_below (Group (two_below (expr_outline k) (expr_outline e))) (pairs_outlines pairs)

  pub links_outlines : Links → Outlines
  links_outlines no_links = none_below
  links_outlines (more_links p o e links) = more_below (expr_outline e) (links_outlines links)

  pub keywords_outlines : Keywords → Outlines
  keywords_outlines no_keywords = none_below
  keywords_outlines (more_keywords x e ks) = more_below (expr_outline e) (keywords_outlines ks)

  pub loops_outlines : Loops → Outlines
  loops_outlines no_loops = none_below
  loops_outlines (more_loops p t i cs loops) =
      more_below (Group (more_below (loop_target_outline t) (more_below (expr_outline i) (exprs_outlines cs none_below)))) (loops_outlines loops)

abbrev pub target_outline : Target → Outline
target_outline (TargetName x) = leaf x.place
target_outline (TargetAttribute p e x) = Node Plain p (one_below (expr_outline e))
target_outline (TargetSubscript p e i) = Node Plain p (two_below (expr_outline e) (expr_outline i))

abbrev pub target_list_outlines : List Target → Outlines
target_list_outlines [] = none_below
target_list_outlines (t ∷ targets) = more_below (target_outline t) (target_list_outlines targets)

abbrev pub targets_outline : Targets → Outline
targets_outline (OneTarget t) = target_outline t
targets_outline (SomeTargets p targets) = Group (target_list_outlines targets)
targets_outline (ParenthesisTargets p t) = Node Bracket p (one_below (targets_outline t))
targets_outline (BracketTargets p t) = Node Bracket p (one_below (targets_outline t))

abbrev pub assigned_outlines : List Targets → Outlines
assigned_outlines [] = none_below
assigned_outlines (t ∷ targets) = more_below (targets_outline t) (assigned_outlines targets)

abbrev pub parameters_outlines : List Parameter → Outlines → Outlines
parameters_outlines [] rest = rest
parameters_outlines (x ∷ parameters) rest = maybe_outlines x.default (parameters_outlines parameters rest)

abbrev mutual
  pub stmt_outline : Stmt → Outline
  stmt_outline (SExpr p e) = Node Plain p (one_below (expr_outline e))
  stmt_outline (SAssign p targets e) = Node Plain p (two_below (Group (assigned_outlines targets)) (expr_outline e))
  stmt_outline (SAugmented p o t e) = Node Plain p (two_below (target_outline t) (expr_outline e))
  stmt_outline (SPass p) = leaf p
  stmt_outline (SBreak p) = leaf p
  stmt_outline (SContinue p) = leaf p
  stmt_outline (SReturn p e) = Node Plain p (maybe_outlines e none_below)
  stmt_outline (SRaise p e) = Node Plain p (one_below (expr_outline e))
  stmt_outline (SYield p e) = Node Plain p (one_below (expr_outline e))
  stmt_outline (SGlobal p names) = leaf p
  stmt_outline (SAssert p e m) = Node Plain p (more_below (expr_outline e) (maybe_outlines m none_below))
  stmt_outline (SDelete p q e i) = Node Plain p (one_below (Node Plain q (two_below (expr_outline e) (expr_outline i))))
  stmt_outline (SIf p e body other) = Node Plain p (more_below (expr_outline e) (two_below (body_outline body) (body_outline other)))
  stmt_outline (SWhile p e body) = Node Plain p (two_below (expr_outline e) (body_outline body))
  stmt_outline (SFor p t e body) = Node Plain p (more_below (loop_target_outline t) (two_below (expr_outline e) (body_outline body)))
  stmt_outline (STry p body handlers) = Node Plain p (more_below (body_outline body) (handlers_outlines handlers))
  stmt_outline (SDef p x parameters body) = Node Plain p (parameters_outlines parameters (definition_outlines body))
  stmt_outline (SClass p x base body) = Node Plain p (definition_outlines body)
  stmt_outline (SImport p modules) = leaf p
  stmt_outline (SFromImport p m names) = leaf p

  pub stmts_outlines : Body → Outlines
  stmts_outlines no_stmts = none_below
  stmts_outlines (more_stmts s body) = more_below (stmt_outline s) (stmts_outlines body)

  pub body_outline : Body → Outline
  body_outline no_stmts = Group none_below
  body_outline (more_stmts s body) = Group (more_below (stmt_outline s) (stmts_outlines body))

  -- a definition without a body so far has nothing in its place
  pub definition_outlines : Body → Outlines
  definition_outlines no_stmts = none_below
  definition_outlines (more_stmts s body) = one_below (Group (more_below (stmt_outline s) (stmts_outlines body)))

  pub handlers_outlines : Handlers → Outlines
  handlers_outlines no_handlers = none_below
  handlers_outlines (more_handlers p c body handlers) = more_below (body_outline body) (handlers_outlines handlers)

-- an outline of a module has the depths of the module
abbrev pub OutlineLaw : Type 0
OutlineLaw = (at : Place → Bool) (body : Body) → outline_depth at (body_outline body) ≡ body_depth at body
