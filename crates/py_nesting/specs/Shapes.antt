-- What a pass keeps of parts that finds the nodes above each: their forms, where they begin, and their outlines.
use Rattle.std.specs.Prelude.{Bool, true, false, List, [], ◌∷◌, map, Option, Some, None}
use Rattle.py_tokens.specs.Token.{Place}
use Rattle.py_syntax.specs.Token.{Token, At}
use Rattle.py_syntax.specs.Tree.{LoopTarget, LoopNames, Expr, ETuple, ECall, no_exprs, more_keywords, Stmt, SDef, SClass, Body, no_stmts, more_stmts}
use Rattle.py_syntax.specs.Build.{Part, PToken, PExpr, PSign, PLoop, PLoopTarget, PTargets, PClass, PStmt, PBody, Parts, start_of}
use Rattle.py_nesting.specs.Forms.{TokenForm, ExprForm, LoopTargetForm, ClassNameForm, StmtForm, token_form, expr_form, loop_target_form, class_name_form, stmt_form}
use Rattle.py_nesting.specs.Outlines.{Outline, Group, more_below, none_below}
use Rattle.py_nesting.specs.TreeOutlines.{loop_target_outline, expr_outline, exprs_outlines, assigned_outlines, stmt_outline, body_outline}

pub data Shape : Type 0 where
  TokenShape : (form : TokenForm) → Shape
  -- a full one takes no more items or arguments by place
  ExprShape : (form : ExprForm) → (full : Bool) → Shape
  SignShape : Shape
  LoopShape : Shape
  -- a named one binds names
  LoopTargetShape : (form : LoopTargetForm) → (named : Bool) → Shape
  TargetsShape : Shape
  ClassShape : (form : ClassNameForm) → Shape
  -- whether a definition has its body, or a body statements
  StmtShape : (form : StmtForm) → (filled : Bool) → Shape
  BodyShape : (filled : Bool) → Shape

abbrev pub is_full : Expr → Bool
is_full (ECall p e es (more_keywords x f ks)) = true
is_full (ETuple p no_exprs) = true
is_full e = false

abbrev pub is_named : LoopTarget → Bool
is_named (LoopNames p []) = false
is_named t = true

abbrev pub is_filled : Body → Bool
is_filled no_stmts = false
is_filled (more_stmts s body) = true

abbrev pub stmt_filled : Stmt → Bool
stmt_filled (SDef p x xs body) = is_filled body
stmt_filled (SClass p x base body) = is_filled body
stmt_filled s = false

abbrev pub shape_of : Part → Shape
shape_of (PToken t) = TokenShape (token_form t)
shape_of (PExpr e) = ExprShape (expr_form e) (is_full e)
shape_of (PSign p o) = SignShape
shape_of (PLoop p t i cs) = LoopShape
shape_of (PLoopTarget t) = LoopTargetShape (loop_target_form t) (is_named t)
shape_of (PTargets p ts) = TargetsShape
shape_of (PClass c) = ClassShape (class_name_form c)
shape_of (PStmt s) = StmtShape (stmt_form s) (stmt_filled s)
shape_of (PBody b) = BodyShape (is_filled b)

-- where nothing is to be said
abbrev pub nowhere : Place
nowhere = record { «module» = 0; line = 0; column = 0 }

abbrev pub place_of_token : Token → Place
place_of_token (At p k) = p

-- where a part begins, as far as nodes above it want to know
abbrev pub begins_at : Part → Place
begins_at (PToken t) = place_of_token t
begins_at (PExpr e) = start_of e
begins_at (PSign p o) = p
begins_at (PTargets p ts) = p
begins_at (PLoop p t i cs) = nowhere
begins_at (PLoopTarget t) = nowhere
begins_at (PClass c) = nowhere
begins_at (PStmt s) = nowhere
begins_at (PBody b) = nowhere

pub data Entry : Type 0 where
  entry : (shape : Shape) → (place : Place) → Entry

abbrev pub entry_of : Part → Entry
entry_of part = entry (shape_of part) (begins_at part)

abbrev pub entries_of : Parts → List Entry
entries_of = map entry_of

-- the outline of a part that has nodes
abbrev pub part_outline : Part → Option Outline
part_outline (PToken t) = None
part_outline (PExpr e) = Some (expr_outline e)
part_outline (PSign p o) = None
part_outline (PLoop p t i cs) = Some (Group (more_below (loop_target_outline t) (more_below (expr_outline i) (exprs_outlines cs none_below))))
part_outline (PLoopTarget t) = Some (loop_target_outline t)
part_outline (PTargets p ts) = Some (Group (assigned_outlines ts))
part_outline (PClass c) = None
part_outline (PStmt s) = Some (stmt_outline s)
part_outline (PBody b) = Some (body_outline b)

abbrev pub with_outline : Option Outline → List Outline → List Outline
with_outline None os = os
with_outline (Some o) os = o ∷ os

abbrev pub outlines_of : Parts → List Outline
outlines_of [] = []
outlines_of (part ∷ v) = with_outline (part_outline part) (outlines_of v)
