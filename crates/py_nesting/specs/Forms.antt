-- What form a part has, as far as the table's actions and guards ask.
use Rattle.std.specs.Prelude.{Bool, true, false, ◌&&◌, Option, Some, None}
use Rattle.py_tokens.specs.Token.{Place}
use Rattle.py_syntax.specs.Token.{TName, TNumber, TText, Token, At}
use Rattle.py_syntax.specs.Tree.{LoopTarget, LoopName, LoopNames, LoopParenthesis, Expr, EName, EParenthesis, ETuple, EList, EListComprehension, EDict, EAttribute, ECall, ESubscript, ESlice, ECompare, EAnd, EOr, Exprs, no_exprs, more_exprs, MaybeExpr, no_expr, an_expr, ClassName, BareClass, ClassWithin, Stmt, SGlobal, STry, SDef, SClass}

pub data TokenForm : Type 0 where
  NameToken : TokenForm
  -- a number or a text
  LiteralToken : TokenForm
  OtherToken : TokenForm

pub data ExprForm : Type 0 where
  NameForm : ExprForm
  -- an attribute, which may be a target
  TargetForm : ExprForm
  SubscriptForm : ExprForm
  -- whether all items may be targets
  TupleForm : (targets : Bool) → ExprForm
  -- round or square brackets, and whether they may be targets
  BracketForm : (targets : Bool) → ExprForm
  ComprehensionForm : ExprForm
  DictForm : ExprForm
  CallForm : ExprForm
  -- whether it has its end
  SliceForm : (ended : Bool) → ExprForm
  CompareForm : ExprForm
  AndForm : ExprForm
  OrForm : ExprForm
  OtherForm : ExprForm

pub data LoopTargetForm : Type 0 where
  OneName : LoopTargetForm
  SomeNames : LoopTargetForm
  NamesInBrackets : LoopTargetForm

pub data ClassNameForm : Type 0 where
  BareName : ClassNameForm
  DottedName : ClassNameForm

pub data StmtForm : Type 0 where
  GlobalStmt : StmtForm
  TryStmt : StmtForm
  DefStmt : StmtForm
  ClassStmt : StmtForm
  OtherStmt : StmtForm

abbrev pub is_target : ExprForm → Bool
is_target NameForm = true
is_target TargetForm = true
is_target SubscriptForm = true
is_target f = false

abbrev pub are_targets : ExprForm → Bool
are_targets NameForm = true
are_targets TargetForm = true
are_targets SubscriptForm = true
are_targets (TupleForm b) = b
are_targets (BracketForm b) = b
are_targets f = false

abbrev pub token_form : Token → TokenForm
token_form (At p (TName a x)) = NameToken
token_form (At p (TNumber n)) = LiteralToken
token_form (At p (TText t)) = LiteralToken
token_form (At p k) = OtherToken

abbrev pub is_there : MaybeExpr → Bool
is_there no_expr = false
is_there (an_expr e) = true

-- what holds of one item, or of items with a comma
abbrev pub by_comma : {A : Type 0} → Option Place → A → A → A
by_comma None one some = one
by_comma (Some c) one some = some

abbrev mutual
  pub expr_form : Expr → ExprForm
  expr_form (EName p x) = NameForm
  expr_form (EAttribute p e x) = TargetForm
  expr_form (ESubscript p e i) = SubscriptForm
  expr_form (ETuple p es) = TupleForm (items_are_targets es)
  expr_form (EParenthesis p e) = BracketForm (are_targets (expr_form e))
  expr_form (EList p c es) = BracketForm (by_comma c (item_is_targets es) (items_are_targets es))
  expr_form (EListComprehension p e loops) = ComprehensionForm
  expr_form (EDict p pairs) = DictForm
  expr_form (ECall p f es ks) = CallForm
  expr_form (ESlice p e l u) = SliceForm (is_there u)
  expr_form (ECompare p o a b links) = CompareForm
  expr_form (EAnd p a b es) = AndForm
  expr_form (EOr p a b es) = OrForm
  expr_form e = OtherForm

  pub items_are_targets : Exprs → Bool
  items_are_targets no_exprs = true
  items_are_targets (more_exprs e es) = is_target (expr_form e) && items_are_targets es

  pub item_is_targets : Exprs → Bool
  item_is_targets no_exprs = false
  item_is_targets (more_exprs e no_exprs) = are_targets (expr_form e)
  item_is_targets (more_exprs e (more_exprs f es)) = false

abbrev pub loop_target_form : LoopTarget → LoopTargetForm
loop_target_form (LoopName x) = OneName
loop_target_form (LoopNames p xs) = SomeNames
loop_target_form (LoopParenthesis p t) = NamesInBrackets

abbrev pub class_name_form : ClassName → ClassNameForm
class_name_form (BareClass x) = BareName
class_name_form (ClassWithin m x) = DottedName

abbrev pub stmt_form : Stmt → StmtForm
stmt_form (SGlobal p xs) = GlobalStmt
stmt_form (STry p b hs) = TryStmt
stmt_form (SDef p f xs b) = DefStmt
stmt_form (SClass p x base b) = ClassStmt
stmt_form s = OtherStmt
