-- What the table's actions build: a list of parts, the last first.
use Rattle.std.specs.Prelude.{Bool, true, false, List, [], ◌∷◌, ◌++◌, Option, Some, None}
use Rattle.py_tokens.specs.Token.{Place}
use Rattle.py_syntax.specs.Token.{TName, TNumber, TText, Token, At}
use Rattle.py_syntax.specs.Tree.{NameAt, UnaryOperator, BinaryOperator, ComparisonOperator, LoopTarget, LoopName, LoopNames, LoopParenthesis, Expr, EName, ENumber, EText, ETrue, EFalse, ENone, EParenthesis, EEmptyTuple, ETuple, EList, EListComprehension, EDict, ESet, EAttribute, ECall, ESubscript, ESlice, EUnary, EBinary, ECompare, ENot, EAnd, EOr, EConditional, Exprs, no_exprs, more_exprs, no_expr, an_expr, Pairs, no_pairs, more_pairs, Links, no_links, more_links, Keywords, no_keywords, more_keywords, Loops, no_loops, more_loops, Target, TargetName, TargetAttribute, TargetSubscript, Targets, OneTarget, SomeTargets, ParenthesisTargets, BracketTargets, Imported, ClassName, BareClass, ClassWithin, Caught, Everything, Exceptions, Stmt, SExpr, SAssign, SAugmented, SPass, SBreak, SContinue, SReturn, SRaise, SYield, SGlobal, SAssert, SDelete, SIf, SWhile, SFor, STry, SDef, SClass, SImport, SFromImport, Body, no_stmts, more_stmts, Handlers, no_handlers, more_handlers}

pub data Part : Type 0 where
  -- a token that is in no tree yet
  PToken : (token : Token) → Part
  PExpr : (expr : Expr) → Part
  -- the operator of a comparison
  PSign : (place : Place) → (operator : ComparisonOperator) → Part
  -- a loop of a comprehension
  PLoop : (place : Place) → (target : LoopTarget) → (iterable : Expr) → (conditions : Exprs) → Part
  PLoopTarget : (target : LoopTarget) → Part
  -- what stands before the `=` of an assignment so far, with the place of its first token
  PTargets : (place : Place) → (targets : List Targets) → Part
  PClass : (class : ClassName) → Part
  -- a statement that is in no body yet; it may want parts that come
  PStmt : (stmt : Stmt) → Part
  PBody : (body : Body) → Part

abbrev pub Parts : Type 0
Parts = List Part

-- one more, behind the others
abbrev pub with_expr : Exprs → Expr → Exprs
with_expr no_exprs e = more_exprs e no_exprs
with_expr (more_exprs first es) e = more_exprs first (with_expr es e)

abbrev pub with_pair : Pairs → Expr → Expr → Pairs
with_pair no_pairs k e = more_pairs k e no_pairs
with_pair (more_pairs key value pairs) k e = more_pairs key value (with_pair pairs k e)

abbrev pub with_link : Links → Place → ComparisonOperator → Expr → Links
with_link no_links q u e = more_links q u e no_links
with_link (more_links p o first links) q u e = more_links p o first (with_link links q u e)

abbrev pub with_keyword : Keywords → NameAt → Expr → Keywords
with_keyword no_keywords x e = more_keywords x e no_keywords
with_keyword (more_keywords y first ks) x e = more_keywords y first (with_keyword ks x e)

abbrev pub with_loop : Loops → Place → LoopTarget → Expr → Exprs → Loops
with_loop no_loops q t i cs = more_loops q t i cs no_loops
with_loop (more_loops p u j ds loops) q t i cs = more_loops p u j ds (with_loop loops q t i cs)

abbrev pub with_stmt : Body → Stmt → Body
with_stmt no_stmts s = more_stmts s no_stmts
with_stmt (more_stmts first b) s = more_stmts first (with_stmt b s)

abbrev pub with_stmts : Body → Body → Body
with_stmts no_stmts others = others
with_stmts (more_stmts first b) others = more_stmts first (with_stmts b others)

abbrev pub with_handler : Handlers → Place → Caught → Body → Handlers
with_handler no_handlers q c b = more_handlers q c b no_handlers
with_handler (more_handlers p d body hs) q c b = more_handlers p d body (with_handler hs q c b)

abbrev pub with_imported : Stmt → Imported → Stmt
with_imported (SImport p xs) x = SImport p (xs ++ x ∷ [])
with_imported (SFromImport p m xs) x = SFromImport p m (xs ++ x ∷ [])
with_imported s x = s

-- the place of an expression's first token
abbrev mutual
  pub start_of : Expr → Place
  start_of (EName p x) = p
  start_of (ENumber p n) = p
  start_of (EText p t) = p
  start_of (ETrue p) = p
  start_of (EFalse p) = p
  start_of (ENone p) = p
  start_of (EParenthesis p e) = p
  start_of (EEmptyTuple p) = p
  start_of (ETuple p es) = start_of_first p es
  start_of (EList p c es) = p
  start_of (EListComprehension p e loops) = p
  start_of (EDict p pairs) = p
  start_of (ESet p es) = p
  start_of (EAttribute p e x) = start_of e
  start_of (ECall p e es ks) = start_of e
  start_of (ESubscript p e i) = start_of e
  start_of (ESlice p e l u) = start_of e
  start_of (EUnary p o e) = p
  start_of (EBinary p o a b) = start_of a
  start_of (ECompare p o a b links) = start_of a
  start_of (ENot p e) = p
  start_of (EAnd p a b es) = start_of a
  start_of (EOr p a b es) = start_of a
  start_of (EConditional p a t b) = start_of a

  start_of_first : Place → Exprs → Place
  start_of_first p no_exprs = p
  start_of_first p (more_exprs e es) = start_of e

-- an expression that turns out to be a target
abbrev pub target_of : Expr → Option Target
target_of (EName p x) = Some (TargetName (record { place = p; name = x }))
target_of (EAttribute p e x) = Some (TargetAttribute p e x)
target_of (ESubscript p e i) = Some (TargetSubscript p e i)
target_of e = None

abbrev pub one_more : Option Target → Option (List Target) → Option (List Target)
one_more None ts = None
one_more (Some t) None = None
one_more (Some t) (Some ts) = Some (t ∷ ts)

abbrev pub target_list_of : Exprs → Option (List Target)
target_list_of no_exprs = Some []
target_list_of (more_exprs e es) = one_more (target_of e) (target_list_of es)

abbrev pub in_brackets : (Targets → Targets) → Option Targets → Option Targets
in_brackets f None = None
in_brackets f (Some t) = Some (f t)

abbrev pub one_target : Option Target → Option Targets
one_target None = None
one_target (Some t) = Some (OneTarget t)

abbrev pub some_targets : Place → Option (List Target) → Option Targets
some_targets p None = None
some_targets p (Some ts) = Some (SomeTargets p ts)

-- an expression, perhaps with commas, that turns out to be targets
abbrev mutual
  pub targets_of : Expr → Option Targets
  targets_of (EName p x) = Some (OneTarget (TargetName (record { place = p; name = x })))
  targets_of (EAttribute p e x) = Some (OneTarget (TargetAttribute p e x))
  targets_of (ESubscript p e i) = Some (OneTarget (TargetSubscript p e i))
  targets_of (ETuple p es) = some_targets p (target_list_of es)
  targets_of (EParenthesis p e) = in_brackets (ParenthesisTargets p) (targets_of e)
  targets_of (EList p None es) = in_brackets (BracketTargets p) (targets_of_one es)
  targets_of (EList p (Some c) es) = in_brackets (BracketTargets p) (some_targets c (target_list_of es))
  targets_of e = None

  pub targets_of_one : Exprs → Option Targets
  targets_of_one no_exprs = None
  targets_of_one (more_exprs e no_exprs) = targets_of e
  targets_of_one (more_exprs e (more_exprs f es)) = None

abbrev pub targets_found : Expr → Option Targets → Parts → Parts
targets_found e None v = v
targets_found e (Some t) v = PTargets (start_of e) (t ∷ []) ∷ v

abbrev pub more_targets_found : Expr → Place → List Targets → Option Targets → Parts → Parts
more_targets_found e p ts None v = v
more_targets_found e p ts (Some t) v = PTargets p (ts ++ t ∷ []) ∷ v

abbrev pub target_found : BinaryOperator → Expr → Expr → Option Target → Parts → Parts
target_found o a e None v = v
target_found o a e (Some t) v = PStmt (SAugmented (start_of a) o t e) ∷ v

-- what guards ask of the last part
abbrev pub is_some : {A : Type 0} → Option A → Bool
is_some None = false
is_some (Some a) = true

abbrev pub are_targets_last : Parts → Bool
are_targets_last (PExpr e ∷ v) = is_some (targets_of e)
are_targets_last v = false

abbrev pub is_target_last : Parts → Bool
is_target_last (PExpr e ∷ v) = is_some (target_of e)
is_target_last v = false

abbrev pub is_name_last : Parts → Bool
is_name_last (PExpr (EName p x) ∷ v) = true
is_name_last v = false

-- Each action takes what it needs from the front. Where that is not there, which never comes, nothing is done.
pub data Action : Type 0 where
  -- a token of which nothing is kept
  Drop : Action
  -- expressions of one token
  MakeLeaf : Action
  MakeTrue : Action
  MakeFalse : Action
  MakeNone : Action
  -- brackets
  MakeEmptyTuple : Action
  MakeParenthesis : Action
  -- an item with its comma; further items
  MakeTuple : Action
  AddItem : Action
  MakeEmptyList : Action
  MakeListOfOne : Action
  MakeList : Action
  BeginComprehension : Action
  BeginLoop : Action
  AddCondition : Action
  AddLoop : Action
  MakeEmptyDict : Action
  BeginDict : Action
  AddPair : Action
  MakeSetOfOne : Action
  MakeSet : Action
  -- what stands behind an expression
  MakeAttribute : Action
  BeginCall : Action
  AddArgument : Action
  AddKeyword : Action
  MakeSubscript : Action
  MakeSliceFrom : Action
  MakeSlice : Action
  AddUpper : Action
  -- operators
  MakeUnary : (o : UnaryOperator) → Action
  MakeBinary : (o : BinaryOperator) → Action
  -- an operator of comparisons; one of two words
  MakeSign : (o : ComparisonOperator) → Action
  MakeLongSign : (o : ComparisonOperator) → Action
  MakeCompare : Action
  AddLink : Action
  MakeNot : Action
  MakeAnd : Action
  AddAnd : Action
  MakeOr : Action
  AddOr : Action
  MakeConditional : Action
  -- what a loop binds
  MakeLoopName : Action
  MakeLoopNames : Action
  AddLoopName : Action
  MakeLoopParenthesis : Action
  -- bodies
  BeginBody : Action
  AddStmt : Action
  -- small statements
  MakeExprStmt : Action
  MakeTargets : Action
  AddTargets : Action
  MakeAssign : Action
  MakeAugmented : (o : BinaryOperator) → Action
  MakePass : Action
  MakeBreak : Action
  MakeContinue : Action
  MakeReturn : Action
  MakeReturnValue : Action
  MakeRaise : Action
  MakeYield : Action
  BeginGlobal : Action
  AddGlobal : Action
  MakeAssert : Action
  MakeAssertMessage : Action
  MakeDelete : Action
  -- compound statements
  MakeIf : Action
  MakeElif : Action
  MakeElse : Action
  MakeWhile : Action
  MakeFor : Action
  BeginTry : Action
  CatchAll : Action
  Catch : Action
  CatchAs : Action
  -- names of classes
  MakeClassName : Action
  MakeClassWithin : Action
  -- definitions, classes, imports
  BeginDef : Action
  AddParameter : Action
  AddDefault : Action
  EndDef : Action
  BeginClass : Action
  AddBase : Action
  EndClass : Action
  BeginImport : Action
  BeginFrom : Action
  AddImported : Action
  AddImportedAs : Action

abbrev pub drop : Parts → Parts
drop (PToken t ∷ v) = v
drop v = v

abbrev pub make_leaf : Parts → Parts
make_leaf (PToken (At p (TName a x)) ∷ v) = PExpr (EName p x) ∷ v
make_leaf (PToken (At p (TNumber n)) ∷ v) = PExpr (ENumber p n) ∷ v
make_leaf (PToken (At p (TText t)) ∷ v) = PExpr (EText p t) ∷ v
make_leaf v = v

abbrev pub make_true : Parts → Parts
make_true (PToken (At p k) ∷ v) = PExpr (ETrue p) ∷ v
make_true v = v

abbrev pub make_false : Parts → Parts
make_false (PToken (At p k) ∷ v) = PExpr (EFalse p) ∷ v
make_false v = v

abbrev pub make_none : Parts → Parts
make_none (PToken (At p k) ∷ v) = PExpr (ENone p) ∷ v
make_none v = v

abbrev pub make_empty_tuple : Parts → Parts
make_empty_tuple (PToken close ∷ PToken (At p k) ∷ v) = PExpr (EEmptyTuple p) ∷ v
make_empty_tuple v = v

abbrev pub make_parenthesis : Parts → Parts
make_parenthesis (PToken close ∷ PExpr e ∷ PToken (At p k) ∷ v) = PExpr (EParenthesis p e) ∷ v
make_parenthesis v = v

abbrev pub make_tuple : Parts → Parts
make_tuple (PToken (At p k) ∷ PExpr e ∷ v) = PExpr (ETuple p (more_exprs e no_exprs)) ∷ v
make_tuple v = v

abbrev pub add_item : Parts → Parts
add_item (PExpr e ∷ PExpr (ETuple p es) ∷ v) = PExpr (ETuple p (with_expr es e)) ∷ v
add_item v = v

abbrev pub make_empty_list : Parts → Parts
make_empty_list (PToken close ∷ PToken (At p k) ∷ v) = PExpr (EList p None no_exprs) ∷ v
make_empty_list v = v

abbrev pub make_list_of_one : Parts → Parts
make_list_of_one (PToken close ∷ PExpr e ∷ PToken (At p k) ∷ v) = PExpr (EList p None (more_exprs e no_exprs)) ∷ v
make_list_of_one v = v

abbrev pub make_list : Parts → Parts
make_list (PToken close ∷ PExpr (ETuple c es) ∷ PToken (At p k) ∷ v) = PExpr (EList p (Some c) es) ∷ v
make_list v = v

abbrev pub begin_comprehension : Parts → Parts
begin_comprehension (PExpr e ∷ PToken (At p k) ∷ v) = PExpr (EListComprehension p e no_loops) ∷ v
begin_comprehension v = v

abbrev pub begin_loop : Parts → Parts
begin_loop (PExpr i ∷ PToken in_word ∷ PLoopTarget t ∷ PToken (At p k) ∷ v) = PLoop p t i no_exprs ∷ v
begin_loop v = v

abbrev pub add_condition : Parts → Parts
add_condition (PExpr e ∷ PToken if_word ∷ PLoop p t i cs ∷ v) = PLoop p t i (with_expr cs e) ∷ v
add_condition v = v

abbrev pub add_loop : Parts → Parts
add_loop (PLoop q t i cs ∷ PExpr (EListComprehension p e loops) ∷ v) = PExpr (EListComprehension p e (with_loop loops q t i cs)) ∷ v
add_loop v = v

abbrev pub make_empty_dict : Parts → Parts
make_empty_dict (PToken close ∷ PToken (At p k) ∷ v) = PExpr (EDict p no_pairs) ∷ v
make_empty_dict v = v

abbrev pub begin_dict : Parts → Parts
begin_dict (PExpr e ∷ PToken colon ∷ PExpr k ∷ PToken (At p b) ∷ v) = PExpr (EDict p (more_pairs k e no_pairs)) ∷ v
begin_dict v = v

abbrev pub add_pair : Parts → Parts
add_pair (PExpr e ∷ PToken colon ∷ PExpr k ∷ PExpr (EDict p pairs) ∷ v) = PExpr (EDict p (with_pair pairs k e)) ∷ v
add_pair v = v

abbrev pub make_set_of_one : Parts → Parts
make_set_of_one (PToken close ∷ PExpr e ∷ PToken (At p k) ∷ v) = PExpr (ESet p (more_exprs e no_exprs)) ∷ v
make_set_of_one v = v

abbrev pub make_set : Parts → Parts
make_set (PToken close ∷ PExpr (ETuple c es) ∷ PToken (At p k) ∷ v) = PExpr (ESet p es) ∷ v
make_set v = v

abbrev pub make_attribute : Parts → Parts
make_attribute (PToken (At q (TName a x)) ∷ PToken (At p k) ∷ PExpr e ∷ v) = PExpr (EAttribute p e (record { place = q; name = x })) ∷ v
make_attribute v = v

abbrev pub begin_call : Parts → Parts
begin_call (PToken (At p k) ∷ PExpr e ∷ v) = PExpr (ECall p e no_exprs no_keywords) ∷ v
begin_call v = v

abbrev pub add_argument : Parts → Parts
add_argument (PExpr e ∷ PExpr (ECall p f es ks) ∷ v) = PExpr (ECall p f (with_expr es e) ks) ∷ v
add_argument v = v

abbrev pub add_keyword : Parts → Parts
add_keyword (PExpr e ∷ PToken equals ∷ PExpr (EName q x) ∷ PExpr (ECall p f es ks) ∷ v) = PExpr (ECall p f es (with_keyword ks (record { place = q; name = x }) e)) ∷ v
add_keyword v = v

abbrev pub make_subscript : Parts → Parts
make_subscript (PToken close ∷ PExpr i ∷ PToken (At p k) ∷ PExpr e ∷ v) = PExpr (ESubscript p e i) ∷ v
make_subscript v = v

abbrev pub make_slice_from : Parts → Parts
make_slice_from (PToken colon ∷ PExpr l ∷ PToken (At p k) ∷ PExpr e ∷ v) = PExpr (ESlice p e (an_expr l) no_expr) ∷ v
make_slice_from v = v

abbrev pub make_slice : Parts → Parts
make_slice (PToken colon ∷ PToken (At p k) ∷ PExpr e ∷ v) = PExpr (ESlice p e no_expr no_expr) ∷ v
make_slice v = v

abbrev pub add_upper : Parts → Parts
add_upper (PToken close ∷ PExpr u ∷ PExpr (ESlice p e l no_expr) ∷ v) = PExpr (ESlice p e l (an_expr u)) ∷ v
add_upper v = v

abbrev pub make_unary : UnaryOperator → Parts → Parts
make_unary o (PExpr e ∷ PToken (At p k) ∷ v) = PExpr (EUnary p o e) ∷ v
make_unary o v = v

abbrev pub make_binary : BinaryOperator → Parts → Parts
make_binary o (PExpr b ∷ PToken (At p k) ∷ PExpr a ∷ v) = PExpr (EBinary p o a b) ∷ v
make_binary o v = v

abbrev pub make_sign : ComparisonOperator → Parts → Parts
make_sign o (PToken (At p k) ∷ v) = PSign p o ∷ v
make_sign o v = v

abbrev pub make_long_sign : ComparisonOperator → Parts → Parts
make_long_sign o (PToken second ∷ PToken (At p k) ∷ v) = PSign p o ∷ v
make_long_sign o v = v

abbrev pub make_compare : Parts → Parts
make_compare (PExpr b ∷ PSign p o ∷ PExpr a ∷ v) = PExpr (ECompare p o a b no_links) ∷ v
make_compare v = v

abbrev pub add_link : Parts → Parts
add_link (PExpr e ∷ PSign q u ∷ PExpr (ECompare p o a b links) ∷ v) = PExpr (ECompare p o a b (with_link links q u e)) ∷ v
add_link v = v

abbrev pub make_not : Parts → Parts
make_not (PExpr e ∷ PToken (At p k) ∷ v) = PExpr (ENot p e) ∷ v
make_not v = v

abbrev pub make_and : Parts → Parts
make_and (PExpr b ∷ PToken (At p k) ∷ PExpr a ∷ v) = PExpr (EAnd p a b no_exprs) ∷ v
make_and v = v

abbrev pub add_and : Parts → Parts
add_and (PExpr e ∷ PToken and_word ∷ PExpr (EAnd p a b es) ∷ v) = PExpr (EAnd p a b (with_expr es e)) ∷ v
add_and v = v

abbrev pub make_or : Parts → Parts
make_or (PExpr b ∷ PToken (At p k) ∷ PExpr a ∷ v) = PExpr (EOr p a b no_exprs) ∷ v
make_or v = v

abbrev pub add_or : Parts → Parts
add_or (PExpr e ∷ PToken or_word ∷ PExpr (EOr p a b es) ∷ v) = PExpr (EOr p a b (with_expr es e)) ∷ v
add_or v = v

abbrev pub make_conditional : Parts → Parts
make_conditional (PExpr b ∷ PToken else_word ∷ PExpr t ∷ PToken (At p k) ∷ PExpr a ∷ v) = PExpr (EConditional p a t b) ∷ v
make_conditional v = v

abbrev pub make_loop_name : Parts → Parts
make_loop_name (PToken (At q (TName a x)) ∷ v) = PLoopTarget (LoopName (record { place = q; name = x })) ∷ v
make_loop_name v = v

abbrev pub make_loop_names : Parts → Parts
make_loop_names (PToken (At p k) ∷ PLoopTarget (LoopName x) ∷ v) = PLoopTarget (LoopNames p (x ∷ [])) ∷ v
make_loop_names v = v

abbrev pub add_loop_name : Parts → Parts
add_loop_name (PToken (At q (TName a x)) ∷ PLoopTarget (LoopNames p xs) ∷ v) = PLoopTarget (LoopNames p (xs ++ (record { place = q; name = x }) ∷ [])) ∷ v
add_loop_name v = v

abbrev pub make_loop_parenthesis : Parts → Parts
make_loop_parenthesis (PToken close ∷ PLoopTarget t ∷ PToken (At p k) ∷ v) = PLoopTarget (LoopParenthesis p t) ∷ v
make_loop_parenthesis v = v

abbrev pub begin_body : Parts → Parts
begin_body v = PBody no_stmts ∷ v

abbrev pub add_stmt : Parts → Parts
add_stmt (PStmt s ∷ PBody b ∷ v) = PBody (with_stmt b s) ∷ v
add_stmt v = v

abbrev pub make_expr_stmt : Parts → Parts
make_expr_stmt (PExpr e ∷ v) = PStmt (SExpr (start_of e) e) ∷ v
make_expr_stmt v = v

abbrev pub make_targets : Parts → Parts
make_targets (PToken equals ∷ PExpr e ∷ v) = targets_found e (targets_of e) v
make_targets v = v

abbrev pub add_targets : Parts → Parts
add_targets (PToken equals ∷ PExpr e ∷ PTargets p ts ∷ v) = more_targets_found e p ts (targets_of e) v
add_targets v = v

abbrev pub make_assign : Parts → Parts
make_assign (PExpr e ∷ PTargets p ts ∷ v) = PStmt (SAssign p ts e) ∷ v
make_assign v = v

abbrev pub make_augmented : BinaryOperator → Parts → Parts
make_augmented o (PExpr e ∷ PToken t ∷ PExpr a ∷ v) = target_found o a e (target_of a) v
make_augmented o v = v

abbrev pub make_pass : Parts → Parts
make_pass (PToken (At p k) ∷ v) = PStmt (SPass p) ∷ v
make_pass v = v

abbrev pub make_break : Parts → Parts
make_break (PToken (At p k) ∷ v) = PStmt (SBreak p) ∷ v
make_break v = v

abbrev pub make_continue : Parts → Parts
make_continue (PToken (At p k) ∷ v) = PStmt (SContinue p) ∷ v
make_continue v = v

abbrev pub make_return : Parts → Parts
make_return (PToken (At p k) ∷ v) = PStmt (SReturn p no_expr) ∷ v
make_return v = v

abbrev pub make_return_value : Parts → Parts
make_return_value (PExpr e ∷ PToken (At p k) ∷ v) = PStmt (SReturn p (an_expr e)) ∷ v
make_return_value v = v

abbrev pub make_raise : Parts → Parts
make_raise (PExpr e ∷ PToken (At p k) ∷ v) = PStmt (SRaise p e) ∷ v
make_raise v = v

abbrev pub make_yield : Parts → Parts
make_yield (PExpr e ∷ PToken (At p k) ∷ v) = PStmt (SYield p e) ∷ v
make_yield v = v

abbrev pub begin_global : Parts → Parts
begin_global (PToken (At p k) ∷ v) = PStmt (SGlobal p []) ∷ v
begin_global v = v

abbrev pub add_global : Parts → Parts
add_global (PToken (At q (TName a x)) ∷ PStmt (SGlobal p xs) ∷ v) = PStmt (SGlobal p (xs ++ (record { place = q; name = x }) ∷ [])) ∷ v
add_global v = v

abbrev pub make_assert : Parts → Parts
make_assert (PExpr e ∷ PToken (At p k) ∷ v) = PStmt (SAssert p e no_expr) ∷ v
make_assert v = v

abbrev pub make_assert_message : Parts → Parts
make_assert_message (PExpr m ∷ PToken comma ∷ PExpr e ∷ PToken (At p k) ∷ v) = PStmt (SAssert p e (an_expr m)) ∷ v
make_assert_message v = v

abbrev pub make_delete : Parts → Parts
make_delete (PExpr (ESubscript q e i) ∷ PToken (At p k) ∷ v) = PStmt (SDelete p q e i) ∷ v
make_delete v = v

abbrev pub make_if : Parts → Parts
make_if (PBody other ∷ PBody b ∷ PToken colon ∷ PExpr e ∷ PToken (At p k) ∷ v) = PStmt (SIf p e b other) ∷ v
make_if v = v

abbrev pub make_elif : Parts → Parts
make_elif (PBody other ∷ PBody b ∷ PToken colon ∷ PExpr e ∷ PToken (At p k) ∷ v) = PBody (more_stmts (SIf p e b other) no_stmts) ∷ v
make_elif v = v

abbrev pub make_else : Parts → Parts
make_else (PBody b ∷ PToken colon ∷ PToken else_word ∷ v) = PBody b ∷ v
make_else v = v

abbrev pub make_while : Parts → Parts
make_while (PBody b ∷ PToken colon ∷ PExpr e ∷ PToken (At p k) ∷ v) = PStmt (SWhile p e b) ∷ v
make_while v = v

abbrev pub make_for : Parts → Parts
make_for (PBody b ∷ PToken colon ∷ PExpr e ∷ PToken in_word ∷ PLoopTarget t ∷ PToken (At p k) ∷ v) = PStmt (SFor p t e b) ∷ v
make_for v = v

abbrev pub begin_try : Parts → Parts
begin_try (PBody b ∷ PToken colon ∷ PToken (At p k) ∷ v) = PStmt (STry p b no_handlers) ∷ v
begin_try v = v

abbrev pub catch_all : Parts → Parts
catch_all (PBody b ∷ PToken colon ∷ PToken (At q k) ∷ PStmt (STry p body hs) ∷ v) = PStmt (STry p body (with_handler hs q Everything b)) ∷ v
catch_all v = v

abbrev pub catch : Parts → Parts
catch (PBody b ∷ PToken colon ∷ PClass c ∷ PToken (At q k) ∷ PStmt (STry p body hs) ∷ v) = PStmt (STry p body (with_handler hs q (Exceptions c None) b)) ∷ v
catch v = v

abbrev pub catch_as : Parts → Parts
catch_as (PBody b ∷ PToken colon ∷ PToken (At r (TName a x)) ∷ PToken as_word ∷ PClass c ∷ PToken (At q k) ∷ PStmt (STry p body hs) ∷ v) = PStmt (STry p body (with_handler hs q (Exceptions c (Some (record { place = r; name = x }))) b)) ∷ v
catch_as v = v

abbrev pub make_class_name : Parts → Parts
make_class_name (PToken (At q (TName a x)) ∷ v) = PClass (BareClass (record { place = q; name = x })) ∷ v
make_class_name v = v

abbrev pub make_class_within : Parts → Parts
make_class_within (PToken (At q (TName a x)) ∷ PToken dot ∷ PClass (BareClass m) ∷ v) = PClass (ClassWithin m (record { place = q; name = x })) ∷ v
make_class_within v = v

abbrev pub begin_def : Parts → Parts
begin_def (PToken opening ∷ PToken (At q (TName a x)) ∷ PToken (At p k) ∷ v) = PStmt (SDef p (record { place = q; name = x }) [] no_stmts) ∷ v
begin_def v = v

abbrev pub add_parameter : Parts → Parts
add_parameter (PToken (At q (TName a x)) ∷ PStmt (SDef p f xs b) ∷ v) = PStmt (SDef p f (xs ++ record { name = (record { place = q; name = x }); default = no_expr } ∷ []) b) ∷ v
add_parameter v = v

abbrev pub add_default : Parts → Parts
add_default (PExpr e ∷ PToken equals ∷ PToken (At q (TName a x)) ∷ PStmt (SDef p f xs b) ∷ v) = PStmt (SDef p f (xs ++ record { name = (record { place = q; name = x }); default = an_expr e } ∷ []) b) ∷ v
add_default v = v

abbrev pub end_def : Parts → Parts
end_def (PBody b ∷ PToken colon ∷ PToken close ∷ PStmt (SDef p f xs body) ∷ v) = PStmt (SDef p f xs (with_stmts body b)) ∷ v
end_def v = v

abbrev pub begin_class : Parts → Parts
begin_class (PToken (At q (TName a x)) ∷ PToken (At p k) ∷ v) = PStmt (SClass p (record { place = q; name = x }) None no_stmts) ∷ v
begin_class v = v

abbrev pub add_base : Parts → Parts
add_base (PToken close ∷ PClass c ∷ PToken opening ∷ PStmt (SClass p x base b) ∷ v) = PStmt (SClass p x (Some c) b) ∷ v
add_base v = v

abbrev pub end_class : Parts → Parts
end_class (PBody b ∷ PToken colon ∷ PStmt (SClass p x base body) ∷ v) = PStmt (SClass p x base (with_stmts body b)) ∷ v
end_class v = v

abbrev pub begin_import : Parts → Parts
begin_import (PToken (At p k) ∷ v) = PStmt (SImport p []) ∷ v
begin_import v = v

abbrev pub begin_from : Parts → Parts
begin_from (PToken import_word ∷ PToken (At q (TName a x)) ∷ PToken (At p k) ∷ v) = PStmt (SFromImport p (record { place = q; name = x }) []) ∷ v
begin_from v = v

abbrev pub add_imported : Parts → Parts
add_imported (PToken (At q (TName a x)) ∷ PStmt s ∷ v) = PStmt (with_imported s (record { name = (record { place = q; name = x }); alias = None })) ∷ v
add_imported v = v

abbrev pub add_imported_as : Parts → Parts
add_imported_as (PToken (At r (TName b y)) ∷ PToken as_word ∷ PToken (At q (TName a x)) ∷ PStmt s ∷ v) = PStmt (with_imported s (record { name = (record { place = q; name = x }); alias = Some (record { place = r; name = y }) })) ∷ v
add_imported_as v = v

abbrev pub act : Action → Parts → Parts
act Drop v = drop v
act MakeLeaf v = make_leaf v
act MakeTrue v = make_true v
act MakeFalse v = make_false v
act MakeNone v = make_none v
act MakeEmptyTuple v = make_empty_tuple v
act MakeParenthesis v = make_parenthesis v
act MakeTuple v = make_tuple v
act AddItem v = add_item v
act MakeEmptyList v = make_empty_list v
act MakeListOfOne v = make_list_of_one v
act MakeList v = make_list v
act BeginComprehension v = begin_comprehension v
act BeginLoop v = begin_loop v
act AddCondition v = add_condition v
act AddLoop v = add_loop v
act MakeEmptyDict v = make_empty_dict v
act BeginDict v = begin_dict v
act AddPair v = add_pair v
act MakeSetOfOne v = make_set_of_one v
act MakeSet v = make_set v
act MakeAttribute v = make_attribute v
act BeginCall v = begin_call v
act AddArgument v = add_argument v
act AddKeyword v = add_keyword v
act MakeSubscript v = make_subscript v
act MakeSliceFrom v = make_slice_from v
act MakeSlice v = make_slice v
act AddUpper v = add_upper v
act (MakeUnary o) v = make_unary o v
act (MakeBinary o) v = make_binary o v
act (MakeSign o) v = make_sign o v
act (MakeLongSign o) v = make_long_sign o v
act MakeCompare v = make_compare v
act AddLink v = add_link v
act MakeNot v = make_not v
act MakeAnd v = make_and v
act AddAnd v = add_and v
act MakeOr v = make_or v
act AddOr v = add_or v
act MakeConditional v = make_conditional v
act MakeLoopName v = make_loop_name v
act MakeLoopNames v = make_loop_names v
act AddLoopName v = add_loop_name v
act MakeLoopParenthesis v = make_loop_parenthesis v
act BeginBody v = begin_body v
act AddStmt v = add_stmt v
act MakeExprStmt v = make_expr_stmt v
act MakeTargets v = make_targets v
act AddTargets v = add_targets v
act MakeAssign v = make_assign v
act (MakeAugmented o) v = make_augmented o v
act MakePass v = make_pass v
act MakeBreak v = make_break v
act MakeContinue v = make_continue v
act MakeReturn v = make_return v
act MakeReturnValue v = make_return_value v
act MakeRaise v = make_raise v
act MakeYield v = make_yield v
act BeginGlobal v = begin_global v
act AddGlobal v = add_global v
act MakeAssert v = make_assert v
act MakeAssertMessage v = make_assert_message v
act MakeDelete v = make_delete v
act MakeIf v = make_if v
act MakeElif v = make_elif v
act MakeElse v = make_else v
act MakeWhile v = make_while v
act MakeFor v = make_for v
act BeginTry v = begin_try v
act CatchAll v = catch_all v
act Catch v = catch v
act CatchAs v = catch_as v
act MakeClassName v = make_class_name v
act MakeClassWithin v = make_class_within v
act BeginDef v = begin_def v
act AddParameter v = add_parameter v
act AddDefault v = add_default v
act EndDef v = end_def v
act BeginClass v = begin_class v
act AddBase v = add_base v
act EndClass v = end_class v
act BeginImport v = begin_import v
act BeginFrom v = begin_from v
act AddImported v = add_imported v
act AddImportedAs v = add_imported_as v
