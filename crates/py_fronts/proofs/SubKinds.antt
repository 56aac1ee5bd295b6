-- Parts of one kind that are parts of another.
use Rattle.std.proofs.Common.{◌≡◌, true, false, refl}
use Rattle.py_nesting.specs.Forms.{NameToken, LiteralToken, NameForm, SubscriptForm, TupleForm, ComprehensionForm, DictForm, CallForm, SliceForm, CompareForm, AndForm, OrForm, OneName, SomeNames, BareName, GlobalStmt, TryStmt, DefStmt, ClassStmt}
use Rattle.py_nesting.specs.Shapes.{TokenShape, ExprShape, LoopTargetShape, ClassShape, StmtShape, BodyShape, Entry, entry}
use Rattle.py_fronts.specs.Kinds.{Kind, AToken, ANameToken, ALiteralToken, AnExpr, ANameExpr, ATarget, TargetsExpr, ASubscript, ATuple, AComprehension, ADict, ACall, AnyCall, AnOpenSlice, ACompare, AnAnd, AnOr, ASign, ALoop, ALoopTarget, OneNameTarget, SomeNamesTarget, TheTargets, AClass, ABareClass, AStmt, AGlobal, ATry, ADef, AClassStmt, ABody, AFilledBody, fits, is_kind_of}

pub no_fit : {A : Type 0} → false ≡ true → A
no_fit e = absurd (cc)

a_bare_class_is_a_class : (e : Entry) → fits ABareClass e ≡ true → fits AClass e ≡ true
a_bare_class_is_a_class (entry (ClassShape BareName) p) h = refl
a_bare_class_is_a_class e h = no_fit h

a_call_is_an_expr : (e : Entry) → fits ACall e ≡ true → fits AnExpr e ≡ true
a_call_is_an_expr (entry (ExprShape CallForm false) p) h = refl
a_call_is_an_expr e h = no_fit h

a_call_is_any_call : (e : Entry) → fits ACall e ≡ true → fits AnyCall e ≡ true
a_call_is_any_call (entry (ExprShape CallForm false) p) h = refl
a_call_is_any_call e h = no_fit h

a_class_stmt_is_a_stmt : (e : Entry) → fits AClassStmt e ≡ true → fits AStmt e ≡ true
a_class_stmt_is_a_stmt (entry (StmtShape ClassStmt false) p) h = refl
a_class_stmt_is_a_stmt e h = no_fit h

a_compare_is_an_expr : (e : Entry) → fits ACompare e ≡ true → fits AnExpr e ≡ true
a_compare_is_an_expr (entry (ExprShape CompareForm n) p) h = refl
a_compare_is_an_expr e h = no_fit h

a_comprehension_is_an_expr : (e : Entry) → fits AComprehension e ≡ true → fits AnExpr e ≡ true
a_comprehension_is_an_expr (entry (ExprShape ComprehensionForm n) p) h = refl
a_comprehension_is_an_expr e h = no_fit h

a_def_is_a_stmt : (e : Entry) → fits ADef e ≡ true → fits AStmt e ≡ true
a_def_is_a_stmt (entry (StmtShape DefStmt false) p) h = refl
a_def_is_a_stmt e h = no_fit h

a_dict_is_an_expr : (e : Entry) → fits ADict e ≡ true → fits AnExpr e ≡ true
a_dict_is_an_expr (entry (ExprShape DictForm n) p) h = refl
a_dict_is_an_expr e h = no_fit h

a_filled_body_is_a_body : (e : Entry) → fits AFilledBody e ≡ true → fits ABody e ≡ true
a_filled_body_is_a_body (entry (BodyShape true) p) h = refl
a_filled_body_is_a_body e h = no_fit h

a_global_is_a_stmt : (e : Entry) → fits AGlobal e ≡ true → fits AStmt e ≡ true
a_global_is_a_stmt (entry (StmtShape GlobalStmt n) p) h = refl
a_global_is_a_stmt e h = no_fit h

a_literal_token_is_a_token : (e : Entry) → fits ALiteralToken e ≡ true → fits AToken e ≡ true
a_literal_token_is_a_token (entry (TokenShape LiteralToken) p) h = refl
a_literal_token_is_a_token e h = no_fit h

a_name_expr_is_an_expr : (e : Entry) → fits ANameExpr e ≡ true → fits AnExpr e ≡ true
a_name_expr_is_an_expr (entry (ExprShape NameForm n) p) h = refl
a_name_expr_is_an_expr e h = no_fit h

a_name_token_is_a_token : (e : Entry) → fits ANameToken e ≡ true → fits AToken e ≡ true
a_name_token_is_a_token (entry (TokenShape NameToken) p) h = refl
a_name_token_is_a_token e h = no_fit h

a_subscript_is_an_expr : (e : Entry) → fits ASubscript e ≡ true → fits AnExpr e ≡ true
a_subscript_is_an_expr (entry (ExprShape SubscriptForm n) p) h = refl
a_subscript_is_an_expr e h = no_fit h

a_target_is_an_expr : (e : Entry) → fits ATarget e ≡ true → fits AnExpr e ≡ true
a_target_is_an_expr (entry (ExprShape f n) p) h = refl
a_target_is_an_expr e h = no_fit h

a_try_is_a_stmt : (e : Entry) → fits ATry e ≡ true → fits AStmt e ≡ true
a_try_is_a_stmt (entry (StmtShape TryStmt n) p) h = refl
a_try_is_a_stmt e h = no_fit h

a_tuple_is_an_expr : (e : Entry) → fits ATuple e ≡ true → fits AnExpr e ≡ true
a_tuple_is_an_expr (entry (ExprShape (TupleForm u) false) p) h = refl
a_tuple_is_an_expr e h = no_fit h

an_and_is_an_expr : (e : Entry) → fits AnAnd e ≡ true → fits AnExpr e ≡ true
an_and_is_an_expr (entry (ExprShape AndForm n) p) h = refl
an_and_is_an_expr e h = no_fit h

an_open_slice_is_an_expr : (e : Entry) → fits AnOpenSlice e ≡ true → fits AnExpr e ≡ true
an_open_slice_is_an_expr (entry (ExprShape (SliceForm false) n) p) h = refl
an_open_slice_is_an_expr e h = no_fit h

an_or_is_an_expr : (e : Entry) → fits AnOr e ≡ true → fits AnExpr e ≡ true
an_or_is_an_expr (entry (ExprShape OrForm n) p) h = refl
an_or_is_an_expr e h = no_fit h

any_call_is_an_expr : (e : Entry) → fits AnyCall e ≡ true → fits AnExpr e ≡ true
any_call_is_an_expr (entry (ExprShape CallForm n) p) h = refl
any_call_is_an_expr e h = no_fit h

one_name_target_is_a_loop_target : (e : Entry) → fits OneNameTarget e ≡ true → fits ALoopTarget e ≡ true
one_name_target_is_a_loop_target (entry (LoopTargetShape OneName n) p) h = refl
one_name_target_is_a_loop_target e h = no_fit h

some_names_target_is_a_loop_target : (e : Entry) → fits SomeNamesTarget e ≡ true → fits ALoopTarget e ≡ true
some_names_target_is_a_loop_target (entry (LoopTargetShape SomeNames true) p) h = refl
some_names_target_is_a_loop_target e h = no_fit h

targets_expr_is_an_expr : (e : Entry) → fits TargetsExpr e ≡ true → fits AnExpr e ≡ true
targets_expr_is_an_expr (entry (ExprShape f n) p) h = refl
targets_expr_is_an_expr e h = no_fit h

pub of_kind : (k l : Kind) (e : Entry) → is_kind_of k l ≡ true → fits k e ≡ true → fits l e ≡ true
of_kind AToken AToken e h f = f
of_kind ANameToken ANameToken e h f = f
of_kind ALiteralToken ALiteralToken e h f = f
of_kind AnExpr AnExpr e h f = f
of_kind ANameExpr ANameExpr e h f = f
of_kind ATarget ATarget e h f = f
of_kind TargetsExpr TargetsExpr e h f = f
of_kind ASubscript ASubscript e h f = f
of_kind ATuple ATuple e h f = f
of_kind AComprehension AComprehension e h f = f
of_kind ADict ADict e h f = f
of_kind ACall ACall e h f = f
of_kind AnyCall AnyCall e h f = f
of_kind AnOpenSlice AnOpenSlice e h f = f
of_kind ACompare ACompare e h f = f
of_kind AnAnd AnAnd e h f = f
of_kind AnOr AnOr e h f = f
of_kind ASign ASign e h f = f
of_kind ALoop ALoop e h f = f
of_kind ALoopTarget ALoopTarget e h f = f
of_kind OneNameTarget OneNameTarget e h f = f
of_kind SomeNamesTarget SomeNamesTarget e h f = f
of_kind TheTargets TheTargets e h f = f
of_kind AClass AClass e h f = f
of_kind ABareClass ABareClass e h f = f
of_kind AStmt AStmt e h f = f
of_kind AGlobal AGlobal e h f = f
of_kind ATry ATry e h f = f
of_kind ADef ADef e h f = f
of_kind AClassStmt AClassStmt e h f = f
of_kind ABody ABody e h f = f
of_kind AFilledBody AFilledBody e h f = f
of_kind ABareClass AClass e h f = a_bare_class_is_a_class e f
of_kind ACall AnExpr e h f = a_call_is_an_expr e f
of_kind ACall AnyCall e h f = a_call_is_any_call e f
of_kind AClassStmt AStmt e h f = a_class_stmt_is_a_stmt e f
of_kind ACompare AnExpr e h f = a_compare_is_an_expr e f
of_kind AComprehension AnExpr e h f = a_comprehension_is_an_expr e f
of_kind ADef AStmt e h f = a_def_is_a_stmt e f
of_kind ADict AnExpr e h f = a_dict_is_an_expr e f
of_kind AFilledBody ABody e h f = a_filled_body_is_a_body e f
of_kind AGlobal AStmt e h f = a_global_is_a_stmt e f
of_kind ALiteralToken AToken e h f = a_literal_token_is_a_token e f
of_kind ANameExpr AnExpr e h f = a_name_expr_is_an_expr e f
of_kind ANameToken AToken e h f = a_name_token_is_a_token e f
of_kind ASubscript AnExpr e h f = a_subscript_is_an_expr e f
of_kind ATarget AnExpr e h f = a_target_is_an_expr e f
of_kind ATry AStmt e h f = a_try_is_a_stmt e f
of_kind ATuple AnExpr e h f = a_tuple_is_an_expr e f
of_kind AnAnd AnExpr e h f = an_and_is_an_expr e f
of_kind AnOpenSlice AnExpr e h f = an_open_slice_is_an_expr e f
of_kind AnOr AnExpr e h f = an_or_is_an_expr e f
of_kind AnyCall AnExpr e h f = any_call_is_an_expr e f
of_kind OneNameTarget ALoopTarget e h f = one_name_target_is_a_loop_target e f
of_kind SomeNamesTarget ALoopTarget e h f = some_names_target_is_a_loop_target e f
of_kind TargetsExpr AnExpr e h f = targets_expr_is_an_expr e f
of_kind k l e h f = no_fit h
