-- Each action leaves parts that begin with a node.
use Rattle.std.proofs.Common.{◌≡◌, ◌≤◌, Bool, List, [], ◌∷◌, ◌++◌, Option, Some, None, refl, arith}
use Rattle.py_tokens.specs.Token.{Place}
use Rattle.py_syntax.specs.Token.{TName, TNumber, TText, At}
use Rattle.py_syntax.specs.Tree.{BareClass, BinaryOperator, ComparisonOperator, EAnd, ECall, ECompare, EDict, EListComprehension, EName, EOr, ESlice, ESubscript, ETuple, Expr, Exprs, LoopName, LoopNames, SClass, SDef, SGlobal, STry, Target, Targets, UnaryOperator, more_exprs, no_expr, no_exprs}
use Rattle.py_syntax.specs.Build.{PToken, PExpr, PSign, PLoop, PLoopTarget, PTargets, PClass, PStmt, PBody, Parts, Action, act, with_expr, target_of, targets_of, targets_found, more_targets_found, target_found, Drop, MakeLeaf, MakeTrue, MakeFalse, MakeNone, MakeEmptyTuple, MakeParenthesis, MakeTuple, AddItem, MakeEmptyList, MakeListOfOne, MakeList, BeginComprehension, BeginLoop, AddCondition, AddLoop, MakeEmptyDict, BeginDict, AddPair, MakeSetOfOne, MakeSet, MakeAttribute, BeginCall, AddArgument, AddKeyword, MakeSubscript, MakeSliceFrom, MakeSlice, AddUpper, MakeUnary, MakeBinary, MakeSign, MakeLongSign, MakeCompare, AddLink, MakeNot, MakeAnd, AddAnd, MakeOr, AddOr, MakeConditional, MakeLoopName, MakeLoopNames, AddLoopName, MakeLoopParenthesis, BeginBody, AddStmt, MakeExprStmt, MakeTargets, AddTargets, MakeAssign, MakeAugmented, MakePass, MakeBreak, MakeContinue, MakeReturn, MakeReturnValue, MakeRaise, MakeYield, BeginGlobal, AddGlobal, MakeAssert, MakeAssertMessage, MakeDelete, MakeIf, MakeElif, MakeElse, MakeWhile, MakeFor, BeginTry, CatchAll, Catch, CatchAs, MakeClassName, MakeClassWithin, BeginDef, AddParameter, AddDefault, EndDef, BeginClass, AddBase, EndClass, BeginImport, BeginFrom, AddImported, AddImportedAs, add_and, add_argument, add_base, add_condition, add_default, add_global, add_imported, add_imported_as, add_item, add_keyword, add_link, add_loop, add_loop_name, add_or, add_pair, add_parameter, add_stmt, add_targets, add_upper, begin_body, begin_call, begin_class, begin_comprehension, begin_def, begin_dict, begin_from, begin_global, begin_import, begin_loop, begin_try, catch, catch_all, catch_as, drop, end_class, end_def, make_and, make_assert, make_assert_message, make_assign, make_attribute, make_augmented, make_binary, make_break, make_class_name, make_class_within, make_compare, make_conditional, make_continue, make_delete, make_elif, make_else, make_empty_dict, make_empty_list, make_empty_tuple, make_expr_stmt, make_false, make_for, make_if, make_leaf, make_list, make_list_of_one, make_long_sign, make_loop_name, make_loop_names, make_loop_parenthesis, make_none, make_not, make_or, make_parenthesis, make_pass, make_raise, make_return, make_return_value, make_set, make_set_of_one, make_sign, make_slice, make_slice_from, make_subscript, make_targets, make_true, make_tuple, make_unary, make_while, make_yield}
use Rattle.py_nesting.specs.Outlines.{outline_depth, outlines_depth}
use Rattle.py_nesting.specs.TreeOutlines.{targets_outline, assigned_outlines}
use Rattle.py_fronts.specs.Begins.{TargetsBegin, PartBegins, Begin}
use Rattle.py_fronts.proofs.TreesBegin.{targets_begin}

tuple_begins : (p : Place) (es : Exprs) (e : Expr) → PartBegins (PExpr (ETuple p (with_expr es e)))
tuple_begins p no_exprs e = tt
tuple_begins p (more_exprs first es) e = tt

assigned_more : (at : Place → Bool) (ts : List Targets) (t : Targets) → outlines_depth at (assigned_outlines ts) ≤ outlines_depth at (assigned_outlines (ts ++ t ∷ []))
assigned_more at [] t = omega arith
assigned_more at (first ∷ ts) t = let h : outlines_depth at (assigned_outlines ts) ≤ outlines_depth at (assigned_outlines (ts ++ t ∷ [])) = assigned_more at ts t in omega arith

found_begin : (e : Expr) (o : Option Targets) (v : Parts) → targets_of e ≡ o → PartBegins (PExpr e) → Begin v → Begin (targets_found e o v)
found_begin e None v f b h = h
found_begin e (Some t) v f b h = ((λ at q. (let l : 1 ≤ outline_depth at (targets_outline t) = targets_begin at e t b f q in omega arith)), h)

more_begin : (e : Expr) (p : Place) (ts : List Targets) (o : Option Targets) (v : Parts) → TargetsBegin p ts → Begin v → Begin (more_targets_found e p ts o v)
more_begin e p ts None v b h = h
more_begin e p ts (Some t) v b h = ((λ at q. (let l : 1 ≤ outlines_depth at (assigned_outlines ts) = b at q in let m = assigned_more at ts t in omega arith)), h)

augmented_begin : (o : BinaryOperator) (a e : Expr) (r : Option Target) (v : Parts) → Begin v → Begin (target_found o a e r v)
augmented_begin o a e None v h = h
augmented_begin o a e (Some t) v h = (tt, h)

kept_make_targets : (v : Parts) → Begin v → Begin (make_targets v)
kept_make_targets (PToken equals ∷ PExpr e ∷ v) h = found_begin e (targets_of e) v refl h.1.0 h.1.1
kept_make_targets v h = h

kept_add_targets : (v : Parts) → Begin v → Begin (add_targets v)
kept_add_targets (PToken equals ∷ PExpr e ∷ PTargets p ts ∷ v) h = more_begin e p ts (targets_of e) v h.1.1.0 h.1.1.1
kept_add_targets v h = h

kept_make_augmented : (o : BinaryOperator) (v : Parts) → Begin v → Begin (make_augmented o v)
kept_make_augmented o (PExpr e ∷ PToken t ∷ PExpr a ∷ v) h = augmented_begin o a e (target_of a) v h.1.1.1
kept_make_augmented o v h = h

kept_drop : (v : Parts) → Begin v → Begin (drop v)
kept_drop (PToken t ∷ v) h = h.1
kept_drop v h = h

kept_make_leaf : (v : Parts) → Begin v → Begin (make_leaf v)
kept_make_leaf (PToken (At p (TName a x)) ∷ v) h = (tt, h.1)
kept_make_leaf (PToken (At p (TNumber n)) ∷ v) h = (tt, h.1)
kept_make_leaf (PToken (At p (TText t)) ∷ v) h = (tt, h.1)
kept_make_leaf v h = h

kept_make_true : (v : Parts) → Begin v → Begin (make_true v)
kept_make_true (PToken (At p k) ∷ v) h = (tt, h.1)
kept_make_true v h = h

kept_make_false : (v : Parts) → Begin v → Begin (make_false v)
kept_make_false (PToken (At p k) ∷ v) h = (tt, h.1)
kept_make_false v h = h

kept_make_none : (v : Parts) → Begin v → Begin (make_none v)
kept_make_none (PToken (At p k) ∷ v) h = (tt, h.1)
kept_make_none v h = h

kept_make_empty_tuple : (v : Parts) → Begin v → Begin (make_empty_tuple v)
kept_make_empty_tuple (PToken close ∷ PToken (At p k) ∷ v) h = (tt, h.1.1)
kept_make_empty_tuple v h = h

kept_make_parenthesis : (v : Parts) → Begin v → Begin (make_parenthesis v)
kept_make_parenthesis (PToken close ∷ PExpr e ∷ PToken (At p k) ∷ v) h = (tt, h.1.1.1)
kept_make_parenthesis v h = h

kept_make_tuple : (v : Parts) → Begin v → Begin (make_tuple v)
kept_make_tuple (PToken (At p k) ∷ PExpr e ∷ v) h = (tt, h.1.1)
kept_make_tuple v h = h

kept_add_item : (v : Parts) → Begin v → Begin (add_item v)
kept_add_item (PExpr e ∷ PExpr (ETuple p es) ∷ v) h = (tuple_begins p es e, h.1.1)
kept_add_item v h = h

kept_make_empty_list : (v : Parts) → Begin v → Begin (make_empty_list v)
kept_make_empty_list (PToken close ∷ PToken (At p k) ∷ v) h = (tt, h.1.1)
kept_make_empty_list v h = h

kept_make_list_of_one : (v : Parts) → Begin v → Begin (make_list_of_one v)
kept_make_list_of_one (PToken close ∷ PExpr e ∷ PToken (At p k) ∷ v) h = (tt, h.1.1.1)
kept_make_list_of_one v h = h

kept_make_list : (v : Parts) → Begin v → Begin (make_list v)
kept_make_list (PToken close ∷ PExpr (ETuple c es) ∷ PToken (At p k) ∷ v) h = (tt, h.1.1.1)
kept_make_list v h = h

kept_begin_comprehension : (v : Parts) → Begin v → Begin (begin_comprehension v)
kept_begin_comprehension (PExpr e ∷ PToken (At p k) ∷ v) h = (tt, h.1.1)
kept_begin_comprehension v h = h

kept_begin_loop : (v : Parts) → Begin v → Begin (begin_loop v)
kept_begin_loop (PExpr i ∷ PToken in_word ∷ PLoopTarget t ∷ PToken (At p k) ∷ v) h = (tt, h.1.1.1.1)
kept_begin_loop v h = h

kept_add_condition : (v : Parts) → Begin v → Begin (add_condition v)
kept_add_condition (PExpr e ∷ PToken if_word ∷ PLoop p t i cs ∷ v) h = (tt, h.1.1.1)
kept_add_condition v h = h

kept_add_loop : (v : Parts) → Begin v → Begin (add_loop v)
kept_add_loop (PLoop q t i cs ∷ PExpr (EListComprehension p e loops) ∷ v) h = (tt, h.1.1)
kept_add_loop v h = h

kept_make_empty_dict : (v : Parts) → Begin v → Begin (make_empty_dict v)
kept_make_empty_dict (PToken close ∷ PToken (At p k) ∷ v) h = (tt, h.1.1)
kept_make_empty_dict v h = h

kept_begin_dict : (v : Parts) → Begin v → Begin (begin_dict v)
kept_begin_dict (PExpr e ∷ PToken colon ∷ PExpr k ∷ PToken (At p b) ∷ v) h = (tt, h.1.1.1.1)
kept_begin_dict v h = h

kept_add_pair : (v : Parts) → Begin v → Begin (add_pair v)
kept_add_pair (PExpr e ∷ PToken colon ∷ PExpr k ∷ PExpr (EDict p pairs) ∷ v) h = (tt, h.1.1.1.1)
kept_add_pair v h = h

kept_make_set_of_one : (v : Parts) → Begin v → Begin (make_set_of_one v)
kept_make_set_of_one (PToken close ∷ PExpr e ∷ PToken (At p k) ∷ v) h = (tt, h.1.1.1)
kept_make_set_of_one v h = h

kept_make_set : (v : Parts) → Begin v → Begin (make_set v)
kept_make_set (PToken close ∷ PExpr (ETuple c es) ∷ PToken (At p k) ∷ v) h = (tt, h.1.1.1)
kept_make_set v h = h

kept_make_attribute : (v : Parts) → Begin v → Begin (make_attribute v)
kept_make_attribute (PToken (At q (TName a x)) ∷ PToken (At p k) ∷ PExpr e ∷ v) h = (tt, h.1.1.1)
kept_make_attribute v h = h

kept_begin_call : (v : Parts) → Begin v → Begin (begin_call v)
kept_begin_call (PToken (At p k) ∷ PExpr e ∷ v) h = (tt, h.1.1)
kept_begin_call v h = h

kept_add_argument : (v : Parts) → Begin v → Begin (add_argument v)
kept_add_argument (PExpr e ∷ PExpr (ECall p f es ks) ∷ v) h = (tt, h.1.1)
kept_add_argument v h = h

kept_add_keyword : (v : Parts) → Begin v → Begin (add_keyword v)
kept_add_keyword (PExpr e ∷ PToken equals ∷ PExpr (EName q x) ∷ PExpr (ECall p f es ks) ∷ v) h = (tt, h.1.1.1.1)
kept_add_keyword v h = h

kept_make_subscript : (v : Parts) → Begin v → Begin (make_subscript v)
kept_make_subscript (PToken close ∷ PExpr i ∷ PToken (At p k) ∷ PExpr e ∷ v) h = (tt, h.1.1.1.1)
kept_make_subscript v h = h

kept_make_slice_from : (v : Parts) → Begin v → Begin (make_slice_from v)
kept_make_slice_from (PToken colon ∷ PExpr l ∷ PToken (At p k) ∷ PExpr e ∷ v) h = (tt, h.1.1.1.1)
kept_make_slice_from v h = h

kept_make_slice : (v : Parts) → Begin v → Begin (make_slice v)
kept_make_slice (PToken colon ∷ PToken (At p k) ∷ PExpr e ∷ v) h = (tt, h.1.1.1)
kept_make_slice v h = h

kept_add_upper : (v : Parts) → Begin v → Begin (add_upper v)
kept_add_upper (PToken close ∷ PExpr u ∷ PExpr (ESlice p e l no_expr) ∷ v) h = (tt, h.1.1.1)
kept_add_upper v h = h

kept_make_unary : (o : UnaryOperator) (v : Parts) → Begin v → Begin (make_unary o v)
kept_make_unary o (PExpr e ∷ PToken (At p k) ∷ v) h = (tt, h.1.1)
kept_make_unary o v h = h

kept_make_binary : (o : BinaryOperator) (v : Parts) → Begin v → Begin (make_binary o v)
kept_make_binary o (PExpr b ∷ PToken (At p k) ∷ PExpr a ∷ v) h = (tt, h.1.1.1)
kept_make_binary o v h = h

kept_make_sign : (o : ComparisonOperator) (v : Parts) → Begin v → Begin (make_sign o v)
kept_make_sign o (PToken (At p k) ∷ v) h = (tt, h.1)
kept_make_sign o v h = h

kept_make_long_sign : (o : ComparisonOperator) (v : Parts) → Begin v → Begin (make_long_sign o v)
kept_make_long_sign o (PToken second ∷ PToken (At p k) ∷ v) h = (tt, h.1.1)
kept_make_long_sign o v h = h

kept_make_compare : (v : Parts) → Begin v → Begin (make_compare v)
kept_make_compare (PExpr b ∷ PSign p o ∷ PExpr a ∷ v) h = (tt, h.1.1.1)
kept_make_compare v h = h

kept_add_link : (v : Parts) → Begin v → Begin (add_link v)
kept_add_link (PExpr e ∷ PSign q u ∷ PExpr (ECompare p o a b links) ∷ v) h = (tt, h.1.1.1)
kept_add_link v h = h

kept_make_not : (v : Parts) → Begin v → Begin (make_not v)
kept_make_not (PExpr e ∷ PToken (At p k) ∷ v) h = (tt, h.1.1)
kept_make_not v h = h

kept_make_and : (v : Parts) → Begin v → Begin (make_and v)
kept_make_and (PExpr b ∷ PToken (At p k) ∷ PExpr a ∷ v) h = (tt, h.1.1.1)
kept_make_and v h = h

kept_add_and : (v : Parts) → Begin v → Begin (add_and v)
kept_add_and (PExpr e ∷ PToken and_word ∷ PExpr (EAnd p a b es) ∷ v) h = (tt, h.1.1.1)
kept_add_and v h = h

kept_make_or : (v : Parts) → Begin v → Begin (make_or v)
kept_make_or (PExpr b ∷ PToken (At p k) ∷ PExpr a ∷ v) h = (tt, h.1.1.1)
kept_make_or v h = h

kept_add_or : (v : Parts) → Begin v → Begin (add_or v)
kept_add_or (PExpr e ∷ PToken or_word ∷ PExpr (EOr p a b es) ∷ v) h = (tt, h.1.1.1)
kept_add_or v h = h

kept_make_conditional : (v : Parts) → Begin v → Begin (make_conditional v)
kept_make_conditional (PExpr b ∷ PToken else_word ∷ PExpr t ∷ PToken (At p k) ∷ PExpr a ∷ v) h = (tt, h.1.1.1.1.1)
kept_make_conditional v h = h

kept_make_loop_name : (v : Parts) → Begin v → Begin (make_loop_name v)
kept_make_loop_name (PToken (At q (TName a x)) ∷ v) h = (tt, h.1)
kept_make_loop_name v h = h

kept_make_loop_names : (v : Parts) → Begin v → Begin (make_loop_names v)
kept_make_loop_names (PToken (At p k) ∷ PLoopTarget (LoopName x) ∷ v) h = (tt, h.1.1)
kept_make_loop_names v h = h

kept_add_loop_name : (v : Parts) → Begin v → Begin (add_loop_name v)
kept_add_loop_name (PToken (At q (TName a x)) ∷ PLoopTarget (LoopNames p xs) ∷ v) h = (tt, h.1.1)
kept_add_loop_name v h = h

kept_make_loop_parenthesis : (v : Parts) → Begin v → Begin (make_loop_parenthesis v)
kept_make_loop_parenthesis (PToken close ∷ PLoopTarget t ∷ PToken (At p k) ∷ v) h = (tt, h.1.1.1)
kept_make_loop_parenthesis v h = h

kept_begin_body : (v : Parts) → Begin v → Begin (begin_body v)
kept_begin_body v h = (tt, h)

kept_add_stmt : (v : Parts) → Begin v → Begin (add_stmt v)
kept_add_stmt (PStmt s ∷ PBody b ∷ v) h = (tt, h.1.1)
kept_add_stmt v h = h

kept_make_expr_stmt : (v : Parts) → Begin v → Begin (make_expr_stmt v)
kept_make_expr_stmt (PExpr e ∷ v) h = (tt, h.1)
kept_make_expr_stmt v h = h

kept_make_assign : (v : Parts) → Begin v → Begin (make_assign v)
kept_make_assign (PExpr e ∷ PTargets p ts ∷ v) h = (tt, h.1.1)
kept_make_assign v h = h

kept_make_pass : (v : Parts) → Begin v → Begin (make_pass v)
kept_make_pass (PToken (At p k) ∷ v) h = (tt, h.1)
kept_make_pass v h = h

kept_make_break : (v : Parts) → Begin v → Begin (make_break v)
kept_make_break (PToken (At p k) ∷ v) h = (tt, h.1)
kept_make_break v h = h

kept_make_continue : (v : Parts) → Begin v → Begin (make_continue v)
kept_make_continue (PToken (At p k) ∷ v) h = (tt, h.1)
kept_make_continue v h = h

kept_make_return : (v : Parts) → Begin v → Begin (make_return v)
kept_make_return (PToken (At p k) ∷ v) h = (tt, h.1)
kept_make_return v h = h

kept_make_return_value : (v : Parts) → Begin v → Begin (make_return_value v)
kept_make_return_value (PExpr e ∷ PToken (At p k) ∷ v) h = (tt, h.1.1)
kept_make_return_value v h = h

kept_make_raise : (v : Parts) → Begin v → Begin (make_raise v)
kept_make_raise (PExpr e ∷ PToken (At p k) ∷ v) h = (tt, h.1.1)
kept_make_raise v h = h

kept_make_yield : (v : Parts) → Begin v → Begin (make_yield v)
kept_make_yield (PExpr e ∷ PToken (At p k) ∷ v) h = (tt, h.1.1)
kept_make_yield v h = h

kept_begin_global : (v : Parts) → Begin v → Begin (begin_global v)
kept_begin_global (PToken (At p k) ∷ v) h = (tt, h.1)
kept_begin_global v h = h

kept_add_global : (v : Parts) → Begin v → Begin (add_global v)
kept_add_global (PToken (At q (TName a x)) ∷ PStmt (SGlobal p xs) ∷ v) h = (tt, h.1.1)
kept_add_global v h = h

kept_make_assert : (v : Parts) → Begin v → Begin (make_assert v)
kept_make_assert (PExpr e ∷ PToken (At p k) ∷ v) h = (tt, h.1.1)
kept_make_assert v h = h

kept_make_assert_message : (v : Parts) → Begin v → Begin (make_assert_message v)
kept_make_assert_message (PExpr m ∷ PToken comma ∷ PExpr e ∷ PToken (At p k) ∷ v) h = (tt, h.1.1.1.1)
kept_make_assert_message v h = h

kept_make_delete : (v : Parts) → Begin v → Begin (make_delete v)
kept_make_delete (PExpr (ESubscript q e i) ∷ PToken (At p k) ∷ v) h = (tt, h.1.1)
kept_make_delete v h = h

kept_make_if : (v : Parts) → Begin v → Begin (make_if v)
kept_make_if (PBody other ∷ PBody b ∷ PToken colon ∷ PExpr e ∷ PToken (At p k) ∷ v) h = (tt, h.1.1.1.1.1)
kept_make_if v h = h

kept_make_elif : (v : Parts) → Begin v → Begin (make_elif v)
kept_make_elif (PBody other ∷ PBody b ∷ PToken colon ∷ PExpr e ∷ PToken (At p k) ∷ v) h = (tt, h.1.1.1.1.1)
kept_make_elif v h = h

kept_make_else : (v : Parts) → Begin v → Begin (make_else v)
kept_make_else (PBody b ∷ PToken colon ∷ PToken else_word ∷ v) h = (tt, h.1.1.1)
kept_make_else v h = h

kept_make_while : (v : Parts) → Begin v → Begin (make_while v)
kept_make_while (PBody b ∷ PToken colon ∷ PExpr e ∷ PToken (At p k) ∷ v) h = (tt, h.1.1.1.1)
kept_make_while v h = h

kept_make_for : (v : Parts) → Begin v → Begin (make_for v)
kept_make_for (PBody b ∷ PToken colon ∷ PExpr e ∷ PToken in_word ∷ PLoopTarget t ∷ PToken (At p k) ∷ v) h = (tt, h.1.1.1.1.1.1)
kept_make_for v h = h

kept_begin_try : (v : Parts) → Begin v → Begin (begin_try v)
kept_begin_try (PBody b ∷ PToken colon ∷ PToken (At p k) ∷ v) h = (tt, h.1.1.1)
kept_begin_try v h = h

kept_catch_all : (v : Parts) → Begin v → Begin (catch_all v)
kept_catch_all (PBody b ∷ PToken colon ∷ PToken (At q k) ∷ PStmt (STry p body hs) ∷ v) h = (tt, h.1.1.1.1)
kept_catch_all v h = h

kept_catch : (v : Parts) → Begin v → Begin (catch v)
kept_catch (PBody b ∷ PToken colon ∷ PClass c ∷ PToken (At q k) ∷ PStmt (STry p body hs) ∷ v) h = (tt, h.1.1.1.1.1)
kept_catch v h = h

kept_catch_as : (v : Parts) → Begin v → Begin (catch_as v)
kept_catch_as (PBody b ∷ PToken colon ∷ PToken (At r (TName a x)) ∷ PToken as_word ∷ PClass c ∷ PToken (At q k) ∷ PStmt (STry p body hs) ∷ v) h = (tt, h.1.1.1.1.1.1.1)
kept_catch_as v h = h

kept_make_class_name : (v : Parts) → Begin v → Begin (make_class_name v)
kept_make_class_name (PToken (At q (TName a x)) ∷ v) h = (tt, h.1)
kept_make_class_name v h = h

kept_make_class_within : (v : Parts) → Begin v → Begin (make_class_within v)
kept_make_class_within (PToken (At q (TName a x)) ∷ PToken dot ∷ PClass (BareClass m) ∷ v) h = (tt, h.1.1.1)
kept_make_class_within v h = h

kept_begin_def : (v : Parts) → Begin v → Begin (begin_def v)
kept_begin_def (PToken opening ∷ PToken (At q (TName a x)) ∷ PToken (At p k) ∷ v) h = (tt, h.1.1.1)
kept_begin_def v h = h

kept_add_parameter : (v : Parts) → Begin v → Begin (add_parameter v)
kept_add_parameter (PToken (At q (TName a x)) ∷ PStmt (SDef p f xs b) ∷ v) h = (tt, h.1.1)
kept_add_parameter v h = h

kept_add_default : (v : Parts) → Begin v → Begin (add_default v)
kept_add_default (PExpr e ∷ PToken equals ∷ PToken (At q (TName a x)) ∷ PStmt (SDef p f xs b) ∷ v) h = (tt, h.1.1.1.1)
kept_add_default v h = h

kept_end_def : (v : Parts) → Begin v → Begin (end_def v)
kept_end_def (PBody b ∷ PToken colon ∷ PToken close ∷ PStmt (SDef p f xs body) ∷ v) h = (tt, h.1.1.1.1)
kept_end_def v h = h

kept_begin_class : (v : Parts) → Begin v → Begin (begin_class v)
kept_begin_class (PToken (At q (TName a x)) ∷ PToken (At p k) ∷ v) h = (tt, h.1.1)
kept_begin_class v h = h

kept_add_base : (v : Parts) → Begin v → Begin (add_base v)
kept_add_base (PToken close ∷ PClass c ∷ PToken opening ∷ PStmt (SClass p x base b) ∷ v) h = (tt, h.1.1.1.1)
kept_add_base v h = h

kept_end_class : (v : Parts) → Begin v → Begin (end_class v)
kept_end_class (PBody b ∷ PToken colon ∷ PStmt (SClass p x base body) ∷ v) h = (tt, h.1.1.1)
kept_end_class v h = h

kept_begin_import : (v : Parts) → Begin v → Begin (begin_import v)
kept_begin_import (PToken (At p k) ∷ v) h = (tt, h.1)
kept_begin_import v h = h

kept_begin_from : (v : Parts) → Begin v → Begin (begin_from v)
kept_begin_from (PToken import_word ∷ PToken (At q (TName a x)) ∷ PToken (At p k) ∷ v) h = (tt, h.1.1.1)
kept_begin_from v h = h

kept_add_imported : (v : Parts) → Begin v → Begin (add_imported v)
kept_add_imported (PToken (At q (TName a x)) ∷ PStmt s ∷ v) h = (tt, h.1.1)
kept_add_imported v h = h

kept_add_imported_as : (v : Parts) → Begin v → Begin (add_imported_as v)
kept_add_imported_as (PToken (At r (TName b y)) ∷ PToken as_word ∷ PToken (At q (TName a x)) ∷ PStmt s ∷ v) h = (tt, h.1.1.1.1)
kept_add_imported_as v h = h

pub parts_begin : (a : Action) (v : Parts) → Begin v → Begin (act a v)
parts_begin Drop v h = kept_drop v h
parts_begin MakeLeaf v h = kept_make_leaf v h
parts_begin MakeTrue v h = kept_make_true v h
parts_begin MakeFalse v h = kept_make_false v h
parts_begin MakeNone v h = kept_make_none v h
parts_begin MakeEmptyTuple v h = kept_make_empty_tuple v h
parts_begin MakeParenthesis v h = kept_make_parenthesis v h
parts_begin MakeTuple v h = kept_make_tuple v h
parts_begin AddItem v h = kept_add_item v h
parts_begin MakeEmptyList v h = kept_make_empty_list v h
parts_begin MakeListOfOne v h = kept_make_list_of_one v h
parts_begin MakeList v h = kept_make_list v h
parts_begin BeginComprehension v h = kept_begin_comprehension v h
parts_begin BeginLoop v h = kept_begin_loop v h
parts_begin AddCondition v h = kept_add_condition v h
parts_begin AddLoop v h = kept_add_loop v h
parts_begin MakeEmptyDict v h = kept_make_empty_dict v h
parts_begin BeginDict v h = kept_begin_dict v h
parts_begin AddPair v h = kept_add_pair v h
parts_begin MakeSetOfOne v h = kept_make_set_of_one v h
parts_begin MakeSet v h = kept_make_set v h
parts_begin MakeAttribute v h = kept_make_attribute v h
parts_begin BeginCall v h = kept_begin_call v h
parts_begin AddArgument v h = kept_add_argument v h
parts_begin AddKeyword v h = kept_add_keyword v h
parts_begin MakeSubscript v h = kept_make_subscript v h
parts_begin MakeSliceFrom v h = kept_make_slice_from v h
parts_begin MakeSlice v h = kept_make_slice v h
parts_begin AddUpper v h = kept_add_upper v h
parts_begin (MakeUnary o) v h = kept_make_unary o v h
parts_begin (MakeBinary o) v h = kept_make_binary o v h
parts_begin (MakeSign o) v h = kept_make_sign o v h
parts_begin (MakeLongSign o) v h = kept_make_long_sign o v h
parts_begin MakeCompare v h = kept_make_compare v h
parts_begin AddLink v h = kept_add_link v h
parts_begin MakeNot v h = kept_make_not v h
parts_begin MakeAnd v h = kept_make_and v h
parts_begin AddAnd v h = kept_add_and v h
parts_begin MakeOr v h = kept_make_or v h
parts_begin AddOr v h = kept_add_or v h
parts_begin MakeConditional v h = kept_make_conditional v h
parts_begin MakeLoopName v h = kept_make_loop_name v h
parts_begin MakeLoopNames v h = kept_make_loop_names v h
parts_begin AddLoopName v h = kept_add_loop_name v h
parts_begin MakeLoopParenthesis v h = kept_make_loop_parenthesis v h
parts_begin BeginBody v h = kept_begin_body v h
parts_begin AddStmt v h = kept_add_stmt v h
parts_begin MakeExprStmt v h = kept_make_expr_stmt v h
parts_begin MakeTargets v h = kept_make_targets v h
parts_begin AddTargets v h = kept_add_targets v h
parts_begin MakeAssign v h = kept_make_assign v h
parts_begin (MakeAugmented o) v h = kept_make_augmented o v h
parts_begin MakePass v h = kept_make_pass v h
parts_begin MakeBreak v h = kept_make_break v h
parts_begin MakeContinue v h = kept_make_continue v h
parts_begin MakeReturn v h = kept_make_return v h
parts_begin MakeReturnValue v h = kept_make_return_value v h
parts_begin MakeRaise v h = kept_make_raise v h
parts_begin MakeYield v h = kept_make_yield v h
parts_begin BeginGlobal v h = kept_begin_global v h
parts_begin AddGlobal v h = kept_add_global v h
parts_begin MakeAssert v h = kept_make_assert v h
parts_begin MakeAssertMessage v h = kept_make_assert_message v h
parts_begin MakeDelete v h = kept_make_delete v h
parts_begin MakeIf v h = kept_make_if v h
parts_begin MakeElif v h = kept_make_elif v h
parts_begin MakeElse v h = kept_make_else v h
parts_begin MakeWhile v h = kept_make_while v h
parts_begin MakeFor v h = kept_make_for v h
parts_begin BeginTry v h = kept_begin_try v h
parts_begin CatchAll v h = kept_catch_all v h
parts_begin Catch v h = kept_catch v h
parts_begin CatchAs v h = kept_catch_as v h
parts_begin MakeClassName v h = kept_make_class_name v h
parts_begin MakeClassWithin v h = kept_make_class_within v h
parts_begin BeginDef v h = kept_begin_def v h
parts_begin AddParameter v h = kept_add_parameter v h
parts_begin AddDefault v h = kept_add_default v h
parts_begin EndDef v h = kept_end_def v h
parts_begin BeginClass v h = kept_begin_class v h
parts_begin AddBase v h = kept_add_base v h
parts_begin EndClass v h = kept_end_class v h
parts_begin BeginImport v h = kept_begin_import v h
parts_begin BeginFrom v h = kept_begin_from v h
parts_begin AddImported v h = kept_add_imported v h
parts_begin AddImportedAs v h = kept_add_imported_as v h
