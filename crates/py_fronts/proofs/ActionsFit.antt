-- Where an action finds parts of the kinds that it takes, it has an effect, and leaves parts of the kinds that it is said to leave.
use Rattle.std.proofs.Common.{◌≡◌, Bool, true, false, ◌&&◌, if◌then◌else◌, List, [], ◌∷◌, ◌++◌, Option, Some, None, refl}
use Rattle.py_syntax.specs.Build.{Action, Drop, MakeLeaf, MakeTrue, MakeFalse, MakeNone, MakeEmptyTuple, MakeParenthesis, MakeTuple, AddItem, MakeEmptyList, MakeListOfOne, MakeList, BeginComprehension, BeginLoop, AddCondition, AddLoop, MakeEmptyDict, BeginDict, AddPair, MakeSetOfOne, MakeSet, MakeAttribute, BeginCall, AddArgument, AddKeyword, MakeSubscript, MakeSliceFrom, MakeSlice, AddUpper, MakeUnary, MakeBinary, MakeSign, MakeLongSign, MakeCompare, AddLink, MakeNot, MakeAnd, AddAnd, MakeOr, AddOr, MakeConditional, MakeLoopName, MakeLoopNames, AddLoopName, MakeLoopParenthesis, BeginBody, AddStmt, MakeExprStmt, MakeTargets, AddTargets, MakeAssign, MakeAugmented, MakePass, MakeBreak, MakeContinue, MakeReturn, MakeReturnValue, MakeRaise, MakeYield, BeginGlobal, AddGlobal, MakeAssert, MakeAssertMessage, MakeDelete, MakeIf, MakeElif, MakeElse, MakeWhile, MakeFor, BeginTry, CatchAll, Catch, CatchAs, MakeClassName, MakeClassWithin, BeginDef, AddParameter, AddDefault, EndDef, BeginClass, AddBase, EndClass, BeginImport, BeginFrom, AddImported, AddImportedAs}
use Rattle.py_nesting.specs.Forms.{NameToken, LiteralToken, NameForm, SubscriptForm, TupleForm, ComprehensionForm, DictForm, CallForm, SliceForm, CompareForm, AndForm, OrForm, OtherForm, OneName, SomeNames, BareName, GlobalStmt, TryStmt, DefStmt, ClassStmt, OtherStmt, is_target, are_targets}
use Rattle.py_nesting.specs.Outlines.{Plain, Over, Gather, JoinGroup, Assign}
use Rattle.py_nesting.specs.Shapes.{TokenShape, ExprShape, SignShape, LoopShape, LoopTargetShape, TargetsShape, ClassShape, StmtShape, BodyShape, nowhere, Entry, entry}
use Rattle.py_nesting.specs.Effects.{Effect, effect, effect_of, effect_add_and, effect_add_argument, effect_add_base, effect_add_condition, effect_add_default, effect_add_global, effect_add_imported, effect_add_imported_as, effect_add_item, effect_add_keyword, effect_add_link, effect_add_loop, effect_add_loop_name, effect_add_or, effect_add_pair, effect_add_parameter, effect_add_stmt, effect_add_targets, effect_add_upper, effect_begin_body, effect_begin_call, effect_begin_class, effect_begin_comprehension, effect_begin_def, effect_begin_dict, effect_begin_from, effect_begin_global, effect_begin_loop, effect_begin_try, effect_bracket, effect_catch, effect_catch_all, effect_catch_as, effect_constant, effect_drop, effect_end_class, effect_end_def, effect_infix, effect_make_assert_message, effect_make_assign, effect_make_attribute, effect_make_augmented, effect_make_class_name, effect_make_class_within, effect_make_compare, effect_make_conditional, effect_make_delete, effect_make_elif, effect_make_else, effect_make_empty_dict, effect_make_empty_list, effect_make_empty_tuple, effect_make_expr_stmt, effect_make_for, effect_make_if, effect_make_leaf, effect_make_list, effect_make_long_sign, effect_make_loop_name, effect_make_loop_names, effect_make_loop_parenthesis, effect_make_set, effect_make_set_of_one, effect_make_sign, effect_make_slice, effect_make_slice_from, effect_make_subscript, effect_make_targets, effect_make_tuple, effect_make_while, effect_prefix, effect_with_value, effect_word}
use Rattle.py_fronts.specs.Kinds.{Kind, AToken, ANameToken, ALiteralToken, AnExpr, ANameExpr, ATarget, TargetsExpr, ASubscript, ATuple, AComprehension, ADict, ACall, AnyCall, AnOpenSlice, ACompare, AnAnd, AnOr, ASign, ALoop, ALoopTarget, OneNameTarget, SomeNamesTarget, TheTargets, AClass, ABareClass, AStmt, AGlobal, ATry, ADef, AClassStmt, ABody, AFilledBody, fits, all_fit, needs, leaves}
use Rattle.py_fronts.proofs.SubKinds.{no_fit}

-- an effect that leaves parts of these kinds on those others
abbrev pub Leaves : Option Effect → List Kind → List Entry → Type 0
Leaves None ks below = ⊥
Leaves (Some (effect es events)) ks below = (front : List Entry) × (es ≡ front ++ below) × (all_fit ks front ≡ true)

one : (k : Kind) {e : Entry} {below : List Entry} → (fits k e && true) ≡ true → (front : List Entry) × (e ∷ below ≡ front ++ below) × (all_fit (k ∷ []) front ≡ true)
one k {e} {below} h = (e ∷ [], refl, h)

no_end : {A : Type 0} (b : Bool) → (b && false) ≡ true → A
no_end true e = absurd (cc)
no_end false e = absurd (cc)

nothing : {below : List Entry} → (front : List Entry) × (below ≡ front ++ below) × (all_fit [] front ≡ true)
nothing = ([], refl, refl)

where_true : (b : Bool) (r : Effect) (ks : List Kind) (below : List Entry) → (b && true) ≡ true → Leaves (Some r) ks below → Leaves (if b then Some r else None) ks below
where_true true r ks below h l = l
where_true false r ks below h l = no_fit h

fit_drop : (es below : List Entry) → all_fit (AToken ∷ []) es ≡ true → Leaves (effect_drop (es ++ below)) ([]) below
fit_drop (entry (TokenShape t0) p0 ∷ []) below h = nothing
fit_drop es below h = no_fit h

fit_make_leaf : (es below : List Entry) → all_fit (ALiteralToken ∷ []) es ≡ true → Leaves (effect_make_leaf (es ++ below)) (AnExpr ∷ []) below
fit_make_leaf (entry (TokenShape LiteralToken) p0 ∷ []) below h = one AnExpr refl
fit_make_leaf es below h = no_fit h

fit_constant : (es below : List Entry) → all_fit (AToken ∷ []) es ≡ true → Leaves (effect_constant (es ++ below)) (AnExpr ∷ []) below
fit_constant (entry (TokenShape t0) p0 ∷ []) below h = one AnExpr refl
fit_constant es below h = no_fit h

fit_make_empty_tuple : (es below : List Entry) → all_fit (AToken ∷ AToken ∷ []) es ≡ true → Leaves (effect_make_empty_tuple (es ++ below)) (AnExpr ∷ []) below
fit_make_empty_tuple (entry (TokenShape t0) p0 ∷ entry (TokenShape t1) p1 ∷ []) below h = one AnExpr refl
fit_make_empty_tuple es below h = no_fit h

fit_bracket : (es below : List Entry) → all_fit (AToken ∷ AnExpr ∷ AToken ∷ []) es ≡ true → Leaves (effect_bracket (es ++ below)) (AnExpr ∷ []) below
fit_bracket (entry (TokenShape t0) p0 ∷ entry (ExprShape f1 n1) p1 ∷ entry (TokenShape t2) p2 ∷ []) below h = one AnExpr refl
fit_bracket es below h = no_fit h

fit_make_tuple : (es below : List Entry) → all_fit (AToken ∷ AnExpr ∷ []) es ≡ true → Leaves (effect_make_tuple (es ++ below)) (ATuple ∷ []) below
fit_make_tuple (entry (TokenShape t0) p0 ∷ entry (ExprShape f1 n1) p1 ∷ []) below h = one ATuple refl
fit_make_tuple es below h = no_fit h

fit_add_item : (es below : List Entry) → all_fit (AnExpr ∷ ATuple ∷ []) es ≡ true → Leaves (effect_add_item (es ++ below)) (ATuple ∷ []) below
fit_add_item (entry (ExprShape f0 n0) p0 ∷ entry (ExprShape (TupleForm u1) false) p1 ∷ []) below h = one ATuple refl
fit_add_item es below h = no_fit h

fit_make_empty_list : (es below : List Entry) → all_fit (AToken ∷ AToken ∷ []) es ≡ true → Leaves (effect_make_empty_list (es ++ below)) (AnExpr ∷ []) below
fit_make_empty_list (entry (TokenShape t0) p0 ∷ entry (TokenShape t1) p1 ∷ []) below h = one AnExpr refl
fit_make_empty_list es below h = no_fit h

fit_make_list : (es below : List Entry) → all_fit (AToken ∷ ATuple ∷ AToken ∷ []) es ≡ true → Leaves (effect_make_list (es ++ below)) (AnExpr ∷ []) below
fit_make_list (entry (TokenShape t0) p0 ∷ entry (ExprShape (TupleForm u1) false) p1 ∷ entry (TokenShape t2) p2 ∷ []) below h = one AnExpr refl
fit_make_list es below h = no_fit h

fit_begin_comprehension : (es below : List Entry) → all_fit (AnExpr ∷ AToken ∷ []) es ≡ true → Leaves (effect_begin_comprehension (es ++ below)) (AComprehension ∷ []) below
fit_begin_comprehension (entry (ExprShape f0 n0) p0 ∷ entry (TokenShape t1) p1 ∷ []) below h = one AComprehension refl
fit_begin_comprehension es below h = no_fit h

fit_begin_loop : (es below : List Entry) → all_fit (AnExpr ∷ AToken ∷ ALoopTarget ∷ AToken ∷ []) es ≡ true → Leaves (effect_begin_loop (es ++ below)) (ALoop ∷ []) below
fit_begin_loop (entry (ExprShape f0 n0) p0 ∷ entry (TokenShape t1) p1 ∷ entry (LoopTargetShape f2 n2) p2 ∷ entry (TokenShape t3) p3 ∷ []) below h = one ALoop refl
fit_begin_loop es below h = no_fit h

fit_add_condition : (es below : List Entry) → all_fit (AnExpr ∷ AToken ∷ ALoop ∷ []) es ≡ true → Leaves (effect_add_condition (es ++ below)) (ALoop ∷ []) below
fit_add_condition (entry (ExprShape f0 n0) p0 ∷ entry (TokenShape t1) p1 ∷ entry LoopShape p2 ∷ []) below h = one ALoop refl
fit_add_condition es below h = no_fit h

fit_add_loop : (es below : List Entry) → all_fit (ALoop ∷ AComprehension ∷ []) es ≡ true → Leaves (effect_add_loop (es ++ below)) (AComprehension ∷ []) below
fit_add_loop (entry LoopShape p0 ∷ entry (ExprShape ComprehensionForm n1) p1 ∷ []) below h = one AComprehension refl
fit_add_loop es below h = no_fit h

fit_make_empty_dict : (es below : List Entry) → all_fit (AToken ∷ AToken ∷ []) es ≡ true → Leaves (effect_make_empty_dict (es ++ below)) (AnExpr ∷ []) below
fit_make_empty_dict (entry (TokenShape t0) p0 ∷ entry (TokenShape t1) p1 ∷ []) below h = one AnExpr refl
fit_make_empty_dict es below h = no_fit h

fit_begin_dict : (es below : List Entry) → all_fit (AnExpr ∷ AToken ∷ AnExpr ∷ AToken ∷ []) es ≡ true → Leaves (effect_begin_dict (es ++ below)) (ADict ∷ []) below
fit_begin_dict (entry (ExprShape f0 n0) p0 ∷ entry (TokenShape t1) p1 ∷ entry (ExprShape f2 n2) p2 ∷ entry (TokenShape t3) p3 ∷ []) below h = one ADict refl
fit_begin_dict es below h = no_fit h

fit_add_pair : (es below : List Entry) → all_fit (AnExpr ∷ AToken ∷ AnExpr ∷ ADict ∷ []) es ≡ true → Leaves (effect_add_pair (es ++ below)) (ADict ∷ []) below
fit_add_pair (entry (ExprShape f0 n0) p0 ∷ entry (TokenShape t1) p1 ∷ entry (ExprShape f2 n2) p2 ∷ entry (ExprShape DictForm n3) p3 ∷ []) below h = one ADict refl
fit_add_pair es below h = no_fit h

fit_make_set_of_one : (es below : List Entry) → all_fit (AToken ∷ AnExpr ∷ AToken ∷ []) es ≡ true → Leaves (effect_make_set_of_one (es ++ below)) (AnExpr ∷ []) below
fit_make_set_of_one (entry (TokenShape t0) p0 ∷ entry (ExprShape f1 n1) p1 ∷ entry (TokenShape t2) p2 ∷ []) below h = one AnExpr refl
fit_make_set_of_one es below h = no_fit h

fit_make_set : (es below : List Entry) → all_fit (AToken ∷ ATuple ∷ AToken ∷ []) es ≡ true → Leaves (effect_make_set (es ++ below)) (AnExpr ∷ []) below
fit_make_set (entry (TokenShape t0) p0 ∷ entry (ExprShape (TupleForm u1) false) p1 ∷ entry (TokenShape t2) p2 ∷ []) below h = one AnExpr refl
fit_make_set es below h = no_fit h

fit_make_attribute : (es below : List Entry) → all_fit (ANameToken ∷ AToken ∷ AnExpr ∷ []) es ≡ true → Leaves (effect_make_attribute (es ++ below)) (AnExpr ∷ []) below
fit_make_attribute (entry (TokenShape NameToken) p0 ∷ entry (TokenShape t1) p1 ∷ entry (ExprShape f2 n2) p2 ∷ []) below h = one AnExpr refl
fit_make_attribute es below h = no_fit h

fit_begin_call : (es below : List Entry) → all_fit (AToken ∷ AnExpr ∷ []) es ≡ true → Leaves (effect_begin_call (es ++ below)) (ACall ∷ []) below
fit_begin_call (entry (TokenShape t0) p0 ∷ entry (ExprShape f1 n1) p1 ∷ []) below h = one ACall refl
fit_begin_call es below h = no_fit h

fit_add_argument : (es below : List Entry) → all_fit (AnExpr ∷ ACall ∷ []) es ≡ true → Leaves (effect_add_argument (es ++ below)) (ACall ∷ []) below
fit_add_argument (entry (ExprShape f0 n0) p0 ∷ entry (ExprShape CallForm false) p1 ∷ []) below h = one ACall refl
fit_add_argument es below h = no_fit h

fit_add_keyword : (es below : List Entry) → all_fit (AnExpr ∷ AToken ∷ ANameExpr ∷ AnyCall ∷ []) es ≡ true → Leaves (effect_add_keyword (es ++ below)) (AnyCall ∷ []) below
fit_add_keyword (entry (ExprShape f0 n0) p0 ∷ entry (TokenShape t1) p1 ∷ entry (ExprShape NameForm n2) p2 ∷ entry (ExprShape CallForm n3) p3 ∷ []) below h = one AnyCall refl
fit_add_keyword es below h = no_fit h

fit_make_subscript : (es below : List Entry) → all_fit (AToken ∷ AnExpr ∷ AToken ∷ AnExpr ∷ []) es ≡ true → Leaves (effect_make_subscript (es ++ below)) (ASubscript ∷ []) below
fit_make_subscript (entry (TokenShape t0) p0 ∷ entry (ExprShape f1 n1) p1 ∷ entry (TokenShape t2) p2 ∷ entry (ExprShape f3 n3) p3 ∷ []) below h = one ASubscript refl
fit_make_subscript es below h = no_fit h

fit_make_slice_from : (es below : List Entry) → all_fit (AToken ∷ AnExpr ∷ AToken ∷ AnExpr ∷ []) es ≡ true → Leaves (effect_make_slice_from (es ++ below)) (AnOpenSlice ∷ []) below
fit_make_slice_from (entry (TokenShape t0) p0 ∷ entry (ExprShape f1 n1) p1 ∷ entry (TokenShape t2) p2 ∷ entry (ExprShape f3 n3) p3 ∷ []) below h = one AnOpenSlice refl
fit_make_slice_from es below h = no_fit h

fit_make_slice : (es below : List Entry) → all_fit (AToken ∷ AToken ∷ AnExpr ∷ []) es ≡ true → Leaves (effect_make_slice (es ++ below)) (AnOpenSlice ∷ []) below
fit_make_slice (entry (TokenShape t0) p0 ∷ entry (TokenShape t1) p1 ∷ entry (ExprShape f2 n2) p2 ∷ []) below h = one AnOpenSlice refl
fit_make_slice es below h = no_fit h

fit_add_upper : (es below : List Entry) → all_fit (AToken ∷ AnExpr ∷ AnOpenSlice ∷ []) es ≡ true → Leaves (effect_add_upper (es ++ below)) (AnExpr ∷ []) below
fit_add_upper (entry (TokenShape t0) p0 ∷ entry (ExprShape f1 n1) p1 ∷ entry (ExprShape (SliceForm false) n2) p2 ∷ []) below h = one AnExpr refl
fit_add_upper es below h = no_fit h

fit_prefix : (es below : List Entry) → all_fit (AnExpr ∷ AToken ∷ []) es ≡ true → Leaves (effect_prefix (es ++ below)) (AnExpr ∷ []) below
fit_prefix (entry (ExprShape f0 n0) p0 ∷ entry (TokenShape t1) p1 ∷ []) below h = one AnExpr refl
fit_prefix es below h = no_fit h

fit_make_binary : (es below : List Entry) → all_fit (AnExpr ∷ AToken ∷ AnExpr ∷ []) es ≡ true → Leaves (effect_infix OtherForm (es ++ below)) (AnExpr ∷ []) below
fit_make_binary (entry (ExprShape f0 n0) p0 ∷ entry (TokenShape t1) p1 ∷ entry (ExprShape f2 n2) p2 ∷ []) below h = one AnExpr refl
fit_make_binary es below h = no_fit h

fit_make_sign : (es below : List Entry) → all_fit (AToken ∷ []) es ≡ true → Leaves (effect_make_sign (es ++ below)) (ASign ∷ []) below
fit_make_sign (entry (TokenShape t0) p0 ∷ []) below h = one ASign refl
fit_make_sign es below h = no_fit h

fit_make_long_sign : (es below : List Entry) → all_fit (AToken ∷ AToken ∷ []) es ≡ true → Leaves (effect_make_long_sign (es ++ below)) (ASign ∷ []) below
fit_make_long_sign (entry (TokenShape t0) p0 ∷ entry (TokenShape t1) p1 ∷ []) below h = one ASign refl
fit_make_long_sign es below h = no_fit h

fit_make_compare : (es below : List Entry) → all_fit (AnExpr ∷ ASign ∷ AnExpr ∷ []) es ≡ true → Leaves (effect_make_compare (es ++ below)) (ACompare ∷ []) below
fit_make_compare (entry (ExprShape f0 n0) p0 ∷ entry SignShape p1 ∷ entry (ExprShape f2 n2) p2 ∷ []) below h = one ACompare refl
fit_make_compare es below h = no_fit h

fit_add_link : (es below : List Entry) → all_fit (AnExpr ∷ ASign ∷ ACompare ∷ []) es ≡ true → Leaves (effect_add_link (es ++ below)) (ACompare ∷ []) below
fit_add_link (entry (ExprShape f0 n0) p0 ∷ entry SignShape p1 ∷ entry (ExprShape CompareForm n2) p2 ∷ []) below h = one ACompare refl
fit_add_link es below h = no_fit h

fit_make_and : (es below : List Entry) → all_fit (AnExpr ∷ AToken ∷ AnExpr ∷ []) es ≡ true → Leaves (effect_infix AndForm (es ++ below)) (AnAnd ∷ []) below
fit_make_and (entry (ExprShape f0 n0) p0 ∷ entry (TokenShape t1) p1 ∷ entry (ExprShape f2 n2) p2 ∷ []) below h = one AnAnd refl
fit_make_and es below h = no_fit h

fit_add_and : (es below : List Entry) → all_fit (AnExpr ∷ AToken ∷ AnAnd ∷ []) es ≡ true → Leaves (effect_add_and (es ++ below)) (AnAnd ∷ []) below
fit_add_and (entry (ExprShape f0 n0) p0 ∷ entry (TokenShape t1) p1 ∷ entry (ExprShape AndForm n2) p2 ∷ []) below h = one AnAnd refl
fit_add_and es below h = no_fit h

fit_make_or : (es below : List Entry) → all_fit (AnExpr ∷ AToken ∷ AnExpr ∷ []) es ≡ true → Leaves (effect_infix OrForm (es ++ below)) (AnOr ∷ []) below
fit_make_or (entry (ExprShape f0 n0) p0 ∷ entry (TokenShape t1) p1 ∷ entry (ExprShape f2 n2) p2 ∷ []) below h = one AnOr refl
fit_make_or es below h = no_fit h

fit_add_or : (es below : List Entry) → all_fit (AnExpr ∷ AToken ∷ AnOr ∷ []) es ≡ true → Leaves (effect_add_or (es ++ below)) (AnOr ∷ []) below
fit_add_or (entry (ExprShape f0 n0) p0 ∷ entry (TokenShape t1) p1 ∷ entry (ExprShape OrForm n2) p2 ∷ []) below h = one AnOr refl
fit_add_or es below h = no_fit h

fit_make_conditional : (es below : List Entry) → all_fit (AnExpr ∷ AToken ∷ AnExpr ∷ AToken ∷ AnExpr ∷ []) es ≡ true → Leaves (effect_make_conditional (es ++ below)) (AnExpr ∷ []) below
fit_make_conditional (entry (ExprShape f0 n0) p0 ∷ entry (TokenShape t1) p1 ∷ entry (ExprShape f2 n2) p2 ∷ entry (TokenShape t3) p3 ∷ entry (ExprShape f4 n4) p4 ∷ []) below h = one AnExpr refl
fit_make_conditional es below h = no_fit h

fit_make_loop_name : (es below : List Entry) → all_fit (ANameToken ∷ []) es ≡ true → Leaves (effect_make_loop_name (es ++ below)) (OneNameTarget ∷ []) below
fit_make_loop_name (entry (TokenShape NameToken) p0 ∷ []) below h = one OneNameTarget refl
fit_make_loop_name es below h = no_fit h

fit_make_loop_names : (es below : List Entry) → all_fit (AToken ∷ OneNameTarget ∷ []) es ≡ true → Leaves (effect_make_loop_names (es ++ below)) (SomeNamesTarget ∷ []) below
fit_make_loop_names (entry (TokenShape t0) p0 ∷ entry (LoopTargetShape OneName n1) p1 ∷ []) below h = one SomeNamesTarget refl
fit_make_loop_names es below h = no_fit h

fit_add_loop_name : (es below : List Entry) → all_fit (ANameToken ∷ SomeNamesTarget ∷ []) es ≡ true → Leaves (effect_add_loop_name (es ++ below)) (SomeNamesTarget ∷ []) below
fit_add_loop_name (entry (TokenShape NameToken) p0 ∷ entry (LoopTargetShape SomeNames true) p1 ∷ []) below h = one SomeNamesTarget refl
fit_add_loop_name es below h = no_fit h

fit_make_loop_parenthesis : (es below : List Entry) → all_fit (AToken ∷ ALoopTarget ∷ AToken ∷ []) es ≡ true → Leaves (effect_make_loop_parenthesis (es ++ below)) (ALoopTarget ∷ []) below
fit_make_loop_parenthesis (entry (TokenShape t0) p0 ∷ entry (LoopTargetShape f1 n1) p1 ∷ entry (TokenShape t2) p2 ∷ []) below h = one ALoopTarget refl
fit_make_loop_parenthesis es below h = no_fit h

fit_begin_body : (es below : List Entry) → all_fit ([]) es ≡ true → Leaves (effect_begin_body (es ++ below)) (ABody ∷ []) below
fit_begin_body [] below h = one ABody refl
fit_begin_body es below h = no_fit h

fit_add_stmt : (es below : List Entry) → all_fit (AStmt ∷ ABody ∷ []) es ≡ true → Leaves (effect_add_stmt (es ++ below)) (AFilledBody ∷ []) below
fit_add_stmt (entry (StmtShape f0 n0) p0 ∷ entry (BodyShape u1) p1 ∷ []) below h = one AFilledBody refl
fit_add_stmt es below h = no_fit h

fit_make_expr_stmt : (es below : List Entry) → all_fit (AnExpr ∷ []) es ≡ true → Leaves (effect_make_expr_stmt (es ++ below)) (AStmt ∷ []) below
fit_make_expr_stmt (entry (ExprShape f0 n0) p0 ∷ []) below h = one AStmt refl
fit_make_expr_stmt es below h = no_fit h

fit_make_targets : (es below : List Entry) → all_fit (AToken ∷ TargetsExpr ∷ []) es ≡ true → Leaves (effect_make_targets (es ++ below)) (TheTargets ∷ []) below
fit_make_targets (entry (TokenShape t0) p0 ∷ entry (ExprShape f1 n1) p1 ∷ []) below h = where_true (are_targets f1) (effect (entry TargetsShape p1 ∷ below) (Gather 1 ∷ Assign ∷ [])) (TheTargets ∷ []) below h (one TheTargets refl)
fit_make_targets (entry (TokenShape t0) p0 ∷ entry (ExprShape f1 n1) p1 ∷ es) below h = no_end (are_targets f1) h
fit_make_targets es below h = no_fit h

fit_add_targets : (es below : List Entry) → all_fit (AToken ∷ TargetsExpr ∷ TheTargets ∷ []) es ≡ true → Leaves (effect_add_targets (es ++ below)) (TheTargets ∷ []) below
fit_add_targets (entry (TokenShape t0) p0 ∷ entry (ExprShape f1 n1) p1 ∷ entry TargetsShape p2 ∷ []) below h = where_true (are_targets f1) (effect (entry TargetsShape p2 ∷ below) (JoinGroup ∷ Assign ∷ [])) (TheTargets ∷ []) below h (one TheTargets refl)
fit_add_targets (entry (TokenShape t0) p0 ∷ entry (ExprShape f1 n1) p1 ∷ es) below h = no_end (are_targets f1) h
fit_add_targets es below h = no_fit h

fit_make_assign : (es below : List Entry) → all_fit (AnExpr ∷ TheTargets ∷ []) es ≡ true → Leaves (effect_make_assign (es ++ below)) (AStmt ∷ []) below
fit_make_assign (entry (ExprShape f0 n0) p0 ∷ entry TargetsShape p1 ∷ []) below h = one AStmt refl
fit_make_assign es below h = no_fit h

fit_make_augmented : (es below : List Entry) → all_fit (AnExpr ∷ AToken ∷ ATarget ∷ []) es ≡ true → Leaves (effect_make_augmented (es ++ below)) (AStmt ∷ []) below
fit_make_augmented (entry (ExprShape f0 n0) p0 ∷ entry (TokenShape t1) p1 ∷ entry (ExprShape f2 n2) p2 ∷ []) below h = where_true (is_target f2) (effect (entry (StmtShape OtherStmt false) nowhere ∷ below) (Over Plain p2 2 ∷ [])) (AStmt ∷ []) below h (one AStmt refl)
fit_make_augmented (entry (ExprShape f0 n0) p0 ∷ entry (TokenShape t1) p1 ∷ entry (ExprShape f2 n2) p2 ∷ es) below h = no_end (is_target f2) h
fit_make_augmented es below h = no_fit h

fit_word : (es below : List Entry) → all_fit (AToken ∷ []) es ≡ true → Leaves (effect_word (es ++ below)) (AStmt ∷ []) below
fit_word (entry (TokenShape t0) p0 ∷ []) below h = one AStmt refl
fit_word es below h = no_fit h

fit_with_value : (es below : List Entry) → all_fit (AnExpr ∷ AToken ∷ []) es ≡ true → Leaves (effect_with_value (es ++ below)) (AStmt ∷ []) below
fit_with_value (entry (ExprShape f0 n0) p0 ∷ entry (TokenShape t1) p1 ∷ []) below h = one AStmt refl
fit_with_value es below h = no_fit h

fit_begin_global : (es below : List Entry) → all_fit (AToken ∷ []) es ≡ true → Leaves (effect_begin_global (es ++ below)) (AGlobal ∷ []) below
fit_begin_global (entry (TokenShape t0) p0 ∷ []) below h = one AGlobal refl
fit_begin_global es below h = no_fit h

fit_add_global : (es below : List Entry) → all_fit (ANameToken ∷ AGlobal ∷ []) es ≡ true → Leaves (effect_add_global (es ++ below)) (AGlobal ∷ []) below
fit_add_global (entry (TokenShape NameToken) p0 ∷ entry (StmtShape GlobalStmt n1) p1 ∷ []) below h = one AGlobal refl
fit_add_global es below h = no_fit h

fit_make_assert_message : (es below : List Entry) → all_fit (AnExpr ∷ AToken ∷ AnExpr ∷ AToken ∷ []) es ≡ true → Leaves (effect_make_assert_message (es ++ below)) (AStmt ∷ []) below
fit_make_assert_message (entry (ExprShape f0 n0) p0 ∷ entry (TokenShape t1) p1 ∷ entry (ExprShape f2 n2) p2 ∷ entry (TokenShape t3) p3 ∷ []) below h = one AStmt refl
fit_make_assert_message es below h = no_fit h

fit_make_delete : (es below : List Entry) → all_fit (ASubscript ∷ AToken ∷ []) es ≡ true → Leaves (effect_make_delete (es ++ below)) (AStmt ∷ []) below
fit_make_delete (entry (ExprShape SubscriptForm n0) p0 ∷ entry (TokenShape t1) p1 ∷ []) below h = one AStmt refl
fit_make_delete es below h = no_fit h

fit_make_if : (es below : List Entry) → all_fit (ABody ∷ ABody ∷ AToken ∷ AnExpr ∷ AToken ∷ []) es ≡ true → Leaves (effect_make_if (es ++ below)) (AStmt ∷ []) below
fit_make_if (entry (BodyShape u0) p0 ∷ entry (BodyShape u1) p1 ∷ entry (TokenShape t2) p2 ∷ entry (ExprShape f3 n3) p3 ∷ entry (TokenShape t4) p4 ∷ []) below h = one AStmt refl
fit_make_if es below h = no_fit h

fit_make_elif : (es below : List Entry) → all_fit (ABody ∷ ABody ∷ AToken ∷ AnExpr ∷ AToken ∷ []) es ≡ true → Leaves (effect_make_elif (es ++ below)) (AFilledBody ∷ []) below
fit_make_elif (entry (BodyShape u0) p0 ∷ entry (BodyShape u1) p1 ∷ entry (TokenShape t2) p2 ∷ entry (ExprShape f3 n3) p3 ∷ entry (TokenShape t4) p4 ∷ []) below h = one AFilledBody refl
fit_make_elif es below h = no_fit h

fit_make_else : (es below : List Entry) → all_fit (ABody ∷ AToken ∷ AToken ∷ []) es ≡ true → Leaves (effect_make_else (es ++ below)) (ABody ∷ []) below
fit_make_else (entry (BodyShape u0) p0 ∷ entry (TokenShape t1) p1 ∷ entry (TokenShape t2) p2 ∷ []) below h = one ABody refl
fit_make_else es below h = no_fit h

fit_make_while : (es below : List Entry) → all_fit (ABody ∷ AToken ∷ AnExpr ∷ AToken ∷ []) es ≡ true → Leaves (effect_make_while (es ++ below)) (AStmt ∷ []) below
fit_make_while (entry (BodyShape u0) p0 ∷ entry (TokenShape t1) p1 ∷ entry (ExprShape f2 n2) p2 ∷ entry (TokenShape t3) p3 ∷ []) below h = one AStmt refl
fit_make_while es below h = no_fit h

fit_make_for : (es below : List Entry) → all_fit (ABody ∷ AToken ∷ AnExpr ∷ AToken ∷ ALoopTarget ∷ AToken ∷ []) es ≡ true → Leaves (effect_make_for (es ++ below)) (AStmt ∷ []) below
fit_make_for (entry (BodyShape u0) p0 ∷ entry (TokenShape t1) p1 ∷ entry (ExprShape f2 n2) p2 ∷ entry (TokenShape t3) p3 ∷ entry (LoopTargetShape f4 n4) p4 ∷ entry (TokenShape t5) p5 ∷ []) below h = one AStmt refl
fit_make_for es below h = no_fit h

fit_begin_try : (es below : List Entry) → all_fit (ABody ∷ AToken ∷ AToken ∷ []) es ≡ true → Leaves (effect_begin_try (es ++ below)) (ATry ∷ []) below
fit_begin_try (entry (BodyShape u0) p0 ∷ entry (TokenShape t1) p1 ∷ entry (TokenShape t2) p2 ∷ []) below h = one ATry refl
fit_begin_try es below h = no_fit h

fit_catch_all : (es below : List Entry) → all_fit (ABody ∷ AToken ∷ AToken ∷ ATry ∷ []) es ≡ true → Leaves (effect_catch_all (es ++ below)) (ATry ∷ []) below
fit_catch_all (entry (BodyShape u0) p0 ∷ entry (TokenShape t1) p1 ∷ entry (TokenShape t2) p2 ∷ entry (StmtShape TryStmt n3) p3 ∷ []) below h = one ATry refl
fit_catch_all es below h = no_fit h

fit_catch : (es below : List Entry) → all_fit (ABody ∷ AToken ∷ AClass ∷ AToken ∷ ATry ∷ []) es ≡ true → Leaves (effect_catch (es ++ below)) (ATry ∷ []) below
fit_catch (entry (BodyShape u0) p0 ∷ entry (TokenShape t1) p1 ∷ entry (ClassShape f2) p2 ∷ entry (TokenShape t3) p3 ∷ entry (StmtShape TryStmt n4) p4 ∷ []) below h = one ATry refl
fit_catch es below h = no_fit h

fit_catch_as : (es below : List Entry) → all_fit (ABody ∷ AToken ∷ ANameToken ∷ AToken ∷ AClass ∷ AToken ∷ ATry ∷ []) es ≡ true → Leaves (effect_catch_as (es ++ below)) (ATry ∷ []) below
fit_catch_as (entry (BodyShape u0) p0 ∷ entry (TokenShape t1) p1 ∷ entry (TokenShape NameToken) p2 ∷ entry (TokenShape t3) p3 ∷ entry (ClassShape f4) p4 ∷ entry (TokenShape t5) p5 ∷ entry (StmtShape TryStmt n6) p6 ∷ []) below h = one ATry refl
fit_catch_as es below h = no_fit h

fit_make_class_name : (es below : List Entry) → all_fit (ANameToken ∷ []) es ≡ true → Leaves (effect_make_class_name (es ++ below)) (ABareClass ∷ []) below
fit_make_class_name (entry (TokenShape NameToken) p0 ∷ []) below h = one ABareClass refl
fit_make_class_name es below h = no_fit h

fit_make_class_within : (es below : List Entry) → all_fit (ANameToken ∷ AToken ∷ ABareClass ∷ []) es ≡ true → Leaves (effect_make_class_within (es ++ below)) (AClass ∷ []) below
fit_make_class_within (entry (TokenShape NameToken) p0 ∷ entry (TokenShape t1) p1 ∷ entry (ClassShape BareName) p2 ∷ []) below h = one AClass refl
fit_make_class_within es below h = no_fit h

fit_begin_def : (es below : List Entry) → all_fit (AToken ∷ ANameToken ∷ AToken ∷ []) es ≡ true → Leaves (effect_begin_def (es ++ below)) (ADef ∷ []) below
fit_begin_def (entry (TokenShape t0) p0 ∷ entry (TokenShape NameToken) p1 ∷ entry (TokenShape t2) p2 ∷ []) below h = one ADef refl
fit_begin_def es below h = no_fit h

fit_add_parameter : (es below : List Entry) → all_fit (ANameToken ∷ ADef ∷ []) es ≡ true → Leaves (effect_add_parameter (es ++ below)) (ADef ∷ []) below
fit_add_parameter (entry (TokenShape NameToken) p0 ∷ entry (StmtShape DefStmt false) p1 ∷ []) below h = one ADef refl
fit_add_parameter es below h = no_fit h

fit_add_default : (es below : List Entry) → all_fit (AnExpr ∷ AToken ∷ ANameToken ∷ ADef ∷ []) es ≡ true → Leaves (effect_add_default (es ++ below)) (ADef ∷ []) below
fit_add_default (entry (ExprShape f0 n0) p0 ∷ entry (TokenShape t1) p1 ∷ entry (TokenShape NameToken) p2 ∷ entry (StmtShape DefStmt false) p3 ∷ []) below h = one ADef refl
fit_add_default es below h = no_fit h

fit_end_def : (es below : List Entry) → all_fit (AFilledBody ∷ AToken ∷ AToken ∷ ADef ∷ []) es ≡ true → Leaves (effect_end_def (es ++ below)) (AStmt ∷ []) below
fit_end_def (entry (BodyShape true) p0 ∷ entry (TokenShape t1) p1 ∷ entry (TokenShape t2) p2 ∷ entry (StmtShape DefStmt false) p3 ∷ []) below h = one AStmt refl
fit_end_def es below h = no_fit h

fit_begin_class : (es below : List Entry) → all_fit (ANameToken ∷ AToken ∷ []) es ≡ true → Leaves (effect_begin_class (es ++ below)) (AClassStmt ∷ []) below
fit_begin_class (entry (TokenShape NameToken) p0 ∷ entry (TokenShape t1) p1 ∷ []) below h = one AClassStmt refl
fit_begin_class es below h = no_fit h

fit_add_base : (es below : List Entry) → all_fit (AToken ∷ AClass ∷ AToken ∷ AClassStmt ∷ []) es ≡ true → Leaves (effect_add_base (es ++ below)) (AClassStmt ∷ []) below
fit_add_base (entry (TokenShape t0) p0 ∷ entry (ClassShape f1) p1 ∷ entry (TokenShape t2) p2 ∷ entry (StmtShape ClassStmt false) p3 ∷ []) below h = one AClassStmt refl
fit_add_base es below h = no_fit h

fit_end_class : (es below : List Entry) → all_fit (AFilledBody ∷ AToken ∷ AClassStmt ∷ []) es ≡ true → Leaves (effect_end_class (es ++ below)) (AStmt ∷ []) below
fit_end_class (entry (BodyShape true) p0 ∷ entry (TokenShape t1) p1 ∷ entry (StmtShape ClassStmt false) p2 ∷ []) below h = one AStmt refl
fit_end_class es below h = no_fit h

fit_begin_from : (es below : List Entry) → all_fit (AToken ∷ ANameToken ∷ AToken ∷ []) es ≡ true → Leaves (effect_begin_from (es ++ below)) (AStmt ∷ []) below
fit_begin_from (entry (TokenShape t0) p0 ∷ entry (TokenShape NameToken) p1 ∷ entry (TokenShape t2) p2 ∷ []) below h = one AStmt refl
fit_begin_from es below h = no_fit h

fit_add_imported : (es below : List Entry) → all_fit (ANameToken ∷ AStmt ∷ []) es ≡ true → Leaves (effect_add_imported (es ++ below)) (AStmt ∷ []) below
fit_add_imported (entry (TokenShape NameToken) p0 ∷ entry (StmtShape f1 n1) p1 ∷ []) below h = one AStmt refl
fit_add_imported es below h = no_fit h

fit_add_imported_as : (es below : List Entry) → all_fit (ANameToken ∷ AToken ∷ ANameToken ∷ AStmt ∷ []) es ≡ true → Leaves (effect_add_imported_as (es ++ below)) (AStmt ∷ []) below
fit_add_imported_as (entry (TokenShape NameToken) p0 ∷ entry (TokenShape t1) p1 ∷ entry (TokenShape NameToken) p2 ∷ entry (StmtShape f3 n3) p3 ∷ []) below h = one AStmt refl
fit_add_imported_as es below h = no_fit h

-- a leaf of a name
pub fit_name : (es below : List Entry) → all_fit (ANameToken ∷ []) es ≡ true → Leaves (effect_make_leaf (es ++ below)) (ANameExpr ∷ []) below
fit_name (entry (TokenShape NameToken) p0 ∷ []) below h = one ANameExpr refl
fit_name es below h = no_fit h

pub actions_fit : (a : Action) (es below : List Entry) → all_fit (needs a) es ≡ true → Leaves (effect_of a (es ++ below)) (leaves a) below
actions_fit Drop es below h = fit_drop es below h
actions_fit MakeLeaf es below h = fit_make_leaf es below h
actions_fit MakeTrue es below h = fit_constant es below h
actions_fit MakeFalse es below h = fit_constant es below h
actions_fit MakeNone es below h = fit_constant es below h
actions_fit MakeEmptyTuple es below h = fit_make_empty_tuple es below h
actions_fit MakeParenthesis es below h = fit_bracket es below h
actions_fit MakeTuple es below h = fit_make_tuple es below h
actions_fit AddItem es below h = fit_add_item es below h
actions_fit MakeEmptyList es below h = fit_make_empty_list es below h
actions_fit MakeListOfOne es below h = fit_bracket es below h
actions_fit MakeList es below h = fit_make_list es below h
actions_fit BeginComprehension es below h = fit_begin_comprehension es below h
actions_fit BeginLoop es below h = fit_begin_loop es below h
actions_fit AddCondition es below h = fit_add_condition es below h
actions_fit AddLoop es below h = fit_add_loop es below h
actions_fit MakeEmptyDict es below h = fit_make_empty_dict es below h
actions_fit BeginDict es below h = fit_begin_dict es below h
actions_fit AddPair es below h = fit_add_pair es below h
actions_fit MakeSetOfOne es below h = fit_make_set_of_one es below h
actions_fit MakeSet es below h = fit_make_set es below h
actions_fit MakeAttribute es below h = fit_make_attribute es below h
actions_fit BeginCall es below h = fit_begin_call es below h
actions_fit AddArgument es below h = fit_add_argument es below h
actions_fit AddKeyword es below h = fit_add_keyword es below h
actions_fit MakeSubscript es below h = fit_make_subscript es below h
actions_fit MakeSliceFrom es below h = fit_make_slice_from es below h
actions_fit MakeSlice es below h = fit_make_slice es below h
actions_fit AddUpper es below h = fit_add_upper es below h
actions_fit (MakeUnary o) es below h = fit_prefix es below h
actions_fit (MakeBinary o) es below h = fit_make_binary es below h
actions_fit (MakeSign o) es below h = fit_make_sign es below h
actions_fit (MakeLongSign o) es below h = fit_make_long_sign es below h
actions_fit MakeCompare es below h = fit_make_compare es below h
actions_fit AddLink es below h = fit_add_link es below h
actions_fit MakeNot es below h = fit_prefix es below h
actions_fit MakeAnd es below h = fit_make_and es below h
actions_fit AddAnd es below h = fit_add_and es below h
actions_fit MakeOr es below h = fit_make_or es below h
actions_fit AddOr es below h = fit_add_or es below h
actions_fit MakeConditional es below h = fit_make_conditional es below h
actions_fit MakeLoopName es below h = fit_make_loop_name es below h
actions_fit MakeLoopNames es below h = fit_make_loop_names es below h
actions_fit AddLoopName es below h = fit_add_loop_name es below h
actions_fit MakeLoopParenthesis es below h = fit_make_loop_parenthesis es below h
actions_fit BeginBody es below h = fit_begin_body es below h
actions_fit AddStmt es below h = fit_add_stmt es below h
actions_fit MakeExprStmt es below h = fit_make_expr_stmt es below h
actions_fit MakeTargets es below h = fit_make_targets es below h
actions_fit AddTargets es below h = fit_add_targets es below h
actions_fit MakeAssign es below h = fit_make_assign es below h
actions_fit (MakeAugmented o) es below h = fit_make_augmented es below h
actions_fit MakePass es below h = fit_word es below h
actions_fit MakeBreak es below h = fit_word es below h
actions_fit MakeContinue es below h = fit_word es below h
actions_fit MakeReturn es below h = fit_word es below h
actions_fit MakeReturnValue es below h = fit_with_value es below h
actions_fit MakeRaise es below h = fit_with_value es below h
actions_fit MakeYield es below h = fit_with_value es below h
actions_fit BeginGlobal es below h = fit_begin_global es below h
actions_fit AddGlobal es below h = fit_add_global es below h
actions_fit MakeAssert es below h = fit_with_value es below h
actions_fit MakeAssertMessage es below h = fit_make_assert_message es below h
actions_fit MakeDelete es below h = fit_make_delete es below h
actions_fit MakeIf es below h = fit_make_if es below h
actions_fit MakeElif es below h = fit_make_elif es below h
actions_fit MakeElse es below h = fit_make_else es below h
actions_fit MakeWhile es below h = fit_make_while es below h
actions_fit MakeFor es below h = fit_make_for es below h
actions_fit BeginTry es below h = fit_begin_try es below h
actions_fit CatchAll es below h = fit_catch_all es below h
actions_fit Catch es below h = fit_catch es below h
actions_fit CatchAs es below h = fit_catch_as es below h
actions_fit MakeClassName es below h = fit_make_class_name es below h
actions_fit MakeClassWithin es below h = fit_make_class_within es below h
actions_fit BeginDef es below h = fit_begin_def es below h
actions_fit AddParameter es below h = fit_add_parameter es below h
actions_fit AddDefault es below h = fit_add_default es below h
actions_fit EndDef es below h = fit_end_def es below h
actions_fit BeginClass es below h = fit_begin_class es below h
actions_fit AddBase es below h = fit_add_base es below h
actions_fit EndClass es below h = fit_end_class es below h
actions_fit BeginImport es below h = fit_word es below h
actions_fit BeginFrom es below h = fit_begin_from es below h
actions_fit AddImported es below h = fit_add_imported es below h
actions_fit AddImportedAs es below h = fit_add_imported_as es below h
