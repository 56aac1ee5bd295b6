-- What each action does to entries, and how it puts outlines together. Where what it takes is not there, it does nothing.
use Rattle.std.specs.Prelude.{◌≡◌, true, false, ◌&&◌, if◌then◌else◌, List, [], ◌∷◌, Option, Some, None}
use Rattle.py_syntax.specs.Build.{Parts, act, Action, Drop, MakeLeaf, MakeTrue, MakeFalse, MakeNone, MakeEmptyTuple, MakeParenthesis, MakeTuple, AddItem, MakeEmptyList, MakeListOfOne, MakeList, BeginComprehension, BeginLoop, AddCondition, AddLoop, MakeEmptyDict, BeginDict, AddPair, MakeSetOfOne, MakeSet, MakeAttribute, BeginCall, AddArgument, AddKeyword, MakeSubscript, MakeSliceFrom, MakeSlice, AddUpper, MakeUnary, MakeBinary, MakeSign, MakeLongSign, MakeCompare, AddLink, MakeNot, MakeAnd, AddAnd, MakeOr, AddOr, MakeConditional, MakeLoopName, MakeLoopNames, AddLoopName, MakeLoopParenthesis, BeginBody, AddStmt, MakeExprStmt, MakeTargets, AddTargets, MakeAssign, MakeAugmented, MakePass, MakeBreak, MakeContinue, MakeReturn, MakeReturnValue, MakeRaise, MakeYield, BeginGlobal, AddGlobal, MakeAssert, MakeAssertMessage, MakeDelete, MakeIf, MakeElif, MakeElse, MakeWhile, MakeFor, BeginTry, CatchAll, Catch, CatchAs, MakeClassName, MakeClassWithin, BeginDef, AddParameter, AddDefault, EndDef, BeginClass, AddBase, EndClass, BeginImport, BeginFrom, AddImported, AddImportedAs}
use Rattle.py_nesting.specs.Forms.{NameToken, LiteralToken, NameForm, TargetForm, SubscriptForm, TupleForm, BracketForm, ComprehensionForm, DictForm, CallForm, SliceForm, CompareForm, ExprForm, AndForm, OrForm, OtherForm, OneName, SomeNames, NamesInBrackets, BareName, DottedName, GlobalStmt, TryStmt, DefStmt, ClassStmt, OtherStmt, is_target, are_targets}
use Rattle.py_nesting.specs.Outlines.{Plain, Bracket, Tuple, Outline, Event, Over, Gather, Join, JoinGroup, Loosen, Assign, Forget, after}
use Rattle.py_nesting.specs.Shapes.{TokenShape, ExprShape, SignShape, LoopShape, LoopTargetShape, TargetsShape, ClassShape, StmtShape, BodyShape, nowhere, Entry, entry, entries_of, outlines_of}

-- the entries then, and the events, the last first
pub data Effect : Type 0 where
  effect : (entries : List Entry) → (events : List Event) → Effect

abbrev pub effect_drop : List Entry → Option Effect
effect_drop (entry (TokenShape t) p ∷ es) = Some (effect es [])
effect_drop es = None

abbrev pub effect_make_leaf : List Entry → Option Effect
effect_make_leaf (entry (TokenShape NameToken) p ∷ es) = Some (effect (entry (ExprShape NameForm false) p ∷ es) (Over Plain p 0 ∷ []))
effect_make_leaf (entry (TokenShape LiteralToken) p ∷ es) = Some (effect (entry (ExprShape OtherForm false) p ∷ es) (Over Plain p 0 ∷ []))
effect_make_leaf es = None

abbrev pub effect_constant : List Entry → Option Effect
effect_constant (entry (TokenShape t) p ∷ es) = Some (effect (entry (ExprShape OtherForm false) p ∷ es) (Over Plain p 0 ∷ []))
effect_constant es = None

abbrev pub effect_make_empty_tuple : List Entry → Option Effect
effect_make_empty_tuple (entry (TokenShape c) q ∷ entry (TokenShape t) p ∷ es) = Some (effect (entry (ExprShape OtherForm false) p ∷ es) (Over Plain p 0 ∷ []))
effect_make_empty_tuple es = None

abbrev pub effect_bracket : List Entry → Option Effect
effect_bracket (entry (TokenShape c) q ∷ entry (ExprShape f n) a ∷ entry (TokenShape t) p ∷ es) = Some (effect (entry (ExprShape (BracketForm (are_targets f)) false) p ∷ es) (Over Bracket p 1 ∷ []))
effect_bracket es = None

abbrev pub effect_make_tuple : List Entry → Option Effect
effect_make_tuple (entry (TokenShape t) p ∷ entry (ExprShape f n) a ∷ es) = Some (effect (entry (ExprShape (TupleForm (is_target f)) false) a ∷ es) (Over Tuple p 1 ∷ []))
effect_make_tuple es = None

abbrev pub effect_add_item : List Entry → Option Effect
effect_add_item (entry (ExprShape f n) b ∷ entry (ExprShape (TupleForm u) false) a ∷ es) = Some (effect (entry (ExprShape (TupleForm (u && is_target f)) false) a ∷ es) (Join Tuple ∷ []))
effect_add_item es = None

abbrev pub effect_make_empty_list : List Entry → Option Effect
effect_make_empty_list (entry (TokenShape c) q ∷ entry (TokenShape t) p ∷ es) = Some (effect (entry (ExprShape (BracketForm false) false) p ∷ es) (Over Bracket p 0 ∷ []))
effect_make_empty_list es = None

abbrev pub effect_make_list : List Entry → Option Effect
effect_make_list (entry (TokenShape c) q ∷ entry (ExprShape (TupleForm u) n) a ∷ entry (TokenShape t) p ∷ es) = Some (effect (entry (ExprShape (BracketForm u) false) p ∷ es) (Over Bracket p 1 ∷ Loosen ∷ []))
effect_make_list es = None

abbrev pub effect_begin_comprehension : List Entry → Option Effect
effect_begin_comprehension (entry (ExprShape f n) a ∷ entry (TokenShape t) p ∷ es) = Some (effect (entry (ExprShape ComprehensionForm false) p ∷ es) (Over Plain p 1 ∷ []))
effect_begin_comprehension es = None

abbrev pub effect_begin_loop : List Entry → Option Effect
effect_begin_loop (entry (ExprShape f n) a ∷ entry (TokenShape c) q ∷ entry (LoopTargetShape l m) b ∷ entry (TokenShape t) p ∷ es) = Some (effect (entry LoopShape nowhere ∷ es) (Gather 2 ∷ []))
effect_begin_loop es = None

abbrev pub effect_add_condition : List Entry → Option Effect
effect_add_condition (entry (ExprShape f n) a ∷ entry (TokenShape c) q ∷ entry LoopShape b ∷ es) = Some (effect (entry LoopShape nowhere ∷ es) (JoinGroup ∷ []))
effect_add_condition es = None

abbrev pub effect_add_loop : List Entry → Option Effect
effect_add_loop (entry LoopShape b ∷ entry (ExprShape ComprehensionForm n) a ∷ es) = Some (effect (entry (ExprShape ComprehensionForm false) a ∷ es) (Join Plain ∷ []))
effect_add_loop es = None

abbrev pub effect_make_empty_dict : List Entry → Option Effect
effect_make_empty_dict (entry (TokenShape c) q ∷ entry (TokenShape t) p ∷ es) = Some (effect (entry (ExprShape DictForm false) p ∷ es) (Over Plain p 0 ∷ []))
effect_make_empty_dict es = None

abbrev pub effect_begin_dict : List Entry → Option Effect
effect_begin_dict (entry (ExprShape f n) a ∷ entry (TokenShape c) q ∷ entry (ExprShape g m) b ∷ entry (TokenShape t) p ∷ es) = Some (effect (entry (ExprShape DictForm false) p ∷ es) (Over Plain p 1 ∷ Gather 2 ∷ []))
effect_begin_dict es = None

abbrev pub effect_add_pair : List Entry → Option Effect
effect_add_pair (entry (ExprShape f n) b ∷ entry (TokenShape c) q ∷ entry (ExprShape g m) d ∷ entry (ExprShape DictForm u) a ∷ es) = Some (effect (entry (ExprShape DictForm false) a ∷ es) (Join Plain ∷ Gather 2 ∷ []))
effect_add_pair es = None

abbrev pub effect_make_set_of_one : List Entry → Option Effect
effect_make_set_of_one (entry (TokenShape c) q ∷ entry (ExprShape f n) a ∷ entry (TokenShape t) p ∷ es) = Some (effect (entry (ExprShape OtherForm false) p ∷ es) (Over Plain p 1 ∷ Gather 1 ∷ []))
effect_make_set_of_one es = None

abbrev pub effect_make_set : List Entry → Option Effect
effect_make_set (entry (TokenShape c) q ∷ entry (ExprShape (TupleForm u) n) a ∷ entry (TokenShape t) p ∷ es) = Some (effect (entry (ExprShape OtherForm false) p ∷ es) (Over Plain p 1 ∷ Loosen ∷ []))
effect_make_set es = None

abbrev pub effect_make_attribute : List Entry → Option Effect
effect_make_attribute (entry (TokenShape NameToken) q ∷ entry (TokenShape t) p ∷ entry (ExprShape f n) a ∷ es) = Some (effect (entry (ExprShape TargetForm false) a ∷ es) (Over Plain p 1 ∷ []))
effect_make_attribute es = None

abbrev pub effect_begin_call : List Entry → Option Effect
effect_begin_call (entry (TokenShape t) p ∷ entry (ExprShape f n) a ∷ es) = Some (effect (entry (ExprShape CallForm false) a ∷ es) (Over Plain p 1 ∷ []))
effect_begin_call es = None

abbrev pub effect_add_argument : List Entry → Option Effect
effect_add_argument (entry (ExprShape f n) b ∷ entry (ExprShape CallForm false) a ∷ es) = Some (effect (entry (ExprShape CallForm false) a ∷ es) (Join Plain ∷ []))
effect_add_argument es = None

abbrev pub effect_add_keyword : List Entry → Option Effect
effect_add_keyword (entry (ExprShape f n) b ∷ entry (TokenShape c) q ∷ entry (ExprShape NameForm m) d ∷ entry (ExprShape CallForm u) a ∷ es) = Some (effect (entry (ExprShape CallForm true) a ∷ es) (Join Plain ∷ Forget ∷ []))
effect_add_keyword es = None

abbrev pub effect_make_subscript : List Entry → Option Effect
effect_make_subscript (entry (TokenShape c) q ∷ entry (ExprShape f n) b ∷ entry (TokenShape t) p ∷ entry (ExprShape g m) a ∷ es) = Some (effect (entry (ExprShape SubscriptForm false) a ∷ es) (Over Plain p 2 ∷ []))
effect_make_subscript es = None

abbrev pub effect_make_slice_from : List Entry → Option Effect
effect_make_slice_from (entry (TokenShape c) q ∷ entry (ExprShape f n) b ∷ entry (TokenShape t) p ∷ entry (ExprShape g m) a ∷ es) = Some (effect (entry (ExprShape (SliceForm false) false) a ∷ es) (Over Plain p 2 ∷ []))
effect_make_slice_from es = None

abbrev pub effect_make_slice : List Entry → Option Effect
effect_make_slice (entry (TokenShape c) q ∷ entry (TokenShape t) p ∷ entry (ExprShape g m) a ∷ es) = Some (effect (entry (ExprShape (SliceForm false) false) a ∷ es) (Over Plain p 1 ∷ []))
effect_make_slice es = None

abbrev pub effect_add_upper : List Entry → Option Effect
effect_add_upper (entry (TokenShape c) q ∷ entry (ExprShape f n) b ∷ entry (ExprShape (SliceForm false) m) a ∷ es) = Some (effect (entry (ExprShape (SliceForm true) false) a ∷ es) (Join Plain ∷ []))
effect_add_upper es = None

abbrev pub effect_prefix : List Entry → Option Effect
effect_prefix (entry (ExprShape f n) a ∷ entry (TokenShape t) p ∷ es) = Some (effect (entry (ExprShape OtherForm false) p ∷ es) (Over Plain p 1 ∷ []))
effect_prefix es = None

abbrev pub effect_infix : ExprForm → List Entry → Option Effect
effect_infix form (entry (ExprShape f n) b ∷ entry (TokenShape t) p ∷ entry (ExprShape g m) a ∷ es) = Some (effect (entry (ExprShape form false) a ∷ es) (Over Plain p 2 ∷ []))
effect_infix form es = None

abbrev pub effect_make_sign : List Entry → Option Effect
effect_make_sign (entry (TokenShape t) p ∷ es) = Some (effect (entry SignShape p ∷ es) [])
effect_make_sign es = None

abbrev pub effect_make_long_sign : List Entry → Option Effect
effect_make_long_sign (entry (TokenShape c) q ∷ entry (TokenShape t) p ∷ es) = Some (effect (entry SignShape p ∷ es) [])
effect_make_long_sign es = None

abbrev pub effect_make_compare : List Entry → Option Effect
effect_make_compare (entry (ExprShape f n) b ∷ entry SignShape p ∷ entry (ExprShape g m) a ∷ es) = Some (effect (entry (ExprShape CompareForm false) a ∷ es) (Over Plain p 2 ∷ []))
effect_make_compare es = None

abbrev pub effect_add_link : List Entry → Option Effect
effect_add_link (entry (ExprShape f n) b ∷ entry SignShape q ∷ entry (ExprShape CompareForm m) a ∷ es) = Some (effect (entry (ExprShape CompareForm false) a ∷ es) (Join Plain ∷ []))
effect_add_link es = None

abbrev pub effect_add_and : List Entry → Option Effect
effect_add_and (entry (ExprShape f n) b ∷ entry (TokenShape c) q ∷ entry (ExprShape AndForm m) a ∷ es) = Some (effect (entry (ExprShape AndForm false) a ∷ es) (Join Plain ∷ []))
effect_add_and es = None

abbrev pub effect_add_or : List Entry → Option Effect
effect_add_or (entry (ExprShape f n) b ∷ entry (TokenShape c) q ∷ entry (ExprShape OrForm m) a ∷ es) = Some (effect (entry (ExprShape OrForm false) a ∷ es) (Join Plain ∷ []))
effect_add_or es = None

abbrev pub effect_make_conditional : List Entry → Option Effect
effect_make_conditional (entry (ExprShape f n) b ∷ entry (TokenShape c) q ∷ entry (ExprShape g m) d ∷ entry (TokenShape t) p ∷ entry (ExprShape i u) a ∷ es) = Some (effect (entry (ExprShape OtherForm false) a ∷ es) (Over Plain p 3 ∷ []))
effect_make_conditional es = None

abbrev pub effect_make_loop_name : List Entry → Option Effect
effect_make_loop_name (entry (TokenShape NameToken) q ∷ es) = Some (effect (entry (LoopTargetShape OneName true) nowhere ∷ es) (Over Plain q 0 ∷ []))
effect_make_loop_name es = None

abbrev pub effect_make_loop_names : List Entry → Option Effect
effect_make_loop_names (entry (TokenShape t) p ∷ entry (LoopTargetShape OneName m) b ∷ es) = Some (effect (entry (LoopTargetShape SomeNames true) nowhere ∷ es) (Gather 1 ∷ []))
effect_make_loop_names es = None

abbrev pub effect_add_loop_name : List Entry → Option Effect
effect_add_loop_name (entry (TokenShape NameToken) q ∷ entry (LoopTargetShape SomeNames true) b ∷ es) = Some (effect (entry (LoopTargetShape SomeNames true) nowhere ∷ es) (JoinGroup ∷ Over Plain q 0 ∷ []))
effect_add_loop_name es = None

abbrev pub effect_make_loop_parenthesis : List Entry → Option Effect
effect_make_loop_parenthesis (entry (TokenShape c) q ∷ entry (LoopTargetShape l m) b ∷ entry (TokenShape t) p ∷ es) = Some (effect (entry (LoopTargetShape NamesInBrackets true) nowhere ∷ es) (Over Plain p 1 ∷ []))
effect_make_loop_parenthesis es = None

abbrev pub effect_begin_body : List Entry → Option Effect
effect_begin_body es = Some (effect (entry (BodyShape false) nowhere ∷ es) (Gather 0 ∷ []))

abbrev pub effect_add_stmt : List Entry → Option Effect
effect_add_stmt (entry (StmtShape f m) b ∷ entry (BodyShape u) c ∷ es) = Some (effect (entry (BodyShape true) nowhere ∷ es) (JoinGroup ∷ []))
effect_add_stmt es = None

abbrev pub effect_make_expr_stmt : List Entry → Option Effect
effect_make_expr_stmt (entry (ExprShape f n) a ∷ es) = Some (effect (entry (StmtShape OtherStmt false) nowhere ∷ es) (Over Plain a 1 ∷ []))
effect_make_expr_stmt es = None

abbrev pub effect_make_targets : List Entry → Option Effect
effect_make_targets (entry (TokenShape c) q ∷ entry (ExprShape f n) a ∷ es) =
    if are_targets f then Some (effect (entry TargetsShape a ∷ es) (Gather 1 ∷ Assign ∷ [])) else None
effect_make_targets es = None

abbrev pub effect_add_targets : List Entry → Option Effect
effect_add_targets (entry (TokenShape c) q ∷ entry (ExprShape f n) b ∷ entry TargetsShape a ∷ es) =
    if are_targets f then Some (effect (entry TargetsShape a ∷ es) (JoinGroup ∷ Assign ∷ [])) else None
effect_add_targets es = None

abbrev pub effect_make_assign : List Entry → Option Effect
effect_make_assign (entry (ExprShape f n) b ∷ entry TargetsShape a ∷ es) = Some (effect (entry (StmtShape OtherStmt false) nowhere ∷ es) (Over Plain a 2 ∷ []))
effect_make_assign es = None

abbrev pub effect_make_augmented : List Entry → Option Effect
effect_make_augmented (entry (ExprShape f n) b ∷ entry (TokenShape c) q ∷ entry (ExprShape g m) a ∷ es) =
    if is_target g then Some (effect (entry (StmtShape OtherStmt false) nowhere ∷ es) (Over Plain a 2 ∷ [])) else None
effect_make_augmented es = None

abbrev pub effect_word : List Entry → Option Effect
effect_word (entry (TokenShape t) p ∷ es) = Some (effect (entry (StmtShape OtherStmt false) nowhere ∷ es) (Over Plain p 0 ∷ []))
effect_word es = None

abbrev pub effect_with_value : List Entry → Option Effect
effect_with_value (entry (ExprShape f n) a ∷ entry (TokenShape t) p ∷ es) = Some (effect (entry (StmtShape OtherStmt false) nowhere ∷ es) (Over Plain p 1 ∷ []))
effect_with_value es = None

abbrev pub effect_begin_global : List Entry → Option Effect
effect_begin_global (entry (TokenShape t) p ∷ es) = Some (effect (entry (StmtShape GlobalStmt false) nowhere ∷ es) (Over Plain p 0 ∷ []))
effect_begin_global es = None

abbrev pub effect_add_global : List Entry → Option Effect
effect_add_global (entry (TokenShape NameToken) q ∷ entry (StmtShape GlobalStmt m) b ∷ es) = Some (effect (entry (StmtShape GlobalStmt false) nowhere ∷ es) [])
effect_add_global es = None

abbrev pub effect_make_assert_message : List Entry → Option Effect
effect_make_assert_message (entry (ExprShape f n) b ∷ entry (TokenShape c) q ∷ entry (ExprShape g m) a ∷ entry (TokenShape t) p ∷ es) = Some (effect (entry (StmtShape OtherStmt false) nowhere ∷ es) (Over Plain p 2 ∷ []))
effect_make_assert_message es = None

abbrev pub effect_make_delete : List Entry → Option Effect
effect_make_delete (entry (ExprShape SubscriptForm n) a ∷ entry (TokenShape t) p ∷ es) = Some (effect (entry (StmtShape OtherStmt false) nowhere ∷ es) (Over Plain p 1 ∷ []))
effect_make_delete es = None

abbrev pub effect_make_if : List Entry → Option Effect
effect_make_if (entry (BodyShape u) a ∷ entry (BodyShape w) b ∷ entry (TokenShape c) q ∷ entry (ExprShape f n) d ∷ entry (TokenShape t) p ∷ es) = Some (effect (entry (StmtShape OtherStmt false) nowhere ∷ es) (Over Plain p 3 ∷ []))
effect_make_if es = None

abbrev pub effect_make_elif : List Entry → Option Effect
effect_make_elif (entry (BodyShape u) a ∷ entry (BodyShape w) b ∷ entry (TokenShape c) q ∷ entry (ExprShape f n) d ∷ entry (TokenShape t) p ∷ es) = Some (effect (entry (BodyShape true) nowhere ∷ es) (Gather 1 ∷ Over Plain p 3 ∷ []))
effect_make_elif es = None

abbrev pub effect_make_else : List Entry → Option Effect
effect_make_else (entry (BodyShape u) a ∷ entry (TokenShape c) q ∷ entry (TokenShape t) p ∷ es) = Some (effect (entry (BodyShape u) nowhere ∷ es) [])
effect_make_else es = None

abbrev pub effect_make_while : List Entry → Option Effect
effect_make_while (entry (BodyShape u) a ∷ entry (TokenShape c) q ∷ entry (ExprShape f n) d ∷ entry (TokenShape t) p ∷ es) = Some (effect (entry (StmtShape OtherStmt false) nowhere ∷ es) (Over Plain p 2 ∷ []))
effect_make_while es = None

abbrev pub effect_make_for : List Entry → Option Effect
effect_make_for (entry (BodyShape u) a ∷ entry (TokenShape c) q ∷ entry (ExprShape f n) d ∷ entry (TokenShape i) r ∷ entry (LoopTargetShape l m) b ∷ entry (TokenShape t) p ∷ es) = Some (effect (entry (StmtShape OtherStmt false) nowhere ∷ es) (Over Plain p 3 ∷ []))
effect_make_for es = None

abbrev pub effect_begin_try : List Entry → Option Effect
effect_begin_try (entry (BodyShape u) a ∷ entry (TokenShape c) q ∷ entry (TokenShape t) p ∷ es) = Some (effect (entry (StmtShape TryStmt false) nowhere ∷ es) (Over Plain p 1 ∷ []))
effect_begin_try es = None

abbrev pub effect_catch_all : List Entry → Option Effect
effect_catch_all (entry (BodyShape u) a ∷ entry (TokenShape c) q ∷ entry (TokenShape t) p ∷ entry (StmtShape TryStmt m) b ∷ es) = Some (effect (entry (StmtShape TryStmt false) nowhere ∷ es) (Join Plain ∷ []))
effect_catch_all es = None

abbrev pub effect_catch : List Entry → Option Effect
effect_catch (entry (BodyShape u) a ∷ entry (TokenShape c) q ∷ entry (ClassShape l) d ∷ entry (TokenShape t) p ∷ entry (StmtShape TryStmt m) b ∷ es) = Some (effect (entry (StmtShape TryStmt false) nowhere ∷ es) (Join Plain ∷ []))
effect_catch es = None

abbrev pub effect_catch_as : List Entry → Option Effect
effect_catch_as (entry (BodyShape u) a ∷ entry (TokenShape c) q ∷ entry (TokenShape NameToken) e ∷ entry (TokenShape i) r ∷ entry (ClassShape l) d ∷ entry (TokenShape t) p ∷ entry (StmtShape TryStmt m) b ∷ es) = Some (effect (entry (StmtShape TryStmt false) nowhere ∷ es) (Join Plain ∷ []))
effect_catch_as es = None

abbrev pub effect_make_class_name : List Entry → Option Effect
effect_make_class_name (entry (TokenShape NameToken) q ∷ es) = Some (effect (entry (ClassShape BareName) nowhere ∷ es) [])
effect_make_class_name es = None

abbrev pub effect_make_class_within : List Entry → Option Effect
effect_make_class_within (entry (TokenShape NameToken) q ∷ entry (TokenShape t) p ∷ entry (ClassShape BareName) b ∷ es) = Some (effect (entry (ClassShape DottedName) nowhere ∷ es) [])
effect_make_class_within es = None

abbrev pub effect_begin_def : List Entry → Option Effect
effect_begin_def (entry (TokenShape c) q ∷ entry (TokenShape NameToken) r ∷ entry (TokenShape t) p ∷ es) = Some (effect (entry (StmtShape DefStmt false) nowhere ∷ es) (Over Plain p 0 ∷ []))
effect_begin_def es = None

abbrev pub effect_add_parameter : List Entry → Option Effect
effect_add_parameter (entry (TokenShape NameToken) q ∷ entry (StmtShape DefStmt m) b ∷ es) = Some (effect (entry (StmtShape DefStmt m) nowhere ∷ es) [])
effect_add_parameter es = None

abbrev pub effect_add_default : List Entry → Option Effect
effect_add_default (entry (ExprShape f n) a ∷ entry (TokenShape c) q ∷ entry (TokenShape NameToken) r ∷ entry (StmtShape DefStmt false) b ∷ es) = Some (effect (entry (StmtShape DefStmt false) nowhere ∷ es) (Join Plain ∷ []))
effect_add_default es = None

abbrev pub effect_end_def : List Entry → Option Effect
effect_end_def (entry (BodyShape true) a ∷ entry (TokenShape c) q ∷ entry (TokenShape t) p ∷ entry (StmtShape DefStmt false) b ∷ es) = Some (effect (entry (StmtShape DefStmt true) nowhere ∷ es) (Join Plain ∷ []))
effect_end_def es = None

abbrev pub effect_begin_class : List Entry → Option Effect
effect_begin_class (entry (TokenShape NameToken) q ∷ entry (TokenShape t) p ∷ es) = Some (effect (entry (StmtShape ClassStmt false) nowhere ∷ es) (Over Plain p 0 ∷ []))
effect_begin_class es = None

abbrev pub effect_add_base : List Entry → Option Effect
effect_add_base (entry (TokenShape c) q ∷ entry (ClassShape l) d ∷ entry (TokenShape t) p ∷ entry (StmtShape ClassStmt m) b ∷ es) = Some (effect (entry (StmtShape ClassStmt m) nowhere ∷ es) [])
effect_add_base es = None

abbrev pub effect_end_class : List Entry → Option Effect
effect_end_class (entry (BodyShape true) a ∷ entry (TokenShape t) p ∷ entry (StmtShape ClassStmt false) b ∷ es) = Some (effect (entry (StmtShape ClassStmt true) nowhere ∷ es) (Join Plain ∷ []))
effect_end_class es = None

abbrev pub effect_begin_from : List Entry → Option Effect
effect_begin_from (entry (TokenShape c) q ∷ entry (TokenShape NameToken) r ∷ entry (TokenShape t) p ∷ es) = Some (effect (entry (StmtShape OtherStmt false) nowhere ∷ es) (Over Plain p 0 ∷ []))
effect_begin_from es = None

abbrev pub effect_add_imported : List Entry → Option Effect
effect_add_imported (entry (TokenShape NameToken) q ∷ entry (StmtShape f m) b ∷ es) = Some (effect (entry (StmtShape f m) nowhere ∷ es) [])
effect_add_imported es = None

abbrev pub effect_add_imported_as : List Entry → Option Effect
effect_add_imported_as (entry (TokenShape NameToken) q ∷ entry (TokenShape c) r ∷ entry (TokenShape NameToken) d ∷ entry (StmtShape f m) b ∷ es) = Some (effect (entry (StmtShape f m) nowhere ∷ es) [])
effect_add_imported_as es = None

abbrev pub effect_of : Action → List Entry → Option Effect
effect_of Drop es = effect_drop es
effect_of MakeLeaf es = effect_make_leaf es
effect_of MakeTrue es = effect_constant es
effect_of MakeFalse es = effect_constant es
effect_of MakeNone es = effect_constant es
effect_of MakeEmptyTuple es = effect_make_empty_tuple es
effect_of MakeParenthesis es = effect_bracket es
effect_of MakeTuple es = effect_make_tuple es
effect_of AddItem es = effect_add_item es
effect_of MakeEmptyList es = effect_make_empty_list es
effect_of MakeListOfOne es = effect_bracket es
effect_of MakeList es = effect_make_list es
effect_of BeginComprehension es = effect_begin_comprehension es
effect_of BeginLoop es = effect_begin_loop es
effect_of AddCondition es = effect_add_condition es
effect_of AddLoop es = effect_add_loop es
effect_of MakeEmptyDict es = effect_make_empty_dict es
effect_of BeginDict es = effect_begin_dict es
effect_of AddPair es = effect_add_pair es
effect_of MakeSetOfOne es = effect_make_set_of_one es
effect_of MakeSet es = effect_make_set es
effect_of MakeAttribute es = effect_make_attribute es
effect_of BeginCall es = effect_begin_call es
effect_of AddArgument es = effect_add_argument es
effect_of AddKeyword es = effect_add_keyword es
effect_of MakeSubscript es = effect_make_subscript es
effect_of MakeSliceFrom es = effect_make_slice_from es
effect_of MakeSlice es = effect_make_slice es
effect_of AddUpper es = effect_add_upper es
effect_of (MakeUnary o) es = effect_prefix es
effect_of (MakeBinary o) es = effect_infix OtherForm es
effect_of (MakeSign o) es = effect_make_sign es
effect_of (MakeLongSign o) es = effect_make_long_sign es
effect_of MakeCompare es = effect_make_compare es
effect_of AddLink es = effect_add_link es
effect_of MakeNot es = effect_prefix es
effect_of MakeAnd es = effect_infix AndForm es
effect_of AddAnd es = effect_add_and es
effect_of MakeOr es = effect_infix OrForm es
effect_of AddOr es = effect_add_or es
effect_of MakeConditional es = effect_make_conditional es
effect_of MakeLoopName es = effect_make_loop_name es
effect_of MakeLoopNames es = effect_make_loop_names es
effect_of AddLoopName es = effect_add_loop_name es
effect_of MakeLoopParenthesis es = effect_make_loop_parenthesis es
effect_of BeginBody es = effect_begin_body es
effect_of AddStmt es = effect_add_stmt es
effect_of MakeExprStmt es = effect_make_expr_stmt es
effect_of MakeTargets es = effect_make_targets es
effect_of AddTargets es = effect_add_targets es
effect_of MakeAssign es = effect_make_assign es
effect_of (MakeAugmented o) es = effect_make_augmented es
effect_of MakePass es = effect_word es
effect_of MakeBreak es = effect_word es
effect_of MakeContinue es = effect_word es
effect_of MakeReturn es = effect_word es
effect_of MakeReturnValue es = effect_with_value es
effect_of MakeRaise es = effect_with_value es
effect_of MakeYield es = effect_with_value es
effect_of BeginGlobal es = effect_begin_global es
effect_of AddGlobal es = effect_add_global es
effect_of MakeAssert es = effect_with_value es
effect_of MakeAssertMessage es = effect_make_assert_message es
effect_of MakeDelete es = effect_make_delete es
effect_of MakeIf es = effect_make_if es
effect_of MakeElif es = effect_make_elif es
effect_of MakeElse es = effect_make_else es
effect_of MakeWhile es = effect_make_while es
effect_of MakeFor es = effect_make_for es
effect_of BeginTry es = effect_begin_try es
effect_of CatchAll es = effect_catch_all es
effect_of Catch es = effect_catch es
effect_of CatchAs es = effect_catch_as es
effect_of MakeClassName es = effect_make_class_name es
effect_of MakeClassWithin es = effect_make_class_within es
effect_of BeginDef es = effect_begin_def es
effect_of AddParameter es = effect_add_parameter es
effect_of AddDefault es = effect_add_default es
effect_of EndDef es = effect_end_def es
effect_of BeginClass es = effect_begin_class es
effect_of AddBase es = effect_add_base es
effect_of EndClass es = effect_end_class es
effect_of BeginImport es = effect_word es
effect_of BeginFrom es = effect_begin_from es
effect_of AddImported es = effect_add_imported es
effect_of AddImportedAs es = effect_add_imported_as es

-- outlines after events, the last of which stands first
abbrev pub after_all : List Event → Option (List Outline) → Option (List Outline)
after_all [] os = os
after_all (e ∷ events) os = after e (after_all events os)

-- the entries of these parts, and outlines that become theirs
abbrev pub Keeps : Parts → Parts → Effect → Type 0
Keeps v w (effect es events) = (entries_of w ≡ es) × (after_all events (Some (outlines_of v)) ≡ Some (outlines_of w))

-- where an action has an effect, the effect is that of the action
abbrev pub EffectLaw : Type 0
EffectLaw = (a : Action) (v : Parts) (r : Effect) → effect_of a (entries_of v) ≡ Some r → Keeps v (act a v) r
