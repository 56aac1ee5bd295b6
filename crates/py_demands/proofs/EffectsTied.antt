-- What an action asks of parts is what its steps ask of their outlines, and the node that it brings stands at a token.
use Rattle.std.proofs.Common.{◌≡◌, ℕ, max, ◌≤◌, Bool, true, false, ◌&&◌, List, [], ◌∷◌, length, Option, Some, None, refl, sym, subst, if◌then◌else◌, arith}
use Rattle.py_tokens.specs.Token.{Place}
use Rattle.py_syntax.specs.Tree.{UnaryOperator, BinaryOperator, ComparisonOperator}
use Rattle.py_syntax.specs.Build.{Action, Drop, MakeLeaf, MakeTrue, MakeFalse, MakeNone, MakeEmptyTuple, MakeParenthesis, MakeTuple, AddItem, MakeEmptyList, MakeListOfOne, MakeList, BeginComprehension, BeginLoop, AddCondition, AddLoop, MakeEmptyDict, BeginDict, AddPair, MakeSetOfOne, MakeSet, MakeAttribute, BeginCall, AddArgument, AddKeyword, MakeSubscript, MakeSliceFrom, MakeSlice, AddUpper, MakeUnary, MakeBinary, MakeSign, MakeLongSign, MakeCompare, AddLink, MakeNot, MakeAnd, AddAnd, MakeOr, AddOr, MakeConditional, MakeLoopName, MakeLoopNames, AddLoopName, MakeLoopParenthesis, BeginBody, AddStmt, MakeExprStmt, MakeTargets, AddTargets, MakeAssign, MakeAugmented, MakePass, MakeBreak, MakeContinue, MakeReturn, MakeReturnValue, MakeRaise, MakeYield, BeginGlobal, AddGlobal, MakeAssert, MakeAssertMessage, MakeDelete, MakeIf, MakeElif, MakeElse, MakeWhile, MakeFor, BeginTry, CatchAll, Catch, CatchAs, MakeClassName, MakeClassWithin, BeginDef, AddParameter, AddDefault, EndDef, BeginClass, AddBase, EndClass, BeginImport, BeginFrom, AddImported, AddImportedAs}
use Rattle.py_nesting.specs.Forms.{TokenForm, NameToken, LiteralToken, NameForm, TargetForm, SubscriptForm, TupleForm, BracketForm, ComprehensionForm, DictForm, CallForm, SliceForm, CompareForm, AndForm, OrForm, OtherForm, OneName, SomeNames, NamesInBrackets, BareName, DottedName, GlobalStmt, TryStmt, DefStmt, ClassStmt, OtherStmt, is_target, are_targets}
use Rattle.py_nesting.specs.Depths.{here}
use Rattle.py_nesting.specs.Outlines.{Plain, Bracket, Tuple, Event, Over, Gather, Join, JoinGroup, Loosen, Assign, Forget}
use Rattle.py_nesting.specs.TreeOutlines.{leaf}
use Rattle.py_nesting.specs.Shapes.{TokenShape, ExprShape, SignShape, LoopShape, LoopTargetShape, TargetsShape, ClassShape, StmtShape, BodyShape, nowhere, Entry, entry}
use Rattle.py_nesting.specs.Effects.{Effect, effect, effect_of, effect_add_and, effect_add_argument, effect_add_base, effect_add_condition, effect_add_default, effect_add_global, effect_add_imported, effect_add_imported_as, effect_add_item, effect_add_keyword, effect_add_link, effect_add_loop, effect_add_loop_name, effect_add_or, effect_add_pair, effect_add_parameter, effect_add_stmt, effect_add_targets, effect_add_upper, effect_begin_body, effect_begin_call, effect_begin_class, effect_begin_comprehension, effect_begin_def, effect_begin_dict, effect_begin_from, effect_begin_global, effect_begin_loop, effect_begin_try, effect_bracket, effect_catch, effect_catch_all, effect_catch_as, effect_constant, effect_drop, effect_end_class, effect_end_def, effect_infix, effect_make_assert_message, effect_make_assign, effect_make_attribute, effect_make_augmented, effect_make_class_name, effect_make_class_within, effect_make_compare, effect_make_conditional, effect_make_delete, effect_make_elif, effect_make_else, effect_make_empty_dict, effect_make_empty_list, effect_make_empty_tuple, effect_make_expr_stmt, effect_make_for, effect_make_if, effect_make_leaf, effect_make_list, effect_make_long_sign, effect_make_loop_name, effect_make_loop_names, effect_make_loop_parenthesis, effect_make_set, effect_make_set_of_one, effect_make_sign, effect_make_slice, effect_make_slice_from, effect_make_subscript, effect_make_targets, effect_make_tuple, effect_make_while, effect_prefix, effect_with_value, effect_word}
use Rattle.py_nesting.specs.Walk.{Demand, raise, demanded, within, comes, met, met_depth}
use Rattle.py_nesting.proofs.EffectsKept.{no_effect}
use Rattle.py_fronts.specs.AtFront.{asked, nodes_of}
use Rattle.py_demands.specs.Roles.{at_token, asked_before}
use Rattle.py_demands.specs.Asks.{of_outlines, tokens_depth, starts_depth}

abbrev pub Ties : Action → List Entry → List Entry → List Event → List Demand → Type 0
Ties a es new events ds =
    (asked events (of_outlines new ds) ≡ of_outlines es (asked_before a ds))
    × ((at : Place → Bool) → tokens_depth at es (asked_before a ds) ≤ max (tokens_depth at new ds) (met_depth at (nodes_of events (of_outlines new ds))))
    × (length ds ≡ length new → length (asked_before a ds) ≡ length es)
    × ((at : Place → Bool) → max (tokens_depth at new ds) (met_depth at (nodes_of events (of_outlines new ds))) ≤ max (tokens_depth at es (asked_before a ds)) (starts_depth at a es ds))

abbrev pub Tied : Action → List Entry → Effect → Type 0
Tied a es (effect new events) = (ds : List Demand) → Ties a es new events ds

by_demands : (a : Action) (es new : List Entry) (events : List Event) → Ties a es new events [] → ((d : Demand) (ds : List Demand) → Ties a es new events (d ∷ ds)) → Tied a es (effect new events)
by_demands a es new events none some [] = none
by_demands a es new events none some (d ∷ ds) = some d ds

found : (a : Action) (es new : List Entry) (events : List Event) (r : Effect) → Some (effect new events) ≡ Some r → Tied a es (effect new events) → Tied a es r
found a es new events r h t = let is : effect new events ≡ r = cc in subst (Tied a es) is t

found_if : (b : Bool) (a : Action) (es new : List Entry) (events : List Event) (r : Effect) → (if b then Some (effect new events) else None) ≡ Some r → Tied a es (effect new events) → Tied a es r
found_if true a es new events r h t = found a es new events r h t
found_if false a es new events r h t = absurd (cc)

token_met : (at : Place → Bool) (p : Place) (o : Option ℕ) → demanded at (at_token o) (leaf p) ≡ met_depth at (met p o [])
token_met at p None = refl
token_met at p (Some n) = go (at p)
  where
    go : (b : Bool) → raise n (max (here b) 0) ≡ max (raise n (here b)) 0
    go true = omega arith
    go false = refl

none_asked : (es : List Entry) → of_outlines es [] ≡ []
none_asked [] = refl
none_asked (e ∷ es) = refl

no_tokens : (at : Place → Bool) (es : List Entry) → tokens_depth at es [] ≡ 0
no_tokens at [] = refl
no_tokens at (e ∷ es) = refl

begun : (es : List Entry) (ds : List Demand) → Ties BeginBody es (entry (BodyShape false) nowhere ∷ es) (Gather 0 ∷ []) ds
begun es [] = (sym (none_asked es), (λ at. omega (arith, no_tokens at es)), (λ n. absurd (omega arith)), (λ at. omega (arith, no_tokens at es)))
begun es (d ∷ ds) = (refl, (λ at. omega arith), (λ n. omega arith), (λ at. omega arith))

dropped : (t : TokenForm) (p : Place) (es : List Entry) (ds : List Demand) → Ties Drop (entry (TokenShape t) p ∷ es) es [] ds
dropped t p es ds = (refl, (λ at. omega arith), (λ n. omega arith), (λ at. omega arith))

tied_drop : (es : List Entry) (r : Effect) → effect_drop es ≡ Some r → Tied Drop es r
tied_drop (entry (TokenShape t) p ∷ es) made h = found Drop (entry (TokenShape t) p ∷ es) _ _ made h (λ ds. dropped t p es ds)
tied_drop es made h = no_effect h

tied_make_leaf : (es : List Entry) (r : Effect) → effect_make_leaf es ≡ Some r → Tied MakeLeaf es r
tied_make_leaf (entry (TokenShape NameToken) p ∷ es) made h = found MakeLeaf (entry (TokenShape NameToken) p ∷ es) _ _ made h (by_demands MakeLeaf (entry (TokenShape NameToken) p ∷ es) (entry (ExprShape NameForm false) p ∷ es) (Over Plain p 0 ∷ []) (refl, (λ at. omega arith), (λ n. absurd (omega arith)), (λ at. omega arith)) (λ d ds. (refl, (λ at. omega (arith, token_met at p (comes Plain d))), (λ n. omega arith), (λ at. omega (arith, token_met at p (comes Plain d))))))
tied_make_leaf (entry (TokenShape LiteralToken) p ∷ es) made h = found MakeLeaf (entry (TokenShape LiteralToken) p ∷ es) _ _ made h (by_demands MakeLeaf (entry (TokenShape LiteralToken) p ∷ es) (entry (ExprShape OtherForm false) p ∷ es) (Over Plain p 0 ∷ []) (refl, (λ at. omega arith), (λ n. absurd (omega arith)), (λ at. omega arith)) (λ d ds. (refl, (λ at. omega (arith, token_met at p (comes Plain d))), (λ n. omega arith), (λ at. omega (arith, token_met at p (comes Plain d))))))
tied_make_leaf es made h = no_effect h

tied_make_true : (es : List Entry) (r : Effect) → effect_constant es ≡ Some r → Tied MakeTrue es r
tied_make_true (entry (TokenShape t) p ∷ es) made h = found MakeTrue (entry (TokenShape t) p ∷ es) _ _ made h (by_demands MakeTrue (entry (TokenShape t) p ∷ es) (entry (ExprShape OtherForm false) p ∷ es) (Over Plain p 0 ∷ []) (refl, (λ at. omega arith), (λ n. absurd (omega arith)), (λ at. omega arith)) (λ d ds. (refl, (λ at. omega (arith, token_met at p (comes Plain d))), (λ n. omega arith), (λ at. omega (arith, token_met at p (comes Plain d))))))
tied_make_true es made h = no_effect h

tied_make_false : (es : List Entry) (r : Effect) → effect_constant es ≡ Some r → Tied MakeFalse es r
tied_make_false (entry (TokenShape t) p ∷ es) made h = found MakeFalse (entry (TokenShape t) p ∷ es) _ _ made h (by_demands MakeFalse (entry (TokenShape t) p ∷ es) (entry (ExprShape OtherForm false) p ∷ es) (Over Plain p 0 ∷ []) (refl, (λ at. omega arith), (λ n. absurd (omega arith)), (λ at. omega arith)) (λ d ds. (refl, (λ at. omega (arith, token_met at p (comes Plain d))), (λ n. omega arith), (λ at. omega (arith, token_met at p (comes Plain d))))))
tied_make_false es made h = no_effect h

tied_make_none : (es : List Entry) (r : Effect) → effect_constant es ≡ Some r → Tied MakeNone es r
tied_make_none (entry (TokenShape t) p ∷ es) made h = found MakeNone (entry (TokenShape t) p ∷ es) _ _ made h (by_demands MakeNone (entry (TokenShape t) p ∷ es) (entry (ExprShape OtherForm false) p ∷ es) (Over Plain p 0 ∷ []) (refl, (λ at. omega arith), (λ n. absurd (omega arith)), (λ at. omega arith)) (λ d ds. (refl, (λ at. omega (arith, token_met at p (comes Plain d))), (λ n. omega arith), (λ at. omega (arith, token_met at p (comes Plain d))))))
tied_make_none es made h = no_effect h

tied_make_empty_tuple : (es : List Entry) (r : Effect) → effect_make_empty_tuple es ≡ Some r → Tied MakeEmptyTuple es r
tied_make_empty_tuple (entry (TokenShape c) q ∷ entry (TokenShape t) p ∷ es) made h = found MakeEmptyTuple (entry (TokenShape c) q ∷ entry (TokenShape t) p ∷ es) _ _ made h (by_demands MakeEmptyTuple (entry (TokenShape c) q ∷ entry (TokenShape t) p ∷ es) (entry (ExprShape OtherForm false) p ∷ es) (Over Plain p 0 ∷ []) (refl, (λ at. omega arith), (λ n. absurd (omega arith)), (λ at. omega arith)) (λ d ds. (refl, (λ at. omega (arith, token_met at p (comes Plain d))), (λ n. omega arith), (λ at. omega (arith, token_met at p (comes Plain d))))))
tied_make_empty_tuple es made h = no_effect h

tied_make_parenthesis : (es : List Entry) (r : Effect) → effect_bracket es ≡ Some r → Tied MakeParenthesis es r
tied_make_parenthesis (entry (TokenShape c) q ∷ entry (ExprShape f n) a ∷ entry (TokenShape t) p ∷ es) made h = found MakeParenthesis (entry (TokenShape c) q ∷ entry (ExprShape f n) a ∷ entry (TokenShape t) p ∷ es) _ _ made h (by_demands MakeParenthesis (entry (TokenShape c) q ∷ entry (ExprShape f n) a ∷ entry (TokenShape t) p ∷ es) (entry (ExprShape (BracketForm (are_targets f)) false) p ∷ es) (Over Bracket p 1 ∷ []) (refl, (λ at. omega arith), (λ n. absurd (omega arith)), (λ at. omega arith)) (λ d ds. (refl, (λ at. omega (arith, token_met at p (comes Bracket d))), (λ n. omega arith), (λ at. omega (arith, token_met at p (comes Bracket d))))))
tied_make_parenthesis es made h = no_effect h

tied_make_tuple : (es : List Entry) (r : Effect) → effect_make_tuple es ≡ Some r → Tied MakeTuple es r
tied_make_tuple (entry (TokenShape t) p ∷ entry (ExprShape f n) a ∷ es) made h = found MakeTuple (entry (TokenShape t) p ∷ entry (ExprShape f n) a ∷ es) _ _ made h (by_demands MakeTuple (entry (TokenShape t) p ∷ entry (ExprShape f n) a ∷ es) (entry (ExprShape (TupleForm (is_target f)) false) a ∷ es) (Over Tuple p 1 ∷ []) (refl, (λ at. omega arith), (λ n. absurd (omega arith)), (λ at. omega arith)) (λ d ds. (refl, (λ at. omega (arith, token_met at p (comes Tuple d))), (λ n. omega arith), (λ at. omega (arith, token_met at p (comes Tuple d))))))
tied_make_tuple es made h = no_effect h

tied_add_item : (es : List Entry) (r : Effect) → effect_add_item es ≡ Some r → Tied AddItem es r
tied_add_item (entry (ExprShape f n) b ∷ entry (ExprShape (TupleForm u) false) a ∷ es) made h = found AddItem (entry (ExprShape f n) b ∷ entry (ExprShape (TupleForm u) false) a ∷ es) _ _ made h (by_demands AddItem (entry (ExprShape f n) b ∷ entry (ExprShape (TupleForm u) false) a ∷ es) (entry (ExprShape (TupleForm (u && is_target f)) false) a ∷ es) (Join Tuple ∷ []) (refl, (λ at. omega arith), (λ n. absurd (omega arith)), (λ at. omega arith)) (λ d ds. (refl, (λ at. omega (arith)), (λ n. omega arith), (λ at. omega (arith)))))
tied_add_item es made h = no_effect h

tied_make_empty_list : (es : List Entry) (r : Effect) → effect_make_empty_list es ≡ Some r → Tied MakeEmptyList es r
tied_make_empty_list (entry (TokenShape c) q ∷ entry (TokenShape t) p ∷ es) made h = found MakeEmptyList (entry (TokenShape c) q ∷ entry (TokenShape t) p ∷ es) _ _ made h (by_demands MakeEmptyList (entry (TokenShape c) q ∷ entry (TokenShape t) p ∷ es) (entry (ExprShape (BracketForm false) false) p ∷ es) (Over Bracket p 0 ∷ []) (refl, (λ at. omega arith), (λ n. absurd (omega arith)), (λ at. omega arith)) (λ d ds. (refl, (λ at. omega (arith, token_met at p (comes Bracket d))), (λ n. omega arith), (λ at. omega (arith, token_met at p (comes Bracket d))))))
tied_make_empty_list es made h = no_effect h

tied_make_list_of_one : (es : List Entry) (r : Effect) → effect_bracket es ≡ Some r → Tied MakeListOfOne es r
tied_make_list_of_one (entry (TokenShape c) q ∷ entry (ExprShape f n) a ∷ entry (TokenShape t) p ∷ es) made h = found MakeListOfOne (entry (TokenShape c) q ∷ entry (ExprShape f n) a ∷ entry (TokenShape t) p ∷ es) _ _ made h (by_demands MakeListOfOne (entry (TokenShape c) q ∷ entry (ExprShape f n) a ∷ entry (TokenShape t) p ∷ es) (entry (ExprShape (BracketForm (are_targets f)) false) p ∷ es) (Over Bracket p 1 ∷ []) (refl, (λ at. omega arith), (λ n. absurd (omega arith)), (λ at. omega arith)) (λ d ds. (refl, (λ at. omega (arith, token_met at p (comes Bracket d))), (λ n. omega arith), (λ at. omega (arith, token_met at p (comes Bracket d))))))
tied_make_list_of_one es made h = no_effect h

tied_make_list : (es : List Entry) (r : Effect) → effect_make_list es ≡ Some r → Tied MakeList es r
tied_make_list (entry (TokenShape c) q ∷ entry (ExprShape (TupleForm u) n) a ∷ entry (TokenShape t) p ∷ es) made h = found MakeList (entry (TokenShape c) q ∷ entry (ExprShape (TupleForm u) n) a ∷ entry (TokenShape t) p ∷ es) _ _ made h (by_demands MakeList (entry (TokenShape c) q ∷ entry (ExprShape (TupleForm u) n) a ∷ entry (TokenShape t) p ∷ es) (entry (ExprShape (BracketForm u) false) p ∷ es) (Over Bracket p 1 ∷ Loosen ∷ []) (refl, (λ at. omega arith), (λ n. absurd (omega arith)), (λ at. omega arith)) (λ d ds. (refl, (λ at. omega (arith, token_met at p (comes Bracket d))), (λ n. omega arith), (λ at. omega (arith, token_met at p (comes Bracket d))))))
tied_make_list es made h = no_effect h

tied_begin_comprehension : (es : List Entry) (r : Effect) → effect_begin_comprehension es ≡ Some r → Tied BeginComprehension es r
tied_begin_comprehension (entry (ExprShape f n) a ∷ entry (TokenShape t) p ∷ es) made h = found BeginComprehension (entry (ExprShape f n) a ∷ entry (TokenShape t) p ∷ es) _ _ made h (by_demands BeginComprehension (entry (ExprShape f n) a ∷ entry (TokenShape t) p ∷ es) (entry (ExprShape ComprehensionForm false) p ∷ es) (Over Plain p 1 ∷ []) (refl, (λ at. omega arith), (λ n. absurd (omega arith)), (λ at. omega arith)) (λ d ds. (refl, (λ at. omega (arith, token_met at p (comes Plain d))), (λ n. omega arith), (λ at. omega (arith, token_met at p (comes Plain d))))))
tied_begin_comprehension es made h = no_effect h

tied_begin_loop : (es : List Entry) (r : Effect) → effect_begin_loop es ≡ Some r → Tied BeginLoop es r
tied_begin_loop (entry (ExprShape f n) a ∷ entry (TokenShape c) q ∷ entry (LoopTargetShape l m) b ∷ entry (TokenShape t) p ∷ es) made h = found BeginLoop (entry (ExprShape f n) a ∷ entry (TokenShape c) q ∷ entry (LoopTargetShape l m) b ∷ entry (TokenShape t) p ∷ es) _ _ made h (by_demands BeginLoop (entry (ExprShape f n) a ∷ entry (TokenShape c) q ∷ entry (LoopTargetShape l m) b ∷ entry (TokenShape t) p ∷ es) (entry LoopShape nowhere ∷ es) (Gather 2 ∷ []) (refl, (λ at. omega arith), (λ n. absurd (omega arith)), (λ at. omega arith)) (λ d ds. (refl, (λ at. omega (arith)), (λ n. omega arith), (λ at. omega (arith)))))
tied_begin_loop es made h = no_effect h

tied_add_condition : (es : List Entry) (r : Effect) → effect_add_condition es ≡ Some r → Tied AddCondition es r
tied_add_condition (entry (ExprShape f n) a ∷ entry (TokenShape c) q ∷ entry LoopShape b ∷ es) made h = found AddCondition (entry (ExprShape f n) a ∷ entry (TokenShape c) q ∷ entry LoopShape b ∷ es) _ _ made h (by_demands AddCondition (entry (ExprShape f n) a ∷ entry (TokenShape c) q ∷ entry LoopShape b ∷ es) (entry LoopShape nowhere ∷ es) (JoinGroup ∷ []) (refl, (λ at. omega arith), (λ n. absurd (omega arith)), (λ at. omega arith)) (λ d ds. (refl, (λ at. omega (arith)), (λ n. omega arith), (λ at. omega (arith)))))
tied_add_condition es made h = no_effect h

tied_add_loop : (es : List Entry) (r : Effect) → effect_add_loop es ≡ Some r → Tied AddLoop es r
tied_add_loop (entry LoopShape b ∷ entry (ExprShape ComprehensionForm n) a ∷ es) made h = found AddLoop (entry LoopShape b ∷ entry (ExprShape ComprehensionForm n) a ∷ es) _ _ made h (by_demands AddLoop (entry LoopShape b ∷ entry (ExprShape ComprehensionForm n) a ∷ es) (entry (ExprShape ComprehensionForm false) a ∷ es) (Join Plain ∷ []) (refl, (λ at. omega arith), (λ n. absurd (omega arith)), (λ at. omega arith)) (λ d ds. (refl, (λ at. omega (arith)), (λ n. omega arith), (λ at. omega (arith)))))
tied_add_loop es made h = no_effect h

tied_make_empty_dict : (es : List Entry) (r : Effect) → effect_make_empty_dict es ≡ Some r → Tied MakeEmptyDict es r
tied_make_empty_dict (entry (TokenShape c) q ∷ entry (TokenShape t) p ∷ es) made h = found MakeEmptyDict (entry (TokenShape c) q ∷ entry (TokenShape t) p ∷ es) _ _ made h (by_demands MakeEmptyDict (entry (TokenShape c) q ∷ entry (TokenShape t) p ∷ es) (entry (ExprShape DictForm false) p ∷ es) (Over Plain p 0 ∷ []) (refl, (λ at. omega arith), (λ n. absurd (omega arith)), (λ at. omega arith)) (λ d ds. (refl, (λ at. omega (arith, token_met at p (comes Plain d))), (λ n. omega arith), (λ at. omega (arith, token_met at p (comes Plain d))))))
tied_make_empty_dict es made h = no_effect h

tied_begin_dict : (es : List Entry) (r : Effect) → effect_begin_dict es ≡ Some r → Tied BeginDict es r
tied_begin_dict (entry (ExprShape f n) a ∷ entry (TokenShape c) q ∷ entry (ExprShape g m) b ∷ entry (TokenShape t) p ∷ es) made h = found BeginDict (entry (ExprShape f n) a ∷ entry (TokenShape c) q ∷ entry (ExprShape g m) b ∷ entry (TokenShape t) p ∷ es) _ _ made h (by_demands BeginDict (entry (ExprShape f n) a ∷ entry (TokenShape c) q ∷ entry (ExprShape g m) b ∷ entry (TokenShape t) p ∷ es) (entry (ExprShape DictForm false) p ∷ es) (Over Plain p 1 ∷ Gather 2 ∷ []) (refl, (λ at. omega arith), (λ n. absurd (omega arith)), (λ at. omega arith)) (λ d ds. (refl, (λ at. omega (arith, token_met at p (comes Plain d))), (λ n. omega arith), (λ at. omega (arith, token_met at p (comes Plain d))))))
tied_begin_dict es made h = no_effect h

tied_add_pair : (es : List Entry) (r : Effect) → effect_add_pair es ≡ Some r → Tied AddPair es r
tied_add_pair (entry (ExprShape f n) b ∷ entry (TokenShape c) q ∷ entry (ExprShape g m) d ∷ entry (ExprShape DictForm u) a ∷ es) made h = found AddPair (entry (ExprShape f n) b ∷ entry (TokenShape c) q ∷ entry (ExprShape g m) d ∷ entry (ExprShape DictForm u) a ∷ es) _ _ made h (by_demands AddPair (entry (ExprShape f n) b ∷ entry (TokenShape c) q ∷ entry (ExprShape g m) d ∷ entry (ExprShape DictForm u) a ∷ es) (entry (ExprShape DictForm false) a ∷ es) (Join Plain ∷ Gather 2 ∷ []) (refl, (λ at. omega arith), (λ n. absurd (omega arith)), (λ at. omega arith)) (λ d ds. (refl, (λ at. omega (arith)), (λ n. omega arith), (λ at. omega (arith)))))
tied_add_pair es made h = no_effect h

tied_make_set_of_one : (es : List Entry) (r : Effect) → effect_make_set_of_one es ≡ Some r → Tied MakeSetOfOne es r
tied_make_set_of_one (entry (TokenShape c) q ∷ entry (ExprShape f n) a ∷ entry (TokenShape t) p ∷ es) made h = found MakeSetOfOne (entry (TokenShape c) q ∷ entry (ExprShape f n) a ∷ entry (TokenShape t) p ∷ es) _ _ made h (by_demands MakeSetOfOne (entry (TokenShape c) q ∷ entry (ExprShape f n) a ∷ entry (TokenShape t) p ∷ es) (entry (ExprShape OtherForm false) p ∷ es) (Over Plain p 1 ∷ Gather 1 ∷ []) (refl, (λ at. omega arith), (λ n. absurd (omega arith)), (λ at. omega arith)) (λ d ds. (refl, (λ at. omega (arith, token_met at p (comes Plain d))), (λ n. omega arith), (λ at. omega (arith, token_met at p (comes Plain d))))))
tied_make_set_of_one es made h = no_effect h

tied_make_set : (es : List Entry) (r : Effect) → effect_make_set es ≡ Some r → Tied MakeSet es r
tied_make_set (entry (TokenShape c) q ∷ entry (ExprShape (TupleForm u) n) a ∷ entry (TokenShape t) p ∷ es) made h = found MakeSet (entry (TokenShape c) q ∷ entry (ExprShape (TupleForm u) n) a ∷ entry (TokenShape t) p ∷ es) _ _ made h (by_demands MakeSet (entry (TokenShape c) q ∷ entry (ExprShape (TupleForm u) n) a ∷ entry (TokenShape t) p ∷ es) (entry (ExprShape OtherForm false) p ∷ es) (Over Plain p 1 ∷ Loosen ∷ []) (refl, (λ at. omega arith), (λ n. absurd (omega arith)), (λ at. omega arith)) (λ d ds. (refl, (λ at. omega (arith, token_met at p (comes Plain d))), (λ n. omega arith), (λ at. omega (arith, token_met at p (comes Plain d))))))
tied_make_set es made h = no_effect h

tied_make_attribute : (es : List Entry) (r : Effect) → effect_make_attribute es ≡ Some r → Tied MakeAttribute es r
tied_make_attribute (entry (TokenShape NameToken) q ∷ entry (TokenShape t) p ∷ entry (ExprShape f n) a ∷ es) made h = found MakeAttribute (entry (TokenShape NameToken) q ∷ entry (TokenShape t) p ∷ entry (ExprShape f n) a ∷ es) _ _ made h (by_demands MakeAttribute (entry (TokenShape NameToken) q ∷ entry (TokenShape t) p ∷ entry (ExprShape f n) a ∷ es) (entry (ExprShape TargetForm false) a ∷ es) (Over Plain p 1 ∷ []) (refl, (λ at. omega arith), (λ n. absurd (omega arith)), (λ at. omega arith)) (λ d ds. (refl, (λ at. omega (arith, token_met at p (comes Plain d))), (λ n. omega arith), (λ at. omega (arith, token_met at p (comes Plain d))))))
tied_make_attribute es made h = no_effect h

tied_begin_call : (es : List Entry) (r : Effect) → effect_begin_call es ≡ Some r → Tied BeginCall es r
tied_begin_call (entry (TokenShape t) p ∷ entry (ExprShape f n) a ∷ es) made h = found BeginCall (entry (TokenShape t) p ∷ entry (ExprShape f n) a ∷ es) _ _ made h (by_demands BeginCall (entry (TokenShape t) p ∷ entry (ExprShape f n) a ∷ es) (entry (ExprShape CallForm false) a ∷ es) (Over Plain p 1 ∷ []) (refl, (λ at. omega arith), (λ n. absurd (omega arith)), (λ at. omega arith)) (λ d ds. (refl, (λ at. omega (arith, token_met at p (comes Plain d))), (λ n. omega arith), (λ at. omega (arith, token_met at p (comes Plain d))))))
tied_begin_call es made h = no_effect h

tied_add_argument : (es : List Entry) (r : Effect) → effect_add_argument es ≡ Some r → Tied AddArgument es r
tied_add_argument (entry (ExprShape f n) b ∷ entry (ExprShape CallForm false) a ∷ es) made h = found AddArgument (entry (ExprShape f n) b ∷ entry (ExprShape CallForm false) a ∷ es) _ _ made h (by_demands AddArgument (entry (ExprShape f n) b ∷ entry (ExprShape CallForm false) a ∷ es) (entry (ExprShape CallForm false) a ∷ es) (Join Plain ∷ []) (refl, (λ at. omega arith), (λ n. absurd (omega arith)), (λ at. omega arith)) (λ d ds. (refl, (λ at. omega (arith)), (λ n. omega arith), (λ at. omega (arith)))))
tied_add_argument es made h = no_effect h

tied_add_keyword : (es : List Entry) (r : Effect) → effect_add_keyword es ≡ Some r → Tied AddKeyword es r
tied_add_keyword (entry (ExprShape f n) b ∷ entry (TokenShape c) q ∷ entry (ExprShape NameForm m) d ∷ entry (ExprShape CallForm u) a ∷ es) made h = found AddKeyword (entry (ExprShape f n) b ∷ entry (TokenShape c) q ∷ entry (ExprShape NameForm m) d ∷ entry (ExprShape CallForm u) a ∷ es) _ _ made h (by_demands AddKeyword (entry (ExprShape f n) b ∷ entry (TokenShape c) q ∷ entry (ExprShape NameForm m) d ∷ entry (ExprShape CallForm u) a ∷ es) (entry (ExprShape CallForm true) a ∷ es) (Join Plain ∷ Forget ∷ []) (refl, (λ at. omega arith), (λ n. absurd (omega arith)), (λ at. omega arith)) (λ d ds. (refl, (λ at. omega (arith)), (λ n. omega arith), (λ at. omega (arith)))))
tied_add_keyword es made h = no_effect h

tied_make_subscript : (es : List Entry) (r : Effect) → effect_make_subscript es ≡ Some r → Tied MakeSubscript es r
tied_make_subscript (entry (TokenShape c) q ∷ entry (ExprShape f n) b ∷ entry (TokenShape t) p ∷ entry (ExprShape g m) a ∷ es) made h = found MakeSubscript (entry (TokenShape c) q ∷ entry (ExprShape f n) b ∷ entry (TokenShape t) p ∷ entry (ExprShape g m) a ∷ es) _ _ made h (by_demands MakeSubscript (entry (TokenShape c) q ∷ entry (ExprShape f n) b ∷ entry (TokenShape t) p ∷ entry (ExprShape g m) a ∷ es) (entry (ExprShape SubscriptForm false) a ∷ es) (Over Plain p 2 ∷ []) (refl, (λ at. omega arith), (λ n. absurd (omega arith)), (λ at. omega arith)) (λ d ds. (refl, (λ at. omega (arith, token_met at p (comes Plain d))), (λ n. omega arith), (λ at. omega (arith, token_met at p (comes Plain d))))))
tied_make_subscript es made h = no_effect h

tied_make_slice_from : (es : List Entry) (r : Effect) → effect_make_slice_from es ≡ Some r → Tied MakeSliceFrom es r
tied_make_slice_from (entry (TokenShape c) q ∷ entry (ExprShape f n) b ∷ entry (TokenShape t) p ∷ entry (ExprShape g m) a ∷ es) made h = found MakeSliceFrom (entry (TokenShape c) q ∷ entry (ExprShape f n) b ∷ entry (TokenShape t) p ∷ entry (ExprShape g m) a ∷ es) _ _ made h (by_demands MakeSliceFrom (entry (TokenShape c) q ∷ entry (ExprShape f n) b ∷ entry (TokenShape t) p ∷ entry (ExprShape g m) a ∷ es) (entry (ExprShape (SliceForm false) false) a ∷ es) (Over Plain p 2 ∷ []) (refl, (λ at. omega arith), (λ n. absurd (omega arith)), (λ at. omega arith)) (λ d ds. (refl, (λ at. omega (arith, token_met at p (comes Plain d))), (λ n. omega arith), (λ at. omega (arith, token_met at p (comes Plain d))))))
tied_make_slice_from es made h = no_effect h

tied_make_slice : (es : List Entry) (r : Effect) → effect_make_slice es ≡ Some r → Tied MakeSlice es r
tied_make_slice (entry (TokenShape c) q ∷ entry (TokenShape t) p ∷ entry (ExprShape g m) a ∷ es) made h = found MakeSlice (entry (TokenShape c) q ∷ entry (TokenShape t) p ∷ entry (ExprShape g m) a ∷ es) _ _ made h (by_demands MakeSlice (entry (TokenShape c) q ∷ entry (TokenShape t) p ∷ entry (ExprShape g m) a ∷ es) (entry (ExprShape (SliceForm false) false) a ∷ es) (Over Plain p 1 ∷ []) (refl, (λ at. omega arith), (λ n. absurd (omega arith)), (λ at. omega arith)) (λ d ds. (refl, (λ at. omega (arith, token_met at p (comes Plain d))), (λ n. omega arith), (λ at. omega (arith, token_met at p (comes Plain d))))))
tied_make_slice es made h = no_effect h

tied_add_upper : (es : List Entry) (r : Effect) → effect_add_upper es ≡ Some r → Tied AddUpper es r
tied_add_upper (entry (TokenShape c) q ∷ entry (ExprShape f n) b ∷ entry (ExprShape (SliceForm false) m) a ∷ es) made h = found AddUpper (entry (TokenShape c) q ∷ entry (ExprShape f n) b ∷ entry (ExprShape (SliceForm false) m) a ∷ es) _ _ made h (by_demands AddUpper (entry (TokenShape c) q ∷ entry (ExprShape f n) b ∷ entry (ExprShape (SliceForm false) m) a ∷ es) (entry (ExprShape (SliceForm true) false) a ∷ es) (Join Plain ∷ []) (refl, (λ at. omega arith), (λ n. absurd (omega arith)), (λ at. omega arith)) (λ d ds. (refl, (λ at. omega (arith)), (λ n. omega arith), (λ at. omega (arith)))))
tied_add_upper es made h = no_effect h

tied_make_unary : (o : UnaryOperator) (es : List Entry) (r : Effect) → effect_prefix es ≡ Some r → Tied (MakeUnary o) es r
tied_make_unary o (entry (ExprShape f n) a ∷ entry (TokenShape t) p ∷ es) made h = found (MakeUnary o) (entry (ExprShape f n) a ∷ entry (TokenShape t) p ∷ es) _ _ made h (by_demands (MakeUnary o) (entry (ExprShape f n) a ∷ entry (TokenShape t) p ∷ es) (entry (ExprShape OtherForm false) p ∷ es) (Over Plain p 1 ∷ []) (refl, (λ at. omega arith), (λ n. absurd (omega arith)), (λ at. omega arith)) (λ d ds. (refl, (λ at. omega (arith, token_met at p (comes Plain d))), (λ n. omega arith), (λ at. omega (arith, token_met at p (comes Plain d))))))
tied_make_unary o es made h = no_effect h

tied_make_binary : (o : BinaryOperator) (es : List Entry) (r : Effect) → effect_infix OtherForm es ≡ Some r → Tied (MakeBinary o) es r
tied_make_binary o (entry (ExprShape f n) b ∷ entry (TokenShape t) p ∷ entry (ExprShape g m) a ∷ es) made h = found (MakeBinary o) (entry (ExprShape f n) b ∷ entry (TokenShape t) p ∷ entry (ExprShape g m) a ∷ es) _ _ made h (by_demands (MakeBinary o) (entry (ExprShape f n) b ∷ entry (TokenShape t) p ∷ entry (ExprShape g m) a ∷ es) (entry (ExprShape OtherForm false) a ∷ es) (Over Plain p 2 ∷ []) (refl, (λ at. omega arith), (λ n. absurd (omega arith)), (λ at. omega arith)) (λ d ds. (refl, (λ at. omega (arith, token_met at p (comes Plain d))), (λ n. omega arith), (λ at. omega (arith, token_met at p (comes Plain d))))))
tied_make_binary o es made h = no_effect h

tied_make_sign : (o : ComparisonOperator) (es : List Entry) (r : Effect) → effect_make_sign es ≡ Some r → Tied (MakeSign o) es r
tied_make_sign o (entry (TokenShape t) p ∷ es) made h = found (MakeSign o) (entry (TokenShape t) p ∷ es) _ _ made h (by_demands (MakeSign o) (entry (TokenShape t) p ∷ es) (entry SignShape p ∷ es) [] (refl, (λ at. omega arith), (λ n. absurd (omega arith)), (λ at. omega arith)) (λ d ds. (refl, (λ at. omega (arith)), (λ n. omega arith), (λ at. omega (arith)))))
tied_make_sign o es made h = no_effect h

tied_make_long_sign : (o : ComparisonOperator) (es : List Entry) (r : Effect) → effect_make_long_sign es ≡ Some r → Tied (MakeLongSign o) es r
tied_make_long_sign o (entry (TokenShape c) q ∷ entry (TokenShape t) p ∷ es) made h = found (MakeLongSign o) (entry (TokenShape c) q ∷ entry (TokenShape t) p ∷ es) _ _ made h (by_demands (MakeLongSign o) (entry (TokenShape c) q ∷ entry (TokenShape t) p ∷ es) (entry SignShape p ∷ es) [] (refl, (λ at. omega arith), (λ n. absurd (omega arith)), (λ at. omega arith)) (λ d ds. (refl, (λ at. omega (arith)), (λ n. omega arith), (λ at. omega (arith)))))
tied_make_long_sign o es made h = no_effect h

tied_make_compare : (es : List Entry) (r : Effect) → effect_make_compare es ≡ Some r → Tied MakeCompare es r
tied_make_compare (entry (ExprShape f n) b ∷ entry SignShape p ∷ entry (ExprShape g m) a ∷ es) made h = found MakeCompare (entry (ExprShape f n) b ∷ entry SignShape p ∷ entry (ExprShape g m) a ∷ es) _ _ made h (by_demands MakeCompare (entry (ExprShape f n) b ∷ entry SignShape p ∷ entry (ExprShape g m) a ∷ es) (entry (ExprShape CompareForm false) a ∷ es) (Over Plain p 2 ∷ []) (refl, (λ at. omega arith), (λ n. absurd (omega arith)), (λ at. omega arith)) (λ d ds. (refl, (λ at. omega (arith, token_met at p (comes Plain d))), (λ n. omega arith), (λ at. omega (arith, token_met at p (comes Plain d))))))
tied_make_compare es made h = no_effect h

tied_add_link : (es : List Entry) (r : Effect) → effect_add_link es ≡ Some r → Tied AddLink es r
tied_add_link (entry (ExprShape f n) b ∷ entry SignShape q ∷ entry (ExprShape CompareForm m) a ∷ es) made h = found AddLink (entry (ExprShape f n) b ∷ entry SignShape q ∷ entry (ExprShape CompareForm m) a ∷ es) _ _ made h (by_demands AddLink (entry (ExprShape f n) b ∷ entry SignShape q ∷ entry (ExprShape CompareForm m) a ∷ es) (entry (ExprShape CompareForm false) a ∷ es) (Join Plain ∷ []) (refl, (λ at. omega arith), (λ n. absurd (omega arith)), (λ at. omega arith)) (λ d ds. (refl, (λ at. omega (arith)), (λ n. omega arith), (λ at. omega (arith)))))
tied_add_link es made h = no_effect h

tied_make_not : (es : List Entry) (r : Effect) → effect_prefix es ≡ Some r → Tied MakeNot es r
tied_make_not (entry (ExprShape f n) a ∷ entry (TokenShape t) p ∷ es) made h = found MakeNot (entry (ExprShape f n) a ∷ entry (TokenShape t) p ∷ es) _ _ made h (by_demands MakeNot (entry (ExprShape f n) a ∷ entry (TokenShape t) p ∷ es) (entry (ExprShape OtherForm false) p ∷ es) (Over Plain p 1 ∷ []) (refl, (λ at. omega arith), (λ n. absurd (omega arith)), (λ at. omega arith)) (λ d ds. (refl, (λ at. omega (arith, token_met at p (comes Plain d))), (λ n. omega arith), (λ at. omega (arith, token_met at p (comes Plain d))))))
tied_make_not es made h = no_effect h

tied_make_and : (es : List Entry) (r : Effect) → effect_infix AndForm es ≡ Some r → Tied MakeAnd es r
tied_make_and (entry (ExprShape f n) b ∷ entry (TokenShape t) p ∷ entry (ExprShape g m) a ∷ es) made h = found MakeAnd (entry (ExprShape f n) b ∷ entry (TokenShape t) p ∷ entry (ExprShape g m) a ∷ es) _ _ made h (by_demands MakeAnd (entry (ExprShape f n) b ∷ entry (TokenShape t) p ∷ entry (ExprShape g m) a ∷ es) (entry (ExprShape AndForm false) a ∷ es) (Over Plain p 2 ∷ []) (refl, (λ at. omega arith), (λ n. absurd (omega arith)), (λ at. omega arith)) (λ d ds. (refl, (λ at. omega (arith, token_met at p (comes Plain d))), (λ n. omega arith), (λ at. omega (arith, token_met at p (comes Plain d))))))
tied_make_and es made h = no_effect h

tied_add_and : (es : List Entry) (r : Effect) → effect_add_and es ≡ Some r → Tied AddAnd es r
tied_add_and (entry (ExprShape f n) b ∷ entry (TokenShape c) q ∷ entry (ExprShape AndForm m) a ∷ es) made h = found AddAnd (entry (ExprShape f n) b ∷ entry (TokenShape c) q ∷ entry (ExprShape AndForm m) a ∷ es) _ _ made h (by_demands AddAnd (entry (ExprShape f n) b ∷ entry (TokenShape c) q ∷ entry (ExprShape AndForm m) a ∷ es) (entry (ExprShape AndForm false) a ∷ es) (Join Plain ∷ []) (refl, (λ at. omega arith), (λ n. absurd (omega arith)), (λ at. omega arith)) (λ d ds. (refl, (λ at. omega (arith)), (λ n. omega arith), (λ at. omega (arith)))))
tied_add_and es made h = no_effect h

tied_make_or : (es : List Entry) (r : Effect) → effect_infix OrForm es ≡ Some r → Tied MakeOr es r
tied_make_or (entry (ExprShape f n) b ∷ entry (TokenShape t) p ∷ entry (ExprShape g m) a ∷ es) made h = found MakeOr (entry (ExprShape f n) b ∷ entry (TokenShape t) p ∷ entry (ExprShape g m) a ∷ es) _ _ made h (by_demands MakeOr (entry (ExprShape f n) b ∷ entry (TokenShape t) p ∷ entry (ExprShape g m) a ∷ es) (entry (ExprShape OrForm false) a ∷ es) (Over Plain p 2 ∷ []) (refl, (λ at. omega arith), (λ n. absurd (omega arith)), (λ at. omega arith)) (λ d ds. (refl, (λ at. omega (arith, token_met at p (comes Plain d))), (λ n. omega arith), (λ at. omega (arith, token_met at p (comes Plain d))))))
tied_make_or es made h = no_effect h

tied_add_or : (es : List Entry) (r : Effect) → effect_add_or es ≡ Some r → Tied AddOr es r
tied_add_or (entry (ExprShape f n) b ∷ entry (TokenShape c) q ∷ entry (ExprShape OrForm m) a ∷ es) made h = found AddOr (entry (ExprShape f n) b ∷ entry (TokenShape c) q ∷ entry (ExprShape OrForm m) a ∷ es) _ _ made h (by_demands AddOr (entry (ExprShape f n) b ∷ entry (TokenShape c) q ∷ entry (ExprShape OrForm m) a ∷ es) (entry (ExprShape OrForm false) a ∷ es) (Join Plain ∷ []) (refl, (λ at. omega arith), (λ n. absurd (omega arith)), (λ at. omega arith)) (λ d ds. (refl, (λ at. omega (arith)), (λ n. omega arith), (λ at. omega (arith)))))
tied_add_or es made h = no_effect h

tied_make_conditional : (es : List Entry) (r : Effect) → effect_make_conditional es ≡ Some r → Tied MakeConditional es r
tied_make_conditional (entry (ExprShape f n) b ∷ entry (TokenShape c) q ∷ entry (ExprShape g m) d ∷ entry (TokenShape t) p ∷ entry (ExprShape i u) a ∷ es) made h = found MakeConditional (entry (ExprShape f n) b ∷ entry (TokenShape c) q ∷ entry (ExprShape g m) d ∷ entry (TokenShape t) p ∷ entry (ExprShape i u) a ∷ es) _ _ made h (by_demands MakeConditional (entry (ExprShape f n) b ∷ entry (TokenShape c) q ∷ entry (ExprShape g m) d ∷ entry (TokenShape t) p ∷ entry (ExprShape i u) a ∷ es) (entry (ExprShape OtherForm false) a ∷ es) (Over Plain p 3 ∷ []) (refl, (λ at. omega arith), (λ n. absurd (omega arith)), (λ at. omega arith)) (λ d ds. (refl, (λ at. omega (arith, token_met at p (comes Plain d))), (λ n. omega arith), (λ at. omega (arith, token_met at p (comes Plain d))))))
tied_make_conditional es made h = no_effect h

tied_make_loop_name : (es : List Entry) (r : Effect) → effect_make_loop_name es ≡ Some r → Tied MakeLoopName es r
tied_make_loop_name (entry (TokenShape NameToken) q ∷ es) made h = found MakeLoopName (entry (TokenShape NameToken) q ∷ es) _ _ made h (by_demands MakeLoopName (entry (TokenShape NameToken) q ∷ es) (entry (LoopTargetShape OneName true) nowhere ∷ es) (Over Plain q 0 ∷ []) (refl, (λ at. omega arith), (λ n. absurd (omega arith)), (λ at. omega arith)) (λ d ds. (refl, (λ at. omega (arith, token_met at q (comes Plain d))), (λ n. omega arith), (λ at. omega (arith, token_met at q (comes Plain d))))))
tied_make_loop_name es made h = no_effect h

tied_make_loop_names : (es : List Entry) (r : Effect) → effect_make_loop_names es ≡ Some r → Tied MakeLoopNames es r
tied_make_loop_names (entry (TokenShape t) p ∷ entry (LoopTargetShape OneName m) b ∷ es) made h = found MakeLoopNames (entry (TokenShape t) p ∷ entry (LoopTargetShape OneName m) b ∷ es) _ _ made h (by_demands MakeLoopNames (entry (TokenShape t) p ∷ entry (LoopTargetShape OneName m) b ∷ es) (entry (LoopTargetShape SomeNames true) nowhere ∷ es) (Gather 1 ∷ []) (refl, (λ at. omega arith), (λ n. absurd (omega arith)), (λ at. omega arith)) (λ d ds. (refl, (λ at. omega (arith)), (λ n. omega arith), (λ at. omega (arith)))))
tied_make_loop_names es made h = no_effect h

tied_add_loop_name : (es : List Entry) (r : Effect) → effect_add_loop_name es ≡ Some r → Tied AddLoopName es r
tied_add_loop_name (entry (TokenShape NameToken) q ∷ entry (LoopTargetShape SomeNames true) b ∷ es) made h = found AddLoopName (entry (TokenShape NameToken) q ∷ entry (LoopTargetShape SomeNames true) b ∷ es) _ _ made h (by_demands AddLoopName (entry (TokenShape NameToken) q ∷ entry (LoopTargetShape SomeNames true) b ∷ es) (entry (LoopTargetShape SomeNames true) nowhere ∷ es) (JoinGroup ∷ Over Plain q 0 ∷ []) (refl, (λ at. omega arith), (λ n. absurd (omega arith)), (λ at. omega arith)) (λ d ds. (refl, (λ at. omega (arith, token_met at q (comes Plain (within d)))), (λ n. omega arith), (λ at. omega (arith, token_met at q (comes Plain (within d)))))))
tied_add_loop_name es made h = no_effect h

tied_make_loop_parenthesis : (es : List Entry) (r : Effect) → effect_make_loop_parenthesis es ≡ Some r → Tied MakeLoopParenthesis es r
tied_make_loop_parenthesis (entry (TokenShape c) q ∷ entry (LoopTargetShape l m) b ∷ entry (TokenShape t) p ∷ es) made h = found MakeLoopParenthesis (entry (TokenShape c) q ∷ entry (LoopTargetShape l m) b ∷ entry (TokenShape t) p ∷ es) _ _ made h (by_demands MakeLoopParenthesis (entry (TokenShape c) q ∷ entry (LoopTargetShape l m) b ∷ entry (TokenShape t) p ∷ es) (entry (LoopTargetShape NamesInBrackets true) nowhere ∷ es) (Over Plain p 1 ∷ []) (refl, (λ at. omega arith), (λ n. absurd (omega arith)), (λ at. omega arith)) (λ d ds. (refl, (λ at. omega (arith, token_met at p (comes Plain d))), (λ n. omega arith), (λ at. omega (arith, token_met at p (comes Plain d))))))
tied_make_loop_parenthesis es made h = no_effect h

tied_begin_body : (es : List Entry) (r : Effect) → effect_begin_body es ≡ Some r → Tied BeginBody es r
tied_begin_body es made h = found BeginBody es _ _ made h (λ ds. begun es ds)

tied_add_stmt : (es : List Entry) (r : Effect) → effect_add_stmt es ≡ Some r → Tied AddStmt es r
tied_add_stmt (entry (StmtShape f m) b ∷ entry (BodyShape u) c ∷ es) made h = found AddStmt (entry (StmtShape f m) b ∷ entry (BodyShape u) c ∷ es) _ _ made h (by_demands AddStmt (entry (StmtShape f m) b ∷ entry (BodyShape u) c ∷ es) (entry (BodyShape true) nowhere ∷ es) (JoinGroup ∷ []) (refl, (λ at. omega arith), (λ n. absurd (omega arith)), (λ at. omega arith)) (λ d ds. (refl, (λ at. omega (arith)), (λ n. omega arith), (λ at. omega (arith)))))
tied_add_stmt es made h = no_effect h

tied_make_expr_stmt : (es : List Entry) (r : Effect) → effect_make_expr_stmt es ≡ Some r → Tied MakeExprStmt es r
tied_make_expr_stmt (entry (ExprShape f n) a ∷ es) made h = found MakeExprStmt (entry (ExprShape f n) a ∷ es) _ _ made h (by_demands MakeExprStmt (entry (ExprShape f n) a ∷ es) (entry (StmtShape OtherStmt false) nowhere ∷ es) (Over Plain a 1 ∷ []) (refl, (λ at. omega arith), (λ n. absurd (omega arith)), (λ at. omega arith)) (λ d ds. (refl, (λ at. omega (arith)), (λ n. omega arith), (λ at. omega (arith)))))
tied_make_expr_stmt es made h = no_effect h

tied_make_targets : (es : List Entry) (r : Effect) → effect_make_targets es ≡ Some r → Tied MakeTargets es r
tied_make_targets (entry (TokenShape c) q ∷ entry (ExprShape f n) a ∷ es) made h = found_if (are_targets f) MakeTargets (entry (TokenShape c) q ∷ entry (ExprShape f n) a ∷ es) _ _ made h (by_demands MakeTargets (entry (TokenShape c) q ∷ entry (ExprShape f n) a ∷ es) (entry TargetsShape a ∷ es) (Gather 1 ∷ Assign ∷ []) (refl, (λ at. omega arith), (λ n. absurd (omega arith)), (λ at. omega arith)) (λ d ds. (refl, (λ at. omega (arith)), (λ n. omega arith), (λ at. omega (arith)))))
tied_make_targets es made h = no_effect h

tied_add_targets : (es : List Entry) (r : Effect) → effect_add_targets es ≡ Some r → Tied AddTargets es r
tied_add_targets (entry (TokenShape c) q ∷ entry (ExprShape f n) b ∷ entry TargetsShape a ∷ es) made h = found_if (are_targets f) AddTargets (entry (TokenShape c) q ∷ entry (ExprShape f n) b ∷ entry TargetsShape a ∷ es) _ _ made h (by_demands AddTargets (entry (TokenShape c) q ∷ entry (ExprShape f n) b ∷ entry TargetsShape a ∷ es) (entry TargetsShape a ∷ es) (JoinGroup ∷ Assign ∷ []) (refl, (λ at. omega arith), (λ n. absurd (omega arith)), (λ at. omega arith)) (λ d ds. (refl, (λ at. omega (arith)), (λ n. omega arith), (λ at. omega (arith)))))
tied_add_targets es made h = no_effect h

tied_make_assign : (es : List Entry) (r : Effect) → effect_make_assign es ≡ Some r → Tied MakeAssign es r
tied_make_assign (entry (ExprShape f n) b ∷ entry TargetsShape a ∷ es) made h = found MakeAssign (entry (ExprShape f n) b ∷ entry TargetsShape a ∷ es) _ _ made h (by_demands MakeAssign (entry (ExprShape f n) b ∷ entry TargetsShape a ∷ es) (entry (StmtShape OtherStmt false) nowhere ∷ es) (Over Plain a 2 ∷ []) (refl, (λ at. omega arith), (λ n. absurd (omega arith)), (λ at. omega arith)) (λ d ds. (refl, (λ at. omega (arith)), (λ n. omega arith), (λ at. omega (arith)))))
tied_make_assign es made h = no_effect h

tied_make_augmented : (o : BinaryOperator) (es : List Entry) (r : Effect) → effect_make_augmented es ≡ Some r → Tied (MakeAugmented o) es r
tied_make_augmented o (entry (ExprShape f n) b ∷ entry (TokenShape c) q ∷ entry (ExprShape g m) a ∷ es) made h = found_if (is_target g) (MakeAugmented o) (entry (ExprShape f n) b ∷ entry (TokenShape c) q ∷ entry (ExprShape g m) a ∷ es) _ _ made h (by_demands (MakeAugmented o) (entry (ExprShape f n) b ∷ entry (TokenShape c) q ∷ entry (ExprShape g m) a ∷ es) (entry (StmtShape OtherStmt false) nowhere ∷ es) (Over Plain a 2 ∷ []) (refl, (λ at. omega arith), (λ n. absurd (omega arith)), (λ at. omega arith)) (λ d ds. (refl, (λ at. omega (arith)), (λ n. omega arith), (λ at. omega (arith)))))
tied_make_augmented o es made h = no_effect h

tied_make_pass : (es : List Entry) (r : Effect) → effect_word es ≡ Some r → Tied MakePass es r
tied_make_pass (entry (TokenShape t) p ∷ es) made h = found MakePass (entry (TokenShape t) p ∷ es) _ _ made h (by_demands MakePass (entry (TokenShape t) p ∷ es) (entry (StmtShape OtherStmt false) nowhere ∷ es) (Over Plain p 0 ∷ []) (refl, (λ at. omega arith), (λ n. absurd (omega arith)), (λ at. omega arith)) (λ d ds. (refl, (λ at. omega (arith, token_met at p (comes Plain d))), (λ n. omega arith), (λ at. omega (arith, token_met at p (comes Plain d))))))
tied_make_pass es made h = no_effect h

tied_make_break : (es : List Entry) (r : Effect) → effect_word es ≡ Some r → Tied MakeBreak es r
tied_make_break (entry (TokenShape t) p ∷ es) made h = found MakeBreak (entry (TokenShape t) p ∷ es) _ _ made h (by_demands MakeBreak (entry (TokenShape t) p ∷ es) (entry (StmtShape OtherStmt false) nowhere ∷ es) (Over Plain p 0 ∷ []) (refl, (λ at. omega arith), (λ n. absurd (omega arith)), (λ at. omega arith)) (λ d ds. (refl, (λ at. omega (arith, token_met at p (comes Plain d))), (λ n. omega arith), (λ at. omega (arith, token_met at p (comes Plain d))))))
tied_make_break es made h = no_effect h

tied_make_continue : (es : List Entry) (r : Effect) → effect_word es ≡ Some r → Tied MakeContinue es r
tied_make_continue (entry (TokenShape t) p ∷ es) made h = found MakeContinue (entry (TokenShape t) p ∷ es) _ _ made h (by_demands MakeContinue (entry (TokenShape t) p ∷ es) (entry (StmtShape OtherStmt false) nowhere ∷ es) (Over Plain p 0 ∷ []) (refl, (λ at. omega arith), (λ n. absurd (omega arith)), (λ at. omega arith)) (λ d ds. (refl, (λ at. omega (arith, token_met at p (comes Plain d))), (λ n. omega arith), (λ at. omega (arith, token_met at p (comes Plain d))))))
tied_make_continue es made h = no_effect h

tied_make_return : (es : List Entry) (r : Effect) → effect_word es ≡ Some r → Tied MakeReturn es r
tied_make_return (entry (TokenShape t) p ∷ es) made h = found MakeReturn (entry (TokenShape t) p ∷ es) _ _ made h (by_demands MakeReturn (entry (TokenShape t) p ∷ es) (entry (StmtShape OtherStmt false) nowhere ∷ es) (Over Plain p 0 ∷ []) (refl, (λ at. omega arith), (λ n. absurd (omega arith)), (λ at. omega arith)) (λ d ds. (refl, (λ at. omega (arith, token_met at p (comes Plain d))), (λ n. omega arith), (λ at. omega (arith, token_met at p (comes Plain d))))))
tied_make_return es made h = no_effect h

tied_make_return_value : (es : List Entry) (r : Effect) → effect_with_value es ≡ Some r → Tied MakeReturnValue es r
tied_make_return_value (entry (ExprShape f n) a ∷ entry (TokenShape t) p ∷ es) made h = found MakeReturnValue (entry (ExprShape f n) a ∷ entry (TokenShape t) p ∷ es) _ _ made h (by_demands MakeReturnValue (entry (ExprShape f n) a ∷ entry (TokenShape t) p ∷ es) (entry (StmtShape OtherStmt false) nowhere ∷ es) (Over Plain p 1 ∷ []) (refl, (λ at. omega arith), (λ n. absurd (omega arith)), (λ at. omega arith)) (λ d ds. (refl, (λ at. omega (arith, token_met at p (comes Plain d))), (λ n. omega arith), (λ at. omega (arith, token_met at p (comes Plain d))))))
tied_make_return_value es made h = no_effect h

tied_make_raise : (es : List Entry) (r : Effect) → effect_with_value es ≡ Some r → Tied MakeRaise es r
tied_make_raise (entry (ExprShape f n) a ∷ entry (TokenShape t) p ∷ es) made h = found MakeRaise (entry (ExprShape f n) a ∷ entry (TokenShape t) p ∷ es) _ _ made h (by_demands MakeRaise (entry (ExprShape f n) a ∷ entry (TokenShape t) p ∷ es) (entry (StmtShape OtherStmt false) nowhere ∷ es) (Over Plain p 1 ∷ []) (refl, (λ at. omega arith), (λ n. absurd (omega arith)), (λ at. omega arith)) (λ d ds. (refl, (λ at. omega (arith, token_met at p (comes Plain d))), (λ n. omega arith), (λ at. omega (arith, token_met at p (comes Plain d))))))
tied_make_raise es made h = no_effect h

tied_make_yield : (es : List Entry) (r : Effect) → effect_with_value es ≡ Some r → Tied MakeYield es r
tied_make_yield (entry (ExprShape f n) a ∷ entry (TokenShape t) p ∷ es) made h = found MakeYield (entry (ExprShape f n) a ∷ entry (TokenShape t) p ∷ es) _ _ made h (by_demands MakeYield (entry (ExprShape f n) a ∷ entry (TokenShape t) p ∷ es) (entry (StmtShape OtherStmt false) nowhere ∷ es) (Over Plain p 1 ∷ []) (refl, (λ at. omega arith), (λ n. absurd (omega arith)), (λ at. omega arith)) (λ d ds. (refl, (λ at. omega (arith, token_met at p (comes Plain d))), (λ n. omega arith), (λ at. omega (arith, token_met at p (comes Plain d))))))
tied_make_yield es made h = no_effect h

tied_begin_global : (es : List Entry) (r : Effect) → effect_begin_global es ≡ Some r → Tied BeginGlobal es r
tied_begin_global (entry (TokenShape t) p ∷ es) made h = found BeginGlobal (entry (TokenShape t) p ∷ es) _ _ made h (by_demands BeginGlobal (entry (TokenShape t) p ∷ es) (entry (StmtShape GlobalStmt false) nowhere ∷ es) (Over Plain p 0 ∷ []) (refl, (λ at. omega arith), (λ n. absurd (omega arith)), (λ at. omega arith)) (λ d ds. (refl, (λ at. omega (arith, token_met at p (comes Plain d))), (λ n. omega arith), (λ at. omega (arith, token_met at p (comes Plain d))))))
tied_begin_global es made h = no_effect h

tied_add_global : (es : List Entry) (r : Effect) → effect_add_global es ≡ Some r → Tied AddGlobal es r
tied_add_global (entry (TokenShape NameToken) q ∷ entry (StmtShape GlobalStmt m) b ∷ es) made h = found AddGlobal (entry (TokenShape NameToken) q ∷ entry (StmtShape GlobalStmt m) b ∷ es) _ _ made h (by_demands AddGlobal (entry (TokenShape NameToken) q ∷ entry (StmtShape GlobalStmt m) b ∷ es) (entry (StmtShape GlobalStmt false) nowhere ∷ es) [] (refl, (λ at. omega arith), (λ n. absurd (omega arith)), (λ at. omega arith)) (λ d ds. (refl, (λ at. omega (arith)), (λ n. omega arith), (λ at. omega (arith)))))
tied_add_global es made h = no_effect h

tied_make_assert : (es : List Entry) (r : Effect) → effect_with_value es ≡ Some r → Tied MakeAssert es r
tied_make_assert (entry (ExprShape f n) a ∷ entry (TokenShape t) p ∷ es) made h = found MakeAssert (entry (ExprShape f n) a ∷ entry (TokenShape t) p ∷ es) _ _ made h (by_demands MakeAssert (entry (ExprShape f n) a ∷ entry (TokenShape t) p ∷ es) (entry (StmtShape OtherStmt false) nowhere ∷ es) (Over Plain p 1 ∷ []) (refl, (λ at. omega arith), (λ n. absurd (omega arith)), (λ at. omega arith)) (λ d ds. (refl, (λ at. omega (arith, token_met at p (comes Plain d))), (λ n. omega arith), (λ at. omega (arith, token_met at p (comes Plain d))))))
tied_make_assert es made h = no_effect h

tied_make_assert_message : (es : List Entry) (r : Effect) → effect_make_assert_message es ≡ Some r → Tied MakeAssertMessage es r
tied_make_assert_message (entry (ExprShape f n) b ∷ entry (TokenShape c) q ∷ entry (ExprShape g m) a ∷ entry (TokenShape t) p ∷ es) made h = found MakeAssertMessage (entry (ExprShape f n) b ∷ entry (TokenShape c) q ∷ entry (ExprShape g m) a ∷ entry (TokenShape t) p ∷ es) _ _ made h (by_demands MakeAssertMessage (entry (ExprShape f n) b ∷ entry (TokenShape c) q ∷ entry (ExprShape g m) a ∷ entry (TokenShape t) p ∷ es) (entry (StmtShape OtherStmt false) nowhere ∷ es) (Over Plain p 2 ∷ []) (refl, (λ at. omega arith), (λ n. absurd (omega arith)), (λ at. omega arith)) (λ d ds. (refl, (λ at. omega (arith, token_met at p (comes Plain d))), (λ n. omega arith), (λ at. omega (arith, token_met at p (comes Plain d))))))
tied_make_assert_message es made h = no_effect h

tied_make_delete : (es : List Entry) (r : Effect) → effect_make_delete es ≡ Some r → Tied MakeDelete es r
tied_make_delete (entry (ExprShape SubscriptForm n) a ∷ entry (TokenShape t) p ∷ es) made h = found MakeDelete (entry (ExprShape SubscriptForm n) a ∷ entry (TokenShape t) p ∷ es) _ _ made h (by_demands MakeDelete (entry (ExprShape SubscriptForm n) a ∷ entry (TokenShape t) p ∷ es) (entry (StmtShape OtherStmt false) nowhere ∷ es) (Over Plain p 1 ∷ []) (refl, (λ at. omega arith), (λ n. absurd (omega arith)), (λ at. omega arith)) (λ d ds. (refl, (λ at. omega (arith, token_met at p (comes Plain d))), (λ n. omega arith), (λ at. omega (arith, token_met at p (comes Plain d))))))
tied_make_delete es made h = no_effect h

tied_make_if : (es : List Entry) (r : Effect) → effect_make_if es ≡ Some r → Tied MakeIf es r
tied_make_if (entry (BodyShape u) a ∷ entry (BodyShape w) b ∷ entry (TokenShape c) q ∷ entry (ExprShape f n) d ∷ entry (TokenShape t) p ∷ es) made h = found MakeIf (entry (BodyShape u) a ∷ entry (BodyShape w) b ∷ entry (TokenShape c) q ∷ entry (ExprShape f n) d ∷ entry (TokenShape t) p ∷ es) _ _ made h (by_demands MakeIf (entry (BodyShape u) a ∷ entry (BodyShape w) b ∷ entry (TokenShape c) q ∷ entry (ExprShape f n) d ∷ entry (TokenShape t) p ∷ es) (entry (StmtShape OtherStmt false) nowhere ∷ es) (Over Plain p 3 ∷ []) (refl, (λ at. omega arith), (λ n. absurd (omega arith)), (λ at. omega arith)) (λ d ds. (refl, (λ at. omega (arith, token_met at p (comes Plain d))), (λ n. omega arith), (λ at. omega (arith, token_met at p (comes Plain d))))))
tied_make_if es made h = no_effect h

tied_make_elif : (es : List Entry) (r : Effect) → effect_make_elif es ≡ Some r → Tied MakeElif es r
tied_make_elif (entry (BodyShape u) a ∷ entry (BodyShape w) b ∷ entry (TokenShape c) q ∷ entry (ExprShape f n) d ∷ entry (TokenShape t) p ∷ es) made h = found MakeElif (entry (BodyShape u) a ∷ entry (BodyShape w) b ∷ entry (TokenShape c) q ∷ entry (ExprShape f n) d ∷ entry (TokenShape t) p ∷ es) _ _ made h (by_demands MakeElif (entry (BodyShape u) a ∷ entry (BodyShape w) b ∷ entry (TokenShape c) q ∷ entry (ExprShape f n) d ∷ entry (TokenShape t) p ∷ es) (entry (BodyShape true) nowhere ∷ es) (Gather 1 ∷ Over Plain p 3 ∷ []) (refl, (λ at. omega arith), (λ n. absurd (omega arith)), (λ at. omega arith)) (λ d ds. (refl, (λ at. omega (arith, token_met at p (comes Plain (within d)))), (λ n. omega arith), (λ at. omega (arith, token_met at p (comes Plain (within d)))))))
tied_make_elif es made h = no_effect h

tied_make_else : (es : List Entry) (r : Effect) → effect_make_else es ≡ Some r → Tied MakeElse es r
tied_make_else (entry (BodyShape u) a ∷ entry (TokenShape c) q ∷ entry (TokenShape t) p ∷ es) made h = found MakeElse (entry (BodyShape u) a ∷ entry (TokenShape c) q ∷ entry (TokenShape t) p ∷ es) _ _ made h (by_demands MakeElse (entry (BodyShape u) a ∷ entry (TokenShape c) q ∷ entry (TokenShape t) p ∷ es) (entry (BodyShape u) nowhere ∷ es) [] (refl, (λ at. omega arith), (λ n. absurd (omega arith)), (λ at. omega arith)) (λ d ds. (refl, (λ at. omega (arith)), (λ n. omega arith), (λ at. omega (arith)))))
tied_make_else es made h = no_effect h

tied_make_while : (es : List Entry) (r : Effect) → effect_make_while es ≡ Some r → Tied MakeWhile es r
tied_make_while (entry (BodyShape u) a ∷ entry (TokenShape c) q ∷ entry (ExprShape f n) d ∷ entry (TokenShape t) p ∷ es) made h = found MakeWhile (entry (BodyShape u) a ∷ entry (TokenShape c) q ∷ entry (ExprShape f n) d ∷ entry (TokenShape t) p ∷ es) _ _ made h (by_demands MakeWhile (entry (BodyShape u) a ∷ entry (TokenShape c) q ∷ entry (ExprShape f n) d ∷ entry (TokenShape t) p ∷ es) (entry (StmtShape OtherStmt false) nowhere ∷ es) (Over Plain p 2 ∷ []) (refl, (λ at. omega arith), (λ n. absurd (omega arith)), (λ at. omega arith)) (λ d ds. (refl, (λ at. omega (arith, token_met at p (comes Plain d))), (λ n. omega arith), (λ at. omega (arith, token_met at p (comes Plain d))))))
tied_make_while es made h = no_effect h

tied_make_for : (es : List Entry) (r : Effect) → effect_make_for es ≡ Some r → Tied MakeFor es r
tied_make_for (entry (BodyShape u) a ∷ entry (TokenShape c) q ∷ entry (ExprShape f n) d ∷ entry (TokenShape i) r ∷ entry (LoopTargetShape l m) b ∷ entry (TokenShape t) p ∷ es) made h = found MakeFor (entry (BodyShape u) a ∷ entry (TokenShape c) q ∷ entry (ExprShape f n) d ∷ entry (TokenShape i) r ∷ entry (LoopTargetShape l m) b ∷ entry (TokenShape t) p ∷ es) _ _ made h (by_demands MakeFor (entry (BodyShape u) a ∷ entry (TokenShape c) q ∷ entry (ExprShape f n) d ∷ entry (TokenShape i) r ∷ entry (LoopTargetShape l m) b ∷ entry (TokenShape t) p ∷ es) (entry (StmtShape OtherStmt false) nowhere ∷ es) (Over Plain p 3 ∷ []) (refl, (λ at. omega arith), (λ n. absurd (omega arith)), (λ at. omega arith)) (λ d ds. (refl, (λ at. omega (arith, token_met at p (comes Plain d))), (λ n. omega arith), (λ at. omega (arith, token_met at p (comes Plain d))))))
tied_make_for es made h = no_effect h

tied_begin_try : (es : List Entry) (r : Effect) → effect_begin_try es ≡ Some r → Tied BeginTry es r
tied_begin_try (entry (BodyShape u) a ∷ entry (TokenShape c) q ∷ entry (TokenShape t) p ∷ es) made h = found BeginTry (entry (BodyShape u) a ∷ entry (TokenShape c) q ∷ entry (TokenShape t) p ∷ es) _ _ made h (by_demands BeginTry (entry (BodyShape u) a ∷ entry (TokenShape c) q ∷ entry (TokenShape t) p ∷ es) (entry (StmtShape TryStmt false) nowhere ∷ es) (Over Plain p 1 ∷ []) (refl, (λ at. omega arith), (λ n. absurd (omega arith)), (λ at. omega arith)) (λ d ds. (refl, (λ at. omega (arith, token_met at p (comes Plain d))), (λ n. omega arith), (λ at. omega (arith, token_met at p (comes Plain d))))))
tied_begin_try es made h = no_effect h

tied_catch_all : (es : List Entry) (r : Effect) → effect_catch_all es ≡ Some r → Tied CatchAll es r
tied_catch_all (entry (BodyShape u) a ∷ entry (TokenShape c) q ∷ entry (TokenShape t) p ∷ entry (StmtShape TryStmt m) b ∷ es) made h = found CatchAll (entry (BodyShape u) a ∷ entry (TokenShape c) q ∷ entry (TokenShape t) p ∷ entry (StmtShape TryStmt m) b ∷ es) _ _ made h (by_demands CatchAll (entry (BodyShape u) a ∷ entry (TokenShape c) q ∷ entry (TokenShape t) p ∷ entry (StmtShape TryStmt m) b ∷ es) (entry (StmtShape TryStmt false) nowhere ∷ es) (Join Plain ∷ []) (refl, (λ at. omega arith), (λ n. absurd (omega arith)), (λ at. omega arith)) (λ d ds. (refl, (λ at. omega (arith)), (λ n. omega arith), (λ at. omega (arith)))))
tied_catch_all es made h = no_effect h

tied_catch : (es : List Entry) (r : Effect) → effect_catch es ≡ Some r → Tied Catch es r
tied_catch (entry (BodyShape u) a ∷ entry (TokenShape c) q ∷ entry (ClassShape l) d ∷ entry (TokenShape t) p ∷ entry (StmtShape TryStmt m) b ∷ es) made h = found Catch (entry (BodyShape u) a ∷ entry (TokenShape c) q ∷ entry (ClassShape l) d ∷ entry (TokenShape t) p ∷ entry (StmtShape TryStmt m) b ∷ es) _ _ made h (by_demands Catch (entry (BodyShape u) a ∷ entry (TokenShape c) q ∷ entry (ClassShape l) d ∷ entry (TokenShape t) p ∷ entry (StmtShape TryStmt m) b ∷ es) (entry (StmtShape TryStmt false) nowhere ∷ es) (Join Plain ∷ []) (refl, (λ at. omega arith), (λ n. absurd (omega arith)), (λ at. omega arith)) (λ d ds. (refl, (λ at. omega (arith)), (λ n. omega arith), (λ at. omega (arith)))))
tied_catch es made h = no_effect h

tied_catch_as : (es : List Entry) (r : Effect) → effect_catch_as es ≡ Some r → Tied CatchAs es r
tied_catch_as (entry (BodyShape u) a ∷ entry (TokenShape c) q ∷ entry (TokenShape NameToken) e ∷ entry (TokenShape i) r ∷ entry (ClassShape l) d ∷ entry (TokenShape t) p ∷ entry (StmtShape TryStmt m) b ∷ es) made h = found CatchAs (entry (BodyShape u) a ∷ entry (TokenShape c) q ∷ entry (TokenShape NameToken) e ∷ entry (TokenShape i) r ∷ entry (ClassShape l) d ∷ entry (TokenShape t) p ∷ entry (StmtShape TryStmt m) b ∷ es) _ _ made h (by_demands CatchAs (entry (BodyShape u) a ∷ entry (TokenShape c) q ∷ entry (TokenShape NameToken) e ∷ entry (TokenShape i) r ∷ entry (ClassShape l) d ∷ entry (TokenShape t) p ∷ entry (StmtShape TryStmt m) b ∷ es) (entry (StmtShape TryStmt false) nowhere ∷ es) (Join Plain ∷ []) (refl, (λ at. omega arith), (λ n. absurd (omega arith)), (λ at. omega arith)) (λ d ds. (refl, (λ at. omega (arith)), (λ n. omega arith), (λ at. omega (arith)))))
tied_catch_as es made h = no_effect h

tied_make_class_name : (es : List Entry) (r : Effect) → effect_make_class_name es ≡ Some r → Tied MakeClassName es r
tied_make_class_name (entry (TokenShape NameToken) q ∷ es) made h = found MakeClassName (entry (TokenShape NameToken) q ∷ es) _ _ made h (by_demands MakeClassName (entry (TokenShape NameToken) q ∷ es) (entry (ClassShape BareName) nowhere ∷ es) [] (refl, (λ at. omega arith), (λ n. absurd (omega arith)), (λ at. omega arith)) (λ d ds. (refl, (λ at. omega (arith)), (λ n. omega arith), (λ at. omega (arith)))))
tied_make_class_name es made h = no_effect h

tied_make_class_within : (es : List Entry) (r : Effect) → effect_make_class_within es ≡ Some r → Tied MakeClassWithin es r
tied_make_class_within (entry (TokenShape NameToken) q ∷ entry (TokenShape t) p ∷ entry (ClassShape BareName) b ∷ es) made h = found MakeClassWithin (entry (TokenShape NameToken) q ∷ entry (TokenShape t) p ∷ entry (ClassShape BareName) b ∷ es) _ _ made h (by_demands MakeClassWithin (entry (TokenShape NameToken) q ∷ entry (TokenShape t) p ∷ entry (ClassShape BareName) b ∷ es) (entry (ClassShape DottedName) nowhere ∷ es) [] (refl, (λ at. omega arith), (λ n. absurd (omega arith)), (λ at. omega arith)) (λ d ds. (refl, (λ at. omega (arith)), (λ n. omega arith), (λ at. omega (arith)))))
tied_make_class_within es made h = no_effect h

tied_begin_def : (es : List Entry) (r : Effect) → effect_begin_def es ≡ Some r → Tied BeginDef es r
tied_begin_def (entry (TokenShape c) q ∷ entry (TokenShape NameToken) r ∷ entry (TokenShape t) p ∷ es) made h = found BeginDef (entry (TokenShape c) q ∷ entry (TokenShape NameToken) r ∷ entry (TokenShape t) p ∷ es) _ _ made h (by_demands BeginDef (entry (TokenShape c) q ∷ entry (TokenShape NameToken) r ∷ entry (TokenShape t) p ∷ es) (entry (StmtShape DefStmt false) nowhere ∷ es) (Over Plain p 0 ∷ []) (refl, (λ at. omega arith), (λ n. absurd (omega arith)), (λ at. omega arith)) (λ d ds. (refl, (λ at. omega (arith, token_met at p (comes Plain d))), (λ n. omega arith), (λ at. omega (arith, token_met at p (comes Plain d))))))
tied_begin_def es made h = no_effect h

tied_add_parameter : (es : List Entry) (r : Effect) → effect_add_parameter es ≡ Some r → Tied AddParameter es r
tied_add_parameter (entry (TokenShape NameToken) q ∷ entry (StmtShape DefStmt m) b ∷ es) made h = found AddParameter (entry (TokenShape NameToken) q ∷ entry (StmtShape DefStmt m) b ∷ es) _ _ made h (by_demands AddParameter (entry (TokenShape NameToken) q ∷ entry (StmtShape DefStmt m) b ∷ es) (entry (StmtShape DefStmt m) nowhere ∷ es) [] (refl, (λ at. omega arith), (λ n. absurd (omega arith)), (λ at. omega arith)) (λ d ds. (refl, (λ at. omega (arith)), (λ n. omega arith), (λ at. omega (arith)))))
tied_add_parameter es made h = no_effect h

tied_add_default : (es : List Entry) (r : Effect) → effect_add_default es ≡ Some r → Tied AddDefault es r
tied_add_default (entry (ExprShape f n) a ∷ entry (TokenShape c) q ∷ entry (TokenShape NameToken) r ∷ entry (StmtShape DefStmt false) b ∷ es) made h = found AddDefault (entry (ExprShape f n) a ∷ entry (TokenShape c) q ∷ entry (TokenShape NameToken) r ∷ entry (StmtShape DefStmt false) b ∷ es) _ _ made h (by_demands AddDefault (entry (ExprShape f n) a ∷ entry (TokenShape c) q ∷ entry (TokenShape NameToken) r ∷ entry (StmtShape DefStmt false) b ∷ es) (entry (StmtShape DefStmt false) nowhere ∷ es) (Join Plain ∷ []) (refl, (λ at. omega arith), (λ n. absurd (omega arith)), (λ at. omega arith)) (λ d ds. (refl, (λ at. omega (arith)), (λ n. omega arith), (λ at. omega (arith)))))
tied_add_default es made h = no_effect h

tied_end_def : (es : List Entry) (r : Effect) → effect_end_def es ≡ Some r → Tied EndDef es r
tied_end_def (entry (BodyShape true) a ∷ entry (TokenShape c) q ∷ entry (TokenShape t) p ∷ entry (StmtShape DefStmt false) b ∷ es) made h = found EndDef (entry (BodyShape true) a ∷ entry (TokenShape c) q ∷ entry (TokenShape t) p ∷ entry (StmtShape DefStmt false) b ∷ es) _ _ made h (by_demands EndDef (entry (BodyShape true) a ∷ entry (TokenShape c) q ∷ entry (TokenShape t) p ∷ entry (StmtShape DefStmt false) b ∷ es) (entry (StmtShape DefStmt true) nowhere ∷ es) (Join Plain ∷ []) (refl, (λ at. omega arith), (λ n. absurd (omega arith)), (λ at. omega arith)) (λ d ds. (refl, (λ at. omega (arith)), (λ n. omega arith), (λ at. omega (arith)))))
tied_end_def es made h = no_effect h

tied_begin_class : (es : List Entry) (r : Effect) → effect_begin_class es ≡ Some r → Tied BeginClass es r
tied_begin_class (entry (TokenShape NameToken) q ∷ entry (TokenShape t) p ∷ es) made h = found BeginClass (entry (TokenShape NameToken) q ∷ entry (TokenShape t) p ∷ es) _ _ made h (by_demands BeginClass (entry (TokenShape NameToken) q ∷ entry (TokenShape t) p ∷ es) (entry (StmtShape ClassStmt false) nowhere ∷ es) (Over Plain p 0 ∷ []) (refl, (λ at. omega arith), (λ n. absurd (omega arith)), (λ at. omega arith)) (λ d ds. (refl, (λ at. omega (arith, token_met at p (comes Plain d))), (λ n. omega arith), (λ at. omega (arith, token_met at p (comes Plain d))))))
tied_begin_class es made h = no_effect h

tied_add_base : (es : List Entry) (r : Effect) → effect_add_base es ≡ Some r → Tied AddBase es r
tied_add_base (entry (TokenShape c) q ∷ entry (ClassShape l) d ∷ entry (TokenShape t) p ∷ entry (StmtShape ClassStmt m) b ∷ es) made h = found AddBase (entry (TokenShape c) q ∷ entry (ClassShape l) d ∷ entry (TokenShape t) p ∷ entry (StmtShape ClassStmt m) b ∷ es) _ _ made h (by_demands AddBase (entry (TokenShape c) q ∷ entry (ClassShape l) d ∷ entry (TokenShape t) p ∷ entry (StmtShape ClassStmt m) b ∷ es) (entry (StmtShape ClassStmt m) nowhere ∷ es) [] (refl, (λ at. omega arith), (λ n. absurd (omega arith)), (λ at. omega arith)) (λ d ds. (refl, (λ at. omega (arith)), (λ n. omega arith), (λ at. omega (arith)))))
tied_add_base es made h = no_effect h

tied_end_class : (es : List Entry) (r : Effect) → effect_end_class es ≡ Some r → Tied EndClass es r
tied_end_class (entry (BodyShape true) a ∷ entry (TokenShape t) p ∷ entry (StmtShape ClassStmt false) b ∷ es) made h = found EndClass (entry (BodyShape true) a ∷ entry (TokenShape t) p ∷ entry (StmtShape ClassStmt false) b ∷ es) _ _ made h (by_demands EndClass (entry (BodyShape true) a ∷ entry (TokenShape t) p ∷ entry (StmtShape ClassStmt false) b ∷ es) (entry (StmtShape ClassStmt true) nowhere ∷ es) (Join Plain ∷ []) (refl, (λ at. omega arith), (λ n. absurd (omega arith)), (λ at. omega arith)) (λ d ds. (refl, (λ at. omega (arith)), (λ n. omega arith), (λ at. omega (arith)))))
tied_end_class es made h = no_effect h

tied_begin_import : (es : List Entry) (r : Effect) → effect_word es ≡ Some r → Tied BeginImport es r
tied_begin_import (entry (TokenShape t) p ∷ es) made h = found BeginImport (entry (TokenShape t) p ∷ es) _ _ made h (by_demands BeginImport (entry (TokenShape t) p ∷ es) (entry (StmtShape OtherStmt false) nowhere ∷ es) (Over Plain p 0 ∷ []) (refl, (λ at. omega arith), (λ n. absurd (omega arith)), (λ at. omega arith)) (λ d ds. (refl, (λ at. omega (arith, token_met at p (comes Plain d))), (λ n. omega arith), (λ at. omega (arith, token_met at p (comes Plain d))))))
tied_begin_import es made h = no_effect h

tied_begin_from : (es : List Entry) (r : Effect) → effect_begin_from es ≡ Some r → Tied BeginFrom es r
tied_begin_from (entry (TokenShape c) q ∷ entry (TokenShape NameToken) r ∷ entry (TokenShape t) p ∷ es) made h = found BeginFrom (entry (TokenShape c) q ∷ entry (TokenShape NameToken) r ∷ entry (TokenShape t) p ∷ es) _ _ made h (by_demands BeginFrom (entry (TokenShape c) q ∷ entry (TokenShape NameToken) r ∷ entry (TokenShape t) p ∷ es) (entry (StmtShape OtherStmt false) nowhere ∷ es) (Over Plain p 0 ∷ []) (refl, (λ at. omega arith), (λ n. absurd (omega arith)), (λ at. omega arith)) (λ d ds. (refl, (λ at. omega (arith, token_met at p (comes Plain d))), (λ n. omega arith), (λ at. omega (arith, token_met at p (comes Plain d))))))
tied_begin_from es made h = no_effect h

tied_add_imported : (es : List Entry) (r : Effect) → effect_add_imported es ≡ Some r → Tied AddImported es r
tied_add_imported (entry (TokenShape NameToken) q ∷ entry (StmtShape f m) b ∷ es) made h = found AddImported (entry (TokenShape NameToken) q ∷ entry (StmtShape f m) b ∷ es) _ _ made h (by_demands AddImported (entry (TokenShape NameToken) q ∷ entry (StmtShape f m) b ∷ es) (entry (StmtShape f m) nowhere ∷ es) [] (refl, (λ at. omega arith), (λ n. absurd (omega arith)), (λ at. omega arith)) (λ d ds. (refl, (λ at. omega (arith)), (λ n. omega arith), (λ at. omega (arith)))))
tied_add_imported es made h = no_effect h

tied_add_imported_as : (es : List Entry) (r : Effect) → effect_add_imported_as es ≡ Some r → Tied AddImportedAs es r
tied_add_imported_as (entry (TokenShape NameToken) q ∷ entry (TokenShape c) r ∷ entry (TokenShape NameToken) d ∷ entry (StmtShape f m) b ∷ es) made h = found AddImportedAs (entry (TokenShape NameToken) q ∷ entry (TokenShape c) r ∷ entry (TokenShape NameToken) d ∷ entry (StmtShape f m) b ∷ es) _ _ made h (by_demands AddImportedAs (entry (TokenShape NameToken) q ∷ entry (TokenShape c) r ∷ entry (TokenShape NameToken) d ∷ entry (StmtShape f m) b ∷ es) (entry (StmtShape f m) nowhere ∷ es) [] (refl, (λ at. omega arith), (λ n. absurd (omega arith)), (λ at. omega arith)) (λ d ds. (refl, (λ at. omega (arith)), (λ n. omega arith), (λ at. omega (arith)))))
tied_add_imported_as es made h = no_effect h

pub tied : (a : Action) (es : List Entry) (r : Effect) → effect_of a es ≡ Some r → Tied a es r
tied Drop es r h = tied_drop es r h
tied MakeLeaf es r h = tied_make_leaf es r h
tied MakeTrue es r h = tied_make_true es r h
tied MakeFalse es r h = tied_make_false es r h
tied MakeNone es r h = tied_make_none es r h
tied MakeEmptyTuple es r h = tied_make_empty_tuple es r h
tied MakeParenthesis es r h = tied_make_parenthesis es r h
tied MakeTuple es r h = tied_make_tuple es r h
tied AddItem es r h = tied_add_item es r h
tied MakeEmptyList es r h = tied_make_empty_list es r h
tied MakeListOfOne es r h = tied_make_list_of_one es r h
tied MakeList es r h = tied_make_list es r h
tied BeginComprehension es r h = tied_begin_comprehension es r h
tied BeginLoop es r h = tied_begin_loop es r h
tied AddCondition es r h = tied_add_condition es r h
tied AddLoop es r h = tied_add_loop es r h
tied MakeEmptyDict es r h = tied_make_empty_dict es r h
tied BeginDict es r h = tied_begin_dict es r h
tied AddPair es r h = tied_add_pair es r h
tied MakeSetOfOne es r h = tied_make_set_of_one es r h
tied MakeSet es r h = tied_make_set es r h
tied MakeAttribute es r h = tied_make_attribute es r h
tied BeginCall es r h = tied_begin_call es r h
tied AddArgument es r h = tied_add_argument es r h
tied AddKeyword es r h = tied_add_keyword es r h
tied MakeSubscript es r h = tied_make_subscript es r h
tied MakeSliceFrom es r h = tied_make_slice_from es r h
tied MakeSlice es r h = tied_make_slice es r h
tied AddUpper es r h = tied_add_upper es r h
tied (MakeUnary o) es r h = tied_make_unary o es r h
tied (MakeBinary o) es r h = tied_make_binary o es r h
tied (MakeSign o) es r h = tied_make_sign o es r h
tied (MakeLongSign o) es r h = tied_make_long_sign o es r h
tied MakeCompare es r h = tied_make_compare es r h
tied AddLink es r h = tied_add_link es r h
tied MakeNot es r h = tied_make_not es r h
tied MakeAnd es r h = tied_make_and es r h
tied AddAnd es r h = tied_add_and es r h
tied MakeOr es r h = tied_make_or es r h
tied AddOr es r h = tied_add_or es r h
tied MakeConditional es r h = tied_make_conditional es r h
tied MakeLoopName es r h = tied_make_loop_name es r h
tied MakeLoopNames es r h = tied_make_loop_names es r h
tied AddLoopName es r h = tied_add_loop_name es r h
tied MakeLoopParenthesis es r h = tied_make_loop_parenthesis es r h
tied BeginBody es r h = tied_begin_body es r h
tied AddStmt es r h = tied_add_stmt es r h
tied MakeExprStmt es r h = tied_make_expr_stmt es r h
tied MakeTargets es r h = tied_make_targets es r h
tied AddTargets es r h = tied_add_targets es r h
tied MakeAssign es r h = tied_make_assign es r h
tied (MakeAugmented o) es r h = tied_make_augmented o es r h
tied MakePass es r h = tied_make_pass es r h
tied MakeBreak es r h = tied_make_break es r h
tied MakeContinue es r h = tied_make_continue es r h
tied MakeReturn es r h = tied_make_return es r h
tied MakeReturnValue es r h = tied_make_return_value es r h
tied MakeRaise es r h = tied_make_raise es r h
tied MakeYield es r h = tied_make_yield es r h
tied BeginGlobal es r h = tied_begin_global es r h
tied AddGlobal es r h = tied_add_global es r h
tied MakeAssert es r h = tied_make_assert es r h
tied MakeAssertMessage es r h = tied_make_assert_message es r h
tied MakeDelete es r h = tied_make_delete es r h
tied MakeIf es r h = tied_make_if es r h
tied MakeElif es r h = tied_make_elif es r h
tied MakeElse es r h = tied_make_else es r h
tied MakeWhile es r h = tied_make_while es r h
tied MakeFor es r h = tied_make_for es r h
tied BeginTry es r h = tied_begin_try es r h
tied CatchAll es r h = tied_catch_all es r h
tied Catch es r h = tied_catch es r h
tied CatchAs es r h = tied_catch_as es r h
tied MakeClassName es r h = tied_make_class_name es r h
tied MakeClassWithin es r h = tied_make_class_within es r h
tied BeginDef es r h = tied_begin_def es r h
tied AddParameter es r h = tied_add_parameter es r h
tied AddDefault es r h = tied_add_default es r h
tied EndDef es r h = tied_end_def es r h
tied BeginClass es r h = tied_begin_class es r h
tied AddBase es r h = tied_add_base es r h
tied EndClass es r h = tied_end_class es r h
tied BeginImport es r h = tied_begin_import es r h
tied BeginFrom es r h = tied_begin_from es r h
tied AddImported es r h = tied_add_imported es r h
tied AddImportedAs es r h = tied_add_imported_as es r h
