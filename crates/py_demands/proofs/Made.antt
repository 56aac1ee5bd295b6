-- What an action leaves and what it takes: which actions make what may be a target, and which of the parts may be asked as targets.
use Rattle.py_syntax.specs.Tree.{UnaryOperator, BinaryOperator, ComparisonOperator}
use Rattle.py_syntax.specs.Build.{Action, Drop, MakeLeaf, MakeTrue, MakeFalse, MakeNone, MakeEmptyTuple, MakeParenthesis, MakeTuple, AddItem, MakeEmptyList, MakeListOfOne, MakeList, BeginComprehension, BeginLoop, AddCondition, AddLoop, MakeEmptyDict, BeginDict, AddPair, MakeSetOfOne, MakeSet, MakeAttribute, BeginCall, AddArgument, AddKeyword, MakeSubscript, MakeSliceFrom, MakeSlice, AddUpper, MakeUnary, MakeBinary, MakeSign, MakeLongSign, MakeCompare, AddLink, MakeNot, MakeAnd, AddAnd, MakeOr, AddOr, MakeConditional, MakeLoopName, MakeLoopNames, AddLoopName, MakeLoopParenthesis, BeginBody, AddStmt, MakeExprStmt, MakeTargets, AddTargets, MakeAssign, MakeAugmented, MakePass, MakeBreak, MakeContinue, MakeReturn, MakeReturnValue, MakeRaise, MakeYield, BeginGlobal, AddGlobal, MakeAssert, MakeAssertMessage, MakeDelete, MakeIf, MakeElif, MakeElse, MakeWhile, MakeFor, BeginTry, CatchAll, Catch, CatchAs, MakeClassName, MakeClassWithin, BeginDef, AddParameter, AddDefault, EndDef, BeginClass, AddBase, EndClass, BeginImport, BeginFrom, AddImported, AddImportedAs}
use Rattle.py_nesting.specs.Effects.{Effect, effect, effect_of, effect_add_and, effect_add_argument, effect_add_base, effect_add_condition, effect_add_default, effect_add_global, effect_add_imported, effect_add_imported_as, effect_add_item, effect_add_keyword, effect_add_link, effect_add_loop, effect_add_loop_name, effect_add_or, effect_add_pair, effect_add_parameter, effect_add_stmt, effect_add_targets, effect_add_upper, effect_begin_body, effect_begin_call, effect_begin_class, effect_begin_comprehension, effect_begin_def, effect_begin_dict, effect_begin_from, effect_begin_global, effect_begin_loop, effect_begin_try, effect_bracket, effect_catch, effect_catch_all, effect_catch_as, effect_constant, effect_end_class, effect_end_def, effect_infix, effect_make_assert_message, effect_make_assign, effect_make_attribute, effect_make_augmented, effect_make_class_name, effect_make_class_within, effect_make_compare, effect_make_conditional, effect_make_delete, effect_make_elif, effect_make_else, effect_make_empty_dict, effect_make_empty_list, effect_make_empty_tuple, effect_make_expr_stmt, effect_make_for, effect_make_if, effect_make_leaf, effect_make_list, effect_make_long_sign, effect_make_loop_name, effect_make_loop_names, effect_make_loop_parenthesis, effect_make_set, effect_make_set_of_one, effect_make_sign, effect_make_slice, effect_make_slice_from, effect_make_subscript, effect_make_targets, effect_make_tuple, effect_make_while, effect_prefix, effect_with_value, effect_word}
use Rattle.py_nesting.proofs.EffectsKept.{no_effect}
use Rattle.std.proofs.Common.{◌≡◌, ℕ, Bool, true, false, ◌&&◌, List, [], ◌∷◌, ◌++◌, map, length, Option, Some, None, refl, subst, if◌then◌else◌}
use Rattle.grammars.proofs.Bools.{and_left}
use Rattle.py_nesting.specs.Asked.{targets_last, target_last}
use Rattle.py_nesting.specs.Forms.{NameToken, LiteralToken, NameForm, TargetForm, SubscriptForm, TupleForm, BracketForm, ComprehensionForm, DictForm, CallForm, SliceForm, CompareForm, AndForm, OrForm, OtherForm, OneName, SomeNames, NamesInBrackets, BareName, DottedName, GlobalStmt, TryStmt, DefStmt, ClassStmt, OtherStmt, is_target, are_targets}
use Rattle.py_nesting.specs.Outlines.{Bracket, Tuple, Plain, Event}
use Rattle.py_nesting.specs.Shapes.{TokenShape, ExprShape, SignShape, LoopShape, LoopTargetShape, TargetsShape, ClassShape, StmtShape, BodyShape, nowhere, Entry, entry}
use Rattle.py_nesting.specs.Walk.{Demand, Nothing, Whole, Inside, Assigned, InsideAssigned, below, within, loosened, unassigned}
use Rattle.py_demands.specs.Roles.{at_token, asked_by, roles}
use Rattle.py_demands.specs.Turned.{IfTurned, AreTurned}
use Rattle.py_demands.specs.Aims.{makes_target}
use Rattle.py_demands.specs.Least.{before_action}

abbrev pub Leaves : Action → List Entry → List Entry → Type 0
Leaves a es new =
    (e : Entry) × (taken : List Entry) × (rest : List Entry) × (es ≡ taken ++ rest) × (new ≡ e ∷ rest) × (length taken ≡ length (roles a))
    × (makes_target a ≡ false → target_last (e ∷ []) ≡ false) × ((d : Demand) → IfTurned (targets_last (e ∷ [])) d → AreTurned taken (map (asked_by d) (roles a)))

abbrev pub Made : Action → List Entry → Effect → Type 0
Made a es (effect new events) = Leaves a es new

found_made : (a : Action) (es new : List Entry) (events : List Event) (r : Effect) → Some (effect new events) ≡ Some r → Leaves a es new → Made a es r
found_made a es new events r h t = let is : effect new events ≡ r = cc in subst (Made a es) is t

chosen_made : (b : Bool) (a : Action) (es new : List Entry) (events : List Event) (r : Effect) → (if b then Some (effect new events) else None) ≡ Some r → (b ≡ true → Leaves a es new) → Made a es r
chosen_made true a es new events r h t = found_made a es new events r h (t refl)
chosen_made false a es new events r h t = absurd (cc)

head_turned : (b : Bool) (o : Option ℕ) → IfTurned b (at_token o)
head_turned b None = tt
head_turned b (Some n) = tt

plain_turned : (b : Bool) (d : Demand) → IfTurned b (below Plain d)
plain_turned b Nothing = tt
plain_turned b (Whole n) = tt
plain_turned b (Inside n) = tt
plain_turned b (Assigned n) = tt
plain_turned b (InsideAssigned n) = tt

tuple_turned : (b : Bool) (d : Demand) → IfTurned b (below Tuple d)
tuple_turned b Nothing = tt
tuple_turned b (Whole n) = tt
tuple_turned b (Inside n) = tt
tuple_turned b (Assigned n) = tt
tuple_turned b (InsideAssigned n) = tt

apart_turned : (b : Bool) (d : Demand) → IfTurned b (within d)
apart_turned b Nothing = tt
apart_turned b (Whole n) = tt
apart_turned b (Inside n) = tt
apart_turned b (Assigned n) = tt
apart_turned b (InsideAssigned n) = tt

loose_turned : (b : Bool) (d : Demand) → IfTurned b (loosened d)
loose_turned b Nothing = tt
loose_turned b (Whole n) = tt
loose_turned b (Inside n) = tt
loose_turned b (Assigned n) = tt
loose_turned b (InsideAssigned n) = tt

bracket_turned : (b : Bool) (d : Demand) → IfTurned b d → IfTurned b (below Bracket d)
bracket_turned b Nothing h = tt
bracket_turned b (Whole n) h = tt
bracket_turned b (Inside n) h = tt
bracket_turned b (Assigned n) h = h
bracket_turned b (InsideAssigned n) h = h

both_turned : (a b : Bool) (d : Demand) → IfTurned (a && b) d → IfTurned a d
both_turned a b Nothing h = tt
both_turned a b (Whole n) h = tt
both_turned a b (Inside n) h = tt
both_turned a b (Assigned n) h = and_left a b h
both_turned a b (InsideAssigned n) h = and_left a b h

turned_so : (b : Bool) (d : Demand) → b ≡ true → IfTurned b (unassigned (within d))
turned_so b Nothing h = tt
turned_so b (Whole n) h = h
turned_so b (Inside n) h = h
turned_so b (Assigned n) h = h
turned_so b (InsideAssigned n) h = h

made_make_leaf : (es : List Entry) (r : Effect) → effect_make_leaf es ≡ Some r → Made MakeLeaf es r
made_make_leaf (entry (TokenShape NameToken) p ∷ es) made h = found_made MakeLeaf (entry (TokenShape NameToken) p ∷ es) _ _ made h (entry (ExprShape NameForm false) p, (entry (TokenShape NameToken) p ∷ []), es, refl, refl, refl, (λ n. absurd (cc)), (λ w h. (head_turned false _, tt)))
made_make_leaf (entry (TokenShape LiteralToken) p ∷ es) made h = found_made MakeLeaf (entry (TokenShape LiteralToken) p ∷ es) _ _ made h (entry (ExprShape OtherForm false) p, (entry (TokenShape LiteralToken) p ∷ []), es, refl, refl, refl, (λ n. absurd (cc)), (λ w h. (head_turned false _, tt)))
made_make_leaf es made h = no_effect h

made_make_true : (es : List Entry) (r : Effect) → effect_constant es ≡ Some r → Made MakeTrue es r
made_make_true (entry (TokenShape t) p ∷ es) made h = found_made MakeTrue (entry (TokenShape t) p ∷ es) _ _ made h (entry (ExprShape OtherForm false) p, (entry (TokenShape t) p ∷ []), es, refl, refl, refl, (λ n. refl), (λ w h. (head_turned false _, tt)))
made_make_true es made h = no_effect h

made_make_false : (es : List Entry) (r : Effect) → effect_constant es ≡ Some r → Made MakeFalse es r
made_make_false (entry (TokenShape t) p ∷ es) made h = found_made MakeFalse (entry (TokenShape t) p ∷ es) _ _ made h (entry (ExprShape OtherForm false) p, (entry (TokenShape t) p ∷ []), es, refl, refl, refl, (λ n. refl), (λ w h. (head_turned false _, tt)))
made_make_false es made h = no_effect h

made_make_none : (es : List Entry) (r : Effect) → effect_constant es ≡ Some r → Made MakeNone es r
made_make_none (entry (TokenShape t) p ∷ es) made h = found_made MakeNone (entry (TokenShape t) p ∷ es) _ _ made h (entry (ExprShape OtherForm false) p, (entry (TokenShape t) p ∷ []), es, refl, refl, refl, (λ n. refl), (λ w h. (head_turned false _, tt)))
made_make_none es made h = no_effect h

made_make_empty_tuple : (es : List Entry) (r : Effect) → effect_make_empty_tuple es ≡ Some r → Made MakeEmptyTuple es r
made_make_empty_tuple (entry (TokenShape c) q ∷ entry (TokenShape t) p ∷ es) made h = found_made MakeEmptyTuple (entry (TokenShape c) q ∷ entry (TokenShape t) p ∷ es) _ _ made h (entry (ExprShape OtherForm false) p, (entry (TokenShape c) q ∷ entry (TokenShape t) p ∷ []), es, refl, refl, refl, (λ n. refl), (λ w h. (tt, (head_turned false _, tt))))
made_make_empty_tuple es made h = no_effect h

made_make_parenthesis : (es : List Entry) (r : Effect) → effect_bracket es ≡ Some r → Made MakeParenthesis es r
made_make_parenthesis (entry (TokenShape c) q ∷ entry (ExprShape f n) a ∷ entry (TokenShape t) p ∷ es) made h = found_made MakeParenthesis (entry (TokenShape c) q ∷ entry (ExprShape f n) a ∷ entry (TokenShape t) p ∷ es) _ _ made h (entry (ExprShape (BracketForm (are_targets f)) false) p, (entry (TokenShape c) q ∷ entry (ExprShape f n) a ∷ entry (TokenShape t) p ∷ []), es, refl, refl, refl, (λ n. refl), (λ w h. (tt, (bracket_turned (are_targets f) w h, (head_turned false _, tt)))))
made_make_parenthesis es made h = no_effect h

made_make_tuple : (es : List Entry) (r : Effect) → effect_make_tuple es ≡ Some r → Made MakeTuple es r
made_make_tuple (entry (TokenShape t) p ∷ entry (ExprShape f n) a ∷ es) made h = found_made MakeTuple (entry (TokenShape t) p ∷ entry (ExprShape f n) a ∷ es) _ _ made h (entry (ExprShape (TupleForm (is_target f)) false) a, (entry (TokenShape t) p ∷ entry (ExprShape f n) a ∷ []), es, refl, refl, refl, (λ n. refl), (λ w h. (head_turned false _, (tuple_turned (are_targets f) _, tt))))
made_make_tuple es made h = no_effect h

made_add_item : (es : List Entry) (r : Effect) → effect_add_item es ≡ Some r → Made AddItem es r
made_add_item (entry (ExprShape f n) b ∷ entry (ExprShape (TupleForm u) false) a ∷ es) made h = found_made AddItem (entry (ExprShape f n) b ∷ entry (ExprShape (TupleForm u) false) a ∷ es) _ _ made h (entry (ExprShape (TupleForm (u && is_target f)) false) a, (entry (ExprShape f n) b ∷ entry (ExprShape (TupleForm u) false) a ∷ []), es, refl, refl, refl, (λ n. refl), (λ w h. (tuple_turned (are_targets f) _, (both_turned u (is_target f) w h, tt))))
made_add_item es made h = no_effect h

made_make_empty_list : (es : List Entry) (r : Effect) → effect_make_empty_list es ≡ Some r → Made MakeEmptyList es r
made_make_empty_list (entry (TokenShape c) q ∷ entry (TokenShape t) p ∷ es) made h = found_made MakeEmptyList (entry (TokenShape c) q ∷ entry (TokenShape t) p ∷ es) _ _ made h (entry (ExprShape (BracketForm false) false) p, (entry (TokenShape c) q ∷ entry (TokenShape t) p ∷ []), es, refl, refl, refl, (λ n. refl), (λ w h. (tt, (head_turned false _, tt))))
made_make_empty_list es made h = no_effect h

made_make_list_of_one : (es : List Entry) (r : Effect) → effect_bracket es ≡ Some r → Made MakeListOfOne es r
made_make_list_of_one (entry (TokenShape c) q ∷ entry (ExprShape f n) a ∷ entry (TokenShape t) p ∷ es) made h = found_made MakeListOfOne (entry (TokenShape c) q ∷ entry (ExprShape f n) a ∷ entry (TokenShape t) p ∷ es) _ _ made h (entry (ExprShape (BracketForm (are_targets f)) false) p, (entry (TokenShape c) q ∷ entry (ExprShape f n) a ∷ entry (TokenShape t) p ∷ []), es, refl, refl, refl, (λ n. refl), (λ w h. (tt, (bracket_turned (are_targets f) w h, (head_turned false _, tt)))))
made_make_list_of_one es made h = no_effect h

made_make_list : (es : List Entry) (r : Effect) → effect_make_list es ≡ Some r → Made MakeList es r
made_make_list (entry (TokenShape c) q ∷ entry (ExprShape (TupleForm u) n) a ∷ entry (TokenShape t) p ∷ es) made h = found_made MakeList (entry (TokenShape c) q ∷ entry (ExprShape (TupleForm u) n) a ∷ entry (TokenShape t) p ∷ es) _ _ made h (entry (ExprShape (BracketForm u) false) p, (entry (TokenShape c) q ∷ entry (ExprShape (TupleForm u) n) a ∷ entry (TokenShape t) p ∷ []), es, refl, refl, refl, (λ n. refl), (λ w h. (tt, (loose_turned u _, (head_turned false _, tt)))))
made_make_list es made h = no_effect h

made_begin_comprehension : (es : List Entry) (r : Effect) → effect_begin_comprehension es ≡ Some r → Made BeginComprehension es r
made_begin_comprehension (entry (ExprShape f n) a ∷ entry (TokenShape t) p ∷ es) made h = found_made BeginComprehension (entry (ExprShape f n) a ∷ entry (TokenShape t) p ∷ es) _ _ made h (entry (ExprShape ComprehensionForm false) p, (entry (ExprShape f n) a ∷ entry (TokenShape t) p ∷ []), es, refl, refl, refl, (λ n. refl), (λ w h. (plain_turned (are_targets f) _, (head_turned false _, tt))))
made_begin_comprehension es made h = no_effect h

made_begin_loop : (es : List Entry) (r : Effect) → effect_begin_loop es ≡ Some r → Made BeginLoop es r
made_begin_loop (entry (ExprShape f n) a ∷ entry (TokenShape c) q ∷ entry (LoopTargetShape l m) b ∷ entry (TokenShape t) p ∷ es) made h = found_made BeginLoop (entry (ExprShape f n) a ∷ entry (TokenShape c) q ∷ entry (LoopTargetShape l m) b ∷ entry (TokenShape t) p ∷ es) _ _ made h (entry LoopShape nowhere, (entry (ExprShape f n) a ∷ entry (TokenShape c) q ∷ entry (LoopTargetShape l m) b ∷ entry (TokenShape t) p ∷ []), es, refl, refl, refl, (λ n. refl), (λ w h. (apart_turned (are_targets f) _, (tt, (apart_turned false _, (tt, tt))))))
made_begin_loop es made h = no_effect h

made_add_condition : (es : List Entry) (r : Effect) → effect_add_condition es ≡ Some r → Made AddCondition es r
made_add_condition (entry (ExprShape f n) a ∷ entry (TokenShape c) q ∷ entry LoopShape b ∷ es) made h = found_made AddCondition (entry (ExprShape f n) a ∷ entry (TokenShape c) q ∷ entry LoopShape b ∷ es) _ _ made h (entry LoopShape nowhere, (entry (ExprShape f n) a ∷ entry (TokenShape c) q ∷ entry LoopShape b ∷ []), es, refl, refl, refl, (λ n. refl), (λ w h. (apart_turned (are_targets f) _, (tt, (h, tt)))))
made_add_condition es made h = no_effect h

made_add_loop : (es : List Entry) (r : Effect) → effect_add_loop es ≡ Some r → Made AddLoop es r
made_add_loop (entry LoopShape b ∷ entry (ExprShape ComprehensionForm n) a ∷ es) made h = found_made AddLoop (entry LoopShape b ∷ entry (ExprShape ComprehensionForm n) a ∷ es) _ _ made h (entry (ExprShape ComprehensionForm false) a, (entry LoopShape b ∷ entry (ExprShape ComprehensionForm n) a ∷ []), es, refl, refl, refl, (λ n. refl), (λ w h. (plain_turned false _, (h, tt))))
made_add_loop es made h = no_effect h

made_make_empty_dict : (es : List Entry) (r : Effect) → effect_make_empty_dict es ≡ Some r → Made MakeEmptyDict es r
made_make_empty_dict (entry (TokenShape c) q ∷ entry (TokenShape t) p ∷ es) made h = found_made MakeEmptyDict (entry (TokenShape c) q ∷ entry (TokenShape t) p ∷ es) _ _ made h (entry (ExprShape DictForm false) p, (entry (TokenShape c) q ∷ entry (TokenShape t) p ∷ []), es, refl, refl, refl, (λ n. refl), (λ w h. (tt, (head_turned false _, tt))))
made_make_empty_dict es made h = no_effect h

made_begin_dict : (es : List Entry) (r : Effect) → effect_begin_dict es ≡ Some r → Made BeginDict es r
made_begin_dict (entry (ExprShape f n) a ∷ entry (TokenShape c) q ∷ entry (ExprShape g m) b ∷ entry (TokenShape t) p ∷ es) made h = found_made BeginDict (entry (ExprShape f n) a ∷ entry (TokenShape c) q ∷ entry (ExprShape g m) b ∷ entry (TokenShape t) p ∷ es) _ _ made h (entry (ExprShape DictForm false) p, (entry (ExprShape f n) a ∷ entry (TokenShape c) q ∷ entry (ExprShape g m) b ∷ entry (TokenShape t) p ∷ []), es, refl, refl, refl, (λ n. refl), (λ w h. (apart_turned (are_targets f) _, (tt, (apart_turned (are_targets g) _, (head_turned false _, tt))))))
made_begin_dict es made h = no_effect h

made_add_pair : (es : List Entry) (r : Effect) → effect_add_pair es ≡ Some r → Made AddPair es r
made_add_pair (entry (ExprShape f n) b ∷ entry (TokenShape c) q ∷ entry (ExprShape g m) d ∷ entry (ExprShape DictForm u) a ∷ es) made h = found_made AddPair (entry (ExprShape f n) b ∷ entry (TokenShape c) q ∷ entry (ExprShape g m) d ∷ entry (ExprShape DictForm u) a ∷ es) _ _ made h (entry (ExprShape DictForm false) a, (entry (ExprShape f n) b ∷ entry (TokenShape c) q ∷ entry (ExprShape g m) d ∷ entry (ExprShape DictForm u) a ∷ []), es, refl, refl, refl, (λ n. refl), (λ w h. (apart_turned (are_targets f) _, (tt, (apart_turned (are_targets g) _, (h, tt))))))
made_add_pair es made h = no_effect h

made_make_set_of_one : (es : List Entry) (r : Effect) → effect_make_set_of_one es ≡ Some r → Made MakeSetOfOne es r
made_make_set_of_one (entry (TokenShape c) q ∷ entry (ExprShape f n) a ∷ entry (TokenShape t) p ∷ es) made h = found_made MakeSetOfOne (entry (TokenShape c) q ∷ entry (ExprShape f n) a ∷ entry (TokenShape t) p ∷ es) _ _ made h (entry (ExprShape OtherForm false) p, (entry (TokenShape c) q ∷ entry (ExprShape f n) a ∷ entry (TokenShape t) p ∷ []), es, refl, refl, refl, (λ n. refl), (λ w h. (tt, (apart_turned (are_targets f) _, (head_turned false _, tt)))))
made_make_set_of_one es made h = no_effect h

made_make_set : (es : List Entry) (r : Effect) → effect_make_set es ≡ Some r → Made MakeSet es r
made_make_set (entry (TokenShape c) q ∷ entry (ExprShape (TupleForm u) n) a ∷ entry (TokenShape t) p ∷ es) made h = found_made MakeSet (entry (TokenShape c) q ∷ entry (ExprShape (TupleForm u) n) a ∷ entry (TokenShape t) p ∷ es) _ _ made h (entry (ExprShape OtherForm false) p, (entry (TokenShape c) q ∷ entry (ExprShape (TupleForm u) n) a ∷ entry (TokenShape t) p ∷ []), es, refl, refl, refl, (λ n. refl), (λ w h. (tt, (loose_turned u _, (head_turned false _, tt)))))
made_make_set es made h = no_effect h

made_make_attribute : (es : List Entry) (r : Effect) → effect_make_attribute es ≡ Some r → Made MakeAttribute es r
made_make_attribute (entry (TokenShape NameToken) q ∷ entry (TokenShape t) p ∷ entry (ExprShape f n) a ∷ es) made h = found_made MakeAttribute (entry (TokenShape NameToken) q ∷ entry (TokenShape t) p ∷ entry (ExprShape f n) a ∷ es) _ _ made h (entry (ExprShape TargetForm false) a, (entry (TokenShape NameToken) q ∷ entry (TokenShape t) p ∷ entry (ExprShape f n) a ∷ []), es, refl, refl, refl, (λ n. absurd (cc)), (λ w h. (tt, (head_turned false _, (plain_turned (are_targets f) _, tt)))))
made_make_attribute es made h = no_effect h

made_begin_call : (es : List Entry) (r : Effect) → effect_begin_call es ≡ Some r → Made BeginCall es r
made_begin_call (entry (TokenShape t) p ∷ entry (ExprShape f n) a ∷ es) made h = found_made BeginCall (entry (TokenShape t) p ∷ entry (ExprShape f n) a ∷ es) _ _ made h (entry (ExprShape CallForm false) a, (entry (TokenShape t) p ∷ entry (ExprShape f n) a ∷ []), es, refl, refl, refl, (λ n. refl), (λ w h. (head_turned false _, (plain_turned (are_targets f) _, tt))))
made_begin_call es made h = no_effect h

made_add_argument : (es : List Entry) (r : Effect) → effect_add_argument es ≡ Some r → Made AddArgument es r
made_add_argument (entry (ExprShape f n) b ∷ entry (ExprShape CallForm false) a ∷ es) made h = found_made AddArgument (entry (ExprShape f n) b ∷ entry (ExprShape CallForm false) a ∷ es) _ _ made h (entry (ExprShape CallForm false) a, (entry (ExprShape f n) b ∷ entry (ExprShape CallForm false) a ∷ []), es, refl, refl, refl, (λ n. refl), (λ w h. (plain_turned (are_targets f) _, (h, tt))))
made_add_argument es made h = no_effect h

made_add_keyword : (es : List Entry) (r : Effect) → effect_add_keyword es ≡ Some r → Made AddKeyword es r
made_add_keyword (entry (ExprShape f n) b ∷ entry (TokenShape c) q ∷ entry (ExprShape NameForm m) d ∷ entry (ExprShape CallForm u) a ∷ es) made h = found_made AddKeyword (entry (ExprShape f n) b ∷ entry (TokenShape c) q ∷ entry (ExprShape NameForm m) d ∷ entry (ExprShape CallForm u) a ∷ es) _ _ made h (entry (ExprShape CallForm true) a, (entry (ExprShape f n) b ∷ entry (TokenShape c) q ∷ entry (ExprShape NameForm m) d ∷ entry (ExprShape CallForm u) a ∷ []), es, refl, refl, refl, (λ n. refl), (λ w h. (plain_turned (are_targets f) _, (tt, (tt, (h, tt))))))
made_add_keyword es made h = no_effect h

made_make_subscript : (es : List Entry) (r : Effect) → effect_make_subscript es ≡ Some r → Made MakeSubscript es r
made_make_subscript (entry (TokenShape c) q ∷ entry (ExprShape f n) b ∷ entry (TokenShape t) p ∷ entry (ExprShape g m) a ∷ es) made h = found_made MakeSubscript (entry (TokenShape c) q ∷ entry (ExprShape f n) b ∷ entry (TokenShape t) p ∷ entry (ExprShape g m) a ∷ es) _ _ made h (entry (ExprShape SubscriptForm false) a, (entry (TokenShape c) q ∷ entry (ExprShape f n) b ∷ entry (TokenShape t) p ∷ entry (ExprShape g m) a ∷ []), es, refl, refl, refl, (λ n. absurd (cc)), (λ w h. (tt, (plain_turned (are_targets f) _, (head_turned false _, (plain_turned (are_targets g) _, tt))))))
made_make_subscript es made h = no_effect h

made_make_slice_from : (es : List Entry) (r : Effect) → effect_make_slice_from es ≡ Some r → Made MakeSliceFrom es r
made_make_slice_from (entry (TokenShape c) q ∷ entry (ExprShape f n) b ∷ entry (TokenShape t) p ∷ entry (ExprShape g m) a ∷ es) made h = found_made MakeSliceFrom (entry (TokenShape c) q ∷ entry (ExprShape f n) b ∷ entry (TokenShape t) p ∷ entry (ExprShape g m) a ∷ es) _ _ made h (entry (ExprShape (SliceForm false) false) a, (entry (TokenShape c) q ∷ entry (ExprShape f n) b ∷ entry (TokenShape t) p ∷ entry (ExprShape g m) a ∷ []), es, refl, refl, refl, (λ n. refl), (λ w h. (tt, (plain_turned (are_targets f) _, (head_turned false _, (plain_turned (are_targets g) _, tt))))))
made_make_slice_from es made h = no_effect h

made_make_slice : (es : List Entry) (r : Effect) → effect_make_slice es ≡ Some r → Made MakeSlice es r
made_make_slice (entry (TokenShape c) q ∷ entry (TokenShape t) p ∷ entry (ExprShape g m) a ∷ es) made h = found_made MakeSlice (entry (TokenShape c) q ∷ entry (TokenShape t) p ∷ entry (ExprShape g m) a ∷ es) _ _ made h (entry (ExprShape (SliceForm false) false) a, (entry (TokenShape c) q ∷ entry (TokenShape t) p ∷ entry (ExprShape g m) a ∷ []), es, refl, refl, refl, (λ n. refl), (λ w h. (tt, (head_turned false _, (plain_turned (are_targets g) _, tt)))))
made_make_slice es made h = no_effect h

made_add_upper : (es : List Entry) (r : Effect) → effect_add_upper es ≡ Some r → Made AddUpper es r
made_add_upper (entry (TokenShape c) q ∷ entry (ExprShape f n) b ∷ entry (ExprShape (SliceForm false) m) a ∷ es) made h = found_made AddUpper (entry (TokenShape c) q ∷ entry (ExprShape f n) b ∷ entry (ExprShape (SliceForm false) m) a ∷ es) _ _ made h (entry (ExprShape (SliceForm true) false) a, (entry (TokenShape c) q ∷ entry (ExprShape f n) b ∷ entry (ExprShape (SliceForm false) m) a ∷ []), es, refl, refl, refl, (λ n. refl), (λ w h. (tt, (plain_turned (are_targets f) _, (h, tt)))))
made_add_upper es made h = no_effect h

made_make_unary : (o : UnaryOperator) (es : List Entry) (r : Effect) → effect_prefix es ≡ Some r → Made (MakeUnary o) es r
made_make_unary o (entry (ExprShape f n) a ∷ entry (TokenShape t) p ∷ es) made h = found_made (MakeUnary o) (entry (ExprShape f n) a ∷ entry (TokenShape t) p ∷ es) _ _ made h (entry (ExprShape OtherForm false) p, (entry (ExprShape f n) a ∷ entry (TokenShape t) p ∷ []), es, refl, refl, refl, (λ n. refl), (λ w h. (plain_turned (are_targets f) _, (head_turned false _, tt))))
made_make_unary o es made h = no_effect h

made_make_binary : (o : BinaryOperator) (es : List Entry) (r : Effect) → effect_infix OtherForm es ≡ Some r → Made (MakeBinary o) es r
made_make_binary o (entry (ExprShape f n) b ∷ entry (TokenShape t) p ∷ entry (ExprShape g m) a ∷ es) made h = found_made (MakeBinary o) (entry (ExprShape f n) b ∷ entry (TokenShape t) p ∷ entry (ExprShape g m) a ∷ es) _ _ made h (entry (ExprShape OtherForm false) a, (entry (ExprShape f n) b ∷ entry (TokenShape t) p ∷ entry (ExprShape g m) a ∷ []), es, refl, refl, refl, (λ n. refl), (λ w h. (plain_turned (are_targets f) _, (head_turned false _, (plain_turned (are_targets g) _, tt)))))
made_make_binary o es made h = no_effect h

made_make_sign : (o : ComparisonOperator) (es : List Entry) (r : Effect) → effect_make_sign es ≡ Some r → Made (MakeSign o) es r
made_make_sign o (entry (TokenShape t) p ∷ es) made h = found_made (MakeSign o) (entry (TokenShape t) p ∷ es) _ _ made h (entry SignShape p, (entry (TokenShape t) p ∷ []), es, refl, refl, refl, (λ n. refl), (λ w h. (h, tt)))
made_make_sign o es made h = no_effect h

made_make_long_sign : (o : ComparisonOperator) (es : List Entry) (r : Effect) → effect_make_long_sign es ≡ Some r → Made (MakeLongSign o) es r
made_make_long_sign o (entry (TokenShape c) q ∷ entry (TokenShape t) p ∷ es) made h = found_made (MakeLongSign o) (entry (TokenShape c) q ∷ entry (TokenShape t) p ∷ es) _ _ made h (entry SignShape p, (entry (TokenShape c) q ∷ entry (TokenShape t) p ∷ []), es, refl, refl, refl, (λ n. refl), (λ w h. (tt, (h, tt))))
made_make_long_sign o es made h = no_effect h

made_make_compare : (es : List Entry) (r : Effect) → effect_make_compare es ≡ Some r → Made MakeCompare es r
made_make_compare (entry (ExprShape f n) b ∷ entry SignShape p ∷ entry (ExprShape g m) a ∷ es) made h = found_made MakeCompare (entry (ExprShape f n) b ∷ entry SignShape p ∷ entry (ExprShape g m) a ∷ es) _ _ made h (entry (ExprShape CompareForm false) a, (entry (ExprShape f n) b ∷ entry SignShape p ∷ entry (ExprShape g m) a ∷ []), es, refl, refl, refl, (λ n. refl), (λ w h. (plain_turned (are_targets f) _, (head_turned false _, (plain_turned (are_targets g) _, tt)))))
made_make_compare es made h = no_effect h

made_add_link : (es : List Entry) (r : Effect) → effect_add_link es ≡ Some r → Made AddLink es r
made_add_link (entry (ExprShape f n) b ∷ entry SignShape q ∷ entry (ExprShape CompareForm m) a ∷ es) made h = found_made AddLink (entry (ExprShape f n) b ∷ entry SignShape q ∷ entry (ExprShape CompareForm m) a ∷ es) _ _ made h (entry (ExprShape CompareForm false) a, (entry (ExprShape f n) b ∷ entry SignShape q ∷ entry (ExprShape CompareForm m) a ∷ []), es, refl, refl, refl, (λ n. refl), (λ w h. (plain_turned (are_targets f) _, (tt, (h, tt)))))
made_add_link es made h = no_effect h

made_make_not : (es : List Entry) (r : Effect) → effect_prefix es ≡ Some r → Made MakeNot es r
made_make_not (entry (ExprShape f n) a ∷ entry (TokenShape t) p ∷ es) made h = found_made MakeNot (entry (ExprShape f n) a ∷ entry (TokenShape t) p ∷ es) _ _ made h (entry (ExprShape OtherForm false) p, (entry (ExprShape f n) a ∷ entry (TokenShape t) p ∷ []), es, refl, refl, refl, (λ n. refl), (λ w h. (plain_turned (are_targets f) _, (head_turned false _, tt))))
made_make_not es made h = no_effect h

made_make_and : (es : List Entry) (r : Effect) → effect_infix AndForm es ≡ Some r → Made MakeAnd es r
made_make_and (entry (ExprShape f n) b ∷ entry (TokenShape t) p ∷ entry (ExprShape g m) a ∷ es) made h = found_made MakeAnd (entry (ExprShape f n) b ∷ entry (TokenShape t) p ∷ entry (ExprShape g m) a ∷ es) _ _ made h (entry (ExprShape AndForm false) a, (entry (ExprShape f n) b ∷ entry (TokenShape t) p ∷ entry (ExprShape g m) a ∷ []), es, refl, refl, refl, (λ n. refl), (λ w h. (plain_turned (are_targets f) _, (head_turned false _, (plain_turned (are_targets g) _, tt)))))
made_make_and es made h = no_effect h

made_add_and : (es : List Entry) (r : Effect) → effect_add_and es ≡ Some r → Made AddAnd es r
made_add_and (entry (ExprShape f n) b ∷ entry (TokenShape c) q ∷ entry (ExprShape AndForm m) a ∷ es) made h = found_made AddAnd (entry (ExprShape f n) b ∷ entry (TokenShape c) q ∷ entry (ExprShape AndForm m) a ∷ es) _ _ made h (entry (ExprShape AndForm false) a, (entry (ExprShape f n) b ∷ entry (TokenShape c) q ∷ entry (ExprShape AndForm m) a ∷ []), es, refl, refl, refl, (λ n. refl), (λ w h. (plain_turned (are_targets f) _, (tt, (h, tt)))))
made_add_and es made h = no_effect h

made_make_or : (es : List Entry) (r : Effect) → effect_infix OrForm es ≡ Some r → Made MakeOr es r
made_make_or (entry (ExprShape f n) b ∷ entry (TokenShape t) p ∷ entry (ExprShape g m) a ∷ es) made h = found_made MakeOr (entry (ExprShape f n) b ∷ entry (TokenShape t) p ∷ entry (ExprShape g m) a ∷ es) _ _ made h (entry (ExprShape OrForm false) a, (entry (ExprShape f n) b ∷ entry (TokenShape t) p ∷ entry (ExprShape g m) a ∷ []), es, refl, refl, refl, (λ n. refl), (λ w h. (plain_turned (are_targets f) _, (head_turned false _, (plain_turned (are_targets g) _, tt)))))
made_make_or es made h = no_effect h

made_add_or : (es : List Entry) (r : Effect) → effect_add_or es ≡ Some r → Made AddOr es r
made_add_or (entry (ExprShape f n) b ∷ entry (TokenShape c) q ∷ entry (ExprShape OrForm m) a ∷ es) made h = found_made AddOr (entry (ExprShape f n) b ∷ entry (TokenShape c) q ∷ entry (ExprShape OrForm m) a ∷ es) _ _ made h (entry (ExprShape OrForm false) a, (entry (ExprShape f n) b ∷ entry (TokenShape c) q ∷ entry (ExprShape OrForm m) a ∷ []), es, refl, refl, refl, (λ n. refl), (λ w h. (plain_turned (are_targets f) _, (tt, (h, tt)))))
made_add_or es made h = no_effect h

made_make_conditional : (es : List Entry) (r : Effect) → effect_make_conditional es ≡ Some r → Made MakeConditional es r
made_make_conditional (entry (ExprShape f n) b ∷ entry (TokenShape c) q ∷ entry (ExprShape g m) d ∷ entry (TokenShape t) p ∷ entry (ExprShape i u) a ∷ es) made h = found_made MakeConditional (entry (ExprShape f n) b ∷ entry (TokenShape c) q ∷ entry (ExprShape g m) d ∷ entry (TokenShape t) p ∷ entry (ExprShape i u) a ∷ es) _ _ made h (entry (ExprShape OtherForm false) a, (entry (ExprShape f n) b ∷ entry (TokenShape c) q ∷ entry (ExprShape g m) d ∷ entry (TokenShape t) p ∷ entry (ExprShape i u) a ∷ []), es, refl, refl, refl, (λ n. refl), (λ w h. (plain_turned (are_targets f) _, (tt, (plain_turned (are_targets g) _, (head_turned false _, (plain_turned (are_targets i) _, tt)))))))
made_make_conditional es made h = no_effect h

made_make_loop_name : (es : List Entry) (r : Effect) → effect_make_loop_name es ≡ Some r → Made MakeLoopName es r
made_make_loop_name (entry (TokenShape NameToken) q ∷ es) made h = found_made MakeLoopName (entry (TokenShape NameToken) q ∷ es) _ _ made h (entry (LoopTargetShape OneName true) nowhere, (entry (TokenShape NameToken) q ∷ []), es, refl, refl, refl, (λ n. refl), (λ w h. (head_turned false _, tt)))
made_make_loop_name es made h = no_effect h

made_make_loop_names : (es : List Entry) (r : Effect) → effect_make_loop_names es ≡ Some r → Made MakeLoopNames es r
made_make_loop_names (entry (TokenShape t) p ∷ entry (LoopTargetShape OneName m) b ∷ es) made h = found_made MakeLoopNames (entry (TokenShape t) p ∷ entry (LoopTargetShape OneName m) b ∷ es) _ _ made h (entry (LoopTargetShape SomeNames true) nowhere, (entry (TokenShape t) p ∷ entry (LoopTargetShape OneName m) b ∷ []), es, refl, refl, refl, (λ n. refl), (λ w h. (tt, (apart_turned false _, tt))))
made_make_loop_names es made h = no_effect h

made_add_loop_name : (es : List Entry) (r : Effect) → effect_add_loop_name es ≡ Some r → Made AddLoopName es r
made_add_loop_name (entry (TokenShape NameToken) q ∷ entry (LoopTargetShape SomeNames true) b ∷ es) made h = found_made AddLoopName (entry (TokenShape NameToken) q ∷ entry (LoopTargetShape SomeNames true) b ∷ es) _ _ made h (entry (LoopTargetShape SomeNames true) nowhere, (entry (TokenShape NameToken) q ∷ entry (LoopTargetShape SomeNames true) b ∷ []), es, refl, refl, refl, (λ n. refl), (λ w h. (head_turned false _, (h, tt))))
made_add_loop_name es made h = no_effect h

made_make_loop_parenthesis : (es : List Entry) (r : Effect) → effect_make_loop_parenthesis es ≡ Some r → Made MakeLoopParenthesis es r
made_make_loop_parenthesis (entry (TokenShape c) q ∷ entry (LoopTargetShape l m) b ∷ entry (TokenShape t) p ∷ es) made h = found_made MakeLoopParenthesis (entry (TokenShape c) q ∷ entry (LoopTargetShape l m) b ∷ entry (TokenShape t) p ∷ es) _ _ made h (entry (LoopTargetShape NamesInBrackets true) nowhere, (entry (TokenShape c) q ∷ entry (LoopTargetShape l m) b ∷ entry (TokenShape t) p ∷ []), es, refl, refl, refl, (λ n. refl), (λ w h. (tt, (plain_turned false _, (head_turned false _, tt)))))
made_make_loop_parenthesis es made h = no_effect h

made_begin_body : (es : List Entry) (r : Effect) → effect_begin_body es ≡ Some r → Made BeginBody es r
made_begin_body es made h = found_made BeginBody es _ _ made h (entry (BodyShape false) nowhere, ([]), es, refl, refl, refl, (λ n. refl), (λ w h. tt))

made_add_stmt : (es : List Entry) (r : Effect) → effect_add_stmt es ≡ Some r → Made AddStmt es r
made_add_stmt (entry (StmtShape f m) b ∷ entry (BodyShape u) c ∷ es) made h = found_made AddStmt (entry (StmtShape f m) b ∷ entry (BodyShape u) c ∷ es) _ _ made h (entry (BodyShape true) nowhere, (entry (StmtShape f m) b ∷ entry (BodyShape u) c ∷ []), es, refl, refl, refl, (λ n. refl), (λ w h. (apart_turned false _, (h, tt))))
made_add_stmt es made h = no_effect h

made_make_expr_stmt : (es : List Entry) (r : Effect) → effect_make_expr_stmt es ≡ Some r → Made MakeExprStmt es r
made_make_expr_stmt (entry (ExprShape f n) a ∷ es) made h = found_made MakeExprStmt (entry (ExprShape f n) a ∷ es) _ _ made h (entry (StmtShape OtherStmt false) nowhere, (entry (ExprShape f n) a ∷ []), es, refl, refl, refl, (λ n. refl), (λ w h. (plain_turned (are_targets f) _, tt)))
made_make_expr_stmt es made h = no_effect h

made_make_targets : (es : List Entry) (r : Effect) → effect_make_targets es ≡ Some r → Made MakeTargets es r
made_make_targets (entry (TokenShape c) q ∷ entry (ExprShape f n) a ∷ es) made h = chosen_made (are_targets f) MakeTargets (entry (TokenShape c) q ∷ entry (ExprShape f n) a ∷ es) _ _ made h (λ g. (entry TargetsShape a, (entry (TokenShape c) q ∷ entry (ExprShape f n) a ∷ []), es, refl, refl, refl, (λ n. refl), (λ w h. (tt, (turned_so (are_targets f) w g, tt)))))
made_make_targets es made h = no_effect h

made_add_targets : (es : List Entry) (r : Effect) → effect_add_targets es ≡ Some r → Made AddTargets es r
made_add_targets (entry (TokenShape c) q ∷ entry (ExprShape f n) b ∷ entry TargetsShape a ∷ es) made h = chosen_made (are_targets f) AddTargets (entry (TokenShape c) q ∷ entry (ExprShape f n) b ∷ entry TargetsShape a ∷ es) _ _ made h (λ g. (entry TargetsShape a, (entry (TokenShape c) q ∷ entry (ExprShape f n) b ∷ entry TargetsShape a ∷ []), es, refl, refl, refl, (λ n. refl), (λ w h. (tt, (turned_so (are_targets f) w g, (h, tt))))))
made_add_targets es made h = no_effect h

made_make_assign : (es : List Entry) (r : Effect) → effect_make_assign es ≡ Some r → Made MakeAssign es r
made_make_assign (entry (ExprShape f n) b ∷ entry TargetsShape a ∷ es) made h = found_made MakeAssign (entry (ExprShape f n) b ∷ entry TargetsShape a ∷ es) _ _ made h (entry (StmtShape OtherStmt false) nowhere, (entry (ExprShape f n) b ∷ entry TargetsShape a ∷ []), es, refl, refl, refl, (λ n. refl), (λ w h. (plain_turned (are_targets f) _, (plain_turned false _, tt))))
made_make_assign es made h = no_effect h

made_make_augmented : (o : BinaryOperator) (es : List Entry) (r : Effect) → effect_make_augmented es ≡ Some r → Made (MakeAugmented o) es r
made_make_augmented o (entry (ExprShape f n) b ∷ entry (TokenShape c) q ∷ entry (ExprShape g m) a ∷ es) made h = chosen_made (is_target g) (MakeAugmented o) (entry (ExprShape f n) b ∷ entry (TokenShape c) q ∷ entry (ExprShape g m) a ∷ es) _ _ made h (λ k. (entry (StmtShape OtherStmt false) nowhere, (entry (ExprShape f n) b ∷ entry (TokenShape c) q ∷ entry (ExprShape g m) a ∷ []), es, refl, refl, refl, (λ n. refl), (λ w h. (plain_turned (are_targets f) _, (tt, (plain_turned (are_targets g) _, tt))))))
made_make_augmented o es made h = no_effect h

made_make_pass : (es : List Entry) (r : Effect) → effect_word es ≡ Some r → Made MakePass es r
made_make_pass (entry (TokenShape t) p ∷ es) made h = found_made MakePass (entry (TokenShape t) p ∷ es) _ _ made h (entry (StmtShape OtherStmt false) nowhere, (entry (TokenShape t) p ∷ []), es, refl, refl, refl, (λ n. refl), (λ w h. (head_turned false _, tt)))
made_make_pass es made h = no_effect h

made_make_break : (es : List Entry) (r : Effect) → effect_word es ≡ Some r → Made MakeBreak es r
made_make_break (entry (TokenShape t) p ∷ es) made h = found_made MakeBreak (entry (TokenShape t) p ∷ es) _ _ made h (entry (StmtShape OtherStmt false) nowhere, (entry (TokenShape t) p ∷ []), es, refl, refl, refl, (λ n. refl), (λ w h. (head_turned false _, tt)))
made_make_break es made h = no_effect h

made_make_continue : (es : List Entry) (r : Effect) → effect_word es ≡ Some r → Made MakeContinue es r
made_make_continue (entry (TokenShape t) p ∷ es) made h = found_made MakeContinue (entry (TokenShape t) p ∷ es) _ _ made h (entry (StmtShape OtherStmt false) nowhere, (entry (TokenShape t) p ∷ []), es, refl, refl, refl, (λ n. refl), (λ w h. (head_turned false _, tt)))
made_make_continue es made h = no_effect h

made_make_return : (es : List Entry) (r : Effect) → effect_word es ≡ Some r → Made MakeReturn es r
made_make_return (entry (TokenShape t) p ∷ es) made h = found_made MakeReturn (entry (TokenShape t) p ∷ es) _ _ made h (entry (StmtShape OtherStmt false) nowhere, (entry (TokenShape t) p ∷ []), es, refl, refl, refl, (λ n. refl), (λ w h. (head_turned false _, tt)))
made_make_return es made h = no_effect h

made_make_return_value : (es : List Entry) (r : Effect) → effect_with_value es ≡ Some r → Made MakeReturnValue es r
made_make_return_value (entry (ExprShape f n) a ∷ entry (TokenShape t) p ∷ es) made h = found_made MakeReturnValue (entry (ExprShape f n) a ∷ entry (TokenShape t) p ∷ es) _ _ made h (entry (StmtShape OtherStmt false) nowhere, (entry (ExprShape f n) a ∷ entry (TokenShape t) p ∷ []), es, refl, refl, refl, (λ n. refl), (λ w h. (plain_turned (are_targets f) _, (head_turned false _, tt))))
made_make_return_value es made h = no_effect h

made_make_raise : (es : List Entry) (r : Effect) → effect_with_value es ≡ Some r → Made MakeRaise es r
made_make_raise (entry (ExprShape f n) a ∷ entry (TokenShape t) p ∷ es) made h = found_made MakeRaise (entry (ExprShape f n) a ∷ entry (TokenShape t) p ∷ es) _ _ made h (entry (StmtShape OtherStmt false) nowhere, (entry (ExprShape f n) a ∷ entry (TokenShape t) p ∷ []), es, refl, refl, refl, (λ n. refl), (λ w h. (plain_turned (are_targets f) _, (head_turned false _, tt))))
made_make_raise es made h = no_effect h

made_make_yield : (es : List Entry) (r : Effect) → effect_with_value es ≡ Some r → Made MakeYield es r
made_make_yield (entry (ExprShape f n) a ∷ entry (TokenShape t) p ∷ es) made h = found_made MakeYield (entry (ExprShape f n) a ∷ entry (TokenShape t) p ∷ es) _ _ made h (entry (StmtShape OtherStmt false) nowhere, (entry (ExprShape f n) a ∷ entry (TokenShape t) p ∷ []), es, refl, refl, refl, (λ n. refl), (λ w h. (plain_turned (are_targets f) _, (head_turned false _, tt))))
made_make_yield es made h = no_effect h

made_begin_global : (es : List Entry) (r : Effect) → effect_begin_global es ≡ Some r → Made BeginGlobal es r
made_begin_global (entry (TokenShape t) p ∷ es) made h = found_made BeginGlobal (entry (TokenShape t) p ∷ es) _ _ made h (entry (StmtShape GlobalStmt false) nowhere, (entry (TokenShape t) p ∷ []), es, refl, refl, refl, (λ n. refl), (λ w h. (head_turned false _, tt)))
made_begin_global es made h = no_effect h

made_add_global : (es : List Entry) (r : Effect) → effect_add_global es ≡ Some r → Made AddGlobal es r
made_add_global (entry (TokenShape NameToken) q ∷ entry (StmtShape GlobalStmt m) b ∷ es) made h = found_made AddGlobal (entry (TokenShape NameToken) q ∷ entry (StmtShape GlobalStmt m) b ∷ es) _ _ made h (entry (StmtShape GlobalStmt false) nowhere, (entry (TokenShape NameToken) q ∷ entry (StmtShape GlobalStmt m) b ∷ []), es, refl, refl, refl, (λ n. refl), (λ w h. (tt, (h, tt))))
made_add_global es made h = no_effect h

made_make_assert : (es : List Entry) (r : Effect) → effect_with_value es ≡ Some r → Made MakeAssert es r
made_make_assert (entry (ExprShape f n) a ∷ entry (TokenShape t) p ∷ es) made h = found_made MakeAssert (entry (ExprShape f n) a ∷ entry (TokenShape t) p ∷ es) _ _ made h (entry (StmtShape OtherStmt false) nowhere, (entry (ExprShape f n) a ∷ entry (TokenShape t) p ∷ []), es, refl, refl, refl, (λ n. refl), (λ w h. (plain_turned (are_targets f) _, (head_turned false _, tt))))
made_make_assert es made h = no_effect h

made_make_assert_message : (es : List Entry) (r : Effect) → effect_make_assert_message es ≡ Some r → Made MakeAssertMessage es r
made_make_assert_message (entry (ExprShape f n) b ∷ entry (TokenShape c) q ∷ entry (ExprShape g m) a ∷ entry (TokenShape t) p ∷ es) made h = found_made MakeAssertMessage (entry (ExprShape f n) b ∷ entry (TokenShape c) q ∷ entry (ExprShape g m) a ∷ entry (TokenShape t) p ∷ es) _ _ made h (entry (StmtShape OtherStmt false) nowhere, (entry (ExprShape f n) b ∷ entry (TokenShape c) q ∷ entry (ExprShape g m) a ∷ entry (TokenShape t) p ∷ []), es, refl, refl, refl, (λ n. refl), (λ w h. (plain_turned (are_targets f) _, (tt, (plain_turned (are_targets g) _, (head_turned false _, tt))))))
made_make_assert_message es made h = no_effect h

made_make_delete : (es : List Entry) (r : Effect) → effect_make_delete es ≡ Some r → Made MakeDelete es r
made_make_delete (entry (ExprShape SubscriptForm n) a ∷ entry (TokenShape t) p ∷ es) made h = found_made MakeDelete (entry (ExprShape SubscriptForm n) a ∷ entry (TokenShape t) p ∷ es) _ _ made h (entry (StmtShape OtherStmt false) nowhere, (entry (ExprShape SubscriptForm n) a ∷ entry (TokenShape t) p ∷ []), es, refl, refl, refl, (λ n. refl), (λ w h. (plain_turned true _, (head_turned false _, tt))))
made_make_delete es made h = no_effect h

made_make_if : (es : List Entry) (r : Effect) → effect_make_if es ≡ Some r → Made MakeIf es r
made_make_if (entry (BodyShape u) a ∷ entry (BodyShape w) b ∷ entry (TokenShape c) q ∷ entry (ExprShape f n) d ∷ entry (TokenShape t) p ∷ es) made h = found_made MakeIf (entry (BodyShape u) a ∷ entry (BodyShape w) b ∷ entry (TokenShape c) q ∷ entry (ExprShape f n) d ∷ entry (TokenShape t) p ∷ es) _ _ made h (entry (StmtShape OtherStmt false) nowhere, (entry (BodyShape u) a ∷ entry (BodyShape w) b ∷ entry (TokenShape c) q ∷ entry (ExprShape f n) d ∷ entry (TokenShape t) p ∷ []), es, refl, refl, refl, (λ n. refl), (λ w h. (plain_turned false _, (plain_turned false _, (tt, (plain_turned (are_targets f) _, (head_turned false _, tt)))))))
made_make_if es made h = no_effect h

made_make_elif : (es : List Entry) (r : Effect) → effect_make_elif es ≡ Some r → Made MakeElif es r
made_make_elif (entry (BodyShape u) a ∷ entry (BodyShape w) b ∷ entry (TokenShape c) q ∷ entry (ExprShape f n) d ∷ entry (TokenShape t) p ∷ es) made h = found_made MakeElif (entry (BodyShape u) a ∷ entry (BodyShape w) b ∷ entry (TokenShape c) q ∷ entry (ExprShape f n) d ∷ entry (TokenShape t) p ∷ es) _ _ made h (entry (BodyShape true) nowhere, (entry (BodyShape u) a ∷ entry (BodyShape w) b ∷ entry (TokenShape c) q ∷ entry (ExprShape f n) d ∷ entry (TokenShape t) p ∷ []), es, refl, refl, refl, (λ n. refl), (λ w h. (plain_turned false _, (plain_turned false _, (tt, (plain_turned (are_targets f) _, (head_turned false _, tt)))))))
made_make_elif es made h = no_effect h

made_make_else : (es : List Entry) (r : Effect) → effect_make_else es ≡ Some r → Made MakeElse es r
made_make_else (entry (BodyShape u) a ∷ entry (TokenShape c) q ∷ entry (TokenShape t) p ∷ es) made h = found_made MakeElse (entry (BodyShape u) a ∷ entry (TokenShape c) q ∷ entry (TokenShape t) p ∷ es) _ _ made h (entry (BodyShape u) nowhere, (entry (BodyShape u) a ∷ entry (TokenShape c) q ∷ entry (TokenShape t) p ∷ []), es, refl, refl, refl, (λ n. refl), (λ w h. (h, (tt, (tt, tt)))))
made_make_else es made h = no_effect h

made_make_while : (es : List Entry) (r : Effect) → effect_make_while es ≡ Some r → Made MakeWhile es r
made_make_while (entry (BodyShape u) a ∷ entry (TokenShape c) q ∷ entry (ExprShape f n) d ∷ entry (TokenShape t) p ∷ es) made h = found_made MakeWhile (entry (BodyShape u) a ∷ entry (TokenShape c) q ∷ entry (ExprShape f n) d ∷ entry (TokenShape t) p ∷ es) _ _ made h (entry (StmtShape OtherStmt false) nowhere, (entry (BodyShape u) a ∷ entry (TokenShape c) q ∷ entry (ExprShape f n) d ∷ entry (TokenShape t) p ∷ []), es, refl, refl, refl, (λ n. refl), (λ w h. (plain_turned false _, (tt, (plain_turned (are_targets f) _, (head_turned false _, tt))))))
made_make_while es made h = no_effect h

made_make_for : (es : List Entry) (r : Effect) → effect_make_for es ≡ Some r → Made MakeFor es r
made_make_for (entry (BodyShape u) a ∷ entry (TokenShape c) q ∷ entry (ExprShape f n) d ∷ entry (TokenShape i) r ∷ entry (LoopTargetShape l m) b ∷ entry (TokenShape t) p ∷ es) made h = found_made MakeFor (entry (BodyShape u) a ∷ entry (TokenShape c) q ∷ entry (ExprShape f n) d ∷ entry (TokenShape i) r ∷ entry (LoopTargetShape l m) b ∷ entry (TokenShape t) p ∷ es) _ _ made h (entry (StmtShape OtherStmt false) nowhere, (entry (BodyShape u) a ∷ entry (TokenShape c) q ∷ entry (ExprShape f n) d ∷ entry (TokenShape i) r ∷ entry (LoopTargetShape l m) b ∷ entry (TokenShape t) p ∷ []), es, refl, refl, refl, (λ n. refl), (λ w h. (plain_turned false _, (tt, (plain_turned (are_targets f) _, (tt, (plain_turned false _, (head_turned false _, tt))))))))
made_make_for es made h = no_effect h

made_begin_try : (es : List Entry) (r : Effect) → effect_begin_try es ≡ Some r → Made BeginTry es r
made_begin_try (entry (BodyShape u) a ∷ entry (TokenShape c) q ∷ entry (TokenShape t) p ∷ es) made h = found_made BeginTry (entry (BodyShape u) a ∷ entry (TokenShape c) q ∷ entry (TokenShape t) p ∷ es) _ _ made h (entry (StmtShape TryStmt false) nowhere, (entry (BodyShape u) a ∷ entry (TokenShape c) q ∷ entry (TokenShape t) p ∷ []), es, refl, refl, refl, (λ n. refl), (λ w h. (plain_turned false _, (tt, (head_turned false _, tt)))))
made_begin_try es made h = no_effect h

made_catch_all : (es : List Entry) (r : Effect) → effect_catch_all es ≡ Some r → Made CatchAll es r
made_catch_all (entry (BodyShape u) a ∷ entry (TokenShape c) q ∷ entry (TokenShape t) p ∷ entry (StmtShape TryStmt m) b ∷ es) made h = found_made CatchAll (entry (BodyShape u) a ∷ entry (TokenShape c) q ∷ entry (TokenShape t) p ∷ entry (StmtShape TryStmt m) b ∷ es) _ _ made h (entry (StmtShape TryStmt false) nowhere, (entry (BodyShape u) a ∷ entry (TokenShape c) q ∷ entry (TokenShape t) p ∷ entry (StmtShape TryStmt m) b ∷ []), es, refl, refl, refl, (λ n. refl), (λ w h. (plain_turned false _, (tt, (tt, (h, tt))))))
made_catch_all es made h = no_effect h

made_catch : (es : List Entry) (r : Effect) → effect_catch es ≡ Some r → Made Catch es r
made_catch (entry (BodyShape u) a ∷ entry (TokenShape c) q ∷ entry (ClassShape l) d ∷ entry (TokenShape t) p ∷ entry (StmtShape TryStmt m) b ∷ es) made h = found_made Catch (entry (BodyShape u) a ∷ entry (TokenShape c) q ∷ entry (ClassShape l) d ∷ entry (TokenShape t) p ∷ entry (StmtShape TryStmt m) b ∷ es) _ _ made h (entry (StmtShape TryStmt false) nowhere, (entry (BodyShape u) a ∷ entry (TokenShape c) q ∷ entry (ClassShape l) d ∷ entry (TokenShape t) p ∷ entry (StmtShape TryStmt m) b ∷ []), es, refl, refl, refl, (λ n. refl), (λ w h. (plain_turned false _, (tt, (tt, (tt, (h, tt)))))))
made_catch es made h = no_effect h

made_catch_as : (es : List Entry) (r : Effect) → effect_catch_as es ≡ Some r → Made CatchAs es r
made_catch_as (entry (BodyShape u) a ∷ entry (TokenShape c) q ∷ entry (TokenShape NameToken) e ∷ entry (TokenShape i) r ∷ entry (ClassShape l) d ∷ entry (TokenShape t) p ∷ entry (StmtShape TryStmt m) b ∷ es) made h = found_made CatchAs (entry (BodyShape u) a ∷ entry (TokenShape c) q ∷ entry (TokenShape NameToken) e ∷ entry (TokenShape i) r ∷ entry (ClassShape l) d ∷ entry (TokenShape t) p ∷ entry (StmtShape TryStmt m) b ∷ es) _ _ made h (entry (StmtShape TryStmt false) nowhere, (entry (BodyShape u) a ∷ entry (TokenShape c) q ∷ entry (TokenShape NameToken) e ∷ entry (TokenShape i) r ∷ entry (ClassShape l) d ∷ entry (TokenShape t) p ∷ entry (StmtShape TryStmt m) b ∷ []), es, refl, refl, refl, (λ n. refl), (λ w h. (plain_turned false _, (tt, (tt, (tt, (tt, (tt, (h, tt)))))))))
made_catch_as es made h = no_effect h

made_make_class_name : (es : List Entry) (r : Effect) → effect_make_class_name es ≡ Some r → Made MakeClassName es r
made_make_class_name (entry (TokenShape NameToken) q ∷ es) made h = found_made MakeClassName (entry (TokenShape NameToken) q ∷ es) _ _ made h (entry (ClassShape BareName) nowhere, (entry (TokenShape NameToken) q ∷ []), es, refl, refl, refl, (λ n. refl), (λ w h. (tt, tt)))
made_make_class_name es made h = no_effect h

made_make_class_within : (es : List Entry) (r : Effect) → effect_make_class_within es ≡ Some r → Made MakeClassWithin es r
made_make_class_within (entry (TokenShape NameToken) q ∷ entry (TokenShape t) p ∷ entry (ClassShape BareName) b ∷ es) made h = found_made MakeClassWithin (entry (TokenShape NameToken) q ∷ entry (TokenShape t) p ∷ entry (ClassShape BareName) b ∷ es) _ _ made h (entry (ClassShape DottedName) nowhere, (entry (TokenShape NameToken) q ∷ entry (TokenShape t) p ∷ entry (ClassShape BareName) b ∷ []), es, refl, refl, refl, (λ n. refl), (λ w h. (tt, (tt, (tt, tt)))))
made_make_class_within es made h = no_effect h

made_begin_def : (es : List Entry) (r : Effect) → effect_begin_def es ≡ Some r → Made BeginDef es r
made_begin_def (entry (TokenShape c) q ∷ entry (TokenShape NameToken) r ∷ entry (TokenShape t) p ∷ es) made h = found_made BeginDef (entry (TokenShape c) q ∷ entry (TokenShape NameToken) r ∷ entry (TokenShape t) p ∷ es) _ _ made h (entry (StmtShape DefStmt false) nowhere, (entry (TokenShape c) q ∷ entry (TokenShape NameToken) r ∷ entry (TokenShape t) p ∷ []), es, refl, refl, refl, (λ n. refl), (λ w h. (tt, (tt, (head_turned false _, tt)))))
made_begin_def es made h = no_effect h

made_add_parameter : (es : List Entry) (r : Effect) → effect_add_parameter es ≡ Some r → Made AddParameter es r
made_add_parameter (entry (TokenShape NameToken) q ∷ entry (StmtShape DefStmt m) b ∷ es) made h = found_made AddParameter (entry (TokenShape NameToken) q ∷ entry (StmtShape DefStmt m) b ∷ es) _ _ made h (entry (StmtShape DefStmt m) nowhere, (entry (TokenShape NameToken) q ∷ entry (StmtShape DefStmt m) b ∷ []), es, refl, refl, refl, (λ n. refl), (λ w h. (tt, (h, tt))))
made_add_parameter es made h = no_effect h

made_add_default : (es : List Entry) (r : Effect) → effect_add_default es ≡ Some r → Made AddDefault es r
made_add_default (entry (ExprShape f n) a ∷ entry (TokenShape c) q ∷ entry (TokenShape NameToken) r ∷ entry (StmtShape DefStmt false) b ∷ es) made h = found_made AddDefault (entry (ExprShape f n) a ∷ entry (TokenShape c) q ∷ entry (TokenShape NameToken) r ∷ entry (StmtShape DefStmt false) b ∷ es) _ _ made h (entry (StmtShape DefStmt false) nowhere, (entry (ExprShape f n) a ∷ entry (TokenShape c) q ∷ entry (TokenShape NameToken) r ∷ entry (StmtShape DefStmt false) b ∷ []), es, refl, refl, refl, (λ n. refl), (λ w h. (plain_turned (are_targets f) _, (tt, (tt, (h, tt))))))
made_add_default es made h = no_effect h

made_end_def : (es : List Entry) (r : Effect) → effect_end_def es ≡ Some r → Made EndDef es r
made_end_def (entry (BodyShape true) a ∷ entry (TokenShape c) q ∷ entry (TokenShape t) p ∷ entry (StmtShape DefStmt false) b ∷ es) made h = found_made EndDef (entry (BodyShape true) a ∷ entry (TokenShape c) q ∷ entry (TokenShape t) p ∷ entry (StmtShape DefStmt false) b ∷ es) _ _ made h (entry (StmtShape DefStmt true) nowhere, (entry (BodyShape true) a ∷ entry (TokenShape c) q ∷ entry (TokenShape t) p ∷ entry (StmtShape DefStmt false) b ∷ []), es, refl, refl, refl, (λ n. refl), (λ w h. (plain_turned false _, (tt, (tt, (h, tt))))))
made_end_def es made h = no_effect h

made_begin_class : (es : List Entry) (r : Effect) → effect_begin_class es ≡ Some r → Made BeginClass es r
made_begin_class (entry (TokenShape NameToken) q ∷ entry (TokenShape t) p ∷ es) made h = found_made BeginClass (entry (TokenShape NameToken) q ∷ entry (TokenShape t) p ∷ es) _ _ made h (entry (StmtShape ClassStmt false) nowhere, (entry (TokenShape NameToken) q ∷ entry (TokenShape t) p ∷ []), es, refl, refl, refl, (λ n. refl), (λ w h. (tt, (head_turned false _, tt))))
made_begin_class es made h = no_effect h

made_add_base : (es : List Entry) (r : Effect) → effect_add_base es ≡ Some r → Made AddBase es r
made_add_base (entry (TokenShape c) q ∷ entry (ClassShape l) d ∷ entry (TokenShape t) p ∷ entry (StmtShape ClassStmt m) b ∷ es) made h = found_made AddBase (entry (TokenShape c) q ∷ entry (ClassShape l) d ∷ entry (TokenShape t) p ∷ entry (StmtShape ClassStmt m) b ∷ es) _ _ made h (entry (StmtShape ClassStmt m) nowhere, (entry (TokenShape c) q ∷ entry (ClassShape l) d ∷ entry (TokenShape t) p ∷ entry (StmtShape ClassStmt m) b ∷ []), es, refl, refl, refl, (λ n. refl), (λ w h. (tt, (tt, (tt, (h, tt))))))
made_add_base es made h = no_effect h

made_end_class : (es : List Entry) (r : Effect) → effect_end_class es ≡ Some r → Made EndClass es r
made_end_class (entry (BodyShape true) a ∷ entry (TokenShape t) p ∷ entry (StmtShape ClassStmt false) b ∷ es) made h = found_made EndClass (entry (BodyShape true) a ∷ entry (TokenShape t) p ∷ entry (StmtShape ClassStmt false) b ∷ es) _ _ made h (entry (StmtShape ClassStmt true) nowhere, (entry (BodyShape true) a ∷ entry (TokenShape t) p ∷ entry (StmtShape ClassStmt false) b ∷ []), es, refl, refl, refl, (λ n. refl), (λ w h. (plain_turned false _, (tt, (h, tt)))))
made_end_class es made h = no_effect h

made_begin_import : (es : List Entry) (r : Effect) → effect_word es ≡ Some r → Made BeginImport es r
made_begin_import (entry (TokenShape t) p ∷ es) made h = found_made BeginImport (entry (TokenShape t) p ∷ es) _ _ made h (entry (StmtShape OtherStmt false) nowhere, (entry (TokenShape t) p ∷ []), es, refl, refl, refl, (λ n. refl), (λ w h. (head_turned false _, tt)))
made_begin_import es made h = no_effect h

made_begin_from : (es : List Entry) (r : Effect) → effect_begin_from es ≡ Some r → Made BeginFrom es r
made_begin_from (entry (TokenShape c) q ∷ entry (TokenShape NameToken) r ∷ entry (TokenShape t) p ∷ es) made h = found_made BeginFrom (entry (TokenShape c) q ∷ entry (TokenShape NameToken) r ∷ entry (TokenShape t) p ∷ es) _ _ made h (entry (StmtShape OtherStmt false) nowhere, (entry (TokenShape c) q ∷ entry (TokenShape NameToken) r ∷ entry (TokenShape t) p ∷ []), es, refl, refl, refl, (λ n. refl), (λ w h. (tt, (tt, (head_turned false _, tt)))))
made_begin_from es made h = no_effect h

made_add_imported : (es : List Entry) (r : Effect) → effect_add_imported es ≡ Some r → Made AddImported es r
made_add_imported (entry (TokenShape NameToken) q ∷ entry (StmtShape f m) b ∷ es) made h = found_made AddImported (entry (TokenShape NameToken) q ∷ entry (StmtShape f m) b ∷ es) _ _ made h (entry (StmtShape f m) nowhere, (entry (TokenShape NameToken) q ∷ entry (StmtShape f m) b ∷ []), es, refl, refl, refl, (λ n. refl), (λ w h. (tt, (h, tt))))
made_add_imported es made h = no_effect h

made_add_imported_as : (es : List Entry) (r : Effect) → effect_add_imported_as es ≡ Some r → Made AddImportedAs es r
made_add_imported_as (entry (TokenShape NameToken) q ∷ entry (TokenShape c) r ∷ entry (TokenShape NameToken) d ∷ entry (StmtShape f m) b ∷ es) made h = found_made AddImportedAs (entry (TokenShape NameToken) q ∷ entry (TokenShape c) r ∷ entry (TokenShape NameToken) d ∷ entry (StmtShape f m) b ∷ es) _ _ made h (entry (StmtShape f m) nowhere, (entry (TokenShape NameToken) q ∷ entry (TokenShape c) r ∷ entry (TokenShape NameToken) d ∷ entry (StmtShape f m) b ∷ []), es, refl, refl, refl, (λ n. refl), (λ w h. (tt, (tt, (tt, (h, tt))))))
made_add_imported_as es made h = no_effect h

pub made : (a : Action) (es : List Entry) (r : Effect) → before_action a [] ≡ None → effect_of a es ≡ Some r → Made a es r
made Drop es r n h = absurd (cc)
made MakeLeaf es r n h = made_make_leaf es r h
made MakeTrue es r n h = made_make_true es r h
made MakeFalse es r n h = made_make_false es r h
made MakeNone es r n h = made_make_none es r h
made MakeEmptyTuple es r n h = made_make_empty_tuple es r h
made MakeParenthesis es r n h = made_make_parenthesis es r h
made MakeTuple es r n h = made_make_tuple es r h
made AddItem es r n h = made_add_item es r h
made MakeEmptyList es r n h = made_make_empty_list es r h
made MakeListOfOne es r n h = made_make_list_of_one es r h
made MakeList es r n h = made_make_list es r h
made BeginComprehension es r n h = made_begin_comprehension es r h
made BeginLoop es r n h = made_begin_loop es r h
made AddCondition es r n h = made_add_condition es r h
made AddLoop es r n h = made_add_loop es r h
made MakeEmptyDict es r n h = made_make_empty_dict es r h
made BeginDict es r n h = made_begin_dict es r h
made AddPair es r n h = made_add_pair es r h
made MakeSetOfOne es r n h = made_make_set_of_one es r h
made MakeSet es r n h = made_make_set es r h
made MakeAttribute es r n h = made_make_attribute es r h
made BeginCall es r n h = made_begin_call es r h
made AddArgument es r n h = made_add_argument es r h
made AddKeyword es r n h = made_add_keyword es r h
made MakeSubscript es r n h = made_make_subscript es r h
made MakeSliceFrom es r n h = made_make_slice_from es r h
made MakeSlice es r n h = made_make_slice es r h
made AddUpper es r n h = made_add_upper es r h
made (MakeUnary o) es r n h = made_make_unary o es r h
made (MakeBinary o) es r n h = made_make_binary o es r h
made (MakeSign o) es r n h = made_make_sign o es r h
made (MakeLongSign o) es r n h = made_make_long_sign o es r h
made MakeCompare es r n h = made_make_compare es r h
made AddLink es r n h = made_add_link es r h
made MakeNot es r n h = made_make_not es r h
made MakeAnd es r n h = made_make_and es r h
made AddAnd es r n h = made_add_and es r h
made MakeOr es r n h = made_make_or es r h
made AddOr es r n h = made_add_or es r h
made MakeConditional es r n h = made_make_conditional es r h
made MakeLoopName es r n h = made_make_loop_name es r h
made MakeLoopNames es r n h = made_make_loop_names es r h
made AddLoopName es r n h = made_add_loop_name es r h
made MakeLoopParenthesis es r n h = made_make_loop_parenthesis es r h
made BeginBody es r n h = made_begin_body es r h
made AddStmt es r n h = made_add_stmt es r h
made MakeExprStmt es r n h = made_make_expr_stmt es r h
made MakeTargets es r n h = made_make_targets es r h
made AddTargets es r n h = made_add_targets es r h
made MakeAssign es r n h = made_make_assign es r h
made (MakeAugmented o) es r n h = made_make_augmented o es r h
made MakePass es r n h = made_make_pass es r h
made MakeBreak es r n h = made_make_break es r h
made MakeContinue es r n h = made_make_continue es r h
made MakeReturn es r n h = made_make_return es r h
made MakeReturnValue es r n h = made_make_return_value es r h
made MakeRaise es r n h = made_make_raise es r h
made MakeYield es r n h = made_make_yield es r h
made BeginGlobal es r n h = made_begin_global es r h
made AddGlobal es r n h = made_add_global es r h
made MakeAssert es r n h = made_make_assert es r h
made MakeAssertMessage es r n h = made_make_assert_message es r h
made MakeDelete es r n h = made_make_delete es r h
made MakeIf es r n h = made_make_if es r h
made MakeElif es r n h = made_make_elif es r h
made MakeElse es r n h = made_make_else es r h
made MakeWhile es r n h = made_make_while es r h
made MakeFor es r n h = made_make_for es r h
made BeginTry es r n h = made_begin_try es r h
made CatchAll es r n h = made_catch_all es r h
made Catch es r n h = made_catch es r h
made CatchAs es r n h = made_catch_as es r h
made MakeClassName es r n h = made_make_class_name es r h
made MakeClassWithin es r n h = made_make_class_within es r h
made BeginDef es r n h = made_begin_def es r h
made AddParameter es r n h = made_add_parameter es r h
made AddDefault es r n h = made_add_default es r h
made EndDef es r n h = made_end_def es r h
made BeginClass es r n h = made_begin_class es r h
made AddBase es r n h = made_add_base es r h
made EndClass es r n h = made_end_class es r h
made BeginImport es r n h = made_begin_import es r h
made BeginFrom es r n h = made_begin_from es r h
made AddImported es r n h = made_add_imported es r h
made AddImportedAs es r n h = made_add_imported_as es r h
