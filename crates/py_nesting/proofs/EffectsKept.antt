-- What an action does to parts, its effect does to their entries and outlines.
use Rattle.std.proofs.Common.{◌≡◌, Bool, true, false, ◌&&◌, List, [], ◌∷◌, ◌++◌, Option, Some, None, refl, sym, ap, ◌∙◌, subst, if◌then◌else◌}
use Rattle.py_tokens.specs.Token.{Place}
use Rattle.py_syntax.specs.Token.{Token, At, TName, TNumber, TText}
use Rattle.py_syntax.specs.Tree.{NameAt, UnaryOperator, BinaryOperator, ComparisonOperator, LoopTarget, LoopName, LoopNames, Expr, EName, ENumber, EText, EParenthesis, ETuple, EList, EListComprehension, EDict, EAttribute, ECall, ESubscript, ESlice, ECompare, EAnd, EOr, Exprs, no_exprs, more_exprs, no_expr, an_expr, Pairs, no_pairs, more_pairs, Links, no_links, more_links, Keywords, no_keywords, more_keywords, Loops, no_loops, more_loops, Target, TargetName, TargetAttribute, TargetSubscript, Targets, OneTarget, SomeTargets, ParenthesisTargets, BracketTargets, Imported, BareClass, Caught, Everything, Exceptions, Stmt, SAugmented, SGlobal, STry, SDef, SClass, SImport, SFromImport, Body, no_stmts, more_stmts, Handlers, no_handlers, more_handlers}
use Rattle.py_syntax.specs.Tree.{Parameter, MaybeExpr}
use Rattle.py_syntax.specs.Build.{PToken, PExpr, PSign, PLoop, PLoopTarget, PTargets, PClass, PStmt, PBody, Parts, with_expr, with_pair, with_link, with_keyword, with_loop, with_stmt, with_handler, with_imported, start_of, target_of, one_more, target_list_of, in_brackets, some_targets, targets_of, targets_found, more_targets_found, target_found, Drop, MakeLeaf, MakeTrue, MakeFalse, MakeNone, MakeEmptyTuple, MakeParenthesis, MakeTuple, AddItem, MakeEmptyList, MakeListOfOne, MakeList, BeginComprehension, BeginLoop, AddCondition, AddLoop, MakeEmptyDict, BeginDict, AddPair, MakeSetOfOne, MakeSet, MakeAttribute, BeginCall, AddArgument, AddKeyword, MakeSubscript, MakeSliceFrom, MakeSlice, AddUpper, MakeUnary, MakeBinary, MakeSign, MakeLongSign, MakeCompare, AddLink, MakeNot, MakeAnd, AddAnd, MakeOr, AddOr, MakeConditional, MakeLoopName, MakeLoopNames, AddLoopName, MakeLoopParenthesis, BeginBody, AddStmt, MakeExprStmt, MakeTargets, AddTargets, MakeAssign, MakeAugmented, MakePass, MakeBreak, MakeContinue, MakeReturn, MakeReturnValue, MakeRaise, MakeYield, BeginGlobal, AddGlobal, MakeAssert, MakeAssertMessage, MakeDelete, MakeIf, MakeElif, MakeElse, MakeWhile, MakeFor, BeginTry, CatchAll, Catch, CatchAs, MakeClassName, MakeClassWithin, BeginDef, AddParameter, AddDefault, EndDef, BeginClass, AddBase, EndClass, BeginImport, BeginFrom, AddImported, AddImportedAs, drop, make_leaf, make_true, make_false, make_none, make_empty_tuple, make_parenthesis, make_tuple, add_item, make_empty_list, make_list_of_one, make_list, begin_comprehension, begin_loop, add_condition, add_loop, make_empty_dict, begin_dict, add_pair, make_set_of_one, make_set, make_attribute, begin_call, add_argument, add_keyword, make_subscript, make_slice_from, make_slice, add_upper, make_unary, make_binary, make_sign, make_long_sign, make_compare, add_link, make_not, make_and, add_and, make_or, add_or, make_conditional, make_loop_name, make_loop_names, add_loop_name, make_loop_parenthesis, begin_body, add_stmt, make_expr_stmt, make_targets, add_targets, make_assign, make_augmented, make_pass, make_break, make_continue, make_return, make_return_value, make_raise, make_yield, begin_global, add_global, make_assert, make_assert_message, make_delete, make_if, make_elif, make_else, make_while, make_for, begin_try, catch_all, catch, catch_as, make_class_name, make_class_within, begin_def, add_parameter, add_default, end_def, begin_class, add_base, end_class, begin_import, begin_from, add_imported, add_imported_as}
use Rattle.py_nesting.specs.Forms.{NameForm, TargetForm, SubscriptForm, TupleForm, BracketForm, ComprehensionForm, DictForm, CallForm, SliceForm, CompareForm, AndForm, OrForm, OtherForm, OneName, SomeNames, NamesInBrackets, BareName, DottedName, GlobalStmt, TryStmt, DefStmt, ClassStmt, OtherStmt, expr_form, stmt_form, is_target, are_targets, items_are_targets}
use Rattle.py_nesting.proofs.FormsAgree.{IsTargetSo, AreSo, target_formed, targets_formed}
use Rattle.py_nesting.specs.Outlines.{Plain, Bracket, Tuple, Outline, Node, Group, Outlines, none_below, more_below, as_targets, with_last, Event, Over, Gather, Join, JoinGroup, Loosen, Assign, Forget, after}
use Rattle.py_nesting.specs.TreeOutlines.{leaf, one_below, two_below, names_outlines, loop_target_outline, expr_outline, exprs_outlines, maybe_outlines, pairs_outlines, links_outlines, keywords_outlines, loops_outlines, target_outline, target_list_outlines, targets_outline, assigned_outlines, parameters_outlines, stmt_outline, stmts_outlines, definition_outlines, body_outline, handlers_outlines}
use Rattle.py_nesting.specs.Shapes.{ExprShape, SignShape, LoopShape, LoopTargetShape, TargetsShape, ClassShape, StmtShape, BodyShape, is_full, stmt_filled, is_filled, nowhere, Entry, entry, entries_of, outlines_of}
use Rattle.py_nesting.specs.Effects.{Effect, effect, effect_drop, effect_make_leaf, effect_constant, effect_make_empty_tuple, effect_bracket, effect_make_tuple, effect_add_item, effect_make_empty_list, effect_make_list, effect_begin_comprehension, effect_begin_loop, effect_add_condition, effect_add_loop, effect_make_empty_dict, effect_begin_dict, effect_add_pair, effect_make_set_of_one, effect_make_set, effect_make_attribute, effect_begin_call, effect_add_argument, effect_add_keyword, effect_make_subscript, effect_make_slice_from, effect_make_slice, effect_add_upper, effect_prefix, effect_infix, effect_make_sign, effect_make_long_sign, effect_make_compare, effect_add_link, effect_add_and, effect_add_or, effect_make_conditional, effect_make_loop_name, effect_make_loop_names, effect_add_loop_name, effect_make_loop_parenthesis, effect_begin_body, effect_add_stmt, effect_make_expr_stmt, effect_make_targets, effect_add_targets, effect_make_assign, effect_make_augmented, effect_word, effect_with_value, effect_begin_global, effect_add_global, effect_make_assert_message, effect_make_delete, effect_make_if, effect_make_elif, effect_make_else, effect_make_while, effect_make_for, effect_begin_try, effect_catch_all, effect_catch, effect_catch_as, effect_make_class_name, effect_make_class_within, effect_begin_def, effect_add_parameter, effect_add_default, effect_end_def, effect_begin_class, effect_add_base, effect_end_class, effect_begin_from, effect_add_imported, effect_add_imported_as, after_all, Keeps, EffectLaw}

known : (v w : Parts) (es : List Entry) (events : List Event) (r : Effect) → Some (effect es events) ≡ Some r → entries_of w ≡ es
    → after_all events (Some (outlines_of v)) ≡ Some (outlines_of w) → Keeps v w r
known v w es events r e p q = let is : effect es events ≡ r = cc in subst (Keeps v w) is (p, q)

pub no_effect : {A : Type 0} {r : Effect} → None ≡ Some r → A
no_effect e = absurd (cc)

chosen : (b : Bool) (x r : Effect) → b ≡ true → (if b then Some x else None) ≡ Some r → Some x ≡ Some r
chosen b x r q h = sym (ap (λ (c : Bool). if c then Some x else None) q) ∙ h

passed : {A : Type 0} (b : Bool) (x r : Effect) → b ≡ false → (if b then Some x else None) ≡ Some r → A
passed b x r q h = no_effect (sym (ap (λ (c : Bool). if c then Some x else None) q) ∙ h)

and_true : (b : Bool) → (b && true) ≡ b
and_true true = refl
and_true false = refl

and_assoc : (a b c : Bool) → ((a && b) && c) ≡ (a && (b && c))
and_assoc true b c = refl
and_assoc false b c = refl

items_added : (es : Exprs) (e : Expr) → items_are_targets (with_expr es e) ≡ (items_are_targets es && is_target (expr_form e))
items_added no_exprs e = and_true (is_target (expr_form e))
items_added (more_exprs first es) e = ap (λ (b : Bool). is_target (expr_form first) && b) (items_added es e) ∙ sym (and_assoc (is_target (expr_form first)) _ _)

items_more : (first : Expr) (es : Exprs) (e : Expr)
    → items_are_targets (more_exprs first (with_expr es e)) ≡ (items_are_targets (more_exprs first es) && is_target (expr_form e))
items_more first es e = items_added (more_exprs first es) e

-- one more at the end
exprs_last : (es : Exprs) (e : Expr) → with_last (exprs_outlines es none_below) (expr_outline e) ≡ exprs_outlines (with_expr es e) none_below
exprs_last no_exprs e = refl
exprs_last (more_exprs first es) e = ap (more_below (expr_outline first)) (exprs_last es e)

keywords_last : (ks : Keywords) (x : NameAt) (e : Expr) → with_last (keywords_outlines ks) (expr_outline e) ≡ keywords_outlines (with_keyword ks x e)
keywords_last no_keywords x e = refl
keywords_last (more_keywords y first ks) x e = ap (more_below (expr_outline first)) (keywords_last ks x e)

arguments_last : (es : Exprs) (ks : Keywords) (x : NameAt) (e : Expr)
    → with_last (exprs_outlines es (keywords_outlines ks)) (expr_outline e) ≡ exprs_outlines es (keywords_outlines (with_keyword ks x e))
arguments_last no_exprs ks x e = keywords_last ks x e
arguments_last (more_exprs first es) ks x e = ap (more_below (expr_outline first)) (arguments_last es ks x e)

keywords_full : (p : Place) (f : Expr) (es : Exprs) (ks : Keywords) (x : NameAt) (e : Expr) → is_full (ECall p f es (with_keyword ks x e)) ≡ true
keywords_full p f es no_keywords x e = refl
keywords_full p f es (more_keywords y first ks) x e = refl

loops_last : (loops : Loops) (q : Place) (t : LoopTarget) (i : Expr) (cs : Exprs)
    → with_last (loops_outlines loops) (Group (more_below (loop_target_outline t) (more_below (expr_outline i) (exprs_outlines cs none_below)))) ≡ loops_outlines (with_loop loops q t i cs)
loops_last no_loops q t i cs = refl
loops_last (more_loops p u j ds loops) q t i cs =
    ap (more_below (Group (more_below (loop_target_outline u) (more_below (expr_outline j) (exprs_outlines ds none_below))))) (loops_last loops q t i cs)

pairs_last : (pairs : Pairs) (k e : Expr) → with_last (pairs_outlines pairs) (Group (two_below (expr_outline k) (expr_outline e))) ≡ pairs_outlines (with_pair pairs k e)
pairs_last no_pairs k e = refl
pairs_last (more_pairs key value pairs) k e = ap (more_below (Group (two_below (expr_outline key) (expr_outline value)))) (pairs_last pairs k e)

links_last : (links : Links) (q : Place) (u : ComparisonOperator) (e : Expr) → with_last (links_outlines links) (expr_outline e) ≡ links_outlines (with_link links q u e)
links_last no_links q u e = refl
links_last (more_links p o first links) q u e = ap (more_below (expr_outline first)) (links_last links q u e)

upper_last : (l : MaybeExpr) (u : Expr) → with_last (maybe_outlines l none_below) (expr_outline u) ≡ maybe_outlines l (maybe_outlines (an_expr u) none_below)
upper_last no_expr u = refl
upper_last (an_expr e) u = refl

names_last : (p : Place) (first : NameAt) (xs : List NameAt) (x : NameAt) → with_last (names_outlines p (first ∷ xs)) (leaf x.place) ≡ names_outlines p (first ∷ xs ++ x ∷ [])
names_last p first [] x = refl
names_last p first (y ∷ xs) x = ap (more_below (leaf first.place)) (names_last p y xs x)

body_is_group : (b : Body) → body_outline b ≡ Group (stmts_outlines b)
body_is_group no_stmts = refl
body_is_group (more_stmts s b) = refl

stmts_last : (b : Body) (s : Stmt) → with_last (stmts_outlines b) (stmt_outline s) ≡ stmts_outlines (with_stmt b s)
stmts_last no_stmts s = refl
stmts_last (more_stmts first b) s = ap (more_below (stmt_outline first)) (stmts_last b s)

stmt_last : (b : Body) (s : Stmt) (os : List Outline) → after JoinGroup (Some (stmt_outline s ∷ body_outline b ∷ os)) ≡ Some (body_outline (with_stmt b s) ∷ os)
stmt_last b s os =
    ap (λ hole. after JoinGroup (Some (stmt_outline s ∷ hole ∷ os))) (body_is_group b)
    ∙ ap (λ hole. Some (Group hole ∷ os)) (stmts_last b s)
    ∙ ap (λ hole. Some (hole ∷ os)) (sym (body_is_group (with_stmt b s)))

stmt_fills : (b : Body) (s : Stmt) → is_filled (with_stmt b s) ≡ true
stmt_fills no_stmts s = refl
stmt_fills (more_stmts first b) s = refl

handlers_last : (hs : Handlers) (q : Place) (c : Caught) (b : Body) → with_last (handlers_outlines hs) (body_outline b) ≡ handlers_outlines (with_handler hs q c b)
handlers_last no_handlers q c b = refl
handlers_last (more_handlers p d body hs) q c b = ap (more_below (body_outline body)) (handlers_last hs q c b)

parameters_more : (xs : List Parameter) (x : Parameter) (rest : Outlines) → parameters_outlines (xs ++ x ∷ []) rest ≡ parameters_outlines xs (maybe_outlines x.default rest)
parameters_more [] x rest = refl
parameters_more (first ∷ xs) x rest = ap (maybe_outlines first.default) (parameters_more xs x rest)

maybe_last : (m : MaybeExpr) (rest : Outlines) (o : Outline) → with_last (maybe_outlines m rest) o ≡ maybe_outlines m (with_last rest o)
maybe_last no_expr rest o = refl
maybe_last (an_expr e) rest o = refl

parameters_last : (xs : List Parameter) (o : Outline) → with_last (parameters_outlines xs none_below) o ≡ parameters_outlines xs (one_below o)
parameters_last [] o = refl
parameters_last (x ∷ xs) o = maybe_last x.default (parameters_outlines xs none_below) o ∙ ap (maybe_outlines x.default) (parameters_last xs o)

default_last : (xs : List Parameter) (x : NameAt) (e : Expr)
    → with_last (parameters_outlines xs none_below) (expr_outline e) ≡ parameters_outlines (xs ++ record { name = x; default = an_expr e } ∷ []) none_below
default_last xs x e = parameters_last xs (expr_outline e) ∙ sym (parameters_more xs (record { name = x; default = an_expr e }) none_below)

assigned_last : (ts : List Targets) (t : Targets) → with_last (assigned_outlines ts) (targets_outline t) ≡ assigned_outlines (ts ++ t ∷ [])
assigned_last [] t = refl
assigned_last (first ∷ ts) t = ap (more_below (targets_outline first)) (assigned_last ts t)

imported_outline : (s : Stmt) (x : Imported) (os : List Outline) → Some (stmt_outline s ∷ os) ≡ Some (stmt_outline (with_imported s x) ∷ os)
imported_outline (SImport p xs) x os = refl
imported_outline (SFromImport p m xs) x os = refl
imported_outline s x os = refl

imported_entry : (s : Stmt) (x : Imported) (es : List Entry)
    → entry (StmtShape (stmt_form (with_imported s x)) (stmt_filled (with_imported s x))) nowhere ∷ es ≡ entry (StmtShape (stmt_form s) (stmt_filled s)) nowhere ∷ es
imported_entry (SImport p xs) x es = refl
imported_entry (SFromImport p m xs) x es = refl
imported_entry s x es = refl

-- an expression that is a target has the target's outline
target_outlined : (e : Expr) (t : Target) → target_of e ≡ Some t → target_outline t ≡ expr_outline e
target_outlined (EName p x) t h = let is : TargetName (record { place = p; name = x }) ≡ t = cc in ap target_outline (sym is)
target_outlined (EAttribute p f x) t h = let is : TargetAttribute p f x ≡ t = cc in ap target_outline (sym is)
target_outlined (ESubscript p f i) t h = let is : TargetSubscript p f i ≡ t = cc in ap target_outline (sym is)
target_outlined _ t h = absurd (cc)

list_outlined : (es : Exprs) (ts : List Target) → target_list_of es ≡ Some ts → target_list_outlines ts ≡ exprs_outlines es none_below
list_outlined no_exprs ts h = let is : [] ≡ ts = cc in ap target_list_outlines (sym is)
list_outlined (more_exprs e es) ts h = go (target_of e) (target_list_of es) refl refl h (λ us k. list_outlined es us k)
  where
    go : (f : Option Target) (r : Option (List Target)) → target_of e ≡ f → target_list_of es ≡ r → one_more f r ≡ Some ts
        → ((us : List Target) → target_list_of es ≡ Some us → target_list_outlines us ≡ exprs_outlines es none_below)
        → target_list_outlines ts ≡ exprs_outlines (more_exprs e es) none_below
    go None r p q k again = absurd (cc)
    go (Some t) None p q k again = absurd (cc)
    go (Some t) (Some us) p q k again =
        let is : t ∷ us ≡ ts = cc in
        ap target_list_outlines (sym is) ∙ ap (λ hole. more_below hole (target_list_outlines us)) (target_outlined e t p) ∙ ap (more_below (expr_outline e)) (again us q)

some_outlined : (p : Place) (es : Exprs) (r : Option (List Target)) (t : Targets) → target_list_of es ≡ r → some_targets p r ≡ Some t
    → as_targets (expr_outline (ETuple p es)) ≡ targets_outline t
some_outlined p es None t q h = absurd (cc)
some_outlined p es (Some ts) t q h = let is : SomeTargets p ts ≡ t = cc in ap Group (sym (list_outlined es ts q)) ∙ ap targets_outline is

row_outlined : (p c : Place) (es : Exprs) (r : Option (List Target)) (t : Targets) → target_list_of es ≡ r → in_brackets (BracketTargets p) (some_targets c r) ≡ Some t
    → as_targets (expr_outline (EList p (Some c) es)) ≡ targets_outline t
row_outlined p c es None t q h = absurd (cc)
row_outlined p c es (Some ts) t q h =
    let is : BracketTargets p (SomeTargets c ts) ≡ t = cc in ap (λ hole. Node Bracket p (one_below (Group hole))) (sym (list_outlined es ts q)) ∙ ap targets_outline is

within_outlined : (p : Place) (e : Expr) (r : Option Targets) (t : Targets) → targets_of e ≡ r → in_brackets (ParenthesisTargets p) r ≡ Some t
    → ((u : Targets) → targets_of e ≡ Some u → as_targets (expr_outline e) ≡ targets_outline u) → as_targets (expr_outline (EParenthesis p e)) ≡ targets_outline t
within_outlined p e None t q h again = absurd (cc)
within_outlined p e (Some u) t q h again = let is : ParenthesisTargets p u ≡ t = cc in ap (λ hole. Node Bracket p (one_below hole)) (again u q) ∙ ap targets_outline is

item_outlined : (p : Place) (e : Expr) (r : Option Targets) (t : Targets) → targets_of e ≡ r → in_brackets (BracketTargets p) r ≡ Some t
    → ((u : Targets) → targets_of e ≡ Some u → as_targets (expr_outline e) ≡ targets_outline u)
    → as_targets (expr_outline (EList p None (more_exprs e no_exprs))) ≡ targets_outline t
item_outlined p e None t q h again = absurd (cc)
item_outlined p e (Some u) t q h again = let is : BracketTargets p u ≡ t = cc in ap (λ hole. Node Bracket p (one_below hole)) (again u q) ∙ ap targets_outline is

mutual
  targets_outlined : (e : Expr) (t : Targets) → targets_of e ≡ Some t → as_targets (expr_outline e) ≡ targets_outline t
  targets_outlined (EName p x) t h = let is : OneTarget (TargetName (record { place = p; name = x })) ≡ t = cc in ap targets_outline is
  targets_outlined (EAttribute p f x) t h = let is : OneTarget (TargetAttribute p f x) ≡ t = cc in ap targets_outline is
  targets_outlined (ESubscript p f i) t h = let is : OneTarget (TargetSubscript p f i) ≡ t = cc in ap targets_outline is
  targets_outlined (ETuple p es) t h = some_outlined p es (target_list_of es) t refl h
  targets_outlined (EParenthesis p e) t h = within_outlined p e (targets_of e) t refl h (λ u k. targets_outlined e u k)
  targets_outlined (EList p None no_exprs) t h = absurd (cc)
  targets_outlined (EList p None (more_exprs e no_exprs)) t h = item_outlined p e (targets_of e) t refl h (λ u k. targets_outlined e u k)
  targets_outlined (EList p None (more_exprs e (more_exprs f es))) t h = absurd (cc)
  targets_outlined (EList p (Some c) es) t h = row_outlined p c es (target_list_of es) t refl h
  targets_outlined _ t h = absurd (cc)

keeps_drop : (v : Parts) (result : Effect) → effect_drop (entries_of v) ≡ Some result → Keeps v (drop v) result
keeps_drop (PToken q ∷ v) result given = known (PToken q ∷ v) (drop (PToken q ∷ v)) (entries_of v) [] result given (refl) (refl)
keeps_drop v result given = no_effect given

keeps_make_true : (v : Parts) (result : Effect) → effect_constant (entries_of v) ≡ Some result → Keeps v (make_true v) result
keeps_make_true (PToken (At p k) ∷ v) result given = known (PToken (At p k) ∷ v) (make_true (PToken (At p k) ∷ v)) (entry (ExprShape OtherForm false) p ∷ entries_of v) (Over Plain p 0 ∷ []) result given (refl) (refl)
keeps_make_true v result given = no_effect given

keeps_make_false : (v : Parts) (result : Effect) → effect_constant (entries_of v) ≡ Some result → Keeps v (make_false v) result
keeps_make_false (PToken (At p k) ∷ v) result given = known (PToken (At p k) ∷ v) (make_false (PToken (At p k) ∷ v)) (entry (ExprShape OtherForm false) p ∷ entries_of v) (Over Plain p 0 ∷ []) result given (refl) (refl)
keeps_make_false v result given = no_effect given

keeps_make_none : (v : Parts) (result : Effect) → effect_constant (entries_of v) ≡ Some result → Keeps v (make_none v) result
keeps_make_none (PToken (At p k) ∷ v) result given = known (PToken (At p k) ∷ v) (make_none (PToken (At p k) ∷ v)) (entry (ExprShape OtherForm false) p ∷ entries_of v) (Over Plain p 0 ∷ []) result given (refl) (refl)
keeps_make_none v result given = no_effect given

keeps_make_empty_tuple : (v : Parts) (result : Effect) → effect_make_empty_tuple (entries_of v) ≡ Some result → Keeps v (make_empty_tuple v) result
keeps_make_empty_tuple (PToken close ∷ PToken (At p k) ∷ v) result given = known (PToken close ∷ PToken (At p k) ∷ v) (make_empty_tuple (PToken close ∷ PToken (At p k) ∷ v)) (entry (ExprShape OtherForm false) p ∷ entries_of v) (Over Plain p 0 ∷ []) result given (refl) (refl)
keeps_make_empty_tuple v result given = no_effect given

keeps_make_parenthesis : (v : Parts) (result : Effect) → effect_bracket (entries_of v) ≡ Some result → Keeps v (make_parenthesis v) result
keeps_make_parenthesis (PToken close ∷ PExpr e ∷ PToken (At p k) ∷ v) result given = known (PToken close ∷ PExpr e ∷ PToken (At p k) ∷ v) (make_parenthesis (PToken close ∷ PExpr e ∷ PToken (At p k) ∷ v)) (entry (ExprShape (BracketForm (are_targets (expr_form e))) false) p ∷ entries_of v) (Over Bracket p 1 ∷ []) result given (refl) (refl)
keeps_make_parenthesis v result given = no_effect given

keeps_make_tuple : (v : Parts) (result : Effect) → effect_make_tuple (entries_of v) ≡ Some result → Keeps v (make_tuple v) result
keeps_make_tuple (PToken (At p k) ∷ PExpr e ∷ v) result given = known (PToken (At p k) ∷ PExpr e ∷ v) (make_tuple (PToken (At p k) ∷ PExpr e ∷ v)) (entry (ExprShape (TupleForm (is_target (expr_form e))) false) (start_of e) ∷ entries_of v) (Over Tuple p 1 ∷ []) result given (ap (λ hole. entry (ExprShape (TupleForm hole) false) (start_of e) ∷ entries_of v) (and_true (is_target (expr_form e)))) (refl)
keeps_make_tuple v result given = no_effect given

keeps_add_item : (v : Parts) (result : Effect) → effect_add_item (entries_of v) ≡ Some result → Keeps v (add_item v) result
keeps_add_item (PExpr e ∷ PExpr (ETuple p (more_exprs first es)) ∷ v) result given = known (PExpr e ∷ PExpr (ETuple p (more_exprs first es)) ∷ v) (add_item (PExpr e ∷ PExpr (ETuple p (more_exprs first es)) ∷ v)) (entry (ExprShape (TupleForm ((items_are_targets (more_exprs first es)) && is_target (expr_form e))) false) (start_of (ETuple p (more_exprs first es))) ∷ entries_of v) (Join Tuple ∷ []) result given (ap (λ hole. entry (ExprShape (TupleForm hole) false) (start_of first) ∷ entries_of v) (items_more first es e)) (ap (λ hole. Some (Node Tuple p (more_below (expr_outline first) hole) ∷ outlines_of v)) (exprs_last es e))
keeps_add_item v result given = no_effect given

keeps_make_empty_list : (v : Parts) (result : Effect) → effect_make_empty_list (entries_of v) ≡ Some result → Keeps v (make_empty_list v) result
keeps_make_empty_list (PToken close ∷ PToken (At p k) ∷ v) result given = known (PToken close ∷ PToken (At p k) ∷ v) (make_empty_list (PToken close ∷ PToken (At p k) ∷ v)) (entry (ExprShape (BracketForm false) false) p ∷ entries_of v) (Over Bracket p 0 ∷ []) result given (refl) (refl)
keeps_make_empty_list v result given = no_effect given

keeps_make_list_of_one : (v : Parts) (result : Effect) → effect_bracket (entries_of v) ≡ Some result → Keeps v (make_list_of_one v) result
keeps_make_list_of_one (PToken close ∷ PExpr e ∷ PToken (At p k) ∷ v) result given = known (PToken close ∷ PExpr e ∷ PToken (At p k) ∷ v) (make_list_of_one (PToken close ∷ PExpr e ∷ PToken (At p k) ∷ v)) (entry (ExprShape (BracketForm (are_targets (expr_form e))) false) p ∷ entries_of v) (Over Bracket p 1 ∷ []) result given (refl) (refl)
keeps_make_list_of_one v result given = no_effect given

keeps_make_list : (v : Parts) (result : Effect) → effect_make_list (entries_of v) ≡ Some result → Keeps v (make_list v) result
keeps_make_list (PToken close ∷ PExpr (ETuple c es) ∷ PToken (At p k) ∷ v) result given = known (PToken close ∷ PExpr (ETuple c es) ∷ PToken (At p k) ∷ v) (make_list (PToken close ∷ PExpr (ETuple c es) ∷ PToken (At p k) ∷ v)) (entry (ExprShape (BracketForm (items_are_targets es)) false) p ∷ entries_of v) (Over Bracket p 1 ∷ Loosen ∷ []) result given (refl) (refl)
keeps_make_list v result given = no_effect given

keeps_begin_comprehension : (v : Parts) (result : Effect) → effect_begin_comprehension (entries_of v) ≡ Some result → Keeps v (begin_comprehension v) result
keeps_begin_comprehension (PExpr e ∷ PToken (At p k) ∷ v) result given = known (PExpr e ∷ PToken (At p k) ∷ v) (begin_comprehension (PExpr e ∷ PToken (At p k) ∷ v)) (entry (ExprShape ComprehensionForm false) p ∷ entries_of v) (Over Plain p 1 ∷ []) result given (refl) (refl)
keeps_begin_comprehension v result given = no_effect given

keeps_begin_loop : (v : Parts) (result : Effect) → effect_begin_loop (entries_of v) ≡ Some result → Keeps v (begin_loop v) result
keeps_begin_loop (PExpr i ∷ PToken in_word ∷ PLoopTarget t ∷ PToken (At p k) ∷ v) result given = known (PExpr i ∷ PToken in_word ∷ PLoopTarget t ∷ PToken (At p k) ∷ v) (begin_loop (PExpr i ∷ PToken in_word ∷ PLoopTarget t ∷ PToken (At p k) ∷ v)) (entry LoopShape nowhere ∷ entries_of v) (Gather 2 ∷ []) result given (refl) (refl)
keeps_begin_loop v result given = no_effect given

keeps_add_condition : (v : Parts) (result : Effect) → effect_add_condition (entries_of v) ≡ Some result → Keeps v (add_condition v) result
keeps_add_condition (PExpr e ∷ PToken if_word ∷ PLoop p t i cs ∷ v) result given = known (PExpr e ∷ PToken if_word ∷ PLoop p t i cs ∷ v) (add_condition (PExpr e ∷ PToken if_word ∷ PLoop p t i cs ∷ v)) (entry LoopShape nowhere ∷ entries_of v) (JoinGroup ∷ []) result given (refl) (ap (λ hole. Some (Group (more_below (loop_target_outline t) (more_below (expr_outline i) hole)) ∷ outlines_of v)) (exprs_last cs e))
keeps_add_condition v result given = no_effect given

keeps_add_loop : (v : Parts) (result : Effect) → effect_add_loop (entries_of v) ≡ Some result → Keeps v (add_loop v) result
keeps_add_loop (PLoop q t i cs ∷ PExpr (EListComprehension p e loops) ∷ v) result given = known (PLoop q t i cs ∷ PExpr (EListComprehension p e loops) ∷ v) (add_loop (PLoop q t i cs ∷ PExpr (EListComprehension p e loops) ∷ v)) (entry (ExprShape ComprehensionForm false) (start_of (EListComprehension p e loops)) ∷ entries_of v) (Join Plain ∷ []) result given (refl) (ap (λ hole. Some (Node Plain p (more_below (expr_outline e) hole) ∷ outlines_of v)) (loops_last loops q t i cs))
keeps_add_loop v result given = no_effect given

keeps_make_empty_dict : (v : Parts) (result : Effect) → effect_make_empty_dict (entries_of v) ≡ Some result → Keeps v (make_empty_dict v) result
keeps_make_empty_dict (PToken close ∷ PToken (At p k) ∷ v) result given = known (PToken close ∷ PToken (At p k) ∷ v) (make_empty_dict (PToken close ∷ PToken (At p k) ∷ v)) (entry (ExprShape DictForm false) p ∷ entries_of v) (Over Plain p 0 ∷ []) result given (refl) (refl)
keeps_make_empty_dict v result given = no_effect given

keeps_begin_dict : (v : Parts) (result : Effect) → effect_begin_dict (entries_of v) ≡ Some result → Keeps v (begin_dict v) result
keeps_begin_dict (PExpr e ∷ PToken colon ∷ PExpr d ∷ PToken (At p k) ∷ v) result given = known (PExpr e ∷ PToken colon ∷ PExpr d ∷ PToken (At p k) ∷ v) (begin_dict (PExpr e ∷ PToken colon ∷ PExpr d ∷ PToken (At p k) ∷ v)) (entry (ExprShape DictForm false) p ∷ entries_of v) (Over Plain p 1 ∷ Gather 2 ∷ []) result given (refl) (refl)
keeps_begin_dict v result given = no_effect given

keeps_add_pair : (v : Parts) (result : Effect) → effect_add_pair (entries_of v) ≡ Some result → Keeps v (add_pair v) result
keeps_add_pair (PExpr e ∷ PToken colon ∷ PExpr d ∷ PExpr (EDict p pairs) ∷ v) result given = known (PExpr e ∷ PToken colon ∷ PExpr d ∷ PExpr (EDict p pairs) ∷ v) (add_pair (PExpr e ∷ PToken colon ∷ PExpr d ∷ PExpr (EDict p pairs) ∷ v)) (entry (ExprShape DictForm false) (start_of (EDict p pairs)) ∷ entries_of v) (Join Plain ∷ Gather 2 ∷ []) result given (refl) (ap (λ hole. Some (Node Plain p hole ∷ outlines_of v)) (pairs_last pairs d e))
keeps_add_pair v result given = no_effect given

keeps_make_set_of_one : (v : Parts) (result : Effect) → effect_make_set_of_one (entries_of v) ≡ Some result → Keeps v (make_set_of_one v) result
keeps_make_set_of_one (PToken close ∷ PExpr e ∷ PToken (At p k) ∷ v) result given = known (PToken close ∷ PExpr e ∷ PToken (At p k) ∷ v) (make_set_of_one (PToken close ∷ PExpr e ∷ PToken (At p k) ∷ v)) (entry (ExprShape OtherForm false) p ∷ entries_of v) (Over Plain p 1 ∷ Gather 1 ∷ []) result given (refl) (refl)
keeps_make_set_of_one v result given = no_effect given

keeps_make_set : (v : Parts) (result : Effect) → effect_make_set (entries_of v) ≡ Some result → Keeps v (make_set v) result
keeps_make_set (PToken close ∷ PExpr (ETuple c es) ∷ PToken (At p k) ∷ v) result given = known (PToken close ∷ PExpr (ETuple c es) ∷ PToken (At p k) ∷ v) (make_set (PToken close ∷ PExpr (ETuple c es) ∷ PToken (At p k) ∷ v)) (entry (ExprShape OtherForm false) p ∷ entries_of v) (Over Plain p 1 ∷ Loosen ∷ []) result given (refl) (refl)
keeps_make_set v result given = no_effect given

keeps_make_attribute : (v : Parts) (result : Effect) → effect_make_attribute (entries_of v) ≡ Some result → Keeps v (make_attribute v) result
keeps_make_attribute (PToken (At q (TName s x)) ∷ PToken (At p k) ∷ PExpr e ∷ v) result given = known (PToken (At q (TName s x)) ∷ PToken (At p k) ∷ PExpr e ∷ v) (make_attribute (PToken (At q (TName s x)) ∷ PToken (At p k) ∷ PExpr e ∷ v)) (entry (ExprShape TargetForm false) (start_of e) ∷ entries_of v) (Over Plain p 1 ∷ []) result given (refl) (refl)
keeps_make_attribute v result given = no_effect given

keeps_begin_call : (v : Parts) (result : Effect) → effect_begin_call (entries_of v) ≡ Some result → Keeps v (begin_call v) result
keeps_begin_call (PToken (At p k) ∷ PExpr e ∷ v) result given = known (PToken (At p k) ∷ PExpr e ∷ v) (begin_call (PToken (At p k) ∷ PExpr e ∷ v)) (entry (ExprShape CallForm false) (start_of e) ∷ entries_of v) (Over Plain p 1 ∷ []) result given (refl) (refl)
keeps_begin_call v result given = no_effect given

keeps_add_argument : (v : Parts) (result : Effect) → effect_add_argument (entries_of v) ≡ Some result → Keeps v (add_argument v) result
keeps_add_argument (PExpr e ∷ PExpr (ECall p f es no_keywords) ∷ v) result given = known (PExpr e ∷ PExpr (ECall p f es no_keywords) ∷ v) (add_argument (PExpr e ∷ PExpr (ECall p f es no_keywords) ∷ v)) (entry (ExprShape CallForm false) (start_of (ECall p f es no_keywords)) ∷ entries_of v) (Join Plain ∷ []) result given (refl) (ap (λ hole. Some (Node Plain p (more_below (expr_outline f) hole) ∷ outlines_of v)) (exprs_last es e))
keeps_add_argument v result given = no_effect given

keeps_add_keyword : (v : Parts) (result : Effect) → effect_add_keyword (entries_of v) ≡ Some result → Keeps v (add_keyword v) result
keeps_add_keyword (PExpr e ∷ PToken equals ∷ PExpr (EName q x) ∷ PExpr (ECall p f es ks) ∷ v) result given = known (PExpr e ∷ PToken equals ∷ PExpr (EName q x) ∷ PExpr (ECall p f es ks) ∷ v) (add_keyword (PExpr e ∷ PToken equals ∷ PExpr (EName q x) ∷ PExpr (ECall p f es ks) ∷ v)) (entry (ExprShape CallForm true) (start_of (ECall p f es ks)) ∷ entries_of v) (Join Plain ∷ Forget ∷ []) result given (ap (λ hole. entry (ExprShape CallForm hole) (start_of f) ∷ entries_of v) (keywords_full p f es ks (record { place = q; name = x }) e)) (ap (λ hole. Some (Node Plain p (more_below (expr_outline f) hole) ∷ outlines_of v)) (arguments_last es ks (record { place = q; name = x }) e))
keeps_add_keyword v result given = no_effect given

keeps_make_subscript : (v : Parts) (result : Effect) → effect_make_subscript (entries_of v) ≡ Some result → Keeps v (make_subscript v) result
keeps_make_subscript (PToken close ∷ PExpr i ∷ PToken (At p k) ∷ PExpr e ∷ v) result given = known (PToken close ∷ PExpr i ∷ PToken (At p k) ∷ PExpr e ∷ v) (make_subscript (PToken close ∷ PExpr i ∷ PToken (At p k) ∷ PExpr e ∷ v)) (entry (ExprShape SubscriptForm false) (start_of e) ∷ entries_of v) (Over Plain p 2 ∷ []) result given (refl) (refl)
keeps_make_subscript v result given = no_effect given

keeps_make_slice_from : (v : Parts) (result : Effect) → effect_make_slice_from (entries_of v) ≡ Some result → Keeps v (make_slice_from v) result
keeps_make_slice_from (PToken colon ∷ PExpr l ∷ PToken (At p k) ∷ PExpr e ∷ v) result given = known (PToken colon ∷ PExpr l ∷ PToken (At p k) ∷ PExpr e ∷ v) (make_slice_from (PToken colon ∷ PExpr l ∷ PToken (At p k) ∷ PExpr e ∷ v)) (entry (ExprShape (SliceForm false) false) (start_of e) ∷ entries_of v) (Over Plain p 2 ∷ []) result given (refl) (refl)
keeps_make_slice_from v result given = no_effect given

keeps_make_slice : (v : Parts) (result : Effect) → effect_make_slice (entries_of v) ≡ Some result → Keeps v (make_slice v) result
keeps_make_slice (PToken colon ∷ PToken (At p k) ∷ PExpr e ∷ v) result given = known (PToken colon ∷ PToken (At p k) ∷ PExpr e ∷ v) (make_slice (PToken colon ∷ PToken (At p k) ∷ PExpr e ∷ v)) (entry (ExprShape (SliceForm false) false) (start_of e) ∷ entries_of v) (Over Plain p 1 ∷ []) result given (refl) (refl)
keeps_make_slice v result given = no_effect given

keeps_add_upper : (v : Parts) (result : Effect) → effect_add_upper (entries_of v) ≡ Some result → Keeps v (add_upper v) result
keeps_add_upper (PToken close ∷ PExpr u ∷ PExpr (ESlice p e l no_expr) ∷ v) result given = known (PToken close ∷ PExpr u ∷ PExpr (ESlice p e l no_expr) ∷ v) (add_upper (PToken close ∷ PExpr u ∷ PExpr (ESlice p e l no_expr) ∷ v)) (entry (ExprShape (SliceForm true) false) (start_of (ESlice p e l no_expr)) ∷ entries_of v) (Join Plain ∷ []) result given (refl) (ap (λ hole. Some (Node Plain p (more_below (expr_outline e) hole) ∷ outlines_of v)) (upper_last l u))
keeps_add_upper v result given = no_effect given

keeps_make_unary : (o : UnaryOperator) (v : Parts) (result : Effect) → effect_prefix (entries_of v) ≡ Some result → Keeps v (make_unary o v) result
keeps_make_unary o (PExpr e ∷ PToken (At p k) ∷ v) result given = known (PExpr e ∷ PToken (At p k) ∷ v) (make_unary o (PExpr e ∷ PToken (At p k) ∷ v)) (entry (ExprShape OtherForm false) p ∷ entries_of v) (Over Plain p 1 ∷ []) result given (refl) (refl)
keeps_make_unary o v result given = no_effect given

keeps_make_binary : (o : BinaryOperator) (v : Parts) (result : Effect) → effect_infix OtherForm (entries_of v) ≡ Some result → Keeps v (make_binary o v) result
keeps_make_binary o (PExpr d ∷ PToken (At p k) ∷ PExpr e ∷ v) result given = known (PExpr d ∷ PToken (At p k) ∷ PExpr e ∷ v) (make_binary o (PExpr d ∷ PToken (At p k) ∷ PExpr e ∷ v)) (entry (ExprShape OtherForm false) (start_of e) ∷ entries_of v) (Over Plain p 2 ∷ []) result given (refl) (refl)
keeps_make_binary o v result given = no_effect given

keeps_make_sign : (o : ComparisonOperator) (v : Parts) (result : Effect) → effect_make_sign (entries_of v) ≡ Some result → Keeps v (make_sign o v) result
keeps_make_sign o (PToken (At p k) ∷ v) result given = known (PToken (At p k) ∷ v) (make_sign o (PToken (At p k) ∷ v)) (entry SignShape p ∷ entries_of v) [] result given (refl) (refl)
keeps_make_sign o v result given = no_effect given

keeps_make_long_sign : (o : ComparisonOperator) (v : Parts) (result : Effect) → effect_make_long_sign (entries_of v) ≡ Some result → Keeps v (make_long_sign o v) result
keeps_make_long_sign o (PToken second ∷ PToken (At p k) ∷ v) result given = known (PToken second ∷ PToken (At p k) ∷ v) (make_long_sign o (PToken second ∷ PToken (At p k) ∷ v)) (entry SignShape p ∷ entries_of v) [] result given (refl) (refl)
keeps_make_long_sign o v result given = no_effect given

keeps_make_compare : (v : Parts) (result : Effect) → effect_make_compare (entries_of v) ≡ Some result → Keeps v (make_compare v) result
keeps_make_compare (PExpr d ∷ PSign p o ∷ PExpr e ∷ v) result given = known (PExpr d ∷ PSign p o ∷ PExpr e ∷ v) (make_compare (PExpr d ∷ PSign p o ∷ PExpr e ∷ v)) (entry (ExprShape CompareForm false) (start_of e) ∷ entries_of v) (Over Plain p 2 ∷ []) result given (refl) (refl)
keeps_make_compare v result given = no_effect given

keeps_add_link : (v : Parts) (result : Effect) → effect_add_link (entries_of v) ≡ Some result → Keeps v (add_link v) result
keeps_add_link (PExpr e ∷ PSign q u ∷ PExpr (ECompare p o d g links) ∷ v) result given = known (PExpr e ∷ PSign q u ∷ PExpr (ECompare p o d g links) ∷ v) (add_link (PExpr e ∷ PSign q u ∷ PExpr (ECompare p o d g links) ∷ v)) (entry (ExprShape CompareForm false) (start_of (ECompare p o d g links)) ∷ entries_of v) (Join Plain ∷ []) result given (refl) (ap (λ hole. Some (Node Plain p (more_below (expr_outline d) (more_below (expr_outline g) hole)) ∷ outlines_of v)) (links_last links q u e))
keeps_add_link v result given = no_effect given

keeps_make_not : (v : Parts) (result : Effect) → effect_prefix (entries_of v) ≡ Some result → Keeps v (make_not v) result
keeps_make_not (PExpr e ∷ PToken (At p k) ∷ v) result given = known (PExpr e ∷ PToken (At p k) ∷ v) (make_not (PExpr e ∷ PToken (At p k) ∷ v)) (entry (ExprShape OtherForm false) p ∷ entries_of v) (Over Plain p 1 ∷ []) result given (refl) (refl)
keeps_make_not v result given = no_effect given

keeps_make_and : (v : Parts) (result : Effect) → effect_infix AndForm (entries_of v) ≡ Some result → Keeps v (make_and v) result
keeps_make_and (PExpr d ∷ PToken (At p k) ∷ PExpr e ∷ v) result given = known (PExpr d ∷ PToken (At p k) ∷ PExpr e ∷ v) (make_and (PExpr d ∷ PToken (At p k) ∷ PExpr e ∷ v)) (entry (ExprShape AndForm false) (start_of e) ∷ entries_of v) (Over Plain p 2 ∷ []) result given (refl) (refl)
keeps_make_and v result given = no_effect given

keeps_add_and : (v : Parts) (result : Effect) → effect_add_and (entries_of v) ≡ Some result → Keeps v (add_and v) result
keeps_add_and (PExpr e ∷ PToken and_word ∷ PExpr (EAnd p d g es) ∷ v) result given = known (PExpr e ∷ PToken and_word ∷ PExpr (EAnd p d g es) ∷ v) (add_and (PExpr e ∷ PToken and_word ∷ PExpr (EAnd p d g es) ∷ v)) (entry (ExprShape AndForm false) (start_of (EAnd p d g es)) ∷ entries_of v) (Join Plain ∷ []) result given (refl) (ap (λ hole. Some (Node Plain p (more_below (expr_outline d) (more_below (expr_outline g) hole)) ∷ outlines_of v)) (exprs_last es e))
keeps_add_and v result given = no_effect given

keeps_make_or : (v : Parts) (result : Effect) → effect_infix OrForm (entries_of v) ≡ Some result → Keeps v (make_or v) result
keeps_make_or (PExpr d ∷ PToken (At p k) ∷ PExpr e ∷ v) result given = known (PExpr d ∷ PToken (At p k) ∷ PExpr e ∷ v) (make_or (PExpr d ∷ PToken (At p k) ∷ PExpr e ∷ v)) (entry (ExprShape OrForm false) (start_of e) ∷ entries_of v) (Over Plain p 2 ∷ []) result given (refl) (refl)
keeps_make_or v result given = no_effect given

keeps_add_or : (v : Parts) (result : Effect) → effect_add_or (entries_of v) ≡ Some result → Keeps v (add_or v) result
keeps_add_or (PExpr e ∷ PToken or_word ∷ PExpr (EOr p d g es) ∷ v) result given = known (PExpr e ∷ PToken or_word ∷ PExpr (EOr p d g es) ∷ v) (add_or (PExpr e ∷ PToken or_word ∷ PExpr (EOr p d g es) ∷ v)) (entry (ExprShape OrForm false) (start_of (EOr p d g es)) ∷ entries_of v) (Join Plain ∷ []) result given (refl) (ap (λ hole. Some (Node Plain p (more_below (expr_outline d) (more_below (expr_outline g) hole)) ∷ outlines_of v)) (exprs_last es e))
keeps_add_or v result given = no_effect given

keeps_make_conditional : (v : Parts) (result : Effect) → effect_make_conditional (entries_of v) ≡ Some result → Keeps v (make_conditional v) result
keeps_make_conditional (PExpr g ∷ PToken else_word ∷ PExpr d ∷ PToken (At p k) ∷ PExpr e ∷ v) result given = known (PExpr g ∷ PToken else_word ∷ PExpr d ∷ PToken (At p k) ∷ PExpr e ∷ v) (make_conditional (PExpr g ∷ PToken else_word ∷ PExpr d ∷ PToken (At p k) ∷ PExpr e ∷ v)) (entry (ExprShape OtherForm false) (start_of e) ∷ entries_of v) (Over Plain p 3 ∷ []) result given (refl) (refl)
keeps_make_conditional v result given = no_effect given

keeps_make_loop_name : (v : Parts) (result : Effect) → effect_make_loop_name (entries_of v) ≡ Some result → Keeps v (make_loop_name v) result
keeps_make_loop_name (PToken (At q (TName s x)) ∷ v) result given = known (PToken (At q (TName s x)) ∷ v) (make_loop_name (PToken (At q (TName s x)) ∷ v)) (entry (LoopTargetShape OneName true) nowhere ∷ entries_of v) (Over Plain q 0 ∷ []) result given (refl) (refl)
keeps_make_loop_name v result given = no_effect given

keeps_make_loop_names : (v : Parts) (result : Effect) → effect_make_loop_names (entries_of v) ≡ Some result → Keeps v (make_loop_names v) result
keeps_make_loop_names (PToken (At p k) ∷ PLoopTarget (LoopName x) ∷ v) result given = known (PToken (At p k) ∷ PLoopTarget (LoopName x) ∷ v) (make_loop_names (PToken (At p k) ∷ PLoopTarget (LoopName x) ∷ v)) (entry (LoopTargetShape SomeNames true) nowhere ∷ entries_of v) (Gather 1 ∷ []) result given (refl) (refl)
keeps_make_loop_names v result given = no_effect given

keeps_add_loop_name : (v : Parts) (result : Effect) → effect_add_loop_name (entries_of v) ≡ Some result → Keeps v (add_loop_name v) result
keeps_add_loop_name (PToken (At q (TName s x)) ∷ PLoopTarget (LoopNames p (first ∷ xs)) ∷ v) result given = known (PToken (At q (TName s x)) ∷ PLoopTarget (LoopNames p (first ∷ xs)) ∷ v) (add_loop_name (PToken (At q (TName s x)) ∷ PLoopTarget (LoopNames p (first ∷ xs)) ∷ v)) (entry (LoopTargetShape SomeNames true) nowhere ∷ entries_of v) (JoinGroup ∷ Over Plain q 0 ∷ []) result given (refl) (ap (λ hole. Some (Group hole ∷ outlines_of v)) (names_last p first xs (record { place = q; name = x })))
keeps_add_loop_name v result given = no_effect given

keeps_make_loop_parenthesis : (v : Parts) (result : Effect) → effect_make_loop_parenthesis (entries_of v) ≡ Some result → Keeps v (make_loop_parenthesis v) result
keeps_make_loop_parenthesis (PToken close ∷ PLoopTarget t ∷ PToken (At p k) ∷ v) result given = known (PToken close ∷ PLoopTarget t ∷ PToken (At p k) ∷ v) (make_loop_parenthesis (PToken close ∷ PLoopTarget t ∷ PToken (At p k) ∷ v)) (entry (LoopTargetShape NamesInBrackets true) nowhere ∷ entries_of v) (Over Plain p 1 ∷ []) result given (refl) (refl)
keeps_make_loop_parenthesis v result given = no_effect given

keeps_begin_body : (v : Parts) (result : Effect) → effect_begin_body (entries_of v) ≡ Some result → Keeps v (begin_body v) result
keeps_begin_body v result given = known v (begin_body v) (entry (BodyShape false) nowhere ∷ entries_of v) (Gather 0 ∷ []) result given (refl) (refl)

keeps_add_stmt : (v : Parts) (result : Effect) → effect_add_stmt (entries_of v) ≡ Some result → Keeps v (add_stmt v) result
keeps_add_stmt (PStmt s ∷ PBody b ∷ v) result given = known (PStmt s ∷ PBody b ∷ v) (add_stmt (PStmt s ∷ PBody b ∷ v)) (entry (BodyShape true) nowhere ∷ entries_of v) (JoinGroup ∷ []) result given (ap (λ hole. entry (BodyShape hole) nowhere ∷ entries_of v) (stmt_fills b s)) (stmt_last b s (outlines_of v))
keeps_add_stmt v result given = no_effect given

keeps_make_expr_stmt : (v : Parts) (result : Effect) → effect_make_expr_stmt (entries_of v) ≡ Some result → Keeps v (make_expr_stmt v) result
keeps_make_expr_stmt (PExpr e ∷ v) result given = known (PExpr e ∷ v) (make_expr_stmt (PExpr e ∷ v)) (entry (StmtShape OtherStmt false) nowhere ∷ entries_of v) (Over Plain (start_of e) 1 ∷ []) result given (refl) (refl)
keeps_make_expr_stmt v result given = no_effect given

keeps_make_assign : (v : Parts) (result : Effect) → effect_make_assign (entries_of v) ≡ Some result → Keeps v (make_assign v) result
keeps_make_assign (PExpr e ∷ PTargets p ts ∷ v) result given = known (PExpr e ∷ PTargets p ts ∷ v) (make_assign (PExpr e ∷ PTargets p ts ∷ v)) (entry (StmtShape OtherStmt false) nowhere ∷ entries_of v) (Over Plain p 2 ∷ []) result given (refl) (refl)
keeps_make_assign v result given = no_effect given

keeps_make_pass : (v : Parts) (result : Effect) → effect_word (entries_of v) ≡ Some result → Keeps v (make_pass v) result
keeps_make_pass (PToken (At p k) ∷ v) result given = known (PToken (At p k) ∷ v) (make_pass (PToken (At p k) ∷ v)) (entry (StmtShape OtherStmt false) nowhere ∷ entries_of v) (Over Plain p 0 ∷ []) result given (refl) (refl)
keeps_make_pass v result given = no_effect given

keeps_make_break : (v : Parts) (result : Effect) → effect_word (entries_of v) ≡ Some result → Keeps v (make_break v) result
keeps_make_break (PToken (At p k) ∷ v) result given = known (PToken (At p k) ∷ v) (make_break (PToken (At p k) ∷ v)) (entry (StmtShape OtherStmt false) nowhere ∷ entries_of v) (Over Plain p 0 ∷ []) result given (refl) (refl)
keeps_make_break v result given = no_effect given

keeps_make_continue : (v : Parts) (result : Effect) → effect_word (entries_of v) ≡ Some result → Keeps v (make_continue v) result
keeps_make_continue (PToken (At p k) ∷ v) result given = known (PToken (At p k) ∷ v) (make_continue (PToken (At p k) ∷ v)) (entry (StmtShape OtherStmt false) nowhere ∷ entries_of v) (Over Plain p 0 ∷ []) result given (refl) (refl)
keeps_make_continue v result given = no_effect given

keeps_make_return : (v : Parts) (result : Effect) → effect_word (entries_of v) ≡ Some result → Keeps v (make_return v) result
keeps_make_return (PToken (At p k) ∷ v) result given = known (PToken (At p k) ∷ v) (make_return (PToken (At p k) ∷ v)) (entry (StmtShape OtherStmt false) nowhere ∷ entries_of v) (Over Plain p 0 ∷ []) result given (refl) (refl)
keeps_make_return v result given = no_effect given

keeps_make_return_value : (v : Parts) (result : Effect) → effect_with_value (entries_of v) ≡ Some result → Keeps v (make_return_value v) result
keeps_make_return_value (PExpr e ∷ PToken (At p k) ∷ v) result given = known (PExpr e ∷ PToken (At p k) ∷ v) (make_return_value (PExpr e ∷ PToken (At p k) ∷ v)) (entry (StmtShape OtherStmt false) nowhere ∷ entries_of v) (Over Plain p 1 ∷ []) result given (refl) (refl)
keeps_make_return_value v result given = no_effect given

keeps_make_raise : (v : Parts) (result : Effect) → effect_with_value (entries_of v) ≡ Some result → Keeps v (make_raise v) result
keeps_make_raise (PExpr e ∷ PToken (At p k) ∷ v) result given = known (PExpr e ∷ PToken (At p k) ∷ v) (make_raise (PExpr e ∷ PToken (At p k) ∷ v)) (entry (StmtShape OtherStmt false) nowhere ∷ entries_of v) (Over Plain p 1 ∷ []) result given (refl) (refl)
keeps_make_raise v result given = no_effect given

keeps_make_yield : (v : Parts) (result : Effect) → effect_with_value (entries_of v) ≡ Some result → Keeps v (make_yield v) result
keeps_make_yield (PExpr e ∷ PToken (At p k) ∷ v) result given = known (PExpr e ∷ PToken (At p k) ∷ v) (make_yield (PExpr e ∷ PToken (At p k) ∷ v)) (entry (StmtShape OtherStmt false) nowhere ∷ entries_of v) (Over Plain p 1 ∷ []) result given (refl) (refl)
keeps_make_yield v result given = no_effect given

keeps_begin_global : (v : Parts) (result : Effect) → effect_begin_global (entries_of v) ≡ Some result → Keeps v (begin_global v) result
keeps_begin_global (PToken (At p k) ∷ v) result given = known (PToken (At p k) ∷ v) (begin_global (PToken (At p k) ∷ v)) (entry (StmtShape GlobalStmt false) nowhere ∷ entries_of v) (Over Plain p 0 ∷ []) result given (refl) (refl)
keeps_begin_global v result given = no_effect given

keeps_add_global : (v : Parts) (result : Effect) → effect_add_global (entries_of v) ≡ Some result → Keeps v (add_global v) result
keeps_add_global (PToken (At q (TName s x)) ∷ PStmt (SGlobal p xs) ∷ v) result given = known (PToken (At q (TName s x)) ∷ PStmt (SGlobal p xs) ∷ v) (add_global (PToken (At q (TName s x)) ∷ PStmt (SGlobal p xs) ∷ v)) (entry (StmtShape GlobalStmt false) nowhere ∷ entries_of v) [] result given (refl) (refl)
keeps_add_global v result given = no_effect given

keeps_make_assert : (v : Parts) (result : Effect) → effect_with_value (entries_of v) ≡ Some result → Keeps v (make_assert v) result
keeps_make_assert (PExpr e ∷ PToken (At p k) ∷ v) result given = known (PExpr e ∷ PToken (At p k) ∷ v) (make_assert (PExpr e ∷ PToken (At p k) ∷ v)) (entry (StmtShape OtherStmt false) nowhere ∷ entries_of v) (Over Plain p 1 ∷ []) result given (refl) (refl)
keeps_make_assert v result given = no_effect given

keeps_make_assert_message : (v : Parts) (result : Effect) → effect_make_assert_message (entries_of v) ≡ Some result → Keeps v (make_assert_message v) result
keeps_make_assert_message (PExpr d ∷ PToken comma ∷ PExpr e ∷ PToken (At p k) ∷ v) result given = known (PExpr d ∷ PToken comma ∷ PExpr e ∷ PToken (At p k) ∷ v) (make_assert_message (PExpr d ∷ PToken comma ∷ PExpr e ∷ PToken (At p k) ∷ v)) (entry (StmtShape OtherStmt false) nowhere ∷ entries_of v) (Over Plain p 2 ∷ []) result given (refl) (refl)
keeps_make_assert_message v result given = no_effect given

keeps_make_delete : (v : Parts) (result : Effect) → effect_make_delete (entries_of v) ≡ Some result → Keeps v (make_delete v) result
keeps_make_delete (PExpr (ESubscript q e i) ∷ PToken (At p k) ∷ v) result given = known (PExpr (ESubscript q e i) ∷ PToken (At p k) ∷ v) (make_delete (PExpr (ESubscript q e i) ∷ PToken (At p k) ∷ v)) (entry (StmtShape OtherStmt false) nowhere ∷ entries_of v) (Over Plain p 1 ∷ []) result given (refl) (refl)
keeps_make_delete v result given = no_effect given

keeps_make_if : (v : Parts) (result : Effect) → effect_make_if (entries_of v) ≡ Some result → Keeps v (make_if v) result
keeps_make_if (PBody other ∷ PBody b ∷ PToken colon ∷ PExpr e ∷ PToken (At p k) ∷ v) result given = known (PBody other ∷ PBody b ∷ PToken colon ∷ PExpr e ∷ PToken (At p k) ∷ v) (make_if (PBody other ∷ PBody b ∷ PToken colon ∷ PExpr e ∷ PToken (At p k) ∷ v)) (entry (StmtShape OtherStmt false) nowhere ∷ entries_of v) (Over Plain p 3 ∷ []) result given (refl) (refl)
keeps_make_if v result given = no_effect given

keeps_make_elif : (v : Parts) (result : Effect) → effect_make_elif (entries_of v) ≡ Some result → Keeps v (make_elif v) result
keeps_make_elif (PBody other ∷ PBody b ∷ PToken colon ∷ PExpr e ∷ PToken (At p k) ∷ v) result given = known (PBody other ∷ PBody b ∷ PToken colon ∷ PExpr e ∷ PToken (At p k) ∷ v) (make_elif (PBody other ∷ PBody b ∷ PToken colon ∷ PExpr e ∷ PToken (At p k) ∷ v)) (entry (BodyShape true) nowhere ∷ entries_of v) (Gather 1 ∷ Over Plain p 3 ∷ []) result given (refl) (refl)
keeps_make_elif v result given = no_effect given

keeps_make_else : (v : Parts) (result : Effect) → effect_make_else (entries_of v) ≡ Some result → Keeps v (make_else v) result
keeps_make_else (PBody b ∷ PToken colon ∷ PToken else_word ∷ v) result given = known (PBody b ∷ PToken colon ∷ PToken else_word ∷ v) (make_else (PBody b ∷ PToken colon ∷ PToken else_word ∷ v)) (entry (BodyShape (is_filled b)) nowhere ∷ entries_of v) [] result given (refl) (refl)
keeps_make_else v result given = no_effect given

keeps_make_while : (v : Parts) (result : Effect) → effect_make_while (entries_of v) ≡ Some result → Keeps v (make_while v) result
keeps_make_while (PBody b ∷ PToken colon ∷ PExpr e ∷ PToken (At p k) ∷ v) result given = known (PBody b ∷ PToken colon ∷ PExpr e ∷ PToken (At p k) ∷ v) (make_while (PBody b ∷ PToken colon ∷ PExpr e ∷ PToken (At p k) ∷ v)) (entry (StmtShape OtherStmt false) nowhere ∷ entries_of v) (Over Plain p 2 ∷ []) result given (refl) (refl)
keeps_make_while v result given = no_effect given

keeps_make_for : (v : Parts) (result : Effect) → effect_make_for (entries_of v) ≡ Some result → Keeps v (make_for v) result
keeps_make_for (PBody b ∷ PToken colon ∷ PExpr e ∷ PToken in_word ∷ PLoopTarget t ∷ PToken (At p k) ∷ v) result given = known (PBody b ∷ PToken colon ∷ PExpr e ∷ PToken in_word ∷ PLoopTarget t ∷ PToken (At p k) ∷ v) (make_for (PBody b ∷ PToken colon ∷ PExpr e ∷ PToken in_word ∷ PLoopTarget t ∷ PToken (At p k) ∷ v)) (entry (StmtShape OtherStmt false) nowhere ∷ entries_of v) (Over Plain p 3 ∷ []) result given (refl) (refl)
keeps_make_for v result given = no_effect given

keeps_begin_try : (v : Parts) (result : Effect) → effect_begin_try (entries_of v) ≡ Some result → Keeps v (begin_try v) result
keeps_begin_try (PBody b ∷ PToken colon ∷ PToken (At p k) ∷ v) result given = known (PBody b ∷ PToken colon ∷ PToken (At p k) ∷ v) (begin_try (PBody b ∷ PToken colon ∷ PToken (At p k) ∷ v)) (entry (StmtShape TryStmt false) nowhere ∷ entries_of v) (Over Plain p 1 ∷ []) result given (refl) (refl)
keeps_begin_try v result given = no_effect given

keeps_catch_all : (v : Parts) (result : Effect) → effect_catch_all (entries_of v) ≡ Some result → Keeps v (catch_all v) result
keeps_catch_all (PBody b ∷ PToken colon ∷ PToken (At q k) ∷ PStmt (STry p tried hs) ∷ v) result given = known (PBody b ∷ PToken colon ∷ PToken (At q k) ∷ PStmt (STry p tried hs) ∷ v) (catch_all (PBody b ∷ PToken colon ∷ PToken (At q k) ∷ PStmt (STry p tried hs) ∷ v)) (entry (StmtShape TryStmt false) nowhere ∷ entries_of v) (Join Plain ∷ []) result given (refl) (ap (λ hole. Some (Node Plain p (more_below (body_outline tried) hole) ∷ outlines_of v)) (handlers_last hs q Everything b))
keeps_catch_all v result given = no_effect given

keeps_catch : (v : Parts) (result : Effect) → effect_catch (entries_of v) ≡ Some result → Keeps v (catch v) result
keeps_catch (PBody b ∷ PToken colon ∷ PClass c ∷ PToken (At q k) ∷ PStmt (STry p tried hs) ∷ v) result given = known (PBody b ∷ PToken colon ∷ PClass c ∷ PToken (At q k) ∷ PStmt (STry p tried hs) ∷ v) (catch (PBody b ∷ PToken colon ∷ PClass c ∷ PToken (At q k) ∷ PStmt (STry p tried hs) ∷ v)) (entry (StmtShape TryStmt false) nowhere ∷ entries_of v) (Join Plain ∷ []) result given (refl) (ap (λ hole. Some (Node Plain p (more_below (body_outline tried) hole) ∷ outlines_of v)) (handlers_last hs q (Exceptions c None) b))
keeps_catch v result given = no_effect given

keeps_catch_as : (v : Parts) (result : Effect) → effect_catch_as (entries_of v) ≡ Some result → Keeps v (catch_as v) result
keeps_catch_as (PBody b ∷ PToken colon ∷ PToken (At r (TName s x)) ∷ PToken as_word ∷ PClass c ∷ PToken (At q k) ∷ PStmt (STry p tried hs) ∷ v) result given = known (PBody b ∷ PToken colon ∷ PToken (At r (TName s x)) ∷ PToken as_word ∷ PClass c ∷ PToken (At q k) ∷ PStmt (STry p tried hs) ∷ v) (catch_as (PBody b ∷ PToken colon ∷ PToken (At r (TName s x)) ∷ PToken as_word ∷ PClass c ∷ PToken (At q k) ∷ PStmt (STry p tried hs) ∷ v)) (entry (StmtShape TryStmt false) nowhere ∷ entries_of v) (Join Plain ∷ []) result given (refl) (ap (λ hole. Some (Node Plain p (more_below (body_outline tried) hole) ∷ outlines_of v)) (handlers_last hs q (Exceptions c (Some (record { place = r; name = x }))) b))
keeps_catch_as v result given = no_effect given

keeps_make_class_name : (v : Parts) (result : Effect) → effect_make_class_name (entries_of v) ≡ Some result → Keeps v (make_class_name v) result
keeps_make_class_name (PToken (At q (TName s x)) ∷ v) result given = known (PToken (At q (TName s x)) ∷ v) (make_class_name (PToken (At q (TName s x)) ∷ v)) (entry (ClassShape BareName) nowhere ∷ entries_of v) [] result given (refl) (refl)
keeps_make_class_name v result given = no_effect given

keeps_make_class_within : (v : Parts) (result : Effect) → effect_make_class_within (entries_of v) ≡ Some result → Keeps v (make_class_within v) result
keeps_make_class_within (PToken (At q (TName s x)) ∷ PToken dot ∷ PClass (BareClass m) ∷ v) result given = known (PToken (At q (TName s x)) ∷ PToken dot ∷ PClass (BareClass m) ∷ v) (make_class_within (PToken (At q (TName s x)) ∷ PToken dot ∷ PClass (BareClass m) ∷ v)) (entry (ClassShape DottedName) nowhere ∷ entries_of v) [] result given (refl) (refl)
keeps_make_class_within v result given = no_effect given

keeps_begin_def : (v : Parts) (result : Effect) → effect_begin_def (entries_of v) ≡ Some result → Keeps v (begin_def v) result
keeps_begin_def (PToken opening ∷ PToken (At q (TName s x)) ∷ PToken (At p k) ∷ v) result given = known (PToken opening ∷ PToken (At q (TName s x)) ∷ PToken (At p k) ∷ v) (begin_def (PToken opening ∷ PToken (At q (TName s x)) ∷ PToken (At p k) ∷ v)) (entry (StmtShape DefStmt false) nowhere ∷ entries_of v) (Over Plain p 0 ∷ []) result given (refl) (refl)
keeps_begin_def v result given = no_effect given

keeps_add_parameter : (v : Parts) (result : Effect) → effect_add_parameter (entries_of v) ≡ Some result → Keeps v (add_parameter v) result
keeps_add_parameter (PToken (At q (TName s x)) ∷ PStmt (SDef p f xs b) ∷ v) result given = known (PToken (At q (TName s x)) ∷ PStmt (SDef p f xs b) ∷ v) (add_parameter (PToken (At q (TName s x)) ∷ PStmt (SDef p f xs b) ∷ v)) (entry (StmtShape DefStmt (stmt_filled (SDef p f xs b))) nowhere ∷ entries_of v) [] result given (refl) (ap (λ hole. Some (Node Plain p hole ∷ outlines_of v)) (sym (parameters_more xs (record { name = record { place = q; name = x }; default = no_expr }) (definition_outlines b))))
keeps_add_parameter v result given = no_effect given

keeps_add_default : (v : Parts) (result : Effect) → effect_add_default (entries_of v) ≡ Some result → Keeps v (add_default v) result
keeps_add_default (PExpr e ∷ PToken equals ∷ PToken (At q (TName s x)) ∷ PStmt (SDef p f xs no_stmts) ∷ v) result given = known (PExpr e ∷ PToken equals ∷ PToken (At q (TName s x)) ∷ PStmt (SDef p f xs no_stmts) ∷ v) (add_default (PExpr e ∷ PToken equals ∷ PToken (At q (TName s x)) ∷ PStmt (SDef p f xs no_stmts) ∷ v)) (entry (StmtShape DefStmt false) nowhere ∷ entries_of v) (Join Plain ∷ []) result given (refl) (ap (λ hole. Some (Node Plain p hole ∷ outlines_of v)) (default_last xs (record { place = q; name = x }) e))
keeps_add_default v result given = no_effect given

keeps_end_def : (v : Parts) (result : Effect) → effect_end_def (entries_of v) ≡ Some result → Keeps v (end_def v) result
keeps_end_def (PBody (more_stmts s b) ∷ PToken colon ∷ PToken close ∷ PStmt (SDef p f xs no_stmts) ∷ v) result given = known (PBody (more_stmts s b) ∷ PToken colon ∷ PToken close ∷ PStmt (SDef p f xs no_stmts) ∷ v) (end_def (PBody (more_stmts s b) ∷ PToken colon ∷ PToken close ∷ PStmt (SDef p f xs no_stmts) ∷ v)) (entry (StmtShape DefStmt true) nowhere ∷ entries_of v) (Join Plain ∷ []) result given (refl) (ap (λ hole. Some (Node Plain p hole ∷ outlines_of v)) (parameters_last xs (Group (more_below (stmt_outline s) (stmts_outlines b)))))
keeps_end_def v result given = no_effect given

keeps_begin_class : (v : Parts) (result : Effect) → effect_begin_class (entries_of v) ≡ Some result → Keeps v (begin_class v) result
keeps_begin_class (PToken (At q (TName s x)) ∷ PToken (At p k) ∷ v) result given = known (PToken (At q (TName s x)) ∷ PToken (At p k) ∷ v) (begin_class (PToken (At q (TName s x)) ∷ PToken (At p k) ∷ v)) (entry (StmtShape ClassStmt false) nowhere ∷ entries_of v) (Over Plain p 0 ∷ []) result given (refl) (refl)
keeps_begin_class v result given = no_effect given

keeps_add_base : (v : Parts) (result : Effect) → effect_add_base (entries_of v) ≡ Some result → Keeps v (add_base v) result
keeps_add_base (PToken close ∷ PClass c ∷ PToken opening ∷ PStmt (SClass p x base b) ∷ v) result given = known (PToken close ∷ PClass c ∷ PToken opening ∷ PStmt (SClass p x base b) ∷ v) (add_base (PToken close ∷ PClass c ∷ PToken opening ∷ PStmt (SClass p x base b) ∷ v)) (entry (StmtShape ClassStmt (stmt_filled (SClass p x base b))) nowhere ∷ entries_of v) [] result given (refl) (refl)
keeps_add_base v result given = no_effect given

keeps_end_class : (v : Parts) (result : Effect) → effect_end_class (entries_of v) ≡ Some result → Keeps v (end_class v) result
keeps_end_class (PBody (more_stmts s b) ∷ PToken colon ∷ PStmt (SClass p x base no_stmts) ∷ v) result given = known (PBody (more_stmts s b) ∷ PToken colon ∷ PStmt (SClass p x base no_stmts) ∷ v) (end_class (PBody (more_stmts s b) ∷ PToken colon ∷ PStmt (SClass p x base no_stmts) ∷ v)) (entry (StmtShape ClassStmt true) nowhere ∷ entries_of v) (Join Plain ∷ []) result given (refl) (refl)
keeps_end_class v result given = no_effect given

keeps_begin_import : (v : Parts) (result : Effect) → effect_word (entries_of v) ≡ Some result → Keeps v (begin_import v) result
keeps_begin_import (PToken (At p k) ∷ v) result given = known (PToken (At p k) ∷ v) (begin_import (PToken (At p k) ∷ v)) (entry (StmtShape OtherStmt false) nowhere ∷ entries_of v) (Over Plain p 0 ∷ []) result given (refl) (refl)
keeps_begin_import v result given = no_effect given

keeps_begin_from : (v : Parts) (result : Effect) → effect_begin_from (entries_of v) ≡ Some result → Keeps v (begin_from v) result
keeps_begin_from (PToken import_word ∷ PToken (At q (TName s x)) ∷ PToken (At p k) ∷ v) result given = known (PToken import_word ∷ PToken (At q (TName s x)) ∷ PToken (At p k) ∷ v) (begin_from (PToken import_word ∷ PToken (At q (TName s x)) ∷ PToken (At p k) ∷ v)) (entry (StmtShape OtherStmt false) nowhere ∷ entries_of v) (Over Plain p 0 ∷ []) result given (refl) (refl)
keeps_begin_from v result given = no_effect given

keeps_add_imported : (v : Parts) (result : Effect) → effect_add_imported (entries_of v) ≡ Some result → Keeps v (add_imported v) result
keeps_add_imported (PToken (At q (TName n x)) ∷ PStmt s ∷ v) result given = known (PToken (At q (TName n x)) ∷ PStmt s ∷ v) (add_imported (PToken (At q (TName n x)) ∷ PStmt s ∷ v)) (entry (StmtShape (stmt_form s) (stmt_filled s)) nowhere ∷ entries_of v) [] result given (imported_entry s (record { name = record { place = q; name = x }; alias = None }) (entries_of v)) (imported_outline s (record { name = record { place = q; name = x }; alias = None }) (outlines_of v))
keeps_add_imported v result given = no_effect given

keeps_add_imported_as : (v : Parts) (result : Effect) → effect_add_imported_as (entries_of v) ≡ Some result → Keeps v (add_imported_as v) result
keeps_add_imported_as (PToken (At r (TName o y)) ∷ PToken as_word ∷ PToken (At q (TName n x)) ∷ PStmt s ∷ v) result given = known (PToken (At r (TName o y)) ∷ PToken as_word ∷ PToken (At q (TName n x)) ∷ PStmt s ∷ v) (add_imported_as (PToken (At r (TName o y)) ∷ PToken as_word ∷ PToken (At q (TName n x)) ∷ PStmt s ∷ v)) (entry (StmtShape (stmt_form s) (stmt_filled s)) nowhere ∷ entries_of v) [] result given (imported_entry s (record { name = record { place = q; name = x }; alias = Some (record { place = r; name = y }) }) (entries_of v)) (imported_outline s (record { name = record { place = q; name = x }; alias = Some (record { place = r; name = y }) }) (outlines_of v))
keeps_add_imported_as v result given = no_effect given

keeps_make_leaf : (v : Parts) (r : Effect) → effect_make_leaf (entries_of v) ≡ Some r → Keeps v (make_leaf v) r
keeps_make_leaf (PToken (At p (TName a x)) ∷ v) r e =
    known (PToken (At p (TName a x)) ∷ v) (PExpr (EName p x) ∷ v) (entry (ExprShape NameForm false) p ∷ entries_of v) (Over Plain p 0 ∷ []) r e refl refl
keeps_make_leaf (PToken (At p (TNumber n)) ∷ v) r e =
    known (PToken (At p (TNumber n)) ∷ v) (PExpr (ENumber p n) ∷ v) (entry (ExprShape OtherForm false) p ∷ entries_of v) (Over Plain p 0 ∷ []) r e refl refl
keeps_make_leaf (PToken (At p (TText t)) ∷ v) r e =
    known (PToken (At p (TText t)) ∷ v) (PExpr (EText p t) ∷ v) (entry (ExprShape OtherForm false) p ∷ entries_of v) (Over Plain p 0 ∷ []) r e refl refl
keeps_make_leaf v r e = no_effect e

targets_kept : (c : Token) (e : Expr) (v : Parts) (o : Option Targets) (r : Effect) → targets_of e ≡ o → AreSo e o
    → (if are_targets (expr_form e) then Some (effect (entry TargetsShape (start_of e) ∷ entries_of v) (Gather 1 ∷ Assign ∷ [])) else None) ≡ Some r
    → Keeps (PToken c ∷ PExpr e ∷ v) (targets_found e o v) r
targets_kept c e v None r q so h = passed (are_targets (expr_form e)) (effect (entry TargetsShape (start_of e) ∷ entries_of v) (Gather 1 ∷ Assign ∷ [])) r so h
targets_kept c e v (Some t) r q so h =
    let k : Some (effect (entry TargetsShape (start_of e) ∷ entries_of v) (Gather 1 ∷ Assign ∷ [])) ≡ Some r = chosen (are_targets (expr_form e)) _ r so h in
    known (PToken c ∷ PExpr e ∷ v) (PTargets (start_of e) (t ∷ []) ∷ v) (entry TargetsShape (start_of e) ∷ entries_of v) (Gather 1 ∷ Assign ∷ []) r k refl (ap (λ hole. Some (Group (one_below hole) ∷ outlines_of v)) (targets_outlined e t q))

keeps_make_targets : (v : Parts) (r : Effect) → effect_make_targets (entries_of v) ≡ Some r → Keeps v (make_targets v) r
keeps_make_targets (PToken c ∷ PExpr e ∷ v) r h = targets_kept c e v (targets_of e) r refl (targets_formed e) h
keeps_make_targets v r h = no_effect h

more_targets_kept : (c : Token) (e : Expr) (p : Place) (ts : List Targets) (v : Parts) (o : Option Targets) (r : Effect) → targets_of e ≡ o → AreSo e o
    → (if are_targets (expr_form e) then Some (effect (entry TargetsShape p ∷ entries_of v) (JoinGroup ∷ Assign ∷ [])) else None) ≡ Some r
    → Keeps (PToken c ∷ PExpr e ∷ PTargets p ts ∷ v) (more_targets_found e p ts o v) r
more_targets_kept c e p ts v None r q so h = passed (are_targets (expr_form e)) (effect (entry TargetsShape p ∷ entries_of v) (JoinGroup ∷ Assign ∷ [])) r so h
more_targets_kept c e p ts v (Some t) r q so h =
    let k : Some (effect (entry TargetsShape p ∷ entries_of v) (JoinGroup ∷ Assign ∷ [])) ≡ Some r = chosen (are_targets (expr_form e)) _ r so h in
    known (PToken c ∷ PExpr e ∷ PTargets p ts ∷ v) (PTargets p (ts ++ t ∷ []) ∷ v) (entry TargetsShape p ∷ entries_of v) (JoinGroup ∷ Assign ∷ []) r k refl
    (ap (λ hole. Some (Group (with_last (assigned_outlines ts) hole) ∷ outlines_of v)) (targets_outlined e t q)
    ∙ ap (λ hole. Some (Group hole ∷ outlines_of v)) (assigned_last ts t))

keeps_add_targets : (v : Parts) (r : Effect) → effect_add_targets (entries_of v) ≡ Some r → Keeps v (add_targets v) r
keeps_add_targets (PToken c ∷ PExpr e ∷ PTargets p ts ∷ v) r h = more_targets_kept c e p ts v (targets_of e) r refl (targets_formed e) h
keeps_add_targets v r h = no_effect h

target_kept : (o : BinaryOperator) (c : Token) (a e : Expr) (v : Parts) (t : Option Target) (r : Effect) → target_of a ≡ t → IsTargetSo a t
    → (if is_target (expr_form a) then Some (effect (entry (StmtShape OtherStmt false) nowhere ∷ entries_of v) (Over Plain (start_of a) 2 ∷ [])) else None) ≡ Some r
    → Keeps (PExpr e ∷ PToken c ∷ PExpr a ∷ v) (target_found o a e t v) r
target_kept o c a e v None r q so h = passed (is_target (expr_form a)) (effect (entry (StmtShape OtherStmt false) nowhere ∷ entries_of v) (Over Plain (start_of a) 2 ∷ [])) r so h
target_kept o c a e v (Some t) r q so h =
    let k : Some (effect (entry (StmtShape OtherStmt false) nowhere ∷ entries_of v) (Over Plain (start_of a) 2 ∷ [])) ≡ Some r = chosen (is_target (expr_form a)) _ r so h in
    known (PExpr e ∷ PToken c ∷ PExpr a ∷ v) (PStmt (SAugmented (start_of a) o t e) ∷ v) (entry (StmtShape OtherStmt false) nowhere ∷ entries_of v) (Over Plain (start_of a) 2 ∷ []) r k refl (ap (λ hole. Some (Node Plain (start_of a) (two_below hole (expr_outline e)) ∷ outlines_of v)) (sym (target_outlined a t q)))

keeps_make_augmented : (o : BinaryOperator) (v : Parts) (r : Effect) → effect_make_augmented (entries_of v) ≡ Some r → Keeps v (make_augmented o v) r
keeps_make_augmented o (PExpr e ∷ PToken c ∷ PExpr a ∷ v) r h = target_kept o c a e v (target_of a) r refl (target_formed a (target_of a) refl) h
keeps_make_augmented o v r h = no_effect h

pub effects_kept : EffectLaw
effects_kept Drop v r e = keeps_drop v r e
effects_kept MakeLeaf v r e = keeps_make_leaf v r e
effects_kept MakeTrue v r e = keeps_make_true v r e
effects_kept MakeFalse v r e = keeps_make_false v r e
effects_kept MakeNone v r e = keeps_make_none v r e
effects_kept MakeEmptyTuple v r e = keeps_make_empty_tuple v r e
effects_kept MakeParenthesis v r e = keeps_make_parenthesis v r e
effects_kept MakeTuple v r e = keeps_make_tuple v r e
effects_kept AddItem v r e = keeps_add_item v r e
effects_kept MakeEmptyList v r e = keeps_make_empty_list v r e
effects_kept MakeListOfOne v r e = keeps_make_list_of_one v r e
effects_kept MakeList v r e = keeps_make_list v r e
effects_kept BeginComprehension v r e = keeps_begin_comprehension v r e
effects_kept BeginLoop v r e = keeps_begin_loop v r e
effects_kept AddCondition v r e = keeps_add_condition v r e
effects_kept AddLoop v r e = keeps_add_loop v r e
effects_kept MakeEmptyDict v r e = keeps_make_empty_dict v r e
effects_kept BeginDict v r e = keeps_begin_dict v r e
effects_kept AddPair v r e = keeps_add_pair v r e
effects_kept MakeSetOfOne v r e = keeps_make_set_of_one v r e
effects_kept MakeSet v r e = keeps_make_set v r e
effects_kept MakeAttribute v r e = keeps_make_attribute v r e
effects_kept BeginCall v r e = keeps_begin_call v r e
effects_kept AddArgument v r e = keeps_add_argument v r e
effects_kept AddKeyword v r e = keeps_add_keyword v r e
effects_kept MakeSubscript v r e = keeps_make_subscript v r e
effects_kept MakeSliceFrom v r e = keeps_make_slice_from v r e
effects_kept MakeSlice v r e = keeps_make_slice v r e
effects_kept AddUpper v r e = keeps_add_upper v r e
effects_kept (MakeUnary o) v r e = keeps_make_unary o v r e
effects_kept (MakeBinary o) v r e = keeps_make_binary o v r e
effects_kept (MakeSign o) v r e = keeps_make_sign o v r e
effects_kept (MakeLongSign o) v r e = keeps_make_long_sign o v r e
effects_kept MakeCompare v r e = keeps_make_compare v r e
effects_kept AddLink v r e = keeps_add_link v r e
effects_kept MakeNot v r e = keeps_make_not v r e
effects_kept MakeAnd v r e = keeps_make_and v r e
effects_kept AddAnd v r e = keeps_add_and v r e
effects_kept MakeOr v r e = keeps_make_or v r e
effects_kept AddOr v r e = keeps_add_or v r e
effects_kept MakeConditional v r e = keeps_make_conditional v r e
effects_kept MakeLoopName v r e = keeps_make_loop_name v r e
effects_kept MakeLoopNames v r e = keeps_make_loop_names v r e
effects_kept AddLoopName v r e = keeps_add_loop_name v r e
effects_kept MakeLoopParenthesis v r e = keeps_make_loop_parenthesis v r e
effects_kept BeginBody v r e = keeps_begin_body v r e
effects_kept AddStmt v r e = keeps_add_stmt v r e
effects_kept MakeExprStmt v r e = keeps_make_expr_stmt v r e
effects_kept MakeTargets v r e = keeps_make_targets v r e
effects_kept AddTargets v r e = keeps_add_targets v r e
effects_kept MakeAssign v r e = keeps_make_assign v r e
effects_kept (MakeAugmented o) v r e = keeps_make_augmented o v r e
effects_kept MakePass v r e = keeps_make_pass v r e
effects_kept MakeBreak v r e = keeps_make_break v r e
effects_kept MakeContinue v r e = keeps_make_continue v r e
effects_kept MakeReturn v r e = keeps_make_return v r e
effects_kept MakeReturnValue v r e = keeps_make_return_value v r e
effects_kept MakeRaise v r e = keeps_make_raise v r e
effects_kept MakeYield v r e = keeps_make_yield v r e
effects_kept BeginGlobal v r e = keeps_begin_global v r e
effects_kept AddGlobal v r e = keeps_add_global v r e
effects_kept MakeAssert v r e = keeps_make_assert v r e
effects_kept MakeAssertMessage v r e = keeps_make_assert_message v r e
effects_kept MakeDelete v r e = keeps_make_delete v r e
effects_kept MakeIf v r e = keeps_make_if v r e
effects_kept MakeElif v r e = keeps_make_elif v r e
effects_kept MakeElse v r e = keeps_make_else v r e
effects_kept MakeWhile v r e = keeps_make_while v r e
effects_kept MakeFor v r e = keeps_make_for v r e
effects_kept BeginTry v r e = keeps_begin_try v r e
effects_kept CatchAll v r e = keeps_catch_all v r e
effects_kept Catch v r e = keeps_catch v r e
effects_kept CatchAs v r e = keeps_catch_as v r e
effects_kept MakeClassName v r e = keeps_make_class_name v r e
effects_kept MakeClassWithin v r e = keeps_make_class_within v r e
effects_kept BeginDef v r e = keeps_begin_def v r e
effects_kept AddParameter v r e = keeps_add_parameter v r e
effects_kept AddDefault v r e = keeps_add_default v r e
effects_kept EndDef v r e = keeps_end_def v r e
effects_kept BeginClass v r e = keeps_begin_class v r e
effects_kept AddBase v r e = keeps_add_base v r e
effects_kept EndClass v r e = keeps_end_class v r e
effects_kept BeginImport v r e = keeps_begin_import v r e
effects_kept BeginFrom v r e = keeps_begin_from v r e
effects_kept AddImported v r e = keeps_add_imported v r e
effects_kept AddImportedAs v r e = keeps_add_imported_as v r e
