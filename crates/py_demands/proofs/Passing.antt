-- An action leaves what may be targets where it takes what may be and asks for that as it is asked itself.
use Rattle.std.proofs.Common.{◌≡◌, Bool, true, false, not, ◌&&◌, ◌||◌, List, [], ◌∷◌, ◌++◌, map, length, Some, None, ◌⊎◌, inl, inr, refl, sym, ap, ◌∙◌, subst, arith}
use Rattle.grammars.proofs.Bools.{and_left, and_right, both, either, on_left, on_right}
use Rattle.py_syntax.specs.Tree.{ComparisonOperator}
use Rattle.py_syntax.specs.Build.{Action, Drop, MakeTuple, AddItem, MakeTargets, AddTargets, MakeParenthesis, MakeListOfOne, AddCondition, AddLoop, AddPair, AddArgument, AddKeyword, AddUpper, MakeSign, MakeLongSign, AddLink, AddAnd, AddOr, AddLoopName, AddStmt, AddGlobal, MakeElse, CatchAll, Catch, CatchAs, AddParameter, AddDefault, EndDef, AddBase, EndClass, AddImported, AddImportedAs}
use Rattle.py_nesting.specs.Asked.{targets_last}
use Rattle.py_nesting.specs.Effects.{effect, effect_of, effect_drop, effect_add_and, effect_add_argument, effect_add_base, effect_add_condition, effect_add_default, effect_add_global, effect_add_imported, effect_add_imported_as, effect_add_keyword, effect_add_link, effect_add_loop, effect_add_loop_name, effect_add_or, effect_add_pair, effect_add_parameter, effect_add_stmt, effect_add_upper, effect_bracket, effect_catch, effect_catch_all, effect_catch_as, effect_end_class, effect_end_def, effect_make_else, effect_make_long_sign, effect_make_sign}
use Rattle.py_nesting.specs.Forms.{BracketForm, are_targets, AndForm, CallForm, ClassStmt, CompareForm, ComprehensionForm, DefStmt, DictForm, GlobalStmt, NameForm, NameToken, OrForm, SliceForm, SomeNames, TryStmt}
use Rattle.py_nesting.specs.Outlines.{Event}
use Rattle.py_nesting.specs.Shapes.{BodyShape, ClassShape, ExprShape, LoopShape, LoopTargetShape, SignShape, StmtShape, TokenShape, Entry, entry}
use Rattle.py_nesting.proofs.EffectsKept.{no_effect}
use Rattle.py_demands.specs.Least.{Ask, NoNode, As, ask_by, before_action}
use Rattle.py_demands.specs.Paired.{is_open}
use Rattle.py_demands.specs.Ready.{makes_targets, adds_to_open}
use Rattle.py_demands.specs.Roles.{Role, roles}
use Rattle.py_demands.specs.TurnedPaired.{begins_targets}
use Rattle.py_demands.proofs.FewOpen.{passes, turns_not, action_few, none_turn, none_pass, role_stops, role_closed}
use Rattle.py_demands.proofs.Made.{Leaves, made}
use Rattle.py_demands.proofs.ReadingsLow.{open_targets}
use Rattle.std.proofs.lemmas.Option.{same_Some}

-- where a part that is asked for as the whole is may be targets, so may the whole
abbrev passing : List Role → List Entry → Bool → Bool
passing [] es b = true
passing (role ∷ these) [] b = true
passing (role ∷ these) (e ∷ es) b = ((not (passes role) || not (targets_last (e ∷ []))) || b) && passing these es b

bracket_passes : (c b : Bool) → c ≡ b → (((not c || b) && true) ≡ true)
bracket_passes true b h = both b true (sym h) refl
bracket_passes false b h = refl

none_passing : (these : List Role) (es : List Entry) (b : Bool) → none_pass (map As these) ≡ true → passing these es b ≡ true
none_passing [] es b h = refl
none_passing (role ∷ these) [] b h = refl
none_passing (role ∷ these) (e ∷ es) b h =
    both ((not (passes role) || not (targets_last (e ∷ []))) || b) (passing these es b)
    (on_left (not (passes role) || not (targets_last (e ∷ []))) b (on_left (not (passes role)) (not (targets_last (e ∷ []))) (and_left (not (passes role)) (none_pass (map As these)) h)))
    (none_passing these es b (and_right (not (passes role)) (none_pass (map As these)) h))

passed_make_parenthesis : (es new : List Entry) (events : List Event) → effect_bracket es ≡ Some (effect new events) → passing (roles MakeParenthesis) es (targets_last new) ≡ true
passed_make_parenthesis (entry (TokenShape c) q ∷ entry (ExprShape f n) a ∷ entry (TokenShape t) p ∷ es) new events h = let is : entry (ExprShape (BracketForm (are_targets f)) false) p ∷ es ≡ new = cc in bracket_passes (are_targets f) (targets_last new) (ap targets_last is)
passed_make_parenthesis es new events h = no_effect h

passed_make_list_of_one : (es new : List Entry) (events : List Event) → effect_bracket es ≡ Some (effect new events) → passing (roles MakeListOfOne) es (targets_last new) ≡ true
passed_make_list_of_one (entry (TokenShape c) q ∷ entry (ExprShape f n) a ∷ entry (TokenShape t) p ∷ es) new events h = let is : entry (ExprShape (BracketForm (are_targets f)) false) p ∷ es ≡ new = cc in bracket_passes (are_targets f) (targets_last new) (ap targets_last is)
passed_make_list_of_one es new events h = no_effect h

passed_add_condition : (es new : List Entry) (events : List Event) → effect_add_condition es ≡ Some (effect new events) → passing (roles AddCondition) es (targets_last new) ≡ true
passed_add_condition (entry (ExprShape f n) a ∷ entry (TokenShape c) q ∷ entry LoopShape b ∷ es) new events h = refl
passed_add_condition es new events h = no_effect h

passed_add_loop : (es new : List Entry) (events : List Event) → effect_add_loop es ≡ Some (effect new events) → passing (roles AddLoop) es (targets_last new) ≡ true
passed_add_loop (entry LoopShape b ∷ entry (ExprShape ComprehensionForm n) a ∷ es) new events h = refl
passed_add_loop es new events h = no_effect h

passed_add_pair : (es new : List Entry) (events : List Event) → effect_add_pair es ≡ Some (effect new events) → passing (roles AddPair) es (targets_last new) ≡ true
passed_add_pair (entry (ExprShape f n) b ∷ entry (TokenShape c) q ∷ entry (ExprShape g m) d ∷ entry (ExprShape DictForm u) a ∷ es) new events h = refl
passed_add_pair es new events h = no_effect h

passed_add_argument : (es new : List Entry) (events : List Event) → effect_add_argument es ≡ Some (effect new events) → passing (roles AddArgument) es (targets_last new) ≡ true
passed_add_argument (entry (ExprShape f n) b ∷ entry (ExprShape CallForm false) a ∷ es) new events h = refl
passed_add_argument es new events h = no_effect h

passed_add_keyword : (es new : List Entry) (events : List Event) → effect_add_keyword es ≡ Some (effect new events) → passing (roles AddKeyword) es (targets_last new) ≡ true
passed_add_keyword (entry (ExprShape f n) b ∷ entry (TokenShape c) q ∷ entry (ExprShape NameForm m) d ∷ entry (ExprShape CallForm u) a ∷ es) new events h = refl
passed_add_keyword es new events h = no_effect h

passed_add_upper : (es new : List Entry) (events : List Event) → effect_add_upper es ≡ Some (effect new events) → passing (roles AddUpper) es (targets_last new) ≡ true
passed_add_upper (entry (TokenShape c) q ∷ entry (ExprShape f n) b ∷ entry (ExprShape (SliceForm false) m) a ∷ es) new events h = refl
passed_add_upper es new events h = no_effect h

passed_make_sign : (o : ComparisonOperator) (es new : List Entry) (events : List Event) → effect_make_sign es ≡ Some (effect new events) → passing (roles (MakeSign o)) es (targets_last new) ≡ true
passed_make_sign o (entry (TokenShape t) p ∷ es) new events h = refl
passed_make_sign o es new events h = no_effect h

passed_make_long_sign : (o : ComparisonOperator) (es new : List Entry) (events : List Event) → effect_make_long_sign es ≡ Some (effect new events) → passing (roles (MakeLongSign o)) es (targets_last new) ≡ true
passed_make_long_sign o (entry (TokenShape c) q ∷ entry (TokenShape t) p ∷ es) new events h = refl
passed_make_long_sign o es new events h = no_effect h

passed_add_link : (es new : List Entry) (events : List Event) → effect_add_link es ≡ Some (effect new events) → passing (roles AddLink) es (targets_last new) ≡ true
passed_add_link (entry (ExprShape f n) b ∷ entry SignShape q ∷ entry (ExprShape CompareForm m) a ∷ es) new events h = refl
passed_add_link es new events h = no_effect h

passed_add_and : (es new : List Entry) (events : List Event) → effect_add_and es ≡ Some (effect new events) → passing (roles AddAnd) es (targets_last new) ≡ true
passed_add_and (entry (ExprShape f n) b ∷ entry (TokenShape c) q ∷ entry (ExprShape AndForm m) a ∷ es) new events h = refl
passed_add_and es new events h = no_effect h

passed_add_or : (es new : List Entry) (events : List Event) → effect_add_or es ≡ Some (effect new events) → passing (roles AddOr) es (targets_last new) ≡ true
passed_add_or (entry (ExprShape f n) b ∷ entry (TokenShape c) q ∷ entry (ExprShape OrForm m) a ∷ es) new events h = refl
passed_add_or es new events h = no_effect h

passed_add_loop_name : (es new : List Entry) (events : List Event) → effect_add_loop_name es ≡ Some (effect new events) → passing (roles AddLoopName) es (targets_last new) ≡ true
passed_add_loop_name (entry (TokenShape NameToken) q ∷ entry (LoopTargetShape SomeNames true) b ∷ es) new events h = refl
passed_add_loop_name es new events h = no_effect h

passed_add_stmt : (es new : List Entry) (events : List Event) → effect_add_stmt es ≡ Some (effect new events) → passing (roles AddStmt) es (targets_last new) ≡ true
passed_add_stmt (entry (StmtShape f m) b ∷ entry (BodyShape u) c ∷ es) new events h = refl
passed_add_stmt es new events h = no_effect h

passed_add_global : (es new : List Entry) (events : List Event) → effect_add_global es ≡ Some (effect new events) → passing (roles AddGlobal) es (targets_last new) ≡ true
passed_add_global (entry (TokenShape NameToken) q ∷ entry (StmtShape GlobalStmt m) b ∷ es) new events h = refl
passed_add_global es new events h = no_effect h

passed_make_else : (es new : List Entry) (events : List Event) → effect_make_else es ≡ Some (effect new events) → passing (roles MakeElse) es (targets_last new) ≡ true
passed_make_else (entry (BodyShape u) a ∷ entry (TokenShape c) q ∷ entry (TokenShape t) p ∷ es) new events h = refl
passed_make_else es new events h = no_effect h

passed_catch_all : (es new : List Entry) (events : List Event) → effect_catch_all es ≡ Some (effect new events) → passing (roles CatchAll) es (targets_last new) ≡ true
passed_catch_all (entry (BodyShape u) a ∷ entry (TokenShape c) q ∷ entry (TokenShape t) p ∷ entry (StmtShape TryStmt m) b ∷ es) new events h = refl
passed_catch_all es new events h = no_effect h

passed_catch : (es new : List Entry) (events : List Event) → effect_catch es ≡ Some (effect new events) → passing (roles Catch) es (targets_last new) ≡ true
passed_catch (entry (BodyShape u) a ∷ entry (TokenShape c) q ∷ entry (ClassShape l) d ∷ entry (TokenShape t) p ∷ entry (StmtShape TryStmt m) b ∷ es) new events h = refl
passed_catch es new events h = no_effect h

passed_catch_as : (es new : List Entry) (events : List Event) → effect_catch_as es ≡ Some (effect new events) → passing (roles CatchAs) es (targets_last new) ≡ true
passed_catch_as (entry (BodyShape u) a ∷ entry (TokenShape c) q ∷ entry (TokenShape NameToken) e ∷ entry (TokenShape i) r ∷ entry (ClassShape l) d ∷ entry (TokenShape t) p ∷ entry (StmtShape TryStmt m) b ∷ es) new events h = refl
passed_catch_as es new events h = no_effect h

passed_add_parameter : (es new : List Entry) (events : List Event) → effect_add_parameter es ≡ Some (effect new events) → passing (roles AddParameter) es (targets_last new) ≡ true
passed_add_parameter (entry (TokenShape NameToken) q ∷ entry (StmtShape DefStmt m) b ∷ es) new events h = refl
passed_add_parameter es new events h = no_effect h

passed_add_default : (es new : List Entry) (events : List Event) → effect_add_default es ≡ Some (effect new events) → passing (roles AddDefault) es (targets_last new) ≡ true
passed_add_default (entry (ExprShape f n) a ∷ entry (TokenShape c) q ∷ entry (TokenShape NameToken) r ∷ entry (StmtShape DefStmt false) b ∷ es) new events h = refl
passed_add_default es new events h = no_effect h

passed_end_def : (es new : List Entry) (events : List Event) → effect_end_def es ≡ Some (effect new events) → passing (roles EndDef) es (targets_last new) ≡ true
passed_end_def (entry (BodyShape true) a ∷ entry (TokenShape c) q ∷ entry (TokenShape t) p ∷ entry (StmtShape DefStmt false) b ∷ es) new events h = refl
passed_end_def es new events h = no_effect h

passed_add_base : (es new : List Entry) (events : List Event) → effect_add_base es ≡ Some (effect new events) → passing (roles AddBase) es (targets_last new) ≡ true
passed_add_base (entry (TokenShape c) q ∷ entry (ClassShape l) d ∷ entry (TokenShape t) p ∷ entry (StmtShape ClassStmt m) b ∷ es) new events h = refl
passed_add_base es new events h = no_effect h

passed_end_class : (es new : List Entry) (events : List Event) → effect_end_class es ≡ Some (effect new events) → passing (roles EndClass) es (targets_last new) ≡ true
passed_end_class (entry (BodyShape true) a ∷ entry (TokenShape t) p ∷ entry (StmtShape ClassStmt false) b ∷ es) new events h = refl
passed_end_class es new events h = no_effect h

passed_add_imported : (es new : List Entry) (events : List Event) → effect_add_imported es ≡ Some (effect new events) → passing (roles AddImported) es (targets_last new) ≡ true
passed_add_imported (entry (TokenShape NameToken) q ∷ entry (StmtShape f m) b ∷ es) new events h = refl
passed_add_imported es new events h = no_effect h

passed_add_imported_as : (es new : List Entry) (events : List Event) → effect_add_imported_as es ≡ Some (effect new events) → passing (roles AddImportedAs) es (targets_last new) ≡ true
passed_add_imported_as (entry (TokenShape NameToken) q ∷ entry (TokenShape c) r ∷ entry (TokenShape NameToken) d ∷ entry (StmtShape f m) b ∷ es) new events h = refl
passed_add_imported_as es new events h = no_effect h

abbrev pub adds_items : Action → Bool
adds_items AddItem = true
adds_items a = false

passed : (a : Action) (es new : List Entry) (events : List Event) → (begins_targets a || adds_items a) ≡ false → effect_of a es ≡ Some (effect new events) → passing (roles a) es (targets_last new) ≡ true
passed MakeTargets es new events k h = absurd (cc)
passed AddTargets es new events k h = absurd (cc)
passed AddItem es new events k h = absurd (cc)
passed MakeParenthesis es new events k h = passed_make_parenthesis es new events h
passed MakeListOfOne es new events k h = passed_make_list_of_one es new events h
passed AddCondition es new events k h = passed_add_condition es new events h
passed AddLoop es new events k h = passed_add_loop es new events h
passed AddPair es new events k h = passed_add_pair es new events h
passed AddArgument es new events k h = passed_add_argument es new events h
passed AddKeyword es new events k h = passed_add_keyword es new events h
passed AddUpper es new events k h = passed_add_upper es new events h
passed (MakeSign o) es new events k h = passed_make_sign o es new events h
passed (MakeLongSign o) es new events k h = passed_make_long_sign o es new events h
passed AddLink es new events k h = passed_add_link es new events h
passed AddAnd es new events k h = passed_add_and es new events h
passed AddOr es new events k h = passed_add_or es new events h
passed AddLoopName es new events k h = passed_add_loop_name es new events h
passed AddStmt es new events k h = passed_add_stmt es new events h
passed AddGlobal es new events k h = passed_add_global es new events h
passed MakeElse es new events k h = passed_make_else es new events h
passed CatchAll es new events k h = passed_catch_all es new events h
passed Catch es new events k h = passed_catch es new events h
passed CatchAs es new events k h = passed_catch_as es new events h
passed AddParameter es new events k h = passed_add_parameter es new events h
passed AddDefault es new events k h = passed_add_default es new events h
passed EndDef es new events k h = passed_end_def es new events h
passed AddBase es new events k h = passed_add_base es new events h
passed EndClass es new events k h = passed_end_class es new events h
passed AddImported es new events k h = passed_add_imported es new events h
passed AddImportedAs es new events k h = passed_add_imported_as es new events h
passed a es new events k h = none_passing (roles a) es (targets_last new) refl

pub last_only : (e : Entry) (es : List Entry) → targets_last (e ∷ es) ≡ targets_last (e ∷ [])
last_only (entry (ExprShape f n) p) es = refl
last_only (entry s p) es = refl

-- before an action some part that may be targets is open, and so behind it
roles_passed : (these : List Role) (q : Ask) (rs : List Ask) (taken rest : List Entry) (b : Bool) → length taken ≡ length these → none_turn (map As these) ≡ true → (is_open q ≡ true → passing these (taken ++ rest) b ≡ true)
    → open_targets (map (ask_by q) these ++ rs) (taken ++ rest) ≡ true → ((is_open q && b) || open_targets rs rest) ≡ true
roles_passed [] q rs [] rest b m t k h = on_right (is_open q && b) (open_targets rs rest) h
roles_passed [] q rs (e ∷ taken) rest b m t k h = absurd (omega arith)
roles_passed (role ∷ these) q rs [] rest b m t k h = absurd (omega arith)
roles_passed (role ∷ these) q rs (e ∷ taken) rest b m t k h =
    go (either (is_open (ask_by q role) && targets_last (e ∷ [])) (open_targets (map (ask_by q) these ++ rs) (taken ++ rest)) h)
    (λ i. roles_passed these q rs taken rest b (omega arith) (and_right (turns_not role) (none_turn (map As these)) t) (λ o. and_right ((not (passes role) || not (targets_last (e ∷ []))) || b) (passing these (taken ++ rest) b) (k o)) i)
  where
    here : (o p : Bool) → is_open q ≡ o → passes role ≡ p → is_open (ask_by q role) ≡ true → targets_last (e ∷ []) ≡ true → (is_open q && b) ≡ true
    here false p i j u l = let no : true ≡ false = sym u ∙ role_closed role q (and_left (turns_not role) (none_turn (map As these)) t) i in absurd (cc)
    here true false i j u l = let no : true ≡ false = sym u ∙ role_stops role q (and_left (turns_not role) (none_turn (map As these)) t) j in absurd (cc)
    here true true i j u l =
        let one : ((not (passes role) || not (targets_last (e ∷ []))) || b) ≡ true = and_left ((not (passes role) || not (targets_last (e ∷ []))) || b) (passing these (taken ++ rest) b) (k i) in
        let two : ((not true || not true) || b) ≡ true = sym (ap (λ (c : Bool). (not c || not (targets_last (e ∷ []))) || b) j ∙ ap (λ (c : Bool). (not true || not c) || b) l) ∙ one in
        both (is_open q) b i two

    go : ((is_open (ask_by q role) && targets_last (e ∷ [])) ≡ true) ⊎ (open_targets (map (ask_by q) these ++ rs) (taken ++ rest) ≡ true) → (open_targets (map (ask_by q) these ++ rs) (taken ++ rest) ≡ true → ((is_open q && b) || open_targets rs rest) ≡ true)
        → ((is_open q && b) || open_targets rs rest) ≡ true
    go (inl i) again =
        on_left (is_open q && b) (open_targets rs rest)
        (here (is_open q) (passes role) refl refl (and_left (is_open (ask_by q role)) (targets_last (e ∷ [])) i) (and_right (is_open (ask_by q role)) (targets_last (e ∷ [])) i))
    go (inr i) again = again i

drop_passed : (es new : List Entry) (events : List Event) (qs : List Ask) → effect_drop es ≡ Some (effect new events) → open_targets (NoNode ∷ qs) es ≡ true → open_targets qs new ≡ true
drop_passed (entry (TokenShape t) p ∷ es) new events qs e h = let is : es ≡ new = cc in subst (λ (l : List Entry). open_targets qs l ≡ true) is h
drop_passed es new events qs e h = no_effect e

abbrev pub LeavesOne : Action → Type 0
LeavesOne a = (a ≡ Drop) ⊎ (((q : Ask) (qs : List Ask) → before_action a (q ∷ qs) ≡ Some (map (ask_by q) (roles a) ++ qs)) × (before_action a [] ≡ None))

pub leaves_one : (a : Action) → LeavesOne a
leaves_one Drop = inl refl
leaves_one _ = inr ((λ q qs. refl), refl)

pub action_passed : (a : Action) (es new : List Entry) (events : List Event) (qs asks : List Ask) → begins_targets a ≡ false → not (adds_to_open a (Some qs)) ≡ true → effect_of a es ≡ Some (effect new events)
    → before_action a qs ≡ Some asks → open_targets asks es ≡ true → open_targets qs new ≡ true
action_passed a es new events qs asks b n f e h = go (leaves_one a) qs n e
  where
    fair : none_turn (map As (roles a)) ≡ true
    fair = (action_few a (makes_none a b)).0
      where
        makes_none : (a : Action) → begins_targets a ≡ false → makes_targets a ≡ false
        makes_none MakeTargets h = absurd (cc)
        makes_none AddTargets h = absurd (cc)
        makes_none a h = refl

    adds : (a : Action) (q : Ask) (rs : List Ask) → begins_targets a ≡ false → not (adds_to_open a (Some (q ∷ rs))) ≡ true → is_open q ≡ true → (begins_targets a || adds_items a) ≡ false
    adds AddItem q rs b n o = let no : false ≡ true = sym (ap not o) ∙ n in absurd (cc)
    adds MakeTuple q rs b n o = absurd (cc)
    adds MakeTargets q rs b n o = absurd (cc)
    adds AddTargets q rs b n o = absurd (cc)
    adds a q rs b n o = refl

    go : LeavesOne a → (qs : List Ask) → not (adds_to_open a (Some qs)) ≡ true → before_action a qs ≡ Some asks → open_targets qs new ≡ true
    go (inl is) qs n e =
        drop_passed es new events qs (sym (ap (λ (b : Action). effect_of b es) is) ∙ f)
        (subst (λ (l : List Ask). open_targets l es ≡ true) (sym (same_Some (NoNode ∷ qs) asks (sym (ap (λ (b : Action). before_action b qs) is) ∙ e))) h)
    go (inr (one, two)) [] n e = let none : None ≡ Some asks = sym two ∙ e in absurd (cc)
    go (inr (one, two)) (q ∷ rs) n e =
        let m : Leaves a es new = made a es (effect new events) two f in
        let same : map (ask_by q) (roles a) ++ rs ≡ asks = same_Some (map (ask_by q) (roles a) ++ rs) asks (sym (one q rs) ∙ e) in
        let l : targets_last new ≡ targets_last (m.0 ∷ []) = ap targets_last m.4 ∙ last_only m.0 m.2 in
        let there : open_targets (map (ask_by q) (roles a) ++ rs) (m.1 ++ m.2) ≡ true = ap (open_targets (map (ask_by q) (roles a) ++ rs)) (sym m.3) ∙ ap (λ (l : List Ask). open_targets l es) same ∙ h in
        let r = roles_passed (roles a) q rs m.1 m.2 (targets_last new) m.5 fair (λ o. ap (λ (l : List Entry). passing (roles a) l (targets_last new)) (sym m.3) ∙ passed a es new events (adds a q rs b n o) f) there in
        ap (open_targets (q ∷ rs)) m.4 ∙ ap (λ (c : Bool). (is_open q && c) || open_targets rs m.2) (sym l) ∙ r
