-- The code's targets, statements and modules as the plain trees that definitions speak of. `tools/views.py` writes this
-- file.
use Rattle.std.specs.Prelude.{◌≡◌, List, [], ◌∷◌, map, Option}
use Rattle.std.specs.Option.{option_map}
use Rattle.std.proofs.Common.{refl, ap, ap₂, sym, ◌∙◌}
use Rattle.py_syntax.specs.Tree as meaning
use Rattle.py_lexer.specs.PlainTokens.{plain_place}
use Rattle.py_ast.specs.PlainExprs.{plain_name, plain_names, plain_loop_target, plain_expr, plain_maybe}
use Rattle.py_ast.specs.PlainOperators.{plain_binary}
use Rattle.shed_base.specs.declared.place.Place.{Place}
use Rattle.py_ast.specs.declared.tree.NameAt.{NameAt}
use Rattle.py_ast.specs.declared.operator.BinaryOperator.{BinaryOperator}
use Rattle.py_ast.specs.declared.tree.LoopTarget.{LoopTarget}
use Rattle.py_ast.specs.declared.tree.Expr.{Expr}
use Rattle.py_ast.specs.declared.tree.Target.{Target}
use Rattle.py_ast.specs.declared.tree.Target.TheVariants as target
use Rattle.py_ast.specs.declared.tree.Targets.{Targets}
use Rattle.py_ast.specs.declared.tree.Targets.TheVariants as targets
use Rattle.py_ast.specs.declared.tree.Targets.TheOpen as targets_open
use Rattle.py_ast.specs.declared.tree.Targets.TheFolds.{fold-Targets, fold-roll-Targets}
use Rattle.py_ast.specs.declared.tree.Imported.{Imported}
use Rattle.py_ast.specs.declared.tree.ClassName.{ClassName}
use Rattle.py_ast.specs.declared.tree.ClassName.TheVariants as class_name
use Rattle.py_ast.specs.declared.tree.Caught.{Caught}
use Rattle.py_ast.specs.declared.tree.Caught.TheVariants as caught
use Rattle.py_ast.specs.declared.tree.Parameter.{Parameter}
use Rattle.py_ast.specs.declared.tree.Stmt.{Stmt}
use Rattle.py_ast.specs.declared.tree.Stmt.TheVariants as stmt
use Rattle.py_ast.specs.declared.tree.Stmt.TheOpen as stmt_open
use Rattle.py_ast.specs.declared.tree.Stmt.TheFolds.{fold-Stmt, fold-roll-Stmt}
use Rattle.py_ast.specs.declared.tree.Module.{Module}

abbrev pub plain_target : Target → meaning.Target
plain_target (target.Name x) = meaning.TargetName (plain_name x)
plain_target (target.Attribute p e x) = meaning.TargetAttribute (plain_place p) (plain_expr e) (plain_name x)
plain_target (target.Subscript p e i) = meaning.TargetSubscript (plain_place p) (plain_expr e) (plain_expr i)

abbrev pub plain_target_list : List Target → List meaning.Target
plain_target_list = map plain_target

abbrev pub targets_step : targets_open.Targets-F meaning.Targets → meaning.Targets
targets_step (targets_open.One t) = meaning.OneTarget (plain_target t)
targets_step (targets_open.Several p ts) = meaning.SomeTargets (plain_place p) (plain_target_list ts)
targets_step (targets_open.Parenthesis p ts) = meaning.ParenthesisTargets (plain_place p) ts
targets_step (targets_open.Bracket p ts) = meaning.BracketTargets (plain_place p) ts

unfoldable pub plain_targets : Targets → meaning.Targets
plain_targets = fold-Targets meaning.Targets targets_step

pub plain_targets-One : (t : Target) → plain_targets (targets.One t) ≡ meaning.OneTarget (plain_target t)
unfolding plain_targets
plain_targets-One t = ap (fold-Targets meaning.Targets targets_step) (sym (targets.rolls-One t)) ∙ fold-roll-Targets meaning.Targets targets_step _

pub plain_targets-Several : (p : Place) (ts : List Target) → plain_targets (targets.Several p ts) ≡ meaning.SomeTargets (plain_place p) (plain_target_list ts)
unfolding plain_targets
plain_targets-Several p ts = ap (fold-Targets meaning.Targets targets_step) (sym (targets.rolls-Several p ts)) ∙ fold-roll-Targets meaning.Targets targets_step _

pub plain_targets-Parenthesis : (p : Place) (ts : Targets) → plain_targets (targets.Parenthesis p ts) ≡ meaning.ParenthesisTargets (plain_place p) (plain_targets ts)
unfolding plain_targets
plain_targets-Parenthesis p ts = ap (fold-Targets meaning.Targets targets_step) (sym (targets.rolls-Parenthesis p ts)) ∙ fold-roll-Targets meaning.Targets targets_step _

pub plain_targets-Bracket : (p : Place) (ts : Targets) → plain_targets (targets.Bracket p ts) ≡ meaning.BracketTargets (plain_place p) (plain_targets ts)
unfolding plain_targets
plain_targets-Bracket p ts = ap (fold-Targets meaning.Targets targets_step) (sym (targets.rolls-Bracket p ts)) ∙ fold-roll-Targets meaning.Targets targets_step _

pub ruleset plain_targets_by_variant = (plain_targets-One, plain_targets-Several, plain_targets-Parenthesis, plain_targets-Bracket)

abbrev pub plain_target_lists : List Targets → List meaning.Targets
plain_target_lists = map plain_targets

abbrev pub plain_class : ClassName → meaning.ClassName
plain_class (class_name.Bare x) = meaning.BareClass (plain_name x)
plain_class (class_name.Within m x) = meaning.ClassWithin (plain_name m) (plain_name x)

abbrev pub plain_caught : Caught → meaning.Caught
plain_caught caught.Everything = meaning.Everything
plain_caught (caught.Exceptions c x) = meaning.Exceptions (plain_class c) (option_map plain_name x)

abbrev pub plain_imported : Imported → meaning.Imported
plain_imported x = record { name = plain_name x.name; alias = option_map plain_name x.alias }

abbrev pub plain_imports : List Imported → List meaning.Imported
plain_imports = map plain_imported

abbrev pub plain_parameter : Parameter → meaning.Parameter
plain_parameter x = record { name = plain_name x.name; default = plain_maybe x.default }

abbrev pub plain_parameters : List Parameter → List meaning.Parameter
plain_parameters = map plain_parameter

-- children that are plain already, as the plain trees have them
abbrev pub body_of : List meaning.Stmt → meaning.Body
body_of [] = meaning.no_stmts
body_of (s ∷ body) = meaning.more_stmts s (body_of body)

abbrev pub handlers_of : List (Place × Caught × List meaning.Stmt) → meaning.Handlers
handlers_of [] = meaning.no_handlers
handlers_of (h ∷ hs) = meaning.more_handlers (plain_place h.0) (plain_caught h.1) (body_of h.2) (handlers_of hs)

-- one level, whose bodies are plain already
abbrev pub stmt_step : stmt_open.Stmt-F meaning.Stmt → meaning.Stmt
stmt_step (stmt_open.Expr a b) = meaning.SExpr (plain_place a) (plain_expr b)
stmt_step (stmt_open.Assign a b c) = meaning.SAssign (plain_place a) (plain_target_lists b) (plain_expr c)
stmt_step (stmt_open.Augmented a b c d) = meaning.SAugmented (plain_place a) (plain_binary b) (plain_target c) (plain_expr d)
stmt_step (stmt_open.Pass a) = meaning.SPass (plain_place a)
stmt_step (stmt_open.Break a) = meaning.SBreak (plain_place a)
stmt_step (stmt_open.Continue a) = meaning.SContinue (plain_place a)
stmt_step (stmt_open.Return a b) = meaning.SReturn (plain_place a) (plain_maybe b)
stmt_step (stmt_open.Raise a b) = meaning.SRaise (plain_place a) (plain_expr b)
stmt_step (stmt_open.Yield a b) = meaning.SYield (plain_place a) (plain_expr b)
stmt_step (stmt_open.Global a b) = meaning.SGlobal (plain_place a) (plain_names b)
stmt_step (stmt_open.Assert a b c) = meaning.SAssert (plain_place a) (plain_expr b) (plain_maybe c)
stmt_step (stmt_open.Delete a b c d) = meaning.SDelete (plain_place a) (plain_place b) (plain_expr c) (plain_expr d)
stmt_step (stmt_open.If a b c d) = meaning.SIf (plain_place a) (plain_expr b) (body_of c) (body_of d)
stmt_step (stmt_open.While a b c) = meaning.SWhile (plain_place a) (plain_expr b) (body_of c)
stmt_step (stmt_open.For a b c d) = meaning.SFor (plain_place a) (plain_loop_target b) (plain_expr c) (body_of d)
stmt_step (stmt_open.Try a b c) = meaning.STry (plain_place a) (body_of b) (handlers_of c)
stmt_step (stmt_open.Def a b c d) = meaning.SDef (plain_place a) (plain_name b) (plain_parameters c) (body_of d)
stmt_step (stmt_open.Class a b c d) = meaning.SClass (plain_place a) (plain_name b) (option_map plain_class c) (body_of d)
stmt_step (stmt_open.Import a b) = meaning.SImport (plain_place a) (plain_imports b)
stmt_step (stmt_open.FromImport a b c) = meaning.SFromImport (plain_place a) (plain_name b) (plain_imports c)

unfoldable pub plain_stmt : Stmt → meaning.Stmt
plain_stmt = fold-Stmt meaning.Stmt stmt_step

abbrev pub plain_body : List Stmt → meaning.Body
plain_body [] = meaning.no_stmts
plain_body (s ∷ body) = meaning.more_stmts (plain_stmt s) (plain_body body)

abbrev pub plain_handlers : List (Place × Caught × List Stmt) → meaning.Handlers
plain_handlers [] = meaning.no_handlers
plain_handlers (h ∷ hs) = meaning.more_handlers (plain_place h.0) (plain_caught h.1) (plain_body h.2) (plain_handlers hs)

plain_body-map : (body : List Stmt) → body_of (map (fold-Stmt meaning.Stmt stmt_step) body) ≡ plain_body body
unfolding plain_stmt
plain_body-map [] = refl
plain_body-map (s ∷ body) = ap (meaning.more_stmts (plain_stmt s)) (plain_body-map body)

plain_handlers-map : (hs : List (Place × Caught × List Stmt)) → handlers_of (map (λ h. (h.0, h.1, map (fold-Stmt meaning.Stmt stmt_step) h.2)) hs) ≡ plain_handlers hs
unfolding plain_stmt
plain_handlers-map [] = refl
plain_handlers-map (h ∷ hs) = ap₂ (meaning.more_handlers (plain_place h.0) (plain_caught h.1)) (plain_body-map h.2) (plain_handlers-map hs)

pub plain_stmt-Expr : (a : Place) (b : Expr) → plain_stmt (stmt.Expr a b) ≡ meaning.SExpr (plain_place a) (plain_expr b)
unfolding plain_stmt
plain_stmt-Expr a b = ap (fold-Stmt meaning.Stmt stmt_step) (sym (stmt.rolls-Expr a b)) ∙ fold-roll-Stmt meaning.Stmt stmt_step _

pub plain_stmt-Assign : (a : Place) (b : List Targets) (c : Expr) → plain_stmt (stmt.Assign a b c) ≡ meaning.SAssign (plain_place a) (plain_target_lists b) (plain_expr c)
unfolding plain_stmt
plain_stmt-Assign a b c = ap (fold-Stmt meaning.Stmt stmt_step) (sym (stmt.rolls-Assign a b c)) ∙ fold-roll-Stmt meaning.Stmt stmt_step _

pub plain_stmt-Augmented : (a : Place) (b : BinaryOperator) (c : Target) (d : Expr) → plain_stmt (stmt.Augmented a b c d) ≡ meaning.SAugmented (plain_place a) (plain_binary b) (plain_target c) (plain_expr d)
unfolding plain_stmt
plain_stmt-Augmented a b c d = ap (fold-Stmt meaning.Stmt stmt_step) (sym (stmt.rolls-Augmented a b c d)) ∙ fold-roll-Stmt meaning.Stmt stmt_step _

pub plain_stmt-Pass : (a : Place) → plain_stmt (stmt.Pass a) ≡ meaning.SPass (plain_place a)
unfolding plain_stmt
plain_stmt-Pass a = ap (fold-Stmt meaning.Stmt stmt_step) (sym (stmt.rolls-Pass a)) ∙ fold-roll-Stmt meaning.Stmt stmt_step _

pub plain_stmt-Break : (a : Place) → plain_stmt (stmt.Break a) ≡ meaning.SBreak (plain_place a)
unfolding plain_stmt
plain_stmt-Break a = ap (fold-Stmt meaning.Stmt stmt_step) (sym (stmt.rolls-Break a)) ∙ fold-roll-Stmt meaning.Stmt stmt_step _

pub plain_stmt-Continue : (a : Place) → plain_stmt (stmt.Continue a) ≡ meaning.SContinue (plain_place a)
unfolding plain_stmt
plain_stmt-Continue a = ap (fold-Stmt meaning.Stmt stmt_step) (sym (stmt.rolls-Continue a)) ∙ fold-roll-Stmt meaning.Stmt stmt_step _

pub plain_stmt-Return : (a : Place) (b : Option Expr) → plain_stmt (stmt.Return a b) ≡ meaning.SReturn (plain_place a) (plain_maybe b)
unfolding plain_stmt
plain_stmt-Return a b = ap (fold-Stmt meaning.Stmt stmt_step) (sym (stmt.rolls-Return a b)) ∙ fold-roll-Stmt meaning.Stmt stmt_step _

pub plain_stmt-Raise : (a : Place) (b : Expr) → plain_stmt (stmt.Raise a b) ≡ meaning.SRaise (plain_place a) (plain_expr b)
unfolding plain_stmt
plain_stmt-Raise a b = ap (fold-Stmt meaning.Stmt stmt_step) (sym (stmt.rolls-Raise a b)) ∙ fold-roll-Stmt meaning.Stmt stmt_step _

pub plain_stmt-Yield : (a : Place) (b : Expr) → plain_stmt (stmt.Yield a b) ≡ meaning.SYield (plain_place a) (plain_expr b)
unfolding plain_stmt
plain_stmt-Yield a b = ap (fold-Stmt meaning.Stmt stmt_step) (sym (stmt.rolls-Yield a b)) ∙ fold-roll-Stmt meaning.Stmt stmt_step _

pub plain_stmt-Global : (a : Place) (b : List NameAt) → plain_stmt (stmt.Global a b) ≡ meaning.SGlobal (plain_place a) (plain_names b)
unfolding plain_stmt
plain_stmt-Global a b = ap (fold-Stmt meaning.Stmt stmt_step) (sym (stmt.rolls-Global a b)) ∙ fold-roll-Stmt meaning.Stmt stmt_step _

pub plain_stmt-Assert : (a : Place) (b : Expr) (c : Option Expr) → plain_stmt (stmt.Assert a b c) ≡ meaning.SAssert (plain_place a) (plain_expr b) (plain_maybe c)
unfolding plain_stmt
plain_stmt-Assert a b c = ap (fold-Stmt meaning.Stmt stmt_step) (sym (stmt.rolls-Assert a b c)) ∙ fold-roll-Stmt meaning.Stmt stmt_step _

pub plain_stmt-Delete : (a : Place) (b : Place) (c : Expr) (d : Expr) → plain_stmt (stmt.Delete a b c d) ≡ meaning.SDelete (plain_place a) (plain_place b) (plain_expr c) (plain_expr d)
unfolding plain_stmt
plain_stmt-Delete a b c d = ap (fold-Stmt meaning.Stmt stmt_step) (sym (stmt.rolls-Delete a b c d)) ∙ fold-roll-Stmt meaning.Stmt stmt_step _

pub plain_stmt-If : (a : Place) (b : Expr) (c : List Stmt) (d : List Stmt) → plain_stmt (stmt.If a b c d) ≡ meaning.SIf (plain_place a) (plain_expr b) (plain_body c) (plain_body d)
unfolding plain_stmt
plain_stmt-If a b c d = ap (fold-Stmt meaning.Stmt stmt_step) (sym (stmt.rolls-If a b c d)) ∙ fold-roll-Stmt meaning.Stmt stmt_step _
    ∙ ap (λ hole. meaning.SIf (plain_place a) (plain_expr b) hole (body_of (map (fold-Stmt meaning.Stmt stmt_step) d))) (plain_body-map c)
    ∙ ap (λ hole. meaning.SIf (plain_place a) (plain_expr b) (plain_body c) hole) (plain_body-map d)

pub plain_stmt-While : (a : Place) (b : Expr) (c : List Stmt) → plain_stmt (stmt.While a b c) ≡ meaning.SWhile (plain_place a) (plain_expr b) (plain_body c)
unfolding plain_stmt
plain_stmt-While a b c = ap (fold-Stmt meaning.Stmt stmt_step) (sym (stmt.rolls-While a b c)) ∙ fold-roll-Stmt meaning.Stmt stmt_step _
    ∙ ap (λ hole. meaning.SWhile (plain_place a) (plain_expr b) hole) (plain_body-map c)

pub plain_stmt-For : (a : Place) (b : LoopTarget) (c : Expr) (d : List Stmt) → plain_stmt (stmt.For a b c d) ≡ meaning.SFor (plain_place a) (plain_loop_target b) (plain_expr c) (plain_body d)
unfolding plain_stmt
plain_stmt-For a b c d = ap (fold-Stmt meaning.Stmt stmt_step) (sym (stmt.rolls-For a b c d)) ∙ fold-roll-Stmt meaning.Stmt stmt_step _
    ∙ ap (λ hole. meaning.SFor (plain_place a) (plain_loop_target b) (plain_expr c) hole) (plain_body-map d)

pub plain_stmt-Try : (a : Place) (b : List Stmt) (c : List (Place × Caught × List Stmt)) → plain_stmt (stmt.Try a b c) ≡ meaning.STry (plain_place a) (plain_body b) (plain_handlers c)
unfolding plain_stmt
plain_stmt-Try a b c = ap (fold-Stmt meaning.Stmt stmt_step) (sym (stmt.rolls-Try a b c)) ∙ fold-roll-Stmt meaning.Stmt stmt_step _
    ∙ ap (λ hole. meaning.STry (plain_place a) hole (handlers_of (map (λ h. (h.0, h.1, map (fold-Stmt meaning.Stmt stmt_step) h.2)) c))) (plain_body-map b)
    ∙ ap (λ hole. meaning.STry (plain_place a) (plain_body b) hole) (plain_handlers-map c)

pub plain_stmt-Def : (a : Place) (b : NameAt) (c : List Parameter) (d : List Stmt) → plain_stmt (stmt.Def a b c d) ≡ meaning.SDef (plain_place a) (plain_name b) (plain_parameters c) (plain_body d)
unfolding plain_stmt
plain_stmt-Def a b c d = ap (fold-Stmt meaning.Stmt stmt_step) (sym (stmt.rolls-Def a b c d)) ∙ fold-roll-Stmt meaning.Stmt stmt_step _
    ∙ ap (λ hole. meaning.SDef (plain_place a) (plain_name b) (plain_parameters c) hole) (plain_body-map d)

pub plain_stmt-Class : (a : Place) (b : NameAt) (c : Option ClassName) (d : List Stmt) → plain_stmt (stmt.Class a b c d) ≡ meaning.SClass (plain_place a) (plain_name b) (option_map plain_class c) (plain_body d)
unfolding plain_stmt
plain_stmt-Class a b c d = ap (fold-Stmt meaning.Stmt stmt_step) (sym (stmt.rolls-Class a b c d)) ∙ fold-roll-Stmt meaning.Stmt stmt_step _
    ∙ ap (λ hole. meaning.SClass (plain_place a) (plain_name b) (option_map plain_class c) hole) (plain_body-map d)

pub plain_stmt-Import : (a : Place) (b : List Imported) → plain_stmt (stmt.Import a b) ≡ meaning.SImport (plain_place a) (plain_imports b)
unfolding plain_stmt
plain_stmt-Import a b = ap (fold-Stmt meaning.Stmt stmt_step) (sym (stmt.rolls-Import a b)) ∙ fold-roll-Stmt meaning.Stmt stmt_step _

pub plain_stmt-FromImport : (a : Place) (b : NameAt) (c : List Imported) → plain_stmt (stmt.FromImport a b c) ≡ meaning.SFromImport (plain_place a) (plain_name b) (plain_imports c)
unfolding plain_stmt
plain_stmt-FromImport a b c = ap (fold-Stmt meaning.Stmt stmt_step) (sym (stmt.rolls-FromImport a b c)) ∙ fold-roll-Stmt meaning.Stmt stmt_step _

-- what functions that build or match them name by `using`
pub ruleset plain_stmts_by_variant = (plain_stmt-Expr, plain_stmt-Assign, plain_stmt-Augmented, plain_stmt-Pass, plain_stmt-Break, plain_stmt-Continue, plain_stmt-Return, plain_stmt-Raise, plain_stmt-Yield, plain_stmt-Global, plain_stmt-Assert, plain_stmt-Delete, plain_stmt-If, plain_stmt-While, plain_stmt-For, plain_stmt-Try, plain_stmt-Def, plain_stmt-Class, plain_stmt-Import, plain_stmt-FromImport)

abbrev pub plain : Module → meaning.Body
plain m = plain_body m.body
