-- The code's trees as the plain trees that definitions speak of.
use Rattle.std.specs.Prelude.{◌≡◌, ℕ, List, [], ◌∷◌, map, string_bytes}
use Rattle.std.proofs.Common.{refl, ap, ap₂, sym, ◌∙◌}
use Rattle.std.specs.declared.string.String.{String}
use Rattle.std.specs.declared.alloc.Global.{Global}
use Rattle.py_meaning.specs.Tree as meaning
use Rattle.py_lexer.specs.PlainTokens.{plain_place}
use Rattle.shed_base.specs.declared.place.Place.{Place}
use Rattle.py_built.specs.declared.tree.UnaryOperator.{UnaryOperator}
use Rattle.py_built.specs.declared.tree.UnaryOperator.TheVariants as unary
use Rattle.py_built.specs.declared.tree.BinaryOperator.{BinaryOperator}
use Rattle.py_built.specs.declared.tree.BinaryOperator.TheVariants as binary
use Rattle.py_built.specs.declared.tree.Expr.{Expr}
use Rattle.py_built.specs.declared.tree.Expr.TheVariants as e
use Rattle.py_built.specs.declared.tree.Expr.TheOpen as o
use Rattle.py_built.specs.declared.tree.Expr.TheFolds.{fold-Expr, fold-roll-Expr}
use Rattle.py_built.specs.declared.tree.Stmt.{Stmt}
use Rattle.py_built.specs.declared.tree.Stmt.TheVariants as stmt
use Rattle.py_built.specs.declared.tree.Stmt.TheOpen as stmt_open
use Rattle.py_built.specs.declared.tree.Stmt.TheFolds.{fold-Stmt, fold-roll-Stmt}
use Rattle.py_built.specs.declared.tree.Comparison.{Comparison}
use Rattle.py_built.specs.declared.tree.Comparison.TheVariants as comparison
use Rattle.py_built.specs.declared.tree.Condition.{Condition}
use Rattle.py_built.specs.declared.tree.Module.{Module}

abbrev pub plain_unary : UnaryOperator → meaning.Unary
plain_unary unary.Negative = meaning.Negative

abbrev pub plain_binary : BinaryOperator → meaning.Binary
plain_binary binary.Add = meaning.Add
plain_binary binary.Subtract = meaning.Subtract
plain_binary binary.Multiply = meaning.Multiply

-- one level, whose operands are plain already
abbrev pub step : o.Expr-F meaning.Expr → meaning.Expr
step (o.Name p x) = meaning.EName (plain_place p) (string_bytes x)
step (o.Number p n) = meaning.ENumber (plain_place p) n
step (o.Unary p op a) = meaning.EUnary (plain_place p) (plain_unary op) a
step (o.Binary p op a b) = meaning.EBinary (plain_place p) (plain_binary op) a b

unfoldable pub plain_expr : Expr → meaning.Expr
plain_expr = fold-Expr meaning.Expr step

pub plain_expr-Name : (p : Place) (x : String Global) → plain_expr (e.Name p x) ≡ meaning.EName (plain_place p) (string_bytes x)
unfolding plain_expr
plain_expr-Name p x = ap (fold-Expr meaning.Expr step) (sym (e.rolls-Name p x)) ∙ fold-roll-Expr meaning.Expr step _

pub plain_expr-Number : (p : Place) (n : ℕ) → plain_expr (e.Number p n) ≡ meaning.ENumber (plain_place p) n
unfolding plain_expr
plain_expr-Number p n = ap (fold-Expr meaning.Expr step) (sym (e.rolls-Number p n)) ∙ fold-roll-Expr meaning.Expr step _

pub plain_expr-Unary : (p : Place) (op : UnaryOperator) (a : Expr) → plain_expr (e.Unary p op a) ≡ meaning.EUnary (plain_place p) (plain_unary op) (plain_expr a)
unfolding plain_expr
plain_expr-Unary p op a = ap (fold-Expr meaning.Expr step) (sym (e.rolls-Unary p op a)) ∙ fold-roll-Expr meaning.Expr step _

pub plain_expr-Binary : (p : Place) (op : BinaryOperator) (a b : Expr) → plain_expr (e.Binary p op a b) ≡ meaning.EBinary (plain_place p) (plain_binary op) (plain_expr a) (plain_expr b)
unfolding plain_expr
plain_expr-Binary p op a b = ap (fold-Expr meaning.Expr step) (sym (e.rolls-Binary p op a b)) ∙ fold-roll-Expr meaning.Expr step _

-- what functions that build or match expressions name by `using`
pub ruleset plains = (plain_expr-Name, plain_expr-Number, plain_expr-Unary, plain_expr-Binary)

abbrev pub plain_comparison : Comparison → meaning.Comparison
plain_comparison comparison.LessThan = meaning.LessThan
plain_comparison comparison.AtMost = meaning.AtMost
plain_comparison comparison.GreaterThan = meaning.GreaterThan
plain_comparison comparison.AtLeast = meaning.AtLeast
plain_comparison comparison.EqualTo = meaning.EqualTo
plain_comparison comparison.NotEqualTo = meaning.NotEqualTo

abbrev pub plain_condition : Condition → meaning.Condition
plain_condition c = meaning.CCompare (plain_place c.place) (plain_comparison c.operator) (plain_expr c.left) (plain_expr c.right)

-- statements one after another
abbrev pub body_of : List meaning.Stmt → meaning.Body
body_of [] = meaning.none
body_of (s ∷ body) = meaning.more s (body_of body)

-- one statement, whose bodies are plain already
abbrev pub stmt_step : stmt_open.Stmt-F meaning.Stmt → meaning.Stmt
stmt_step (stmt_open.Assign p x a) = meaning.SAssign (plain_place p) (string_bytes x) (plain_expr a)
stmt_step (stmt_open.Print p c a) = meaning.SPrint (plain_place p) (plain_place c) (plain_expr a)
stmt_step (stmt_open.If p c body other) = meaning.SIf (plain_place p) (plain_condition c) (body_of body) (body_of other)
stmt_step (stmt_open.While p c body) = meaning.SWhile (plain_place p) (plain_condition c) (body_of body)

unfoldable pub plain_stmt : Stmt → meaning.Stmt
plain_stmt = fold-Stmt meaning.Stmt stmt_step

abbrev pub plain_body : List Stmt → meaning.Body
plain_body [] = meaning.none
plain_body (s ∷ body) = meaning.more (plain_stmt s) (plain_body body)

body_of-map : (body : List Stmt) → body_of (map (fold-Stmt meaning.Stmt stmt_step) body) ≡ plain_body body
unfolding plain_stmt
body_of-map [] = refl
body_of-map (s ∷ body) = ap (meaning.more (fold-Stmt meaning.Stmt stmt_step s)) (body_of-map body)

pub plain_stmt-Assign : (p : Place) (x : String Global) (a : Expr) → plain_stmt (stmt.Assign p x a) ≡ meaning.SAssign (plain_place p) (string_bytes x) (plain_expr a)
unfolding plain_stmt
plain_stmt-Assign p x a = ap (fold-Stmt meaning.Stmt stmt_step) (sym (stmt.rolls-Assign p x a)) ∙ fold-roll-Stmt meaning.Stmt stmt_step _

pub plain_stmt-Print : (p c : Place) (a : Expr) → plain_stmt (stmt.Print p c a) ≡ meaning.SPrint (plain_place p) (plain_place c) (plain_expr a)
unfolding plain_stmt
plain_stmt-Print p c a = ap (fold-Stmt meaning.Stmt stmt_step) (sym (stmt.rolls-Print p c a)) ∙ fold-roll-Stmt meaning.Stmt stmt_step _

pub plain_stmt-If : (p : Place) (c : Condition) (body other : List Stmt) → plain_stmt (stmt.If p c body other) ≡ meaning.SIf (plain_place p) (plain_condition c) (plain_body body) (plain_body other)
unfolding plain_stmt
plain_stmt-If p c body other =
    ap (fold-Stmt meaning.Stmt stmt_step) (sym (stmt.rolls-If p c body other)) ∙ fold-roll-Stmt meaning.Stmt stmt_step _
    ∙ ap₂ (meaning.SIf (plain_place p) (plain_condition c)) (body_of-map body) (body_of-map other)

pub plain_stmt-While : (p : Place) (c : Condition) (body : List Stmt) → plain_stmt (stmt.While p c body) ≡ meaning.SWhile (plain_place p) (plain_condition c) (plain_body body)
unfolding plain_stmt
plain_stmt-While p c body =
    ap (fold-Stmt meaning.Stmt stmt_step) (sym (stmt.rolls-While p c body)) ∙ fold-roll-Stmt meaning.Stmt stmt_step _
    ∙ ap (meaning.SWhile (plain_place p) (plain_condition c)) (body_of-map body)

-- the same for statements
pub ruleset plain_stmts = (plain_stmt-Assign, plain_stmt-Print, plain_stmt-If, plain_stmt-While)

abbrev pub plain : Module → meaning.Body
plain m = plain_body m.body
