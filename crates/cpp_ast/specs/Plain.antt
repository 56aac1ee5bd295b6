-- The code's trees as the plain trees that definitions speak of.
use Rattle.std.specs.Prelude.{◌≡◌, ℕ, List, [], ◌∷◌, map, string_bytes}
use Rattle.std.proofs.Common.{refl, ap, ap₂, sym, ◌∙◌}
use Rattle.std.specs.declared.string.String.{String}
use Rattle.std.specs.declared.alloc.Global.{Global}
use Rattle.cpp_meaning.specs.Tree as meaning
use Rattle.cpp_ast.specs.declared.tree.CppType.{CppType}
use Rattle.cpp_ast.specs.declared.tree.CppType.TheVariants as type
use Rattle.cpp_ast.specs.declared.tree.CppZero.{CppZero}
use Rattle.cpp_ast.specs.declared.tree.CppZero.TheVariants as zero
use Rattle.cpp_ast.specs.declared.tree.CppBinary.{CppBinary}
use Rattle.cpp_ast.specs.declared.tree.CppBinary.TheVariants as binary
use Rattle.cpp_ast.specs.declared.tree.CppExpr.{CppExpr}
use Rattle.cpp_ast.specs.declared.tree.CppExpr.TheVariants as e
use Rattle.cpp_ast.specs.declared.tree.CppExpr.TheOpen as o
use Rattle.cpp_ast.specs.declared.tree.CppExpr.TheFolds.{fold-CppExpr, fold-roll-CppExpr}
use Rattle.cpp_ast.specs.declared.tree.CppRow.{CppRow}
use Rattle.cpp_ast.specs.declared.tree.CppRow.TheVariants as row
use Rattle.cpp_ast.specs.declared.tree.CppValue.{CppValue}
use Rattle.cpp_ast.specs.declared.tree.CppValue.TheVariants as value
use Rattle.cpp_ast.specs.declared.tree.CppStmt.{CppStmt}
use Rattle.cpp_ast.specs.declared.tree.CppStmt.TheVariants as stmt
use Rattle.cpp_ast.specs.declared.tree.CppStmt.TheOpen as stmt_open
use Rattle.cpp_ast.specs.declared.tree.CppStmt.TheFolds.{fold-CppStmt, fold-roll-CppStmt}
use Rattle.cpp_ast.specs.declared.tree.CppDeclaration.{CppDeclaration}
use Rattle.cpp_ast.specs.declared.tree.CppDeclaration.TheVariants as declaration
use Rattle.cpp_ast.specs.declared.tree.CppDefinition.{CppDefinition}
use Rattle.cpp_ast.specs.declared.tree.CppDefinition.TheVariants as definition
use Rattle.cpp_ast.specs.declared.tree.CppModule.{CppModule}
use Rattle.cpp_ast.specs.declared.tree.CppProgram.{CppProgram}

abbrev pub plain_type : CppType → meaning.CppType
plain_type type.Int32 = meaning.Int32
plain_type type.Truth = meaning.Truth
plain_type type.Text = meaning.Text

abbrev pub plain_zero : CppZero → meaning.Zero
plain_zero zero.Number = meaning.ZeroNumber
plain_zero zero.Truth = meaning.FalseTruth
plain_zero zero.Pointer = meaning.NullPointer

abbrev pub plain_binary : CppBinary → meaning.Operator
plain_binary binary.Plus = meaning.Plus
plain_binary binary.Minus = meaning.Minus
plain_binary binary.Times = meaning.Times
plain_binary binary.Less = meaning.Less
plain_binary binary.LessOrEqual = meaning.LessOrEqual
plain_binary binary.Greater = meaning.Greater
plain_binary binary.GreaterOrEqual = meaning.GreaterOrEqual
plain_binary binary.Equal = meaning.Equal
plain_binary binary.NotEqual = meaning.NotEqual

abbrev pub plain_row : CppRow → meaning.Row
plain_row row.TextOf = meaning.TextOf
plain_row row.Write = meaning.Write

-- one level, whose operands are plain already
abbrev pub step : o.CppExpr-F meaning.Expr → meaning.Expr
step (o.Named x) = meaning.Named (string_bytes x)
step (o.Number n) = meaning.Number n
step (o.Literal t) = meaning.Literal t
step (o.Operate op a b) = meaning.Operate (plain_binary op) a b
step (o.Negate a) = meaning.Negate a

unfoldable pub plain_expr : CppExpr → meaning.Expr
plain_expr = fold-CppExpr meaning.Expr step

pub plain_expr-Named : (x : String Global) → plain_expr (e.Named x) ≡ meaning.Named (string_bytes x)
unfolding plain_expr
plain_expr-Named x = ap (fold-CppExpr meaning.Expr step) (sym (e.rolls-Named x)) ∙ fold-roll-CppExpr meaning.Expr step _

pub plain_expr-Number : (n : ℕ) → plain_expr (e.Number n) ≡ meaning.Number n
unfolding plain_expr
plain_expr-Number n = ap (fold-CppExpr meaning.Expr step) (sym (e.rolls-Number n)) ∙ fold-roll-CppExpr meaning.Expr step _

pub plain_expr-Literal : (t : List ℕ) → plain_expr (e.Literal t) ≡ meaning.Literal t
unfolding plain_expr
plain_expr-Literal t = ap (fold-CppExpr meaning.Expr step) (sym (e.rolls-Literal t)) ∙ fold-roll-CppExpr meaning.Expr step _

pub plain_expr-Operate : (op : CppBinary) (a b : CppExpr) → plain_expr (e.Operate op a b) ≡ meaning.Operate (plain_binary op) (plain_expr a) (plain_expr b)
unfolding plain_expr
plain_expr-Operate op a b = ap (fold-CppExpr meaning.Expr step) (sym (e.rolls-Operate op a b)) ∙ fold-roll-CppExpr meaning.Expr step _

pub plain_expr-Negate : (a : CppExpr) → plain_expr (e.Negate a) ≡ meaning.Negate (plain_expr a)
unfolding plain_expr
plain_expr-Negate a = ap (fold-CppExpr meaning.Expr step) (sym (e.rolls-Negate a)) ∙ fold-roll-CppExpr meaning.Expr step _

-- what functions that build or match expressions name by `using`
pub ruleset plains = (plain_expr-Named, plain_expr-Number, plain_expr-Literal, plain_expr-Operate, plain_expr-Negate)

abbrev pub plain_value : CppValue → meaning.Value
plain_value (value.Operand a) = meaning.Operand (plain_expr a)
plain_value (value.CallRow r operands) = meaning.CallRow (plain_row r) (map plain_expr operands)

-- statements one after another
abbrev pub block_of : List meaning.Stmt → meaning.Block
block_of [] = meaning.none
block_of (s ∷ rest) = meaning.more s (block_of rest)

-- one statement, whose blocks are plain already
abbrev pub stmt_step : stmt_open.CppStmt-F meaning.Stmt → meaning.Stmt
stmt_step (stmt_open.Declare t x z) = meaning.Declare (plain_type t) (string_bytes x) (plain_zero z)
stmt_step (stmt_open.Assign x v) = meaning.Assign (string_bytes x) (plain_value v)
stmt_step (stmt_open.Perform v) = meaning.Perform (plain_value v)
stmt_step (stmt_open.If a body) = meaning.If (plain_expr a) (block_of body)
stmt_step (stmt_open.IfElse a body other) = meaning.IfElse (plain_expr a) (block_of body) (block_of other)
stmt_step (stmt_open.While a body) = meaning.While (plain_expr a) (block_of body)

unfoldable pub plain_stmt : CppStmt → meaning.Stmt
plain_stmt = fold-CppStmt meaning.Stmt stmt_step

abbrev pub plain_block : List CppStmt → meaning.Block
plain_block [] = meaning.none
plain_block (s ∷ rest) = meaning.more (plain_stmt s) (plain_block rest)

block_of-map : (block : List CppStmt) → block_of (map (fold-CppStmt meaning.Stmt stmt_step) block) ≡ plain_block block
unfolding plain_stmt
block_of-map [] = refl
block_of-map (s ∷ rest) = ap (meaning.more (fold-CppStmt meaning.Stmt stmt_step s)) (block_of-map rest)

pub plain_stmt-Declare : (t : CppType) (x : String Global) (z : CppZero) → plain_stmt (stmt.Declare t x z) ≡ meaning.Declare (plain_type t) (string_bytes x) (plain_zero z)
unfolding plain_stmt
plain_stmt-Declare t x z = ap (fold-CppStmt meaning.Stmt stmt_step) (sym (stmt.rolls-Declare t x z)) ∙ fold-roll-CppStmt meaning.Stmt stmt_step _

pub plain_stmt-Assign : (x : String Global) (v : CppValue) → plain_stmt (stmt.Assign x v) ≡ meaning.Assign (string_bytes x) (plain_value v)
unfolding plain_stmt
plain_stmt-Assign x v = ap (fold-CppStmt meaning.Stmt stmt_step) (sym (stmt.rolls-Assign x v)) ∙ fold-roll-CppStmt meaning.Stmt stmt_step _

pub plain_stmt-Perform : (v : CppValue) → plain_stmt (stmt.Perform v) ≡ meaning.Perform (plain_value v)
unfolding plain_stmt
plain_stmt-Perform v = ap (fold-CppStmt meaning.Stmt stmt_step) (sym (stmt.rolls-Perform v)) ∙ fold-roll-CppStmt meaning.Stmt stmt_step _

pub plain_stmt-If : (a : CppExpr) (body : List CppStmt) → plain_stmt (stmt.If a body) ≡ meaning.If (plain_expr a) (plain_block body)
unfolding plain_stmt
plain_stmt-If a body =
    ap (fold-CppStmt meaning.Stmt stmt_step) (sym (stmt.rolls-If a body)) ∙ fold-roll-CppStmt meaning.Stmt stmt_step _
    ∙ ap (meaning.If (plain_expr a)) (block_of-map body)

pub plain_stmt-IfElse : (a : CppExpr) (body other : List CppStmt) → plain_stmt (stmt.IfElse a body other) ≡ meaning.IfElse (plain_expr a) (plain_block body) (plain_block other)
unfolding plain_stmt
plain_stmt-IfElse a body other =
    ap (fold-CppStmt meaning.Stmt stmt_step) (sym (stmt.rolls-IfElse a body other)) ∙ fold-roll-CppStmt meaning.Stmt stmt_step _
    ∙ ap₂ (meaning.IfElse (plain_expr a)) (block_of-map body) (block_of-map other)

pub plain_stmt-While : (a : CppExpr) (body : List CppStmt) → plain_stmt (stmt.While a body) ≡ meaning.While (plain_expr a) (plain_block body)
unfolding plain_stmt
plain_stmt-While a body =
    ap (fold-CppStmt meaning.Stmt stmt_step) (sym (stmt.rolls-While a body)) ∙ fold-roll-CppStmt meaning.Stmt stmt_step _
    ∙ ap (meaning.While (plain_expr a)) (block_of-map body)

-- the same for statements
pub ruleset plain_stmts = (plain_stmt-Declare, plain_stmt-Assign, plain_stmt-Perform, plain_stmt-If, plain_stmt-IfElse, plain_stmt-While)

abbrev pub plain_declaration : CppDeclaration → meaning.Declaration
plain_declaration (declaration.Extern t x) = meaning.Extern (plain_type t) (string_bytes x)
plain_declaration (declaration.BodyHead x) = meaning.BodyHead (string_bytes x)

abbrev pub plain_definition : CppDefinition → meaning.Definition
plain_definition (definition.Variable t x z) = meaning.Variable (plain_type t) (string_bytes x) (plain_zero z)
plain_definition (definition.Body x block) = meaning.Body (string_bytes x) (plain_block block)
plain_definition (definition.Main x) = meaning.Main (string_bytes x)

abbrev pub plain_module : CppModule → meaning.Module
plain_module m =
    record {
      name = string_bytes m.name;
      header = map plain_declaration m.header;
      source = map plain_definition m.source;
    }

abbrev pub plain : CppProgram → meaning.Program
plain p = record { modules = map plain_module p.modules }
