-- The parser's parts as the plain parts that the table's actions take. Its stack has the last part at the end.
use Rattle.std.specs.Prelude.{ℕ, List, ◌∷◌, map, reverse, Option, Some, None}
use Rattle.py_syntax.specs.Tree.{Expr}
use Rattle.py_syntax.specs.Build as build
use Rattle.py_lexer.specs.PlainTokens.{plain_place}
use Rattle.py_table.specs.PlainTokens.{plain_token}
use Rattle.py_ast.specs.PlainExprs.{plain_loop_target, plain_expr, plain_exprs}
use Rattle.py_ast.specs.PlainOperators.{plain_comparison}
use Rattle.py_ast.specs.PlainTrees.{plain_target_lists, plain_class, plain_stmt, plain_body}
use Rattle.parser_parts.specs.declared.parts.Part.{Part}
use Rattle.parser_parts.specs.declared.parts.Part.TheVariants as part

abbrev pub plain_part : List (List ℕ) → Part → build.Part
plain_part texts (part.Token t) = build.PToken (plain_token texts t.now)
plain_part texts (part.Expr e) = build.PExpr (plain_expr e)
plain_part texts (part.Sign p o) = build.PSign (plain_place p) (plain_comparison o)
plain_part texts (part.Loop p t i cs) = build.PLoop (plain_place p) (plain_loop_target t) (plain_expr i) (plain_exprs cs)
plain_part texts (part.LoopTarget t) = build.PLoopTarget (plain_loop_target t)
plain_part texts (part.Targets p ts) = build.PTargets (plain_place p) (plain_target_lists ts)
plain_part texts (part.Class c) = build.PClass (plain_class c)
plain_part texts (part.Stmt s) = build.PStmt (plain_stmt s)
plain_part texts (part.Body b) = build.PBody (plain_body b)

-- the last part first
unfoldable pub parts_of : List (List ℕ) → List Part → build.Parts
parts_of texts parts = map (plain_part texts) (reverse parts)

-- the expression that was built last
abbrev pub last_expr : build.Parts → Option Expr
last_expr (build.PExpr e ∷ v) = Some e
last_expr v = None
