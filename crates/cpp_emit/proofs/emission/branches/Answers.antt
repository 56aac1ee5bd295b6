use Rattle.std.proofs.Common.{◌≡◌, List, [], ◌∷◌, false, refl}
use Rattle.cpp_ast.specs.declared.tree.CppStmt.{CppStmt}
use Rattle.cpp_ast.specs.declared.tree.CppExpr.{CppExpr}
use Rattle.cpp_ast.specs.declared.tree.CppStmt.TheVariants.{IfElse}
use Rattle.cpp_ast.specs.Plain.{plain_expr, plain_stmt, plain_block, plain_stmt-IfElse}
use Rattle.cpp_emit.specs.Emit.{emit_if}
use Rattle.cpp_emit.proofs.emission.branches.Goals as goal

with_else : (test : CppExpr) (body other : List CppStmt) → (other ≡ [] → ⊥) → plain_stmt (IfElse test body other) ≡ emit_if (plain_expr test) (plain_block body) (plain_block other)
with_else test body [] there = absurd (there refl)
with_else test body (s ∷ other) there = plain_stmt-IfElse test body (s ∷ other)

pub returns-else-is_empty : goal.returns-else-is_empty
returns-else-is_empty c =
    with_else c.args.test c.args.body c.args.other (λ none. let full : c.is_empty.result ≡ Rattle.std.proofs.Common.true = c.is_empty.ensures.1 none in cc c.if-is_empty.false)
