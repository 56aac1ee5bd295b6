-- The views of operands and of statements, for functions that match them and write their parts one behind another.
use Rattle.std.proofs.Common.{append_assoc}
use Rattle.cpp_ast.specs.Plain.{plain_expr-Named, plain_expr-Number, plain_expr-Literal, plain_expr-Operate, plain_expr-Negate, plain_stmt-Declare, plain_stmt-Assign, plain_stmt-Perform, plain_stmt-If, plain_stmt-IfElse, plain_stmt-While}

pub ruleset views = (plain_expr-Named, plain_expr-Number, plain_expr-Literal, plain_expr-Operate, plain_expr-Negate, append_assoc)

-- the same for statements
pub ruleset stmt_views = (plain_stmt-Declare, plain_stmt-Assign, plain_stmt-Perform, plain_stmt-If, plain_stmt-IfElse, plain_stmt-While, append_assoc)
