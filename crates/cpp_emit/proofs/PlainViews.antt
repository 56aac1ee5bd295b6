-- The views of the trees of both sides, for functions that match one and build the other.
use Rattle.py_built.specs.PlainTrees.{plain_expr-Name, plain_expr-Number, plain_expr-Unary, plain_expr-Binary, plain_stmt-Assign as plain_statement-Assign, plain_stmt-Print as plain_statement-Print, plain_stmt-If as plain_statement-If, plain_stmt-While as plain_statement-While}
use Rattle.cpp_ast.specs.Plain.{plain_expr-Named, plain_expr-Number as plain_operand-Number, plain_expr-Literal, plain_expr-Operate, plain_expr-Negate, plain_stmt-Declare, plain_stmt-Assign, plain_stmt-Perform, plain_stmt-If, plain_stmt-IfElse, plain_stmt-While}

pub ruleset views = (plain_expr-Name, plain_expr-Number, plain_expr-Unary, plain_expr-Binary, plain_expr-Named, plain_operand-Number, plain_expr-Literal, plain_expr-Operate, plain_expr-Negate, plain_statement-Assign, plain_statement-Print, plain_statement-If, plain_statement-While, plain_stmt-Declare, plain_stmt-Assign, plain_stmt-Perform, plain_stmt-If, plain_stmt-IfElse, plain_stmt-While)
