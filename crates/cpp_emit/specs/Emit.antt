-- The emission, as a function: straight from a module's tree to the tree of its C++.
use Rattle.std.specs.Prelude.{[], ◌∷◌, Bool, true, false, ◌||◌, if◌then◌else◌}
use Rattle.py_meaning.specs.Name.{Name}
use Rattle.py_meaning.specs.Tree.{Binary, Add, Subtract, Multiply, Comparison, LessThan, AtMost, GreaterThan, AtLeast, EqualTo, NotEqualTo, Expr, EName, ENumber, EUnary, EBinary, Condition, CCompare, Stmt as SourceStmt, SAssign, SPrint, SIf, SWhile, Body, none as nothing_left, more as and_then}
use Rattle.py_meaning.specs.Binding.{names_bound}
use Rattle.cpp_meaning.specs.Tree.{Identifier, Text, NullPointer, Operator, Plus, Minus, Times, Less, LessOrEqual, Greater, GreaterOrEqual, Equal, NotEqual, Expr as CppExpr, Named, Number, Literal, Operate, Negate, TextOf, Write, Operand, CallRow, Stmt, Declare, Assign, Perform, If, IfElse, While, Block, none, more, Program}
use Rattle.shed_meaning.specs.EmittedName.{global_name, temporary_name}
use Rattle.shed_meaning.specs.Layout.{laid_out}

abbrev pub emit_operator : Binary → Operator
emit_operator Add = Plus
emit_operator Subtract = Minus
emit_operator Multiply = Times

-- an operand that reads the globals of the main module
abbrev pub emit_expr : Expr → CppExpr
emit_expr (EName p x) = Named (global_name 0 x)
emit_expr (ENumber p n) = Number n
emit_expr (EUnary p o e) = Negate (emit_expr e)
emit_expr (EBinary p o a b) = Operate (emit_operator o) (emit_expr a) (emit_expr b)

-- the temporary that holds the text of what is printed
abbrev pub printed : Identifier
printed = temporary_name 0

abbrev pub emit_comparison : Comparison → Operator
emit_comparison LessThan = Less
emit_comparison AtMost = LessOrEqual
emit_comparison GreaterThan = Greater
emit_comparison AtLeast = GreaterOrEqual
emit_comparison EqualTo = Equal
emit_comparison NotEqualTo = NotEqual

abbrev pub emit_condition : Condition → CppExpr
emit_condition (CCompare p o a b) = Operate (emit_comparison o) (emit_expr a) (emit_expr b)

-- the text of what is printed enters the temporary, and is written with the end of its line
abbrev pub emit_print : CppExpr → Block → Block
emit_print e rest =
    more (Assign printed (CallRow TextOf (e ∷ [])))
    (more (Perform (CallRow Write (Named printed ∷ [])))
    (more (Perform (CallRow Write (Literal (10 ∷ []) ∷ []))) rest))

-- there is an `else` where something is done otherwise
abbrev pub emit_if : CppExpr → Block → Block → Stmt
emit_if e block none = If e block
emit_if e block (more s rest) = IfElse e block (more s rest)

-- what is emitted for a statement, in front of this block
abbrev mutual
  pub emit_stmt : SourceStmt → Block → Block
  emit_stmt (SAssign p x e) rest = more (Assign (global_name 0 x) (Operand (emit_expr e))) rest
  emit_stmt (SPrint p c e) rest = emit_print (emit_expr e) rest
  emit_stmt (SIf p c body other) rest = more (emit_if (emit_condition c) (emit_body body) (emit_body other)) rest
  emit_stmt (SWhile p c body) rest = more (While (emit_condition c) (emit_body body)) rest

  pub emit_body : Body → Block
  emit_body nothing_left = none
  emit_body (and_then s body) = emit_stmt s (emit_body body)

-- whether a statement prints, or a body
abbrev mutual
  pub stmt_prints : SourceStmt → Bool
  stmt_prints (SAssign p x e) = false
  stmt_prints (SPrint p c e) = true
  stmt_prints (SIf p c body other) = prints body || prints other
  stmt_prints (SWhile p c body) = prints body

  pub prints : Body → Bool
  prints nothing_left = false
  prints (and_then s body) = stmt_prints s || prints body

-- the temporary is declared where it is used
abbrev pub emit_block : Body → Block
emit_block body = if prints body then more (Declare Text printed NullPointer) (emit_body body) else emit_body body

abbrev pub emit : Name → Body → Program
emit name body = record { modules = laid_out name (names_bound body) (emit_block body) ∷ [] }
