-- Trees of a module (Python reference, "Expressions", "Simple statements", "Compound statements"). Each node has the
-- place of its head token: an operator's, a call's `(`, and a statement's first token.
use Rattle.std.specs.Prelude.{ℕ}
use Rattle.py_meaning.specs.Name.{Name}
use Rattle.py_tokens.specs.Token.{Place}

pub data Unary : Type 0 where
  Negative : Unary

pub data Binary : Type 0 where
  Add : Binary
  Subtract : Binary
  Multiply : Binary

pub data Comparison : Type 0 where
  LessThan : Comparison
  AtMost : Comparison
  GreaterThan : Comparison
  AtLeast : Comparison
  EqualTo : Comparison
  NotEqualTo : Comparison

pub data Expr : Type 0 where
  EName : (place : Place) → (name : Name) → Expr
  ENumber : (place : Place) → (value : ℕ) → Expr
  EUnary : (place : Place) → (operator : Unary) → (operand : Expr) → Expr
  EBinary : (place : Place) → (operator : Binary) → (left : Expr) → (right : Expr) → Expr

-- what an `if` or a `while` tests
pub data Condition : Type 0 where
  CCompare : (place : Place) → (operator : Comparison) → (left : Expr) → (right : Expr) → Condition

mutual
  pub data Stmt : Type 0 where
    SAssign : (place : Place) → (target : Name) → (value : Expr) → Stmt
    -- a statement whose expression is a call of `print`; the call has its own place
    SPrint : (place : Place) → (call : Place) → (value : Expr) → Stmt
    -- where there is no `else`, nothing is done otherwise
    SIf : (place : Place) → (test : Condition) → (body : Body) → (otherwise : Body) → Stmt
    SWhile : (place : Place) → (test : Condition) → (body : Body) → Stmt

  -- the statements of a module or of a block, in order
  pub data Body : Type 0 where
    none : Body
    more : (first : Stmt) → (rest : Body) → Body
