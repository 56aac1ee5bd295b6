-- Trees of a module (Python reference, "Expressions", "Simple statements", "Compound statements"): one variant for each
-- form, with the place of its head token. That is the operator; the `(` of a call, the `.` of an attribute, the `[` of a
-- subscript; the bracket of a display, a comprehension or a parenthesis; a tuple's first comma; the `if` of a conditional
-- expression; and a statement's first token.
use Rattle.std.specs.Prelude.{ℕ, List, Option}
use Rattle.py_tokens.specs.Token.{Place}
use Rattle.py_syntax.specs.Token.{Name}

-- a name where it stands
pub record NameAt : Type 0 where
  pub place : Place
  pub name : Name

pub data UnaryOperator : Type 0 where
  Negative : UnaryOperator
  Positive : UnaryOperator
  Invert : UnaryOperator

pub data BinaryOperator : Type 0 where
  BitOr : BinaryOperator
  BitXor : BinaryOperator
  BitAnd : BinaryOperator
  LeftShift : BinaryOperator
  RightShift : BinaryOperator
  Add : BinaryOperator
  Subtract : BinaryOperator
  Multiply : BinaryOperator
  FloorDivide : BinaryOperator
  Modulo : BinaryOperator
  Power : BinaryOperator

pub data ComparisonOperator : Type 0 where
  Less : ComparisonOperator
  Greater : ComparisonOperator
  LessOrEqual : ComparisonOperator
  GreaterOrEqual : ComparisonOperator
  Equal : ComparisonOperator
  NotEqual : ComparisonOperator
  In : ComparisonOperator
  NotIn : ComparisonOperator
  Is : ComparisonOperator
  IsNot : ComparisonOperator

-- what a loop binds: `x`, `x, y` or `(x, y)`
pub data LoopTarget : Type 0 where
  LoopName : (name : NameAt) → LoopTarget
  LoopNames : (place : Place) → (names : List NameAt) → LoopTarget
  LoopParenthesis : (place : Place) → (target : LoopTarget) → LoopTarget

mutual
  pub data Expr : Type 0 where
    EName : (place : Place) → (name : Name) → Expr
    ENumber : (place : Place) → (value : ℕ) → Expr
    EText : (place : Place) → (text : List ℕ) → Expr
    ETrue : (place : Place) → Expr
    EFalse : (place : Place) → Expr
    ENone : (place : Place) → Expr
    -- `(e)`, where e may be a tuple
    EParenthesis : (place : Place) → (inner : Expr) → Expr
    -- `()`
    EEmptyTuple : (place : Place) → Expr
    -- `a, b`, without its brackets
    ETuple : (place : Place) → (items : Exprs) → Expr
    -- with the place of the first comma, if there is one
    EList : (place : Place) → (comma : Option Place) → (items : Exprs) → Expr
    EListComprehension : (place : Place) → (element : Expr) → (loops : Loops) → Expr
    EDict : (place : Place) → (pairs : Pairs) → Expr
    ESet : (place : Place) → (items : Exprs) → Expr
    EAttribute : (place : Place) → (object : Expr) → (name : NameAt) → Expr
    ECall : (place : Place) → (callee : Expr) → (arguments : Exprs) → (keywords : Keywords) → Expr
    ESubscript : (place : Place) → (object : Expr) → (index : Expr) → Expr
    ESlice : (place : Place) → (object : Expr) → (lower : MaybeExpr) → (upper : MaybeExpr) → Expr
    EUnary : (place : Place) → (operator : UnaryOperator) → (operand : Expr) → Expr
    EBinary : (place : Place) → (operator : BinaryOperator) → (left : Expr) → (right : Expr) → Expr
    -- `a < b < c` is one node, at its first operator
    ECompare : (place : Place) → (operator : ComparisonOperator) → (left : Expr) → (right : Expr) → (more : Links) → Expr
    ENot : (place : Place) → (operand : Expr) → Expr
    -- `a and b and c` is one node, at its first `and`
    EAnd : (place : Place) → (left : Expr) → (right : Expr) → (more : Exprs) → Expr
    EOr : (place : Place) → (left : Expr) → (right : Expr) → (more : Exprs) → Expr
    -- `value if test else other`
    EConditional : (place : Place) → (value : Expr) → (test : Expr) → (other : Expr) → Expr

  pub data Exprs : Type 0 where
    no_exprs : Exprs
    more_exprs : (first : Expr) → (rest : Exprs) → Exprs

  pub data MaybeExpr : Type 0 where
    no_expr : MaybeExpr
    an_expr : (expr : Expr) → MaybeExpr

  -- the keys and values of a dict
  pub data Pairs : Type 0 where
    no_pairs : Pairs
    more_pairs : (key : Expr) → (value : Expr) → (rest : Pairs) → Pairs

  -- further comparisons of a chain
  pub data Links : Type 0 where
    no_links : Links
    more_links : (place : Place) → (operator : ComparisonOperator) → (operand : Expr) → (rest : Links) → Links

  -- the keyword arguments of a call, `x=e`
  pub data Keywords : Type 0 where
    no_keywords : Keywords
    more_keywords : (name : NameAt) → (value : Expr) → (rest : Keywords) → Keywords

  -- the loops of a comprehension, each with its conditions
  pub data Loops : Type 0 where
    no_loops : Loops
    more_loops : (place : Place) → (target : LoopTarget) → (iterable : Expr) → (conditions : Exprs) → (rest : Loops) → Loops

-- what one place of an assignment is: a name, an attribute or a subscript
pub data Target : Type 0 where
  TargetName : (name : NameAt) → Target
  TargetAttribute : (place : Place) → (object : Expr) → (name : NameAt) → Target
  TargetSubscript : (place : Place) → (object : Expr) → (index : Expr) → Target

-- what stands before `=`: one target, or some to which the value's members are given, in brackets or without
pub data Targets : Type 0 where
  OneTarget : (target : Target) → Targets
  SomeTargets : (place : Place) → (targets : List Target) → Targets
  ParenthesisTargets : (place : Place) → (targets : Targets) → Targets
  BracketTargets : (place : Place) → (targets : Targets) → Targets

-- an imported module or what is taken from one, and the name that it is given by `as`
pub record Imported : Type 0 where
  pub name : NameAt
  pub alias : Option NameAt

-- the class of a handler, or a base: `C` or `m.C`
pub data ClassName : Type 0 where
  BareClass : (name : NameAt) → ClassName
  ClassWithin : («module» : NameAt) → (name : NameAt) → ClassName

-- what a handler catches
pub data Caught : Type 0 where
  Everything : Caught
  Exceptions : (class : ClassName) → (alias : Option NameAt) → Caught

pub record Parameter : Type 0 where
  pub name : NameAt
  pub default : MaybeExpr

mutual
  pub data Stmt : Type 0 where
    SExpr : (place : Place) → (expr : Expr) → Stmt
    -- `a = b = value`
    SAssign : (place : Place) → (targets : List Targets) → (value : Expr) → Stmt
    -- `a += value`
    SAugmented : (place : Place) → (operator : BinaryOperator) → (target : Target) → (value : Expr) → Stmt
    SPass : (place : Place) → Stmt
    SBreak : (place : Place) → Stmt
    SContinue : (place : Place) → Stmt
    SReturn : (place : Place) → (value : MaybeExpr) → Stmt
    SRaise : (place : Place) → (exception : Expr) → Stmt
    SYield : (place : Place) → (value : Expr) → Stmt
    SGlobal : (place : Place) → (names : List NameAt) → Stmt
    SAssert : (place : Place) → (test : Expr) → (message : MaybeExpr) → Stmt
    -- `del object[index]`, with the place of the `[` too
    SDelete : (place : Place) → (subscript : Place) → (object : Expr) → (index : Expr) → Stmt
    -- where there is no `else`, nothing is done otherwise; an `elif` is an `if` that is done otherwise
    SIf : (place : Place) → (test : Expr) → (body : Body) → (otherwise : Body) → Stmt
    SWhile : (place : Place) → (test : Expr) → (body : Body) → Stmt
    SFor : (place : Place) → (target : LoopTarget) → (iterable : Expr) → (body : Body) → Stmt
    STry : (place : Place) → (body : Body) → (handlers : Handlers) → Stmt
    SDef : (place : Place) → (name : NameAt) → (parameters : List Parameter) → (body : Body) → Stmt
    SClass : (place : Place) → (name : NameAt) → (base : Option ClassName) → (body : Body) → Stmt
    SImport : (place : Place) → (modules : List Imported) → Stmt
    SFromImport : (place : Place) → («module» : NameAt) → (names : List Imported) → Stmt

  -- the statements of a module or of a block, in order
  pub data Body : Type 0 where
    no_stmts : Body
    more_stmts : (first : Stmt) → (rest : Body) → Body

  pub data Handlers : Type 0 where
    no_handlers : Handlers
    more_handlers : (place : Place) → (caught : Caught) → (body : Body) → (rest : Handlers) → Handlers
