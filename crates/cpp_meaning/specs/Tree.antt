-- Trees of emitted C++, as far as the emission uses them (ISO C++, "Expressions", "Statements", "Declarations"). An operand
-- has no effect; a value that is stored or dropped is an operand or one call of the support library.
use Rattle.std.specs.Prelude.{ℕ, List, [], ◌∷◌, ◌++◌, Bool}
use Rattle.std.specs.Str.{bytes_eq}

-- an identifier, as it is spelt
abbrev pub Identifier : Type 0
Identifier = List ℕ

abbrev pub same_identifier : Identifier → Identifier → Bool
same_identifier x y = bytes_eq x y

pub data CppType : Type 0 where
  Int32 : CppType
  -- `bool`
  Truth : CppType
  -- a pointer to a text, `shed::str*`
  Text : CppType

-- the first value of a variable
pub data Zero : Type 0 where
  ZeroNumber : Zero
  FalseTruth : Zero
  NullPointer : Zero

pub data Operator : Type 0 where
  Plus : Operator
  Minus : Operator
  Times : Operator
  Less : Operator
  LessOrEqual : Operator
  Greater : Operator
  GreaterOrEqual : Operator
  Equal : Operator
  NotEqual : Operator

pub data Expr : Type 0 where
  Named : (name : Identifier) → Expr
  Number : (value : ℕ) → Expr
  Literal : (text : List ℕ) → Expr
  Operate : (operator : Operator) → (left : Expr) → (right : Expr) → Expr
  Negate : (operand : Expr) → Expr

-- functions of the support library
pub data Row : Type 0 where
  TextOf : Row
  Write : Row

pub data Value : Type 0 where
  Operand : (operand : Expr) → Value
  CallRow : (row : Row) → (operands : List Expr) → Value

mutual
  pub data Stmt : Type 0 where
    Declare : (type : CppType) → (name : Identifier) → (zero : Zero) → Stmt
    Assign : (name : Identifier) → (value : Value) → Stmt
    Perform : (value : Value) → Stmt
    If : (condition : Expr) → (body : Block) → Stmt
    IfElse : (condition : Expr) → (body : Block) → (otherwise : Block) → Stmt
    While : (condition : Expr) → (body : Block) → Stmt

  -- the statements of a body or of a block in it, in order
  pub data Block : Type 0 where
    none : Block
    more : (first : Stmt) → (rest : Block) → Block

-- what a header declares
pub data Declaration : Type 0 where
  Extern : (type : CppType) → (name : Identifier) → Declaration
  BodyHead : (name : Identifier) → Declaration

-- what a source file defines
pub data Definition : Type 0 where
  Variable : (type : CppType) → (name : Identifier) → (zero : Zero) → Definition
  Body : (name : Identifier) → (block : Block) → Definition
  -- `main`, which starts the body of this name
  Main : (body : Identifier) → Definition

-- a module's header and its source file, which are named for it
pub record Module : Type 0 where
  pub name : List ℕ
  pub header : List Declaration
  pub source : List Definition

pub record Program : Type 0 where
  pub modules : List Module

abbrev pub headers_of : List Module → List Declaration
headers_of [] = []
headers_of (m ∷ modules) = m.header ++ headers_of modules

abbrev pub sources_of : List Module → List Definition
sources_of [] = []
sources_of (m ∷ modules) = m.source ++ sources_of modules
