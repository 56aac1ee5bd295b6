-- Which trees are well typed (ISO C++, "Basic concepts": declarations and scope; "Expressions"): each name is declared
-- once, each expression has one declared type, and nothing converts. Each declaration of a header has its one definition,
-- of the same type.
use Rattle.std.specs.Prelude.{◌≡◌, List, [], ◌∷◌, Bool, true, false, Option, Some, None, if◌then◌else◌, nat_le}
use Rattle.std.specs.List.{list_all}
use Rattle.runs.specs.FiniteMap.{Map, nothing, put}
use Rattle.cpp_meaning.specs.Tree.{Identifier, same_identifier, CppType, Int32, Truth, Text, Zero, ZeroNumber, FalseTruth, NullPointer, Operator, Plus, Minus, Times, Less, LessOrEqual, Greater, GreaterOrEqual, Equal, NotEqual, Expr, Named, Number, Literal, Operate, Negate, Row, TextOf, Write, Value, Operand, CallRow, Declare, Assign, Perform, If, IfElse, While, Block, none, more, Declaration, Extern, BodyHead, Definition, Variable, Body, Main, Program, headers_of, sources_of}

-- the declared types of variables
abbrev pub Types : Type 0
Types = Map Identifier CppType

-- a local variable hides a global one of its name
abbrev pub inner_first : {V : Type 0} → Option V → Option V → Option V
inner_first (Some v) outer = Some v
inner_first None outer = outer

abbrev pub in_scope : Types → Types → Types
in_scope locals globals x = inner_first (locals x) (globals x)

-- what an operator gives for two numbers: arithmetic gives a number, and a comparison a truth value
abbrev pub type_of_result : Operator → CppType
type_of_result Plus = Int32
type_of_result Minus = Int32
type_of_result Times = Int32
type_of_result Less = Truth
type_of_result LessOrEqual = Truth
type_of_result Greater = Truth
type_of_result GreaterOrEqual = Truth
type_of_result Equal = Truth
type_of_result NotEqual = Truth

-- whether an operator takes truth values, of which there are two
abbrev pub takes_truths : Operator → Bool
takes_truths Equal = true
takes_truths NotEqual = true
takes_truths _ = false

-- operands of an operator have one type
abbrev pub type_of_operation : Operator → Option CppType → Option CppType → Option CppType
type_of_operation o (Some Int32) (Some Int32) = Some (type_of_result o)
type_of_operation o (Some Truth) (Some Truth) = if takes_truths o then Some Truth else None
type_of_operation o _ _ = None

-- the declared type of an operand, if it has one
abbrev pub type_of : Types → Expr → Option CppType
type_of types (Named x) = types x
type_of types (Number n) = Some Int32
-- a text has code points 0 to 127
type_of types (Literal t) = if list_all (λ c. nat_le c 127) t then Some Text else None
type_of types (Operate o a b) = type_of_operation o (type_of types a) (type_of types b)
type_of types (Negate e) = type_of_operation Minus (type_of types e) (type_of types e)

abbrev pub types_of : Types → List Expr → List (Option CppType)
types_of types [] = []
types_of types (e ∷ es) = type_of types e ∷ types_of types es

-- what a value gives: nothing that can be stored, or a value of a type
pub data Yield : Type 0 where
  Void : Yield
  Of : (type : CppType) → Yield

-- what a row of the support library gives for operands of these types
abbrev pub yield_of_row : Row → List (Option CppType) → Option Yield
yield_of_row TextOf (Some Int32 ∷ []) = Some (Of Text)
yield_of_row TextOf (Some Truth ∷ []) = Some (Of Text)
yield_of_row TextOf (Some Text ∷ []) = Some (Of Text)
yield_of_row Write (Some Text ∷ []) = Some Void
yield_of_row _ _ = None

abbrev pub yield_of_operand : Option CppType → Option Yield
yield_of_operand None = None
yield_of_operand (Some t) = Some (Of t)

abbrev pub yield_of : Types → Value → Option Yield
yield_of types (Operand e) = yield_of_operand (type_of types e)
yield_of types (CallRow row operands) = yield_of_row row (types_of types operands)

abbrev pub zero_of : CppType → Zero
zero_of Int32 = ZeroNumber
zero_of Truth = FalseTruth
zero_of Text = NullPointer

-- The statements of a body, where declarations may still come and these locals have been declared. Declarations stand
-- first, so a block in it has none. What is tested is a truth value.
abbrev pub IsTypedBlock : Bool → Types → Types → Block → Type 0
IsTypedBlock first globals locals none = Unit {0}
IsTypedBlock first globals locals (more (Declare t x z) rest) =
    (first ≡ true) × (locals x ≡ None) × (z ≡ zero_of t) × IsTypedBlock true globals (put same_identifier locals x t) rest
IsTypedBlock first globals locals (more (Assign x v) rest) =
    (t : CppType) × (in_scope locals globals x ≡ Some t) × (yield_of (in_scope locals globals) v ≡ Some (Of t)) × IsTypedBlock false globals locals rest
IsTypedBlock first globals locals (more (Perform v) rest) =
    (y : Yield) × (yield_of (in_scope locals globals) v ≡ Some y) × IsTypedBlock false globals locals rest
IsTypedBlock first globals locals (more (If e body) rest) =
    (type_of (in_scope locals globals) e ≡ Some Truth) × IsTypedBlock false globals locals body × IsTypedBlock false globals locals rest
IsTypedBlock first globals locals (more (IfElse e body other) rest) =
    (type_of (in_scope locals globals) e ≡ Some Truth) × IsTypedBlock false globals locals body × IsTypedBlock false globals locals other
    × IsTypedBlock false globals locals rest
IsTypedBlock first globals locals (more (While e body) rest) =
    (type_of (in_scope locals globals) e ≡ Some Truth) × IsTypedBlock false globals locals body × IsTypedBlock false globals locals rest

-- what a name of a program stands for
pub data Sort : Type 0 where
  VariableOf : (type : CppType) → Sort
  BodyOf : Sort

abbrev pub declared : List Declaration → Identifier → Option Sort
declared [] x = None
declared (Extern t y ∷ items) x = if same_identifier y x then Some (VariableOf t) else declared items x
declared (BodyHead y ∷ items) x = if same_identifier y x then Some BodyOf else declared items x

abbrev pub defined : List Definition → Identifier → Option Sort
defined [] x = None
defined (Variable t y z ∷ items) x = if same_identifier y x then Some (VariableOf t) else defined items x
defined (Body y block ∷ items) x = if same_identifier y x then Some BodyOf else defined items x
defined (Main y ∷ items) x = defined items x

abbrev pub type_of_sort : Option Sort → Option CppType
type_of_sort None = None
type_of_sort (Some (VariableOf t)) = Some t
type_of_sort (Some BodyOf) = None

-- the types of the global variables
abbrev pub global_types : Program → Types
global_types P x = type_of_sort (defined (sources_of P.modules) x)

-- no name is declared, or defined, twice
abbrev pub AreDeclaredOnce : List Declaration → Type 0
AreDeclaredOnce [] = Unit {0}
AreDeclaredOnce (Extern t x ∷ items) = (declared items x ≡ None) × AreDeclaredOnce items
AreDeclaredOnce (BodyHead x ∷ items) = (declared items x ≡ None) × AreDeclaredOnce items

abbrev pub AreDefinedOnce : List Definition → Type 0
AreDefinedOnce [] = Unit {0}
AreDefinedOnce (Variable t x z ∷ items) = (defined items x ≡ None) × AreDefinedOnce items
AreDefinedOnce (Body x block ∷ items) = (defined items x ≡ None) × AreDefinedOnce items
AreDefinedOnce (Main x ∷ items) = AreDefinedOnce items

abbrev pub AreTyped : Types → List Definition → Type 0
AreTyped globals [] = Unit {0}
AreTyped globals (Variable t x z ∷ items) = (z ≡ zero_of t) × AreTyped globals items
AreTyped globals (Body x block ∷ items) = IsTypedBlock true globals nothing block × AreTyped globals items
AreTyped globals (Main x ∷ items) = AreTyped globals items

-- the bodies that a `main` starts
abbrev pub mains : List Definition → List Identifier
mains [] = []
mains (Variable t x z ∷ items) = mains items
mains (Body x block ∷ items) = mains items
mains (Main x ∷ items) = x ∷ mains items

pub record IsTyped (P : Program) : Type 0 where
  pub declared_once : AreDeclaredOnce (headers_of P.modules)
  pub defined_once : AreDefinedOnce (sources_of P.modules)
  pub paired : (x : Identifier) → declared (headers_of P.modules) x ≡ defined (sources_of P.modules) x
  pub typed : AreTyped (global_types P) (sources_of P.modules)
  -- there is one `main`, and it starts a body
  pub main : Identifier
  pub one_main : mains (sources_of P.modules) ≡ main ∷ []
  pub main_body : defined (sources_of P.modules) main ≡ Some BodyOf
