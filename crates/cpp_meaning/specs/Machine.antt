-- The C++ machine. Cells carry no tag: each operation is picked by declared types (ISO C++, "Expressions"; signed
-- arithmetic wraps, as `-fwrapv` has it). The rows are the support library.
use Rattle.std.specs.Prelude.{ℕ, ℤ, pos, ◌+ℤ◌, ◌-ℤ◌, ◌*ℤ◌, int_lt, int_le, List, [], ◌∷◌, ◌++◌, Bool, true, false, not, Option, Some, None, if◌then◌else◌, codes}
use Rattle.std.specs.Ordering.{int_eq}
use Rattle.runs.specs.Number.{W32, wrapped, decimal_of}
use Rattle.runs.specs.Run.{Done, Raised, Next, Goes, Ticks, Ends, Machine}
use Rattle.runs.specs.FiniteMap.{Map, nothing, put}
use Rattle.cpp_meaning.specs.Tree.{Identifier, same_identifier, CppType, Int32, Truth, Text, Zero, ZeroNumber, FalseTruth, NullPointer, Operator, Plus, Minus, Times, Less, LessOrEqual, Greater, GreaterOrEqual, Equal, NotEqual, Expr, Named, Number, Literal, Operate, Negate, Row, TextOf, Write, Value, Operand, CallRow, Stmt, Declare, Assign, Perform, If, IfElse, While, Block, none, more, Definition, Variable, Body, Main, Program, sources_of}
use Rattle.cpp_meaning.specs.Typing.{Types, inner_first, in_scope, type_of, types_of, global_types, mains}

-- what a variable holds
pub data Cell : Type 0 where
  Word : (word : ℤ) → Cell
  -- a pointer to a text that never changes, so it is the text
  Characters : (text : List ℕ) → Cell
  Reference : (object : ℕ) → Cell
  Null : Cell

abbrev pub Cells : Type 0
Cells = Map Identifier Cell

-- the cell as a number: a well-typed program reads one only where one was stored
abbrev pub word_of : Cell → ℤ
word_of (Word z) = z
word_of (Characters t) = pos 0
word_of (Reference n) = pos 0
word_of Null = pos 0

-- the text that a cell points to, where it isn't null
abbrev pub pointed_to : Cell → Option (List ℕ)
pointed_to (Word z) = Some []
pointed_to (Characters t) = Some t
pointed_to (Reference n) = Some []
pointed_to Null = None

-- `str` of a pointer to a text: null stands for None
abbrev pub text_or_none : Option (List ℕ) → List ℕ
text_or_none (Some t) = t
text_or_none None = codes "None"

abbrev pub held : Option Cell → Cell
held None = Null
held (Some c) = c

abbrev pub zero_cell : Zero → Cell
zero_cell ZeroNumber = Word (pos 0)
zero_cell FalseTruth = Word (pos 0)
zero_cell NullPointer = Null

-- a truth value is a word: 1 or 0
abbrev pub truth_word : Bool → ℤ
truth_word true = pos 1
truth_word false = pos 0

abbrev pub is_true : ℤ → Bool
is_true z = not (int_eq z (pos 0))

-- arithmetic wraps, as `-fwrapv` has it, and a comparison gives a truth value
abbrev pub operation : Operator → ℤ → ℤ → ℤ
operation Plus a b = wrapped W32 (a +ℤ b)
operation Minus a b = wrapped W32 (a -ℤ b)
operation Times a b = wrapped W32 (a *ℤ b)
operation Less a b = truth_word (int_lt a b)
operation LessOrEqual a b = truth_word (int_le a b)
operation Greater a b = truth_word (int_lt b a)
operation GreaterOrEqual a b = truth_word (int_le b a)
operation Equal a b = truth_word (int_eq a b)
operation NotEqual a b = truth_word (not (int_eq a b))

-- an operator, picked by the type of its operands
abbrev pub operate : Option CppType → Operator → Cell → Cell → Cell
operate (Some Int32) o a b = Word (operation o (word_of a) (word_of b))
operate (Some Truth) o a b = Word (operation o (word_of a) (word_of b))
operate (Some Text) o a b = Null
operate None o a b = Null

abbrev pub evaluate : Types → Cells → Expr → Cell
evaluate types cells (Named x) = held (cells x)
evaluate types cells (Number n) = Word (wrapped W32 (pos n))
evaluate types cells (Literal t) = Characters t
evaluate types cells (Operate o a b) = operate (type_of types a) o (evaluate types cells a) (evaluate types cells b)
evaluate types cells (Negate e) = operate (type_of types e) Minus (Word (pos 0)) (evaluate types cells e)

abbrev pub evaluate_all : Types → Cells → List Expr → List Cell
evaluate_all types cells [] = []
evaluate_all types cells (e ∷ es) = evaluate types cells e ∷ evaluate_all types cells es

-- `str` of a truth value
abbrev pub text_of_truth : Bool → List ℕ
text_of_truth true = codes "True"
text_of_truth false = codes "False"

-- the text of a cell of a type
abbrev pub text_of_cell : CppType → Cell → List ℕ
text_of_cell Int32 c = decimal_of (word_of c)
text_of_cell Truth c = text_of_truth (is_true (word_of c))
text_of_cell Text c = text_or_none (pointed_to c)

pub record Frame : Type 0 where
  pub control : List Block
  -- the locals that have been declared
  pub types : Types
  pub cells : Cells

pub record World : Type 0 where
  pub globals : Cells
  pub input : List ℕ
  pub output : List ℕ

pub record Moment : Type 0 where
  pub frames : List Frame
  pub world : World

-- the frame that is run, without the block that the step looks at
pub record Here : Type 0 where
  pub frame : Frame
  pub below : List Frame
  pub world : World

abbrev pub types_here : Program → Here → Types
types_here P h = in_scope h.frame.types (global_types P)

abbrev pub cells_here : Here → Cells
cells_here h x = inner_first (h.frame.cells x) (h.world.globals x)

-- the moment that goes on with these blocks in front of what is left
abbrev pub resume : Here → List Block → Moment
resume h blocks =
    record {
      frames = record { control = blocks ++ h.frame.control; types = h.frame.types; cells = h.frame.cells } ∷ h.below;
      world = h.world;
    }

abbrev pub go : Here → List Block → Next Moment
go h blocks = Goes (resume h blocks)

abbrev pub with_local : Here → Identifier → Cell → Here
with_local h x c =
    record {
      frame = record { control = h.frame.control; types = h.frame.types; cells = put same_identifier h.frame.cells x c };
      below = h.below;
      world = h.world;
    }

abbrev pub with_global : Here → Identifier → Cell → Here
with_global h x c =
    record {
      frame = h.frame;
      below = h.below;
      world = record { globals = put same_identifier h.world.globals x c; input = h.world.input; output = h.world.output };
    }

-- a new local of a type
abbrev pub with_declared : Here → CppType → Identifier → Cell → Here
with_declared h t x c =
    record {
      frame = record { control = h.frame.control; types = put same_identifier h.frame.types x t; cells = put same_identifier h.frame.cells x c };
      below = h.below;
      world = h.world;
    }

abbrev pub with_written : Here → List ℕ → Here
with_written h text =
    record {
      frame = h.frame;
      below = h.below;
      world = record { globals = h.world.globals; input = h.world.input; output = h.world.output ++ text };
    }

-- a variable that is a local of the frame, or else a global, takes a cell
abbrev pub store : Option CppType → Here → Identifier → Cell → Here
store (Some t) h x c = with_local h x c
store None h x c = with_global h x c

-- what a row gives, by the types of its operands
abbrev pub row_cell : Row → List (Option CppType) → List Cell → Cell
row_cell TextOf (Some t ∷ []) (c ∷ []) = Characters (text_of_cell t c)
row_cell _ _ _ = Null

-- what a row writes; a null text can't be written
abbrev pub row_writes : Row → List (Option CppType) → List Cell → Option (List ℕ)
row_writes Write (Some Text ∷ []) (c ∷ []) = pointed_to c
row_writes _ _ _ = Some []

abbrev pub value_cell : Types → Cells → Value → Cell
value_cell types cells (Operand e) = evaluate types cells e
value_cell types cells (CallRow row es) = row_cell row (types_of types es) (evaluate_all types cells es)

abbrev pub value_writes : Types → Cells → Value → Option (List ℕ)
value_writes types cells (Operand e) = Some []
value_writes types cells (CallRow row es) = row_writes row (types_of types es) (evaluate_all types cells es)

-- goes on with what is written, or raises where null is read through
abbrev pub after_writing : Option (List ℕ) → (List ℕ → Next Moment) → Next Moment
after_writing None further = Ends (Raised (codes "AttributeError") (codes "null"))
after_writing (Some text) further = further text

-- what is tested
abbrev pub holds : Program → Here → Expr → Bool
holds P h e = is_true (word_of (evaluate (types_here P h) (cells_here h) e))

-- What a statement does, where this block comes after it. A `while` that is about to test takes a tick; where the test
-- holds, its body is run, and then the same statement again.
abbrev pub act : Program → Stmt → Block → Here → Next Moment
act P (Declare t x z) rest h = go (with_declared h t x (zero_cell z)) (rest ∷ [])
act P (Assign x v) rest h =
    after_writing (value_writes (types_here P h) (cells_here h) v)
    (λ text. go (store (h.frame.types x) (with_written h text) x (value_cell (types_here P h) (cells_here h) v)) (rest ∷ []))
act P (Perform v) rest h = after_writing (value_writes (types_here P h) (cells_here h) v) (λ text. go (with_written h text) (rest ∷ []))
act P (If e body) rest h = go h ((if holds P h e then body else none) ∷ rest ∷ [])
act P (IfElse e body other) rest h = go h ((if holds P h e then body else other) ∷ rest ∷ [])
act P (While e body) rest h = Ticks (resume h (if holds P h e then body ∷ more (While e body) rest ∷ [] else rest ∷ []))

abbrev pub step_block : Program → Block → Here → Next Moment
step_block P none h = go h []
step_block P (more s rest) h = act P s rest h

-- a body that is over leaves its frame
abbrev pub step_in : Program → List Block → Here → Next Moment
step_in P [] h = Goes (record { frames = h.below; world = h.world })
step_in P (block ∷ control) h =
    step_block P block (record { frame = record { control = control; types = h.frame.types; cells = h.frame.cells }; below = h.below; world = h.world })

abbrev pub step_of : Program → List Frame → World → Next Moment
step_of P [] world = Ends Done
step_of P (frame ∷ below) world = step_in P frame.control (record { frame = frame; below = below; world = world })

abbrev pub machine : Program → Machine Moment
machine P = record { step = λ m. step_of P m.frames m.world; output = λ m. m.world.output }

-- the block of the body of this name
abbrev pub block_in : List Definition → Identifier → Block
block_in [] x = none
block_in (Variable t y z ∷ items) x = block_in items x
block_in (Body y block ∷ items) x = if same_identifier y x then block else block_in items x
block_in (Main y ∷ items) x = block_in items x

-- each global variable has its first value before `main` runs
abbrev pub first_cells : List Definition → Cells
first_cells [] = nothing
first_cells (Variable t x z ∷ items) = put same_identifier (first_cells items) x (zero_cell z)
first_cells (Body x block ∷ items) = first_cells items
first_cells (Main x ∷ items) = first_cells items

abbrev pub started : List Definition → List Identifier → Block
started items [] = none
started items (x ∷ others) = block_in items x

-- `main` is about to run the body that it starts
abbrev pub start : Program → List ℕ → Moment
start P input =
    let items = sources_of P.modules in
    record {
      frames = record { control = started items (mains items) ∷ []; types = nothing; cells = nothing } ∷ [];
      world = record { globals = first_cells items; input = input; output = [] };
    }
