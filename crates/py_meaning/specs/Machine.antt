-- The source machine: it runs a program in small steps, with no types (Python reference, "Execution model", "Evaluation
-- order", "Assignment statements", "The if statement", "The while statement"). A step looks at the first control item. An item that stands for a tree is replaced by
-- the items of its parts in the order of their evaluation and by one that finishes; that one takes its operands from the
-- stack of values.
use Rattle.std.specs.Prelude.{ℕ, pos, List, [], ◌∷◌, ◌++◌, Bool, true, false, Option, Some, None, codes}
use Rattle.runs.specs.Run.{Done, Raised, Wrong, Next, Goes, Ticks, Ends, Machine}
use Rattle.runs.specs.FiniteMap.{Map, nothing, put}
use Rattle.py_meaning.specs.Name.{Name, text_of}
use Rattle.py_meaning.specs.Tree.{Unary, Binary, Comparison, Expr, EName, ENumber, EUnary, EBinary, Condition, CCompare, Stmt, SAssign, SPrint, SIf, SWhile, Body, none, more}
use Rattle.py_meaning.specs.Value.{Value, number_value, unary_value, binary_value, comparison_value, truth_of, text_of_value}
use Rattle.py_meaning.specs.Program.{Program, Global, In, same_global}

pub data Item : Type 0 where
  -- trees that are still to do
  Run : (body : Body) → Item
  Do : (statement : Stmt) → Item
  Evaluate : (expression : Expr) → Item
  Test : (condition : Condition) → Item
  -- what finishes one: a row of an operator, a binding of a global, a printing
  Apply : (operator : Unary) → Item
  Combine : (operator : Binary) → Item
  Compare : (operator : Comparison) → Item
  Bind : (name : Name) → Item
  Show : Item
  -- one of two bodies is run, by the truth of a value
  Branch : (body : Body) → (otherwise : Body) → Item
  -- the innermost loop is about to test; by the truth of a value it goes round or is left
  Turn : Item
  Repeat : Item

-- what a frame is in the midst of: a loop that is under way, with the items that come after it
pub data Context : Type 0 where
  Looping : (condition : Condition) → (body : Body) → (after : List Item) → Context

-- a function, or the body of a module, that is being run
pub record Frame : Type 0 where
  -- the number of the module that it belongs to
  pub owner : ℕ
  pub control : List Item
  pub values : List Value
  -- what was entered last comes first
  pub contexts : List Context

pub record World : Type 0 where
  pub globals : Map Global Value
  -- the bytes that have not been read, and those that were written
  pub input : List ℕ
  pub output : List ℕ

pub record Moment : Type 0 where
  pub frames : List Frame
  pub world : World

-- the frame that is run, without the item that the step looks at
pub record Here : Type 0 where
  pub frame : Frame
  pub below : List Frame
  pub world : World

-- the moment that goes on with these items and values, within these contexts
abbrev pub within : Here → List Context → List Item → List Value → Moment
within h contexts items values =
    record { frames = record { owner = h.frame.owner; control = items; values = values; contexts = contexts } ∷ h.below; world = h.world }

abbrev pub resume : Here → List Item → List Value → Moment
resume h items values = within h h.frame.contexts items values

-- goes on with these items in front of what is left
abbrev pub go : Here → List Item → List Value → Next Moment
go h items values = Goes (resume h (items ++ h.frame.control) values)

abbrev pub with_world : Here → World → Here
with_world h world = record { frame = h.frame; below = h.below; world = world }

abbrev pub with_output : World → List ℕ → World
with_output w output = record { globals = w.globals; input = w.input; output = output }

abbrev pub with_global : World → Global → Value → World
with_global w g v = record { globals = put same_global w.globals g v; input = w.input; output = w.output }

-- an exception that nothing catches ends the run
abbrev pub raise : List ℕ → List ℕ → Next Moment
raise class message = Ends (Raised class message)

-- goes on with a value on the stack, if the operation has one
abbrev pub push : Here → Option Value → List Value → Next Moment
push h None values = Ends Wrong
push h (Some v) values = go h [] (v ∷ values)

-- a name that is read while it is unbound raises NameError
abbrev pub read : Here → Name → Option Value → Next Moment
read h x None = raise (codes "NameError") (codes "name '" ++ (text_of x ++ codes "' is not defined"))
read h x (Some v) = go h [] (v ∷ h.frame.values)

abbrev pub apply : Program → Unary → Here → List Value → Next Moment
apply P o h [] = Ends Wrong
apply P o h (v ∷ values) = push h (unary_value P.width o v) values

abbrev pub combine : Program → Binary → Here → List Value → Next Moment
combine P o h [] = Ends Wrong
combine P o h (v ∷ []) = Ends Wrong
combine P o h (v ∷ u ∷ values) = push h (binary_value P.width o u v) values

abbrev pub compare : Comparison → Here → List Value → Next Moment
compare o h [] = Ends Wrong
compare o h (v ∷ []) = Ends Wrong
compare o h (v ∷ u ∷ values) = push h (comparison_value o u v) values

abbrev pub bind : Name → Here → List Value → Next Moment
bind x h [] = Ends Wrong
bind x h (v ∷ values) = go (with_world h (with_global h.world (In h.frame.owner x) v)) [] values

-- the text of what is printed, and the end of its line
abbrev pub write_line : Here → Option (List ℕ) → List Value → Next Moment
write_line h None values = Ends Wrong
write_line h (Some text) values = go (with_world h (with_output h.world (h.world.output ++ (text ++ 10 ∷ [])))) [] values

abbrev pub show : Here → List Value → Next Moment
show h [] = Ends Wrong
show h (v ∷ values) = write_line h (text_of_value v) values

-- goes on with one of two bodies
abbrev pub choose : Here → Option Bool → Body → Body → List Value → Next Moment
choose h None body other values = Ends Wrong
choose h (Some true) body other values = go h (Run body ∷ []) values
choose h (Some false) body other values = go h (Run other ∷ []) values

abbrev pub branch : Body → Body → Here → List Value → Next Moment
branch body other h [] = Ends Wrong
branch body other h (v ∷ values) = choose h (truth_of v) body other values

-- what comes after a loop is kept with it
abbrev pub enter : Here → Condition → Body → Next Moment
enter h c body = Goes (within h (Looping c body h.frame.control ∷ h.frame.contexts) (Turn ∷ []) h.frame.values)

-- a loop that is about to test takes a tick
abbrev pub turn : Here → List Context → Next Moment
turn h [] = Ends Wrong
turn h (Looping c body after ∷ contexts) = Ticks (resume h (Test c ∷ Repeat ∷ h.frame.control) h.frame.values)

-- a loop that goes round runs its body and is about to test again; one that is left goes on with what comes after it
abbrev pub go_round : Here → Option Bool → Body → List Item → List Context → List Value → Next Moment
go_round h None body after contexts values = Ends Wrong
go_round h (Some true) body after contexts values = go h (Run body ∷ Turn ∷ []) values
go_round h (Some false) body after contexts values = Goes (within h contexts after values)

abbrev pub repeat : Here → List Context → List Value → Next Moment
repeat h contexts [] = Ends Wrong
repeat h [] (v ∷ values) = Ends Wrong
repeat h (Looping c body after ∷ contexts) (v ∷ values) = go_round h (truth_of v) body after contexts values

-- what an item does
abbrev pub act : Program → Item → Here → Next Moment
act P (Run none) h = go h [] h.frame.values
act P (Run (more s body)) h = go h (Do s ∷ Run body ∷ []) h.frame.values
act P (Do (SAssign p x e)) h = go h (Evaluate e ∷ Bind x ∷ []) h.frame.values
act P (Do (SPrint p c e)) h = go h (Evaluate e ∷ Show ∷ []) h.frame.values
act P (Do (SIf p c body other)) h = go h (Test c ∷ Branch body other ∷ []) h.frame.values
act P (Do (SWhile p c body)) h = enter h c body
act P (Evaluate (EName p x)) h = read h x (h.world.globals (In h.frame.owner x))
act P (Evaluate (ENumber p n)) h = go h [] (number_value P.width (pos n) ∷ h.frame.values)
act P (Evaluate (EUnary p o e)) h = go h (Evaluate e ∷ Apply o ∷ []) h.frame.values
act P (Evaluate (EBinary p o a b)) h = go h (Evaluate a ∷ Evaluate b ∷ Combine o ∷ []) h.frame.values
act P (Test (CCompare p o a b)) h = go h (Evaluate a ∷ Evaluate b ∷ Compare o ∷ []) h.frame.values
act P (Apply o) h = apply P o h h.frame.values
act P (Combine o) h = combine P o h h.frame.values
act P (Compare o) h = compare o h h.frame.values
act P (Bind x) h = bind x h h.frame.values
act P Show h = show h h.frame.values
act P (Branch body other) h = branch body other h h.frame.values
act P Turn h = turn h h.frame.contexts
act P Repeat h = repeat h h.frame.contexts h.frame.values

-- a body that is over leaves its frame
abbrev pub step_in : Program → List Item → Here → Next Moment
step_in P [] h = Goes (record { frames = h.below; world = h.world })
step_in P (item ∷ control) h =
    act P item (record { frame = record { owner = h.frame.owner; control = control; values = h.frame.values; contexts = h.frame.contexts }; below = h.below; world = h.world })

abbrev pub step_of : Program → List Frame → World → Next Moment
step_of P [] world = Ends Done
step_of P (frame ∷ below) world = step_in P frame.control (record { frame = frame; below = below; world = world })

abbrev pub machine : Program → Machine Moment
machine P = record { step = λ m. step_of P m.frames m.world; output = λ m. m.world.output }

-- the main module is about to be run, and nothing is bound
abbrev pub start : Program → List ℕ → Moment
start P input =
    record {
      frames = record { owner = 0; control = Run P.main.body ∷ []; values = []; contexts = [] } ∷ [];
      world = record { globals = nothing; input = input; output = [] };
    }
