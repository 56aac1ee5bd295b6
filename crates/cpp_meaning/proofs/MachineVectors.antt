-- What some trees do when they are run: what C++ says of each, for every input and every number of ticks.
use Rattle.std.proofs.Common.{◌≡◌, ℕ, pos, negsuc, List, [], ◌∷◌, Option, Some, None, refl, codes}
use Rattle.std.specs.Int.{int_wrap}
use Rattle.std.specs.Fmt.{digits}
use Rattle.runs.specs.FiniteMap.{nothing, put}
use Rattle.runs.specs.Run.{Done, Raised, GoingOn, Gives, ComesTo}
use Rattle.runs.specs.Moment.{moment_at}
use Rattle.cpp_meaning.specs.Tree.{Identifier, CppType, Int32, Truth, Text, ZeroNumber, FalseTruth, NullPointer, Plus, Minus, Times, Less, LessOrEqual, Greater, GreaterOrEqual, Equal, NotEqual, Expr, Named, Number, Literal, Operate, Negate, TextOf, Operand, CallRow, Declare, Assign, If, IfElse, While, Block, none, more, Extern, BodyHead, Variable, Body, Main, Program}
use Rattle.cpp_meaning.specs.Typing.{Types}
use Rattle.cpp_meaning.specs.Machine.{Cell, Word, Characters, Null, Cells, Moment, evaluate, text_of_cell, machine, start}
use Rattle.cpp_meaning.proofs.TreeVectors.{g, t, body, write, print, declare, program, sum, wrapped_sum, at_most, rounds, countdown}

-- whatever is to be read, and with any number of ticks, the program's run writes this and is done
abbrev Writes : Program → List ℕ → Type 0
Writes P out = (input : List ℕ) (n : ℕ) → ComesTo (machine P) n (start P input) (Gives out Done)

-- a program with this body, and no globals
abbrev of_body : Block → Program
of_body block = program (BodyHead body ∷ []) (Body body block ∷ Main body ∷ [])

-- ---- whole runs

sum_runs : Writes sum (codes "3\n")
unfolding put int_wrap digits
sum_runs input n = (20, refl)

wrapped_sum_runs : Writes wrapped_sum (codes "-2147483648\n")
unfolding put int_wrap digits
wrapped_sum_runs input n = (20, refl)

empty_runs : Writes (of_body none) []
empty_runs input n = (10, refl)

-- the body that `main` starts is run, and no other
other_body : Writes (program (BodyHead g ∷ BodyHead body ∷ []) (Body g (more (write (Literal (codes "a"))) none) ∷ Body body (more (write (Literal (codes "b"))) none) ∷ Main body ∷ [])) (codes "b")
other_body input n = (10, refl)

-- int32_t g_0_x = 0; .. print it: a global has its first value before `main` runs
first_value : Writes (program (Extern Int32 g ∷ BodyHead body ∷ []) (Variable Int32 g ZeroNumber ∷ Body body (more declare (print (Named g))) ∷ Main body ∷ [])) (codes "0\n")
unfolding put digits
first_value input n = (20, refl)

-- a local of a global's name hides it
hidden : Writes (program (Extern Int32 g ∷ BodyHead body ∷ []) (Variable Int32 g ZeroNumber ∷ Body body (more (Declare Text g NullPointer) (more (Assign g (Operand (Literal (codes "a")))) (more (write (Named g)) none))) ∷ Main body ∷ [])) (codes "a")
unfolding put
hidden input n = (20, refl)

-- the text of a text is itself
text_of_text : Writes (of_body (more declare (more (Assign t (CallRow TextOf (Literal (codes "a b") ∷ []))) (more (write (Named t)) none)))) (codes "a b")
unfolding put
text_of_text input n = (20, refl)

-- an assignment reads the old value
counted : Writes (of_body (more (Declare Int32 g ZeroNumber) (more declare (more (Assign g (Operand (Operate Minus (Named g) (Number 5)))) (more (Assign g (Operand (Operate Times (Named g) (Named g)))) (print (Named g))))))) (codes "25\n")
unfolding put int_wrap digits
counted input n = (30, refl)

-- ---- moments of the run of `x = 1`, `print(x + 2)`

abbrev held : Option Moment → Identifier → Option Cell
held None x = None
held (Some m) x = m.world.globals x

abbrev after : ℕ → Option Moment
after k = moment_at (machine sum) k (start sum [])

-- the declaration is one step, and the assignment another
global_held : (held (after 0) g ≡ Some (Word (pos 0))) × (held (after 1) g ≡ Some (Word (pos 0))) × (held (after 2) g ≡ Some (Word (pos 1)))
unfolding put int_wrap
global_held = (refl, refl, refl)

-- a local is no global
local_not_held : held (after 3) t ≡ None
unfolding put int_wrap digits
local_not_held = refl

-- ---- operands

abbrev value : Expr → Cell
value e = evaluate nothing nothing e

left_nested : value (Operate Minus (Operate Minus (Number 10) (Number 4)) (Number 3)) ≡ Word (pos 3)
unfolding int_wrap
left_nested = refl

right_nested : value (Operate Minus (Number 10) (Operate Minus (Number 4) (Number 3))) ≡ Word (pos 9)
unfolding int_wrap
right_nested = refl

negated : (value (Negate (Number 7)) ≡ Word (negsuc 6)) × (value (Negate (Negate (Number 7))) ≡ Word (pos 7))
unfolding int_wrap
negated = (refl, refl)

-- the least number is its own negative
least_negated : value (Negate (Operate Plus (Number 2147483647) (Number 1))) ≡ Word (negsuc 2147483647)
unfolding int_wrap
least_negated = refl

product_wraps : value (Operate Times (Number 65536) (Number 65537)) ≡ Word (pos 65536)
unfolding int_wrap
product_wraps = refl

-- ---- cells carry no tag

abbrev same_cell : Cell → Cells
same_cell c x = Some c

-- g_0_x has no declared type, so no operator is picked, though its cell holds a number
untyped_sum : (evaluate nothing (same_cell (Word (pos 1))) (Operate Plus (Named g) (Number 2)) ≡ Null) × (evaluate nothing (same_cell (Word (pos 1))) (Negate (Named g)) ≡ Null)
untyped_sum = (refl, refl)

abbrev all_of : CppType → Types
all_of type x = Some type

-- the declared type picks the operator, and two pointers have no sum
typed_sum : (evaluate (all_of Int32) (same_cell (Word (pos 1))) (Operate Plus (Named g) (Named t)) ≡ Word (pos 2)) × (evaluate (all_of Text) (same_cell (Word (pos 1))) (Operate Plus (Named g) (Named t)) ≡ Null)
unfolding int_wrap
typed_sum = (refl, refl)

-- the declared type picks the row
texts_of_cells : (text_of_cell Int32 (Word (negsuc 9)) ≡ codes "-10") × (text_of_cell Text (Characters (codes "7a")) ≡ codes "7a")
unfolding digits
texts_of_cells = (refl, refl)

-- ---- null

-- `str` of a null text is that of None
null_text : (text_of_cell Text Null ≡ codes "None") × Writes (of_body (more (Declare Text t NullPointer) (more (Assign t (CallRow TextOf (Named t ∷ []))) (more (write (Named t)) none)))) (codes "None")
unfolding put
null_text = (refl, λ input n. (20, refl))

-- a null text can't be written
null_write : (input : List ℕ) (n : ℕ) → let P = of_body (more (Declare Text t NullPointer) (more (write (Named t)) none)) in ComesTo (machine P) n (start P input) (Gives [] (Raised (codes "AttributeError") (codes "null")))
unfolding put
null_write input n = (20, refl)

-- ---- truth values

-- a truth value is the word 1 or 0
comparisons_hold : (value (Operate Less (Number 1) (Number 2)) ≡ Word (pos 1)) × (value (Operate LessOrEqual (Number 2) (Number 2)) ≡ Word (pos 1)) × (value (Operate Greater (Number 2) (Number 1)) ≡ Word (pos 1)) × (value (Operate GreaterOrEqual (Number 2) (Number 2)) ≡ Word (pos 1)) × (value (Operate Equal (Number 2) (Number 2)) ≡ Word (pos 1)) × (value (Operate NotEqual (Number 1) (Number 2)) ≡ Word (pos 1))
unfolding int_wrap
comparisons_hold = (refl, refl, refl, refl, refl, refl)

comparisons_fail : (value (Operate Less (Number 2) (Number 2)) ≡ Word (pos 0)) × (value (Operate LessOrEqual (Number 2) (Number 1)) ≡ Word (pos 0)) × (value (Operate Greater (Number 2) (Number 2)) ≡ Word (pos 0)) × (value (Operate GreaterOrEqual (Number 1) (Number 2)) ≡ Word (pos 0)) × (value (Operate Equal (Number 1) (Number 2)) ≡ Word (pos 0)) × (value (Operate NotEqual (Number 2) (Number 2)) ≡ Word (pos 0))
unfolding int_wrap
comparisons_fail = (refl, refl, refl, refl, refl, refl)

-- the order is that of signed numbers
negative_less : value (Operate Less (Negate (Number 1)) (Number 0)) ≡ Word (pos 1)
unfolding int_wrap
negative_less = refl

-- of two true operands
truths_equal : (value (Operate Equal (at_most 1 2) (at_most 3 4)) ≡ Word (pos 1)) × (value (Operate NotEqual (at_most 1 2) (at_most 3 4)) ≡ Word (pos 0))
unfolding int_wrap
truths_equal = (refl, refl)

texts_of_truths : (text_of_cell Truth (Word (pos 1)) ≡ codes "True") × (text_of_cell Truth (Word (pos 0)) ≡ codes "False")
texts_of_truths = (refl, refl)

-- bool g_0_x = false; .. g_0_x = (1 <= 2); print it
truth_printed : Writes (of_body (more (Declare Truth g FalseTruth) (more declare (more (Assign g (Operand (at_most 1 2))) (print (Named g)))))) (codes "True\n")
unfolding put int_wrap
truth_printed input n = (30, refl)

-- ---- branches, which take no tick: these runs are done with any number of them

-- what comes behind is run too
if_true : Writes (of_body (more (If (at_most 1 2) (more (write (Literal (codes "a"))) none)) (more (write (Literal (codes "b"))) none))) (codes "ab")
unfolding int_wrap
if_true input n = (20, refl)

if_false : Writes (of_body (more (If (at_most 2 1) (more (write (Literal (codes "a"))) none)) (more (write (Literal (codes "b"))) none))) (codes "b")
unfolding int_wrap
if_false input n = (20, refl)

if_else_true : Writes (of_body (more (IfElse (at_most 1 2) (more (write (Literal (codes "a"))) none) (more (write (Literal (codes "b"))) none)) (more (write (Literal (codes "c"))) none))) (codes "ac")
unfolding int_wrap
if_else_true input n = (20, refl)

if_else_false : Writes (of_body (more (IfElse (at_most 2 1) (more (write (Literal (codes "a"))) none) (more (write (Literal (codes "b"))) none)) (more (write (Literal (codes "c"))) none))) (codes "bc")
unfolding int_wrap
if_else_false input n = (20, refl)

-- ---- loops: a tick is due each time a `while` is about to test

abbrev GoesOn : Program → ℕ → List ℕ → Type 0
GoesOn P n out = (input : List ℕ) → ComesTo (machine P) n (start P input) (Gives out GoingOn)

-- with no tick nothing is tested yet, and with n there were n rounds
no_round : GoesOn rounds 0 []
unfolding put int_wrap digits
no_round input = (60, refl)

one_round : GoesOn rounds 1 (codes "7\n")
unfolding put int_wrap digits
one_round input = (60, refl)

three_rounds : GoesOn rounds 3 (codes "7\n7\n7\n")
unfolding put int_wrap digits
three_rounds input = (60, refl)

-- a test that fails takes a tick too
not_entered : GoesOn (of_body (more (While (at_most 2 1) none) none)) 0 [] × ((input : List ℕ) → let P = of_body (more (While (at_most 2 1) none) none) in ComesTo (machine P) 1 (start P input) (Gives [] Done))
unfolding int_wrap
not_entered = (λ input. (20, refl), λ input. (20, refl))

-- three rounds and the test that ends them
countdown_is_done : (input : List ℕ) → ComesTo (machine countdown) 4 (start countdown input) (Gives [] Done)
unfolding put int_wrap
countdown_is_done input = (60, refl)

countdown_goes_on : GoesOn countdown 3 []
unfolding put int_wrap
countdown_goes_on input = (60, refl)

-- g_0_x = 1; while ((g_0_x > 0)) { g_0_x = (g_0_x - 1); while ((2 <= 1)) {} if ((1 <= 2)) { write("a"_t); } }: a loop
-- takes its ticks within another one too, two of the outer one and one of the inner one
abbrev within_loop : Program
within_loop =
    program (Extern Int32 g ∷ BodyHead body ∷ [])
    (Variable Int32 g ZeroNumber
    ∷ Body body (more (Assign g (Operand (Number 1))) (more (While (Operate Greater (Named g) (Number 0)) (more (Assign g (Operand (Operate Minus (Named g) (Number 1)))) (more (While (at_most 2 1) none) (more (If (at_most 1 2) (more (write (Literal (codes "a"))) none)) none)))) none))
    ∷ Main body ∷ [])

within_loop_goes_on : GoesOn within_loop 1 [] × GoesOn within_loop 2 (codes "a")
unfolding put int_wrap
within_loop_goes_on = (λ input. (60, refl), λ input. (60, refl))

within_loop_is_done : (input : List ℕ) → ComesTo (machine within_loop) 3 (start within_loop input) (Gives (codes "a") Done)
unfolding put int_wrap
within_loop_is_done input = (60, refl)
