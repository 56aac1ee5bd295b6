-- What some modules do when they are run: what Python says of each, for every input. Where it has no loop, the number of
-- ticks doesn't matter.
use Rattle.std.proofs.Common.{◌≡◌, ℕ, suc, pos, negsuc, List, [], true, false, Option, Some, None, refl, codes}
use Rattle.std.specs.Int.{int_wrap}
use Rattle.std.specs.Fmt.{digits}
use Rattle.runs.specs.Number.{W32, W64}
use Rattle.runs.specs.FiniteMap.{put}
use Rattle.runs.specs.Run.{Ending, Done, Raised, GoingOn, Gives, ComesTo}
use Rattle.runs.specs.Moment.{moment_at}
use Rattle.py_meaning.specs.Name.{Name}
use Rattle.py_tokens.specs.Token.{Place}
use Rattle.py_meaning.specs.Tree.{Negative, Add, Subtract, Multiply, Comparison, LessThan, AtMost, GreaterThan, AtLeast, EqualTo, NotEqualTo, Expr, EName, ENumber, EUnary, EBinary, Condition, CCompare, Stmt, SAssign, SPrint, SIf, SWhile, Body, none, more}
use Rattle.py_meaning.specs.Value.{Value, VNone, VBool, VInt, VText, VReference, unary_value, binary_value, comparison_value, truth_of, text_of_value}
use Rattle.py_meaning.specs.Program.{Program, Global, In}
use Rattle.py_meaning.specs.Machine.{Moment, machine, start}

-- ---- modules

abbrev at : ℕ → ℕ → Place
at line column = record { «module» = 0; line = line; column = column }

abbrev program : Body → Program
program body = record { main = record { name = codes "main"; body = body }; width = W32 }

abbrev x : Name
x = codes "x"

abbrev y : Name
y = codes "y"

-- a statement that stands in this line and prints this
abbrev print : ℕ → Expr → Stmt
print line e = SPrint (at line 1) (at line 6) e

abbrev assign : ℕ → Name → Expr → Stmt
assign line z e = SAssign (at line 1) z e

abbrev number : ℕ → Expr
number n = ENumber (at 1 1) n

abbrev plus : Expr → Expr → Expr
plus a b = EBinary (at 1 1) Add a b

abbrev minus : Expr → Expr → Expr
minus a b = EBinary (at 1 1) Subtract a b

abbrev times : Expr → Expr → Expr
times a b = EBinary (at 1 1) Multiply a b

abbrev negative : Expr → Expr
negative e = EUnary (at 1 1) Negative e

abbrev named : Name → Expr
named z = EName (at 1 1) z

abbrev compare : Comparison → Expr → Expr → Condition
compare o a b = CCompare (at 1 1) o a b

abbrev branch : Condition → Body → Body → Stmt
branch c body other = SIf (at 1 1) c body other

abbrev loop : Condition → Body → Stmt
loop c body = SWhile (at 1 1) c body

abbrev alone : Stmt → Body
alone s = more s none

-- whatever is to be read, and with any number of ticks, the module's run writes this and ends so
abbrev RunsTo : Body → List ℕ → Ending → Type 0
RunsTo body out end = (input : List ℕ) (n : ℕ) → ComesTo (machine (program body)) n (start (program body) input) (Gives out end)

-- the same with this number of ticks
abbrev RunsFor : ℕ → Body → List ℕ → Ending → Type 0
RunsFor n body out end = (input : List ℕ) → ComesTo (machine (program body)) n (start (program body) input) (Gives out end)

-- ---- whole runs

nothing_runs : RunsTo none [] Done
nothing_runs input n = (10, refl)

-- print(2147483647 + 1)
wrapped_sum : RunsTo (more (print 1 (plus (number 2147483647) (number 1))) none) (codes "-2147483648\n") Done
unfolding int_wrap digits
wrapped_sum input n = (20, refl)

-- print(-2147483647 - 1 - 1)
wrapped_difference : RunsTo (more (print 1 (minus (minus (negative (number 2147483647)) (number 1)) (number 1))) none) (codes "2147483647\n") Done
unfolding int_wrap digits
wrapped_difference input n = (20, refl)

-- print(65536 * 65537)
wrapped_product : RunsTo (more (print 1 (times (number 65536) (number 65537))) none) (codes "65536\n") Done
unfolding int_wrap digits
wrapped_product input n = (20, refl)

-- x = 1, print(x + 2)
abbrev set_and_printed : Body
set_and_printed = more (assign 1 x (number 1)) (more (print 2 (plus (named x) (number 2))) none)

set_and_printed_runs : RunsTo set_and_printed (codes "3\n") Done
unfolding put int_wrap digits
set_and_printed_runs input n = (30, refl)

-- print(-7 * 3 - 2)
negative_product : RunsTo (more (print 1 (minus (times (negative (number 7)) (number 3)) (number 2))) none) (codes "-23\n") Done
unfolding int_wrap digits
negative_product input n = (30, refl)

-- x = 5, x = x * x, print(x)
squared : RunsTo (more (assign 1 x (number 5)) (more (assign 2 x (times (named x) (named x))) (more (print 3 (named x)) none))) (codes "25\n") Done
unfolding put int_wrap digits
squared input n = (40, refl)

-- x = 1, y = x, x = 2, print(y), print(x): a value stays what it was, and lines come in order
copied : RunsTo (more (assign 1 x (number 1)) (more (assign 2 y (named x)) (more (assign 3 x (number 2)) (more (print 4 (named y)) (more (print 5 (named x)) none))))) (codes "1\n2\n") Done
unfolding put int_wrap digits
copied input n = (60, refl)

-- print(10 - 4 - 3)
nested_left : RunsTo (more (print 1 (minus (minus (number 10) (number 4)) (number 3))) none) (codes "3\n") Done
unfolding int_wrap digits
nested_left input n = (30, refl)

-- print(10 - (4 - 3))
nested_right : RunsTo (more (print 1 (minus (number 10) (minus (number 4) (number 3)))) none) (codes "9\n") Done
unfolding int_wrap digits
nested_right input n = (30, refl)

-- print(-0)
zero_printed : RunsTo (more (print 1 (negative (number 0))) none) (codes "0\n") Done
unfolding int_wrap digits
zero_printed input n = (30, refl)

-- print(7), print(y), print(8): what was written before stays written
unset : RunsTo (more (print 1 (number 7)) (more (print 2 (named y)) (more (print 3 (number 8)) none))) (codes "7\n") (Raised (codes "NameError") (codes "name 'y' is not defined"))
unfolding int_wrap digits
unset input n = (30, refl)

-- x = x: the value is evaluated before the name is bound
unset_in_itself : RunsTo (more (assign 1 x (named x)) none) [] (Raised (codes "NameError") (codes "name 'x' is not defined"))
unset_in_itself input n = (30, refl)

-- print(x + y): the left operand is evaluated first
left_first : RunsTo (more (print 1 (plus (named x) (named y))) none) [] (Raised (codes "NameError") (codes "name 'x' is not defined"))
left_first input n = (30, refl)

-- ---- runs with branches

-- if 1 < 2: print(1); else: print(2); print(3)
taken : RunsTo (more (branch (compare LessThan (number 1) (number 2)) (alone (print 2 (number 1))) (alone (print 4 (number 2)))) (alone (print 5 (number 3)))) (codes "1\n3\n") Done
unfolding int_wrap digits
taken input n = (40, refl)

-- if 2 < 2: print(1); else: print(2), print(4); print(3)
taken_otherwise : RunsTo (more (branch (compare LessThan (number 2) (number 2)) (alone (print 2 (number 1))) (more (print 4 (number 2)) (alone (print 5 (number 4))))) (alone (print 6 (number 3)))) (codes "2\n4\n3\n") Done
unfolding int_wrap digits
taken_otherwise input n = (40, refl)

-- if 1 != 1: print(1); print(3): with no `else`, nothing is done otherwise
not_taken : RunsTo (more (branch (compare NotEqualTo (number 1) (number 1)) (alone (print 2 (number 1))) none) (alone (print 3 (number 3)))) (codes "3\n") Done
unfolding int_wrap digits
not_taken input n = (40, refl)

-- x = 4; if x - 1 >= 3: x = x + 1, (if x == 5: y = 1; else: y = 2); else: y = 3; print(y), print(x): a block makes no scope
abbrev inner_branch : Stmt
inner_branch = branch (compare EqualTo (named x) (number 5)) (alone (assign 5 y (number 1))) (alone (assign 7 y (number 2)))

abbrev outer_branch : Stmt
outer_branch =
    branch (compare AtLeast (minus (named x) (number 1)) (number 3)) (more (assign 3 x (plus (named x) (number 1))) (alone inner_branch)) (alone (assign 9 y (number 3)))

abbrev branch_in_branch : Body
branch_in_branch = more (assign 1 x (number 4)) (more outer_branch (more (print 10 (named y)) (alone (print 11 (named x)))))

branch_in_branch_runs : RunsTo branch_in_branch (codes "1\n5\n") Done
unfolding put int_wrap digits
branch_in_branch_runs input n = (80, refl)

-- if x < y: print(1): the left operand is evaluated first
unset_in_condition : RunsTo (alone (branch (compare LessThan (named x) (named y)) (alone (print 2 (number 1))) none)) [] (Raised (codes "NameError") (codes "name 'x' is not defined"))
unset_in_condition input n = (30, refl)

-- if 1 > 2: x = 1; print(x): a block that is not run binds nothing
unset_behind_block : RunsTo (more (branch (compare GreaterThan (number 1) (number 2)) (alone (assign 2 x (number 1))) none) (alone (print 3 (named x)))) [] (Raised (codes "NameError") (codes "name 'x' is not defined"))
unfolding int_wrap
unset_behind_block input n = (30, refl)

-- ---- runs with loops: a tick is due each time that a loop is about to test

-- x = 3; while x > 0: print(x), x = x - 1; print(x)
abbrev countdown : Body
countdown =
    more (assign 1 x (number 3))
    (more (loop (compare GreaterThan (named x) (number 0)) (more (print 3 (named x)) (alone (assign 4 x (minus (named x) (number 1))))))
    (alone (print 5 (named x))))

-- it tests four times
counted_down : (n : ℕ) → RunsFor (suc (suc (suc (suc n)))) countdown (codes "3\n2\n1\n0\n") Done
unfolding put int_wrap digits
counted_down n input = (100, refl)

counting_down : RunsFor 3 countdown (codes "3\n2\n1\n") GoingOn
unfolding put int_wrap digits
counting_down input = (100, refl)

not_yet_counting : RunsFor 0 countdown [] GoingOn
unfolding put int_wrap
not_yet_counting input = (100, refl)

-- while 1 < 2: print(7): it goes on for ever
abbrev endless : Body
endless = alone (loop (compare LessThan (number 1) (number 2)) (alone (print 2 (number 7))))

endless_at_once : RunsFor 0 endless [] GoingOn
endless_at_once input = (10, refl)

endless_once : RunsFor 1 endless (codes "7\n") GoingOn
unfolding int_wrap digits
endless_once input = (30, refl)

endless_thrice : RunsFor 3 endless (codes "7\n7\n7\n") GoingOn
unfolding int_wrap digits
endless_thrice input = (60, refl)

-- while 2 <= 1: print(7); print(8): also a loop that never goes round tests once
abbrev loop_left : Body
loop_left = more (loop (compare AtMost (number 2) (number 1)) (alone (print 2 (number 7)))) (alone (print 3 (number 8)))

left_at_once : (n : ℕ) → RunsFor (suc n) loop_left (codes "8\n") Done
unfolding int_wrap digits
left_at_once n input = (30, refl)

left_too_late : RunsFor 0 loop_left [] GoingOn
left_too_late input = (30, refl)

-- x = 2; while x > 0: (y = 2; while y > 0: (if x == y: print(x); else: print(-y)), y = y - 1), x = x - 1; print(9)
abbrev inner_loop : Stmt
inner_loop =
    loop (compare GreaterThan (named y) (number 0))
    (more (branch (compare EqualTo (named x) (named y)) (alone (print 6 (named x))) (alone (print 8 (negative (named y)))))
    (alone (assign 9 y (minus (named y) (number 1)))))

abbrev outer_loop : Stmt
outer_loop = loop (compare GreaterThan (named x) (number 0)) (more (assign 3 y (number 2)) (more inner_loop (alone (assign 10 x (minus (named x) (number 1))))))

abbrev loop_in_loop : Body
loop_in_loop = more (assign 1 x (number 2)) (more outer_loop (alone (print 11 (number 9))))

-- the outer loop tests three times, and the inner one three times in each of two turns
loops_over : (n : ℕ) → RunsFor (suc (suc (suc (suc (suc (suc (suc (suc (suc n))))))))) loop_in_loop (codes "2\n-1\n-2\n1\n9\n") Done
unfolding put int_wrap digits
loops_over n input = (200, refl)

loops_at_last : RunsFor 8 loop_in_loop (codes "2\n-1\n-2\n1\n") GoingOn
unfolding put int_wrap digits
loops_at_last input = (200, refl)

loops_between : RunsFor 5 loop_in_loop (codes "2\n-1\n") GoingOn
unfolding put int_wrap digits
loops_between input = (200, refl)

-- if 1 < 2: (while 1 < 2: print(x)): an exception leaves all loops
unset_in_loop : (n : ℕ) → RunsFor (suc n) (alone (branch (compare LessThan (number 1) (number 2)) (alone (loop (compare LessThan (number 1) (number 2)) (alone (print 3 (named x))))) none)) [] (Raised (codes "NameError") (codes "name 'x' is not defined"))
unfolding int_wrap
unset_in_loop n input = (30, refl)

-- ---- moments

-- what a global holds after so many small steps of the run of the module `x = 1`, `print(x + 2)`
abbrev held : Option Moment → Global → Option Value
held None g = None
held (Some m) g = m.world.globals g

abbrev after : ℕ → Option Moment
after k = moment_at (machine (program set_and_printed)) k (start (program set_and_printed) [])

-- the body parts, the assignment parts, its number is evaluated: nothing is bound yet
unbound_at_first : held (after 3) (In 0 x) ≡ None
unfolding int_wrap
unbound_at_first = refl

bound_then : held (after 4) (In 0 x) ≡ Some (VInt (pos 1))
unfolding put int_wrap
bound_then = refl

-- no other name, and no other module's name, is bound
alone_bound : (held (after 4) (In 0 y) ≡ None) × (held (after 4) (In 1 x) ≡ None)
unfolding put int_wrap
alone_bound = (refl, refl)

-- ---- operations

truths_add : binary_value W32 Add (VBool true) (VInt (pos 1)) ≡ Some (VInt (pos 2))
unfolding int_wrap
truths_add = refl

truths_alone : binary_value W32 Multiply (VBool true) (VBool false) ≡ Some (VInt (pos 0))
unfolding int_wrap
truths_alone = refl

truth_negated : unary_value W32 Negative (VBool true) ≡ Some (VInt (negsuc 0))
unfolding int_wrap
truth_negated = refl

-- the least number of a width is its own negative
least_negated : (unary_value W32 Negative (VInt (negsuc 2147483647)) ≡ Some (VInt (negsuc 2147483647))) × (unary_value W64 Negative (VInt (negsuc 2147483647)) ≡ Some (VInt (pos 2147483648)))
unfolding int_wrap
least_negated = (refl, refl)

wide_wraps : binary_value W64 Add (VInt (pos 9223372036854775807)) (VInt (pos 1)) ≡ Some (VInt (negsuc 9223372036854775807))
unfolding int_wrap
wide_wraps = refl

-- a text, None or an object with a number has no case
text_and_number : (binary_value W32 Add (VText (codes "a")) (VInt (pos 1)) ≡ None) × (binary_value W32 Add (VInt (pos 1)) (VText (codes "a")) ≡ None)
text_and_number = (refl, refl)

no_case : (binary_value W32 Subtract VNone (VInt (pos 1)) ≡ None) × (binary_value W32 Multiply (VInt (pos 1)) (VReference 0) ≡ None) × (unary_value W32 Negative (VText []) ≡ None)
no_case = (refl, refl, refl)

-- -1 < 0, 0 < -1, 2 <= 2, 3 > 3, 3 >= 3, -2 == -2, -2 != -2
orders :
    (comparison_value LessThan (VInt (negsuc 0)) (VInt (pos 0)) ≡ Some (VBool true))
    × (comparison_value LessThan (VInt (pos 0)) (VInt (negsuc 0)) ≡ Some (VBool false))
    × (comparison_value AtMost (VInt (pos 2)) (VInt (pos 2)) ≡ Some (VBool true))
    × (comparison_value GreaterThan (VInt (pos 3)) (VInt (pos 3)) ≡ Some (VBool false))
    × (comparison_value AtLeast (VInt (pos 3)) (VInt (pos 3)) ≡ Some (VBool true))
    × (comparison_value EqualTo (VInt (negsuc 1)) (VInt (negsuc 1)) ≡ Some (VBool true))
    × (comparison_value NotEqualTo (VInt (negsuc 1)) (VInt (negsuc 1)) ≡ Some (VBool false))
orders = (refl, refl, refl, refl, refl, refl, refl)

-- numbers next to each other, below zero, about it and above it
neighbours :
    (comparison_value AtMost (VInt (pos 0)) (VInt (negsuc 0)) ≡ Some (VBool false))
    × (comparison_value LessThan (VInt (negsuc 2)) (VInt (negsuc 1)) ≡ Some (VBool true))
    × (comparison_value AtLeast (VInt (negsuc 2)) (VInt (negsuc 1)) ≡ Some (VBool false))
    × (comparison_value GreaterThan (VInt (pos 4)) (VInt (pos 3)) ≡ Some (VBool true))
    × (comparison_value EqualTo (VInt (pos 1)) (VInt (negsuc 0)) ≡ Some (VBool false))
neighbours = (refl, refl, refl, refl, refl)

-- True == 1, True != False, False == 0, False < True
truths_compared :
    (comparison_value EqualTo (VBool true) (VInt (pos 1)) ≡ Some (VBool true))
    × (comparison_value NotEqualTo (VBool true) (VBool false) ≡ Some (VBool true))
    × (comparison_value EqualTo (VBool false) (VInt (pos 0)) ≡ Some (VBool true))
    × (comparison_value LessThan (VBool false) (VBool true) ≡ Some (VBool true))
truths_compared = (refl, refl, refl, refl)

not_compared : (comparison_value EqualTo VNone (VInt (pos 0)) ≡ None) × (comparison_value LessThan (VInt (pos 0)) (VText []) ≡ None)
not_compared = (refl, refl)

truths :
    (truth_of VNone ≡ Some false) × (truth_of (VBool true) ≡ Some true) × (truth_of (VBool false) ≡ Some false)
    × (truth_of (VInt (pos 0)) ≡ Some false) × (truth_of (VInt (pos 2)) ≡ Some true) × (truth_of (VInt (negsuc 0)) ≡ Some true)
    × (truth_of (VText []) ≡ Some false) × (truth_of (VText (codes "0")) ≡ Some true) × (truth_of (VReference 0) ≡ None)
truths = (refl, refl, refl, refl, refl, refl, refl, refl, refl)

texts : (text_of_value VNone ≡ Some (codes "None")) × (text_of_value (VBool true) ≡ Some (codes "True")) × (text_of_value (VBool false) ≡ Some (codes "False")) × (text_of_value (VText (codes "a b")) ≡ Some (codes "a b"))
texts = (refl, refl, refl, refl)

numbers_as_text : (text_of_value (VInt (negsuc 9)) ≡ Some (codes "-10")) × (text_of_value (VInt (pos 0)) ≡ Some (codes "0"))
unfolding digits
numbers_as_text = (refl, refl)
