-- Programs with blocks, and C++ written by hand for them as the emission gives it: with each number of ticks both machines
-- come to the same output and the same ending.
use Rattle.std.proofs.Common.{◌≡◌, ℕ, List, [], ◌∷◌, refl, codes}
use Rattle.std.specs.Int.{int_wrap}
use Rattle.std.specs.Fmt.{digits}
use Rattle.runs.specs.FiniteMap.{put}
use Rattle.runs.specs.Run.{Ending, Done, GoingOn, Gives, ComesTo}
use Rattle.py_meaning.specs.Tree.{Add, LessThan, EqualTo, EName, ENumber, EBinary, CCompare, SAssign, SPrint, SIf, SWhile, none as nothing_left, more as followed_by}
use Rattle.py_meaning.specs.Program.{Program as Source}
use Rattle.py_meaning.specs.Machine.{machine as source_machine, start as source_start}
use Rattle.cpp_meaning.specs.Tree.{Int32, Text, ZeroNumber, NullPointer, Plus, Less, Equal, Named, Number, Literal, Operate, TextOf, Write, Operand, CallRow, Declare, Assign, Perform, IfElse, While, none, more, Extern, BodyHead, Variable, Body, Main, Program}
use Rattle.cpp_meaning.specs.Machine.{machine, start}
use Rattle.cpp_meaning.proofs.TreeVectors.{g, t, body, program, rounds}
use Rattle.shed_meaning.specs.Layout.{Lays}
use Rattle.shed_meaning.proofs.LayoutVectors.{at, x, source, rounds_source}

-- whatever is to be read, with n ticks both runs have this output and this ending
abbrev BothGive : Source → Program → ℕ → List ℕ → Ending → Type 0
BothGive P C n out ending =
    (input : List ℕ) → ComesTo (source_machine P) n (source_start P input) (Gives out ending) × ComesTo (machine C) n (start C input) (Gives out ending)

-- ---- while 1 < 2: print(7)

-- the tree of the other vectors, with nothing abbreviated
rounds_tree :
    rounds
    ≡ program (BodyHead body ∷ [])
    (Body body
    (more (Declare Text t NullPointer)
    (more (While (Operate Less (Number 1) (Number 2))
    (more (Assign t (CallRow TextOf (Number 7 ∷ [])))
    (more (Perform (CallRow Write (Named t ∷ [])))
    (more (Perform (CallRow Write (Literal (10 ∷ []) ∷ []))) none)))) none))
    ∷ Main body ∷ [])
rounds_tree = refl

no_round : BothGive rounds_source rounds 0 [] GoingOn
unfolding put int_wrap digits
no_round input = ((80, refl), (80, refl))

one_round : BothGive rounds_source rounds 1 (codes "7\n") GoingOn
unfolding put int_wrap digits
one_round input = ((80, refl), (80, refl))

three_rounds : BothGive rounds_source rounds 3 (codes "7\n7\n7\n") GoingOn
unfolding put int_wrap digits
three_rounds input = ((80, refl), (80, refl))

-- ---- x = 0, while x < 2: (if x == 1: print(x) else: print(7)), x = x + 1

abbrev branching_source : Source
branching_source =
    source (followed_by (SAssign (at 1 1) x (ENumber (at 1 5) 0))
    (followed_by (SWhile (at 2 1) (CCompare (at 2 9) LessThan (EName (at 2 7) x) (ENumber (at 2 11) 2))
    (followed_by (SIf (at 3 3) (CCompare (at 3 8) EqualTo (EName (at 3 6) x) (ENumber (at 3 11) 1))
    (followed_by (SPrint (at 4 5) (at 4 10) (EName (at 4 11) x)) nothing_left)
    (followed_by (SPrint (at 6 5) (at 6 10) (ENumber (at 6 11) 7)) nothing_left))
    (followed_by (SAssign (at 7 3) x (EBinary (at 7 9) Add (EName (at 7 7) x) (ENumber (at 7 11) 1))) nothing_left))) nothing_left))

abbrev branching : Program
branching =
    program (Extern Int32 g ∷ BodyHead body ∷ [])
    (Variable Int32 g ZeroNumber
    ∷ Body body
    (more (Declare Text t NullPointer)
    (more (Assign g (Operand (Number 0)))
    (more (While (Operate Less (Named g) (Number 2))
    (more (IfElse (Operate Equal (Named g) (Number 1))
    (more (Assign t (CallRow TextOf (Named g ∷ [])))
    (more (Perform (CallRow Write (Named t ∷ [])))
    (more (Perform (CallRow Write (Literal (10 ∷ []) ∷ []))) none)))
    (more (Assign t (CallRow TextOf (Number 7 ∷ [])))
    (more (Perform (CallRow Write (Named t ∷ [])))
    (more (Perform (CallRow Write (Literal (10 ∷ []) ∷ []))) none))))
    (more (Assign g (Operand (Operate Plus (Named g) (Number 1)))) none))) none)))
    ∷ Main body ∷ [])

branching_laid_out : Lays branching_source branching
unfolding digits
branching_laid_out = record { block = _; temporaries = (0, refl, ((tt, tt, tt), tt)); modules = refl }

not_tested : BothGive branching_source branching 0 [] GoingOn
unfolding put int_wrap digits
not_tested input = ((80, refl), (80, refl))

-- in the first round the `else` is run, and in the second the `if`
first_branch : BothGive branching_source branching 1 (codes "7\n") GoingOn
unfolding put int_wrap digits
first_branch input = ((80, refl), (80, refl))

second_branch : BothGive branching_source branching 2 (codes "7\n1\n") GoingOn
unfolding put int_wrap digits
second_branch input = ((80, refl), (80, refl))

-- the third test fails, and further ticks are left over
loop_left : BothGive branching_source branching 3 (codes "7\n1\n") Done × BothGive branching_source branching 5 (codes "7\n1\n") Done
unfolding put int_wrap digits
loop_left = (λ input. ((90, refl), (90, refl)), λ input. ((90, refl), (90, refl)))
