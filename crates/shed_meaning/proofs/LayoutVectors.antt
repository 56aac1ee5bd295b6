-- A tree that is laid out as its program's table says, and some that are not.
use Rattle.std.proofs.Common.{◌≡◌, ℕ, List, [], ◌∷◌, length, refl, ap, codes}
use Rattle.std.specs.Fmt.{digits}
use Rattle.runs.specs.Number.{W32}
use Rattle.py_meaning.specs.Name.{Name}
use Rattle.py_tokens.specs.Token.{Place}
use Rattle.py_meaning.specs.Tree.{Add, LessThan, EName, ENumber, EBinary, CCompare, SAssign, SPrint, SWhile, Body, none, more}
use Rattle.py_meaning.specs.Program.{Program as Source}
use Rattle.cpp_meaning.specs.Tree.{Int32, ZeroNumber, Stmt as CppStmt, Declare, If, IfElse, While, Extern, Variable, Module, none as no_statements, more as and_then}
use Rattle.cpp_meaning.proofs.TreeVectors.{sum_block, sum, wrapped_sum, declare, at_most, rounds}
use Rattle.shed_meaning.specs.Layout.{HasTemporariesAlone, Lays, externs, variables}

abbrev pub at : ℕ → ℕ → Place
at line column = record { «module» = 0; line = line; column = column }

abbrev pub x : Name
x = codes "x"

abbrev pub source : Body → Source
source block = record { main = record { name = codes "main"; body = block }; width = W32 }

-- x = 1, print(x + 2)
abbrev pub sum_source : Source
sum_source =
    source (more (SAssign (at 1 1) x (ENumber (at 1 5) 1))
    (more (SPrint (at 2 1) (at 2 6) (EBinary (at 2 9) Add (EName (at 2 7) x) (ENumber (at 2 11) 2))) none))

-- print(2147483647 + 1)
abbrev wrapped_source : Source
wrapped_source = source (more (SPrint (at 1 1) (at 1 6) (EBinary (at 1 18) Add (ENumber (at 1 7) 2147483647) (ENumber (at 1 20) 1))) none)

pub sum_laid_out : Lays sum_source sum
unfolding digits
sum_laid_out = record { block = sum_block; temporaries = (0, refl, tt); modules = refl }

wrapped_sum_laid_out : Lays wrapped_source wrapped_sum
unfolding digits
wrapped_sum_laid_out = record { block = _; temporaries = (0, refl, tt); modules = refl }

-- while 1 < 2: print(7)
abbrev pub rounds_source : Source
rounds_source =
    source (more (SWhile (at 1 1) (CCompare (at 1 9) LessThan (ENumber (at 1 7) 1) (ENumber (at 1 11) 2)) (more (SPrint (at 2 5) (at 2 10) (ENumber (at 2 11) 7)) none)) none)

rounds_laid_out : Lays rounds_source rounds
unfolding digits
rounds_laid_out = record { block = _; temporaries = (0, refl, (tt, tt)); modules = refl }

-- in the order of the first bindings, and with the names as C++ has them
declarations : externs 0 (codes "y" ∷ codes "_" ∷ []) ≡ Extern Int32 (codes "g_0_y") ∷ Extern Int32 (codes "g_0_Z_") ∷ []
unfolding digits
declarations = refl

definitions : variables 0 (codes "y" ∷ codes "_" ∷ []) ≡ Variable Int32 (codes "g_0_y") ZeroNumber ∷ Variable Int32 (codes "g_0_Z_") ZeroNumber ∷ []
unfolding digits
definitions = refl

-- how many declarations the first header has
abbrev first_header_length : List Module → ℕ
first_header_length [] = 0
first_header_length (m ∷ modules) = length m.header

-- the globals of another program
other_globals : Lays wrapped_source sum → ⊥
unfolding digits
other_globals h =
    let same : 2 ≡ 1 = ap first_header_length h.modules in
    cc same

-- no module at all
no_modules : Lays sum_source (record { modules = [] }) → ⊥
no_modules h =
    let same : 0 ≡ 2 = ap first_header_length h.modules in
    cc same

-- a local that is no temporary
other_local : HasTemporariesAlone (and_then (Declare Int32 (codes "x") ZeroNumber) no_statements) → ⊥
other_local h = cc (h.1)

-- shed::str* t_0 = nullptr; within a block: where a declaration may stand, the typing says
temporary_within : HasTemporariesAlone (and_then (If (at_most 1 2) (and_then declare no_statements)) no_statements)
unfolding digits
temporary_within = ((0, refl, tt), tt)

-- int32_t x = 0;
abbrev local : CppStmt
local = Declare Int32 (codes "x") ZeroNumber

-- a local that is no temporary within a block: of an `if`, of its `else`, of a `while`, and of a block in a block
other_locals_within :
    (HasTemporariesAlone (and_then (If (at_most 1 2) (and_then local no_statements)) no_statements) → ⊥)
    × (HasTemporariesAlone (and_then (IfElse (at_most 1 2) (and_then local no_statements) no_statements) no_statements) → ⊥)
    × (HasTemporariesAlone (and_then (IfElse (at_most 1 2) no_statements (and_then local no_statements)) no_statements) → ⊥)
    × (HasTemporariesAlone (and_then (While (at_most 1 2) (and_then local no_statements)) no_statements) → ⊥)
    × (HasTemporariesAlone (and_then (While (at_most 1 2) (and_then (If (at_most 1 2) (and_then local no_statements)) no_statements)) no_statements) → ⊥)
other_locals_within = (λ h. cc (h.0.1), λ h. cc (h.0.1), λ h. cc (h.1.1), λ h. cc (h.0.1), λ h. cc (h.0.0.1))

-- and one behind a block
other_local_behind : HasTemporariesAlone (and_then (While (at_most 1 2) no_statements) (and_then local no_statements)) → ⊥
other_local_behind h = cc (h.1.1)
