-- The types tables and the makefiles of some programs, and the names of what is written.
use Rattle.std.proofs.Common.{◌≡◌, ℕ, List, [], ◌∷◌, ◌++◌, refl, codes}
use Rattle.runs.specs.Number.{W32}
use Rattle.py_meaning.specs.Name.{Name}
use Rattle.py_tokens.specs.Token.{Place}
use Rattle.py_meaning.specs.Tree.{LessThan, EName, ENumber, CCompare, Stmt, SAssign, SPrint, SIf, SWhile, Body, none, more}
use Rattle.py_meaning.specs.Program.{Program}
use Rattle.cpp_meaning.specs.Text.{File}
use Rattle.cpp_meaning.proofs.TreeVectors.{sum}
use Rattle.shed_meaning.specs.Table.{table, makefile}
use Rattle.shed_meaning.specs.Headline.{written}

abbrev at : ℕ → ℕ → Place
at line column = record { «module» = 0; line = line; column = column }

abbrev program : Name → Body → Program
program name body = record { main = record { name = name; body = body }; width = W32 }

abbrev set_number : ℕ → Name → ℕ → Stmt
set_number line x n = SAssign (at line 1) x (ENumber (at line 5) n)

-- x = 1, y = x, x = 2
abbrev copied : Body
copied = more (set_number 1 (codes "x") 1) (more (SAssign (at 2 1) (codes "y") (EName (at 2 5) (codes "x"))) (more (set_number 3 (codes "x") 2) none))

copied_table :
    table (program (codes "main") copied)
    ≡ record {
      name = codes "main.types";
      bytes = codes "shed types 1\nrounds 1\ntemplate T0 main ()\nfamily F0\ngroup G0 T0\n" ++ codes "global main.x int {int}\nglobal main.y int {int}\n";
    }
copied_table = refl

-- print(0): no globals, in a module of another name
empty_table :
    table (program (codes "a_Z") (more (SPrint (at 1 1) (at 1 6) (ENumber (at 1 7) 0)) none))
    ≡ record { name = codes "a_Z.types"; bytes = codes "shed types 1\nrounds 1\ntemplate T0 a_Z ()\nfamily F0\ngroup G0 T0\n" }
empty_table = refl

-- names stand in the table as they stand in the module
source_names : (table (program (codes "_m") (more (set_number 1 (codes "__Z") 1) none))).bytes ≡ codes "shed types 1\nrounds 1\ntemplate T0 _m ()\nfamily F0\ngroup G0 T0\n" ++ codes "global _m.__Z int {int}\n"
source_names = refl

-- y = 1, while y < 3: (if y < 2: b = 1 else: a = 1), y = 3, c = 1: names that a block binds stand where the text has them
abbrev bound_within : Body
bound_within =
    more (set_number 1 (codes "y") 1)
    (more (SWhile (at 2 1) (CCompare (at 2 9) LessThan (EName (at 2 7) (codes "y")) (ENumber (at 2 11) 3))
    (more (SIf (at 3 1) (CCompare (at 3 8) LessThan (EName (at 3 6) (codes "y")) (ENumber (at 3 10) 2)) (more (set_number 4 (codes "b") 1) none) (more (set_number 6 (codes "a") 1) none))
    (more (set_number 7 (codes "y") 3) none)))
    (more (set_number 8 (codes "c") 1) none))

bound_within_table :
    (table (program (codes "main") bound_within)).bytes
    ≡ codes "shed types 1\nrounds 1\ntemplate T0 main ()\nfamily F0\ngroup G0 T0\n"
    ++ codes "global main.y int {int}\nglobal main.b int {int}\nglobal main.a int {int}\nglobal main.c int {int}\n"
bound_within_table = refl

main_makefile :
    makefile (program (codes "main") copied)
    ≡ record {
      name = codes "Makefile";
      bytes = codes "CXX ?= g++\nCXXFLAGS ?= -O2\nmain: main.cpp\n\t$(CXX) -std=c++20 -fwrapv $(CXXFLAGS) -o main main.cpp -lshed\n\n";
    }
main_makefile = refl

other_makefile : (makefile (program (codes "a_Z") none)).bytes ≡ codes "CXX ?= g++\nCXXFLAGS ?= -O2\na_Z: a_Z.cpp\n\t$(CXX) -std=c++20 -fwrapv $(CXXFLAGS) -o a_Z a_Z.cpp -lshed\n\n"
other_makefile = refl

abbrev names : List File → List (List ℕ)
names [] = []
names (f ∷ files) = f.name ∷ names files

-- the files in the order in which they are written
written_names : names (written (program (codes "main") copied) sum) ≡ codes "shed-forward.hpp" ∷ codes "main.hpp" ∷ codes "main.cpp" ∷ codes "Makefile" ∷ codes "main.types" ∷ []
written_names = refl
