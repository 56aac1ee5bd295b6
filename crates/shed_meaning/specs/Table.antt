-- The texts that stand beside the C++ files: the types table and the makefile.
use Rattle.std.specs.Prelude.{ℕ, List, [], ◌∷◌, ◌++◌, codes}
use Rattle.py_meaning.specs.Name.{Name, text_of}
use Rattle.py_meaning.specs.Binding.{names_bound}
use Rattle.py_meaning.specs.Program.{Program}
use Rattle.cpp_meaning.specs.Text.{File}

-- a global's line: its kind is int, and so is each of its values
abbrev pub global_line : Name → Name → List ℕ
global_line main x = codes "global " ++ (text_of main ++ (codes "." ++ (text_of x ++ codes " int {int}\n")))

abbrev pub global_lines : Name → List Name → List ℕ
global_lines main [] = []
global_lines main (x ∷ names) = global_line main x ++ global_lines main names

-- one round, one template and its group, and the family of the exception classes, which is empty
abbrev pub table_head : Name → List ℕ
table_head main = codes "shed types 1\nrounds 1\ntemplate T0 " ++ (text_of main ++ codes " ()\nfamily F0\ngroup G0 T0\n")

abbrev pub table_text : Name → List Name → List ℕ
table_text main names = table_head main ++ global_lines main names

abbrev pub table : Program → File
table P = record { name = text_of P.main.name ++ codes ".types"; bytes = table_text P.main.name (names_bound P.main.body) }

-- how `make` builds the program; `-fwrapv` makes signed arithmetic wrap
abbrev pub makefile_text : Name → List ℕ
makefile_text main =
    codes "CXX ?= g++\nCXXFLAGS ?= -O2\n"
    ++ (text_of main ++ (codes ": " ++ (text_of main ++ (codes ".cpp\n\t$(CXX) -std=c++20 -fwrapv $(CXXFLAGS) -o " ++ (text_of main ++ (codes " " ++ (text_of main ++ codes ".cpp -lshed\n\n")))))))

abbrev pub makefile : Program → File
makefile P = record { name = codes "Makefile"; bytes = makefile_text P.main.name }
