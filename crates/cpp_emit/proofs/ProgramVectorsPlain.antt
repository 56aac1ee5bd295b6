-- Small programs without blocks: what their texts mean, what their runs come to, and what is written for them.
use Rattle.std.proofs.Common.{ℕ, List, [], ◌∷◌, ◌++◌, refl, codes, lit≤}
use Rattle.std.specs.Int.{int_wrap}
use Rattle.std.specs.Fmt.{digits}
use Rattle.runs.specs.FiniteMap.{put}
use Rattle.runs.specs.Run.{Done}
use Rattle.py_meaning.specs.Tree.{Negative, Add, Subtract, Multiply, EName, ENumber, EUnary, EBinary, SAssign, SPrint, Body, none, more}
use Rattle.py_meaning.proofs.SourceVectors.{at as place, source}
use Rattle.cpp_emit.proofs.ProgramVectors.{WithAtLeast, Shown}

-- the empty module: nothing is printed, so nothing is declared
abbrev nothing_text : List ℕ
nothing_text = []

abbrev nothing_tree : Body
nothing_tree = none

nothing :
    Shown (codes "main") nothing_text nothing_tree
    (WithAtLeast 0 [] Done ∷ [])
    (record {
      header =
          codes "#pragma once\n"
          ++ codes "#include \"shed-forward.hpp\"\n"
          ++ codes "void body_main();\n";
      source =
          codes "#include \"shed-support.hpp\"\n"
          ++ codes "#include \"shed-forward.hpp\"\n"
          ++ codes "#include \"main.hpp\"\n"
          ++ codes "void body_main() {\n"
          ++ codes "}\n"
          ++ codes "int main() { return shed::start(&body_main); }\n";
      makefile =
          codes "CXX ?= g++\n"
          ++ codes "CXXFLAGS ?= -O2\n"
          ++ codes "main: main.cpp\n"
          ++ codes "\t$(CXX) -std=c++20 -fwrapv $(CXXFLAGS) -o main main.cpp -lshed\n"
          ++ codes "\n";
      types =
          codes "shed types 1\n"
          ++ codes "rounds 1\n"
          ++ codes "template T0 main ()\n"
          ++ codes "family F0\n"
          ++ codes "group G0 T0\n";
    })
unfolding lib.Utf8.encode put int_wrap digits
nothing =
    record {
      is_source = source 4000 nothing_text nothing_tree refl refl refl (lit≤ tt) refl refl;
      runs = (λ input k. ((5, refl), (5, refl)), tt);
      files = refl;
    }

-- one line is printed: its text, and then the end of the line
abbrev one_print_text : List ℕ
one_print_text = codes "print(2)\n"

abbrev one_print_tree : Body
one_print_tree = more (SPrint (place 1 1) (place 1 6) (ENumber (place 1 7) 2)) none

one_print :
    Shown (codes "main") one_print_text one_print_tree
    (WithAtLeast 0 (codes "2\n") Done ∷ [])
    (record {
      header =
          codes "#pragma once\n"
          ++ codes "#include \"shed-forward.hpp\"\n"
          ++ codes "void body_main();\n";
      source =
          codes "#include \"shed-support.hpp\"\n"
          ++ codes "#include \"shed-forward.hpp\"\n"
          ++ codes "#include \"main.hpp\"\n"
          ++ codes "void body_main() {\n"
          ++ codes "  shed::str* t_0 = nullptr;\n"
          ++ codes "  t_0 = shed::text_of(2);\n"
          ++ codes "  shed::write(t_0);\n"
          ++ codes "  shed::write(\"\\012\"_t);\n"
          ++ codes "}\n"
          ++ codes "int main() { return shed::start(&body_main); }\n";
      makefile =
          codes "CXX ?= g++\n"
          ++ codes "CXXFLAGS ?= -O2\n"
          ++ codes "main: main.cpp\n"
          ++ codes "\t$(CXX) -std=c++20 -fwrapv $(CXXFLAGS) -o main main.cpp -lshed\n"
          ++ codes "\n";
      types =
          codes "shed types 1\n"
          ++ codes "rounds 1\n"
          ++ codes "template T0 main ()\n"
          ++ codes "family F0\n"
          ++ codes "group G0 T0\n";
    })
unfolding lib.Utf8.encode put int_wrap digits
one_print =
    record {
      is_source = source 4000 one_print_text one_print_tree refl refl refl (lit≤ tt) refl refl;
      runs = (λ input k. ((20, refl), (20, refl)), tt);
      files = refl;
    }

-- within brackets a line goes on, so the place of `+` is in the second one
abbrev two_lines_text : List ℕ
two_lines_text =
    codes "print(1\n"
    ++ codes "  + 2)\n"

abbrev two_lines_tree : Body
two_lines_tree = more (SPrint (place 1 1) (place 1 6) (EBinary (place 2 3) Add (ENumber (place 1 7) 1) (ENumber (place 2 5) 2))) none

two_lines :
    Shown (codes "main") two_lines_text two_lines_tree
    (WithAtLeast 0 (codes "3\n") Done ∷ [])
    (record {
      header =
          codes "#pragma once\n"
          ++ codes "#include \"shed-forward.hpp\"\n"
          ++ codes "void body_main();\n";
      source =
          codes "#include \"shed-support.hpp\"\n"
          ++ codes "#include \"shed-forward.hpp\"\n"
          ++ codes "#include \"main.hpp\"\n"
          ++ codes "void body_main() {\n"
          ++ codes "  shed::str* t_0 = nullptr;\n"
          ++ codes "  t_0 = shed::text_of((1 + 2));\n"
          ++ codes "  shed::write(t_0);\n"
          ++ codes "  shed::write(\"\\012\"_t);\n"
          ++ codes "}\n"
          ++ codes "int main() { return shed::start(&body_main); }\n";
      makefile =
          codes "CXX ?= g++\n"
          ++ codes "CXXFLAGS ?= -O2\n"
          ++ codes "main: main.cpp\n"
          ++ codes "\t$(CXX) -std=c++20 -fwrapv $(CXXFLAGS) -o main main.cpp -lshed\n"
          ++ codes "\n";
      types =
          codes "shed types 1\n"
          ++ codes "rounds 1\n"
          ++ codes "template T0 main ()\n"
          ++ codes "family F0\n"
          ++ codes "group G0 T0\n";
    })
unfolding lib.Utf8.encode put int_wrap digits
two_lines =
    record {
      is_source = source 4000 two_lines_text two_lines_tree refl refl refl (lit≤ tt) refl refl;
      runs = (λ input k. ((20, refl), (20, refl)), tt);
      files = refl;
    }

-- sums, products and differences wrap at 32 bits: 2500000000 less 4294967296, and -2147483649 and 4294967296
abbrev wrapping_text : List ℕ
wrapping_text =
    codes "print(2147483647 + 1)\n"
    ++ codes "print(50000 * 50000)\n"
    ++ codes "x = -2147483647 - 2\n"
    ++ codes "print(x)\n"

abbrev wrapping_tree : Body
wrapping_tree =
    more (SPrint (place 1 1) (place 1 6) (EBinary (place 1 18) Add (ENumber (place 1 7) 2147483647) (ENumber (place 1 20) 1)))
    (more (SPrint (place 2 1) (place 2 6) (EBinary (place 2 13) Multiply (ENumber (place 2 7) 50000) (ENumber (place 2 15) 50000)))
    (more (SAssign (place 3 1) (codes "x") (EBinary (place 3 17) Subtract (EUnary (place 3 5) Negative (ENumber (place 3 6) 2147483647)) (ENumber (place 3 19) 2)))
    (more (SPrint (place 4 1) (place 4 6) (EName (place 4 7) (codes "x"))) none)))

wrapping :
    Shown (codes "main") wrapping_text wrapping_tree
    (WithAtLeast 0 (codes "-2147483648\n-1794967296\n2147483647\n") Done ∷ [])
    (record {
      header =
          codes "#pragma once\n"
          ++ codes "#include \"shed-forward.hpp\"\n"
          ++ codes "extern int32_t g_0_x;\n"
          ++ codes "void body_main();\n";
      source =
          codes "#include \"shed-support.hpp\"\n"
          ++ codes "#include \"shed-forward.hpp\"\n"
          ++ codes "#include \"main.hpp\"\n"
          ++ codes "int32_t g_0_x = 0;\n"
          ++ codes "void body_main() {\n"
          ++ codes "  shed::str* t_0 = nullptr;\n"
          ++ codes "  t_0 = shed::text_of((2147483647 + 1));\n"
          ++ codes "  shed::write(t_0);\n"
          ++ codes "  shed::write(\"\\012\"_t);\n"
          ++ codes "  t_0 = shed::text_of((50000 * 50000));\n"
          ++ codes "  shed::write(t_0);\n"
          ++ codes "  shed::write(\"\\012\"_t);\n"
          ++ codes "  g_0_x = ((-2147483647) - 2);\n"
          ++ codes "  t_0 = shed::text_of(g_0_x);\n"
          ++ codes "  shed::write(t_0);\n"
          ++ codes "  shed::write(\"\\012\"_t);\n"
          ++ codes "}\n"
          ++ codes "int main() { return shed::start(&body_main); }\n";
      makefile =
          codes "CXX ?= g++\n"
          ++ codes "CXXFLAGS ?= -O2\n"
          ++ codes "main: main.cpp\n"
          ++ codes "\t$(CXX) -std=c++20 -fwrapv $(CXXFLAGS) -o main main.cpp -lshed\n"
          ++ codes "\n";
      types =
          codes "shed types 1\n"
          ++ codes "rounds 1\n"
          ++ codes "template T0 main ()\n"
          ++ codes "family F0\n"
          ++ codes "group G0 T0\n"
          ++ codes "global main.x int {int}\n";
    })
unfolding lib.Utf8.encode put int_wrap digits
wrapping =
    record {
      is_source = source 4000 wrapping_text wrapping_tree refl refl refl (lit≤ tt) refl refl;
      runs = (λ input k. ((60, refl), (60, refl)), tt);
      files = refl;
    }

-- operators of one level nest to the left, a product binds tighter than a sum, and a sign tighter than both
abbrev nesting_text : List ℕ
nesting_text =
    codes "print(10 - 4 - 3)\n"
    ++ codes "print(2 + 3 * 4 - 1)\n"
    ++ codes "print(-2 * --3)\n"

abbrev nesting_tree : Body
nesting_tree =
    more (SPrint (place 1 1) (place 1 6) (EBinary (place 1 14) Subtract (EBinary (place 1 10) Subtract (ENumber (place 1 7) 10) (ENumber (place 1 12) 4)) (ENumber (place 1 16) 3)))
    (more (SPrint (place 2 1) (place 2 6) (EBinary (place 2 17) Subtract (EBinary (place 2 9) Add (ENumber (place 2 7) 2) (EBinary (place 2 13) Multiply (ENumber (place 2 11) 3) (ENumber (place 2 15) 4))) (ENumber (place 2 19) 1)))
    (more (SPrint (place 3 1) (place 3 6) (EBinary (place 3 10) Multiply (EUnary (place 3 7) Negative (ENumber (place 3 8) 2)) (EUnary (place 3 12) Negative (EUnary (place 3 13) Negative (ENumber (place 3 14) 3))))) none))

nesting :
    Shown (codes "main") nesting_text nesting_tree
    (WithAtLeast 0 (codes "3\n13\n-6\n") Done ∷ [])
    (record {
      header =
          codes "#pragma once\n"
          ++ codes "#include \"shed-forward.hpp\"\n"
          ++ codes "void body_main();\n";
      source =
          codes "#include \"shed-support.hpp\"\n"
          ++ codes "#include \"shed-forward.hpp\"\n"
          ++ codes "#include \"main.hpp\"\n"
          ++ codes "void body_main() {\n"
          ++ codes "  shed::str* t_0 = nullptr;\n"
          ++ codes "  t_0 = shed::text_of(((10 - 4) - 3));\n"
          ++ codes "  shed::write(t_0);\n"
          ++ codes "  shed::write(\"\\012\"_t);\n"
          ++ codes "  t_0 = shed::text_of(((2 + (3 * 4)) - 1));\n"
          ++ codes "  shed::write(t_0);\n"
          ++ codes "  shed::write(\"\\012\"_t);\n"
          ++ codes "  t_0 = shed::text_of(((-2) * (-(-3))));\n"
          ++ codes "  shed::write(t_0);\n"
          ++ codes "  shed::write(\"\\012\"_t);\n"
          ++ codes "}\n"
          ++ codes "int main() { return shed::start(&body_main); }\n";
      makefile =
          codes "CXX ?= g++\n"
          ++ codes "CXXFLAGS ?= -O2\n"
          ++ codes "main: main.cpp\n"
          ++ codes "\t$(CXX) -std=c++20 -fwrapv $(CXXFLAGS) -o main main.cpp -lshed\n"
          ++ codes "\n";
      types =
          codes "shed types 1\n"
          ++ codes "rounds 1\n"
          ++ codes "template T0 main ()\n"
          ++ codes "family F0\n"
          ++ codes "group G0 T0\n";
    })
unfolding lib.Utf8.encode put int_wrap digits
nesting =
    record {
      is_source = source 4000 nesting_text nesting_tree refl refl refl (lit≤ tt) refl refl;
      runs = (λ input k. ((60, refl), (60, refl)), tt);
      files = refl;
    }

-- `Z` is doubled, `_` behind a `_` is `Z_`, and the `_` of `g_0_` counts; the table has the names as they are
abbrev escaped_names_text : List ℕ
escaped_names_text =
    codes "_ = 1\n"
    ++ codes "__x = 2\n"
    ++ codes "aZ_ = _ + __x\n"
    ++ codes "Z__y = aZ_ * 10\n"
    ++ codes "print(Z__y)\n"

abbrev escaped_names_tree : Body
escaped_names_tree =
    more (SAssign (place 1 1) (codes "_") (ENumber (place 1 5) 1))
    (more (SAssign (place 2 1) (codes "__x") (ENumber (place 2 7) 2))
    (more (SAssign (place 3 1) (codes "aZ_") (EBinary (place 3 9) Add (EName (place 3 7) (codes "_")) (EName (place 3 11) (codes "__x"))))
    (more (SAssign (place 4 1) (codes "Z__y") (EBinary (place 4 12) Multiply (EName (place 4 8) (codes "aZ_")) (ENumber (place 4 14) 10)))
    (more (SPrint (place 5 1) (place 5 6) (EName (place 5 7) (codes "Z__y"))) none))))

escaped_names :
    Shown (codes "main") escaped_names_text escaped_names_tree
    (WithAtLeast 0 (codes "30\n") Done ∷ [])
    (record {
      header =
          codes "#pragma once\n"
          ++ codes "#include \"shed-forward.hpp\"\n"
          ++ codes "extern int32_t g_0_Z_;\n"
          ++ codes "extern int32_t g_0_Z_Z_x;\n"
          ++ codes "extern int32_t g_0_aZZ_;\n"
          ++ codes "extern int32_t g_0_ZZ_Z_y;\n"
          ++ codes "void body_main();\n";
      source =
          codes "#include \"shed-support.hpp\"\n"
          ++ codes "#include \"shed-forward.hpp\"\n"
          ++ codes "#include \"main.hpp\"\n"
          ++ codes "int32_t g_0_Z_ = 0;\n"
          ++ codes "int32_t g_0_Z_Z_x = 0;\n"
          ++ codes "int32_t g_0_aZZ_ = 0;\n"
          ++ codes "int32_t g_0_ZZ_Z_y = 0;\n"
          ++ codes "void body_main() {\n"
          ++ codes "  shed::str* t_0 = nullptr;\n"
          ++ codes "  g_0_Z_ = 1;\n"
          ++ codes "  g_0_Z_Z_x = 2;\n"
          ++ codes "  g_0_aZZ_ = (g_0_Z_ + g_0_Z_Z_x);\n"
          ++ codes "  g_0_ZZ_Z_y = (g_0_aZZ_ * 10);\n"
          ++ codes "  t_0 = shed::text_of(g_0_ZZ_Z_y);\n"
          ++ codes "  shed::write(t_0);\n"
          ++ codes "  shed::write(\"\\012\"_t);\n"
          ++ codes "}\n"
          ++ codes "int main() { return shed::start(&body_main); }\n";
      makefile =
          codes "CXX ?= g++\n"
          ++ codes "CXXFLAGS ?= -O2\n"
          ++ codes "main: main.cpp\n"
          ++ codes "\t$(CXX) -std=c++20 -fwrapv $(CXXFLAGS) -o main main.cpp -lshed\n"
          ++ codes "\n";
      types =
          codes "shed types 1\n"
          ++ codes "rounds 1\n"
          ++ codes "template T0 main ()\n"
          ++ codes "family F0\n"
          ++ codes "group G0 T0\n"
          ++ codes "global main._ int {int}\n"
          ++ codes "global main.__x int {int}\n"
          ++ codes "global main.aZ_ int {int}\n"
          ++ codes "global main.Z__y int {int}\n";
    })
unfolding lib.Utf8.encode put int_wrap digits
escaped_names =
    record {
      is_source = source 4000 escaped_names_text escaped_names_tree refl refl refl (lit≤ tt) refl refl;
      runs = (λ input k. ((60, refl), (60, refl)), tt);
      files = refl;
    }

-- a name that is bound again is one variable, and what was taken from it before stays what it was
abbrev bound_again_text : List ℕ
bound_again_text =
    codes "x = 1\n"
    ++ codes "y = x\n"
    ++ codes "x = 2\n"
    ++ codes "print(y)\n"
    ++ codes "print(x)\n"

abbrev bound_again_tree : Body
bound_again_tree =
    more (SAssign (place 1 1) (codes "x") (ENumber (place 1 5) 1))
    (more (SAssign (place 2 1) (codes "y") (EName (place 2 5) (codes "x")))
    (more (SAssign (place 3 1) (codes "x") (ENumber (place 3 5) 2))
    (more (SPrint (place 4 1) (place 4 6) (EName (place 4 7) (codes "y")))
    (more (SPrint (place 5 1) (place 5 6) (EName (place 5 7) (codes "x"))) none))))

bound_again :
    Shown (codes "main") bound_again_text bound_again_tree
    (WithAtLeast 0 (codes "1\n2\n") Done ∷ [])
    (record {
      header =
          codes "#pragma once\n"
          ++ codes "#include \"shed-forward.hpp\"\n"
          ++ codes "extern int32_t g_0_x;\n"
          ++ codes "extern int32_t g_0_y;\n"
          ++ codes "void body_main();\n";
      source =
          codes "#include \"shed-support.hpp\"\n"
          ++ codes "#include \"shed-forward.hpp\"\n"
          ++ codes "#include \"main.hpp\"\n"
          ++ codes "int32_t g_0_x = 0;\n"
          ++ codes "int32_t g_0_y = 0;\n"
          ++ codes "void body_main() {\n"
          ++ codes "  shed::str* t_0 = nullptr;\n"
          ++ codes "  g_0_x = 1;\n"
          ++ codes "  g_0_y = g_0_x;\n"
          ++ codes "  g_0_x = 2;\n"
          ++ codes "  t_0 = shed::text_of(g_0_y);\n"
          ++ codes "  shed::write(t_0);\n"
          ++ codes "  shed::write(\"\\012\"_t);\n"
          ++ codes "  t_0 = shed::text_of(g_0_x);\n"
          ++ codes "  shed::write(t_0);\n"
          ++ codes "  shed::write(\"\\012\"_t);\n"
          ++ codes "}\n"
          ++ codes "int main() { return shed::start(&body_main); }\n";
      makefile =
          codes "CXX ?= g++\n"
          ++ codes "CXXFLAGS ?= -O2\n"
          ++ codes "main: main.cpp\n"
          ++ codes "\t$(CXX) -std=c++20 -fwrapv $(CXXFLAGS) -o main main.cpp -lshed\n"
          ++ codes "\n";
      types =
          codes "shed types 1\n"
          ++ codes "rounds 1\n"
          ++ codes "template T0 main ()\n"
          ++ codes "family F0\n"
          ++ codes "group G0 T0\n"
          ++ codes "global main.x int {int}\n"
          ++ codes "global main.y int {int}\n";
    })
unfolding lib.Utf8.encode put int_wrap digits
bound_again =
    record {
      is_source = source 4000 bound_again_text bound_again_tree refl refl refl (lit≤ tt) refl refl;
      runs = (λ input k. ((60, refl), (60, refl)), tt);
      files = refl;
    }

-- a module of another name: it is escaped in the name of the body, and nowhere else
abbrev other_module_text : List ℕ
other_module_text =
    codes "n = 6\n"
    ++ codes "print(n * n)\n"

abbrev other_module_tree : Body
other_module_tree =
    more (SAssign (place 1 1) (codes "n") (ENumber (place 1 5) 6))
    (more (SPrint (place 2 1) (place 2 6) (EBinary (place 2 9) Multiply (EName (place 2 7) (codes "n")) (EName (place 2 11) (codes "n")))) none)

other_module :
    Shown (codes "_Z__m") other_module_text other_module_tree
    (WithAtLeast 0 (codes "36\n") Done ∷ [])
    (record {
      header =
          codes "#pragma once\n"
          ++ codes "#include \"shed-forward.hpp\"\n"
          ++ codes "extern int32_t g_0_n;\n"
          ++ codes "void body_Z_ZZ_Z_m();\n";
      source =
          codes "#include \"shed-support.hpp\"\n"
          ++ codes "#include \"shed-forward.hpp\"\n"
          ++ codes "#include \"_Z__m.hpp\"\n"
          ++ codes "int32_t g_0_n = 0;\n"
          ++ codes "void body_Z_ZZ_Z_m() {\n"
          ++ codes "  shed::str* t_0 = nullptr;\n"
          ++ codes "  g_0_n = 6;\n"
          ++ codes "  t_0 = shed::text_of((g_0_n * g_0_n));\n"
          ++ codes "  shed::write(t_0);\n"
          ++ codes "  shed::write(\"\\012\"_t);\n"
          ++ codes "}\n"
          ++ codes "int main() { return shed::start(&body_Z_ZZ_Z_m); }\n";
      makefile =
          codes "CXX ?= g++\n"
          ++ codes "CXXFLAGS ?= -O2\n"
          ++ codes "_Z__m: _Z__m.cpp\n"
          ++ codes "\t$(CXX) -std=c++20 -fwrapv $(CXXFLAGS) -o _Z__m _Z__m.cpp -lshed\n"
          ++ codes "\n";
      types =
          codes "shed types 1\n"
          ++ codes "rounds 1\n"
          ++ codes "template T0 _Z__m ()\n"
          ++ codes "family F0\n"
          ++ codes "group G0 T0\n"
          ++ codes "global _Z__m.n int {int}\n";
    })
unfolding lib.Utf8.encode put int_wrap digits
other_module =
    record {
      is_source = source 4000 other_module_text other_module_tree refl refl refl (lit≤ tt) refl refl;
      runs = (λ input k. ((40, refl), (40, refl)), tt);
      files = refl;
    }
