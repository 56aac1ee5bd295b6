-- Small programs with branches and loops: what their texts mean, what their runs come to with few ticks and with enough, and
-- what is written for them. A tick is due each time that a loop is about to test.
use Rattle.std.proofs.Common.{ℕ, List, [], ◌∷◌, ◌++◌, refl, codes, lit≤}
use Rattle.std.specs.Int.{int_wrap}
use Rattle.std.specs.Fmt.{digits}
use Rattle.runs.specs.FiniteMap.{put}
use Rattle.runs.specs.Run.{Done, GoingOn}
use Rattle.py_meaning.specs.Tree.{Add, Subtract, LessThan, AtMost, GreaterThan, AtLeast, EqualTo, NotEqualTo, EName, ENumber, EBinary, CCompare, SAssign, SPrint, SIf, SWhile, Body, none, more}
use Rattle.py_meaning.proofs.SourceVectors.{at as place, source}
use Rattle.cpp_emit.proofs.ProgramVectors.{With, WithAtLeast, Shown}

-- a branch whose test holds, with no `else`
abbrev taken_text : List ℕ
taken_text =
    codes "x = 1\n"
    ++ codes "if x < 2:\n"
    ++ codes "  print(x)\n"
    ++ codes "print(5)\n"

abbrev taken_tree : Body
taken_tree =
    more (SAssign (place 1 1) (codes "x") (ENumber (place 1 5) 1))
    (more (SIf (place 2 1) (CCompare (place 2 6) LessThan (EName (place 2 4) (codes "x")) (ENumber (place 2 8) 2))
    (more (SPrint (place 3 3) (place 3 8) (EName (place 3 9) (codes "x"))) none)
    none)
    (more (SPrint (place 4 1) (place 4 6) (ENumber (place 4 7) 5)) none))

taken :
    Shown (codes "main") taken_text taken_tree
    (WithAtLeast 0 (codes "1\n5\n") Done ∷ [])
    (record {
      header =
          codes "#pragma once\n"
          ++ codes "#include \"shed-forward.hpp\"\n"
          ++ codes "extern int32_t g_0_x;\n"
          ++ codes "void body_main();\n";
      source =
          codes "#include \"shed-support.hpp\"\n"
          ++ codes "#include \"shed-forward.hpp\"\n"
          ++ codes "#include \"main.hpp\"\n"
          ++ codes "int32_t g_0_x = 0;\n"
          ++ codes "void body_main() {\n"
          ++ codes "  shed::str* t_0 = nullptr;\n"
          ++ codes "  g_0_x = 1;\n"
          ++ codes "  if ((g_0_x < 2)) {\n"
          ++ codes "    t_0 = shed::text_of(g_0_x);\n"
          ++ codes "    shed::write(t_0);\n"
          ++ codes "    shed::write(\"\\012\"_t);\n"
          ++ codes "  }\n"
          ++ codes "  t_0 = shed::text_of(5);\n"
          ++ codes "  shed::write(t_0);\n"
          ++ codes "  shed::write(\"\\012\"_t);\n"
          ++ codes "}\n"
          ++ codes "int main() { return shed::start(&body_main); }\n";
      makefile =
          codes "CXX ?= g++\n"
          ++ codes "CXXFLAGS ?= -O2\n"
          ++ codes "main: main.cpp\n"
          ++ codes "\t$(CXX) -std=c++20 -fwrapv $(CXXFLAGS) -o main main.cpp -lshed\n"
          ++ codes "\n";
      types =
          codes "shed types 1\n"
          ++ codes "rounds 1\n"
          ++ codes "template T0 main ()\n"
          ++ codes "family F0\n"
          ++ codes "group G0 T0\n"
          ++ codes "global main.x int {int}\n";
    })
unfolding lib.Utf8.encode put int_wrap digits
taken =
    record {
      is_source = source 4000 taken_text taken_tree refl refl refl (lit≤ tt) refl refl;
      runs = (λ input k. ((60, refl), (60, refl)), tt);
      files = refl;
    }

-- a branch whose test fails, so that its `else` is run
abbrev taken_otherwise_text : List ℕ
taken_otherwise_text =
    codes "x = 3\n"
    ++ codes "if x == 2:\n"
    ++ codes "  print(1)\n"
    ++ codes "else:\n"
    ++ codes "  print(0)\n"
    ++ codes "  x = 7\n"
    ++ codes "print(x)\n"

abbrev taken_otherwise_tree : Body
taken_otherwise_tree =
    more (SAssign (place 1 1) (codes "x") (ENumber (place 1 5) 3))
    (more (SIf (place 2 1) (CCompare (place 2 6) EqualTo (EName (place 2 4) (codes "x")) (ENumber (place 2 9) 2))
    (more (SPrint (place 3 3) (place 3 8) (ENumber (place 3 9) 1)) none)
    (more (SPrint (place 5 3) (place 5 8) (ENumber (place 5 9) 0))
    (more (SAssign (place 6 3) (codes "x") (ENumber (place 6 7) 7)) none)))
    (more (SPrint (place 7 1) (place 7 6) (EName (place 7 7) (codes "x"))) none))

taken_otherwise :
    Shown (codes "main") taken_otherwise_text taken_otherwise_tree
    (WithAtLeast 0 (codes "0\n7\n") Done ∷ [])
    (record {
      header =
          codes "#pragma once\n"
          ++ codes "#include \"shed-forward.hpp\"\n"
          ++ codes "extern int32_t g_0_x;\n"
          ++ codes "void body_main();\n";
      source =
          codes "#include \"shed-support.hpp\"\n"
          ++ codes "#include \"shed-forward.hpp\"\n"
          ++ codes "#include \"main.hpp\"\n"
          ++ codes "int32_t g_0_x = 0;\n"
          ++ codes "void body_main() {\n"
          ++ codes "  shed::str* t_0 = nullptr;\n"
          ++ codes "  g_0_x = 3;\n"
          ++ codes "  if ((g_0_x == 2)) {\n"
          ++ codes "    t_0 = shed::text_of(1);\n"
          ++ codes "    shed::write(t_0);\n"
          ++ codes "    shed::write(\"\\012\"_t);\n"
          ++ codes "  } else {\n"
          ++ codes "    t_0 = shed::text_of(0);\n"
          ++ codes "    shed::write(t_0);\n"
          ++ codes "    shed::write(\"\\012\"_t);\n"
          ++ codes "    g_0_x = 7;\n"
          ++ codes "  }\n"
          ++ codes "  t_0 = shed::text_of(g_0_x);\n"
          ++ codes "  shed::write(t_0);\n"
          ++ codes "  shed::write(\"\\012\"_t);\n"
          ++ codes "}\n"
          ++ codes "int main() { return shed::start(&body_main); }\n";
      makefile =
          codes "CXX ?= g++\n"
          ++ codes "CXXFLAGS ?= -O2\n"
          ++ codes "main: main.cpp\n"
          ++ codes "\t$(CXX) -std=c++20 -fwrapv $(CXXFLAGS) -o main main.cpp -lshed\n"
          ++ codes "\n";
      types =
          codes "shed types 1\n"
          ++ codes "rounds 1\n"
          ++ codes "template T0 main ()\n"
          ++ codes "family F0\n"
          ++ codes "group G0 T0\n"
          ++ codes "global main.x int {int}\n";
    })
unfolding lib.Utf8.encode put int_wrap digits
taken_otherwise =
    record {
      is_source = source 4000 taken_otherwise_text taken_otherwise_tree refl refl refl (lit≤ tt) refl refl;
      runs = (λ input k. ((60, refl), (60, refl)), tt);
      files = refl;
    }

-- names that a block binds first: each is a variable of the module, in the order of the text, also one that is never bound
abbrev bound_within_text : List ℕ
bound_within_text =
    codes "y = 1\n"
    ++ codes "if y != 1:\n"
    ++ codes "  b = 2\n"
    ++ codes "else:\n"
    ++ codes "  a = 3\n"
    ++ codes "c = 4\n"
    ++ codes "print(c)\n"

abbrev bound_within_tree : Body
bound_within_tree =
    more (SAssign (place 1 1) (codes "y") (ENumber (place 1 5) 1))
    (more (SIf (place 2 1) (CCompare (place 2 6) NotEqualTo (EName (place 2 4) (codes "y")) (ENumber (place 2 9) 1))
    (more (SAssign (place 3 3) (codes "b") (ENumber (place 3 7) 2)) none)
    (more (SAssign (place 5 3) (codes "a") (ENumber (place 5 7) 3)) none))
    (more (SAssign (place 6 1) (codes "c") (ENumber (place 6 5) 4))
    (more (SPrint (place 7 1) (place 7 6) (EName (place 7 7) (codes "c"))) none)))

bound_within :
    Shown (codes "main") bound_within_text bound_within_tree
    (WithAtLeast 0 (codes "4\n") Done ∷ [])
    (record {
      header =
          codes "#pragma once\n"
          ++ codes "#include \"shed-forward.hpp\"\n"
          ++ codes "extern int32_t g_0_y;\n"
          ++ codes "extern int32_t g_0_b;\n"
          ++ codes "extern int32_t g_0_a;\n"
          ++ codes "extern int32_t g_0_c;\n"
          ++ codes "void body_main();\n";
      source =
          codes "#include \"shed-support.hpp\"\n"
          ++ codes "#include \"shed-forward.hpp\"\n"
          ++ codes "#include \"main.hpp\"\n"
          ++ codes "int32_t g_0_y = 0;\n"
          ++ codes "int32_t g_0_b = 0;\n"
          ++ codes "int32_t g_0_a = 0;\n"
          ++ codes "int32_t g_0_c = 0;\n"
          ++ codes "void body_main() {\n"
          ++ codes "  shed::str* t_0 = nullptr;\n"
          ++ codes "  g_0_y = 1;\n"
          ++ codes "  if ((g_0_y != 1)) {\n"
          ++ codes "    g_0_b = 2;\n"
          ++ codes "  } else {\n"
          ++ codes "    g_0_a = 3;\n"
          ++ codes "  }\n"
          ++ codes "  g_0_c = 4;\n"
          ++ codes "  t_0 = shed::text_of(g_0_c);\n"
          ++ codes "  shed::write(t_0);\n"
          ++ codes "  shed::write(\"\\012\"_t);\n"
          ++ codes "}\n"
          ++ codes "int main() { return shed::start(&body_main); }\n";
      makefile =
          codes "CXX ?= g++\n"
          ++ codes "CXXFLAGS ?= -O2\n"
          ++ codes "main: main.cpp\n"
          ++ codes "\t$(CXX) -std=c++20 -fwrapv $(CXXFLAGS) -o main main.cpp -lshed\n"
          ++ codes "\n";
      types =
          codes "shed types 1\n"
          ++ codes "rounds 1\n"
          ++ codes "template T0 main ()\n"
          ++ codes "family F0\n"
          ++ codes "group G0 T0\n"
          ++ codes "global main.y int {int}\n"
          ++ codes "global main.b int {int}\n"
          ++ codes "global main.a int {int}\n"
          ++ codes "global main.c int {int}\n";
    })
unfolding lib.Utf8.encode put int_wrap digits
bound_within =
    record {
      is_source = source 4000 bound_within_text bound_within_tree refl refl refl (lit≤ tt) refl refl;
      runs = (λ input k. ((60, refl), (60, refl)), tt);
      files = refl;
    }

-- a countdown from 2: it tests three times
abbrev countdown_text : List ℕ
countdown_text =
    codes "x = 2\n"
    ++ codes "while x > 0:\n"
    ++ codes "  print(x)\n"
    ++ codes "  x = x - 1\n"
    ++ codes "print(x)\n"

abbrev countdown_tree : Body
countdown_tree =
    more (SAssign (place 1 1) (codes "x") (ENumber (place 1 5) 2))
    (more (SWhile (place 2 1) (CCompare (place 2 9) GreaterThan (EName (place 2 7) (codes "x")) (ENumber (place 2 11) 0))
    (more (SPrint (place 3 3) (place 3 8) (EName (place 3 9) (codes "x")))
    (more (SAssign (place 4 3) (codes "x") (EBinary (place 4 9) Subtract (EName (place 4 7) (codes "x")) (ENumber (place 4 11) 1))) none)))
    (more (SPrint (place 5 1) (place 5 6) (EName (place 5 7) (codes "x"))) none))

countdown :
    Shown (codes "main") countdown_text countdown_tree
    (With 0 [] GoingOn ∷ With 1 (codes "2\n") GoingOn ∷ With 2 (codes "2\n1\n") GoingOn ∷ WithAtLeast 3 (codes "2\n1\n0\n") Done ∷ [])
    (record {
      header =
          codes "#pragma once\n"
          ++ codes "#include \"shed-forward.hpp\"\n"
          ++ codes "extern int32_t g_0_x;\n"
          ++ codes "void body_main();\n";
      source =
          codes "#include \"shed-support.hpp\"\n"
          ++ codes "#include \"shed-forward.hpp\"\n"
          ++ codes "#include \"main.hpp\"\n"
          ++ codes "int32_t g_0_x = 0;\n"
          ++ codes "void body_main() {\n"
          ++ codes "  shed::str* t_0 = nullptr;\n"
          ++ codes "  g_0_x = 2;\n"
          ++ codes "  while ((g_0_x > 0)) {\n"
          ++ codes "    t_0 = shed::text_of(g_0_x);\n"
          ++ codes "    shed::write(t_0);\n"
          ++ codes "    shed::write(\"\\012\"_t);\n"
          ++ codes "    g_0_x = (g_0_x - 1);\n"
          ++ codes "  }\n"
          ++ codes "  t_0 = shed::text_of(g_0_x);\n"
          ++ codes "  shed::write(t_0);\n"
          ++ codes "  shed::write(\"\\012\"_t);\n"
          ++ codes "}\n"
          ++ codes "int main() { return shed::start(&body_main); }\n";
      makefile =
          codes "CXX ?= g++\n"
          ++ codes "CXXFLAGS ?= -O2\n"
          ++ codes "main: main.cpp\n"
          ++ codes "\t$(CXX) -std=c++20 -fwrapv $(CXXFLAGS) -o main main.cpp -lshed\n"
          ++ codes "\n";
      types =
          codes "shed types 1\n"
          ++ codes "rounds 1\n"
          ++ codes "template T0 main ()\n"
          ++ codes "family F0\n"
          ++ codes "group G0 T0\n"
          ++ codes "global main.x int {int}\n";
    })
unfolding lib.Utf8.encode put int_wrap digits
countdown =
    record {
      is_source = source 4000 countdown_text countdown_tree refl refl refl (lit≤ tt) refl refl;
      runs = (λ input. ((80, refl), (80, refl)), (λ input. ((80, refl), (80, refl)), (λ input. ((80, refl), (80, refl)), (λ input k. ((80, refl), (80, refl)), tt))));
      files = refl;
    }

-- a loop that prints nothing: it tests three times, and no temporary is declared
abbrev silent_text : List ℕ
silent_text =
    codes "x = 1\n"
    ++ codes "while x < 3:\n"
    ++ codes "  x = x + 1\n"

abbrev silent_tree : Body
silent_tree =
    more (SAssign (place 1 1) (codes "x") (ENumber (place 1 5) 1))
    (more (SWhile (place 2 1) (CCompare (place 2 9) LessThan (EName (place 2 7) (codes "x")) (ENumber (place 2 11) 3))
    (more (SAssign (place 3 3) (codes "x") (EBinary (place 3 9) Add (EName (place 3 7) (codes "x")) (ENumber (place 3 11) 1))) none)) none)

silent :
    Shown (codes "main") silent_text silent_tree
    (With 2 [] GoingOn ∷ WithAtLeast 3 [] Done ∷ [])
    (record {
      header =
          codes "#pragma once\n"
          ++ codes "#include \"shed-forward.hpp\"\n"
          ++ codes "extern int32_t g_0_x;\n"
          ++ codes "void body_main();\n";
      source =
          codes "#include \"shed-support.hpp\"\n"
          ++ codes "#include \"shed-forward.hpp\"\n"
          ++ codes "#include \"main.hpp\"\n"
          ++ codes "int32_t g_0_x = 0;\n"
          ++ codes "void body_main() {\n"
          ++ codes "  g_0_x = 1;\n"
          ++ codes "  while ((g_0_x < 3)) {\n"
          ++ codes "    g_0_x = (g_0_x + 1);\n"
          ++ codes "  }\n"
          ++ codes "}\n"
          ++ codes "int main() { return shed::start(&body_main); }\n";
      makefile =
          codes "CXX ?= g++\n"
          ++ codes "CXXFLAGS ?= -O2\n"
          ++ codes "main: main.cpp\n"
          ++ codes "\t$(CXX) -std=c++20 -fwrapv $(CXXFLAGS) -o main main.cpp -lshed\n"
          ++ codes "\n";
      types =
          codes "shed types 1\n"
          ++ codes "rounds 1\n"
          ++ codes "template T0 main ()\n"
          ++ codes "family F0\n"
          ++ codes "group G0 T0\n"
          ++ codes "global main.x int {int}\n";
    })
unfolding lib.Utf8.encode put int_wrap digits
silent =
    record {
      is_source = source 4000 silent_text silent_tree refl refl refl (lit≤ tt) refl refl;
      runs = (λ input. ((80, refl), (80, refl)), (λ input k. ((80, refl), (80, refl)), tt));
      files = refl;
    }

-- a loop in a loop with a branch within: the outer one tests three times, the inner one three times and then twice
abbrev loop_in_loop_text : List ℕ
loop_in_loop_text =
    codes "x = 2\n"
    ++ codes "y = 0\n"
    ++ codes "while x >= 1:\n"
    ++ codes "  y = x\n"
    ++ codes "  while y > 0:\n"
    ++ codes "    if y == x:\n"
    ++ codes "      print(y)\n"
    ++ codes "    y = y - 1\n"
    ++ codes "  x = x - 1\n"

abbrev loop_in_loop_tree : Body
loop_in_loop_tree =
    more (SAssign (place 1 1) (codes "x") (ENumber (place 1 5) 2))
    (more (SAssign (place 2 1) (codes "y") (ENumber (place 2 5) 0))
    (more (SWhile (place 3 1) (CCompare (place 3 9) AtLeast (EName (place 3 7) (codes "x")) (ENumber (place 3 12) 1))
    (more (SAssign (place 4 3) (codes "y") (EName (place 4 7) (codes "x")))
    (more (SWhile (place 5 3) (CCompare (place 5 11) GreaterThan (EName (place 5 9) (codes "y")) (ENumber (place 5 13) 0))
    (more (SIf (place 6 5) (CCompare (place 6 10) EqualTo (EName (place 6 8) (codes "y")) (EName (place 6 13) (codes "x")))
    (more (SPrint (place 7 7) (place 7 12) (EName (place 7 13) (codes "y"))) none)
    none)
    (more (SAssign (place 8 5) (codes "y") (EBinary (place 8 11) Subtract (EName (place 8 9) (codes "y")) (ENumber (place 8 13) 1))) none)))
    (more (SAssign (place 9 3) (codes "x") (EBinary (place 9 9) Subtract (EName (place 9 7) (codes "x")) (ENumber (place 9 11) 1))) none)))) none))

loop_in_loop :
    Shown (codes "main") loop_in_loop_text loop_in_loop_tree
    (With 1 [] GoingOn ∷ With 5 (codes "2\n") GoingOn ∷ With 7 (codes "2\n1\n") GoingOn ∷ WithAtLeast 8 (codes "2\n1\n") Done ∷ [])
    (record {
      header =
          codes "#pragma once\n"
          ++ codes "#include \"shed-forward.hpp\"\n"
          ++ codes "extern int32_t g_0_x;\n"
          ++ codes "extern int32_t g_0_y;\n"
          ++ codes "void body_main();\n";
      source =
          codes "#include \"shed-support.hpp\"\n"
          ++ codes "#include \"shed-forward.hpp\"\n"
          ++ codes "#include \"main.hpp\"\n"
          ++ codes "int32_t g_0_x = 0;\n"
          ++ codes "int32_t g_0_y = 0;\n"
          ++ codes "void body_main() {\n"
          ++ codes "  shed::str* t_0 = nullptr;\n"
          ++ codes "  g_0_x = 2;\n"
          ++ codes "  g_0_y = 0;\n"
          ++ codes "  while ((g_0_x >= 1)) {\n"
          ++ codes "    g_0_y = g_0_x;\n"
          ++ codes "    while ((g_0_y > 0)) {\n"
          ++ codes "      if ((g_0_y == g_0_x)) {\n"
          ++ codes "        t_0 = shed::text_of(g_0_y);\n"
          ++ codes "        shed::write(t_0);\n"
          ++ codes "        shed::write(\"\\012\"_t);\n"
          ++ codes "      }\n"
          ++ codes "      g_0_y = (g_0_y - 1);\n"
          ++ codes "    }\n"
          ++ codes "    g_0_x = (g_0_x - 1);\n"
          ++ codes "  }\n"
          ++ codes "}\n"
          ++ codes "int main() { return shed::start(&body_main); }\n";
      makefile =
          codes "CXX ?= g++\n"
          ++ codes "CXXFLAGS ?= -O2\n"
          ++ codes "main: main.cpp\n"
          ++ codes "\t$(CXX) -std=c++20 -fwrapv $(CXXFLAGS) -o main main.cpp -lshed\n"
          ++ codes "\n";
      types =
          codes "shed types 1\n"
          ++ codes "rounds 1\n"
          ++ codes "template T0 main ()\n"
          ++ codes "family F0\n"
          ++ codes "group G0 T0\n"
          ++ codes "global main.x int {int}\n"
          ++ codes "global main.y int {int}\n";
    })
unfolding lib.Utf8.encode put int_wrap digits
loop_in_loop =
    record {
      is_source = source 4000 loop_in_loop_text loop_in_loop_tree refl refl refl (lit≤ tt) refl refl;
      runs = (λ input. ((200, refl), (200, refl)), (λ input. ((200, refl), (200, refl)), (λ input. ((200, refl), (200, refl)), (λ input k. ((200, refl), (200, refl)), tt))));
      files = refl;
    }

-- a loop that never ends
abbrev endless_text : List ℕ
endless_text =
    codes "while 1 <= 1:\n"
    ++ codes "  print(7)\n"

abbrev endless_tree : Body
endless_tree =
    more (SWhile (place 1 1) (CCompare (place 1 9) AtMost (ENumber (place 1 7) 1) (ENumber (place 1 12) 1))
    (more (SPrint (place 2 3) (place 2 8) (ENumber (place 2 9) 7)) none)) none

endless :
    Shown (codes "main") endless_text endless_tree
    (With 0 [] GoingOn ∷ With 1 (codes "7\n") GoingOn ∷ With 3 (codes "7\n7\n7\n") GoingOn ∷ [])
    (record {
      header =
          codes "#pragma once\n"
          ++ codes "#include \"shed-forward.hpp\"\n"
          ++ codes "void body_main();\n";
      source =
          codes "#include \"shed-support.hpp\"\n"
          ++ codes "#include \"shed-forward.hpp\"\n"
          ++ codes "#include \"main.hpp\"\n"
          ++ codes "void body_main() {\n"
          ++ codes "  shed::str* t_0 = nullptr;\n"
          ++ codes "  while ((1 <= 1)) {\n"
          ++ codes "    t_0 = shed::text_of(7);\n"
          ++ codes "    shed::write(t_0);\n"
          ++ codes "    shed::write(\"\\012\"_t);\n"
          ++ codes "  }\n"
          ++ codes "}\n"
          ++ codes "int main() { return shed::start(&body_main); }\n";
      makefile =
          codes "CXX ?= g++\n"
          ++ codes "CXXFLAGS ?= -O2\n"
          ++ codes "main: main.cpp\n"
          ++ codes "\t$(CXX) -std=c++20 -fwrapv $(CXXFLAGS) -o main main.cpp -lshed\n"
          ++ codes "\n";
      types =
          codes "shed types 1\n"
          ++ codes "rounds 1\n"
          ++ codes "template T0 main ()\n"
          ++ codes "family F0\n"
          ++ codes "group G0 T0\n";
    })
unfolding lib.Utf8.encode put int_wrap digits
endless =
    record {
      is_source = source 4000 endless_text endless_tree refl refl refl (lit≤ tt) refl refl;
      runs = (λ input. ((80, refl), (80, refl)), (λ input. ((80, refl), (80, refl)), (λ input. ((80, refl), (80, refl)), tt)));
      files = refl;
    }
