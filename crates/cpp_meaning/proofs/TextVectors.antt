-- The bytes of trees, as they are to stand in the files.
use Rattle.std.proofs.Common.{◌≡◌, [], ◌∷◌, ◌++◌, refl, codes}
use Rattle.std.specs.Fmt.{digits}
use Rattle.cpp_meaning.specs.Tree.{Int32, Truth, Text, ZeroNumber, FalseTruth, NullPointer, Plus, Minus, Times, Less, LessOrEqual, Greater, GreaterOrEqual, Equal, NotEqual, Named, Number, Literal, Operate, Negate, TextOf, Operand, CallRow, Declare, Assign, Perform, If, IfElse, While, none, more, Body}
use Rattle.cpp_meaning.specs.Text.{File, character_text, expr_text, value_text, stmt_text, block_text, definition_text, files_of}
use Rattle.cpp_meaning.proofs.TreeVectors.{g, t, sum, write, at_most}

-- ---- the files of `x = 1`, `print(x + 2)`

abbrev forward : File
forward = record { name = codes "shed-forward.hpp"; bytes = codes "#pragma once\n#include \"shed-support.hpp\"\n" }

abbrev header : File
header = record { name = codes "main.hpp"; bytes = codes "#pragma once\n#include \"shed-forward.hpp\"\nextern int32_t g_0_x;\nvoid body_main();\n" }

abbrev source : File
source =
    record {
      name = codes "main.cpp";
      bytes =
          codes "#include \"shed-support.hpp\"\n#include \"shed-forward.hpp\"\n#include \"main.hpp\"\n"
          ++ (codes "int32_t g_0_x = 0;\nvoid body_main() {\n  shed::str* t_0 = nullptr;\n  g_0_x = 1;\n"
          ++ (codes "  t_0 = shed::text_of((g_0_x + 2));\n  shed::write(t_0);\n  shed::write(\"\\012\"_t);\n}\n"
          ++ codes "int main() { return shed::start(&body_main); }\n"));
    }

sum_files : files_of sum ≡ forward ∷ header ∷ source ∷ []
unfolding digits
sum_files = refl

-- no module, so no header and no source file
no_files : files_of (record { modules = [] }) ≡ forward ∷ []
no_files = refl

-- each source file includes every module's header, and headers come before sources
two_files :
    files_of (record { modules = record { name = codes "a"; header = []; source = [] } ∷ record { name = codes "b"; header = []; source = [] } ∷ [] })
    ≡ forward
    ∷ record { name = codes "a.hpp"; bytes = codes "#pragma once\n#include \"shed-forward.hpp\"\n" }
    ∷ record { name = codes "b.hpp"; bytes = codes "#pragma once\n#include \"shed-forward.hpp\"\n" }
    ∷ record { name = codes "a.cpp"; bytes = codes "#include \"shed-support.hpp\"\n#include \"shed-forward.hpp\"\n#include \"a.hpp\"\n#include \"b.hpp\"\n" }
    ∷ record { name = codes "b.cpp"; bytes = codes "#include \"shed-support.hpp\"\n#include \"shed-forward.hpp\"\n#include \"a.hpp\"\n#include \"b.hpp\"\n" } ∷ []
two_files = refl

-- ---- texts

plain_literal : expr_text (Literal (codes "a Z~'0")) ≡ codes "\"a Z~'0\"_t"
plain_literal = refl

empty_literal : expr_text (Literal []) ≡ codes "\"\"_t"
empty_literal = refl

-- a quote, a backslash, `?`, a line feed, 0, 127 and 255, each by three octal digits
escapes : expr_text (Literal (34 ∷ 92 ∷ 63 ∷ 10 ∷ 0 ∷ 127 ∷ 255 ∷ [])) ≡ codes "\"\\042\\134\\077\\012\\000\\177\\377\"_t"
escapes = refl

-- a digit behind an escaped character is none of its digits
digit_behind : expr_text (Literal (10 ∷ 49 ∷ [])) ≡ codes "\"\\0121\"_t"
digit_behind = refl

-- the first and the last plain character, and their neighbours
plain_ends : (character_text 32 ≡ 32 ∷ []) × (character_text 126 ≡ 126 ∷ []) × (character_text 31 ≡ codes "\\037") × (character_text 127 ≡ codes "\\177")
plain_ends = (refl, refl, refl, refl)

-- ---- expressions and statements

-- each operator has brackets of its own, so no text is read with other nesting
left_nested : expr_text (Operate Minus (Operate Minus (Number 10) (Number 4)) (Number 3)) ≡ codes "((10 - 4) - 3)"
unfolding digits
left_nested = refl

right_nested : expr_text (Operate Times (Named g) (Operate Plus (Number 0) (Negate (Named t)))) ≡ codes "(g_0_x * (0 + (-t_0)))"
unfolding digits
right_nested = refl

-- two minus signs never touch, which would be another operator
negated_twice : expr_text (Negate (Negate (Number 5))) ≡ codes "(-(-5))"
unfolding digits
negated_twice = refl

greatest : expr_text (Number 2147483647) ≡ codes "2147483647"
unfolding digits
greatest = refl

calls : (value_text (CallRow TextOf []) ≡ codes "shed::text_of()") × (value_text (CallRow TextOf (Named g ∷ Named t ∷ [])) ≡ codes "shed::text_of(g_0_x, t_0)")
calls = (refl, refl)

statements : (stmt_text 1 (Declare Int32 t ZeroNumber) ≡ codes "int32_t t_0 = 0;\n") × (stmt_text 1 (Declare Text t NullPointer) ≡ codes "shed::str* t_0 = nullptr;\n") × (stmt_text 1 (Perform (Operand (Named g))) ≡ codes "g_0_x;\n")
statements = (refl, refl, refl)

indented : block_text 2 (more (Assign t (Operand (Named g))) (more (Perform (Operand (Named t))) none)) ≡ codes "    t_0 = g_0_x;\n    t_0;\n"
indented = refl

empty_body : definition_text (Body (codes "body_main") none) ≡ codes "void body_main() {\n}\n"
empty_body = refl

-- ---- truth values, comparisons and blocks

truth_declared : stmt_text 1 (Declare Truth t FalseTruth) ≡ codes "bool t_0 = false;\n"
truth_declared = refl

comparisons : (expr_text (Operate Less (Named g) (Named t)) ≡ codes "(g_0_x < t_0)") × (expr_text (Operate LessOrEqual (Named g) (Named t)) ≡ codes "(g_0_x <= t_0)") × (expr_text (Operate Greater (Named g) (Named t)) ≡ codes "(g_0_x > t_0)") × (expr_text (Operate GreaterOrEqual (Named g) (Named t)) ≡ codes "(g_0_x >= t_0)") × (expr_text (Operate Equal (Named g) (Named t)) ≡ codes "(g_0_x == t_0)") × (expr_text (Operate NotEqual (Named g) (Named t)) ≡ codes "(g_0_x != t_0)")
comparisons = (refl, refl, refl, refl, refl, refl)

-- a comparison has brackets of its own, also among an `if`'s
if_alone : block_text 1 (more (If (at_most 1 2) (more (write (Named t)) none)) none) ≡ codes "  if ((1 <= 2)) {\n    shed::write(t_0);\n  }\n"
unfolding digits
if_alone = refl

if_else : block_text 1 (more (IfElse (at_most 1 2) (more (write (Named t)) none) (more (Assign g (Operand (Number 0))) none)) none) ≡ codes "  if ((1 <= 2)) {\n    shed::write(t_0);\n  } else {\n    g_0_x = 0;\n  }\n"
unfolding digits
if_else = refl

while_loop : block_text 1 (more (While (at_most 1 2) (more (write (Named t)) none)) none) ≡ codes "  while ((1 <= 2)) {\n    shed::write(t_0);\n  }\n"
unfolding digits
while_loop = refl

-- two deep, and what stands behind the inner block and behind the outer one
nested :
    block_text 1
    (more (While (Operate Less (Named g) (Named t)) (more (IfElse (Operate Equal (Named g) (Named g)) (more (write (Named t)) none) (more (write (Named g)) none)) (more (write (Named t)) none))) (more (write (Named g)) none))
    ≡ codes "  while ((g_0_x < t_0)) {\n    if ((g_0_x == g_0_x)) {\n      shed::write(t_0);\n    } else {\n      shed::write(g_0_x);\n    }\n"
    ++ codes "    shed::write(t_0);\n  }\n  shed::write(g_0_x);\n"
nested = refl

-- an empty block has brackets
empty_block : stmt_text 0 (IfElse (Named t) none none) ≡ codes "if (t_0) {\n} else {\n}\n"
empty_block = refl
