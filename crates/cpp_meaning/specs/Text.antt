-- The one text of a tree: a statement or a member a line, blocks indented by two spaces, one line end at the end.
use Rattle.std.specs.Prelude.{ℕ, zero, suc, ◌+◌, ◌/◌, ◌%◌, List, [], ◌∷◌, ◌++◌, Bool, ◌==◌, ◌&&◌, ◌||◌, nat_le, not, if◌then◌else◌, codes}
use Rattle.std.specs.Fmt.{decimal}
use Rattle.cpp_meaning.specs.Tree.{CppType, Int32, Truth, Text, Zero, ZeroNumber, FalseTruth, NullPointer, Operator, Plus, Minus, Times, Less, LessOrEqual, Greater, GreaterOrEqual, Equal, NotEqual, Expr, Named, Number, Literal, Operate, Negate, Row, TextOf, Write, Value, Operand, CallRow, Stmt, Declare, Assign, Perform, If, IfElse, While, Block, none, more, Declaration, Extern, BodyHead, Definition, Variable, Body, Main, Module, Program}

-- a file of the folder that is written
pub record File : Type 0 where
  pub name : List ℕ
  pub bytes : List ℕ

abbrev pub type_text : CppType → List ℕ
type_text Int32 = codes "int32_t"
type_text Truth = codes "bool"
type_text Text = codes "shed::str*"

abbrev pub zero_text : Zero → List ℕ
zero_text ZeroNumber = codes "0"
zero_text FalseTruth = codes "false"
zero_text NullPointer = codes "nullptr"

abbrev pub operator_text : Operator → List ℕ
operator_text Plus = codes " + "
operator_text Minus = codes " - "
operator_text Times = codes " * "
operator_text Less = codes " < "
operator_text LessOrEqual = codes " <= "
operator_text Greater = codes " > "
operator_text GreaterOrEqual = codes " >= "
operator_text Equal = codes " == "
operator_text NotEqual = codes " != "

abbrev pub row_text : Row → List ℕ
row_text TextOf = codes "shed::text_of("
row_text Write = codes "shed::write("

-- whether a character stands for itself in a text: 32 to 126, but not `"`, `?` and a backslash
abbrev pub is_plain : ℕ → Bool
is_plain c = (nat_le 32 c && nat_le c 126) && not ((c == 34) || ((c == 63) || (c == 92)))

-- a character of a text, or a backslash and its three octal digits
abbrev pub character_text : ℕ → List ℕ
character_text c = if is_plain c then c ∷ [] else 92 ∷ (48 + c / 64 % 8) ∷ (48 + c / 8 % 8) ∷ (48 + c % 8) ∷ []

abbrev pub quoted : List ℕ → List ℕ
quoted [] = codes "\"_t"
quoted (c ∷ t) = character_text c ++ quoted t

abbrev pub expr_text : Expr → List ℕ
expr_text (Named x) = x
expr_text (Number n) = decimal n
expr_text (Literal t) = 34 ∷ quoted t
expr_text (Operate o a b) = codes "(" ++ (expr_text a ++ (operator_text o ++ (expr_text b ++ codes ")")))
expr_text (Negate e) = codes "(-" ++ (expr_text e ++ codes ")")

-- further operands, and the bracket that closes a call
abbrev pub operands_text : List Expr → List ℕ
operands_text [] = codes ")"
operands_text (e ∷ es) = codes ", " ++ (expr_text e ++ operands_text es)

abbrev pub value_text : Value → List ℕ
value_text (Operand e) = expr_text e
value_text (CallRow row []) = row_text row ++ codes ")"
value_text (CallRow row (e ∷ es)) = row_text row ++ (expr_text e ++ operands_text es)

abbrev pub indent : ℕ → List ℕ
indent zero = []
indent (suc depth) = codes "  " ++ indent depth

-- a statement that begins at this depth
abbrev mutual
  pub stmt_text : ℕ → Stmt → List ℕ
  stmt_text depth (Declare t x z) = type_text t ++ (codes " " ++ (x ++ (codes " = " ++ (zero_text z ++ codes ";\n"))))
  stmt_text depth (Assign x v) = x ++ (codes " = " ++ (value_text v ++ codes ";\n"))
  stmt_text depth (Perform v) = value_text v ++ codes ";\n"
  stmt_text depth (If e body) = codes "if (" ++ (expr_text e ++ (codes ") {\n" ++ (block_text (suc depth) body ++ (indent depth ++ codes "}\n"))))
  stmt_text depth (IfElse e body other) =
      codes "if (" ++ (expr_text e ++ (codes ") {\n" ++ (block_text (suc depth) body ++ (indent depth ++ (codes "} else {\n"
      ++ (block_text (suc depth) other ++ (indent depth ++ codes "}\n")))))))
  stmt_text depth (While e body) = codes "while (" ++ (expr_text e ++ (codes ") {\n" ++ (block_text (suc depth) body ++ (indent depth ++ codes "}\n"))))

  pub block_text : ℕ → Block → List ℕ
  block_text depth none = []
  block_text depth (more s rest) = indent depth ++ (stmt_text depth s ++ block_text depth rest)

abbrev pub declaration_text : Declaration → List ℕ
declaration_text (Extern t x) = codes "extern " ++ (type_text t ++ (codes " " ++ (x ++ codes ";\n")))
declaration_text (BodyHead x) = codes "void " ++ (x ++ codes "();\n")

abbrev pub definition_text : Definition → List ℕ
definition_text (Variable t x z) = type_text t ++ (codes " " ++ (x ++ (codes " = " ++ (zero_text z ++ codes ";\n"))))
definition_text (Body x block) = codes "void " ++ (x ++ (codes "() {\n" ++ (block_text 1 block ++ codes "}\n")))
definition_text (Main x) = codes "int main() { return shed::start(&" ++ (x ++ codes "); }\n")

abbrev pub header_text : List Declaration → List ℕ
header_text [] = []
header_text (d ∷ items) = declaration_text d ++ header_text items

abbrev pub source_text : List Definition → List ℕ
source_text [] = []
source_text (d ∷ items) = definition_text d ++ source_text items

abbrev pub forward_text : List ℕ
forward_text = codes "#pragma once\n#include \"shed-support.hpp\"\n"

-- the lines by which a source file includes every module's header
abbrev pub includes_text : List Module → List ℕ
includes_text [] = []
includes_text (m ∷ modules) = codes "#include \"" ++ (m.name ++ (codes ".hpp\"\n" ++ includes_text modules))

abbrev pub header_file : Module → File
header_file m =
    record {
      name = m.name ++ codes ".hpp";
      bytes = codes "#pragma once\n#include \"shed-forward.hpp\"\n" ++ header_text m.header;
    }

abbrev pub source_file : List Module → Module → File
source_file modules m =
    record {
      name = m.name ++ codes ".cpp";
      bytes = codes "#include \"shed-support.hpp\"\n#include \"shed-forward.hpp\"\n" ++ (includes_text modules ++ source_text m.source);
    }

abbrev pub header_files : List Module → List File
header_files [] = []
header_files (m ∷ modules) = header_file m ∷ header_files modules

abbrev pub source_files : List Module → List Module → List File
source_files all [] = []
source_files all (m ∷ modules) = source_file all m ∷ source_files all modules

-- the C++ files of a program, in the order in which they are written
abbrev pub files_of : Program → List File
files_of P =
    record { name = codes "shed-forward.hpp"; bytes = forward_text } ∷ (header_files P.modules ++ source_files P.modules P.modules)
