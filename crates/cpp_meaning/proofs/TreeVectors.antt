-- Trees written by hand, of which the other vectors speak.
use Rattle.std.proofs.Common.{ℕ, List, [], ◌∷◌, codes}
use Rattle.cpp_meaning.specs.Tree.{Identifier, Int32, Text, ZeroNumber, NullPointer, Plus, Minus, Less, LessOrEqual, Greater, Expr, Named, Number, Literal, Operate, Operand, TextOf, Write, CallRow, Stmt, Declare, Assign, Perform, While, Block, none, more, Extern, BodyHead, Variable, Body, Main, Declaration, Definition, Program}

abbrev pub g : Identifier
g = codes "g_0_x"

abbrev pub t : Identifier
t = codes "t_0"

abbrev pub body : Identifier
body = codes "body_main"

-- shed::write(e);
abbrev pub write : Expr → Stmt
write e = Perform (CallRow Write (e ∷ []))

-- t_0 = shed::text_of(e); shed::write(t_0); shed::write("\012"_t);
abbrev pub print : Expr → Block
print e = more (Assign t (CallRow TextOf (e ∷ []))) (more (write (Named t)) (more (write (Literal (10 ∷ []))) none))

-- shed::str* t_0 = nullptr;
abbrev pub declare : Stmt
declare = Declare Text t NullPointer

-- a program of the one module `main`
abbrev pub program : List Declaration → List Definition → Program
program header source = record { modules = record { name = codes "main"; header = header; source = source } ∷ [] }

-- the body of the module `x = 1`, `print(x + 2)`
abbrev pub sum_block : Block
sum_block = more declare (more (Assign g (Operand (Number 1))) (print (Operate Plus (Named g) (Number 2))))

abbrev pub sum : Program
sum = program (Extern Int32 g ∷ BodyHead body ∷ []) (Variable Int32 g ZeroNumber ∷ Body body sum_block ∷ Main body ∷ [])

-- the module `print(2147483647 + 1)`
abbrev pub wrapped_sum : Program
wrapped_sum = program (BodyHead body ∷ []) (Body body (more declare (print (Operate Plus (Number 2147483647) (Number 1)))) ∷ Main body ∷ [])

-- (m <= n)
abbrev pub at_most : ℕ → ℕ → Expr
at_most m n = Operate LessOrEqual (Number m) (Number n)

-- the module `while 1 < 2:` and in it `print(7)`
abbrev pub rounds : Program
rounds = program (BodyHead body ∷ []) (Body body (more declare (more (While (Operate Less (Number 1) (Number 2)) (print (Number 7))) none)) ∷ Main body ∷ [])

-- g_0_x = 3; while ((g_0_x > 0)) { g_0_x = (g_0_x - 1); }
abbrev pub countdown : Program
countdown =
    program (Extern Int32 g ∷ BodyHead body ∷ [])
    (Variable Int32 g ZeroNumber
    ∷ Body body (more (Assign g (Operand (Number 3))) (more (While (Operate Greater (Named g) (Number 0)) (more (Assign g (Operand (Operate Minus (Named g) (Number 1)))) none)) none))
    ∷ Main body ∷ [])
