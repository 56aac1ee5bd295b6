-- What the rules and the bindings of a module say of some trees.
use Rattle.std.proofs.Common.{◌≡◌, [], ◌∷◌, true, false, refl, codes}
use Rattle.py_meaning.specs.Name.{Name}
use Rattle.py_tokens.specs.Token.{Place}
use Rattle.py_meaning.specs.Tree.{Negative, Add, LessThan, Expr, EName, ENumber, EUnary, EBinary, Condition, CCompare, Stmt, SAssign, SPrint, SIf, SWhile, Body, none, more}
use Rattle.py_meaning.specs.Binding.{names_bound}
use Rattle.py_meaning.specs.Rules.{are_reads_sure}

abbrev here : Place
here = record { «module» = 0; line = 1; column = 1 }

abbrev x : Name
x = codes "x"

abbrev y : Name
y = codes "y"

abbrev z : Name
z = codes "z"

abbrev assign : Name → Expr → Stmt
assign w e = SAssign here w e

abbrev print : Expr → Stmt
print e = SPrint here here e

abbrev named : Name → Expr
named w = EName here w

abbrev one : Expr
one = ENumber here 1

abbrev less : Expr → Expr → Condition
less a b = CCompare here LessThan a b

-- 1 < 1
abbrev never : Condition
never = less one one

abbrev alone : Stmt → Body
alone s = more s none

-- x = 1, y = x, x = 2
bound_once : names_bound (more (assign x one) (more (assign y (named x)) (more (assign x one) none))) ≡ x ∷ y ∷ []
bound_once = refl

-- y = 1, x = 1, y = 2: in the order of the first bindings
bound_in_order : names_bound (more (assign y one) (more (assign x one) (more (assign y one) none))) ≡ y ∷ x ∷ []
bound_in_order = refl

-- print(x): a read binds nothing
read_binds_nothing : names_bound (more (print (named x)) none) ≡ []
read_binds_nothing = refl

-- if 1 < 1: y = 1, x = y; else: y = 2, z = 3; x = 4
bound_in_branches :
    names_bound (more (SIf here never (more (assign y one) (alone (assign x (named y)))) (more (assign y one) (alone (assign z one)))) (alone (assign x one)))
    ≡ y ∷ x ∷ z ∷ []
bound_in_branches = refl

-- z = 1; while 1 < 1: (if 1 < 1: x = 1), z = 2; y = 3
bound_in_loop : names_bound (more (assign z one) (more (SWhile here never (more (SIf here never (alone (assign x one)) none) (alone (assign z one)))) (alone (assign y one)))) ≡ z ∷ x ∷ y ∷ []
bound_in_loop = refl

-- x = 1, print(x + x)
read_after : are_reads_sure [] (more (assign x one) (more (print (EBinary here Add (named x) (named x))) none)) ≡ true
read_after = refl

-- x = x
read_in_itself : are_reads_sure [] (more (assign x (named x)) none) ≡ false
read_in_itself = refl

-- print(-x), x = 1
read_before : are_reads_sure [] (more (print (EUnary here Negative (named x))) (more (assign x one) none)) ≡ false
read_before = refl

-- x = 1, print(1 + y)
read_of_another : are_reads_sure [] (more (assign x one) (more (print (EBinary here Add one (named y))) none)) ≡ false
read_of_another = refl

-- if 1 < 1: x = 1; print(x): the block may not be run
read_behind_branch : are_reads_sure [] (more (SIf here never (alone (assign x one)) none) (alone (print (named x)))) ≡ false
read_behind_branch = refl

-- the same behind a block and its `else`, and behind a loop
read_behind_both : are_reads_sure [] (more (SIf here never (alone (assign x one)) (alone (assign x one))) (alone (print (named x)))) ≡ false
read_behind_both = refl

read_behind_loop : are_reads_sure [] (more (SWhile here never (alone (assign x one))) (alone (print (named x)))) ≡ false
read_behind_loop = refl

-- if 1 < 1: x = 1, print(x): not even in the block itself
read_in_block : are_reads_sure [] (alone (SIf here never (more (assign x one) (alone (print (named x)))) none)) ≡ false
read_in_block = refl

read_in_loop : are_reads_sure [] (alone (SWhile here never (more (assign x one) (alone (print (named x)))))) ≡ false
read_in_loop = refl

-- x = 1; while x < 1: x = x + 1, (if 1 < x: y = x; else: print(x)); print(x)
abbrev earlier_loop : Stmt
earlier_loop =
    SWhile here (less (named x) one)
    (more (assign x (EBinary here Add (named x) one)) (alone (SIf here (less one (named x)) (alone (assign y (named x))) (alone (print (named x))))))

read_of_earlier : are_reads_sure [] (more (assign x one) (more earlier_loop (alone (print (named x))))) ≡ true
read_of_earlier = refl

-- either operand of a condition, and what stands behind `else`, is read
read_in_condition : (are_reads_sure [] (alone (SWhile here (less one (named x)) none)) ≡ false) × (are_reads_sure [] (alone (SIf here (less (named x) one) none none)) ≡ false)
read_in_condition = (refl, refl)

read_behind_else : are_reads_sure [] (alone (SIf here never (alone (print one)) (alone (print (named x))))) ≡ false
read_behind_else = refl
