-- An operand of the emission has the value that the source machine computes.
use Rattle.std.proofs.Common.{◌≡◌, ℕ, ℤ, List, [], ◌∷◌, Bool, true, Some, refl, ap, ◌∙◌}
use Rattle.std.specs.Prelude.{pos, ◌-ℤ◌}
use Rattle.runs.specs.Number.{W32, wrapped}
use Rattle.runs.specs.FiniteMap.{Map}
use Rattle.runs.proofs.Simulation.{Leads, leads_on, leads_step}
use Rattle.py_meaning.specs.Name.{Name}
use Rattle.py_meaning.specs.Tree.{Unary, Negative, Binary, Add, Subtract, Multiply, Comparison, LessThan, AtMost, GreaterThan, AtLeast, EqualTo, NotEqualTo, Expr, EName, ENumber, EUnary, EBinary, Condition, CCompare}
use Rattle.py_meaning.specs.Rules.{has_name, reads_only, condition_reads_only}
use Rattle.py_meaning.specs.Value.{Value, VBool, VInt, combined, compared}
use Rattle.py_meaning.specs.Program.{Module, Program, Global, In}
use Rattle.py_meaning.specs.Machine.{Item, Evaluate, Test, Apply, Combine, Compare, Context, Moment, Here, machine, read}
use Rattle.cpp_meaning.specs.Tree.{Int32, Minus}
use Rattle.cpp_meaning.specs.Typing.{Types}
use Rattle.cpp_meaning.specs.Machine.{Cells, Word, held, truth_word, operation, operate, evaluate}
use Rattle.shed_meaning.specs.EmittedName.{global_name}
use Rattle.cpp_emit.specs.Emit.{emit_operator, emit_expr, emit_comparison, emit_condition}
use Rattle.grammars.proofs.Bools.{and_left, and_right}
use Rattle.cpp_emit.proofs.WellTyped.{Knows, emitted_type}

-- a program of one module
abbrev pub one_module : Module → Program
one_module main = record { main = main; width = W32 }

-- a moment of its run
abbrev pub source_at : List Item → List Context → List Value → Map Global Value → List ℕ → List ℕ → Moment
source_at control contexts values globals input output =
    record {
      frames = record { owner = 0; control = control; values = values; contexts = contexts } ∷ [];
      world = record { globals = globals; input = input; output = output };
    }

abbrev pub source_here : List Item → List Context → List Value → Map Global Value → List ℕ → List ℕ → Here
source_here control contexts values globals input output =
    record {
      frame = record { owner = 0; control = control; values = values; contexts = contexts };
      below = [];
      world = record { globals = globals; input = input; output = output };
    }

-- both sides hold the same number in each of these globals
abbrev pub Agree : List Name → Map Global Value → Cells → Type 0
Agree assigned globals cells = (x : Name) → has_name assigned x ≡ true → (z : ℤ) × (globals (In 0 x) ≡ Some (VInt z)) × (cells (global_name 0 x) ≡ Some (Word z))

-- the operand has a number, which the source machine puts on its stack
abbrev pub Evaluates : Module → Types → Cells → Map Global Value → Expr → Type 0
Evaluates main types cells globals e =
    (z : ℤ) × (evaluate types cells (emit_expr e) ≡ Word z)
    × ((control : List Item) (contexts : List Context) (values : List Value) (input output : List ℕ) → Leads (machine (one_module main)) (source_at (Evaluate e ∷ control) contexts values globals input output) (source_at control contexts (VInt z ∷ values) globals input output))

same_arithmetic : (o : Binary) (a b : ℤ) → operation (emit_operator o) a b ≡ wrapped W32 (combined o a b)
same_arithmetic Add a b = refl
same_arithmetic Subtract a b = refl
same_arithmetic Multiply a b = refl

same_comparison : (o : Comparison) (a b : ℤ) → operation (emit_comparison o) a b ≡ truth_word (compared o a b)
same_comparison LessThan a b = refl
same_comparison AtMost a b = refl
same_comparison GreaterThan a b = refl
same_comparison AtLeast a b = refl
same_comparison EqualTo a b = refl
same_comparison NotEqualTo a b = refl

-- the test has a truth value, which the source machine puts on its stack
abbrev pub Tests : Module → Types → Cells → Map Global Value → Condition → Type 0
Tests main types cells globals c =
    (b : Bool) × (evaluate types cells (emit_condition c) ≡ Word (truth_word b))
    × ((control : List Item) (contexts : List Context) (values : List Value) (input output : List ℕ) → Leads (machine (one_module main)) (source_at (Test c ∷ control) contexts values globals input output) (source_at control contexts (VBool b ∷ values) globals input output))

module _ (main : Module) (types : Types) (cells : Cells) (globals : Map Global Value) (assigned : List Name) (known : Knows types (has_name assigned)) (agree : Agree assigned globals cells) where
  evaluates_unary : (p : _) (o : Unary) (e : Expr) → reads_only assigned e ≡ true → Evaluates main types cells globals e → Evaluates main types cells globals (EUnary p o e)
  evaluates_unary p Negative e sure v =
      let m = machine (one_module main) in
      let z = wrapped W32 (pos 0 -ℤ v.0) in (
        z,
        ap (λ t. operate t Minus (Word (pos 0)) (evaluate types cells (emit_expr e))) (emitted_type types assigned e known sure)
            ∙ ap (λ c. operate (Some Int32) Minus (Word (pos 0)) c) v.1,
        (λ control contexts values input output.
            leads_on m _ (source_at (Evaluate e ∷ Apply Negative ∷ control) contexts values globals input output) _
            (leads_step m _ _ refl)
            (leads_on m _ (source_at (Apply Negative ∷ control) contexts (VInt v.0 ∷ values) globals input output) _
            (v.2 (Apply Negative ∷ control) contexts values input output)
            (leads_step m _ _ refl))),
      )

  evaluates_binary : (p : _) (o : Binary) (a b : Expr) → reads_only assigned a ≡ true → Evaluates main types cells globals a → Evaluates main types cells globals b → Evaluates main types cells globals (EBinary p o a b)
  evaluates_binary p o a b sure v w =
      let m = machine (one_module main) in
      let z = wrapped W32 (combined o v.0 w.0) in (
        z,
        ap (λ t. operate t (emit_operator o) (evaluate types cells (emit_expr a)) (evaluate types cells (emit_expr b))) (emitted_type types assigned a known sure)
            ∙ ap (λ c. operate (Some Int32) (emit_operator o) c (evaluate types cells (emit_expr b))) v.1
            ∙ ap (λ c. operate (Some Int32) (emit_operator o) (Word v.0) c) w.1
            ∙ ap (λ k. Word k) (same_arithmetic o v.0 w.0),
        (λ control contexts values input output.
            leads_on m _ (source_at (Evaluate a ∷ Evaluate b ∷ Combine o ∷ control) contexts values globals input output) _
            (leads_step m _ _ refl)
            (leads_on m _ (source_at (Evaluate b ∷ Combine o ∷ control) contexts (VInt v.0 ∷ values) globals input output) _
            (v.2 (Evaluate b ∷ Combine o ∷ control) contexts values input output)
            (leads_on m _ (source_at (Combine o ∷ control) contexts (VInt w.0 ∷ VInt v.0 ∷ values) globals input output) _
            (w.2 (Combine o ∷ control) contexts (VInt v.0 ∷ values) input output)
            (leads_step m _ _ refl)))),
      )

  pub evaluates : (e : Expr) → reads_only assigned e ≡ true → Evaluates main types cells globals e
  evaluates (EName p x) sure =
      let a = agree x sure in (
        a.0,
        ap held a.2,
        (λ control contexts values input output. leads_step (machine (one_module main)) _ _ (ap (λ o. read (source_here control contexts values globals input output) x o) a.1)),
      )
  evaluates (ENumber p n) sure = (
    wrapped W32 (pos n),
    refl,
    (λ control contexts values input output. leads_step (machine (one_module main)) _ _ refl),
  )
  evaluates (EUnary p o e) sure = evaluates_unary p o e sure (evaluates e sure)
  evaluates (EBinary p o a b) sure =
      evaluates_binary p o a b (and_left _ _ sure) (evaluates a (and_left _ _ sure)) (evaluates b (and_right _ _ sure))

  pub tests : (c : Condition) → condition_reads_only assigned c ≡ true → Tests main types cells globals c
  tests (CCompare p o a b) sure =
      let m = machine (one_module main) in
      let v = evaluates a (and_left _ _ sure) in
      let w = evaluates b (and_right _ _ sure) in (
        compared o v.0 w.0,
        ap (λ t. operate t (emit_comparison o) (evaluate types cells (emit_expr a)) (evaluate types cells (emit_expr b))) (emitted_type types assigned a known (and_left _ _ sure))
            ∙ ap (λ c. operate (Some Int32) (emit_comparison o) c (evaluate types cells (emit_expr b))) v.1
            ∙ ap (λ c. operate (Some Int32) (emit_comparison o) (Word v.0) c) w.1
            ∙ ap (λ k. Word k) (same_comparison o v.0 w.0),
        (λ control contexts values input output.
            leads_on m _ (source_at (Evaluate a ∷ Evaluate b ∷ Compare o ∷ control) contexts values globals input output) _
            (leads_step m _ _ refl)
            (leads_on m _ (source_at (Evaluate b ∷ Compare o ∷ control) contexts (VInt v.0 ∷ values) globals input output) _
            (v.2 (Evaluate b ∷ Compare o ∷ control) contexts values input output)
            (leads_on m _ (source_at (Compare o ∷ control) contexts (VInt w.0 ∷ VInt v.0 ∷ values) globals input output) _
            (w.2 (Compare o ∷ control) contexts (VInt v.0 ∷ values) input output)
            (leads_step m _ _ refl)))),
      )
