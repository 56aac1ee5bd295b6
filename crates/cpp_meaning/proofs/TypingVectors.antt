-- Trees that are well typed, and trees that C++ refuses.
use Rattle.std.proofs.Common.{◌≡◌, [], ◌∷◌, true, Some, None, refl, codes}
use Rattle.runs.specs.FiniteMap.{nothing, put}
use Rattle.cpp_meaning.specs.Tree.{Int32, Truth, Text, ZeroNumber, FalseTruth, NullPointer, Plus, Less, LessOrEqual, Greater, GreaterOrEqual, Equal, NotEqual, Named, Number, Literal, Operate, Negate, TextOf, Write, Operand, CallRow, Declare, Assign, If, IfElse, While, Block, none, more, Extern, BodyHead, Variable, Body, Main}
use Rattle.cpp_meaning.specs.Typing.{Void, Of, type_of, yield_of, IsTypedBlock, AreDeclaredOnce, AreDefinedOnce, AreTyped, IsTyped, global_types}
use Rattle.cpp_meaning.proofs.TreeVectors.{g, t, body, write, declare, program, sum, wrapped_sum, at_most, rounds, countdown}

-- ---- whole programs

pub sum_typed : IsTyped sum
unfolding put
sum_typed =
    record {
      declared_once = (refl, (refl, tt));
      defined_once = (refl, (refl, tt));
      paired = λ x. refl;
      typed = (refl, ((refl, refl, refl, (Int32, refl, refl, (Text, refl, refl, (Void, refl, (Void, refl, tt))))), tt));
      main = body;
      one_main = refl;
      main_body = refl;
    }

wrapped_sum_typed : IsTyped wrapped_sum
unfolding put
wrapped_sum_typed =
    record {
      declared_once = (refl, tt);
      defined_once = (refl, tt);
      paired = λ x. refl;
      typed = ((refl, refl, refl, (Text, refl, refl, (Void, refl, (Void, refl, tt)))), tt);
      main = body;
      one_main = refl;
      main_body = refl;
    }

-- a loop, and in it an assignment and three statements of a print
pub rounds_typed : IsTyped rounds
unfolding put
rounds_typed =
    record {
      declared_once = (refl, tt);
      defined_once = (refl, tt);
      paired = λ x. refl;
      typed = ((refl, refl, refl, (refl, (Text, refl, refl, (Void, refl, (Void, refl, tt))), tt)), tt);
      main = body;
      one_main = refl;
      main_body = refl;
    }

countdown_typed : IsTyped countdown
unfolding put
countdown_typed =
    record {
      declared_once = (refl, (refl, tt));
      defined_once = (refl, (refl, tt));
      paired = λ x. refl;
      typed = (refl, ((Int32, refl, refl, (refl, (Int32, refl, refl, tt), tt)), tt));
      main = body;
      one_main = refl;
      main_body = refl;
    }

-- a global is a number, a body is no variable, and no other name is a variable
sum_globals : (global_types sum g ≡ Some Int32) × (global_types sum body ≡ None) × (global_types sum t ≡ None)
sum_globals = (refl, refl, refl)

-- ---- refused programs

-- a header declares g_0_x, and nothing defines it
undefined : IsTyped (program (Extern Int32 g ∷ BodyHead body ∷ []) (Body body none ∷ Main body ∷ [])) → ⊥
undefined h = cc (h.paired g)

-- nothing declares g_0_x in a header
undeclared : IsTyped (program (BodyHead body ∷ []) (Variable Int32 g ZeroNumber ∷ Body body none ∷ Main body ∷ [])) → ⊥
undeclared h = cc (h.paired g)

-- it is declared as a number, and defined as a text
of_two_types : IsTyped (program (Extern Int32 g ∷ BodyHead body ∷ []) (Variable Text g NullPointer ∷ Body body none ∷ Main body ∷ [])) → ⊥
of_two_types h = cc (h.paired g)

no_main : IsTyped (program (BodyHead body ∷ []) (Body body none ∷ [])) → ⊥
no_main h = cc (h.one_main)

two_mains : IsTyped (program (BodyHead body ∷ []) (Body body none ∷ Main body ∷ Main body ∷ [])) → ⊥
two_mains h = cc (h.one_main)

declared_twice : AreDeclaredOnce (Extern Int32 g ∷ Extern Int32 g ∷ []) → ⊥
declared_twice h = cc (h.0)

-- a body of a variable's name
defined_twice : AreDefinedOnce (Body g none ∷ Variable Int32 g ZeroNumber ∷ []) → ⊥
defined_twice h = cc (h.0)

-- int32_t g_0_x = nullptr;
global_of_nullptr : AreTyped nothing (Variable Int32 g NullPointer ∷ []) → ⊥
global_of_nullptr h = cc (h.0)

-- ---- refused bodies

abbrev Refused : Block → Type 0
Refused block = IsTypedBlock true nothing nothing block → ⊥

-- t_0 = 1;
unknown_name : Refused (more (Assign t (Operand (Number 1))) none)
unknown_name h = cc (h.1)

-- shed::write(t_0);
unknown_operand : Refused (more (write (Named t)) none)
unknown_operand h = cc (h.1)

declared_again : Refused (more declare (more declare none))
unfolding put
declared_again h = cc (h.3.1)

-- shed::write("a"_t); shed::str* t_0 = nullptr;
declared_late : Refused (more (write (Literal (codes "a"))) (more declare none))
declared_late h = cc (h.2.0)

-- int32_t t_0 = nullptr;
number_of_nullptr : Refused (more (Declare Int32 t NullPointer) none)
number_of_nullptr h = cc (h.2)

-- shed::str* t_0 = 0;
text_of_zero : Refused (more (Declare Text t ZeroNumber) none)
text_of_zero h = cc (h.2)

-- shed::str* t_0 = nullptr; t_0 = 1;
number_to_text : Refused (more declare (more (Assign t (Operand (Number 1))) none))
unfolding put
number_to_text h = cc (h.3.1, h.3.2)

-- shed::str* t_0 = nullptr; t_0 = shed::write("a"_t);
nothing_to_text : Refused (more declare (more (Assign t (CallRow Write (Literal (codes "a") ∷ []))) none))
unfolding put
nothing_to_text h = cc (h.3.2)

-- ---- what is tested, and blocks

-- if ((1 <= 2)) { shed::write("a"_t); } else { shed::write("b"_t); }
tested_truth : IsTypedBlock true nothing nothing (more (IfElse (at_most 1 2) (more (write (Literal (codes "a"))) none) (more (write (Literal (codes "b"))) none)) none)
tested_truth = (refl, (Void, refl, tt), (Void, refl, tt), tt)

-- if (1) {}, and the same of `else` and `while`: nothing converts
number_for_truth : Refused (more (If (Number 1) none) none) × Refused (more (IfElse (Number 1) none none) none) × Refused (more (While (Number 1) none) none)
number_for_truth = (λ h. cc (h.0), λ h. cc (h.0), λ h. cc (h.0))

-- if (""_t) {}: nor is a text a truth value
text_for_truth : Refused (more (If (Literal []) none) none)
text_for_truth h = cc (h.0)

-- if ((1 <= 2)) { shed::str* t_0 = nullptr; }, and the same of `else` and `while`
declared_within : Refused (more (If (at_most 1 2) (more declare none)) none) × Refused (more (IfElse (at_most 1 2) none (more declare none)) none) × Refused (more (While (at_most 1 2) (more declare none)) none)
declared_within = (λ h. cc (h.1.0), λ h. cc (h.2.0), λ h. cc (h.1.0))

-- if ((1 <= 2)) {} shed::str* t_0 = nullptr;
declared_behind : Refused (more (If (at_most 1 2) none) (more declare none))
declared_behind h = cc (h.2.0)

-- if ((1 <= 2)) { t_0 = 1; }: a block is typed like what stands around it
unknown_within : Refused (more (If (at_most 1 2) (more (Assign t (Operand (Number 1))) none)) none)
unknown_within h = cc (h.1.1)

-- bool t_0 = false; t_0 = (1 <= 2); if (t_0) {}
stored_truth : IsTypedBlock true nothing nothing (more (Declare Truth t FalseTruth) (more (Assign t (Operand (at_most 1 2))) (more (If (Named t) none) none)))
unfolding put
stored_truth = (refl, refl, refl, (Truth, refl, refl, (refl, tt, tt)))

-- bool t_0 = 0;
truth_of_zero : Refused (more (Declare Truth t ZeroNumber) none)
truth_of_zero h = cc (h.2)

-- bool t_0 = false; t_0 = 1;
number_to_truth : Refused (more (Declare Truth t FalseTruth) (more (Assign t (Operand (Number 1))) none))
unfolding put
number_to_truth h = cc (h.3.1, h.3.2)

-- ---- operands and calls

write_of_number : yield_of nothing (CallRow Write (Number 1 ∷ [])) ≡ None
write_of_number = refl

write_of_two : yield_of nothing (CallRow Write (Literal [] ∷ Literal [] ∷ [])) ≡ None
write_of_two = refl

write_of_text : yield_of nothing (CallRow Write (Literal [] ∷ [])) ≡ Some Void
write_of_text = refl

-- shed::text_of has an overload for numbers, and one for texts
text_of_each : (yield_of nothing (CallRow TextOf (Number 1 ∷ [])) ≡ Some (Of Text)) × (yield_of nothing (CallRow TextOf (Literal [] ∷ [])) ≡ Some (Of Text)) × (yield_of nothing (CallRow TextOf []) ≡ None)
text_of_each = (refl, refl, refl)

-- there are no sums of pointers, and no negative pointers
no_sums : (type_of nothing (Operate Plus (Literal []) (Literal [])) ≡ None) × (type_of nothing (Operate Plus (Literal []) (Number 1)) ≡ None) × (type_of nothing (Operate Plus (Number 1) (Literal [])) ≡ None) × (type_of nothing (Negate (Literal [])) ≡ None)
no_sums = (refl, refl, refl, refl)

sums : type_of (global_types sum) (Operate Plus (Negate (Named g)) (Number 2)) ≡ Some Int32
sums = refl

-- two numbers are compared, which gives a truth value
comparisons : (type_of nothing (Operate Less (Number 1) (Number 2)) ≡ Some Truth) × (type_of nothing (Operate LessOrEqual (Number 1) (Number 2)) ≡ Some Truth) × (type_of nothing (Operate Greater (Number 1) (Number 2)) ≡ Some Truth) × (type_of nothing (Operate GreaterOrEqual (Number 1) (Number 2)) ≡ Some Truth) × (type_of nothing (Operate Equal (Number 1) (Number 2)) ≡ Some Truth) × (type_of nothing (Operate NotEqual (Number 1) (Number 2)) ≡ Some Truth)
comparisons = (refl, refl, refl, refl, refl, refl)

-- two truth values are equal or not, but have no order and no sum
truths_compared : (type_of nothing (Operate Equal (at_most 1 2) (at_most 3 4)) ≡ Some Truth) × (type_of nothing (Operate NotEqual (at_most 1 2) (at_most 3 4)) ≡ Some Truth) × (type_of nothing (Operate Less (at_most 1 2) (at_most 3 4)) ≡ None) × (type_of nothing (Operate Plus (at_most 1 2) (at_most 3 4)) ≡ None) × (type_of nothing (Negate (at_most 1 2)) ≡ None)
truths_compared = (refl, refl, refl, refl, refl)

-- operands of two types, and two texts, are not compared
others_compared : (type_of nothing (Operate Equal (Number 1) (at_most 1 2)) ≡ None) × (type_of nothing (Operate Equal (at_most 1 2) (Number 1)) ≡ None) × (type_of nothing (Operate Equal (Literal []) (Literal [])) ≡ None)
others_compared = (refl, refl, refl)

-- a truth value has a text, and is none
text_of_truth_value : (yield_of nothing (CallRow TextOf (at_most 1 2 ∷ [])) ≡ Some (Of Text)) × (yield_of nothing (CallRow Write (at_most 1 2 ∷ [])) ≡ None)
text_of_truth_value = (refl, refl)
