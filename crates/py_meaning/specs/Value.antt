-- Values of a run (Python reference, "The standard type hierarchy"), and what the built-in operations make of them.
-- An operation that has no case for its values gives none, which makes the run Wrong.
use Rattle.std.specs.Prelude.{ℕ, ℤ, pos, ◌+ℤ◌, ◌-ℤ◌, ◌*ℤ◌, int_lt, int_le, List, [], ◌∷◌, Bool, true, false, not, Option, Some, None, codes}
use Rattle.std.specs.Ordering.{int_eq}
use Rattle.runs.specs.Number.{Width, wrapped, decimal_of}
use Rattle.py_meaning.specs.Tree.{Unary, Negative, Binary, Add, Subtract, Multiply, Comparison, LessThan, AtMost, GreaterThan, AtLeast, EqualTo, NotEqualTo}

pub data Value : Type 0 where
  VNone : Value
  VBool : (truth : Bool) → Value
  VInt : (number : ℤ) → Value
  VText : (text : List ℕ) → Value
  -- an object, by its number in the store
  VReference : (object : ℕ) → Value

-- the number that a value counts as in arithmetic: truth values count as 0 and 1
abbrev pub number_of : Value → Option ℤ
number_of VNone = None
number_of (VBool false) = Some (pos 0)
number_of (VBool true) = Some (pos 1)
number_of (VInt z) = Some z
number_of (VText t) = None
number_of (VReference n) = None

-- a whole number made by exact arithmetic, wrapped to the width
abbrev pub number_value : Width → ℤ → Value
number_value w z = VInt (wrapped w z)

abbrev pub negated : Unary → ℤ → ℤ
negated Negative a = pos 0 -ℤ a

abbrev pub combined : Binary → ℤ → ℤ → ℤ
combined Add a b = a +ℤ b
combined Subtract a b = a -ℤ b
combined Multiply a b = a *ℤ b

abbrev pub unary_of_number : Width → Unary → Option ℤ → Option Value
unary_of_number w o None = None
unary_of_number w o (Some a) = Some (number_value w (negated o a))

abbrev pub binary_of_numbers : Width → Binary → Option ℤ → Option ℤ → Option Value
binary_of_numbers w o None b = None
binary_of_numbers w o (Some a) None = None
binary_of_numbers w o (Some a) (Some b) = Some (number_value w (combined o a b))

-- "Unary arithmetic and bitwise operations", on numbers and truth values
abbrev pub unary_value : Width → Unary → Value → Option Value
unary_value w o v = unary_of_number w o (number_of v)

-- "Binary arithmetic operations", on numbers and truth values
abbrev pub binary_value : Width → Binary → Value → Value → Option Value
binary_value w o u v = binary_of_numbers w o (number_of u) (number_of v)

-- "Comparisons": the order of two numbers
abbrev pub compared : Comparison → ℤ → ℤ → Bool
compared LessThan a b = int_lt a b
compared AtMost a b = int_le a b
compared GreaterThan a b = int_lt b a
compared AtLeast a b = int_le b a
compared EqualTo a b = int_eq a b
compared NotEqualTo a b = not (int_eq a b)

abbrev pub comparison_of_numbers : Comparison → Option ℤ → Option ℤ → Option Value
comparison_of_numbers o None b = None
comparison_of_numbers o (Some a) None = None
comparison_of_numbers o (Some a) (Some b) = Some (VBool (compared o a b))

-- "Value comparisons", on numbers and truth values; the others have no case yet
abbrev pub comparison_value : Comparison → Value → Value → Option Value
comparison_value o u v = comparison_of_numbers o (number_of u) (number_of v)

-- "Truth Value Testing": None, zero and the empty text are false; objects have no case yet
abbrev pub truth_of : Value → Option Bool
truth_of VNone = Some false
truth_of (VBool b) = Some b
truth_of (VInt z) = Some (not (int_eq z (pos 0)))
truth_of (VText []) = Some false
truth_of (VText (c ∷ t)) = Some true
truth_of (VReference n) = None

-- `str` of a value; objects have none yet
abbrev pub text_of_value : Value → Option (List ℕ)
text_of_value VNone = Some (codes "None")
text_of_value (VBool false) = Some (codes "False")
text_of_value (VBool true) = Some (codes "True")
text_of_value (VInt z) = Some (decimal_of z)
text_of_value (VText t) = Some t
text_of_value (VReference n) = None

abbrev pub IsWhole : Value → Type 0
IsWhole VNone = ⊥
IsWhole (VBool b) = ⊥
IsWhole (VInt z) = Unit {0}
IsWhole (VText t) = ⊥
IsWhole (VReference n) = ⊥
