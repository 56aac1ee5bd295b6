-- Numbers as the code tells them.
use Rattle.std.proofs.Common.{◌≡◌, ℕ, ◌+◌, ◌*◌, ◌<◌, ◌≤◌, [], ◌∷◌, length, get_or, drop, drop-cons, add-one, Bool, true, false, cond, nat_eq, Some, None, refl, sym, ap, ◌∙◌, arith, tests}
use Rattle.std.proofs.Math.Nat.{mul-le-mul_left}
use Rattle.runs.specs.Number.{Width}
use Rattle.py_tokens.specs.Token.{BadCharacter, WideNumber}
use Rattle.py_tokens.specs.Characters.{Text, value_from, digit_value}
use Rattle.py_tokens.specs.Lexeme.{Front, broken, is_wide, stands_alone, checked_number}
use Rattle.py_lexer.specs.Numbers.{unless_wide, value_then, value_within}

checked_at : (t : Bool) (z : Text) (u f : Front) → Some f ≡ cond t None (Some u)
    → cond t (broken WideNumber 0) (cond (stands_alone (drop u.length_of z)) u (broken BadCharacter u.length_of)) ≡ cond (stands_alone (drop f.length_of z)) f (broken BadCharacter f.length_of)
checked_at true z u f h = absurd (cc)
checked_at false z u f h = let e : u ≡ f = cc in ap (λ (g : Front). cond (stands_alone (drop g.length_of z)) g (broken BadCharacter g.length_of)) e

-- a number that is not too large
pub checked_number-some : (w : Width) (z : Text) (u f : Front) (alone : Bool) → Some f ≡ unless_wide w u → alone ≡ stands_alone (drop f.length_of z)
    → cond alone f (broken BadCharacter f.length_of) ≡ checked_number w z u
checked_number-some w z u f alone h e = ap (λ t. cond t f (broken BadCharacter f.length_of)) e ∙ sym (checked_at (is_wide w u.lexeme) z u f h)

then_ge : (base n c : ℕ) → 1 ≤ base → (t : Bool) → n ≤ cond t n (n * base + digit_value c)
then_ge base n c h true = omega arith
then_ge base n c h false = omega (arith, mul-le-mul_left n h)

value_from-ge : (base n : ℕ) (z : Text) → 1 ≤ base → n ≤ value_from base n z
value_from-ge base n [] h = omega arith
value_from-ge base n (c ∷ z) h = omega (arith, then_ge base n c h (nat_eq c 95), value_from-ge base (value_then base n c) z h)

value_from-drop : (base n i x : ℕ) (z : Text) → i < length z → value_from base n (drop i z) ≡ value_from base (value_then base n (get_or z i x)) (drop (i + 1) z)
value_from-drop base n i x z h = rw (drop-cons z i x, add-one) refl

too_large : (g n m : ℕ) → n ≤ m → None ≡ value_within g n → None ≡ value_within g m
too_large g n m h e = grind (arith, tests)

-- a value that is too large with the next digit
pub value-too_large : (base g n i x : ℕ) (z : Text) → 1 ≤ base → i < length z → x ≡ get_or z i x → value_from base n (drop i z) ≡ value_from base 0 z → None ≡ value_within g (value_then base n x)
    → None ≡ value_within g (value_from base 0 z)
value-too_large base g n i x z one within at rest h =
    let e : value_from base n (drop i z) ≡ value_from base (value_then base n x) (drop (i + 1) z) = value_from-drop base n i x z within ∙ ap (λ y. value_from base (value_then base n y) (drop (i + 1) z)) (sym at) in
    too_large g (value_then base n x) (value_from base 0 z) (omega (arith, value_from-ge base (value_then base n x) (drop (i + 1) z) one, e, rest)) h
