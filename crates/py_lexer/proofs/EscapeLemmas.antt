-- Escapes as the code reads them.
use Rattle.std.proofs.Common.{◌≡◌, ℕ, zero, suc, ◌+◌, [], ◌∷◌, length, take, Bool, true, false, cond, refl, sym, ap, ◌∙◌, arith}
use Rattle.std.proofs.Math.Numerals.{one-add}
use Rattle.std.specs.List.{prefix_len, take_while}
use Rattle.py_tokens.specs.Characters.{Text, is_digit_below, value_from}
use Rattle.py_tokens.specs.Lexeme.{coded, octal}

front_cons : (p : ℕ → Bool) (n c : ℕ) (z : Text) (t : Bool) → take (length (take_while p (take n z))) z ≡ take_while p (take n z)
    → take (length (take (cond t (1 + prefix_len p (take n z)) 0) (c ∷ take n z))) (c ∷ z) ≡ take (cond t (1 + prefix_len p (take n z)) 0) (c ∷ take n z)
front_cons p n c z true h = rw one-add (ap (λ l. c ∷ l) h)
front_cons p n c z false h = refl

front_of_front : (p : ℕ → Bool) (n : ℕ) (z : Text) → take (length (take_while p (take n z))) z ≡ take_while p (take n z)
front_of_front p zero z = refl
front_of_front p (suc n) [] = refl
front_of_front p (suc n) (c ∷ z) = front_cons p n c z (p c) (front_of_front p n z)

pub coded-octal : (z digits : Text) (n : ℕ) → digits ≡ take_while (is_digit_below 8) (take 3 z) → n ≡ length digits + 1 → coded n (value_from 8 0 digits) ≡ coded (1 + octal z) (value_from 8 0 (take (octal z) z))
coded-octal z digits n e f =
    let g : digits ≡ take (octal z) z = e ∙ sym (front_of_front (is_digit_below 8) 3 z) in
    let k : n ≡ 1 + octal z = omega (arith, f, ap length e) in
    ap (λ m. coded m (value_from 8 0 digits)) k ∙ ap (λ l. coded (1 + octal z) (value_from 8 0 l)) g
