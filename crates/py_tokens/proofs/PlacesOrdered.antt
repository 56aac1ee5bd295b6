-- Places are in an order.
use Rattle.std.proofs.Common.{◌≡◌, true, false, arith}
use Rattle.py_tokens.specs.Token.{Place}
use Rattle.py_tokens.specs.Places.{is_before}

pub before_through : (p q r : Place) → is_before r q ≡ true → is_before q p ≡ true → is_before r p ≡ true
before_through p q r h k = grind arith

pub before_neither : (p q r : Place) → is_before r q ≡ false → is_before q p ≡ false → is_before r p ≡ false
before_neither p q r h k = grind arith
