-- Which texts may be variables.
use Rattle.std.proofs.Common.{◌≡◌, ℕ, Bool, true, false, not, ◌==◌, nat_lt, List, [], ◌∷◌, length, refl, sym, ◌∙◌, codes, bytes_eq}
use Rattle.std.specs.List.{list_all}
use Rattle.py_meaning.specs.Built.{is_variable}

pub is_variable_by : (x : List ℕ) (e p : Bool) → e ≡ (length x == 0) → e ≡ false → list_all (λ b. nat_lt b 128) x ≡ true → p ≡ bytes_eq x (codes "print") → p ≡ false
    → not (bytes_eq x (codes "__name__")) ≡ is_variable x
is_variable_by [] e p is there ascii print no_print = absurd (cc)
is_variable_by (c ∷ x) e p is there ascii print no_print = rw (ascii, sym print ∙ no_print) refl
