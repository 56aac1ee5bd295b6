-- Literals as the code reads them.
use Rattle.std.proofs.Common.{◌≡◌, ℕ, suc, ◌+◌, Option, Some, None, option_map, refl, sym, ap, ◌∙◌, arith}

counted-more : (n : ℕ) (o : Option ℕ) → option_map (λ k. n + k) (elim o [ None ↦ None | Some k ↦ Some (suc k) ]) ≡ option_map (λ k. (n + 1) + k) o
counted-more n None = refl
counted-more n (Some k) = let e : n + suc k ≡ (n + 1) + k = omega arith in ap (λ j. Some j) e

-- one character more stands before the quotes
pub closes-more : (n : ℕ) (o p whole : Option ℕ) → option_map (λ k. n + k) o ≡ whole → o ≡ elim p [ None ↦ None | Some k ↦ Some (suc k) ] → option_map (λ k. (n + 1) + k) p ≡ whole
closes-more n o p whole h e = sym (counted-more n p) ∙ sym (ap (option_map (λ k. n + k)) e) ∙ h
