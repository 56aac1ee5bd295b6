-- Texts that are written piece by piece.
use Rattle.std.proofs.Common.{◌≡◌, ℕ, zero, suc, List, ◌++◌, refl, ap, ◌∙◌, append_assoc, codes}
use Rattle.cpp_meaning.specs.Text.{indent}

pub three_pieces : (o n1 n2 n3 a b c : List ℕ) → n1 ≡ o ++ a → n2 ≡ n1 ++ b → n3 ≡ n2 ++ c → n3 ≡ o ++ (a ++ (b ++ c))
three_pieces o n1 n2 n3 a b c e1 e2 e3 =
    e3 ∙ ap (λ x. x ++ c) e2 ∙ append_assoc n1 b c ∙ ap (λ x. x ++ (b ++ c)) e1 ∙ append_assoc o a (b ++ c)

pub five_pieces : (o n1 n2 n3 n4 n5 a b c d e : List ℕ) → n1 ≡ o ++ a → n2 ≡ n1 ++ b → n3 ≡ n2 ++ c → n4 ≡ n3 ++ d → n5 ≡ n4 ++ e
    → n5 ≡ o ++ (a ++ (b ++ (c ++ (d ++ e))))
five_pieces o n1 n2 n3 n4 n5 a b c d e e1 e2 e3 e4 e5 =
    e5 ∙ ap (λ x. x ++ e) e4 ∙ append_assoc n3 d e ∙ three_pieces o n1 n2 (n3 ++ (d ++ e)) a b (c ++ (d ++ e)) e1 e2 (ap (λ x. x ++ (d ++ e)) e3 ∙ append_assoc n2 c (d ++ e))

-- one level more, at the end
pub indent_last : (depth : ℕ) → indent depth ++ codes "  " ≡ indent (suc depth)
indent_last zero = refl
indent_last (suc depth) = ap (λ x. codes "  " ++ x) (indent_last depth)
