-- The rest of a line.
use Rattle.std.proofs.Common.{◌≡◌, ℕ, [], ◌∷◌, length, take, Bool, true, false, cond, nat_eq, Option, refl, ap, ◌∙◌}
use Rattle.py_tokens.specs.Characters.{Text, line_end, to_line_end}
use Rattle.py_tokens.specs.Lexeme.{comment, comment_of, first_control}

taken_cons : (b : Bool) (c : ℕ) (z : Text) → take (length (to_line_end z)) z ≡ to_line_end z → take (length (cond b (c ∷ to_line_end z) [])) (c ∷ z) ≡ cond b (c ∷ to_line_end z) []
taken_cons true c z h = ap (λ t. c ∷ t) h
taken_cons false c z h = refl

pub take_to_line_end : (z : Text) → take (length (to_line_end z)) z ≡ to_line_end z
take_to_line_end [] = refl
take_to_line_end (c ∷ z) = taken_cons (nat_eq (line_end (c ∷ z)) 0) c z (take_to_line_end z)

pub comment_by : (z line : Text) (n : ℕ) (o : Option ℕ) → line ≡ take n z → n ≡ length (to_line_end z) → o ≡ first_control line → comment_of (to_line_end z) o ≡ comment z
comment_by z line n o e f g =
    let k : line ≡ to_line_end z = e ∙ ap (λ m. take m z) f ∙ take_to_line_end z in
    ap (comment_of (to_line_end z)) (g ∙ ap first_control k)
