-- What a text stands for, character by character.
use Rattle.std.proofs.Common.{◌≡◌, ℕ, suc, ◌+◌, ◌++◌, append_assoc, sym, ap, ◌∙◌, arith}
use Rattle.py_tokens.specs.Characters.{Text}
use Rattle.py_tokens.specs.Lexeme.{Piece, Stands, Contents, Holds, Fails, before_contents}
use Rattle.py_lexer.specs.ContentsOfTexts.{behind}

behind-before : (t s : Text) (n k : ℕ) (o : Contents) → behind t n (before_contents (record { length_of = k; piece = Stands s }) o) ≡ behind (t ++ s) (n + 1) o
behind-before t s n k (Holds u) = ap Holds (sym (append_assoc t s u))
behind-before t s n k (Fails r m) = let e : n + suc m ≡ (n + 1) + m = omega arith in ap (Fails r) e

-- one character more has been read
pub contents-more : (t t' s : Text) (n k : ℕ) (p : Piece) (x o o' whole : Contents) → behind t n x ≡ whole → x ≡ before_contents (record { length_of = k; piece = p }) o → p ≡ Stands s → t' ≡ t ++ s → o' ≡ o
    → behind t' (n + 1) o' ≡ whole
contents-more t t' s n k p x o o' whole h e f g i =
    let x' : x ≡ before_contents (record { length_of = k; piece = Stands s }) o = e ∙ ap (λ q. before_contents (record { length_of = k; piece = q }) o) f in
    ap (λ l. behind l (n + 1) o') g ∙ ap (behind (t ++ s) (n + 1)) i ∙ sym (behind-before t s n k o) ∙ sym (ap (behind t n) x') ∙ h
