-- Words as the code tells them.
use Rattle.std.proofs.Common.{◌≡◌, ◌↔◌, IsTrue, IsUtf8, Bool, true, false, cond, nat_lt, ◌||◌, chars, encode_utf8_all, bytes_eq, Some, None, refl, sym, ap, subst, ◌∙◌}
use Rattle.std.specs.List.{list_all, list_any}
use Rattle.std.specs.Cmp.Lexicographic.{bytes_decides}
use Rattle.std.proofs.lemmas.Str.{chars_from_encodes}
use Rattle.std.proofs.lemmas.Bool.Decides.{same_from_decides}
use Rattle.unicode_normalization.specs.Forms.{Nfkc, IsInForm, is_in_form, normalize}
use Rattle.py_tokens.specs.Token.{TKeyword}
use Rattle.py_tokens.specs.Characters.{Text}
use Rattle.py_tokens.specs.Lexeme.{Lexeme, Word, keywords, is_normal, name_of}
use Rattle.py_lexer.specs.Keywords.{keyword_of, plain_name}

pub normal_by : (word bs : Text) (b : Bool) → IsUtf8 bs → bs ≡ encode_utf8_all word → list_all (λ c. nat_lt c 128) word ≡ false → (IsTrue b ↔ IsInForm Nfkc (chars bs)) → b ≡ is_normal word
normal_by word bs b u e f h =
    let same : word ≡ chars bs = chars_from_encodes word bs u (sym e) in
    let k : IsTrue b ↔ IsInForm Nfkc word = subst (λ w. IsTrue b ↔ IsInForm Nfkc w) (sym same) h in
    let n : b ≡ is_in_form Nfkc word = same_from_decides b (is_in_form Nfkc word) k (bytes_decides (normalize Nfkc word) word) in
    n ∙ sym (ap (λ t. t || is_in_form Nfkc word) f)

keyword_at : (t : Bool) (word k : Text) (other : Lexeme) → Some k ≡ cond t (Some word) None → Word (TKeyword k) ≡ cond t (Word (TKeyword word)) other
keyword_at true word k other h = cc
keyword_at false word k other h = absurd (cc)

pub name_of-keyword : (word k : Text) → Some k ≡ keyword_of word → Word (TKeyword k) ≡ name_of word
name_of-keyword word k h = keyword_at (list_any (λ k. bytes_eq k word) keywords) word k (plain_name word) h

no_keyword_at : (t : Bool) (word : Text) (other : Lexeme) → None ≡ cond t (Some word) None → other ≡ cond t (Word (TKeyword word)) other
no_keyword_at true word other h = absurd (cc)
no_keyword_at false word other h = refl

pub name_of-plain : (word : Text) → None ≡ keyword_of word → plain_name word ≡ name_of word
name_of-plain word h = no_keyword_at (list_any (λ k. bytes_eq k word) keywords) word (plain_name word) h
