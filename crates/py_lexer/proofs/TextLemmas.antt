-- A module's bytes that are UTF-8.
use Rattle.std.proofs.Common.{◌≡◌, ℕ, List, length, IsUtf8, true, cond, nat_eq, take, chars, ap, arith, tests}
use Rattle.std.proofs.lemmas.Str.{utf8_valid_len-IsUtf8}
use Rattle.std.specs.Str.Lossy.{utf8_valid_len}
use Rattle.runs.specs.Number.{Width}
use Rattle.py_tokens.specs.Token.{Refused, NotUtf8, place_after}
use Rattle.py_tokens.specs.Tokens.{unmarked, beginning, tokens_of_characters, tokens_of}

pub tokens_of-characters : (n : ℕ) (w : Width) (text : List ℕ) → IsUtf8 text → tokens_of n w text ≡ tokens_of_characters w (beginning n) (unmarked (chars text))
tokens_of-characters n w text h =
    let t : nat_eq (utf8_valid_len text) (length text) ≡ true = grind (arith, tests, utf8_valid_len-IsUtf8 text h) in
    ap (λ b. cond b (tokens_of_characters w (beginning n) (unmarked (chars text))) (Refused NotUtf8 (place_after (beginning n) (unmarked (chars (take (utf8_valid_len text) text)))))) t
