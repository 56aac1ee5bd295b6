-- Keywords, and words that are none.
use Rattle.std.specs.Prelude.{Option, Some, None, not, nat_lt, length, encode_utf8_all, if◌then◌else◌}
use Rattle.std.specs.List.{list_any}
use Rattle.std.specs.Str.{bytes_eq}
use Rattle.py_tokens.specs.Token.{TName, NotNormal, TooLong}
use Rattle.py_tokens.specs.Characters.{Text}
use Rattle.py_tokens.specs.Lexeme.{Lexeme, Word, Broken, keywords, is_normal, most_bytes_of_name}

-- a keyword, as it is spelt
abbrev pub keyword_of : Text → Option Text
keyword_of word = if list_any (λ k. bytes_eq k word) keywords then Some word else None

-- a word that is no keyword
abbrev pub plain_name : Text → Lexeme
plain_name word =
    if not (is_normal word) then Broken NotNormal 0
    else (if nat_lt most_bytes_of_name (length (encode_utf8_all word)) then Broken TooLong 0 else Word (TName (encode_utf8_all word)))
