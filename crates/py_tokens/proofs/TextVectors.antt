-- Texts: quotes, prefixes, escapes and line ends.
use Rattle.std.proofs.Common.{◌≡◌, [], ◌∷◌, refl}
use Rattle.std.specs.Prelude.{codes}
use Rattle.py_tokens.specs.Token.{TBytes, TFormatted, UnclosedText, BadEscape, NonAsciiText, Tokens, Refused}
use Rattle.py_tokens.proofs.Notation.{at, lexed, named, sign, text, other, newline}

quotes : lexed (codes "'a\"' \"b'\" ''\n") ≡ Tokens (
    text 1 1 (97 ∷ 34 ∷ 98 ∷ 39 ∷ [])
    ∷ newline 1 13
    ∷ [])
unfolding lib.Utf8.encode
quotes = refl

-- texts side by side are one, at the first one's place, and other tokens part them
apart : lexed (codes "'a' 'b' , 'c'\n") ≡ Tokens (
    text 1 1 (97 ∷ 98 ∷ [])
    ∷ sign 1 9 (codes ",")
    ∷ text 1 11 (99 ∷ [])
    ∷ newline 1 14
    ∷ [])
unfolding lib.Utf8.encode
apart = refl

raw : lexed (codes "r'\\n' R'\\\\'\n") ≡ Tokens (
    text 1 1 (92 ∷ 110 ∷ 92 ∷ 92 ∷ [])
    ∷ newline 1 12
    ∷ [])
unfolding lib.Utf8.encode
raw = refl

-- a backslash keeps a quote from closing, and stays
raw_quote : lexed (codes "r'\\''\n") ≡ Tokens (
    text 1 1 (92 ∷ 39 ∷ [])
    ∷ newline 1 6
    ∷ [])
unfolding lib.Utf8.encode
raw_quote = refl

unicode_prefix : lexed (codes "u'a' U\"b\"\n") ≡ Tokens (
    text 1 1 (97 ∷ 98 ∷ [])
    ∷ newline 1 10
    ∷ [])
unfolding lib.Utf8.encode
unicode_prefix = refl

escapes : lexed (codes "'\\\\\\'\\\"\\a\\b\\f\\n\\r\\t\\v'\n") ≡ Tokens (
    text 1 1 (92 ∷ 39 ∷ 34 ∷ 7 ∷ 8 ∷ 12 ∷ 10 ∷ 13 ∷ 9 ∷ 11 ∷ [])
    ∷ newline 1 23
    ∷ [])
unfolding lib.Utf8.encode
escapes = refl

-- one to three digits
octal : lexed (codes "'\\0\\177\\18\\1234'\n") ≡ Tokens (
    text 1 1 (0 ∷ 127 ∷ 1 ∷ 56 ∷ 83 ∷ 52 ∷ [])
    ∷ newline 1 17
    ∷ [])
unfolding lib.Utf8.encode
octal = refl

hexadecimal : lexed (codes "'\\x41\\x7f'\n") ≡ Tokens (
    text 1 1 (65 ∷ 127 ∷ [])
    ∷ newline 1 11
    ∷ [])
unfolding lib.Utf8.encode
hexadecimal = refl

-- its backslash is kept
unknown_escape : lexed (codes "'\\q\\z'\n") ≡ Tokens (
    text 1 1 (92 ∷ 113 ∷ 92 ∷ 122 ∷ [])
    ∷ newline 1 7
    ∷ [])
unfolding lib.Utf8.encode
unknown_escape = refl

-- a backslash takes a line end away
joined_lines : lexed (codes "'a\\\nb'\n") ≡ Tokens (
    text 1 1 (97 ∷ 98 ∷ [])
    ∷ newline 2 3
    ∷ [])
unfolding lib.Utf8.encode
joined_lines = refl

joined_lines_of_two_characters : lexed ((39 ∷ 97 ∷ 92 ∷ 13 ∷ 10 ∷ 98 ∷ 39 ∷ 10 ∷ [])) ≡ Tokens (
    text 1 1 (97 ∷ 98 ∷ [])
    ∷ newline 2 3
    ∷ [])
unfolding lib.Utf8.encode
joined_lines_of_two_characters = refl

-- in a raw text it stays, and the line end is a line feed
raw_joined : lexed ((114 ∷ 39 ∷ 97 ∷ 92 ∷ 13 ∷ 10 ∷ 98 ∷ 39 ∷ 10 ∷ [])) ≡ Tokens (
    text 1 1 (97 ∷ 92 ∷ 10 ∷ 98 ∷ [])
    ∷ newline 2 3
    ∷ [])
unfolding lib.Utf8.encode
raw_joined = refl

three_quotes : lexed ((39 ∷ 39 ∷ 39 ∷ 97 ∷ 10 ∷ 39 ∷ 98 ∷ 39 ∷ 39 ∷ 13 ∷ 10 ∷ 99 ∷ 39 ∷ 39 ∷ 39 ∷ 32 ∷ 120 ∷ 10 ∷ [])) ≡ Tokens (
    text 1 1 (97 ∷ 10 ∷ 39 ∷ 98 ∷ 39 ∷ 39 ∷ 10 ∷ 99 ∷ [])
    ∷ named 3 6 (codes "x")
    ∷ newline 3 7
    ∷ [])
unfolding lib.Utf8.encode
three_quotes = refl

-- a carriage return alone is a character of a text
lone_return : lexed ((39 ∷ 97 ∷ 13 ∷ 98 ∷ 39 ∷ 10 ∷ [])) ≡ Tokens (
    text 1 1 (97 ∷ 13 ∷ 98 ∷ [])
    ∷ newline 1 6
    ∷ [])
unfolding lib.Utf8.encode
lone_return = refl

bytes : lexed (codes "b'\\xff' Rb'a' bR'b' f'{x}' fR'\\q'\n") ≡ Tokens (
    other 1 1 TBytes
    ∷ other 1 9 TBytes
    ∷ other 1 15 TBytes
    ∷ other 1 21 TFormatted
    ∷ other 1 28 TFormatted
    ∷ newline 1 34
    ∷ [])
unfolding lib.Utf8.encode
bytes = refl

-- letters that are no prefix are a name
name_before_quote : lexed (codes "ur'a'\n") ≡ Tokens (
    named 1 1 (codes "ur")
    ∷ text 1 3 (97 ∷ [])
    ∷ newline 1 6
    ∷ [])
unfolding lib.Utf8.encode
name_before_quote = refl

-- at the quote
unclosed : lexed (codes "x = 'a\n") ≡ Refused UnclosedText (at 1 5)
unfolding lib.Utf8.encode
unclosed = refl

-- and not at the prefix
unclosed_behind_prefix : lexed (codes "x = rb'a\n") ≡ Refused UnclosedText (at 1 7)
unfolding lib.Utf8.encode
unclosed_behind_prefix = refl

unclosed_three : lexed (codes "'''a\nb''\n") ≡ Refused UnclosedText (at 1 1)
unfolding lib.Utf8.encode
unclosed_three = refl

unclosed_by_backslash : lexed (codes "'a\\'") ≡ Refused UnclosedText (at 1 1)
unfolding lib.Utf8.encode
unclosed_by_backslash = refl

unclosed_bytes : lexed (codes "b'\n") ≡ Refused UnclosedText (at 1 2)
unfolding lib.Utf8.encode
unclosed_bytes = refl

unfinished_hexadecimal : lexed (codes "x = 'a\\x4'\n") ≡ Refused BadEscape (at 1 7)
unfolding lib.Utf8.encode
unfinished_hexadecimal = refl

named_escape : lexed (codes "'\\N'\n") ≡ Refused BadEscape (at 1 2)
unfolding lib.Utf8.encode
named_escape = refl

unicode_escape : lexed (codes "'ab\\u0041'\n") ≡ Refused BadEscape (at 1 4)
unfolding lib.Utf8.encode
unicode_escape = refl

large_unicode_escape : lexed (codes "'\\U00000041'\n") ≡ Refused BadEscape (at 1 2)
unfolding lib.Utf8.encode
large_unicode_escape = refl

high_octal : lexed (codes "'\\200'\n") ≡ Refused NonAsciiText (at 1 2)
unfolding lib.Utf8.encode
high_octal = refl

high_hexadecimal : lexed (codes "'\\x80'\n") ≡ Refused NonAsciiText (at 1 2)
unfolding lib.Utf8.encode
high_hexadecimal = refl

wrong_on_a_later_line : lexed (codes "'''a\n\\x'''\n") ≡ Refused BadEscape (at 2 1)
unfolding lib.Utf8.encode
wrong_on_a_later_line = refl

no_escapes_in_bytes : lexed ((98 ∷ 39 ∷ 92 ∷ 120 ∷ 39 ∷ 32 ∷ 102 ∷ 39 ∷ 228 ∷ 92 ∷ 78 ∷ 39 ∷ 10 ∷ [])) ≡ Tokens (
    other 1 1 TBytes
    ∷ other 1 7 TFormatted
    ∷ newline 1 13
    ∷ [])
unfolding lib.Utf8.encode
no_escapes_in_bytes = refl
