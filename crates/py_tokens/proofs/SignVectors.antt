-- Names, keywords, operators, comments and characters that begin no token.
use Rattle.std.proofs.Common.{◌≡◌, [], ◌∷◌, refl}
use Rattle.std.specs.Prelude.{codes}
use Rattle.py_tokens.specs.Token.{BadCharacter, Tokens, Refused}
use Rattle.py_tokens.proofs.Notation.{at, lexed, named, word, sign, newline}

names : lexed (codes "_x x1 print __name__ If\n") ≡ Tokens (
    named 1 1 (codes "_x")
    ∷ named 1 4 (codes "x1")
    ∷ named 1 7 (codes "print")
    ∷ named 1 13 (codes "__name__")
    ∷ named 1 22 (codes "If")
    ∷ newline 1 24
    ∷ [])
unfolding lib.Utf8.encode
names = refl

keywords : lexed (codes "not in is lambda None True False\n") ≡ Tokens (
    word 1 1 (codes "not")
    ∷ word 1 5 (codes "in")
    ∷ word 1 8 (codes "is")
    ∷ word 1 11 (codes "lambda")
    ∷ word 1 18 (codes "None")
    ∷ word 1 23 (codes "True")
    ∷ word 1 28 (codes "False")
    ∷ newline 1 33
    ∷ [])
unfolding lib.Utf8.encode
keywords = refl

-- operators are as long as they can be
longest : lexed (codes "a<<=b**c//d!=e->f:=g\n") ≡ Tokens (
    named 1 1 (codes "a")
    ∷ sign 1 2 (codes "<<=")
    ∷ named 1 5 (codes "b")
    ∷ sign 1 6 (codes "**")
    ∷ named 1 8 (codes "c")
    ∷ sign 1 9 (codes "//")
    ∷ named 1 11 (codes "d")
    ∷ sign 1 12 (codes "!=")
    ∷ named 1 14 (codes "e")
    ∷ sign 1 15 (codes "->")
    ∷ named 1 17 (codes "f")
    ∷ sign 1 18 (codes ":=")
    ∷ named 1 20 (codes "g")
    ∷ newline 1 21
    ∷ [])
unfolding lib.Utf8.encode
longest = refl

dots : lexed (codes "....\n") ≡ Tokens (
    sign 1 1 (codes "...")
    ∷ sign 1 4 (codes ".")
    ∷ newline 1 5
    ∷ [])
unfolding lib.Utf8.encode
dots = refl

dot_name : lexed (codes "x.y\n") ≡ Tokens (
    named 1 1 (codes "x")
    ∷ sign 1 2 (codes ".")
    ∷ named 1 3 (codes "y")
    ∷ newline 1 4
    ∷ [])
unfolding lib.Utf8.encode
dot_name = refl

comment : lexed ((120 ∷ 32 ∷ 35 ∷ 32 ∷ 233 ∷ 32 ∷ 36 ∷ 32 ∷ 63 ∷ 10 ∷ 35 ∷ 32 ∷ 97 ∷ 108 ∷ 108 ∷ 10 ∷ 32 ∷ 32 ∷ 35 ∷ 32 ∷ 111 ∷ 102 ∷ 32 ∷ 105 ∷ 116 ∷ 10 ∷ 10 ∷ 121 ∷ 10 ∷ [])) ≡ Tokens (
    named 1 1 (codes "x")
    ∷ newline 1 10
    ∷ named 5 1 (codes "y")
    ∷ newline 5 2
    ∷ [])
unfolding lib.Utf8.encode
comment = refl

comment_at_the_end : lexed (codes "x #") ≡ Tokens (
    named 1 1 (codes "x")
    ∷ newline 1 4
    ∷ [])
unfolding lib.Utf8.encode
comment_at_the_end = refl

control_in_comment : lexed ((35 ∷ 32 ∷ 97 ∷ 1 ∷ 10 ∷ [])) ≡ Refused BadCharacter (at 1 4)
unfolding lib.Utf8.encode
control_in_comment = refl

return_in_comment : lexed ((35 ∷ 13 ∷ 120 ∷ 10 ∷ [])) ≡ Refused BadCharacter (at 1 2)
unfolding lib.Utf8.encode
return_in_comment = refl

tab_in_comment : lexed ((35 ∷ 9 ∷ 120 ∷ 10 ∷ [])) ≡ Tokens (
    [])
unfolding lib.Utf8.encode
tab_in_comment = refl

dollar : lexed (codes "x = $\n") ≡ Refused BadCharacter (at 1 5)
unfolding lib.Utf8.encode
dollar = refl

mark : lexed (codes "x !y\n") ≡ Refused BadCharacter (at 1 3)
unfolding lib.Utf8.encode
mark = refl

form_feed : lexed ((120 ∷ 12 ∷ 10 ∷ [])) ≡ Refused BadCharacter (at 1 2)
unfolding lib.Utf8.encode
form_feed = refl

lone_return : lexed ((120 ∷ 13 ∷ 121 ∷ 10 ∷ [])) ≡ Refused BadCharacter (at 1 2)
unfolding lib.Utf8.encode
lone_return = refl

backslash : lexed (codes "x \\ y\n") ≡ Refused BadCharacter (at 1 3)
unfolding lib.Utf8.encode
backslash = refl

backslash_at_the_end : lexed (codes "x \\") ≡ Refused BadCharacter (at 1 3)
unfolding lib.Utf8.encode
backslash_at_the_end = refl
