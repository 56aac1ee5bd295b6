-- Lines: how they are joined, and their indentation.
use Rattle.std.proofs.Common.{◌≡◌, [], ◌∷◌, refl}
use Rattle.std.specs.Prelude.{codes}
use Rattle.py_tokens.specs.Token.{BadCharacter, BadIndent, MixedTabs, UnclosedBracket, Tokens, Refused}
use Rattle.py_tokens.proofs.Notation.{at, lexed, named, word, sign, number, text, newline, indent, dedent}

nothing : lexed (codes "") ≡ Tokens (
    [])
unfolding lib.Utf8.encode
nothing = refl

-- a last line is ended
no_line_end : lexed (codes "x") ≡ Tokens (
    named 1 1 (codes "x")
    ∷ newline 1 2
    ∷ [])
unfolding lib.Utf8.encode
no_line_end = refl

-- a line may end with two characters
two_characters : lexed ((120 ∷ 13 ∷ 10 ∷ 121 ∷ 13 ∷ 10 ∷ [])) ≡ Tokens (
    named 1 1 (codes "x")
    ∷ newline 1 2
    ∷ named 2 1 (codes "y")
    ∷ newline 2 2
    ∷ [])
unfolding lib.Utf8.encode
two_characters = refl

joined : lexed (codes "x = \\\n  1\n") ≡ Tokens (
    named 1 1 (codes "x")
    ∷ sign 1 3 (codes "=")
    ∷ number 2 3 1
    ∷ newline 2 4
    ∷ [])
unfolding lib.Utf8.encode
joined = refl

joined_last : lexed (codes "x \\\n") ≡ Tokens (
    named 1 1 (codes "x")
    ∷ newline 2 1
    ∷ [])
unfolding lib.Utf8.encode
joined_last = refl

brackets : lexed (codes "x = [1,\n\n # c\n 2]\n") ≡ Tokens (
    named 1 1 (codes "x")
    ∷ sign 1 3 (codes "=")
    ∷ sign 1 5 (codes "[")
    ∷ number 1 6 1
    ∷ sign 1 7 (codes ",")
    ∷ number 4 2 2
    ∷ sign 4 3 (codes "]")
    ∷ newline 4 4
    ∷ [])
unfolding lib.Utf8.encode
brackets = refl

texts_in_brackets : lexed (codes "('a'\n'b')\n") ≡ Tokens (
    sign 1 1 (codes "(")
    ∷ text 1 2 (97 ∷ 98 ∷ [])
    ∷ sign 2 4 (codes ")")
    ∷ newline 2 5
    ∷ [])
unfolding lib.Utf8.encode
texts_in_brackets = refl

blocks : lexed (codes "if x:\n  y\n  if z:\n      w\nv\n") ≡ Tokens (
    word 1 1 (codes "if")
    ∷ named 1 4 (codes "x")
    ∷ sign 1 5 (codes ":")
    ∷ newline 1 6
    ∷ indent 2 3
    ∷ named 2 3 (codes "y")
    ∷ newline 2 4
    ∷ word 3 3 (codes "if")
    ∷ named 3 6 (codes "z")
    ∷ sign 3 7 (codes ":")
    ∷ newline 3 8
    ∷ indent 4 7
    ∷ named 4 7 (codes "w")
    ∷ newline 4 8
    ∷ dedent 5 1
    ∷ dedent 5 1
    ∷ named 5 1 (codes "v")
    ∷ newline 5 2
    ∷ [])
unfolding lib.Utf8.encode
blocks = refl

-- levels that are open end at the last NEWLINE
open_at_the_end : lexed (codes "a:\n b:\n  c\n\n") ≡ Tokens (
    named 1 1 (codes "a")
    ∷ sign 1 2 (codes ":")
    ∷ newline 1 3
    ∷ indent 2 2
    ∷ named 2 2 (codes "b")
    ∷ sign 2 3 (codes ":")
    ∷ newline 2 4
    ∷ indent 3 3
    ∷ named 3 3 (codes "c")
    ∷ newline 3 4
    ∷ dedent 3 4
    ∷ dedent 3 4
    ∷ [])
unfolding lib.Utf8.encode
open_at_the_end = refl

-- they say nothing of indentation
blank_lines : lexed ((97 ∷ 10 ∷ 32 ∷ 32 ∷ 32 ∷ 10 ∷ 32 ∷ 32 ∷ 35 ∷ 32 ∷ 98 ∷ 10 ∷ 9 ∷ 10 ∷ 99 ∷ 10 ∷ [])) ≡ Tokens (
    named 1 1 (codes "a")
    ∷ newline 1 2
    ∷ named 5 1 (codes "c")
    ∷ newline 5 2
    ∷ [])
unfolding lib.Utf8.encode
blank_lines = refl

-- a tab goes on to the next multiple of eight
tabs : lexed ((105 ∷ 102 ∷ 32 ∷ 49 ∷ 58 ∷ 10 ∷ 9 ∷ 120 ∷ 10 ∷ 9 ∷ 121 ∷ 10 ∷ [])) ≡ Tokens (
    word 1 1 (codes "if")
    ∷ number 1 4 1
    ∷ sign 1 5 (codes ":")
    ∷ newline 1 6
    ∷ indent 2 2
    ∷ named 2 2 (codes "x")
    ∷ newline 2 3
    ∷ named 3 2 (codes "y")
    ∷ newline 3 3
    ∷ dedent 3 3
    ∷ [])
unfolding lib.Utf8.encode
tabs = refl

first_line_indented : lexed (codes " x\n") ≡ Tokens (
    indent 1 2
    ∷ named 1 2 (codes "x")
    ∷ newline 1 3
    ∷ dedent 1 3
    ∷ [])
unfolding lib.Utf8.encode
first_line_indented = refl

no_level : lexed (codes "if 1:\n    x\n  y\n") ≡ Refused BadIndent (at 3 3)
unfolding lib.Utf8.encode
no_level = refl

tab_against_spaces : lexed ((105 ∷ 102 ∷ 32 ∷ 49 ∷ 58 ∷ 10 ∷ 9 ∷ 120 ∷ 32 ∷ 61 ∷ 32 ∷ 49 ∷ 10 ∷ 32 ∷ 32 ∷ 32 ∷ 32 ∷ 32 ∷ 32 ∷ 32 ∷ 32 ∷ 121 ∷ 32 ∷ 61 ∷ 32 ∷ 50 ∷ 10 ∷ [])) ≡ Refused MixedTabs (at 3 9)
unfolding lib.Utf8.encode
tab_against_spaces = refl

one_width_reaches_a_level : lexed ((97 ∷ 10 ∷ 9 ∷ 98 ∷ 10 ∷ 9 ∷ 9 ∷ 99 ∷ 10 ∷ 32 ∷ 100 ∷ 10 ∷ [])) ≡ Refused MixedTabs (at 4 2)
unfolding lib.Utf8.encode
one_width_reaches_a_level = refl

-- the level comes before the token
indent_before_bad_character : lexed (codes "if 1:\n    x\n  $\n") ≡ Refused BadIndent (at 3 3)
unfolding lib.Utf8.encode
indent_before_bad_character = refl

-- the innermost one
unclosed : lexed (codes "print((1") ≡ Refused UnclosedBracket (at 1 7)
unfolding lib.Utf8.encode
unclosed = refl

unclosed_none : lexed (codes "x)\n") ≡ Refused UnclosedBracket (at 1 2)
unfolding lib.Utf8.encode
unclosed_none = refl

-- a bracket closes its own kind alone
unclosed_other : lexed (codes "(x]\n") ≡ Refused UnclosedBracket (at 1 3)
unfolding lib.Utf8.encode
unclosed_other = refl

-- what comes first is told
bad_character_in_brackets : lexed (codes "(\n$\n") ≡ Refused BadCharacter (at 2 1)
unfolding lib.Utf8.encode
bad_character_in_brackets = refl
