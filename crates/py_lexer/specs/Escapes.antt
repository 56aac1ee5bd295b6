-- What characters of a text stand for, as the code tells it.
use Rattle.std.specs.Prelude.{ℕ, suc, [], ◌∷◌, length, take, ◌||◌, ◌==◌, if◌then◌else◌}
use Rattle.std.specs.List.{take_while}
use Rattle.py_tokens.specs.Token.{BadEscape}
use Rattle.py_tokens.specs.Characters.{Text, is_digit_below, is_hexadecimal, value_from}
use Rattle.py_tokens.specs.Lexeme as meaning
use Rattle.py_lexer.specs.PlainLexemes.{plain_fault}
use Rattle.py_lexer.specs.declared.escape.Piece.{Piece}
use Rattle.py_lexer.specs.declared.escape.Piece.TheVariants as piece
use Rattle.py_lexer.specs.declared.escape.Part.{Part}

abbrev pub plain_piece : Piece → meaning.Piece
plain_piece (piece.Stands code) = meaning.Stands (code ∷ [])
plain_piece piece.Nothing = meaning.Stands []
plain_piece (piece.Wrong fault) = meaning.Wrong (plain_fault fault)

abbrev pub plain_part : Part → meaning.Part
plain_part p = record { length_of = p.length; piece = plain_piece p.piece }

-- what the two characters behind `\x` tell
abbrev pub hexadecimal_escape : Text → meaning.Part
hexadecimal_escape z = if length (take_while is_hexadecimal (take 2 z)) == 2 then meaning.coded 4 (value_from 16 0 (take 2 z)) else meaning.wrong BadEscape

-- an escape by a code, and all that are none
abbrev pub coded_escape : ℕ → Text → meaning.Part
coded_escape c z =
    if is_digit_below 8 c then meaning.coded (suc (meaning.octal (c ∷ z))) (value_from 8 0 (take (meaning.octal (c ∷ z)) (c ∷ z)))
    else (if c == 120 then hexadecimal_escape z else (if (c == 78) || ((c == 117) || (c == 85)) then meaning.wrong BadEscape else meaning.part 1 (92 ∷ [])))

-- an escape by a letter, and all but quotes, backslashes and line ends
abbrev pub letter_escape : ℕ → Text → meaning.Part
letter_escape c z =
    if c == 97 then meaning.part 2 (7 ∷ [])
    else (if c == 98 then meaning.part 2 (8 ∷ [])
    else (if c == 102 then meaning.part 2 (12 ∷ [])
    else (if c == 110 then meaning.part 2 (10 ∷ [])
    else (if c == 114 then meaning.part 2 (13 ∷ [])
    else (if c == 116 then meaning.part 2 (9 ∷ []) else (if c == 118 then meaning.part 2 (11 ∷ []) else coded_escape c z))))))
