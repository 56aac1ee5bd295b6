-- Logical lines: the text cut into what stands one behind another, brackets with their partners, line ends that end a
-- logical line, and its indentation.
use Rattle.std.specs.Prelude.{ℕ, zero, suc, ◌+◌, ◌-◌, ◌*◌, ◌/◌, Bool, true, false, ◌&&◌, ◌||◌, if◌then◌else◌, ◌==◌, List, [], ◌∷◌, codes, Option, Some, None}
use Rattle.std.specs.Str.{bytes_eq}
use Rattle.runs.specs.Number.{Width}
use Rattle.py_tokens.specs.Token.{Place, TOperator, UnclosedBracket, next_place}
use Rattle.py_tokens.specs.Characters.{Text}
use Rattle.py_tokens.specs.Lexeme.{Lexeme, Blank, LineEnd, Word, Broken, front_of}

-- where something begins, and the characters that it begins with
pub record Located : Type 0 where
  pub place : Place
  pub lexeme : Lexeme
  pub text : Text

-- `left` characters belong to what began before
abbrev pub cut : Width → Place → ℕ → Text → List Located
cut w p left [] = []
cut w p (suc left) (c ∷ z) = cut w (next_place p c) left z
cut w p zero (c ∷ z) =
    record { place = p; lexeme = (front_of w (c ∷ z)).lexeme; text = c ∷ z } ∷ cut w (next_place p c) ((front_of w (c ∷ z)).length_of - 1) z

abbrev pub is_opening : Text → Bool
is_opening s = bytes_eq s (codes "(") || (bytes_eq s (codes "[") || bytes_eq s (codes "{"))

abbrev pub is_closing : Text → Bool
is_closing s = bytes_eq s (codes ")") || (bytes_eq s (codes "]") || bytes_eq s (codes "}"))

-- whether the second bracket closes the first
abbrev pub are_partners : Text → Text → Bool
are_partners s t =
    (bytes_eq s (codes "(") && bytes_eq t (codes ")")) || ((bytes_eq s (codes "[") && bytes_eq t (codes "]")) || (bytes_eq s (codes "{") && bytes_eq t (codes "}")))

-- a bracket that is open
pub record Open : Type 0 where
  pub place : Place
  pub bracket : Text

abbrev pub unclosed : Place → List Located
unclosed p = record { place = p; lexeme = Broken UnclosedBracket 0; text = [] } ∷ []

abbrev pub closed : Located → (List Open → List Located) → Text → List Open → List Located
closed l again s [] = unclosed l.place
closed l again s (o ∷ pending) = if are_partners o.bracket s then l ∷ again pending else unclosed l.place

-- what is kept of something within open brackets, where `again` goes on behind it
abbrev pub bracketed_at : Located → (List Open → List Located) → Lexeme → List Open → List Located
bracketed_at l again LineEnd [] = l ∷ again []
bracketed_at l again LineEnd (o ∷ pending) = again (o ∷ pending)
bracketed_at l again (Word (TOperator s)) pending =
    if is_opening s then l ∷ again (record { place = l.place; bracket = s } ∷ pending) else (if is_closing s then closed l again s pending else l ∷ again pending)
bracketed_at l again _ pending = l ∷ again pending

-- "Implicit line joining": within brackets a line end ends nothing. The bracket that was opened last comes first.
abbrev pub bracketed : List Open → List Located → List Located
bracketed [] [] = []
bracketed (o ∷ pending) [] = unclosed o.place
bracketed pending (l ∷ ls) = bracketed_at l (λ others. bracketed others ls) l.lexeme pending

-- a logical line, and the place of the line end that ends it, or of the text's end
pub record Line : Type 0 where
  pub items : List Located
  pub ended : Place

abbrev pub in_front : Located → List Line → List Line
in_front l [] = []
in_front l (line ∷ lines) = record { items = l ∷ line.items; ended = line.ended } ∷ lines

abbrev pub is_line_end : Lexeme → Bool
is_line_end LineEnd = true
is_line_end _ = false

abbrev pub lines_of : Place → List Located → List Line
lines_of end [] = record { items = []; ended = end } ∷ []
lines_of end (l ∷ ls) = if is_line_end l.lexeme then record { items = []; ended = l.place } ∷ lines_of end ls else in_front l (lines_of end ls)

-- "Indentation": the width with tabs that go on to the next multiple of eight, and that with a tab as one
pub record Widths : Type 0 where
  pub eights : ℕ
  pub ones : ℕ

abbrev pub no_width : Widths
no_width = record { eights = 0; ones = 0 }

abbrev pub wider : Widths → ℕ → Widths
wider w c = record { eights = if c == 9 then (w.eights / 8 + 1) * 8 else w.eights + 1; ones = w.ones + 1 }

abbrev pub blank_of : Lexeme → Option ℕ
blank_of (Blank c) = Some c
blank_of _ = None

-- with the blanks at the front
abbrev pub widths_from : Widths → List Located → Widths
widths_from w [] = w
widths_from w (l ∷ ls) = elim (blank_of l.lexeme) [ Some c ↦ widths_from (wider w c) ls | None ↦ w ]

-- what is neither white space nor a comment
abbrev pub is_word : Lexeme → Bool
is_word (Word k) = true
is_word (Broken r n) = true
is_word _ = false

abbrev pub words_of : List Located → List Located
words_of [] = []
words_of (l ∷ ls) = if is_word l.lexeme then l ∷ words_of ls else words_of ls
