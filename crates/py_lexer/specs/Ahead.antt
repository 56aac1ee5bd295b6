-- The tokens that the rest of a text has to give, from within a logical line on.
use Rattle.std.specs.Prelude.{◌≡◌, ℕ, Bool, true, false, ◌&&◌, ◌||◌, List, [], ◌∷◌}
use Rattle.py_tokens.specs.Token.{Place, Kind, TOperator, TText, TNewline, Token, Outcome, Tokens}
use Rattle.py_tokens.specs.Characters.{Text}
use Rattle.py_tokens.specs.Lexeme.{Lexeme}
use Rattle.py_tokens.specs.Lines.{Located, is_opening, is_closing, Line, Widths, wider, widths_from, words_of}
use Rattle.py_tokens.specs.Tokens.{token, preceded, worded, levels_left, Indentation, back, indented, indented_from, all_lines, merged_outcome}

abbrev pub located : Place → Lexeme → Text → Located
located p x s = record { place = p; lexeme = x; text = s }

-- what of a logical line has come
pub data Sofar : Type 0 where
  -- blanks alone, of these widths
  Blanks : (widths : Widths) → Sofar
  -- and then a comment or a joined line, behind which no blank counts
  Settled : (widths : Widths) → Sofar
  -- a word
  Words : Sofar

-- the words of a line, its NEWLINE, and the lines after it
abbrev pub words_then : Place → List Located → List Line → List Widths → Outcome
words_then ended words others levels = worded words (preceded (token ended TNewline ∷ []) (all_lines levels ended others))

-- the rest of a line whose indentation has these widths, and the lines after it
abbrev pub opened : Widths → Place → List Located → List Line → List Widths → Place → Outcome
opened w ended [] others levels last = all_lines levels last others
opened w ended (first ∷ words) others levels last = indented (indented_from w levels) first.place w levels (words_then ended (first ∷ words) others)

abbrev pub line_from : Sofar → Line → List Line → List Widths → Place → Outcome
line_from (Blanks w) line others levels last = opened (widths_from w line.items) line.ended (words_of line.items) others levels last
line_from (Settled w) line others levels last = opened w line.ended (words_of line.items) others levels last
line_from Words line others levels last = words_then line.ended (words_of line.items) others levels

-- the first of these lines is the rest of one
abbrev pub lines_from : Sofar → List Widths → Place → List Line → Outcome
lines_from sofar levels last [] = Tokens []
lines_from sofar levels last (line ∷ others) = line_from sofar line others levels last

-- what comes before a word at a place: levels begin or end where it is the first of its line
abbrev pub opened_by : Sofar → Place → List Widths → (List Widths → Outcome) → Outcome
opened_by (Blanks w) p levels go = indented (indented_from w levels) p w levels go
opened_by (Settled w) p levels go = indented (indented_from w levels) p w levels go
opened_by Words p levels go = go levels

-- the levels that end before a line that is narrower
abbrev pub back_to : Widths → List Widths → Indentation
back_to w levels = back (levels_left (λ l. l.eights) w.eights levels) (levels_left (λ l. l.ones) w.ones levels)

-- no two texts stand side by side
abbrev pub is_text : Kind → Bool
is_text (TText x) = true
is_text _ = false

abbrev pub Apart : List Token → Type 0
Apart [] = Unit {0}
Apart (t ∷ []) = Unit {0}
Apart (t ∷ u ∷ ts) = ((is_text t.kind && is_text u.kind) ≡ false) × Apart (u ∷ ts)

-- a token comes next, and then the rest
abbrev pub Follows : List Token → List Token → Token → Type 0
Follows old new t = (rest : Outcome) → merged_outcome (preceded old (preceded (t ∷ []) rest)) ≡ merged_outcome (preceded new rest)

-- comments, and line ends that are taken away
abbrev pub settled : Sofar → Sofar
settled (Blanks w) = Settled w
settled (Settled w) = Settled w
settled Words = Words

-- a word that is a bracket
abbrev pub is_bracket : Kind → Bool
is_bracket (TOperator t) = is_opening t || is_closing t
is_bracket _ = false

-- a blank
abbrev pub blanked : Sofar → ℕ → Sofar
blanked (Blanks w) c = Blanks (wider w c)
blanked (Settled w) c = Settled w
blanked Words c = Words
