-- The tokens of a text, or the first reason why it has none.
use Rattle.std.specs.Prelude.{ℕ, zero, suc, ◌&&◌, if◌then◌else◌, ◌==◌, nat_lt, List, [], ◌∷◌, ◌++◌, length, take, Option, Some, None, chars}
use Rattle.std.specs.Str.Lossy.{utf8_valid_len}
use Rattle.runs.specs.Number.{Width}
use Rattle.py_tokens.specs.Token.{Place, Kind, TText, TNewline, TIndent, TDedent, Token, NotUtf8, BadIndent, MixedTabs, Outcome, Tokens, Refused, place_after}
use Rattle.py_tokens.specs.Characters.{Text}
use Rattle.py_tokens.specs.Lexeme.{Lexeme, Word, Broken}
use Rattle.py_tokens.specs.Lines.{Located, cut, bracketed, Line, lines_of, Widths, no_width, widths_from, words_of}

abbrev pub token : Place → Kind → Token
token p k = record { place = p; kind = k }

abbrev pub preceded : List Token → Outcome → Outcome
preceded ts (Tokens others) = Tokens (ts ++ others)
preceded ts (Refused r p) = Refused r p

-- one token for each word, and then what comes behind them
abbrev pub worded : List Located → Outcome → Outcome
worded [] after = after
worded (l ∷ ls) after = worded_as l l.lexeme (worded ls after)
  where
    worded_as : Located → Lexeme → Outcome → Outcome
    worded_as l (Word k) rest = preceded (token l.place k ∷ []) rest
    worded_as l (Broken r n) rest = Refused r (place_after l.place (take n l.text))
    worded_as l _ rest = rest

-- how many levels are left until one has this width, the innermost coming first
abbrev pub levels_left : (Widths → ℕ) → ℕ → List Widths → Option ℕ
levels_left width n [] = None
levels_left width n (level ∷ levels) = if width level == n then Some 0 else (elim (levels_left width n levels) [ None ↦ None | Some k ↦ Some (suc k) ])

-- the levels behind an indentation: those that are open then, and the tokens that say so, or a refusal
pub data Indentation : Type 0 where
  Stays : Indentation
  Deeper : Indentation
  -- so many levels are left
  Back : (levels : ℕ) → Indentation
  -- it comes back to no level, or the two widths of tabs disagree
  Lost : Indentation
  Mixed : Indentation

abbrev pub back : Option ℕ → Option ℕ → Indentation
back None None = Lost
back None (Some n) = Mixed
back (Some m) None = Mixed
back (Some m) (Some n) = if m == n then Back m else Mixed

abbrev pub indentation : Widths → Widths → List Widths → Indentation
indentation w top levels =
    if (w.eights == top.eights) && (w.ones == top.ones) then Stays
    else (if nat_lt top.eights w.eights && nat_lt top.ones w.ones then Deeper
    else (if nat_lt w.eights top.eights && nat_lt w.ones top.ones
    then back (levels_left (λ l. l.eights) w.eights (top ∷ levels)) (levels_left (λ l. l.ones) w.ones (top ∷ levels))
    else Mixed))

abbrev pub dedents : Place → ℕ → List Token
dedents p zero = []
dedents p (suc n) = token p TDedent ∷ dedents p n

abbrev pub dropped : ℕ → List Widths → List Widths
dropped zero levels = levels
dropped (suc n) [] = []
dropped (suc n) (level ∷ levels) = dropped n levels

-- the tokens of a line's indentation, and then what comes behind them, which depends on the open levels
abbrev pub indented : Indentation → Place → Widths → List Widths → (List Widths → Outcome) → Outcome
indented Stays p w levels after = after levels
indented Deeper p w levels after = preceded (token p TIndent ∷ []) (after (w ∷ levels))
indented (Back n) p w levels after = preceded (dedents p n) (after (dropped n levels))
indented Lost p w levels after = Refused BadIndent p
indented Mixed p w levels after = Refused MixedTabs p

abbrev pub indented_from : Widths → List Widths → Indentation
indented_from w [] = Stays
indented_from w (top ∷ levels) = indentation w top levels

-- a line that has words: its indentation, its words and a NEWLINE
abbrev pub lined : Line → List Located → List Widths → (List Widths → Outcome) → Outcome
lined line [] levels after = after levels
lined line (first ∷ others) levels after =
    let w = widths_from no_width line.items in
    indented (indented_from w levels) first.place w levels (λ now. worded (first ∷ others) (preceded (token line.ended TNewline ∷ []) (after now)))

-- whether a line has words
abbrev pub newline_after : Place → Line → List Located → Place
newline_after last line [] = last
newline_after last line (first ∷ others) = line.ended

-- all lines, and at the end a DEDENT for each level that is open; the last NEWLINE has this place
abbrev pub all_lines : List Widths → Place → List Line → Outcome
all_lines [] last [] = Tokens []
all_lines (top ∷ levels) last [] = Tokens (dedents last (length levels))
all_lines levels last (line ∷ lines) =
    lined line (words_of line.items) levels (λ now. all_lines now (newline_after last line (words_of line.items)) lines)

-- texts side by side are one
abbrev pub put_before : Token → List Token → List Token
put_before t [] = t ∷ []
put_before t (u ∷ ts) = together t.kind u.kind
  where
    together : Kind → Kind → List Token
    together (TText x) (TText y) = token t.place (TText (x ++ y)) ∷ ts
    together _ _ = t ∷ u ∷ ts

abbrev pub merged : List Token → List Token
merged [] = []
merged (t ∷ ts) = put_before t (merged ts)

abbrev pub merged_outcome : Outcome → Outcome
merged_outcome (Tokens ts) = Tokens (merged ts)
merged_outcome (Refused r p) = Refused r p

-- a byte order mark at the beginning is skipped
abbrev pub unmarked : Text → Text
unmarked [] = []
unmarked (c ∷ z) = if c == 65279 then z else c ∷ z

abbrev pub beginning : ℕ → Place
beginning n = record { «module» = n; line = 1; column = 1 }

abbrev pub tokens_of_characters : Width → Place → Text → Outcome
tokens_of_characters w p z = merged_outcome (all_lines (no_width ∷ []) p (lines_of (place_after p z) (bracketed [] (cut w p 0 z))))

-- the tokens of a module's bytes
abbrev pub tokens_of : ℕ → Width → List ℕ → Outcome
tokens_of n w text =
    if utf8_valid_len text == length text then tokens_of_characters w (beginning n) (unmarked (chars text))
    else Refused NotUtf8 (place_after (beginning n) (unmarked (chars (take (utf8_valid_len text) text))))
