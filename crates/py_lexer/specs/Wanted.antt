-- The outcome of a text, where some of its tokens have come.
use Rattle.std.specs.Prelude.{◌≡◌, ℕ, ◌||◌, false, List, ◌∷◌, map, reverse, codes, Option, Some, None}
use Rattle.py_tokens.specs.Token as meaning
use Rattle.py_tokens.specs.Characters.{Text}
use Rattle.py_tokens.specs.Lines as lines
use Rattle.py_tokens.specs.Tokens.{preceded, merged_outcome}
use Rattle.py_lexer.specs.PlainTokens.{plain_place, plain_tokens}
use Rattle.py_lexer.specs.Ahead.{Sofar, Blanks, Settled, Words, lines_from, Apart}
use Rattle.py_lexer.specs.Reading.{IsRefused}
use Rattle.py_lexer.specs.declared.refusal.LexRefusal.{LexRefusal}
use Rattle.py_lexer.specs.declared.lines.Widths.{Widths}
use Rattle.py_lexer.specs.declared.lines.Progress.{Progress}
use Rattle.py_lexer.specs.declared.lines.Progress.TheVariants as progress
use Rattle.py_lexer.specs.declared.lines.Bracket.{Bracket}
use Rattle.py_lexer.specs.declared.lines.Bracket.TheVariants as bracket
use Rattle.py_lexer.specs.declared.lines.Side.{Side}
use Rattle.py_lexer.specs.declared.lines.Side.TheVariants as side
use Rattle.py_lexer.specs.declared.lines.Open.{Open}
use Rattle.py_lexer.specs.declared.lines.Output.{Output}
use Rattle.py_lexer.specs.declared.lines.Lines.{Lines}

abbrev pub plain_widths : Widths → lines.Widths
plain_widths w = record { eights = w.eights; ones = w.ones }

abbrev pub plain_sofar : Progress → Sofar
plain_sofar (progress.Fresh w) = Blanks (plain_widths w)
plain_sofar (progress.Settled w) = Settled (plain_widths w)
plain_sofar progress.Begun = Words

abbrev pub opening_text : Bracket → Text
opening_text bracket.Round = codes "("
opening_text bracket.Square = codes "["
opening_text bracket.Curly = codes "{"

abbrev pub closing_text : Bracket → Text
closing_text bracket.Round = codes ")"
closing_text bracket.Square = codes "]"
closing_text bracket.Curly = codes "}"

-- which bracket a text is
abbrev pub IsSide : Text → Side → Type 0
IsSide t (side.Opening b) = t ≡ opening_text b
IsSide t (side.Closing b) = t ≡ closing_text b
IsSide t side.Neither = (lines.is_opening t || lines.is_closing t) ≡ false

abbrev pub plain_open : Open → lines.Open
plain_open o = record { place = plain_place o.place; bracket = opening_text o.bracket }

-- the innermost bracket, and the innermost level, come first
abbrev pub pending_of : List Open → List lines.Open
pending_of brackets = map plain_open (reverse brackets)

abbrev pub levels_of : Output → List lines.Widths
levels_of out = plain_widths out.innermost ∷ map plain_widths (reverse out.outer.items)

-- the outcome, where these tokens have come and what comes next depends on the open levels
unfoldable pub followed : List (List ℕ) → Output → (List lines.Widths → meaning.Outcome) → meaning.Outcome
followed texts out go = merged_outcome (preceded (plain_tokens texts out.tokens.items) (go (levels_of out)))

-- the outcome, where this has come and these items are left before the end
unfoldable pub ahead : List (List ℕ) → Lines → meaning.Place → List lines.Located → meaning.Outcome
ahead texts l end items =
    followed texts l.output (λ levels. lines_from (plain_sofar l.progress) levels (plain_place l.last) (lines.lines_of end (lines.bracketed (pending_of l.pending.items) items)))

-- a step leaves the outcome as it is, or it refuses as the text is refused
abbrev pub Turned : Option LexRefusal → meaning.Outcome → meaning.Outcome → Type 0
Turned None new old = old ≡ new
Turned (Some r) new old = IsRefused old r

abbrev pub IsApart : Output → Type 0
IsApart out = (texts : List (List ℕ)) → Apart (plain_tokens texts out.tokens.items)
