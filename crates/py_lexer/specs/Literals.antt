-- Literals as the code tells them.
use Rattle.std.specs.Prelude.{ℕ, suc, ◌≤◌, Bool, true, false, [], ◌∷◌, Option, Some, None, ◌==◌, if◌then◌else◌}
use Rattle.py_tokens.specs.Characters.{Text, is_quote, line_end}
use Rattle.py_tokens.specs.Lexeme as meaning
use Rattle.py_lexer.specs.declared.literal.Sort.{Sort}
use Rattle.py_lexer.specs.declared.literal.Sort.TheVariants as sort
use Rattle.py_lexer.specs.declared.literal.Turn.{Turn}
use Rattle.py_lexer.specs.declared.literal.Turn.TheVariants as turn

abbrev pub plain_sort : Sort → meaning.Sort
plain_sort sort.Cooked = meaning.Cooked
plain_sort sort.Raw = meaning.Raw
plain_sort sort.OfBytes = meaning.OfBytes
plain_sort sort.Formatted = meaning.Formatted

-- how many quotes close a text
abbrev pub quotes : Bool → ℕ
quotes true = 3
quotes false = 1

-- how many characters behind this one cannot close a text
abbrev pub kept_behind : ℕ → Text → ℕ
kept_behind c z = if c == 92 then (if line_end z == 0 then 1 else line_end z) else 0

-- where a text closes, by what its first character says
abbrev pub closes_by : Bool → ℕ → Text → Turn → Option ℕ
closes_by three quote z turn.Closes = Some 0
closes_by three quote z turn.Never = None
closes_by three quote z (turn.Goes left) = elim (meaning.closes_at three quote left z) [ None ↦ None | Some n ↦ Some (suc n) ]

-- quotes that close a text of so many characters are in it
abbrev pub closes_within : Bool → ℕ → Turn → Type 0
closes_within three whole turn.Closes = quotes three ≤ whole
closes_within three whole turn.Never = Unit {0}
closes_within three whole (turn.Goes left) = Unit {0}

-- what letters say of a literal, if one begins behind them
abbrev pub sort_before : Text → Text → Option meaning.Sort
sort_before letters [] = None
sort_before letters (q ∷ z) = if is_quote q then meaning.sort_of letters else None
