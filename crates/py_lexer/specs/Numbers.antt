-- Numbers that are not too large.
use Rattle.std.specs.Prelude.{ℕ, ◌+◌, ◌*◌, ◌==◌, nat_lt, Option, Some, None, if◌then◌else◌}
use Rattle.runs.specs.Number.{Width}
use Rattle.py_tokens.specs.Characters.{digit_value}
use Rattle.py_tokens.specs.Lexeme.{Front, is_wide}

abbrev pub unless_wide : Width → Front → Option Front
unless_wide w f = if is_wide w f.lexeme then None else Some f

abbrev pub value_within : ℕ → ℕ → Option ℕ
value_within greatest n = if nat_lt greatest n then None else Some n

-- a value with one more digit or underscore
abbrev pub value_then : ℕ → ℕ → ℕ → ℕ
value_then base n c = if c == 95 then n else n * base + digit_value c
