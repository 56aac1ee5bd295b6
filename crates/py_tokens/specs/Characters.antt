-- Characters, and what a text begins with.
use Rattle.std.specs.Prelude.{ℕ, suc, ◌+◌, ◌-◌, ◌*◌, Bool, true, false, not, ◌&&◌, ◌||◌, if◌then◌else◌, ◌==◌, nat_le, nat_lt, List, [], ◌∷◌}
use Rattle.std.specs.Char.{is_ascii_alphabetic, is_ascii_alphanumeric}
use Rattle.unicode_ident.specs.Ident.{is_xid_start, is_xid_continue}

-- the code points of a text, or of the rest of it
abbrev pub Text : Type 0
Text = List ℕ

abbrev pub is_digit : ℕ → Bool
is_digit c = nat_le 48 c && nat_le c 57

-- the digits of a base that is at most ten
abbrev pub is_digit_below : ℕ → ℕ → Bool
is_digit_below base c = nat_le 48 c && nat_lt c (48 + base)

abbrev pub is_hexadecimal : ℕ → Bool
is_hexadecimal c = is_digit c || ((nat_le 97 c && nat_le c 102) || (nat_le 65 c && nat_le c 70))

-- what a digit counts, in either case of the letters
abbrev pub digit_value : ℕ → ℕ
digit_value c = if nat_le c 57 then c - 48 else (if nat_le c 70 then c - 55 else c - 87)

-- a control character that may not stand outside texts: a tab may
abbrev pub is_control : ℕ → Bool
is_control c = (nat_lt c 32 && not (c == 9)) || (nat_le 127 c && nat_le c 159)

abbrev pub is_quote : ℕ → Bool
is_quote c = (c == 39) || (c == 34)

-- "Identifiers and keywords": the characters of XID_Start and `_`, and those of XID_Continue; in ASCII these are letters,
-- `_` and then digits too
abbrev pub begins_name : ℕ → Bool
begins_name c = (c == 95) || (if nat_lt c 128 then is_ascii_alphabetic c else is_xid_start c)

abbrev pub continues_name : ℕ → Bool
continues_name c = if nat_lt c 128 then is_ascii_alphanumeric c || (c == 95) else is_xid_continue c

-- how many characters the line end has with which a text begins, or 0: a line feed, or a carriage return and one
abbrev pub line_end : Text → ℕ
line_end [] = 0
line_end (c ∷ []) = if c == 10 then 1 else 0
line_end (c ∷ d ∷ z) = if c == 10 then 1 else (if (c == 13) && (d == 10) then 2 else 0)

-- the characters before the first line end
abbrev pub to_line_end : Text → Text
to_line_end [] = []
to_line_end (c ∷ z) = if line_end (c ∷ z) == 0 then c ∷ to_line_end z else []

-- whether a text begins with a front
abbrev pub begins_with : Text → Text → Bool
begins_with [] z = true
begins_with (c ∷ front) [] = false
begins_with (c ∷ front) (d ∷ z) = (c == d) && begins_with front z

-- how long the longest front of digits is, with single underscores between them
abbrev pub grouped_further : (ℕ → Bool) → Text → ℕ
grouped_further digit [] = 0
grouped_further digit (c ∷ []) = if digit c then 1 else 0
grouped_further digit (c ∷ d ∷ z) =
    if digit c then suc (grouped_further digit (d ∷ z)) else (if (c == 95) && digit d then suc (suc (grouped_further digit z)) else 0)

abbrev pub grouped : (ℕ → Bool) → Text → ℕ
grouped digit [] = 0
grouped digit (c ∷ z) = if digit c then suc (grouped_further digit z) else 0

-- what digits and underscores count in a base, where some stood before them
abbrev pub value_from : ℕ → ℕ → Text → ℕ
value_from base n [] = n
value_from base n (c ∷ z) = value_from base (if c == 95 then n else n * base + digit_value c) z
