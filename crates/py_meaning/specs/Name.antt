-- Names of the source (Python reference, "Identifiers and keywords"). A name is its text for now: nothing but printing
-- looks into it, and all else asks only whether two names are one.
use Rattle.std.specs.Prelude.{ℕ, List, Bool}
use Rattle.std.specs.Str.{bytes_eq}

abbrev pub Name : Type 0
Name = List ℕ

abbrev pub text_of : Name → List ℕ
text_of x = x

-- whether two names are one
abbrev pub same_name : Name → Name → Bool
same_name x y = bytes_eq x y
