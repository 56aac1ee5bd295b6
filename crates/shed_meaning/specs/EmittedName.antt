-- The names of emitted C++. A Python name is written so that no two become one, that nothing clashes with a name of the
-- support library, and that no identifier has two underscores in a row, which C++ reserves.
use Rattle.std.specs.Prelude.{ℕ, List, [], ◌∷◌, ◌++◌, Bool, true, ◌==◌, ◌&&◌, if◌then◌else◌, codes}
use Rattle.std.specs.Fmt.{decimal}
use Rattle.py_meaning.specs.Name.{Name, text_of}
use Rattle.cpp_meaning.specs.Tree.{Identifier}

-- one character: `Z` is doubled, and a `_` that stands right after a written `_` is `Z_`
abbrev pub escaped : Bool → ℕ → List ℕ
escaped after c = if c == 90 then codes "ZZ" else (if (c == 95) && after then codes "Z_" else c ∷ [])

-- the characters of a name, where `after` says whether a `_` is the last character written
abbrev pub encoded : Bool → List ℕ → List ℕ
encoded after [] = []
encoded after (c ∷ x) = escaped after c ++ encoded (c == 95) x

-- the prefix's own `_` counts as written
abbrev pub global_name : ℕ → Name → Identifier
global_name owner x = codes "g_" ++ (decimal owner ++ (codes "_" ++ encoded true (text_of x)))

abbrev pub body_name : Name → Identifier
body_name x = codes "body_" ++ encoded true (text_of x)

abbrev pub temporary_name : ℕ → Identifier
temporary_name n = codes "t_" ++ decimal n
