-- Names as the code keeps and writes them.
use Rattle.std.specs.Prelude.{ℕ, List, [], ◌∷◌, Bool, ◌==◌, ◌&&◌, if◌then◌else◌, codes}
use Rattle.std.specs.Char.{encode_utf8}
use Rattle.py_meaning.specs.Name.{Name}
use Rattle.py_built.specs.Names.{with_name}

-- with some names more
abbrev pub with_names : List Name → List Name → List Name
with_names names [] = names
with_names names (x ∷ more) = with_names (with_name names x) more

-- what is written for a character of a name
abbrev pub escaped_character : Bool → ℕ → List ℕ
escaped_character after c = if c == 90 then codes "ZZ" else (if (c == 95) && after then codes "Z_" else encode_utf8 c)
