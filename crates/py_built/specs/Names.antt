-- A set of names, as the list of their texts.
use Rattle.std.specs.Prelude.{◌≡◌, List, [], ◌∷◌, ◌++◌, if◌then◌else◌, map, string_bytes, String}
use Rattle.std.specs.HashSet.{HashSet}
use Rattle.py_meaning.specs.Name.{Name}
use Rattle.py_meaning.specs.Rules.{has_name}

-- the names of a set, in the order in which they came
abbrev pub texts : {Y S : Type 0} → HashSet (String Y) S → List Name
texts s = map string_bytes s.keys

-- a name comes last, unless it is there
abbrev pub with_name : List Name → Name → List Name
with_name names x = if has_name names x then names else names ++ x ∷ []

-- lists that have the same names
abbrev pub Alike : List Name → List Name → Type 0
Alike names others = (x : Name) → has_name names x ≡ has_name others x
