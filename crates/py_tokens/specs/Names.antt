-- The names among tokens, in their order.
use Rattle.std.specs.Prelude.{ℕ, List, [], ◌∷◌}
use Rattle.py_tokens.specs.Token.{Kind, TName, Token}

abbrev pub name_before : Kind → List (List ℕ) → List (List ℕ)
name_before (TName name) names = name ∷ names
name_before kind names = names

abbrev pub names_in : List Token → List (List ℕ)
names_in [] = []
names_in (t ∷ ts) = name_before t.kind (names_in ts)
