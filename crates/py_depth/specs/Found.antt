-- What is found out of tokens without a tree.
use Rattle.std.specs.Prelude.{◌≡◌, ℕ, List, ◌++◌}
use Rattle.py_syntax.specs.Token.{Token}
use Rattle.py_syntax.specs.Tree.{Body}
use Rattle.py_syntax.specs.Grammar.{IsModule}
use Rattle.py_syntax.specs.Laws.{IsLongestFront}
use Rattle.py_syntax.specs.Heights.{IsShallow}
use Rattle.py_lexer.specs.PlainTokens.{plain_place}
use Rattle.py_table.specs.PlainTokens.{plain_tokens}
use Rattle.py_nesting.specs.TooDeep.{IsFirstTooDeep}
use Rattle.py_depth.specs.declared.depth.Depth.{Depth}
use Rattle.py_depth.specs.declared.depth.Depth.TheVariants as depth

-- the longest front of these tokens has this rest behind it
abbrev pub IsRest : List Token → List Token → Type 0
IsRest ts rest = (front : List Token) × (ts ≡ front ++ rest) × IsLongestFront front rest

abbrev pub IsFound : List (List ℕ) → List Token → Depth → Type 0
IsFound texts ts depth.Shallow = (body : Body) × IsModule body ts × IsShallow body
IsFound texts ts (depth.TooDeep p) = (body : Body) × IsModule body ts × IsFirstTooDeep (plain_place p) body
IsFound texts ts (depth.Stuck rest) = IsRest ts (plain_tokens texts rest.now)
