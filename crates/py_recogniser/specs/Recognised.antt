-- What the recogniser finds out.
use Rattle.std.specs.Prelude.{List}
use Rattle.py_syntax.specs.Token.{Token}
use Rattle.py_syntax.specs.Tree.{Body}
use Rattle.py_syntax.specs.Grammar.{IsModule}
use Rattle.py_syntax.specs.Heights.{IsShallow}

-- these tokens are a module, of whose tree each node has 100 others above it at most
abbrev pub IsRecognised : List Token → Type 0
IsRecognised ts = (body : Body) × IsModule body ts × IsShallow body
