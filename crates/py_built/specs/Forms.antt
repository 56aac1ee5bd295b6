-- What some parts of trees are.
use Rattle.std.specs.Prelude.{ℕ, List, [], ◌∷◌, Option, Some, None}
use Rattle.py_syntax.specs.Tree as whole
use Rattle.py_meaning.specs.Tree.{Body, more}
use Rattle.py_built.specs.declared.tree.Stmt.{Stmt}
use Rattle.py_built.specs.PlainTrees.{plain_stmt}

-- the name that an expression is
abbrev pub name_of : whole.Expr → Option ℕ
name_of (whole.EName p x) = Some x
name_of e = None

-- a body, behind these statements
abbrev pub behind : List Stmt → Body → Body
behind [] body = body
behind (s ∷ built) body = more (plain_stmt s) (behind built body)
