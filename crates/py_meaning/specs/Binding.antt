-- The names that a module binds (Python reference, "Naming and binding").
use Rattle.std.specs.Prelude.{List, [], ◌∷◌, ◌++◌, if◌then◌else◌}
use Rattle.py_meaning.specs.Name.{Name}
use Rattle.py_meaning.specs.Tree.{Stmt, SAssign, SPrint, SIf, SWhile, Body, none, more}
use Rattle.py_meaning.specs.Rules.{has_name}

-- the names that assignments have for targets, in the order of the text; a block makes no scope
abbrev mutual
  pub targets_of : Stmt → List Name
  targets_of (SAssign p x e) = x ∷ []
  targets_of (SPrint p c e) = []
  targets_of (SIf p c body other) = targets body ++ targets other
  targets_of (SWhile p c body) = targets body

  pub targets : Body → List Name
  targets none = []
  targets (more s body) = targets_of s ++ targets body

-- those of some names that are not among these, each once
abbrev pub once : List Name → List Name → List Name
once seen [] = []
once seen (x ∷ names) = if has_name seen x then once seen names else x ∷ once (x ∷ seen) names

-- the names that a body binds, each once, in the order of their first bindings
abbrev pub names_bound : Body → List Name
names_bound body = once [] (targets body)
