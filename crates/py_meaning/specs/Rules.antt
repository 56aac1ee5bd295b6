-- What a module must keep beyond its grammar: it reads no name that may be unset.
use Rattle.std.specs.Prelude.{List, [], ◌∷◌, Bool, true, false, ◌&&◌, ◌||◌}
use Rattle.py_meaning.specs.Name.{Name, same_name}
use Rattle.py_meaning.specs.Tree.{Expr, EName, ENumber, EUnary, EBinary, Condition, CCompare, Stmt, SAssign, SPrint, SIf, SWhile, Body, none, more}

abbrev pub has_name : List Name → Name → Bool
has_name [] x = false
has_name (y ∷ names) x = same_name y x || has_name names x

-- whether all that is read is among these names
abbrev pub reads_only : List Name → Expr → Bool
reads_only names (EName p x) = has_name names x
reads_only names (ENumber p v) = true
reads_only names (EUnary p o e) = reads_only names e
reads_only names (EBinary p o a b) = reads_only names a && reads_only names b

abbrev pub condition_reads_only : List Name → Condition → Bool
condition_reads_only names (CCompare p o a b) = reads_only names a && reads_only names b

abbrev mutual
  pub stmt_reads_only : List Name → Stmt → Bool
  stmt_reads_only names (SAssign p x e) = reads_only names e
  stmt_reads_only names (SPrint p c e) = reads_only names e
  stmt_reads_only names (SIf p c body other) = condition_reads_only names c && (body_reads_only names body && body_reads_only names other)
  stmt_reads_only names (SWhile p c body) = condition_reads_only names c && body_reads_only names body

  pub body_reads_only : List Name → Body → Bool
  body_reads_only names none = true
  body_reads_only names (more s body) = stmt_reads_only names s && body_reads_only names body

-- the names that are sure to be bound after a statement of a module: an assignment inside a block may not have run
abbrev pub sure_after : Stmt → List Name → List Name
sure_after (SAssign p x e) names = x ∷ names
sure_after (SPrint p c e) names = names
sure_after (SIf p c body other) names = names
sure_after (SWhile p c body) names = names

-- whether each read of a module stands after an assignment to its name that is a statement of the module itself, where
-- these names have been assigned to already
abbrev pub are_reads_sure : List Name → Body → Bool
are_reads_sure names none = true
are_reads_sure names (more s body) = stmt_reads_only names s && are_reads_sure (sure_after s names) body
