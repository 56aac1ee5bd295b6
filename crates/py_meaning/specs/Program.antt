-- A program: its modules, the main one first, and the width of its whole numbers.
use Rattle.std.specs.Prelude.{ℕ, Bool, ◌==◌, ◌&&◌}
use Rattle.runs.specs.Number.{Width}
use Rattle.py_meaning.specs.Name.{Name, same_name}
use Rattle.py_meaning.specs.Tree.{Body}

pub record Module : Type 0 where
  pub name : Name
  pub body : Body

pub record Program : Type 0 where
  pub main : Module
  pub width : Width

-- a global variable: the number of its module, and its name
pub data Global : Type 0 where
  In : (owner : ℕ) → (name : Name) → Global

abbrev pub same_global : Global → Global → Bool
same_global (In m x) (In n y) = (m == n) && same_name x y
