-- Blocks, piece by piece.
use Rattle.py_meaning.specs.Tree.{Stmt}
use Rattle.cpp_meaning.specs.Tree.{Block, none, more}
use Rattle.cpp_emit.specs.Emit.{emit_stmt}

-- one block behind another
abbrev pub followed_by : Block → Block → Block
followed_by none b = b
followed_by (more s rest) b = more s (followed_by rest b)

-- what is emitted for one statement
abbrev pub statements_of : Stmt → Block
statements_of s = emit_stmt s none
