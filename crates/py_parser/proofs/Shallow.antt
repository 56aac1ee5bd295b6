-- A tree of tokens that were recognised is the tree that was found.
use Rattle.std.proofs.Common.{List, subst}
use Rattle.py_syntax.specs.Token.{Token}
use Rattle.py_syntax.specs.Tree.{Body}
use Rattle.py_syntax.specs.Grammar.{IsModule}
use Rattle.py_syntax.specs.Heights.{IsShallow}
use Rattle.py_syntax.proofs.TableLaws.{one_tree}
use Rattle.py_recogniser.specs.Recognised.{IsRecognised}

pub shallow : (ts : List Token) → IsRecognised ts → (tree : Body) → IsModule tree ts → IsShallow tree
shallow ts m tree spelt_so = subst IsShallow (one_tree m.0 tree ts m.1 spelt_so) m.2
