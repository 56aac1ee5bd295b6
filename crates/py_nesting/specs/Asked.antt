-- What guards ask of the last part, by its entry.
use Rattle.std.specs.Prelude.{Bool, true, false, List, ◌∷◌}
use Rattle.py_nesting.specs.Forms.{NameForm, is_target, are_targets}
use Rattle.py_nesting.specs.Shapes.{Entry, entry, ExprShape}

abbrev pub targets_last : List Entry → Bool
targets_last (entry (ExprShape f n) p ∷ es) = are_targets f
targets_last es = false

abbrev pub target_last : List Entry → Bool
target_last (entry (ExprShape f n) p ∷ es) = is_target f
target_last es = false

abbrev pub name_last : List Entry → Bool
name_last (entry (ExprShape NameForm n) p ∷ es) = true
name_last es = false
