use Rattle.std.proofs.Common.{◌≡◌, length}
use Rattle.py_constructs.specs.Values.{are_open}
use Rattle.py_outside.specs.PlainValues.{items_of}
use Rattle.py_outside.proofs.value.are_open.Given as goal

-- what is behind makes no difference
abbrev pub invariant-loop-last : goal.invariant-loop-last
invariant-loop-last l = are_open (items_of l.rest) ≡ are_open (items_of l.items)

abbrev pub decreases-loop-last : goal.decreases-loop-last
decreases-loop-last l = length l.rest
