use Rattle.std.proofs.Common.{◌≡◌, take}
use Rattle.std.specs.Option.{option_map}
use Rattle.py_demands.specs.Readings as readings
use Rattle.py_table.specs.Steps.{stack_of}
use Rattle.py_front_depth.specs.Reading.{plain_reading}
use Rattle.py_front_depth.proofs.readings.read.Given as goal

-- how the first symbols are read, which lie deepest
abbrev pub invariant-loop-i : goal.invariant-loop-i
invariant-loop-i l = option_map plain_reading l.reading ≡ readings.reading (stack_of (take l.i l.symbols))
