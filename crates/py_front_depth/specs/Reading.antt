-- What the code's stacks of asks and aims come to.
use Rattle.std.specs.Prelude.{◌≡◌, Bool, true, false}
use Rattle.py_demands.specs.Aims as aims
use Rattle.py_demands.specs.Readings as readings
use Rattle.py_front_depth.specs.PlainAsks.{asks_of, aims_of}
use Rattle.py_front_depth.specs.declared.readings.Reading.{Reading}
use Rattle.py_front_depth.specs.declared.readings.Reading.TheVariants as reading

abbrev pub is_never_so : aims.Aim → Bool
is_never_so aims.Never = true
is_never_so aim = false

abbrev pub plain_reading : Reading → readings.Reading
plain_reading (reading.Settled asks) = readings.Settled (asks_of asks.items)
plain_reading (reading.Among these) = readings.Among (aims_of these.items)

-- nothing that can't be a target is asked
abbrev pub IsClear : readings.Reading → Type 0
IsClear (readings.Settled asks) = Unit {0}
IsClear (readings.Among these) = readings.has_never these ≡ false
