use Rattle.std.proofs.Common.{◌∙◌, ap, sym}
use Rattle.std.specs.Option.{option_map}
use Rattle.py_front_depth.specs.Reading.{plain_reading}
use Rattle.py_front_depth.proofs.ReadBack.{read_begun, read_more, none_more_read}
use Rattle.py_front_depth.proofs.readings.read.Goals.{in-Some+in_ok-reading-in-Some, in-None}
use Rattle.py_front_depth.proofs.readings.read.Goals as goal

pub loop-i-init : goal.loop-i-init
loop-i-init c = read_begun _ _ c.args.symbols.now c.new-asks.ensures.items c.in_ok-push.ensures.items

pub loop-i-preserved : goal.loop-i-preserved
loop-i-preserved c = elim c.match-reading.branch [
  | in-Some+in_ok-reading-in-Some w ↦ rw w.reading-is (read_more c.args.symbols.now c.loop-i.i _ _ _ c.loop-i-test.true (sym (ap (option_map plain_reading) w.in-Some.is) ∙ c.loop-i.invariant) w.in_ok-reading-in-Some.ensures)
  | in-None w ↦ rw w.reading-is (none_more_read c.args.symbols.now c.loop-i.i c.loop-i-test.true (sym (ap (option_map plain_reading) w.in-None.is) ∙ c.loop-i.invariant))
]
