-- What the code asks at least, in plain words. Its stacks have the last at the end.
use Rattle.std.specs.Prelude.{List, map, reverse}
use Rattle.py_demands.specs.Least as least
use Rattle.py_demands.specs.Aims as aims
use Rattle.py_front_depth.specs.declared.ask.Ask.{Ask}
use Rattle.py_front_depth.specs.declared.ask.Ask.TheVariants as ask
use Rattle.py_front_depth.specs.declared.aim.Aim.{Aim}
use Rattle.py_front_depth.specs.declared.aim.Aim.TheVariants as aim
use Rattle.py_front_depth.specs.declared.aim.Way.{Way}
use Rattle.py_front_depth.specs.declared.aim.Way.TheVariants as way

abbrev pub plain_ask : Ask → least.Ask
plain_ask ask.NoNode = least.NoNode
plain_ask (ask.AtLeast n) = least.AtLeast n
plain_ask (ask.WithinAtLeast n) = least.WithinAtLeast n
plain_ask (ask.OpenAtLeast n) = least.OpenAtLeast n

abbrev pub plain_aim : Aim → aims.Aim
plain_aim (aim.Simply q) = aims.Simply (plain_ask q)
plain_aim (aim.Targets n) = aims.Targets n
plain_aim (aim.Target n) = aims.Target n
plain_aim (aim.MayTarget n) = aims.MayTarget n
plain_aim aim.Never = aims.Never

abbrev pub plain_way : Way → aims.Way
plain_way way.Keeps = aims.Keeps
plain_way way.Extends = aims.Extends
plain_way way.Makes = aims.Makes
plain_way way.Differs = aims.Differs

-- the last first
unfoldable pub asks_of : List Ask → List least.Ask
asks_of asks = map plain_ask (reverse asks)

unfoldable pub aims_of : List Aim → List aims.Aim
aims_of these = map plain_aim (reverse these)
