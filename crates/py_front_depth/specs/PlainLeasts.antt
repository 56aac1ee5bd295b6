-- What the code's tables ask at least, in plain words.
use Rattle.std.specs.Prelude.{List, map}
use Rattle.py_demands.specs.Least as at_least
use Rattle.py_front_depth.specs.PlainRoles.{plain_role}
use Rattle.py_front_depth.specs.declared.leasts.Least.{Least}
use Rattle.py_front_depth.specs.declared.leasts.Least.TheVariants as least

abbrev pub plain_least : Least → at_least.Least
plain_least (least.As role) = at_least.As (plain_role role)
plain_least least.Opened = at_least.Opened

abbrev pub plain_leasts : List Least → List at_least.Least
plain_leasts these = map plain_least these
