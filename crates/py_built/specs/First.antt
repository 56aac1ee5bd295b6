-- The earlier of two places, where each may be there or not.
use Rattle.std.specs.Prelude.{Option, Some, None}
use Rattle.py_tokens.specs.Token.{Place}
use Rattle.py_meaning.specs.Built.{earlier}

abbrev pub earliest : Option Place → Option Place → Option Place
earliest None o = o
earliest (Some p) o = Some (earlier p o)
