use Rattle.std.proofs.Common.{◌≡◌, ◌++◌, drop, map}
use Rattle.py_constructs.specs.Table.{profile_symbol}
use Rattle.py_table.specs.PlainSymbols as profile
use Rattle.py_outside.specs.Steps.{stack_of}
use Rattle.py_outside.proofs.run.push_profile.Given as goal

abbrev pub invariant-loop-i : goal.invariant-loop-i
invariant-loop-i l = stack_of l.symbols.items ≡ map profile_symbol (profile.plain_symbols (drop l.i l.row)) ++ stack_of l.initial.symbols.items
