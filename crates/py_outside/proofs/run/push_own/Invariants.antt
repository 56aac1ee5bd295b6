use Rattle.std.proofs.Common.{◌≡◌, ◌++◌, drop}
use Rattle.py_outside.specs.PlainSymbols.{plain_symbols}
use Rattle.py_outside.specs.Steps.{stack_of}
use Rattle.py_outside.proofs.run.push_own.Given as goal

abbrev pub invariant-loop-i : goal.invariant-loop-i
invariant-loop-i l = stack_of l.symbols.items ≡ plain_symbols (drop l.i l.row) ++ stack_of l.initial.symbols.items
