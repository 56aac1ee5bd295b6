use Rattle.py_table.specs.PlainTokens.{plain_tokens}
use Rattle.py_outside.specs.PlainValues.{plain_value}
use Rattle.py_outside.specs.Steps.{stack_of}
use Rattle.py_outside.specs.Ways.{OnAllWays}
use Rattle.py_outside.proofs.search.run_own.Given as goal

-- the run has come here
abbrev pub invariant-loop-turn : goal.invariant-loop-turn
invariant-loop-turn l = OnAllWays (plain_tokens l.names l.tokens) (stack_of l.symbols.items) (plain_value l.value) (plain_tokens l.names l.rest)
