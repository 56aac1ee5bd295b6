use Rattle.std.specs.Prelude.{List}
use Rattle.py_syntax.specs.Token.{Token}
use Rattle.py_constructs.specs.OneStep.{OnWay}
use Rattle.py_table.specs.PlainTokens.{plain_tokens}
use Rattle.py_outside.specs.PlainConstructs.{plain_construct}
use Rattle.py_outside.specs.PlainValues.{plain_value}
use Rattle.py_outside.specs.Steps.{stack_of}
use Rattle.py_outside.proofs.search.run_with.Given as goal

-- the run has come here
abbrev pub invariant-loop-turn : goal.invariant-loop-turn
invariant-loop-turn l =
    (ts : List Token) → OnWay (plain_construct l.construct) ts (stack_of l.initial.symbols.items) (plain_value l.initial.value) (plain_tokens l.names l.initial.rest)
    → OnWay (plain_construct l.construct) ts (stack_of l.symbols.items) (plain_value l.value) (plain_tokens l.names l.rest)
