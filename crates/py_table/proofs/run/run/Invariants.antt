use Rattle.py_table.specs.PlainTokens.{plain_tokens}
use Rattle.py_table.specs.Steps.{stack_of, RunsOn}
use Rattle.py_syntax.specs.Laws.{start}
use Rattle.py_table.proofs.run.run.Given as goal

-- what is left of the run is the run from here
abbrev pub invariant-loop-turn : goal.invariant-loop-turn
invariant-loop-turn g l =
    g.V.Values.stands l.names l.initial.values start
    → RunsOn l._turn (plain_tokens l.names l.tokens) (g.V.Values.stands l.names l.values) (stack_of l.symbols.items) (plain_tokens l.names l.rest)
