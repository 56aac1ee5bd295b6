use Rattle.py_table.specs.PlainTokens.{plain_tokens}
use Rattle.py_front_depth.specs.Reaching.{StandsHere}
use Rattle.py_front_depth.proofs.reach.reach.Given as goal

-- the run stands here
abbrev pub invariant-loop-turn : goal.invariant-loop-turn
invariant-loop-turn l = StandsHere (plain_tokens l.names l.front) (plain_tokens l.names l.rest) l.symbols.items l.nest
