use Rattle.py_constructs.specs.Construct.{construct_order}
use Rattle.py_constructs.specs.Search.{IsBest}
use Rattle.py_table.specs.PlainTokens.{plain_tokens}
use Rattle.py_outside.specs.PlainConstructs.{plain_construct}
use Rattle.py_outside.specs.Ways.{plain_best}
use Rattle.py_outside.proofs.search.find_outside.Given as goal

-- of the constructs before this one
abbrev pub invariant-loop-turn : goal.invariant-loop-turn
invariant-loop-turn l = IsBest (construct_order (plain_construct l.construct)) (plain_tokens l.names l.tokens) l.first (plain_best l.best)
