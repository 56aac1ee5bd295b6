use Rattle.py_table.specs.PlainTokens.{plain_tokens}
use Rattle.py_outside.proofs.Ways.{at_start, further}
use Rattle.py_outside.proofs.search.run_own.Goals as goal

pub loop-turn-init : goal.loop-turn-init
loop-turn-init c = at_start (plain_tokens c.args.names.now c.args.tokens.now) _ _ c.in_ok-symbols.ensures c.new-value.ensures

pub loop-turn-preserved : goal.loop-turn-preserved
loop-turn-preserved c = further (plain_tokens c.args.names.now c.args.tokens.now) _ _ _ _ _ _ c.loop-turn.invariant (rw c.in-Goes.is at c.in_ok-more.ensures)
