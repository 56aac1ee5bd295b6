use Rattle.std.proofs.Common.{refl}
use Rattle.std.specs.Option.{option_map}
use Rattle.py_table.specs.PlainTokens.{plain_tokens}
use Rattle.py_outside.specs.PlainConstructs.{plain_construct}
use Rattle.py_outside.specs.PlainValues.{plain_numbered}
use Rattle.py_outside.specs.Ways.{plain_best}
use Rattle.py_outside.proofs.Ways.{none_first, next_one, last_one}
use Rattle.py_outside.proofs.search.find_outside.Goals as goal

pub loop-turn-init : goal.loop-turn-init
loop-turn-init c = none_first (plain_tokens c.args.names.now c.args.tokens.now) c.args.first 0 refl

pub loop-turn-preserved : goal.loop-turn-preserved
loop-turn-preserved c =
    next_one (plain_tokens c.args.names.now c.args.tokens.now) c.args.first (plain_best c.loop-turn.best) _ (plain_construct c.loop-turn.construct) (option_map plain_numbered c.in_ok-head_of.field-0) _ c.loop-turn.invariant
    (c.in_ok-head_of.ensures (plain_tokens c.args.names.now c.args.tokens.now) c.in_ok-way.ensures.way c.in_ok-way.ensures.ended) c.better-best.ensures c.in-Some.ensures

pub returns-in-None : goal.returns-in-None
returns-in-None c =
    last_one (plain_tokens c.args.names.now c.args.tokens.now) c.args.first (plain_best c.loop-turn.best) _ (plain_construct c.loop-turn.construct) (option_map plain_numbered c.in_ok-head_of.field-0) _ c.loop-turn.invariant
    (c.in_ok-head_of.ensures (plain_tokens c.args.names.now c.args.tokens.now) c.in_ok-way.ensures.way c.in_ok-way.ensures.ended) c.better-best.ensures c.in-None.ensures c.place_of.ensures
