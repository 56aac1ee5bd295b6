use Rattle.py_table.specs.PlainTokens.{plain_tokens}
use Rattle.py_parser.proofs.PartsStand.{starts_empty, built_module}
use Rattle.py_parser.proofs.building.build.Goals as goal

pub returns-in-Done : goal.returns-in-Done
returns-in-Done c =
    built_module (plain_tokens c.args.names.now c.args.tokens.now) _ _ _ (c.in_ok-body-in-Done.ensures c.args.names.now)
    (rw c.in-Done.is at (c.in_ok-run.ensures (starts_empty c.args.names.now _ c.new.ensures.items)))
