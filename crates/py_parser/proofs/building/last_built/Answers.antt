use Rattle.parser_parts.proofs.Stacks.{nothing_last}
use Rattle.py_parser.proofs.building.last_built.Goals as goal

pub returns-in-None : goal.returns-in-None
returns-in-None c texts = nothing_last texts c.args.parts.now c.in-None.ensures.cases
