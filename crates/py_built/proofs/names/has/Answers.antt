use Rattle.std.proofs.Common.{◌∙◌}
use Rattle.py_built.proofs.NamesKept.{any_is_has}
use Rattle.py_built.proofs.names.has.Goals as goal

pub returns : goal.returns
returns c = c.contains.ensures ∙ any_is_has c.args.names.now.keys c.args.name.now
