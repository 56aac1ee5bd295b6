use Rattle.std.proofs.Common.{◌∙◌, sym}
use Rattle.py_built.proofs.VariableNames.{is_variable_by}
use Rattle.py_built.proofs.names.is_variable.Goals as goal

pub returns : goal.returns
returns c =
    c.ne.ensures
    ∙ is_variable_by c.args.text.now c.is_empty.result c.eq.result c.is_empty.ensures c.if-is_empty.false (sym c.is_ascii.ensures ∙ c.if-not-is_ascii.false) c.eq.ensures c.if-eq.false
