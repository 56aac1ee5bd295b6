use Rattle.std.proofs.Common.{sym, ap, ◌∙◌}
use Rattle.std.specs.Option.{option_copied}
use Rattle.py_lexer.specs.PlainTokens.{plain_place}
use Rattle.py_ast.specs.PlainExprs.{plain_expr}
use Rattle.py_ast.specs.PlainTrees.{plain_target_lists, plain_stmt, plain_stmt-Assign}
use Rattle.py_meaning.specs.Built.{assigned}
use Rattle.py_built.specs.Names.{texts}
use Rattle.py_built.proofs.UnbuiltAlike.{bound_alike}
use Rattle.py_built.proofs.unbuilt.bind_assigned.Goals as goal

pub returns-in_ok-bind-in-Some : goal.returns-in_ok-bind-in-Some
returns-in_ok-bind-in-Some c =
    let targets = c.in-Assign.targets in
    bound_alike c.args.names.now (texts c.args.sure.now) (texts c.bind.new.names) (plain_stmt c.args.stmt.now) (plain_place c.in-Assign.field-0) (plain_target_lists targets) (plain_expr c.in-Assign.field-2) c.in-Some.name.now
    (ap plain_stmt c.in-Assign.is ∙ plain_stmt-Assign c.in-Assign.field-0 targets c.in-Assign.field-2)
    (sym (ap option_copied c.in-Some.is) ∙ c.assigned.ensures ∙ ap (λ ts. assigned c.args.names.now (plain_target_lists ts)) c.as_slice.ensures)
    c.in_ok-bind-in-Some.ensures
