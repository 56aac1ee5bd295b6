use Rattle.std.proofs.Common.{◌≡◌, drop}
use Rattle.py_syntax.specs.Build.{is_some, target_list_of}
use Rattle.py_ast.specs.PlainExprs.{plain_exprs}
use Rattle.parser_targets.proofs.targets.are_all_targets.Given as goal

-- it depends on the expressions that are left
abbrev pub invariant-loop-expr : goal.invariant-loop-expr
invariant-loop-expr l = is_some (target_list_of (plain_exprs (drop l.expr-index l.exprs))) ≡ is_some (target_list_of (plain_exprs l.exprs))
