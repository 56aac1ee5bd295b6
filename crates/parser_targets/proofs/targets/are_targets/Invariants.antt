use Rattle.std.proofs.Common.{◌≡◌}
use Rattle.py_syntax.specs.Build.{is_some, targets_of}
use Rattle.py_ast.specs.PlainExprs.{plain_expr}
use Rattle.parser_targets.proofs.targets.are_targets.Given as goal

-- it depends on what is left
abbrev pub invariant-loop-turn : goal.invariant-loop-turn
invariant-loop-turn l = is_some (targets_of (plain_expr l.inner)) ≡ is_some (targets_of (plain_expr l.fn.expr))
