use Rattle.std.proofs.Common.{◌≡◌}
use Rattle.py_syntax.specs.Build.{targets_of}
use Rattle.py_ast.specs.PlainExprs.{plain_expr}
use Rattle.parser_targets.specs.PlainTargets.{all_around}
use Rattle.parser_targets.proofs.targets.targets_of.Given as goal

-- the brackets stand around what is left
abbrev pub invariant-loop-turn : goal.invariant-loop-turn
invariant-loop-turn l = all_around l.brackets.items (targets_of (plain_expr l.inner)) ≡ targets_of (plain_expr l.fn.expr)
