use Rattle.std.proofs.Common.{◌≡◌}
use Rattle.py_syntax.specs.Build.{start_of}
use Rattle.py_ast.specs.PlainExprs.{plain_expr}
use Rattle.parser_targets.proofs.targets.start_of.Given as goal

-- the first token of the whole is that of what is left
abbrev pub invariant-loop-turn : goal.invariant-loop-turn
invariant-loop-turn l = start_of (plain_expr l.inner) ≡ start_of (plain_expr l.fn.expr)
