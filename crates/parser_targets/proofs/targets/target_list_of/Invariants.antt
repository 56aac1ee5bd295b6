use Rattle.std.proofs.Common.{◌≡◌, map, reverse}
use Rattle.py_syntax.specs.Build.{target_list_of}
use Rattle.py_ast.specs.PlainExprs.{plain_exprs}
use Rattle.py_ast.specs.PlainTrees.{plain_target}
use Rattle.parser_targets.specs.PlainTargets.{followed}
use Rattle.parser_targets.proofs.targets.target_list_of.Given as goal

-- the targets found are those of the last expressions
abbrev pub invariant-loop-turn : goal.invariant-loop-turn
invariant-loop-turn l = followed (target_list_of (plain_exprs l.rest)) (map plain_target (reverse l.targets.items)) ≡ target_list_of (plain_exprs l.fn.exprs)
