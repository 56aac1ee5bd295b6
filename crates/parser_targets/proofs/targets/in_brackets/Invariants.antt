use Rattle.std.proofs.Common.{◌≡◌, Some}
use Rattle.py_ast.specs.PlainTrees.{plain_targets}
use Rattle.parser_targets.specs.PlainTargets.{all_around}
use Rattle.parser_targets.proofs.targets.in_brackets.Given as goal

-- what is left around what has been put in brackets
abbrev pub invariant-loop-turn : goal.invariant-loop-turn
invariant-loop-turn l = all_around l.left.items (Some (plain_targets l.inner)) ≡ all_around l.fn.brackets.items (Some (plain_targets l.fn.targets))
