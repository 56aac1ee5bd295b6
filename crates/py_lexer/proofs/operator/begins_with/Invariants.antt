use Rattle.std.proofs.Common.{◌≡◌, length}
use Rattle.py_tokens.specs.Characters.{begins_with}
use Rattle.py_lexer.proofs.operator.begins_with.Given as goal

abbrev pub invariant-loop-wanted : goal.invariant-loop-wanted
invariant-loop-wanted l = begins_with l.front l.rest ≡ begins_with l.spelling l.text

abbrev pub decreases-loop-wanted : goal.decreases-loop-wanted
decreases-loop-wanted l = length l.front
