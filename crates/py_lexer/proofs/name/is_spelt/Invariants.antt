use Rattle.std.proofs.Common.{◌≡◌, length, bytes_eq}
use Rattle.py_lexer.proofs.name.is_spelt.Given as goal

abbrev pub invariant-loop-first : goal.invariant-loop-first
invariant-loop-first l = bytes_eq l.wanted l.rest ≡ bytes_eq l.spelling l.word

abbrev pub decreases-loop-first : goal.decreases-loop-first
decreases-loop-first l = length l.wanted
