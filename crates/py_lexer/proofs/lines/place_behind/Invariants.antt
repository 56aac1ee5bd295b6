use Rattle.std.proofs.Common.{◌≡◌, length}
use Rattle.py_tokens.specs.Token.{place_after}
use Rattle.py_lexer.specs.PlainTokens.{plain_place}
use Rattle.py_lexer.proofs.lines.place_behind.Given as goal

abbrev pub invariant-loop-rest : goal.invariant-loop-rest
invariant-loop-rest l = place_after (plain_place l.behind) l.rest ≡ place_after (plain_place l.initial.behind) l.initial.rest

abbrev pub decreases-loop-rest : goal.decreases-loop-rest
decreases-loop-rest l = length l.rest
