use Rattle.std.proofs.Common.{arith}
use Rattle.py_lexer.proofs.NumberLemmas.{value-too_large}
use Rattle.py_lexer.proofs.number.value.Goals as goal

pub returns-in-None : goal.returns-in-None
returns-in-None c =
    value-too_large c.args.base c.args.greatest c.loop-c.value c.loop-c.c-index c.c-item.result c.args.text.now c.requires (omega arith) c.c-item.is c.loop-c.invariant.rest c.in-None.ensures
