use Rattle.std.proofs.Common.{sym, subst}
use Rattle.py_constructs.specs.Values.{Numbered}
use Rattle.std.proofs.Common.{Option}
use Rattle.py_constructs.specs.Reached.{IsHead}
use Rattle.py_table.specs.PlainTokens.{plain_tokens}
use Rattle.py_outside.specs.PlainConstructs.{plain_construct}
use Rattle.py_outside.specs.PlainValues.{plain_value}
use Rattle.py_outside.specs.Steps.{stack_of}
use Rattle.py_outside.proofs.Ways.{head_there}
use Rattle.py_outside.proofs.search.head_of.Goals as goal

pub returns-then-ends_with : goal.returns-then-ends_with
returns-then-ends_with c = λ ts w h.
    subst (λ (o : Option Numbered). IsHead (plain_construct c.args.construct) ts c.args.first o) (sym c.head_at.ensures)
    (head_there (plain_construct c.args.construct) ts (stack_of c.args.way.now.symbols.items) (plain_value c.args.way.now.value) (plain_tokens c.args.names.now c.args.way.now.rest.now) c.args.first (w (plain_construct c.args.construct))
    (c.ends_with.ensures c.if-ends_with.true h))
