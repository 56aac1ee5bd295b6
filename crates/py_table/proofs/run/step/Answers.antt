use Rattle.std.proofs.Common.{◌≡◌, List, [], sym, subst}
use Rattle.py_syntax.specs.Table.{Symbol}
use Rattle.py_table.specs.PlainTokens.{plain_tokens}
use Rattle.py_table.specs.Steps.{stack_of, one_step, Ended}
use Rattle.py_table.proofs.SymbolStacks.{none_left}
use Rattle.py_table.proofs.Turns.{ended_became}
use Rattle.py_table.proofs.run.step.Goals as goal

pub returns-in-None : goal.returns-in-None
returns-in-None g c = λ v s.
    let none : stack_of c.args.symbols.now.items ≡ [] = none_left _ _ c.in-None.ensures.items c.in-None.ensures.rest c.in-None.ensures.cases.0 in
    ended_became _ _ v _ c.finish.result _
    (subst (λ (l : List Symbol). Ended c.finish.result (one_step l v (plain_tokens c.args.names.now c.args.rest.now))) (sym none) (c.finish.ensures c.args.names.now v)) s
