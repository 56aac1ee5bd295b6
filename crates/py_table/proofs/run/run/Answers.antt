use Rattle.std.proofs.Common.{◌≡◌, List, sym, subst}
use Rattle.py_syntax.specs.Laws.{goal as goal_symbols}
use Rattle.py_syntax.specs.Table.{Symbol}
use Rattle.py_table.specs.PlainTokens.{plain_tokens}
use Rattle.py_table.specs.Steps.{stack_of, RunsOn}
use Rattle.py_syntax.specs.Token.{Token}
use Rattle.py_table.proofs.SymbolStacks.{started}
use Rattle.py_table.proofs.Turns.{runs_at_start, runs_further, runs_to_end, runs_stuck}
use Rattle.py_table.proofs.run.run.Goals as goal

pub loop-turn-init : goal.loop-turn-init
loop-turn-init g c = λ s.
    let at_start : stack_of c.push-2.new.self.items ≡ goal_symbols =
    started _ _ _ c.new-symbols.ensures.items c.in_ok-push.ensures.items c.in_ok-push-2.ensures.items in
    let ts : List Token = plain_tokens c.args.names.now c.args.tokens.now in
    subst (λ (l : List Symbol). RunsOn 0 ts (g.V.Values.stands c.args.names.now c.args.values.now) l ts) (sym at_start)
    (runs_at_start ts (g.V.Values.stands c.args.names.now c.args.values.now) s)

pub returns-in-Done : goal.returns-in-Done
returns-in-Done g c = λ s. runs_to_end c.loop-turn._turn (plain_tokens c.args.names.now c.args.tokens.now) _ _ _ _ (c.loop-turn.invariant s) (rw c.in-Done.is at c.in_ok-more.ensures)

pub returns-in-Stuck : goal.returns-in-Stuck
returns-in-Stuck g c = λ s. runs_stuck c.loop-turn._turn (plain_tokens c.args.names.now c.args.tokens.now) _ _ _ (c.loop-turn.invariant s) (rw c.in-Stuck.is at c.in_ok-more.ensures)

pub loop-turn-preserved : goal.loop-turn-preserved
loop-turn-preserved g c = λ s. runs_further c.args.names.now c.loop-turn._turn (plain_tokens c.args.names.now c.args.tokens.now) _ _ _ _ _ _ (c.loop-turn.invariant s) (rw c.in-Goes.is at c.in_ok-more.ensures)
