use Rattle.std.proofs.Common.{◌≡◌, List, [], refl, sym, ap, ◌∙◌, subst, append-nil}
use Rattle.py_constructs.specs.Table.{Symbol}
use Rattle.py_constructs.specs.OneStep.{one_step}
use Rattle.py_table.specs.PlainTokens.{plain_tokens}
use Rattle.py_outside.specs.PlainConstructs.{additions_of}
use Rattle.py_outside.specs.PlainValues.{plain_value}
use Rattle.py_outside.specs.Steps.{stack_of, Became}
use Rattle.py_outside.proofs.SymbolStacks.{none_left}
use Rattle.py_outside.proofs.run.step.Goals as goal

pub returns-in_default : goal.returns-in_default
returns-in_default c =
    let none : stack_of c.args.symbols.now.items ≡ [] = none_left _ _ c.in_default.ensures.items c.in_default.ensures.rest c.in_default.ensures.cases.0 in
    let left : stack_of c.pop.new.self.items ≡ [] = ap stack_of (sym (append-nil c.pop.new.self.items) ∙ sym c.in_default.ensures.items) ∙ none in
    subst (λ (l : List Symbol). Became c.args.names.now l (plain_value c.args.value.now) c.pop.new.self.items c.args.value.now c.finish.result (one_step (additions_of c.args.construct) l (plain_value c.args.value.now) (plain_tokens c.args.names.now c.args.rest.now))) (sym none)
    (c.finish.ensures c.args.names.now (additions_of c.args.construct) (plain_value c.args.value.now) c.pop.new.self.items c.args.value.now left refl)
