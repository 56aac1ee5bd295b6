use Rattle.std.proofs.Common.{ap, ◌∙◌}
use Rattle.py_table.proofs.SymbolStacks.{push_before}
use Rattle.py_table.specs.Steps.{stack_of}
use Rattle.py_table.proofs.run.push_row.Goals as goal

pub loop-i-preserved : goal.loop-i-preserved
loop-i-preserved c = ap stack_of c.in_ok-push.ensures.items ∙ push_before _ _ _ _ _ c.loop-i-test.true c.loop-i.auto.i c.loop-i.invariant
