use Rattle.std.proofs.Common.{ap, ◌∙◌}
use Rattle.std.specs.Option.{option_map}
use Rattle.py_lexer.specs.PlainTokens.{plain_place}
use Rattle.py_built.specs.First.{earliest}
use Rattle.py_built.specs.Names.{texts}
use Rattle.py_built.proofs.UnbuiltSteps.{module_step}
use Rattle.py_built.proofs.unbuilt.first_unbuilt.Goals as goal

pub loop-stmt-preserved : goal.loop-stmt-preserved
loop-stmt-preserved c =
    module_step c.args.names.now (texts c.loop-stmt.sure) (texts c.bind_assigned.new.sure) (option_map plain_place c.loop-stmt.place) (option_map plain_place c.earliest-place.result) _ c.args.body.now c.loop-stmt.stmt-index c.stmt-item.result c.loop-stmt-test.true c.stmt-item.is
    (c.earliest-place.ensures ∙ ap (earliest (option_map plain_place c.loop-stmt.place)) c.unbuilt_stmt.ensures) c.in_ok-bind_assigned.ensures c.loop-stmt.invariant
