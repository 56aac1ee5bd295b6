use Rattle.std.proofs.Common.{ap, ◌∙◌}
use Rattle.std.specs.Option.{option_map}
use Rattle.py_lexer.specs.PlainTokens.{plain_place}
use Rattle.py_built.specs.First.{earliest}
use Rattle.py_built.specs.Names.{texts}
use Rattle.py_built.proofs.UnbuiltSteps.{block_step}
use Rattle.py_built.proofs.unbuilt.+statements.Goals as goal

pub unbuilt_block-loop-stmt-preserved : goal.unbuilt_block-loop-stmt-preserved
unbuilt_block-loop-stmt-preserved t c =
    block_step c.args.names.now (texts c.args.sure.now) (option_map plain_place c.loop-stmt.place) (option_map plain_place c.earliest-place.result) _ c.args.body.now c.loop-stmt.stmt-index c.stmt-item.result c.loop-stmt-test.true c.stmt-item.is
    (c.earliest-place.ensures ∙ ap (earliest (option_map plain_place c.loop-stmt.place)) c.unbuilt_stmt.ensures) c.loop-stmt.invariant
