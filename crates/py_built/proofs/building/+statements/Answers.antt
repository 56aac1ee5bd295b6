use Rattle.std.proofs.Common.{◌+◌, List, drop, ap, ◌∙◌}
use Rattle.std.specs.Option.{option_map}
use Rattle.py_ast.specs.PlainTrees as whole_trees
use Rattle.py_meaning.specs.Built.{built_body}
use Rattle.py_built.specs.declared.tree.Stmt.{Stmt}
use Rattle.py_built.specs.Forms.{behind}
use Rattle.py_built.proofs.BodiesBuilt.{built_step, built_end}
use Rattle.py_built.proofs.building.+statements.Goals as goal

pub build_body-loop-stmt-preserved : goal.build_body-loop-stmt-preserved
build_body-loop-stmt-preserved t c =
    let i = c.loop-stmt.stmt-index in
    let items = c.args.body.now in
    ap (λ (built : List Stmt). option_map (behind built) (built_body c.args.names.now (whole_trees.plain_body (drop (i + 1) items)))) c.in_ok-push.ensures.ok
    ∙ built_step c.args.names.now c.loop-stmt.built _ items i c.stmt-item.result c.in_ok-build_stmt.field-0 c.loop-stmt-test.true c.stmt-item.is c.in_ok-build_stmt.ensures c.loop-stmt.invariant

pub build_body-returns : goal.build_body-returns
build_body-returns t c = built_end c.args.names.now c.loop-stmt.built _ c.args.body.now c.loop-stmt.stmt-index c.loop-stmt-test.false c.loop-stmt.invariant
