use Rattle.std.proofs.Common.{◌≡◌, [], List, Some, sym, ap, ◌∙◌}
use Rattle.std.specs.Option.{option_map}
use Rattle.py_lexer.specs.PlainTokens.{plain_place}
use Rattle.py_ast.specs.declared.tree.Stmt.{Stmt}
use Rattle.py_ast.specs.PlainTrees as whole_trees
use Rattle.py_meaning.specs.Built.{built_body, unbuilt, first_place}
use Rattle.py_built.specs.PlainTrees.{plain_body}
use Rattle.py_built.proofs.BodiesBuilt.{built_reads}
use Rattle.py_built.proofs.building.build.Goals as goal

pub returns-in_ok-body-in-None-clause-built : goal.returns-in_ok-body-in-None-clause-built
returns-in_ok-body-in-None-clause-built c =
    let names = c.args.names.now in
    let tree = whole_trees.plain_body c.args.module.now.body in
    let built : built_body names tree ≡ Some (plain_body c.in_ok-body-in-None.body) =
    ap (λ (ss : List Stmt). built_body names (whole_trees.plain_body ss)) (sym c.as_slice-in-None.ensures) ∙ c.in_ok-body-in-None.ensures in (
      built,
      built_reads names tree (plain_body c.in_ok-body-in-None.body)
          (ap (λ (ss : List Stmt). first_place (unbuilt names [] (whole_trees.plain_body ss))) (sym c.as_slice.ensures) ∙ sym c.in_ok-place.ensures ∙ ap (option_map plain_place) c.in-None.is) built,
    )
