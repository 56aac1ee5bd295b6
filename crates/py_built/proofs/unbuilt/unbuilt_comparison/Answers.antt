use Rattle.std.proofs.Common.{Some, sym, ap, ap₂, ◌∙◌}
use Rattle.std.specs.Option.{option_map}
use Rattle.py_lexer.specs.PlainTokens.{plain_place}
use Rattle.py_ast.specs.PlainOperators.{plain_comparison}
use Rattle.py_ast.specs.PlainExprs.{plain_expr}
use Rattle.py_built.specs.PlainTrees.{plain_comparison as plain_small}
use Rattle.py_built.specs.First.{earliest}
use Rattle.py_built.specs.Names.{texts}
use Rattle.py_built.proofs.Comparisons.{first_of_chain, first_of_built, first_of_unbuilt}
use Rattle.py_built.proofs.unbuilt.unbuilt_comparison.Goals as goal

pub returns-then-links-ne0 : goal.returns-then-links-ne0
returns-then-links-ne0 c =
    let p = plain_place c.args.place in
    c.earliest-then-links-ne0.ensures
    ∙ ap (earliest (Some p)) (c.earliest.ensures ∙ ap (earliest (Some p)) c.unbuilt_expr-inner.ensures)
    ∙ first_of_chain c.args.names.now (texts c.args.sure.now) p (plain_comparison c.args.operator) (plain_expr c.args.left.now) (plain_expr c.args.right.now) c.args.links.now c.if-links-ne0.true

pub returns-in-Some : goal.returns-in-Some
returns-in-Some c =
    c.earliest-in-Some.ensures
    ∙ ap₂ earliest c.unbuilt_expr-inner.ensures c.unbuilt_expr.ensures
    ∙ first_of_built c.args.names.now (texts c.args.sure.now) (plain_place c.args.place) (plain_comparison c.args.operator) (plain_small c.in-Some.field-0) (plain_expr c.args.left.now) (plain_expr c.args.right.now) c.args.links.now c.if-links-ne0.false
    (sym (ap (option_map plain_small) c.in-Some.is) ∙ c.build_comparison.ensures)

pub returns-in-None : goal.returns-in-None
returns-in-None c =
    let p = plain_place c.args.place in
    c.earliest-in-None.ensures
    ∙ ap (earliest (Some p)) c.unbuilt_expr-inner.ensures
    ∙ first_of_unbuilt c.args.names.now (texts c.args.sure.now) p (plain_comparison c.args.operator) (plain_expr c.args.left.now) (plain_expr c.args.right.now) c.args.links.now c.if-links-ne0.false
    (sym (ap (option_map plain_small) c.in-None.is) ∙ c.build_comparison.ensures)
