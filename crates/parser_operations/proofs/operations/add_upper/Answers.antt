use Rattle.std.proofs.Common.{◌∷◌, ap, sym, ◌∙◌}
use Rattle.std.proofs.lemmas.Result.{on_ok_weaker}
use Rattle.py_syntax.specs.Build.{PExpr, add_upper}
use Rattle.py_table.specs.PlainTokens.{plain_token}
use Rattle.py_ast.specs.PlainExprs.{plain_expr}
use Rattle.py_ast.specs.declared.tree.Expr.{Expr}
use Rattle.parser_parts.specs.PlainParts.{parts_of}
use Rattle.parser_operations.proofs.Taken.{three_taken}
use Rattle.parser_operations.proofs.operations.add_upper.Goals as goal

pub returns : goal.returns
returns c =
    on_ok_weaker c.push.result
    (λ pushed texts.
    pushed texts
    ∙ c.in_ok-slice.ensures (plain_token texts c.in_ok-pop_token.field-0.now) (parts_of texts c.pop_expr-2.new.parts.items)
    ∙ ap add_upper (three_taken _ _ _ _ _ _ _ (c.in_ok-pop_token.ensures texts) (c.in_ok-pop_expr.ensures texts ∙ ap (λ (u : Expr). PExpr (plain_expr u) ∷ parts_of texts c.pop_expr.new.parts.items) (sym c.in_ok-upper.ensures)) (c.in_ok-before.ensures texts)))
    c.push.ensures
