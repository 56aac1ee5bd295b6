use Rattle.py_lexer.specs.PlainTokens.{plain_place}
use Rattle.py_ast.specs.PlainExprs.{plain_expr, plain_exprs, plain_keywords}
use Rattle.py_built.proofs.Calls.{one_argument, no_keyword}
use Rattle.py_built.proofs.forms.printed_by.Goals as goal

pub returns-then-arguments-ne1 : goal.returns-then-arguments-ne1
returns-then-arguments-ne1 c =
    one_argument c.args.names.now (plain_place c.args.place) (plain_expr c.args.callee.now) c.args.arguments.now (plain_keywords c.args.keywords.now) c.if-arguments-ne1.true

pub returns-then-keywords-ne0 : goal.returns-then-keywords-ne0
returns-then-keywords-ne0 c =
    no_keyword c.args.names.now (plain_place c.args.place) (plain_expr c.args.callee.now) (plain_exprs c.args.arguments.now) c.args.keywords.now c.if-keywords-ne0.true
