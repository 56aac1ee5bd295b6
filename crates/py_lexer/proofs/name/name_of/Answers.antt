use Rattle.std.proofs.Common.{◌≡◌, ◌∙◌}
use Rattle.std.proofs.lemmas.Result.{IfOk-weaker}
use Rattle.py_tokens.specs.Lexeme.{name_of}
use Rattle.py_lexer.specs.PlainTokens.{keyword_text}
use Rattle.py_lexer.specs.PlainLexemes.{plain_lexeme}
use Rattle.py_lexer.specs.Keywords.{plain_name}
use Rattle.py_lexer.proofs.NameLemmas.{name_of-keyword, name_of-plain}
use Rattle.py_lexer.proofs.name.name_of.Goals as goal

pub returns-in-Some : goal.returns-in-Some
returns-in-Some c = name_of-keyword c.args.word.now (keyword_text c.in-Some.keyword) c.in-Some.ensures

pub returns-in-None : goal.returns-in-None
returns-in-None c =
    IfOk-weaker c.plain_name.result (λ l. plain_lexeme l ≡ plain_name c.args.word.now) (λ l. plain_lexeme l ≡ name_of c.args.word.now)
    (λ l h. h ∙ name_of-plain c.args.word.now c.in-None.ensures) c.plain_name.ensures
