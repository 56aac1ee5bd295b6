use Rattle.py_lexer.specs.PlainLexemes.{plain_lexeme}
use Rattle.py_lexer.proofs.FrontLemmas.{name_or_literal-name}
use Rattle.py_lexer.proofs.lexeme.name_or_literal.Goals as goal

pub returns-in_ok-lexeme-in-None : goal.returns-in_ok-lexeme-in-None
returns-in_ok-lexeme-in-None c =
    name_or_literal-name c.args.text.now c.split_at.result.0.now c.split_at.result.1.now c.word_len-length.result (plain_lexeme c.in_ok-lexeme-in-None.lexeme) c.split_at.ensures.front c.split_at.ensures.back c.word_len-length.ensures.value c.split_at.ensures.front_len c.in-None.ensures c.in_ok-lexeme-in-None.ensures
