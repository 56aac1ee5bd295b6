use Rattle.std.proofs.Common.{◌∙◌, ap}
use Rattle.py_tokens.specs.Lexeme.{Nothing}
use Rattle.py_lexer.proofs.CommentLemmas.{comment_by}
use Rattle.py_lexer.proofs.space.comment.Goals as goal

pub returns-in-Some : goal.returns-in-Some
returns-in-Some c = c.broken.ensures ∙ comment_by c.args.text.now _ _ _ c.split_at.ensures.front c.len_to_line_end-length.ensures.value c.in-Some.ensures

pub returns-in-None : goal.returns-in-None
returns-in-None c =
    ap (λ n. record { length_of = n; lexeme = Nothing }) c.len_to_line_end-length.ensures.value
    ∙ comment_by c.args.text.now _ _ _ c.split_at.ensures.front c.len_to_line_end-length.ensures.value c.in-None.ensures
