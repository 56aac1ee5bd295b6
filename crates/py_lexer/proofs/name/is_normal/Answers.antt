use Rattle.std.proofs.Common.{◌≡◌, ◌↔◌, IsTrue, chars, sym, ◌∙◌}
use Rattle.std.proofs.lemmas.Result.{IfOk-weaker}
use Rattle.unicode_normalization.specs.Forms.{Nfkc, IsInForm}
use Rattle.py_tokens.specs.Lexeme.{is_normal}
use Rattle.py_lexer.proofs.NameLemmas.{normal_by}
use Rattle.py_lexer.proofs.name.is_normal.Goals as goal

pub returns : goal.returns
returns c =
    IfOk-weaker c.is_nfkc.result (λ b. IsTrue b ↔ IsInForm Nfkc (chars c.args.text.now)) (λ b. b ≡ is_normal c.args.word.now)
    (λ b h. normal_by c.args.word.now c.args.text.now b c.utf8.text c.requires (sym c.is_ascii.ensures ∙ c.if-is_ascii.false) h) c.is_nfkc.ensures.answer
