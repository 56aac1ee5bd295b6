use Rattle.std.proofs.Common.{refl, ◌∷◌}
use Rattle.py_tokens.specs.Token.{TText}
use Rattle.py_tokens.specs.Lexeme.{Word}
use Rattle.py_tokens.specs.Tokens.{token}
use Rattle.py_lexer.specs.PlainTokens.{plain_place}
use Rattle.py_lexer.specs.Ahead.{located}
use Rattle.py_lexer.specs.Wanted.{pending_of}
use Rattle.py_lexer.proofs.AheadLemmas.{items-word}
use Rattle.py_lexer.proofs.StepLemmas.{begun-step}
use Rattle.py_lexer.proofs.lines.Lines.text.Goals as goal

pub returns-clause-value : goal.returns-clause-value
returns-clause-value c texts end s items =
    let l = c.args.self.now in
    let p = plain_place c.args.place in
    let k = TText c.args.text in
    let pushed = c.in_ok-push_text.ensures in
    begun-step texts l (record { output = c.push_text.new.self; pending = l.pending; progress = l.progress; last = l.last }) end (located p (Word k) s ∷ items) items (token p k) c.requires c.requires refl
    (pushed.follows texts) pushed.innermost pushed.outer (λ levels. items-word levels (plain_place l.last) p end k s (pending_of l.pending.items) items refl)
