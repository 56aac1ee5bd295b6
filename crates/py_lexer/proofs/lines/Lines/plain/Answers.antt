use Rattle.std.proofs.Common.{refl, ◌∷◌}
use Rattle.py_tokens.specs.Lexeme.{Word}
use Rattle.py_tokens.specs.Tokens.{token}
use Rattle.py_lexer.specs.PlainTokens.{plain_place, plain_kind, plain_tokens}
use Rattle.py_lexer.specs.Ahead.{located}
use Rattle.py_lexer.specs.Wanted.{pending_of}
use Rattle.py_lexer.proofs.AheadLemmas.{items-word}
use Rattle.py_lexer.proofs.OutputLemmas.{follows-pushed, apart-pushed}
use Rattle.py_lexer.proofs.StepLemmas.{begun-step}
use Rattle.py_lexer.proofs.lines.Lines.plain.Goals as goal

pub returns-clause-value : goal.returns-clause-value
returns-clause-value c texts end s items h =
    let l = c.args.self.now in
    let p = plain_place c.args.place in
    let k = plain_kind texts c.args.kind in
    let pushed = c.in_ok-push.ensures in
    begun-step texts l (record { output = c.push.new.self; pending = l.pending; progress = l.progress; last = l.last }) end (located p (Word k) s ∷ items) items (token p k) c.requires c.requires refl
    (follows-pushed (plain_tokens texts l.output.tokens.items) (plain_tokens texts c.push.new.self.tokens.items) (token p k) (pushed.tokens texts)) pushed.innermost pushed.outer
    (λ levels. items-word levels (plain_place l.last) p end k s (pending_of l.pending.items) items h)

pub returns-clause-apart : goal.returns-clause-apart
returns-clause-apart c h a texts =
    apart-pushed (plain_tokens texts c.args.self.now.output.tokens.items) (plain_tokens texts c.push.new.self.tokens.items) (plain_place c.args.place) (plain_kind texts c.args.kind) (c.in_ok-push.ensures.tokens texts) (h texts) (a texts)
