use Rattle.std.proofs.Common.{refl, [], ◌∷◌, sym, ap, ◌∙◌, ◌≡◌, true}
use Rattle.py_tokens.specs.Token.{TOperator}
use Rattle.py_tokens.specs.Lexeme.{Word}
use Rattle.py_tokens.specs.Lines.{is_opening, lines_of, bracketed}
use Rattle.py_tokens.specs.Tokens.{token, preceded}
use Rattle.py_lexer.specs.PlainTokens.{plain_place, plain_tokens, operator_text}
use Rattle.py_lexer.specs.Ahead.{located, Words, lines_from}
use Rattle.py_lexer.specs.Wanted.{pending_of}
use Rattle.py_lexer.proofs.AheadLemmas.{items-opening}
use Rattle.py_lexer.proofs.OutputLemmas.{follows-pushed, apart-pushed}
use Rattle.py_lexer.proofs.StepLemmas.{begun-step, opening-opens, pending-opened}
use Rattle.py_lexer.proofs.lines.Lines.opening.Goals as goal

pub returns-clause-value : goal.returns-clause-value
returns-clause-value c texts end s items =
    let l = c.args.self.now in
    let p = plain_place c.args.place in
    let t = operator_text c.args.operator in
    let pushed = c.in_ok-push.ensures in
    let opens : is_opening t ≡ true = ap is_opening c.requires.bracket ∙ opening-opens c.args.bracket in
    let grown = pending-opened l.pending.items (record { place = c.args.place; bracket = c.args.bracket }) t c.requires.bracket ∙ sym (ap pending_of c.in_ok-push-2.ensures.items) in
    begun-step texts l (record { output = c.push.new.self; pending = c.push-2.new.self; progress = l.progress; last = l.last }) end (located p (Word (TOperator t)) s ∷ items) items (token p (TOperator t)) c.requires.begun c.requires.begun refl
    (follows-pushed (plain_tokens texts l.output.tokens.items) (plain_tokens texts c.push.new.self.tokens.items) (token p (TOperator t)) (pushed.tokens texts)) pushed.innermost pushed.outer
    (λ levels. items-opening levels (plain_place l.last) p end t s (pending_of l.pending.items) items opens
    ∙ ap (λ pending. preceded (token p (TOperator t) ∷ []) (lines_from Words levels (plain_place l.last) (lines_of end (bracketed pending items)))) grown)

pub returns-clause-apart : goal.returns-clause-apart
returns-clause-apart c a texts =
    apart-pushed (plain_tokens texts c.args.self.now.output.tokens.items) (plain_tokens texts c.push.new.self.tokens.items) (plain_place c.args.place) (TOperator (operator_text c.args.operator)) (c.in_ok-push.ensures.tokens texts) refl (a texts)
