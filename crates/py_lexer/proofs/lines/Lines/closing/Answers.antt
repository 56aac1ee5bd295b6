use Rattle.std.proofs.Common.{refl, ◌∷◌, sym, ap, ◌∙◌}
use Rattle.py_tokens.specs.Token.{TOperator, UnclosedBracket}
use Rattle.py_tokens.specs.Lexeme.{Word}
use Rattle.py_tokens.specs.Lines.{is_opening, is_closing, are_partners, lines_of, bracketed}
use Rattle.py_tokens.specs.Tokens.{token}
use Rattle.py_lexer.specs.PlainTokens.{plain_place, plain_tokens, operator_text}
use Rattle.py_lexer.specs.Ahead.{located, Words, lines_from}
use Rattle.py_lexer.specs.Wanted.{pending_of, plain_open, opening_text}
use Rattle.py_lexer.proofs.AheadLemmas.{items-closing, items-other_closing, items-lone_closing}
use Rattle.py_lexer.proofs.OutputLemmas.{follows-pushed, apart-pushed, outer-none}
use Rattle.py_lexer.proofs.StepLemmas.{begun-step, begun-refused, closing-opens, closing-closes, pending-popped}
use Rattle.py_lexer.proofs.lines.Lines.closing.Goals as goal

pub returns-then-not-is_closed_by-clause-value : goal.returns-then-not-is_closed_by-clause-value
returns-then-not-is_closed_by-clause-value c texts end s items =
    let l = c.args.self.now in
    let p = plain_place c.args.place in
    let t = operator_text c.args.operator in
    let opened = c.in-Some.open in
    begun-refused texts l end (located p (Word (TOperator t)) s ∷ items) UnclosedBracket p c.requires.begun
    (λ levels. ap (λ pending. lines_from Words levels (plain_place l.last) (lines_of end (bracketed pending (located p (Word (TOperator t)) s ∷ items)))) (pending-popped l.pending.items c.pop.new.self.items opened c.in-Some.ensures.items)
    ∙ items-other_closing levels (plain_place l.last) p end t s (plain_open opened) (pending_of c.pop.new.self.items) items (ap is_opening c.requires.bracket ∙ closing-opens c.args.bracket) (ap is_closing c.requires.bracket ∙ closing-closes c.args.bracket)
    (ap (are_partners (opening_text opened.bracket)) c.requires.bracket ∙ sym c.is_closed_by.ensures ∙ c.if-not-is_closed_by.true))

pub returns-in-None-clause-value : goal.returns-in-None-clause-value
returns-in-None-clause-value c texts end s items =
    let l = c.args.self.now in
    let p = plain_place c.args.place in
    let t = operator_text c.args.operator in
    begun-refused texts l end (located p (Word (TOperator t)) s ∷ items) UnclosedBracket p c.requires.begun
    (λ levels. ap (λ pending. lines_from Words levels (plain_place l.last) (lines_of end (bracketed (pending_of pending) (located p (Word (TOperator t)) s ∷ items))))
    (outer-none l.pending.items c.pop.new.self.items c.in-None.ensures.items c.in-None.ensures.rest c.in-None.ensures.cases.0)
    ∙ items-lone_closing levels (plain_place l.last) p end t s items (ap is_opening c.requires.bracket ∙ closing-opens c.args.bracket) (ap is_closing c.requires.bracket ∙ closing-closes c.args.bracket))

pub returns-in_ok-push-in-Some-clause-value : goal.returns-in_ok-push-in-Some-clause-value
returns-in_ok-push-in-Some-clause-value c texts end s items =
    let l = c.args.self.now in
    let p = plain_place c.args.place in
    let t = operator_text c.args.operator in
    let opened = c.in-Some.open in
    let pushed = c.in_ok-push-in-Some.ensures in
    begun-step texts l (record { output = c.push.new.self; pending = c.pop.new.self; progress = l.progress; last = l.last }) end (located p (Word (TOperator t)) s ∷ items) items (token p (TOperator t)) c.requires.begun c.requires.begun refl
    (follows-pushed (plain_tokens texts l.output.tokens.items) (plain_tokens texts c.push.new.self.tokens.items) (token p (TOperator t)) (pushed.tokens texts)) pushed.innermost pushed.outer
    (λ levels. ap (λ pending. lines_from Words levels (plain_place l.last) (lines_of end (bracketed pending (located p (Word (TOperator t)) s ∷ items)))) (pending-popped l.pending.items c.pop.new.self.items opened c.in-Some.ensures.items)
    ∙ items-closing levels (plain_place l.last) p end t s (plain_open opened) (pending_of c.pop.new.self.items) items (ap is_opening c.requires.bracket ∙ closing-opens c.args.bracket) (ap is_closing c.requires.bracket ∙ closing-closes c.args.bracket)
    (ap (are_partners (opening_text opened.bracket)) c.requires.bracket ∙ sym c.is_closed_by.ensures ∙ c.if-not-is_closed_by.false))

pub returns-in_ok-push-in-Some-clause-apart : goal.returns-in_ok-push-in-Some-clause-apart
returns-in_ok-push-in-Some-clause-apart c a texts =
    apart-pushed (plain_tokens texts c.args.self.now.output.tokens.items) (plain_tokens texts c.push.new.self.tokens.items) (plain_place c.args.place) (TOperator (operator_text c.args.operator)) (c.in_ok-push-in-Some.ensures.tokens texts) refl (a texts)
