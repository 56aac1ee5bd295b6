use Rattle.std.proofs.Common.{◌≡◌, refl, [], ◌∷◌, sym, ap, ◌∙◌, arith}
use Rattle.py_tokens.specs.Token.{TNewline}
use Rattle.py_tokens.specs.Lexeme.{LineEnd}
use Rattle.py_tokens.specs.Lines.{no_width, lines_of, bracketed}
use Rattle.py_tokens.specs.Tokens.{token, preceded, merged_outcome}
use Rattle.py_lexer.specs.PlainTokens.{plain_place, plain_tokens}
use Rattle.py_lexer.specs.Ahead.{located, Blanks, Settled, Words, lines_from}
use Rattle.py_lexer.specs.Wanted.{plain_widths, plain_sofar, pending_of, levels_of, followed, ahead}
use Rattle.py_lexer.proofs.AheadLemmas.{items-end_blanks, items-end_settled, items-end_words}
use Rattle.py_lexer.proofs.OutputLemmas.{follows-pushed, apart-pushed, empty}
use Rattle.py_lexer.proofs.StepLemmas.{step-within, followed-token}
use Rattle.py_lexer.proofs.lines.Lines.line_end.Goals as goal

pub returns-then-len-gt0-clause-value : goal.returns-then-len-gt0-clause-value
returns-then-len-gt0-clause-value c texts end s items =
    step-within texts c.args.self.now end (plain_place c.args.place) s items (omega (arith, c.args.self.now.pending.ok.0, c.len.ensures, c.if-len-gt0.true))

pub returns-in-Fresh-clause-value : goal.returns-in-Fresh-clause-value
unfolding ahead followed
returns-in-Fresh-clause-value c texts end s items =
    let l = c.args.self.now in
    let p = plain_place c.args.place in
    let w = plain_widths c.in-Fresh.field-0 in
    let levels = levels_of l.output in
    let last = plain_place l.last in
    let none : l.pending.items ≡ [] = empty l.pending.items (omega (arith, l.pending.ok.0, c.len.ensures, c.if-len-gt0.false)) in
    ap (λ o. merged_outcome (preceded (plain_tokens texts l.output.tokens.items) o))
    (ap (λ q. lines_from (plain_sofar q) levels last (lines_of end (bracketed (pending_of l.pending.items) (located p LineEnd s ∷ items)))) c.in-Fresh.is
    ∙ ap (λ ps. lines_from (Blanks w) levels last (lines_of end (bracketed (pending_of ps) (located p LineEnd s ∷ items)))) none
    ∙ items-end_blanks w levels last p end s items
    ∙ ap (λ ps. lines_from (Blanks no_width) levels last (lines_of end (bracketed (pending_of ps) items))) (sym none))

pub returns-in-Settled-clause-value : goal.returns-in-Settled-clause-value
unfolding ahead followed
returns-in-Settled-clause-value c texts end s items =
    let l = c.args.self.now in
    let p = plain_place c.args.place in
    let w = plain_widths c.in-Settled.field-0 in
    let levels = levels_of l.output in
    let last = plain_place l.last in
    let none : l.pending.items ≡ [] = empty l.pending.items (omega (arith, l.pending.ok.0, c.len.ensures, c.if-len-gt0.false)) in
    ap (λ o. merged_outcome (preceded (plain_tokens texts l.output.tokens.items) o))
    (ap (λ q. lines_from (plain_sofar q) levels last (lines_of end (bracketed (pending_of l.pending.items) (located p LineEnd s ∷ items)))) c.in-Settled.is
    ∙ ap (λ ps. lines_from (Settled w) levels last (lines_of end (bracketed (pending_of ps) (located p LineEnd s ∷ items)))) none
    ∙ items-end_settled w levels last p end s items
    ∙ ap (λ ps. lines_from (Blanks no_width) levels last (lines_of end (bracketed (pending_of ps) items))) (sym none))

pub returns-in_ok-push-in-Begun-clause-value : goal.returns-in_ok-push-in-Begun-clause-value
unfolding ahead
returns-in_ok-push-in-Begun-clause-value c texts end s items =
    let l = c.args.self.now in
    let p = plain_place c.args.place in
    let last = plain_place l.last in
    let pushed = c.in_ok-push-in-Begun.ensures in
    let new = c.push.new.self in
    let none : l.pending.items ≡ [] = empty l.pending.items (omega (arith, l.pending.ok.0, c.len.ensures, c.if-len-gt0.false)) in
    ap (λ q. followed texts l.output (λ levels. lines_from (plain_sofar q) levels last (lines_of end (bracketed (pending_of l.pending.items) (located p LineEnd s ∷ items))))) c.in-Begun.is
    ∙ ap (λ ps. followed texts l.output (λ levels. lines_from Words levels last (lines_of end (bracketed (pending_of ps) (located p LineEnd s ∷ items))))) none
    ∙ followed-token texts l.output new (token p TNewline) (λ levels. lines_from Words levels last (lines_of end (bracketed [] (located p LineEnd s ∷ items)))) (λ levels. lines_from (Blanks no_width) levels p (lines_of end (bracketed [] items)))
    (follows-pushed (plain_tokens texts l.output.tokens.items) (plain_tokens texts new.tokens.items) (token p TNewline) (pushed.tokens texts)) pushed.innermost pushed.outer (λ levels. items-end_words levels last p end s items)
    ∙ ap (λ ps. followed texts new (λ levels. lines_from (Blanks no_width) levels p (lines_of end (bracketed (pending_of ps) items)))) (sym none)

pub returns-in_ok-push-in-Begun-clause-apart : goal.returns-in_ok-push-in-Begun-clause-apart
returns-in_ok-push-in-Begun-clause-apart c a texts =
    apart-pushed (plain_tokens texts c.args.self.now.output.tokens.items) (plain_tokens texts c.push.new.self.tokens.items) (plain_place c.args.place) TNewline (c.in_ok-push-in-Begun.ensures.tokens texts) refl (a texts)
