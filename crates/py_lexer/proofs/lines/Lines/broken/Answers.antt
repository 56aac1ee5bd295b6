use Rattle.std.proofs.Common.{◌∷◌, sym, ap, ◌∙◌, subst, Some, List, take}
use Rattle.py_tokens.specs.Token.{Refused, place_after}
use Rattle.py_tokens.specs.Lexeme.{Broken}
use Rattle.py_tokens.specs.Lines.{Widths, lines_of, bracketed}
use Rattle.py_lexer.specs.PlainTokens.{plain_place}
use Rattle.py_lexer.specs.PlainLexemes.{plain_fault}
use Rattle.py_lexer.specs.Reading.{IsRefused}
use Rattle.py_lexer.specs.Ahead.{located, Words, lines_from, opened_by}
use Rattle.py_lexer.specs.Wanted.{plain_sofar, pending_of, followed, ahead, Turned}
use Rattle.py_lexer.proofs.AheadLemmas.{items-broken}
use Rattle.py_lexer.proofs.OutputLemmas.{turned-from}
use Rattle.py_lexer.proofs.StepLemmas.{opened-broken, followed-refused}
use Rattle.py_lexer.proofs.lines.Lines.broken.Goals as goal

pub returns-in-Some : goal.returns-in-Some
returns-in-Some c texts end items =
    let l = c.args.self.now in
    let p = plain_place c.args.place in
    let x = located p (Broken (plain_fault c.args.fault) c.args.before) c.args.rest.now in
    let go = λ (now : List Widths). lines_from Words now (plain_place l.last) (lines_of end (bracketed (pending_of l.pending.items) (x ∷ items))) in
    let old = followed texts l.output (λ levels. opened_by (plain_sofar l.progress) p levels go) in
    let new = followed texts c.open_line.new.self go in
    turned-from (Some c.in-Some.refusal) new old (ahead texts l end (x ∷ items)) (opened-broken texts l end p (plain_fault c.args.fault) c.args.before c.args.rest.now items) (subst (λ r. Turned r new old) c.in-Some.is (c.in_ok-refusal.ensures.value texts go))

pub returns-in_ok-wrong-in-None : goal.returns-in_ok-wrong-in-None
returns-in_ok-wrong-in-None c texts end items =
    let l = c.args.self.now in
    let p = plain_place c.args.place in
    let f = plain_fault c.args.fault in
    let n = c.args.before in
    let s = c.args.rest.now in
    let go = λ (now : List Widths). lines_from Words now (plain_place l.last) (lines_of end (bracketed (pending_of l.pending.items) (located p (Broken f n) s ∷ items))) in
    let old = followed texts l.output (λ levels. opened_by (plain_sofar l.progress) p levels go) in
    let new = followed texts c.open_line.new.self go in
    let opened = subst (λ r. Turned r new old) c.in-None.is (c.in_ok-refusal.ensures.value texts go) in
    let where_wrong = ap (place_after p) (sym c.split_at.ensures.front) ∙ sym c.in_ok-wrong-in-None.ensures in
    let e = opened-broken texts l end p f n s items ∙ opened
    ∙ followed-refused texts c.open_line.new.self go f (place_after p (take n s)) (λ levels. items-broken levels (plain_place l.last) p end f n s (pending_of l.pending.items) items)
    ∙ ap (Refused f) where_wrong in
    subst (λ o. IsRefused o c.refusal_of.result) (sym e) c.refusal_of.ensures
