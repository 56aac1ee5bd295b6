use Rattle.std.proofs.Common.{refl, ◌∷◌, sym, ◌∙◌, subst, Some, List}
use Rattle.std.proofs.lemmas.Result.{IfOk-weaker, on_ok_weaker}
use Rattle.py_tokens.specs.Lexeme.{Word}
use Rattle.py_tokens.specs.Lines.{Widths, lines_of, bracketed}
use Rattle.py_lexer.specs.declared.lines.Progress.TheVariants as progress
use Rattle.py_lexer.specs.declared.lines.Lines.{Lines}
use Rattle.py_lexer.specs.PlainTokens.{plain_place}
use Rattle.py_lexer.specs.PlainLexemes.{plain_word}
use Rattle.py_lexer.specs.Ahead.{located, Words, lines_from, opened_by}
use Rattle.py_lexer.specs.Wanted.{plain_sofar, pending_of, followed, ahead, Turned}
use Rattle.py_lexer.proofs.OutputLemmas.{turned-from}
use Rattle.py_lexer.proofs.StepLemmas.{opened-word, begun-ahead}
use Rattle.py_lexer.proofs.lines.Lines.word.Goals as goal

pub returns-in-Some-clause-value : goal.returns-in-Some-clause-value
returns-in-Some-clause-value c texts end s items extends =
    let l = c.args.self.now in
    let p = plain_place c.args.place in
    let k = plain_word c.args.word in
    let go = λ (now : List Widths). lines_from Words now (plain_place l.last) (lines_of end (bracketed (pending_of l.pending.items) (located p (Word k) s ∷ items))) in
    let old = followed texts l.output (λ levels. opened_by (plain_sofar l.progress) p levels go) in
    let new = followed texts c.open_line.new.self go in
    turned-from (Some c.in-Some.refusal) new old (ahead texts l end (located p (Word k) s ∷ items)) (opened-word texts l end p k s items) (subst (λ r. Turned r new old) c.in-Some.is (c.in_ok-refusal.ensures.value texts go))

pub returns-in-None-clause-value : goal.returns-in-None-clause-value
returns-in-None-clause-value c =
    let l = c.args.self.now in
    let p = plain_place c.args.place in
    let k = plain_word c.args.word in
    IfOk-weaker c.further_word.result _ _
    (λ r h texts end s items extends.
    let go = λ (now : List Widths). lines_from Words now (plain_place l.last) (lines_of end (bracketed (pending_of l.pending.items) (located p (Word k) s ∷ items))) in
    let old = followed texts l.output (λ levels. opened_by (plain_sofar l.progress) p levels go) in
    let new = followed texts c.open_line.new.self go in
    let middle : Lines = record { output = c.open_line.new.self; pending = l.pending; progress = progress.Begun; last = l.last } in
    let opened = subst (λ r. Turned r new old) c.in-None.is (c.in_ok-refusal.ensures.value texts go) in
    turned-from r (ahead texts c.further_word.new.self end items) (ahead texts middle end (located p (Word k) s ∷ items)) (ahead texts l end (located p (Word k) s ∷ items))
    (opened-word texts l end p k s items ∙ opened ∙ sym (begun-ahead texts middle end (located p (Word k) s ∷ items) refl)) (h texts end s items extends))
    c.further_word.ensures.value

pub returns-in-None-clause-apart : goal.returns-in-None-clause-apart
returns-in-None-clause-apart c = on_ok_weaker c.further_word.result (λ h a. h (c.in_ok-refusal.ensures.apart a)) c.further_word.ensures.apart
