use Rattle.std.proofs.Common.{◌≡◌, ℕ, [], ◌∷◌, take, drop, take-append-drop, refl, sym, ap, ◌∙◌, subst, arith}
use Rattle.std.proofs.lemmas.Result.{IfOk-weaker, IfErr-weaker}
use Rattle.py_tokens.specs.Token.{place_after}
use Rattle.py_tokens.specs.Lines.{no_width, cut, bracketed}
use Rattle.py_tokens.specs.Tokens.{merged_outcome}
use Rattle.shed_base.specs.declared.place.Place.{Place}
use Rattle.py_lexer.specs.PlainTokens.{plain_place, plain_width}
use Rattle.py_lexer.specs.Reading.{IsRefused}
use Rattle.py_lexer.specs.Wanted.{ahead}
use Rattle.py_lexer.specs.Numbering.{AreNumbered}
use Rattle.py_lexer.proofs.AheadLemmas.{all_lines-from, place_after-append}
use Rattle.py_lexer.proofs.OutputLemmas.{empty}
use Rattle.py_lexer.proofs.NamesLemmas.{extends-same, extends-further, from_ok, from_err}
use Rattle.py_lexer.proofs.NumberingLemmas.{numbered-names, numbered-held}
use Rattle.py_lexer.proofs.lexer.lex_characters.Goals as goal

pub loop-rest-init : goal.loop-rest-init
loop-rest-init c =
    let p = plain_place c.args.beginning in
    let z = c.args.text.now in
    let items = cut (plain_width c.args.width) p 0 z in
    record {
      value = λ texts extends. c.new-lines.ensures.value texts (place_after p z) items ∙ ap merged_outcome (sym (all_lines-from (no_width ∷ []) p (place_after p z) (bracketed [] items)));
      apart = c.new-lines.ensures.apart;
      names = extends-same c.args.names.now;
      numbered = subst (AreNumbered c.args.names.now c.args.names.now) (sym c.new-lines.ensures.numbers) (tt, refl);
    }

pub returns-in-Err-clause-refused : goal.returns-in-Err-clause-refused
returns-in-Err-clause-refused c =
    let l = c.loop-rest in
    let more = c.in_ok-refusal.ensures.names in
    let refused = from_err c.in_ok-refusal.field-0 c.in-Err.refusal _ c.in-Err.is c.in_ok-refusal.ensures.refused in
    subst (λ o. IsRefused o c.in-Err.refusal) (l.invariant.value c.step.new.names more) (refused c.step.new.names (place_after (plain_place l.place) l.rest.now) (extends-same c.step.new.names))

pub loop-rest-preserved : goal.loop-rest-preserved
loop-rest-preserved c =
    let l = c.loop-rest in
    let w = plain_width c.args.width in
    let p = plain_place l.place in
    let z = l.rest.now in
    let n = c.in-Ok.passed in
    let q = plain_place c.in-Ok.next in
    let more = c.in_ok-refusal.ensures.names in
    let r = c.in_ok-refusal.field-0 in
    let x : Place × ℕ = (c.in-Ok.next, c.in-Ok.passed) in
    let goes_on = from_ok r x _ c.in-Ok.is c.in_ok-refusal.ensures.goes_on in
    let place = from_ok r x _ c.in-Ok.is c.in_ok-refusal.ensures.place in
    let apart = from_ok r x _ c.in-Ok.is c.in_ok-refusal.ensures.apart in
    let numbered = from_ok r x _ c.in-Ok.is c.in_ok-refusal.ensures.numbered in
    let end : place_after q (drop n z) ≡ place_after p z = ap (λ a. place_after a (drop n z)) place ∙ sym (place_after-append p (take n z) (drop n z)) ∙ ap (place_after p) (take-append-drop n z) in
    record {
      value = λ texts extends.
          ap (λ y. ahead texts c.step.new.lines (place_after q y) (cut w q 0 y)) c.split_at.ensures.back
          ∙ ap (λ e. ahead texts c.step.new.lines e (cut w q 0 (drop n z))) end
          ∙ sym (goes_on texts (place_after p z) extends)
          ∙ l.invariant.value texts (extends-further l.names c.step.new.names texts more extends);
      apart = apart l.invariant.apart;
      names = extends-further c.args.names.now l.names c.step.new.names l.invariant.names more;
      numbered = numbered c.args.names.now l.invariant.numbered;
    }

pub returns-clause-tokens : goal.returns-clause-tokens
returns-clause-tokens c =
    let l = c.loop-rest in
    let w = plain_width c.args.width in
    let p = plain_place l.place in
    let none = empty l.rest.now (omega (arith, c.loop-rest-test.false)) in
    IfOk-weaker c.finish.result _ _
    (λ r h. IfOk-weaker r _ _
    (λ ts g. sym (l.invariant.value l.names (extends-same l.names)) ∙ ap (λ y. ahead l.names l.lines (place_after p y) (cut w p 0 y)) none ∙ g l.invariant.apart l.names) h)
    c.finish.ensures.tokens

pub returns-clause-refused : goal.returns-clause-refused
returns-clause-refused c =
    let l = c.loop-rest in
    let w = plain_width c.args.width in
    let p = plain_place l.place in
    let none = empty l.rest.now (omega (arith, c.loop-rest-test.false)) in
    IfOk-weaker c.finish.result _ _
    (λ r h. IfErr-weaker r _ _
    (λ refusal g. subst (λ o. IsRefused o refusal) (sym (ap (λ y. ahead l.names l.lines (place_after p y) (cut w p 0 y)) none) ∙ l.invariant.value l.names (extends-same l.names)) (g l.names)) h)
    c.finish.ensures.refused

pub returns-clause-numbered : goal.returns-clause-numbered
returns-clause-numbered c =
    let l = c.loop-rest in
    IfOk-weaker c.finish.result _ _ (λ r h. IfOk-weaker r _ _ (λ ts e. numbered-names c.args.names.now l.names ts.items l.lines.output.tokens.items e l.invariant.numbered) h) c.finish.ensures.numbers

pub returns-clause-held : goal.returns-clause-held
returns-clause-held c =
    let l = c.loop-rest in
    IfOk-weaker c.finish.result _ _ (λ r h. IfOk-weaker r _ _ (λ ts e. numbered-held c.args.names.now l.names ts.items l.lines.output.tokens.items e l.invariant.numbered) h) c.finish.ensures.numbers
