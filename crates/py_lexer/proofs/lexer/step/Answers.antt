use Rattle.std.proofs.Common.{◌∷◌, take, drop, sym, ap, ◌∙◌, subst, arith}
use Rattle.py_tokens.specs.Token.{place_after}
use Rattle.py_tokens.specs.Lines.{cut}
use Rattle.py_lexer.specs.PlainTokens.{plain_place, plain_width}
use Rattle.py_lexer.specs.PlainLexemes.{plain_lexeme}
use Rattle.py_lexer.specs.Reading.{IsRefused}
use Rattle.py_lexer.specs.Ahead.{located}
use Rattle.py_lexer.specs.Wanted.{ahead, Turned}
use Rattle.py_lexer.proofs.AheadLemmas.{cut-front}
use Rattle.py_lexer.proofs.lexer.step.Goals as goal

pub returns-in_ok-next-in-None-clause-goes_on : goal.returns-in_ok-next-in-None-clause-goes_on
returns-in_ok-next-in-None-clause-goes_on c texts end extends =
    let w = plain_width c.args.width in
    let p = plain_place c.args.place in
    let z = c.args.rest.now in
    let n = c.in_ok-length.field-0.length in
    let x = plain_lexeme c.in_ok-length.field-0.lexeme in
    let items = cut w (place_after p (take n z)) 0 (drop n z) in
    let old = ahead texts c.args.lines.now end (located p x z ∷ items) in
    let new = ahead texts c.turn.new.self end items in
    ap (ahead texts c.args.lines.now end) (cut-front w p z n x (omega (arith, c.if-length-eq0.false, c.if-length-rest.false)) (omega (arith, c.if-length-eq0.false)) (sym c.in_ok-length.ensures))
    ∙ subst (λ r. Turned r new old) c.in-None.is (c.in_ok-refusal.ensures.value texts end items extends)
    ∙ ap (λ q. ahead texts c.turn.new.self end (cut w q 0 (drop n z))) (ap (place_after p) (sym c.split_at.ensures.front) ∙ sym c.in_ok-next-in-None.ensures)

pub returns-in-Some-clause-refused : goal.returns-in-Some-clause-refused
returns-in-Some-clause-refused c texts end extends =
    let w = plain_width c.args.width in
    let p = plain_place c.args.place in
    let z = c.args.rest.now in
    let n = c.in_ok-length.field-0.length in
    let x = plain_lexeme c.in_ok-length.field-0.lexeme in
    let items = cut w (place_after p (take n z)) 0 (drop n z) in
    let old = ahead texts c.args.lines.now end (located p x z ∷ items) in
    let new = ahead texts c.turn.new.self end items in
    subst (λ ls. IsRefused (ahead texts c.args.lines.now end ls) c.in-Some.refusal)
    (sym (cut-front w p z n x (omega (arith, c.if-length-eq0.false, c.if-length-rest.false)) (omega (arith, c.if-length-eq0.false)) (sym c.in_ok-length.ensures)))
    (subst (λ r. Turned r new old) c.in-Some.is (c.in_ok-refusal.ensures.value texts end items extends))
