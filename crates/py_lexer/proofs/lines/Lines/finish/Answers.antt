use Rattle.std.proofs.Common.{refl, [], ◌∷◌, ◌∙◌, subst, Some, List}
use Rattle.py_tokens.specs.Token.{Refused, UnclosedBracket, TNewline}
use Rattle.py_tokens.specs.Lines.{Widths}
use Rattle.py_tokens.specs.Tokens.{token, preceded, all_lines}
use Rattle.py_lexer.specs.PlainTokens.{plain_place, plain_tokens}
use Rattle.py_lexer.specs.Ahead.{opened_by}
use Rattle.py_lexer.specs.Wanted.{plain_sofar, followed, ahead, Turned}
use Rattle.py_lexer.proofs.OutputLemmas.{turned-from, outer-none, follows-pushed, apart-pushed}
use Rattle.py_lexer.proofs.StepLemmas.{opened-unclosed, followed-refused, followed-token, followed-closed, end-fresh, end-settled, end-begun}
use Rattle.py_lexer.proofs.lines.Lines.finish.Goals as goal

pub returns-in-Some-2-clause-refused : goal.returns-in-Some-2-clause-refused
returns-in-Some-2-clause-refused c texts =
    let l = c.args.self in
    let p = plain_place c.in-Some.open.place in
    let go = λ (now : List Widths). Refused UnclosedBracket p in
    let old = followed texts l.output (λ levels. opened_by (plain_sofar l.progress) p levels go) in
    let new = followed texts c.open_line.new.self go in
    turned-from (Some c.in-Some-2.refusal) new old (ahead texts l (plain_place c.args.end) []) (opened-unclosed texts l (plain_place c.args.end) c.in-Some.open c.pop.new.self.items c.in-Some.ensures.items)
    (subst (λ r. Turned r new old) c.in-Some-2.is (c.in_ok-refusal-in-Some.ensures.value texts go))

pub returns-in-Some-clause-refused : goal.returns-in-Some-clause-refused
returns-in-Some-clause-refused c texts =
    let l = c.args.self in
    let p = plain_place c.in-Some.open.place in
    let go = λ (now : List Widths). Refused UnclosedBracket p in
    let old = followed texts l.output (λ levels. opened_by (plain_sofar l.progress) p levels go) in
    let new = followed texts c.open_line.new.self go in
    let opened = subst (λ r. Turned r new old) c.in-None-2.is (c.in_ok-refusal-in-Some.ensures.value texts go) in
    opened-unclosed texts l (plain_place c.args.end) c.in-Some.open c.pop.new.self.items c.in-Some.ensures.items ∙ opened ∙ followed-refused texts c.open_line.new.self go UnclosedBracket p (λ levels. refl)

pub returns-in-Fresh-clause-tokens : goal.returns-in-Fresh-clause-tokens
returns-in-Fresh-clause-tokens c apart texts =
    let l = c.args.self in
    let closed = c.in_ok-closed-in-Fresh.ensures in
    end-fresh texts l c.in-Fresh.field-0 (plain_place c.args.end) c.in-Fresh.is (outer-none l.pending.items c.pop.new.self.items c.in-None.ensures.items c.in-None.ensures.rest c.in-None.ensures.cases.0)
    ∙ followed-closed texts l.output c.in_ok-closed-in-Fresh.field-0.items (plain_place l.last) (closed.tokens texts) (closed.apart apart texts)

pub returns-in-Settled-clause-tokens : goal.returns-in-Settled-clause-tokens
returns-in-Settled-clause-tokens c apart texts =
    let l = c.args.self in
    let closed = c.in_ok-closed-in-Settled.ensures in
    end-settled texts l c.in-Settled.field-0 (plain_place c.args.end) c.in-Settled.is (outer-none l.pending.items c.pop.new.self.items c.in-None.ensures.items c.in-None.ensures.rest c.in-None.ensures.cases.0)
    ∙ followed-closed texts l.output c.in_ok-closed-in-Settled.field-0.items (plain_place l.last) (closed.tokens texts) (closed.apart apart texts)

pub returns-clause-tokens : goal.returns-clause-tokens
returns-clause-tokens c apart texts =
    let l = c.args.self in
    let end = plain_place c.args.end in
    let new = c.push.new.self in
    let pushed = c.in_ok-push-in-Begun.ensures in
    let closed = c.in_ok-closed-in-Begun.ensures in
    end-begun texts l end c.in-Begun.is (outer-none l.pending.items c.pop.new.self.items c.in-None.ensures.items c.in-None.ensures.rest c.in-None.ensures.cases.0)
    ∙ followed-token texts l.output new (token end TNewline) (λ levels. preceded (token end TNewline ∷ []) (all_lines levels end [])) (λ levels. all_lines levels end [])
    (follows-pushed (plain_tokens texts l.output.tokens.items) (plain_tokens texts new.tokens.items) (token end TNewline) (pushed.tokens texts)) pushed.innermost pushed.outer (λ levels. refl)
    ∙ followed-closed texts new c.in_ok-closed-in-Begun.field-0.items end (closed.tokens texts)
    (closed.apart (λ texts. apart-pushed (plain_tokens texts l.output.tokens.items) (plain_tokens texts new.tokens.items) end TNewline (pushed.tokens texts) refl (apart texts)) texts)
