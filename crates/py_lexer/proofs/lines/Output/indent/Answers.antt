use Rattle.std.proofs.Common.{◌∷◌, map, reverse, sym, ap, ◌∙◌, refl}
use Rattle.std.proofs.lemmas.Result.{IfOk-weaker}
use Rattle.py_tokens.specs.Token.{TIndent}
use Rattle.py_tokens.specs.Tokens.{token, preceded, merged_outcome, indented}
use Rattle.py_lexer.specs.PlainTokens.{plain_place, plain_tokens}
use Rattle.py_lexer.specs.Wanted.{plain_widths, levels_of, followed}
use Rattle.py_lexer.proofs.LevelLemmas.{indented-stays, indented-deeper, indented-back, indented-mixed}
use Rattle.py_lexer.proofs.OutputLemmas.{follows-pushed, apart-pushed, outer-pushed, turned-from}
use Rattle.py_lexer.proofs.lines.Output.indent.Goals as goal

pub returns-then-is_same-clause-value : goal.returns-then-is_same-clause-value
unfolding followed
returns-then-is_same-clause-value c texts go =
    let s = c.args.self.now in
    ap (λ i. merged_outcome (preceded (plain_tokens texts s.tokens.items) (indented i (plain_place c.args.place) (plain_widths c.args.widths) (levels_of s) go)))
    (indented-stays (plain_widths c.args.widths) (plain_widths s.innermost) (map plain_widths (reverse s.outer.items)) (sym c.is_same.ensures ∙ c.if-is_same.true))

pub returns-then-is_narrower-clause-value : goal.returns-then-is_narrower-clause-value
unfolding followed
returns-then-is_narrower-clause-value c texts go =
    let s = c.args.self.now in
    let w = plain_widths c.args.widths in
    let p = plain_place c.args.place in
    let back = c.push.new.self in
    let pushed = c.in_ok-push.ensures in
    let new = c.push-then-is_narrower.new.self in
    let grown = ap (λ items. map plain_widths (reverse items)) c.in_ok-push-2.ensures.items ∙ outer-pushed back.outer.items s.innermost ∙ ap (λ v. plain_widths s.innermost ∷ map plain_widths (reverse v.items)) pushed.outer in
    ap (λ i. merged_outcome (preceded (plain_tokens texts s.tokens.items) (indented i p w (levels_of s) go)))
    (indented-deeper w (plain_widths s.innermost) (map plain_widths (reverse s.outer.items)) (sym c.is_same.ensures ∙ c.if-is_same.false) (sym c.is_narrower.ensures ∙ c.if-is_narrower.true))
    ∙ follows-pushed (plain_tokens texts s.tokens.items) (plain_tokens texts back.tokens.items) (token p TIndent) (pushed.tokens texts) (go (w ∷ levels_of s))
    ∙ ap (λ lv. merged_outcome (preceded (plain_tokens texts back.tokens.items) (go (w ∷ lv)))) (sym grown)

pub returns-then-is_narrower-clause-apart : goal.returns-then-is_narrower-clause-apart
returns-then-is_narrower-clause-apart c a texts =
    let s = c.args.self.now in
    apart-pushed (plain_tokens texts s.tokens.items) (plain_tokens texts c.push.new.self.tokens.items) (plain_place c.args.place) TIndent (c.in_ok-push.ensures.tokens texts) refl (a texts)

pub returns-then-is_narrower-2-clause-value : goal.returns-then-is_narrower-2-clause-value
unfolding followed
returns-then-is_narrower-2-clause-value c =
    let s = c.args.self.now in
    let w = plain_widths c.args.widths in
    let p = plain_place c.args.place in
    let e = indented-back w (plain_widths s.innermost) (map plain_widths (reverse s.outer.items)) (sym c.is_same.ensures ∙ c.if-is_same.false) (sym c.is_narrower.ensures ∙ c.if-is_narrower.false) (sym c.is_narrower-2.ensures ∙ c.if-is_narrower-2.true) in
    IfOk-weaker c.dedent.result _ _
    (λ r h texts go. turned-from r (followed texts c.dedent.new.self go) _ _ (ap (λ i. merged_outcome (preceded (plain_tokens texts s.tokens.items) (indented i p w (levels_of s) go))) e) (h texts go)) c.dedent.ensures.value

pub returns-clause-value : goal.returns-clause-value
unfolding followed
returns-clause-value c texts go =
    let s = c.args.self.now in
    ap (λ i. merged_outcome (preceded (plain_tokens texts s.tokens.items) (indented i (plain_place c.args.place) (plain_widths c.args.widths) (levels_of s) go)))
    (indented-mixed (plain_widths c.args.widths) (plain_widths s.innermost) (map plain_widths (reverse s.outer.items)) (sym c.is_same.ensures ∙ c.if-is_same.false) (sym c.is_narrower.ensures ∙ c.if-is_narrower.false) (sym c.is_narrower-2.ensures ∙ c.if-is_narrower-2.false))
