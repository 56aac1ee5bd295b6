use Rattle.std.proofs.Common.{◌∷◌, [], map, reverse, sym, ap, ◌∙◌, refl}
use Rattle.py_tokens.specs.Token.{Outcome, TDedent}
use Rattle.py_tokens.specs.Tokens.{token, preceded, merged_outcome, indented}
use Rattle.py_lexer.specs.PlainTokens.{plain_place, plain_tokens}
use Rattle.py_lexer.specs.Ahead.{back_to}
use Rattle.py_lexer.specs.Wanted.{plain_widths, followed}
use Rattle.py_lexer.proofs.LevelLemmas.{goes_back, comes_back, is_mixed}
use Rattle.py_lexer.proofs.OutputLemmas.{follows-pushed, apart-pushed, outer-popped, outer-none}
use Rattle.py_lexer.proofs.lines.Output.dedent.Goals as goal

pub returns-in-None-clause-value : goal.returns-in-None-clause-value
unfolding followed
returns-in-None-clause-value c texts go =
    let s = c.loop-self.self in
    let w = plain_widths c.args.widths in
    let p = plain_place c.args.place in
    let out = λ (o : Outcome). merged_outcome (preceded (plain_tokens texts s.tokens.items) o) in
    c.loop-self.invariant.followed texts go
    ∙ ap out (goes_back p w (plain_widths s.innermost) (map plain_widths (reverse s.outer.items)) go (sym c.is_other.ensures ∙ c.loop-self-test.true))
    ∙ ap (λ items. out (preceded (token p TDedent ∷ []) (indented (back_to w (map plain_widths (reverse items))) p w (map plain_widths (reverse items)) go))) (outer-none s.outer.items c.pop.new.self.items c.in-None.ensures.items c.in-None.ensures.rest c.in-None.ensures.cases.0)

pub loop-self-preserved : goal.loop-self-preserved
unfolding followed
loop-self-preserved c =
    let s = c.loop-self.self in
    let w = plain_widths c.args.widths in
    let p = plain_place c.args.place in
    let pushed = c.in_ok-push-in-Some.ensures in
    let back = c.push.new.self in
    let level = c.in-Some.level in
    record {
      followed = λ texts go.
          let out = λ (o : Outcome). merged_outcome (preceded (plain_tokens texts s.tokens.items) o) in
          let old = map plain_widths (reverse s.outer.items) in
          let gone = outer-popped s.outer.items c.pop.new.self.items level c.in-Some.ensures.items ∙ ap (λ v. plain_widths level ∷ map plain_widths (reverse v.items)) (sym pushed.outer) in
          c.loop-self.invariant.followed texts go
          ∙ ap out (goes_back p w (plain_widths s.innermost) old go (sym c.is_other.ensures ∙ c.loop-self-test.true))
          ∙ follows-pushed (plain_tokens texts s.tokens.items) (plain_tokens texts back.tokens.items) (token p TDedent) (pushed.tokens texts) (indented (back_to w old) p w old go)
          ∙ ap (λ lv. merged_outcome (preceded (plain_tokens texts back.tokens.items) (indented (back_to w lv) p w lv go))) gone;
      apart = λ a texts. apart-pushed (plain_tokens texts s.tokens.items) (plain_tokens texts back.tokens.items) p TDedent (pushed.tokens texts) refl (c.loop-self.invariant.apart a texts);
      numbers = pushed.numbers ∙ c.loop-self.invariant.numbers;
    }

pub returns-then-not-is_same-clause-value : goal.returns-then-not-is_same-clause-value
unfolding followed
returns-then-not-is_same-clause-value c texts go =
    let s = c.loop-self.self in
    let out = λ (o : Outcome). merged_outcome (preceded (plain_tokens texts s.tokens.items) o) in
    c.loop-self.invariant.followed texts go
    ∙ ap out (is_mixed (plain_place c.args.place) (plain_widths c.args.widths) (plain_widths s.innermost) (map plain_widths (reverse s.outer.items)) go (sym c.is_other.ensures ∙ c.loop-self-test.false) (sym c.is_same.ensures ∙ c.if-not-is_same.true))

pub returns-clause-value : goal.returns-clause-value
unfolding followed
returns-clause-value c texts go =
    let s = c.loop-self.self in
    let out = λ (o : Outcome). merged_outcome (preceded (plain_tokens texts s.tokens.items) o) in
    c.loop-self.invariant.followed texts go
    ∙ ap out (comes_back (plain_place c.args.place) (plain_widths c.args.widths) (plain_widths s.innermost) (map plain_widths (reverse s.outer.items)) go (sym c.is_same.ensures ∙ c.if-not-is_same.false))
