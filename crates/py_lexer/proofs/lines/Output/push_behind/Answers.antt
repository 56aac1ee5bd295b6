use Rattle.std.proofs.Common.{◌∷◌, [], ◌++◌, sym, ap, ◌∙◌, subst}
use Rattle.std.proofs.lemmas.Result.{on_ok_weaker}
use Rattle.py_tokens.specs.Token.{TText}
use Rattle.py_tokens.specs.Tokens.{token, merged_outcome, preceded}
use Rattle.py_lexer.specs.PlainTokens.{plain_place, plain_kind, plain_tokens}
use Rattle.py_lexer.specs.Ahead.{Apart}
use Rattle.py_lexer.proofs.MergeLemmas.{apart-behind, apart-longer, outcome-texts}
use Rattle.py_lexer.proofs.OutputLemmas.{follows-pushed, no_text_kind}
use Rattle.py_lexer.proofs.lines.Output.push_behind.Goals as goal

pub returns-in_ok-append-in-Text-clause-follows : goal.returns-in_ok-append-in-Text-clause-follows
returns-in_ok-append-in-Text-clause-follows c =
    on_ok_weaker c.push.result
    (λ tokens texts rest.
    let front = plain_tokens texts c.args.self.now.tokens.items in
    let p = plain_place c.args.last.place in
    let longer = c.in-Text.longer in
    ap (λ k. merged_outcome (preceded (front ++ token p (plain_kind texts k) ∷ []) (preceded (token (plain_place c.args.place) (TText c.args.text) ∷ []) rest))) c.in-Text.is
    ∙ outcome-texts front p (plain_place c.args.place) longer c.args.text rest
    ∙ ap (λ t. merged_outcome (preceded (front ++ token p (TText t) ∷ []) rest)) (sym c.in_ok-append-in-Text.ensures)
    ∙ ap (λ ts. merged_outcome (preceded ts rest)) (sym (tokens texts)))
    c.push.ensures.tokens

pub returns-in_ok-append-in-Text-clause-apart : goal.returns-in_ok-append-in-Text-clause-apart
returns-in_ok-append-in-Text-clause-apart c =
    on_ok_weaker c.push.result
    (λ tokens a texts.
    let front = plain_tokens texts c.args.self.now.tokens.items in
    let p = plain_place c.args.last.place in
    subst Apart (sym (tokens texts)) (apart-longer front p c.in-Text.longer c.append.new.self (subst (λ k. Apart (front ++ token p (plain_kind texts k) ∷ [])) c.in-Text.is (a texts))))
    c.push.ensures.tokens

pub returns-in_ok-push-in_default : goal.returns-in_ok-push-in_default
returns-in_ok-push-in_default c =
    let first = c.in_ok-push-in_default.ensures in
    let second = c.push-in_default-2.ensures in
    let p = plain_place c.args.last.place in
    let q = plain_place c.args.place in
    record {
      follows = on_ok_weaker c.push-in_default-2.result
          (λ tokens texts.
          let front = plain_tokens texts c.args.self.now.tokens.items in
          follows-pushed (front ++ token p (plain_kind texts c.args.last.kind) ∷ []) (plain_tokens texts c.push-in_default-2.new.self.tokens.items) (token q (TText c.args.text))
          (tokens texts ∙ ap (λ ts. ts ++ token q (TText c.args.text) ∷ []) (first.tokens texts)))
          second.tokens;
      innermost = second.innermost ∙ first.innermost;
      outer = second.outer ∙ first.outer;
      apart = on_ok_weaker c.push-in_default-2.result
          (λ tokens a texts.
          let front = plain_tokens texts c.args.self.now.tokens.items in
          subst Apart (sym (tokens texts ∙ ap (λ ts. ts ++ token q (TText c.args.text) ∷ []) (first.tokens texts)))
          (apart-behind front p q (plain_kind texts c.args.last.kind) (TText c.args.text) (no_text_kind texts c.args.last.kind c.in_default.not-Text) (a texts)))
          second.tokens;
      numbers = on_ok_weaker c.push-in_default-2.result (λ numbers. numbers ∙ first.numbers) second.numbers;
    }
