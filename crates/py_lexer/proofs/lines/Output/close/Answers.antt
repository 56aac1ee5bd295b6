use Rattle.std.proofs.Common.{◌++◌, length, ap, ◌∙◌, refl}
use Rattle.py_tokens.specs.Token.{TDedent}
use Rattle.py_tokens.specs.Tokens.{dedents}
use Rattle.py_lexer.specs.PlainTokens.{plain_place, plain_tokens}
use Rattle.py_lexer.proofs.OutputLemmas.{apart-pushed, dedents-one}
use Rattle.py_lexer.proofs.lines.Output.close.Goals as goal

pub loop-level-preserved : goal.loop-level-preserved
loop-level-preserved c =
    let s = c.loop-level.self in
    let p = plain_place c.args.last in
    let back = c.push.new.self in
    let pushed = c.in_ok-push.ensures in
    record {
      tokens = λ texts.
          ap (λ v. plain_tokens texts back.tokens.items ++ dedents p (length v.items)) pushed.outer
          ∙ dedents-one (plain_tokens texts s.tokens.items) (plain_tokens texts back.tokens.items) p s.outer.items c.pop.new.self.items c.in-Some._level (pushed.tokens texts) c.in-Some.ensures.items
          ∙ c.loop-level.invariant.tokens texts;
      apart = λ a texts. apart-pushed (plain_tokens texts s.tokens.items) (plain_tokens texts back.tokens.items) p TDedent (pushed.tokens texts) refl (c.loop-level.invariant.apart a texts);
      numbers = pushed.numbers ∙ c.loop-level.invariant.numbers;
    }
