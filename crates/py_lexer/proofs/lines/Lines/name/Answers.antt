use Rattle.std.proofs.Common.{refl, ◌∷◌, sym, ◌∙◌, subst}
use Rattle.std.proofs.lemmas.Result.{IfOk-weaker, on_ok_weaker}
use Rattle.py_tokens.specs.Token.{TName}
use Rattle.py_tokens.specs.Lexeme.{Word}
use Rattle.py_lexer.specs.PlainTokens.{plain_place}
use Rattle.py_lexer.specs.Ahead.{located}
use Rattle.py_lexer.specs.Wanted.{ahead, Turned}
use Rattle.py_lexer.specs.Numbering.{numbers_of, AreNumbered}
use Rattle.py_lexer.proofs.StepLemmas.{name-text}
use Rattle.py_lexer.proofs.NumberingLemmas.{numbered-one}
use Rattle.py_lexer.proofs.lines.Lines.name.Goals as goal

pub returns-in-Ok-clause-value : goal.returns-in-Ok-clause-value
returns-in-Ok-clause-value c =
    IfOk-weaker c.plain.result _ _
    (λ r h texts end s items extends.
    subst (λ t. Turned r (ahead texts c.plain.new.self end items) (ahead texts c.args.self.now end (located (plain_place c.args.place) (Word (TName t)) s ∷ items)))
    (name-text c.intern.new.self c.in-Ok.number.0 _ texts c.in-Ok.ensures.place extends ∙ c.as_str.ensures.value) (h texts end s items refl))
    c.plain.ensures.value

pub returns-in-Ok-clause-numbered : goal.returns-in-Ok-clause-numbered
returns-in-Ok-clause-numbered c =
    let old = c.args.names.now in
    let new = c.intern.new.self in
    on_ok_weaker c.plain.result
    (λ e first h.
    subst (AreNumbered first new) (sym e) (numbered-one first old new (numbers_of c.args.self.now.output.tokens.items) c.in-Ok.number.0 _ c.in-Ok.ensures.texts c.in-Ok.ensures.place h))
    c.plain.ensures.numbers
