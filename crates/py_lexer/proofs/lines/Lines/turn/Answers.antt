use Rattle.std.proofs.Common.{◌∷◌, sym, subst}
use Rattle.py_lexer.specs.PlainTokens.{plain_place}
use Rattle.py_lexer.specs.PlainLexemes.{plain_lexeme}
use Rattle.py_lexer.specs.Reading.{IsRefused}
use Rattle.py_lexer.specs.Ahead.{located}
use Rattle.py_lexer.specs.Wanted.{ahead}
use Rattle.py_lexer.proofs.lines.Lines.turn.Goals as goal

pub returns-in_ok-broken-in-Broken-clause-value : goal.returns-in_ok-broken-in-Broken-clause-value
returns-in_ok-broken-in-Broken-clause-value c texts end items extends =
    subst (λ x. IsRefused (ahead texts c.args.self.now end (located (plain_place c.args.place) (plain_lexeme x) c.args.rest.now ∷ items)) c.in_ok-broken-in-Broken.field-0) (sym c.in-Broken.is) (c.in_ok-broken-in-Broken.ensures texts end items)
