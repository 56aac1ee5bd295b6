use Rattle.std.proofs.Common.{sym, ap, ◌∙◌}
use Rattle.py_lexer.specs.declared.lines.Progress.TheVariants as progress
use Rattle.py_lexer.specs.Ahead.{settled}
use Rattle.py_lexer.specs.Wanted.{plain_sofar}
use Rattle.py_lexer.proofs.StepLemmas.{step-nothing}
use Rattle.py_lexer.proofs.lines.Lines.nothing.Goals as goal

pub returns-in-Fresh-clause-value : goal.returns-in-Fresh-clause-value
returns-in-Fresh-clause-value c texts end p s items =
    step-nothing texts c.args.self.now (progress.Settled c.in-Fresh.widths) end p s items (ap (λ q. settled (plain_sofar q)) c.in-Fresh.is)

pub returns-in-Settled-clause-value : goal.returns-in-Settled-clause-value
returns-in-Settled-clause-value c texts end p s items =
    step-nothing texts c.args.self.now c.args.self.now.progress end p s items (ap (λ q. settled (plain_sofar q)) c.in-Settled.is ∙ sym (ap plain_sofar c.in-Settled.is))

pub returns-in-Begun-clause-value : goal.returns-in-Begun-clause-value
returns-in-Begun-clause-value c texts end p s items =
    step-nothing texts c.args.self.now c.args.self.now.progress end p s items (ap (λ q. settled (plain_sofar q)) c.in-Begun.is ∙ sym (ap plain_sofar c.in-Begun.is))
