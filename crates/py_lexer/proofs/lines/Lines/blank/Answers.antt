use Rattle.std.proofs.Common.{sym, ap, ◌∙◌}
use Rattle.py_lexer.specs.declared.lines.Progress.TheVariants as progress
use Rattle.py_lexer.specs.Ahead.{Blanks, blanked}
use Rattle.py_lexer.specs.Wanted.{plain_sofar}
use Rattle.py_lexer.proofs.StepLemmas.{step-blank}
use Rattle.py_lexer.proofs.lines.Lines.blank.Goals as goal

pub returns-in_ok-wider-in-Fresh-clause-value : goal.returns-in_ok-wider-in-Fresh-clause-value
returns-in_ok-wider-in-Fresh-clause-value c texts end p s items =
    step-blank texts c.args.self.now (progress.Fresh c.in_ok-wider-in-Fresh.field-0) end p c.args.c s items (ap (λ q. blanked (plain_sofar q) c.args.c) c.in-Fresh.is ∙ sym (ap Blanks c.in_ok-wider-in-Fresh.ensures))

pub returns-in-Settled-clause-value : goal.returns-in-Settled-clause-value
returns-in-Settled-clause-value c texts end p s items =
    step-blank texts c.args.self.now c.args.self.now.progress end p c.args.c s items (ap (λ q. blanked (plain_sofar q) c.args.c) c.in-Settled.is ∙ sym (ap plain_sofar c.in-Settled.is))

pub returns-in-Begun-clause-value : goal.returns-in-Begun-clause-value
returns-in-Begun-clause-value c texts end p s items =
    step-blank texts c.args.self.now c.args.self.now.progress end p c.args.c s items (ap (λ q. blanked (plain_sofar q) c.args.c) c.in-Begun.is ∙ sym (ap plain_sofar c.in-Begun.is))
