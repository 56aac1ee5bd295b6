use Rattle.std.proofs.Common.{refl, subst}
use Rattle.std.specs.Prelude.{IfErr}
use Rattle.shed_meaning.specs.Outcome.{TooLarge}
use Rattle.shed_source.specs.Faults.{IsFaultOf}
use Rattle.shed_cli.proofs.Judgements.{text_refused, text_faulty}
use Rattle.shed_cli.proofs.translation.judge_text.Goals as goal

pub returns-then-text-gt-MOST_BYTES : goal.returns-then-text-gt-MOST_BYTES
returns-then-text-gt-MOST_BYTES c =
    text_refused c.args.name.now c.args.text.now (TooLarge c.args.name.now) c.too_large.result (refl, c.if-text-gt-MOST_BYTES.true) c.too_large.ensures

pub returns-in-Ok-Err : goal.returns-in-Ok-Err
returns-in-Ok-Err c =
    text_faulty c.args.name.now c.args.text.now c.in-Ok-Err.fault c.faulty.result c.if-text-gt-MOST_BYTES.false
    (subst (λ r. IfErr r (IsFaultOf c.args.text.now)) c.in-Ok-Err.field-0-is c.in-Ok-Err.ensures.fault) c.faulty.ensures
