use Rattle.std.proofs.Common.{Some, sym, ap, ◌∙◌, subst}
use Rattle.std.specs.Prelude.{map, string_bytes, vec_items, option_map}
use Rattle.shed_meaning.specs.Outcome.{GivesModule}
use Rattle.shed_cli.proofs.Judgements.{judged_text, judged_missing}
use Rattle.shed_cli.proofs.translation.judge.Goals as goal

pub returns-in-Ok-Some-clause-judged : goal.returns-in-Ok-Some-clause-judged
returns-in-Ok-Some-clause-judged g c =
    let files = g.F.Folder.files c.args.folder.now in
    judged_text (map string_bytes c.args.words.now) files (g.F.Folder.read_faults c.args.folder.now) (g.F.Folder.read_faults c.read_module.new.folder) c.in-Some.name.now c.as_slice.result.now c.judge_text.result (sym c.in-Some.ensures)
    (subst (GivesModule files c.in-Some.name.now) (ap (option_map vec_items) c.in-Ok-Some.field-0-is ∙ ap Some (sym c.as_slice.ensures.value)) c.in-Ok-Some.ensures.gives)
    c.judge_text.ensures

pub returns-in-Ok-None-clause-judged : goal.returns-in-Ok-None-clause-judged
returns-in-Ok-None-clause-judged g c =
    let files = g.F.Folder.files c.args.folder.now in
    judged_missing (map string_bytes c.args.words.now) files (g.F.Folder.read_faults c.args.folder.now) (g.F.Folder.read_faults c.read_module.new.folder) c.in-Some.name.now c.missing.result (sym c.in-Some.ensures)
    (subst (GivesModule files c.in-Some.name.now) (ap (option_map vec_items) c.in-Ok-None.field-0-is) c.in-Ok-None.ensures.gives)
    c.missing.ensures
