use Rattle.std.proofs.Common.{refl, ap, ◌∙◌, subst, Err}
use Rattle.shed_base.specs.Outside.{Rose}
use Rattle.shed_cli.specs.Judging.{number_of}
use Rattle.shed_cli.proofs.Endings.{end_unread, end_refused, end_read_failed, end_no_memory, end_no_memory_writing, end_write_failed, end_translated}
use Rattle.shed_cli.proofs.top.carry_out.Goals as goal

pub returns-in-Unread-clause-outcome : goal.returns-in-Unread-clause-outcome
returns-in-Unread-clause-outcome g c = end_unread _ _ _ _ refl c.in-Unread.ensures.judged c.in-Unread.ensures.kept c.report.ensures.says

pub returns-in-Refused-clause-outcome : goal.returns-in-Refused-clause-outcome
returns-in-Refused-clause-outcome g c =
    let j = c.in-Refused.ensures.judged in
    end_refused _ _ _ _ refl j.0 c.as_str.result.now (number_of c.in-Refused.status) j.1 (c.as_str.ensures.value ∙ j.2) j.3 c.in-Refused.ensures.kept c.report-in-Refused.ensures.says

pub returns-in-ReadFailed-clause-outcome : goal.returns-in-ReadFailed-clause-outcome
returns-in-ReadFailed-clause-outcome g c =
    let j = c.in-ReadFailed.ensures.judged in
    end_read_failed _ _ _ _ refl j.0 j.1 j.2 c.in-ReadFailed.ensures.kept c.report-in-ReadFailed.ensures.says

pub returns-in-OutOfMemory-clause-outcome : goal.returns-in-OutOfMemory-clause-outcome
returns-in-OutOfMemory-clause-outcome g c =
    let j = c.in-OutOfMemory.ensures.judged in
    end_no_memory _ _ _ _ refl j.0 j.1 c.in-OutOfMemory.ensures.kept c.report-in-OutOfMemory.ensures.says

pub returns-in-Ok-clause-outcome : goal.returns-in-Ok-clause-outcome
returns-in-Ok-clause-outcome g c =
    end_translated _ _ _ _ refl c.in-Ready.files.items c.as_slice.result.now (g.F.Folder.files c.judge.new.folder) c.in-Ready.ensures.judged c.as_slice.ensures.value c.in-Ready.ensures.kept c.in-Ok.ensures.all refl refl

pub returns-in-Err-Failed-clause-outcome : goal.returns-in-Err-Failed-clause-outcome
returns-in-Err-Failed-clause-outcome g c =
    let failed = ap Err c.in-Err-Failed.field-0-is in
    end_write_failed _ _ _ _ refl c.in-Ready.files.items c.as_slice.result.now (g.F.Folder.files c.judge.new.folder) c.in-Ready.ensures.judged c.as_slice.ensures.value c.in-Ready.ensures.kept
    (c.in-Err-Failed.ensures.part failed) (subst (λ n. Rose n (g.F.Folder.write_faults c.write_files.new.folder)) c.in-Ready.ensures.others (c.in-Err-Failed.ensures.failed failed)) c.report-in-Err-Failed.ensures.says

pub returns-clause-outcome : goal.returns-clause-outcome
returns-clause-outcome g c =
    let w = c.in-Err-NoMemory.ensures.whole (ap Err c.in-Err-NoMemory.field-0-is) in
    end_no_memory_writing _ _ _ _ refl c.in-Ready.files.items c.as_slice.result.now (g.F.Folder.files c.judge.new.folder) c.in-Ready.ensures.judged c.as_slice.ensures.value c.in-Ready.ensures.kept
    w.0 w.1 c.report-in-Err-NoMemory.ensures.says
