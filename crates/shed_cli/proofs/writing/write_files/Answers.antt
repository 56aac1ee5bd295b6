use Rattle.std.proofs.Common.{arith, ◌∙◌}
use Rattle.shed_cli.proofs.FilesWritten.{one_written, one_broken}
use Rattle.shed_cli.proofs.writing.write_files.Goals as goal

pub loop-file-preserved : goal.loop-file-preserved
loop-file-preserved g c =
    record {
      written = one_written c.args.files.now c.loop-file.file-index c.file-item.result _ _ _ _ _ c.loop-file-test.true c.file-item.is c.as_str.ensures.value c.as_slice.ensures.value c.loop-file.invariant.written c.in-Ok.ensures.written;
      later = omega (arith, c.loop-file.invariant.later, c.in-Ok.ensures.later);
      others = c.in-Ok.ensures.others ∙ c.loop-file.invariant.others;
    }

pub returns-in-Err-clause-part : goal.returns-in-Err-clause-part
returns-in-Err-clause-part g c failed =
    one_broken c.in-Err.refusal c.args.files.now c.loop-file.file-index c.file-item.result _ _ _ _ _ c.loop-file-test.true c.file-item.is c.as_str.ensures.value c.as_slice.ensures.value c.loop-file.invariant.written c.in-Err.ensures.written failed
