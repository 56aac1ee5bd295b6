use Rattle.std.proofs.Common.{arith}
use Rattle.shed_base.proofs.ToldBytes.{appended_slice}
use Rattle.shed_cli.proofs.FilesWritten.{front_taken, piece_within}
use Rattle.shed_cli.proofs.writing.write_all.Goals as goal

pub loop-done-preserved : goal.loop-done-preserved
loop-done-preserved g c =
    record {
      within = piece_within c.args.piece.now c.loop-done.done c.in-Ok.count c.loop-done.invariant.within c.in-Ok.ensures.count;
      held = appended_slice _ _ _ c.args.piece.now c.loop-done.done c.in-Ok.count c.loop-done.invariant.held c.in-Ok.ensures.written;
      later = omega (arith, c.loop-done.invariant.later, c.in-Ok.ensures.later);
    }

pub returns-in-Err-clause-part : goal.returns-in-Err-clause-part
returns-in-Err-clause-part g c =
    front_taken c.in-Err.refusal _ _ _ c.args.piece.now c.loop-done.done c.loop-done.invariant.held c.in-Err.ensures.part c.in-Err.ensures.kept
