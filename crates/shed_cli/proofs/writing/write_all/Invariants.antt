use Rattle.std.proofs.Common.{◌≡◌, ◌≤◌, ◌-◌, take, length}
use Rattle.shed_base.specs.Outside.{appended}
use Rattle.shed_cli.proofs.writing.write_all.Given as goal

abbrev pub invariant-loop-done : goal.invariant-loop-done
invariant-loop-done g l =
    record {
      within : l.done ≤ length l.piece;
      held : g.E.Sink.held l.err ≡ appended (g.E.Sink.held l.initial.err) (take l.done l.piece);
      later : g.E.Sink.faults l.initial.err ≤ g.E.Sink.faults l.err;
    }

abbrev pub decreases-loop-done : goal.decreases-loop-done
decreases-loop-done g l = length l.piece - l.done
