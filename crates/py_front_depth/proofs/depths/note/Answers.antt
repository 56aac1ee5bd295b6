use Rattle.std.proofs.Common.{refl}
use Rattle.py_front_depth.proofs.NotedDepths.{put_so}
use Rattle.py_front_depth.proofs.depths.note.Goals as goal

pub returns-in_ok-insert : goal.returns-in_ok-insert
returns-in_ok-insert c =
    put_so _ (λ p q. refl) c.args.depths.now.entries c.insert.new.self.entries c.args.place c.args.above c.in_ok-depth.depth c.depth_noted.result c.in_ok-depth.ensures c.depth_noted.ensures c.if-depth_noted-depth.true c.in_ok-insert.ensures.entries
