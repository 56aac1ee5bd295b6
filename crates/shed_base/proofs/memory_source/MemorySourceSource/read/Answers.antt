use Rattle.std.proofs.Common.{◌≡◌, ◌≤◌, Some, length, take, drop, ap, sym, arith}
use Rattle.std.proofs.lemmas.Grind.{common_steps}
use Rattle.shed_base.proofs.Lists.{copied_and_left}
use Rattle.shed_base.proofs.memory_source.MemorySourceSource.read.Goals as goal

pub returns-clause-taken : goal.returns-clause-taken
returns-clause-taken c =
    let same : c.copy_from_slice.new.self ≡ take c.min-count.result (drop c.self.inside.taken c.self.inside.bytes.items) = grind (arith, common_steps) in
    let room : c.min-count.result ≤ length (drop c.self.inside.taken c.self.inside.bytes.items) = grind (arith, common_steps) in
    rw (← c.self.view_is) (ap Some (sym (copied_and_left _ _ _ _ _ same room)))
