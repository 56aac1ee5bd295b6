use Rattle.std.proofs.Common.{◌≡◌, map}
use Rattle.std.specs.Ordering.{nat_cmp}
use Rattle.std.specs.Cmp.Lexicographic.{slice_cmp}
use Rattle.std.specs.FinMap.{find}
use Rattle.std.specs.VecDeque.Iter.{deque_iter_rest}
use Rattle.shed_base.specs.Files.{file_of}
use Rattle.shed_base.specs.Log.{entry_of}
use Rattle.shed_base.proofs.memory_folder.MemoryFolder.file.Given as goal

-- the files that were passed have other names
abbrev pub invariant-loop-file : goal.invariant-loop-file
invariant-loop-file l = file_of l.self.files l.name ≡ find (slice_cmp nat_cmp) l.name (map entry_of (deque_iter_rest l.file-iterator))
