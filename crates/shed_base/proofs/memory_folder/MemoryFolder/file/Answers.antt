use Rattle.std.proofs.Common.{◌≡◌, ap, sym, ◌∙◌, rules, map, true, false, string_bytes, bytes_eq}
use Rattle.std.specs.Ordering.{nat_cmp}
use Rattle.std.specs.Cmp.Lexicographic.{slice_cmp}
use Rattle.std.specs.FinMap.{find, get-from_entries}
use Rattle.std.proofs.lemmas.Cmp.{nat_list_cmp_total}
use Rattle.shed_base.specs.Files.{file_of}
use Rattle.shed_base.specs.Log.{entry_of}
use Rattle.shed_base.proofs.LogSearch.{find_at_front}
use Rattle.shed_base.proofs.memory_folder.MemoryFolder.file.Goals as goal

pub loop-file-init : goal.loop-file-init
loop-file-init c =
    ap (λ s. file_of s.files c.args.name.now) (sym c.self.view_is)
    ∙ get-from_entries nat_list_cmp_total _ _
    ∙ ap (λ log. find (slice_cmp nat_cmp) c.args.name.now (map entry_of log)) (sym c.into_iter-file-iterator.ensures.into_iter_gives.0)

pub returns-then-eq : goal.returns-then-eq
returns-then-eq c =
    let same : bytes_eq c.args.name.now (string_bytes c.in-Some.file.now.name) ≡ true = search rules in
    rw c.as_slice.ensures.value (sym (c.loop-file.invariant ∙ find_at_front _ _ _ _ true c.in-Some.ensures.steps same))

pub loop-file-preserved : goal.loop-file-preserved
loop-file-preserved c =
    let other : bytes_eq c.args.name.now (string_bytes c.in-Some.file.now.name) ≡ false = search rules in
    c.loop-file.invariant ∙ find_at_front _ _ _ _ false c.in-Some.ensures.steps other
