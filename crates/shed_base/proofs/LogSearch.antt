-- A log that is searched from its newest write on.
use Rattle.std.proofs.Common.{◌≡◌, ℕ, Bool, cond, List, ◌∷◌, map, Some, string_bytes, bytes_eq, ap, ◌∙◌}
use Rattle.std.specs.Ordering.{nat_cmp}
use Rattle.std.specs.Cmp.Lexicographic.{slice_cmp}
use Rattle.std.specs.FinMap.{find}
use Rattle.std.proofs.lemmas.Map.Text.{is_eq-slice_cmp}
use Rattle.shed_base.specs.declared.memory_folder.StoredFile.{StoredFile}
use Rattle.shed_base.specs.Log.{entry_of}

-- the write at the front is the one that is looked for, or the search goes on behind it
pub find_at_front : (name : List ℕ) (log older : List StoredFile) (file : StoredFile) (same : Bool) → log ≡ file ∷ older → bytes_eq name (string_bytes file.name) ≡ same → find (slice_cmp nat_cmp) name (map entry_of log) ≡ cond same (Some file.bytes.items) (find (slice_cmp nat_cmp) name (map entry_of older))
find_at_front name log older file same begins tested =
    ap (λ l. find (slice_cmp nat_cmp) name (map entry_of l)) begins
    ∙ ap (λ b. cond b (Some file.bytes.items) (find (slice_cmp nat_cmp) name (map entry_of older))) (is_eq-slice_cmp name (string_bytes file.name) ∙ tested)
