-- What a read gives and leaves, as lists.
use Rattle.std.proofs.Common.{◌≡◌, ℕ, ◌+◌, ◌≤◌, List, ◌++◌, length, take, drop, ap, ◌∙◌}
use Rattle.std.proofs.lemmas.List.{length-take-le, take-append-drop, drop-drop, take_at}

-- what was copied to the front, and what is left after it, make up what there was
pub copied_and_left : (bytes copied into : List ℕ) (taken count : ℕ) → copied ≡ take count (drop taken bytes) → count ≤ length (drop taken bytes) → take count (copied ++ drop count into) ++ drop (taken + count) bytes ≡ drop taken bytes
copied_and_left bytes copied into taken count same room =
    let long : length copied ≡ count = ap length same ∙ length-take-le count (drop taken bytes) room in
    let front : take count (copied ++ drop count into) ≡ copied = take_at copied (drop count into) count long in
    let whole : take count (drop taken bytes) ++ drop count (drop taken bytes) ≡ drop taken bytes = take-append-drop count (drop taken bytes) in
    let left : drop count (drop taken bytes) ≡ drop (taken + count) bytes = drop-drop count taken bytes in
    cc
