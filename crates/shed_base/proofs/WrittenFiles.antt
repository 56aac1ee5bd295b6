-- What is found in a folder after writes, and what a read tells of a file.
use Rattle.std.proofs.Common.{◌≡◌, ◌≢◌, ℕ, ◌<◌, ◌≤◌, Bool, true, false, cond, List, length, take, Option, Some, None, option_map, refl, sym, ap, ◌∙◌, arith}
use Rattle.std.specs.Ordering.{nat_cmp, eq_by_cmp}
use Rattle.std.specs.Cmp.Lexicographic.{slice_cmp}
use Rattle.std.specs.FinMap as map
use Rattle.std.proofs.lemmas.Bool.{false_from_ne_true}
use Rattle.std.proofs.lemmas.Cmp.{nat_list_cmp_total}
use Rattle.std.proofs.lemmas.List.{length-take, take_all}
use Rattle.std.proofs.lemmas.Map.Text.{is_eq-slice_cmp}
use Rattle.std.proofs.lemmas.Option.{same_Some}
use Rattle.std.proofs.lemmas.Slice.Eq.{bytes_eq-Decides}
use Rattle.shed_base.specs.Files.{Files, file_of, with_file, ReadsFile}

-- the test by which a folder looks a name up
same_name : (name : List ℕ) → eq_by_cmp (slice_cmp nat_cmp) name name ≡ true
same_name name = is_eq-slice_cmp name name ∙ (bytes_eq-Decides name name).1 refl

other_name : (name other : List ℕ) → other ≢ name → eq_by_cmp (slice_cmp nat_cmp) other name ≡ false
other_name name other differ = is_eq-slice_cmp other name ∙ false_from_ne_true _ (λ e. differ ((bytes_eq-Decides other name).0 e))

-- the later of two writes is what is found
later_found : (found : Bool) (first second : List ℕ) (old : Option (List ℕ)) → cond found (Some second) (cond found (Some first) old) ≡ cond found (Some second) old
later_found true first second old = refl
later_found false first second old = refl

pub file_of-with_file : (files : Files) (name bytes : List ℕ) → file_of (with_file files name bytes) name ≡ Some bytes
file_of-with_file files name bytes =
    map.get-insert nat_list_cmp_total files name bytes name ∙ ap (λ b. cond b (Some bytes) (file_of files name)) (same_name name)

pub file_of-with_file_other : (files : Files) (name bytes other : List ℕ) → other ≢ name → file_of (with_file files name bytes) other ≡ file_of files other
file_of-with_file_other files name bytes other differ =
    map.get-insert nat_list_cmp_total files name bytes other ∙ ap (λ b. cond b (Some bytes) (file_of files other)) (other_name name other differ)

pub file_of-empty : (name : List ℕ) → file_of map.empty name ≡ None
file_of-empty name = map.get-empty (slice_cmp nat_cmp) name

-- two folders are the same where each name is found alike
pub same_files : (one two : Files) → ((name : List ℕ) → file_of one name ≡ file_of two name) → one ≡ two
same_files one two alike = map.same_map nat_list_cmp_total (map.slice_cmp-IsAntisymmetric map.nat_cmp-IsAntisymmetric) one two alike

pub with_file-with_file : (files : Files) (name first second : List ℕ) → with_file (with_file files name first) name second ≡ with_file files name second
with_file-with_file files name first second =
    same_files _ _ (λ q.
    map.get-insert nat_list_cmp_total (with_file files name first) name second q
    ∙ ap (cond (eq_by_cmp (slice_cmp nat_cmp) q name) (Some second)) (map.get-insert nat_list_cmp_total files name first q)
    ∙ later_found (eq_by_cmp (slice_cmp nat_cmp) q name) first second (file_of files q)
    ∙ sym (map.get-insert nat_list_cmp_total files name second q))

nothing_found : (most : ℕ) (file : Option (List ℕ)) → option_map (λ (bytes : List ℕ). take most bytes) file ≡ None → file ≡ None
nothing_found most None e = refl
nothing_found most (Some content) e = cc

something_found : (most : ℕ) (file : Option (List ℕ)) (bytes : List ℕ) → option_map (λ (content : List ℕ). take most content) file ≡ Some bytes → (content : List ℕ) × (file ≡ Some content) × (take most content ≡ bytes)
something_found most None bytes e = cc
something_found most (Some content) bytes e = (content, refl, same_Some _ _ e)

whole_found : (most : ℕ) (file : Option (List ℕ)) (bytes content : List ℕ) → file ≡ Some content → take most content ≡ bytes → length bytes < most → file ≡ Some bytes
whole_found most file bytes content is front short =
    let all : length content ≤ most = omega (arith, ap length front, length-take most content) in
    is ∙ ap Some (sym (take_all most content all) ∙ front)

-- a read that answers None finds no such file
pub ReadsFile-none : (files : Files) (name : List ℕ) (most : ℕ) → ReadsFile (Some files) name most None → file_of files name ≡ None
ReadsFile-none files name most reads = nothing_found most (file_of files name) (same_Some _ _ reads)

-- a read that answers bytes gives the front of a file that stands there
pub ReadsFile-some : (files : Files) (name : List ℕ) (most : ℕ) (bytes : List ℕ) → ReadsFile (Some files) name most (Some bytes) → (content : List ℕ) × (file_of files name ≡ Some content) × (take most content ≡ bytes)
ReadsFile-some files name most bytes reads = something_found most (file_of files name) bytes (same_Some _ _ reads)

-- and all of it where it is shorter than what was asked for
pub ReadsFile-whole : (files : Files) (name : List ℕ) (most : ℕ) (bytes : List ℕ) → ReadsFile (Some files) name most (Some bytes) → length bytes < most → file_of files name ≡ Some bytes
ReadsFile-whole files name most bytes reads short =
    let found = ReadsFile-some files name most bytes reads in
    whole_found most (file_of files name) bytes found.0 found.1 found.2 short

-- for an attribute `using` or a tactic's list
pub ruleset written_files = (file_of-empty, file_of-with_file, file_of-with_file_other, with_file-with_file)
