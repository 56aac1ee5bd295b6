-- What is written in several calls.
use Rattle.std.proofs.Common.{◌≡◌, ℕ, zero, suc, ◌+◌, ◌-◌, ◌<◌, ◌≤◌, List, [], ◌∷◌, Option, Some, Err, length, take, drop, get_or, refl, sym, ap, ◌∙◌, arith, length-drop}
use Rattle.std.specs.Prelude.{IsErrOf, slice_get, option_map}
use Rattle.std.proofs.lemmas.List.{length-take}
use Rattle.std.proofs.lemmas.Option.{slice_get-get_or, slice_get-map}
use Rattle.shed_base.specs.declared.refusals.IoRefusal.{IoRefusal}
use Rattle.shed_base.specs.declared.refusals.IoRefusal.TheVariants.{Failed, NoMemory}
use Rattle.shed_base.specs.Outside.{appended}
use Rattle.shed_base.specs.Files.{Files, told_with_file, WritesFile}
use Rattle.shed_base.proofs.ToldBytes.{appended_slice}
use Rattle.cpp_meaning.specs.Text.{File}
use Rattle.shed_meaning.specs.Outcome.{with_files, BreaksOff}
use Rattle.cpp_text.specs.declared.file.File.{File as FileToWrite}
use Rattle.cpp_text.specs.Plain.{plain_file, plain_files}

-- a piece of which some front was taken, at a call that fails
pub front_taken : (refusal : IoRefusal) (before between after : Option (List ℕ)) (piece : List ℕ) (done : ℕ) → between ≡ appended before (take done piece) → (IsErrOf {T = ℕ} (Err refusal) Failed → (n : ℕ) × (after ≡ appended between (take n (take (length piece - done) (drop done piece))))) → (IsErrOf {T = ℕ} (Err refusal) NoMemory → after ≡ between) → (n : ℕ) × (after ≡ appended before (take n piece))
front_taken Failed before between after piece done e part kept = let p = part refl in (done + p.0, appended_slice before between after piece done p.0 e p.1)
front_taken NoMemory before between after piece done e part kept = (done, kept refl ∙ e)

-- one file more
with_files-take : (told : Option Files) (files : List File) (i : ℕ) (f : File) → slice_get files i ≡ Some f → with_files told (take (suc i) files) ≡ told_with_file (with_files told (take i files)) f.name f.bytes
with_files-take told [] i f e = cc
with_files-take told (g ∷ files) zero f e = let same : g ≡ f = cc in ap (λ (h : File). told_with_file told h.name h.bytes) same
with_files-take told (g ∷ files) (suc i) f e = with_files-take (told_with_file told g.name g.bytes) files i f e

-- the file that the loop is at
file_at : (files : List FileToWrite) (i : ℕ) (f : FileToWrite) → i < length files → f ≡ get_or files i f → slice_get (plain_files files) i ≡ Some (plain_file f)
file_at files i f within is =
    slice_get-map plain_file files i ∙ ap (option_map plain_file) (slice_get-get_or files i f within ∙ ap Some (sym is))

pub one_written : (files : List FileToWrite) (i : ℕ) (f : FileToWrite) (name bytes : List ℕ) (first old new : Option Files) → i < length files → f ≡ get_or files i f → name ≡ (plain_file f).name → bytes ≡ (plain_file f).bytes → old ≡ with_files first (take i (plain_files files)) → new ≡ told_with_file old name bytes → new ≡ with_files first (take (i + 1) (plain_files files))
one_written files i f name bytes first old new within is same_name same_bytes before e =
    e
    ∙ ap (λ (n : List ℕ). told_with_file old n bytes) same_name
    ∙ ap (λ (b : List ℕ). told_with_file old (plain_file f).name b) same_bytes
    ∙ ap (λ (o : Option Files). told_with_file o (plain_file f).name (plain_file f).bytes) before
    ∙ sym (with_files-take first (plain_files files) i (plain_file f) (file_at files i f within is))
    ∙ ap (λ (n : ℕ). with_files first (take n (plain_files files))) (let e : suc i ≡ i + 1 = omega arith in e)

pub one_broken : (refusal : IoRefusal) (files : List FileToWrite) (i : ℕ) (f : FileToWrite) (name bytes : List ℕ) (first old new : Option Files) → i < length files → f ≡ get_or files i f → name ≡ (plain_file f).name → bytes ≡ (plain_file f).bytes → old ≡ with_files first (take i (plain_files files)) → WritesFile old new name bytes {T = Unit {0}} (Err refusal) → IsErrOf {T = Unit {0}} (Err refusal) Failed → BreaksOff (plain_files files) first new
one_broken Failed files i f name bytes first old new within is same_name same_bytes before w failed =
    record {
      whole = i;
      failing = plain_file f;
      at = file_at files i f within is;
      count = w.0;
      left =
          w.1
          ∙ ap (λ (n : List ℕ). told_with_file old n (take w.0 bytes)) same_name
          ∙ ap (λ (b : List ℕ). told_with_file old (plain_file f).name (take w.0 b)) same_bytes
          ∙ ap (λ (o : Option Files). told_with_file o (plain_file f).name (take w.0 (plain_file f).bytes)) before;
    }
one_broken NoMemory files i f name bytes first old new within is same_name same_bytes before w failed = cc

pub piece_within : (piece : List ℕ) (done count : ℕ) → done ≤ length piece → count ≤ length (take (length piece - done) (drop done piece)) → done + count ≤ length piece
piece_within piece done count within h = omega (arith, length-take (length piece - done) (drop done piece), length-drop done piece)
