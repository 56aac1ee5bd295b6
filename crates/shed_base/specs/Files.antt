-- The files of a folder, and what reading and writing one of them does.
use Rattle.std.specs.Prelude.{◌≡◌, ℕ, List, take, Option, option_map, Result, Ok, Err}
use Rattle.std.specs.Ordering.{nat_cmp}
use Rattle.std.specs.Cmp.Lexicographic.{slice_cmp}
use Rattle.std.specs.FinMap as map
use Rattle.shed_base.specs.declared.refusals.IoRefusal.{IoRefusal}
use Rattle.shed_base.specs.declared.refusals.IoRefusal.TheVariants.{Failed, NoMemory}

-- from names to contents, both as bytes
abbrev pub Files : Type 0
Files = map.FinMap (slice_cmp nat_cmp) (List ℕ)

-- the contents of a file, if there is one of that name
abbrev pub file_of : Files → List ℕ → Option (List ℕ)
file_of files name = map.get files name

-- the files once this one is written
abbrev pub with_file : Files → List ℕ → List ℕ → Files
with_file files name bytes = map.insert files name bytes

-- the same, where they are told
abbrev pub told_with_file : Option Files → List ℕ → List ℕ → Option Files
told_with_file told name bytes = option_map (λ (files : Files). with_file files name bytes) told

-- a read answers with the first bytes of the file, or with none exactly where there is no such file
abbrev pub ReadsFile : Option Files → List ℕ → ℕ → Option (List ℕ) → Type 0
ReadsFile told name most found =
    option_map (λ (files : Files). option_map (λ (bytes : List ℕ). take most bytes) (file_of files name)) told ≡ option_map (λ (_ : Files). found) told

-- what a write leaves, by its answer: the whole file, a prefix of it under its name, or nothing new
abbrev pub WritesFile : Option Files → Option Files → List ℕ → List ℕ → {T : Type 0} → Result T IoRefusal → Type 0
WritesFile old new name bytes (Ok done) = new ≡ told_with_file old name bytes
WritesFile old new name bytes (Err Failed) = (count : ℕ) × (new ≡ told_with_file old name (take count bytes))
WritesFile old new name bytes (Err NoMemory) = new ≡ old
