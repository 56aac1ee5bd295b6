-- Lists of files that grow at their ends, a file a module.
use Rattle.std.proofs.Common.{◌≡◌, ℕ, suc, ◌+◌, ◌<◌, List, [], ◌∷◌, ◌++◌, length, drop, get_or, sym, ap, ◌∙◌, append_assoc, add-one, drop-cons}
use Rattle.std.proofs.lemmas.List.{map-append}
use Rattle.cpp_meaning.specs.Text.{File}
use Rattle.cpp_ast.specs.declared.tree.CppModule.{CppModule}
use Rattle.cpp_text.specs.declared.file.File.{File as FileToWrite}
use Rattle.cpp_text.specs.Plain.{plain_file, plain_files}

drop_at : {A : Type 0} (items : List A) (i : ℕ) (x : A) → i < length items → x ≡ get_or items i x → drop i items ≡ x ∷ drop (i + 1) items
drop_at items i x within is = rw (add-one, drop-cons items i x within) (ap (λ y. y ∷ drop (suc i) items) (sym is))

-- where `rest` has a file for each module, in order
pub files_step : (one : CppModule → File) (rest : List CppModule → List File) → ((m : CppModule) (ms : List CppModule) → rest (m ∷ ms) ≡ one m ∷ rest ms) → (all : List File) (old new : List FileToWrite) (f : FileToWrite) (modules : List CppModule) (i : ℕ) (m : CppModule) → i < length modules → m ≡ get_or modules i m → new ≡ old ++ f ∷ [] → plain_file f ≡ one m → plain_files old ++ rest (drop i modules) ≡ all → plain_files new ++ rest (drop (i + 1) modules) ≡ all
files_step one rest law all old new f modules i m within is pushed made h =
    ap (λ fs. plain_files fs ++ rest (drop (i + 1) modules)) pushed
    ∙ ap (λ fs. fs ++ rest (drop (i + 1) modules)) (map-append plain_file old (f ∷ []))
    ∙ append_assoc (plain_files old) (plain_file f ∷ []) (rest (drop (i + 1) modules))
    ∙ ap (λ g. plain_files old ++ g ∷ rest (drop (i + 1) modules)) made
    ∙ ap (λ fs. plain_files old ++ fs) (sym (law m (drop (i + 1) modules)))
    ∙ ap (λ ms. plain_files old ++ rest ms) (sym (drop_at modules i m within is))
    ∙ h
