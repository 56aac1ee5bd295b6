-- What the objects in memory hold, and how a call leaves them.
use Rattle.std.specs.Prelude.{ℕ, ◌+◌, ◌-◌, ◌/◌, ◌^◌, ◌==◌, ◌≡◌, refl, min, Bool, true, false, List, [], ◌++◌, take, drop, length, Result, Ok, Err}
use Rattle.std.specs.List.{list_any}
use Rattle.std.specs.Coded.{Coded, code_by, coded×, coded_ℕ, coded_list}
use Rattle.std.specs.FinMap as map
use Rattle.shed_base.specs.declared.refusals.IoRefusal.{IoRefusal}
use Rattle.shed_base.specs.declared.refusals.IoRefusal.TheVariants.{Failed, NoMemory}
use Rattle.shed_base.specs.Outside.{raised}
use Rattle.shed_base.specs.Files.{Files, with_file}

-- the numbers of the calls that are to fail, and how many calls were made
pub record Calls : Type 0 where
  pub listed : List ℕ
  pub made : ℕ

-- before the first call
abbrev pub no_calls : List ℕ → Calls
no_calls fails = record { listed = fails; made = 0 }

-- the next call is one that is to fail
abbrev pub next_fails : Calls → Bool
next_fails calls = list_any (λ number. number == calls.made) calls.listed

-- one more call was made. The count stays at a value far above each number that can be listed
abbrev pub one_more : Calls → Calls
one_more calls = record calls { made = min (calls.made + 1) (2 ^ 128 - 1) }

-- the answer is `Failed`
abbrev pub is_failed : {T : Type 0} → Result T IoRefusal → Bool
is_failed (Ok value) = false
is_failed (Err Failed) = true
is_failed (Err NoMemory) = false

-- a call answers well where it is not listed, and `Failed` where it is; memory may run out at each
abbrev pub FailsAsListed : Bool → {T : Type 0} → Result T IoRefusal → Type 0
FailsAsListed listed (Ok value) = listed ≡ false
FailsAsListed listed (Err Failed) = listed ≡ true
FailsAsListed listed (Err NoMemory) = Unit {0}

-- a source in memory: what it has left, and how many bytes it gives at once
pub record SourceState : Type 0 where
  pub rest : List ℕ
  pub most : ℕ
  pub calls : Calls
  pub faults : ℕ

abbrev pub new_source : List ℕ → ℕ → List ℕ → SourceState
new_source bytes most fails = record { rest = bytes; most = most; calls = no_calls fails; faults = 0 }

-- how many bytes the next read gives, unless it is to fail
abbrev pub next_count : SourceState → ℕ → ℕ
next_count source room = min (min (length source.rest) room) source.most

-- the source after a read with this answer
abbrev pub after_read : SourceState → {E : Type 0} → Result ℕ E → SourceState
after_read source (Ok count) = record source { rest = drop count source.rest; calls = one_more source.calls }
after_read source (Err refusal) = record source { calls = one_more source.calls; faults = raised source.faults }

-- a sink in memory: what it took, and how many bytes it takes at once
pub record SinkState : Type 0 where
  pub bytes : List ℕ
  pub most : ℕ
  pub calls : Calls
  pub faults : ℕ

abbrev pub new_sink : ℕ → List ℕ → SinkState
new_sink most fails = record { bytes = []; most = most; calls = no_calls fails; faults = 0 }

-- the sink after a write of this piece with this answer
abbrev pub after_write : SinkState → List ℕ → Result ℕ IoRefusal → SinkState
after_write sink piece (Ok count) = record sink { bytes = sink.bytes ++ take count piece; calls = one_more sink.calls }
after_write sink piece (Err Failed) = record sink { calls = one_more sink.calls; faults = raised sink.faults }
after_write sink piece (Err NoMemory) = record sink { calls = one_more sink.calls }

-- a folder in memory, with its faults of reading and of writing
pub record FolderState : Type 0 where
  pub files : Files
  pub calls : Calls
  pub read_faults : ℕ
  pub write_faults : ℕ

-- its code is that of the tuple of its parts
abbrev pub folder_code : Coded FolderState
folder_code =
    code_by (Files × (List ℕ × (ℕ × (ℕ × ℕ))))
    (coded× (map.code (coded_list coded_ℕ) (coded_list coded_ℕ)) (coded× (coded_list coded_ℕ) (coded× coded_ℕ (coded× coded_ℕ coded_ℕ))))
    (λ f. (f.files, (f.calls.listed, (f.calls.made, (f.read_faults, f.write_faults)))))
    (λ p. record { files = p.0; calls = record { listed = p.1.0; made = p.1.1.0 }; read_faults = p.1.1.1.0; write_faults = p.1.1.1.1 })
    (λ _. refl)

abbrev pub new_folder : List ℕ → FolderState
new_folder fails = record { files = map.empty; calls = no_calls fails; read_faults = 0; write_faults = 0 }

-- the folder once a file is put in place, which is no call
abbrev pub after_put : FolderState → List ℕ → List ℕ → FolderState
after_put folder name bytes = record folder { files = with_file folder.files name bytes }

-- the folder after a read with this answer
abbrev pub after_file_read : FolderState → {T : Type 0} → Result T IoRefusal → FolderState
after_file_read folder (Ok found) = record folder { calls = one_more folder.calls }
after_file_read folder (Err Failed) = record folder { calls = one_more folder.calls; read_faults = raised folder.read_faults }
after_file_read folder (Err NoMemory) = record folder { calls = one_more folder.calls }

-- the first half of the bytes, rounded down
abbrev pub first_half : List ℕ → List ℕ
first_half bytes = take (length bytes / 2) bytes

-- the folder after a write of this file with this answer
abbrev pub after_file_write : FolderState → List ℕ → List ℕ → {T : Type 0} → Result T IoRefusal → FolderState
after_file_write folder name bytes (Ok done) = record folder { files = with_file folder.files name bytes; calls = one_more folder.calls }
after_file_write folder name bytes (Err Failed) = record folder { files = with_file folder.files name (first_half bytes); calls = one_more folder.calls; write_faults = raised folder.write_faults }
after_file_write folder name bytes (Err NoMemory) = record folder { calls = one_more folder.calls }
