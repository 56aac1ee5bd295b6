-- What one run of the command comes to: why it ends, what it leaves in the folder, and what it says.
use Rattle.std.specs.Prelude.{◌≡◌, ℕ, suc, ◌<◌, ◌≤◌, List, [], ◌∷◌, ◌++◌, take, length, slice_get, Option, Some, None, ◌⊎◌, codes}
use Rattle.runs.specs.Number.{W32}
use Rattle.shed_base.specs.Outside.{Rose, appended}
use Rattle.shed_base.specs.Files.{Files, ReadsFile, told_with_file}
use Rattle.py_meaning.specs.Name.{Name, text_of}
use Rattle.py_meaning.specs.Tree.{Body}
use Rattle.py_meaning.specs.Program.{Program}
use Rattle.py_meaning.specs.Source.{IsSource, most_bytes}
use Rattle.cpp_meaning.specs.Tree.{Program as CppProgram}
use Rattle.cpp_meaning.specs.Text.{File}
use Rattle.shed_meaning.specs.Words.{reading}
use Rattle.shed_meaning.specs.Fault.{Fault, HasFault, fault_status, fault_text}
use Rattle.shed_meaning.specs.Headline.{Headline}

-- what the objects of the outside hold, where they tell it, and the faults that they have counted
pub record World : Type 0 where
  pub files : Option Files
  pub out : Option (List ℕ)
  pub err : Option (List ℕ)
  pub read_faults : ℕ
  pub write_faults : ℕ
  pub err_faults : ℕ

-- why a run of the command ends
pub data Cause : Type 0 where
  -- the program was translated, and its files written
  Translated : Cause
  -- the words say nothing
  Unread : Cause
  -- there is no file of the module
  Missing : (name : Name) → Cause
  -- its file has more bytes than a module may have
  TooLarge : (name : Name) → Cause
  -- its text is not translated, for this reason
  Faulty : (name : Name) → (fault : Fault) → Cause
  ReadFailed : Cause
  -- a file of the output could not be written
  WriteFailed : Cause
  OutOfMemory : Cause

abbrev pub status_of : Cause → ℕ
status_of Translated = 0
status_of Unread = 2
status_of (Missing name) = 3
status_of (TooLarge name) = 5
status_of (Faulty name fault) = fault_status fault
status_of ReadFailed = 6
status_of WriteFailed = 7
status_of OutOfMemory = 8

-- what is said of it, each line ended
abbrev pub message_of : Cause → List ℕ
message_of Translated = []
message_of Unread = codes "usage: shed translate [-l] [-b] [-w] [-o] [-a] [-m FILE] NAME | run [--ticks N] NAME | bulk SEED COUNT\n"
message_of (Missing name) = text_of name ++ (codes ".py: M1 Missing " ++ (text_of name ++ codes "\n"))
message_of (TooLarge name) = codes "shed: M6 TooLarge " ++ (text_of name ++ codes "\n")
message_of (Faulty name fault) = fault_text name fault
message_of ReadFailed = codes "shed: read fault\n"
message_of WriteFailed = codes "shed: write fault\n"
message_of OutOfMemory = codes "shed: no memory\n"

-- the folder gives this text for a module, or none
abbrev pub GivesModule : Option Files → Name → Option (List ℕ) → Type 0
GivesModule files name found = ReadsFile files (text_of name ++ codes ".py") (suc most_bytes) found

abbrev pub program : Name → Body → Program
program name body = record { main = record { name = name; body = body }; width = W32 }

-- the words and the folder spell this program
pub record Spells (words : List (List ℕ)) (files : Option Files) (P : Program) : Type 0 where
  pub name : Name
  pub read : reading words ≡ Some name
  pub text : List ℕ
  pub found : GivesModule files name (Some text)
  pub short : length text ≤ most_bytes
  pub body : Body
  pub source : IsSource text body
  pub is_program : P ≡ program name body

-- the folder's files once these are written, where it tells them
abbrev pub with_files : Option Files → List File → Option Files
with_files told [] = told
with_files told (f ∷ files) = with_files (told_with_file told f.name f.bytes) files

-- the words and the folder spell a program whose translation has these files
pub record Yields (words : List (List ℕ)) (told : Option Files) (files : List File) : Type 0 where
  pub source : Program
  pub spelt : Spells words told source
  pub target : CppProgram
  pub headline : Headline source target files

-- the first k of these files are whole, and a prefix of the next one stands under its name
pub record BreaksOff (files : List File) (old new : Option Files) : Type 0 where
  pub whole : ℕ
  pub failing : File
  pub at : slice_get files whole ≡ Some failing
  pub count : ℕ
  pub left : new ≡ told_with_file (with_files old (take whole files)) failing.name (take count failing.bytes)

-- what stands behind a cause, and what it leaves in the folder
abbrev pub Holds : List (List ℕ) → World → World → Cause → Type 0
Holds words old new Translated = (files : List File) × Yields words old.files files × (new.files ≡ with_files old.files files)
Holds words old new Unread = (reading words ≡ None) × (new.files ≡ old.files)
Holds words old new (Missing name) = (reading words ≡ Some name) × GivesModule old.files name None × (new.files ≡ old.files)
Holds words old new (TooLarge name) =
    (reading words ≡ Some name) × (text : List ℕ) × GivesModule old.files name (Some text) × (most_bytes < length text) × (new.files ≡ old.files)
Holds words old new (Faulty name fault) =
    (reading words ≡ Some name) × (text : List ℕ) × GivesModule old.files name (Some text)
    × (length text ≤ most_bytes) × HasFault text fault × (new.files ≡ old.files)
Holds words old new ReadFailed = (name : Name) × (reading words ≡ Some name) × Rose old.read_faults new.read_faults × (new.files ≡ old.files)
Holds words old new WriteFailed = (files : List File) × Yields words old.files files × Rose old.write_faults new.write_faults × BreaksOff files old.files new.files
-- earlier files may stand whole
Holds words old new OutOfMemory =
    (name : Name) × (reading words ≡ Some name)
    × ((new.files ≡ old.files) ⊎ ((files : List File) × Yields words old.files files × (whole : ℕ) × (new.files ≡ with_files old.files (take whole files))))

-- A message is written to err, and then the status is the one wanted. Where writing it fails for a fault, the status is 7;
-- for want of memory, 8; and a front of the message may stand.
abbrev pub Says : Option (List ℕ) → Option (List ℕ) → ℕ → ℕ → List ℕ → ℕ → ℕ → Type 0
Says old new before now message wanted status =
    ((status ≡ wanted) × (new ≡ appended old message))
    ⊎ (((status ≡ 7) × Rose before now × (n : ℕ) × (new ≡ appended old (take n message)))
    ⊎ ((status ≡ 8) × (n : ℕ) × (new ≡ appended old (take n message))))

-- what is said of a cause: nothing where all went well
abbrev pub Tells : World → World → Cause → ℕ → Type 0
Tells old new Translated status = (status ≡ 0) × (new.err ≡ old.err)
Tells old new cause status = Says old.err new.err old.err_faults new.err_faults (message_of cause) (status_of cause) status

-- a run of the command with these words, between two moments of the world, ends with this status
pub record Ends (words : List (List ℕ)) (old new : World) (status : ℕ) : Type 0 where
  pub cause : Cause
  pub holds : Holds words old new cause
  pub tells : Tells old new cause status
  pub out : new.out ≡ old.out

-- What a status tells, and which status comes where: what each number answers for.
pub record Causes (words : List (List ℕ)) (old new : World) (status : ℕ) : Type 0 where
  -- 0: the words and the folder spell a program, and the files of its translation are written
  pub done : status ≡ 0 → (files : List File) × Yields words old.files files × (new.files ≡ with_files old.files files)
  -- 2: the words say nothing, and where they say nothing it is 2, but for err
  pub refused : status ≡ 2 → reading words ≡ None
  pub unread : reading words ≡ None → (status ≡ 2) ⊎ ((status ≡ 7) × Rose old.err_faults new.err_faults) ⊎ (status ≡ 8)
  -- 3: there is no file of the module, or its text has a fault that refuses it
  pub source : status ≡ 3 → (name : Name) × (reading words ≡ Some name)
      × (GivesModule old.files name None
      ⊎ ((text : List ℕ) × GivesModule old.files name (Some text) × (length text ≤ most_bytes) × (fault : Fault) × HasFault text fault × (fault_status fault ≡ 3)))
  -- 5: the text has too many bytes, or a fault that passes a limit
  pub limit : status ≡ 5 → (name : Name) × (reading words ≡ Some name) × (text : List ℕ) × GivesModule old.files name (Some text)
      × ((most_bytes < length text) ⊎ ((length text ≤ most_bytes) × (fault : Fault) × HasFault text fault × (fault_status fault ≡ 5)))
  -- 6 and 7: a count of that kind rose in the call
  pub read_fault : status ≡ 6 → ((name : Name) × (reading words ≡ Some name)) × Rose old.read_faults new.read_faults
  pub write_fault : status ≡ 7 → Rose old.write_faults new.write_faults ⊎ Rose old.err_faults new.err_faults
  -- where a folder that tells its files has the program, and no count rose, it is 0 or 8
  pub complete : (files : Files) (P : Program) → old.files ≡ Some files → Spells words old.files P
      → (Rose old.read_faults new.read_faults → ⊥) → (Rose old.write_faults new.write_faults → ⊥) → (Rose old.err_faults new.err_faults → ⊥)
      → (status ≡ 0) ⊎ (status ≡ 8)
  -- no other status comes
  pub known : (status ≡ 0) ⊎ (status ≡ 2) ⊎ (status ≡ 3) ⊎ (status ≡ 5) ⊎ (status ≡ 6) ⊎ (status ≡ 7) ⊎ (status ≡ 8)
  -- but for 0, 7 and 8 the folder is as it was
  pub folder_kept : (status ≡ 0 → ⊥) → (status ≡ 7 → ⊥) → (status ≡ 8 → ⊥) → new.files ≡ old.files
