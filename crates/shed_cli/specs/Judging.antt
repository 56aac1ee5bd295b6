-- What the command finds out before it writes anything, and how statuses are numbered.
use Rattle.std.specs.Prelude.{◌≡◌, ℕ, ◌<◌, ◌≤◌, List, ◌++◌, codes, length, Option, Some, None, string_bytes}
use Rattle.shed_base.specs.Outside.{Rose}
use Rattle.shed_base.specs.Files.{Files}
use Rattle.py_meaning.specs.Name.{Name}
use Rattle.py_meaning.specs.Tree.{Body}
use Rattle.py_meaning.specs.Source.{IsSource, most_bytes}
use Rattle.shed_meaning.specs.Words.{reading}
use Rattle.cpp_meaning.specs.Tree.{Program as CppProgram}
use Rattle.cpp_meaning.specs.Text.{File}
use Rattle.shed_meaning.specs.Headline.{Headline}
use Rattle.shed_meaning.specs.Fault.{HasFault, located}
use Rattle.py_lexer.specs.PlainTokens.{plain_place}
use Rattle.shed_source.specs.Faults.{status_said}
use Rattle.shed_source.specs.declared.fault.Fault.{Fault as FaultSaid}
use Rattle.shed_meaning.specs.Outcome.{Cause, Missing, TooLarge, Faulty, status_of, message_of, program, GivesModule, Yields}
use Rattle.cpp_text.specs.Plain.{plain_files}
use Rattle.shed_cli.specs.declared.status.Status.{Status}
use Rattle.shed_cli.specs.declared.status.Status.TheVariants as status
use Rattle.shed_cli.specs.declared.judgement.Judgement.{Judgement}
use Rattle.shed_cli.specs.declared.judgement.Judgement.TheVariants as judged

abbrev pub number_of : Status → ℕ
number_of status.Done = 0
number_of status.Raised = 1
number_of status.WordsRefused = 2
number_of status.SourceRefused = 3
number_of status.TypesRefused = 4
number_of status.LimitPassed = 5
number_of status.ReadFault = 6
number_of status.WriteFault = 7
number_of status.NoMemory = 8
number_of status.CppRefused = 9
number_of status.TicksUsedUp = 10
number_of status.UndefinedIndex = 11

-- what stands behind a cause that refuses before anything is written
abbrev pub IsRefusal : List (List ℕ) → Option Files → Cause → Type 0
IsRefusal words files (Missing name) = (reading words ≡ Some name) × GivesModule files name None
IsRefusal words files (TooLarge name) =
    (reading words ≡ Some name) × (text : List ℕ) × GivesModule files name (Some text) × (most_bytes < length text)
IsRefusal words files (Faulty name fault) =
    (reading words ≡ Some name) × (text : List ℕ) × GivesModule files name (Some text) × (length text ≤ most_bytes) × HasFault text fault
IsRefusal words files cause = ⊥

-- what stands behind a judgement on these words and files, where the count of read faults went from one number to another
abbrev pub Judged : List (List ℕ) → Option Files → ℕ → ℕ → Judgement → Type 0
Judged words files before now judged.Unread = reading words ≡ None
Judged words files before now (judged.Refused status message) =
    (cause : Cause) × IsRefusal words files cause × (string_bytes message ≡ message_of cause) × (number_of status ≡ status_of cause)
Judged words files before now judged.ReadFailed = (name : Name) × (reading words ≡ Some name) × Rose before now
Judged words files before now judged.OutOfMemory = (name : Name) × (reading words ≡ Some name)
Judged words files before now (judged.Ready ready) = Yields words files (plain_files ready.items)

-- these files are the translation of a module of this name and body
abbrev pub IsTranslation : Name → Body → List File → Type 0
IsTranslation name body files = (C : CppProgram) × Headline (program name body) C files

-- what stands behind a cause that refuses a text
abbrev pub IsTextRefusal : Name → List ℕ → Cause → Type 0
IsTextRefusal name text (TooLarge other) = (name ≡ other) × (most_bytes < length text)
IsTextRefusal name text (Faulty other fault) = (name ≡ other) × (length text ≤ most_bytes) × HasFault text fault
IsTextRefusal name text cause = ⊥

-- the same of a text that was read
abbrev pub JudgedText : Name → List ℕ → Judgement → Type 0
JudgedText name text judged.Unread = ⊥
JudgedText name text (judged.Refused status message) =
    (cause : Cause) × IsTextRefusal name text cause × (string_bytes message ≡ message_of cause) × (number_of status ≡ status_of cause)
JudgedText name text judged.ReadFailed = ⊥
JudgedText name text judged.OutOfMemory = Unit {0}
JudgedText name text (judged.Ready ready) =
    (length text ≤ most_bytes) × (body : Body) × IsSource text body × IsTranslation name body (plain_files ready.items)

-- a refusal for this cause, or want of memory for its message
abbrev pub RefusesFor : Cause → Judgement → Type 0
RefusesFor cause judged.Unread = ⊥
RefusesFor cause (judged.Refused status message) = (string_bytes message ≡ message_of cause) × (number_of status ≡ status_of cause)
RefusesFor cause judged.ReadFailed = ⊥
RefusesFor cause judged.OutOfMemory = Unit {0}
RefusesFor cause (judged.Ready ready) = ⊥

-- a refusal for a fault as the code has it, with its message and its status
abbrev pub IsFaulty : Name → FaultSaid → Judgement → Type 0
IsFaulty name f judged.Unread = ⊥
IsFaulty name f (judged.Refused status message) =
    (string_bytes message ≡ located name (plain_place f.place) ++ (string_bytes f.said ++ codes "\n"))
    × (number_of status ≡ status_said f.limit)
IsFaulty name f judged.ReadFailed = ⊥
IsFaulty name f judged.OutOfMemory = Unit {0}
IsFaulty name f (judged.Ready ready) = ⊥
