-- How a run of the command ends, cause by cause.
use Rattle.std.proofs.Common.{◌≡◌, ℕ, List, Option, None, Some, ap, ◌∙◌, subst, inl, inr, take}
use Rattle.shed_base.specs.Outside.{Rose}
use Rattle.shed_base.specs.Files.{Files}
use Rattle.py_meaning.specs.Name.{Name}
use Rattle.shed_meaning.specs.Words.{reading}
use Rattle.shed_meaning.specs.Outcome.{World, Cause, Translated, Unread, Missing, TooLarge, Faulty, ReadFailed, WriteFailed, OutOfMemory, status_of, message_of, with_files, Yields, BreaksOff, Says, Ends}
use Rattle.cpp_text.specs.declared.file.File.{File as FileToWrite}
use Rattle.cpp_text.specs.Plain.{plain_files}
use Rattle.shed_cli.specs.Judging.{IsRefusal}

-- the message of a cause is said
abbrev SaysOf : World → World → List ℕ → ℕ → ℕ → Type 0
SaysOf old new message wanted status = Says old.err new.err old.err_faults new.err_faults message wanted status

module _ (words : List (List ℕ)) (old new : World) (status : ℕ) (same_out : new.out ≡ old.out) where
  pub end_unread : reading words ≡ None → new.files ≡ old.files → SaysOf old new (message_of Unread) 2 status → Ends words old new status
  end_unread read same says = record { cause = Unread; holds = (read, same); tells = says; out = same_out }

  -- for a cause that refuses, with its message and status
  pub end_refused : (cause : Cause) (message : List ℕ) (wanted : ℕ) → IsRefusal words old.files cause → message ≡ message_of cause → wanted ≡ status_of cause → new.files ≡ old.files
      → SaysOf old new message wanted status → Ends words old new status
  end_refused cause message wanted h is number same says = at cause h (subst (λ (m : List ℕ). SaysOf old new m (status_of cause) status) is (subst (λ (n : ℕ). SaysOf old new message n status) number says))
    where
      at : (cause : Cause) → IsRefusal words old.files cause → SaysOf old new (message_of cause) (status_of cause) status → Ends words old new status
      at (Missing name) h says = record { cause = Missing name; holds = (h.0, h.1, same); tells = says; out = same_out }
      at (TooLarge name) h says = record { cause = TooLarge name; holds = (h.0, h.1, h.2, h.3, same); tells = says; out = same_out }
      at (Faulty name f) h says = record { cause = Faulty name f; holds = (h.0, h.1, h.2, h.3, h.4, same); tells = says; out = same_out }
      at Translated h says = absurd h
      at Unread h says = absurd h
      at ReadFailed h says = absurd h
      at WriteFailed h says = absurd h
      at OutOfMemory h says = absurd h

  pub end_read_failed : (name : Name) → reading words ≡ Some name → Rose old.read_faults new.read_faults → new.files ≡ old.files → SaysOf old new (message_of ReadFailed) 6 status → Ends words old new status
  end_read_failed name read rose same says = record { cause = ReadFailed; holds = (name, read, rose, same); tells = says; out = same_out }

  pub end_no_memory : (name : Name) → reading words ≡ Some name → new.files ≡ old.files → SaysOf old new (message_of OutOfMemory) 8 status → Ends words old new status
  end_no_memory name read same says = record { cause = OutOfMemory; holds = (name, read, inl same); tells = says; out = same_out }

  -- once the files are ready, which the folder takes as it was when they were judged
  module _ (ready items : List FileToWrite) (between : Option Files) (yields : Yields words old.files (plain_files ready)) (all : items ≡ ready) (kept : between ≡ old.files) where
    pub end_no_memory_writing : (k : ℕ) → new.files ≡ with_files between (take k (plain_files items)) → SaysOf old new (message_of OutOfMemory) 8 status → Ends words old new status
    end_no_memory_writing k left says =
        record {
          cause = OutOfMemory;
          holds = (
            yields.spelt.name,
            yields.spelt.read,
            inr (
              plain_files ready,
              yields,
              k,
              left ∙ ap (λ fs. with_files between (take k (plain_files fs))) all ∙ ap (λ (b : Option Files). with_files b (take k (plain_files ready))) kept,
            ),
          );
          tells = says;
          out = same_out;
        }

    pub end_write_failed : BreaksOff (plain_files items) between new.files → Rose old.write_faults new.write_faults → SaysOf old new (message_of WriteFailed) 7 status → Ends words old new status
    end_write_failed broken rose says =
        record {
          cause = WriteFailed;
          holds = (
            plain_files ready,
            yields,
            rose,
            subst (λ (b : Option Files). BreaksOff (plain_files ready) b new.files) kept (subst (λ fs. BreaksOff (plain_files fs) between new.files) all broken),
          );
          tells = says;
          out = same_out;
        }

    pub end_translated : new.files ≡ with_files between (plain_files items) → new.err ≡ old.err → status ≡ 0 → Ends words old new status
    end_translated left said is =
        record {
          cause = Translated;
          holds = (
            plain_files ready,
            yields,
            left ∙ ap (λ fs. with_files between (plain_files fs)) all ∙ ap (λ (b : Option Files). with_files b (plain_files ready)) kept,
          );
          tells = (is, said);
          out = same_out;
        }
