-- From what was read to what stands behind a judgement.
use Rattle.std.proofs.Common.{◌≡◌, ℕ, ◌≤◌, ◌++◌, length, codes, List, Option, Some, None, refl, ap, ◌∙◌, subst}
use Rattle.std.specs.Prelude.{string_bytes}
use Rattle.shed_base.specs.Files.{Files}
use Rattle.py_meaning.specs.Name.{Name}
use Rattle.shed_meaning.specs.Words.{reading}
use Rattle.shed_meaning.specs.Outcome.{Cause, Translated, Unread, Missing, TooLarge, Faulty, ReadFailed, WriteFailed, OutOfMemory, program, GivesModule}
use Rattle.py_meaning.specs.Source.{most_bytes}
use Rattle.shed_meaning.specs.Fault.{fault_place, located}
use Rattle.shed_cli.specs.declared.judgement.Judgement.{Judgement}
use Rattle.shed_cli.specs.declared.judgement.Judgement.TheVariants as judged
use Rattle.shed_source.specs.Faults.{IsFaultOf}
use Rattle.shed_source.specs.declared.fault.Fault.{Fault as FaultSaid}
use Rattle.shed_cli.specs.Judging.{IsRefusal, Judged, IsTextRefusal, JudgedText, RefusesFor, IsFaulty}

refused_text : (words : List (List ℕ)) (files : Option Files) (name : Name) (text : List ℕ) (cause : Cause) → reading words ≡ Some name
    → GivesModule files name (Some text)
    → IsTextRefusal name text cause → IsRefusal words files cause
refused_text words files name text (TooLarge other) read gives h = (subst (λ (n : Name). reading words ≡ Some n) h.0 read, text, subst (λ (n : Name). GivesModule files n (Some text)) h.0 gives, h.1)
refused_text words files name text (Faulty other f) read gives h =
    (subst (λ (n : Name). reading words ≡ Some n) h.0 read, text, subst (λ (n : Name). GivesModule files n (Some text)) h.0 gives, h.1, h.2)
refused_text words files name text Translated read gives h = absurd h
refused_text words files name text Unread read gives h = absurd h
refused_text words files name text (Missing other) read gives h = absurd h
refused_text words files name text ReadFailed read gives h = absurd h
refused_text words files name text WriteFailed read gives h = absurd h
refused_text words files name text OutOfMemory read gives h = absurd h

pub judged_text : (words : List (List ℕ)) (files : Option Files) (before now : ℕ) (name : Name) (text : List ℕ) (j : Judgement)
    → reading words ≡ Some name → GivesModule files name (Some text)
    → JudgedText name text j → Judged words files before now j
judged_text words files before now name text judged.Unread read gives h = absurd h
judged_text words files before now name text (judged.Refused status message) read gives h = (h.0, refused_text words files name text h.0 read gives h.1, h.2, h.3)
judged_text words files before now name text judged.ReadFailed read gives h = absurd h
judged_text words files before now name text judged.OutOfMemory read gives h = (name, read)
judged_text words files before now name text (judged.Ready ready) read gives h =
    let short = h.0 in
    let body = h.1 in
    let source = h.2 in
    let made = h.3 in
    record {
      source = program name body;
      spelt = record { name = name; read = read; text = text; found = gives; short = short; body = body; source = source; is_program = refl };
      target = made.0;
      headline = made.1;
    }

pub judged_missing : (words : List (List ℕ)) (files : Option Files) (before now : ℕ) (name : Name) (j : Judgement)
    → reading words ≡ Some name → GivesModule files name None
    → RefusesFor (Missing name) j → Judged words files before now j
judged_missing words files before now name judged.Unread read gives h = absurd h
judged_missing words files before now name (judged.Refused status message) read gives h = (Missing name, (read, gives), h.0, h.1)
judged_missing words files before now name judged.ReadFailed read gives h = absurd h
judged_missing words files before now name judged.OutOfMemory read gives h = (name, read)
judged_missing words files before now name (judged.Ready ready) read gives h = absurd h

pub text_refused : (name : Name) (text : List ℕ) (cause : Cause) (j : Judgement) → IsTextRefusal name text cause → RefusesFor cause j
    → JudgedText name text j
text_refused name text cause judged.Unread why h = absurd h
text_refused name text cause (judged.Refused status message) why h = (cause, why, h.0, h.1)
text_refused name text cause judged.ReadFailed why h = absurd h
text_refused name text cause judged.OutOfMemory why h = tt
text_refused name text cause (judged.Ready ready) why h = absurd h

pub text_faulty : (name : Name) (text : List ℕ) (f : FaultSaid) (j : Judgement) → length text ≤ most_bytes → IsFaultOf text f
    → IsFaulty name f j → JudgedText name text j
text_faulty name text f judged.Unread short why h = absurd h
text_faulty name text f (judged.Refused status message) short why h = (
  Faulty name why.0,
  (refl, short, why.1),
  h.0
      ∙ ap (λ p. located name p ++ (string_bytes f.said ++ codes "\n")) why.2
      ∙ ap (λ said. located name (fault_place why.0) ++ (said ++ codes "\n")) why.3,
  h.1 ∙ why.4,
)
text_faulty name text f judged.ReadFailed short why h = absurd h
text_faulty name text f judged.OutOfMemory short why h = tt
text_faulty name text f (judged.Ready ready) short why h = absurd h
