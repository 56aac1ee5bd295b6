-- What each status answers for follows from how the command ended.
use Rattle.std.proofs.Common.{◌≡◌, ℕ, ◌≤◌, ◌<◌, List, Option, None, Some, sym, ◌∙◌, subst, inl, inr, ⊎_elim, length, arith}
use Rattle.std.specs.Prelude.{◌⊎◌}
use Rattle.shed_base.specs.Outside.{Rose}
use Rattle.shed_base.specs.Files.{Files}
use Rattle.py_meaning.specs.Name.{Name}
use Rattle.py_meaning.specs.Program.{Program}
use Rattle.py_meaning.specs.Source.{IsSource, most_bytes}
use Rattle.cpp_meaning.specs.Text.{File}
use Rattle.shed_meaning.specs.Words.{reading}
use Rattle.shed_meaning.specs.Fault.{Fault, HasFault, fault_status}
use Rattle.shed_meaning.proofs.FaultsExcluded.{no_fault, not_fault, either_fault}
use Rattle.shed_meaning.specs.Outcome.{World, Cause, Translated, Unread, Missing, TooLarge, Faulty, ReadFailed, WriteFailed, OutOfMemory, GivesModule, Spells, Yields, with_files, Says, Tells, Holds, Ends, Causes}

module _ (words : List (List ℕ)) (old new : World) (status : ℕ) where
  -- what a status says where a message was to be said
  abbrev Said : ℕ → Type 0
  Said wanted = (status ≡ wanted) ⊎ ((status ≡ 7) × Rose old.err_faults new.err_faults) ⊎ (status ≡ 8)

  said : (message : List ℕ) (wanted : ℕ) → Says old.err new.err old.err_faults new.err_faults message wanted status → Said wanted
  said message wanted h = ⊎_elim (λ a. inl a.0) (λ b. inr (⊎_elim (λ f. inl (f.0, f.1)) (λ m. inr m.0) b)) h

  -- a status other than 7 and 8 is the one that was wanted
  wanted_is : (wanted k : ℕ) → status ≡ k → (k ≡ 7 → ⊥) → (k ≡ 8 → ⊥) → Said wanted → wanted ≡ k
  wanted_is wanted k is no7 no8 h =
      ⊎_elim (λ a. sym a ∙ is) (λ b. ⊎_elim (λ f. absurd (no7 (sym is ∙ f.0))) (λ m. absurd (no8 (sym is ∙ m))) b) h

  -- 7 is err's, where it is not wanted
  err_fault : (wanted : ℕ) → status ≡ 7 → (wanted ≡ 7 → ⊥) → Said wanted → Rose old.err_faults new.err_faults
  err_fault wanted is no7 h =
      ⊎_elim (λ a. absurd (no7 (sym a ∙ is))) (λ b. ⊎_elim (λ f. f.1) (λ m. absurd (let e : 7 ≡ 8 = sym is ∙ m in omega arith)) b) h

  no_rise : (wanted : ℕ) → (Rose old.err_faults new.err_faults → ⊥) → Said wanted → (status ≡ wanted) ⊎ (status ≡ 8)
  no_rise wanted quiet h = ⊎_elim (λ a. inl a) (λ b. ⊎_elim (λ f. absurd (quiet f.1)) (λ m. inr m) b) h

  never : (wanted k : ℕ) → (k ≡ 7 → ⊥) → (k ≡ 8 → ⊥) → (wanted ≡ k → ⊥) → Said wanted → status ≡ k → ⊥
  never wanted k no7 no8 other h is = other (wanted_is wanted k is no7 no8 h)

  -- one file's text, or none, is what a folder that tells its files gives
  same_given : (name : Name) (x y : Option (List ℕ)) (files : Files) (told : Option Files) → told ≡ Some files → GivesModule told name x → GivesModule told name y → x ≡ y
  same_given name x y files told e a b =
      let a' = subst (λ (o : Option Files). GivesModule o name x) e a in
      let b' = subst (λ (o : Option Files). GivesModule o name y) e b in
      let same : Some x ≡ Some y = sym a' ∙ b' in cc

  done_of : (cause : Cause) → Holds words old new cause → Tells old new cause status → status ≡ 0 → (files : List File) × Yields words old.files files × (new.files ≡ with_files old.files files)
  done_of Translated h t e = (h.0, h.1, h.2)
  done_of Unread h t e = absurd (never 2 0 (λ q. absurd (omega arith)) (λ q. absurd (omega arith)) (λ q. absurd (omega arith)) (said _ 2 t) e)
  done_of (Missing name) h t e = absurd (never 3 0 (λ q. absurd (omega arith)) (λ q. absurd (omega arith)) (λ q. absurd (omega arith)) (said _ 3 t) e)
  done_of (TooLarge name) h t e = absurd (never 5 0 (λ q. absurd (omega arith)) (λ q. absurd (omega arith)) (λ q. absurd (omega arith)) (said _ 5 t) e)
  done_of (Faulty name f) h t e =
      absurd (never (fault_status f) 0 (λ q. absurd (omega arith)) (λ q. absurd (omega arith)) (not_fault f 0 (λ q. absurd (omega arith)) (λ q. absurd (omega arith))) (said _ (fault_status f) t) e)
  done_of ReadFailed h t e = absurd (never 6 0 (λ q. absurd (omega arith)) (λ q. absurd (omega arith)) (λ q. absurd (omega arith)) (said _ 6 t) e)
  done_of WriteFailed h t e = absurd (never 7 0 (λ q. absurd (omega arith)) (λ q. absurd (omega arith)) (λ q. absurd (omega arith)) (said _ 7 t) e)
  done_of OutOfMemory h t e = absurd (never 8 0 (λ q. absurd (omega arith)) (λ q. absurd (omega arith)) (λ q. absurd (omega arith)) (said _ 8 t) e)

  refused_of : (cause : Cause) → Holds words old new cause → Tells old new cause status → status ≡ 2 → reading words ≡ None
  refused_of Unread h t e = h.0
  refused_of Translated h t e = absurd (let q = t.0 in omega arith)
  refused_of (Missing name) h t e = absurd (never 3 2 (λ q. absurd (omega arith)) (λ q. absurd (omega arith)) (λ q. absurd (omega arith)) (said _ 3 t) e)
  refused_of (TooLarge name) h t e = absurd (never 5 2 (λ q. absurd (omega arith)) (λ q. absurd (omega arith)) (λ q. absurd (omega arith)) (said _ 5 t) e)
  refused_of (Faulty name f) h t e =
      absurd (never (fault_status f) 2 (λ q. absurd (omega arith)) (λ q. absurd (omega arith)) (not_fault f 2 (λ q. absurd (omega arith)) (λ q. absurd (omega arith))) (said _ (fault_status f) t) e)
  refused_of ReadFailed h t e = absurd (never 6 2 (λ q. absurd (omega arith)) (λ q. absurd (omega arith)) (λ q. absurd (omega arith)) (said _ 6 t) e)
  refused_of WriteFailed h t e = absurd (never 7 2 (λ q. absurd (omega arith)) (λ q. absurd (omega arith)) (λ q. absurd (omega arith)) (said _ 7 t) e)
  refused_of OutOfMemory h t e = absurd (never 8 2 (λ q. absurd (omega arith)) (λ q. absurd (omega arith)) (λ q. absurd (omega arith)) (said _ 8 t) e)

  unread_of : (cause : Cause) → Holds words old new cause → Tells old new cause status → reading words ≡ None → Said 2
  unread_of Unread h t e = said _ 2 t
  unread_of Translated h t e = let r = h.1.spelt.read in cc
  unread_of (Missing name) h t e = let r = h.0 in cc
  unread_of (TooLarge name) h t e = let r = h.0 in cc
  unread_of (Faulty name f) h t e = let r = h.0 in cc
  unread_of ReadFailed h t e = let r = h.1 in cc
  unread_of WriteFailed h t e = let r = h.1.spelt.read in cc
  unread_of OutOfMemory h t e = let r = h.1 in cc

  abbrev Unfit : Type 0
  Unfit =
      (name : Name) × (reading words ≡ Some name)
      × (GivesModule old.files name None
      ⊎ ((text : List ℕ) × GivesModule old.files name (Some text) × (length text ≤ most_bytes) × (fault : Fault) × HasFault text fault × (fault_status fault ≡ 3)))

  abbrev Limited : Type 0
  Limited =
      (name : Name) × (reading words ≡ Some name) × (text : List ℕ) × GivesModule old.files name (Some text)
      × ((most_bytes < length text) ⊎ ((length text ≤ most_bytes) × (fault : Fault) × HasFault text fault × (fault_status fault ≡ 5)))

  source_of : (cause : Cause) → Holds words old new cause → Tells old new cause status → status ≡ 3 → Unfit
  source_of Translated h t e = absurd (let q = t.0 in omega arith)
  source_of Unread h t e = absurd (never 2 3 (λ q. absurd (omega arith)) (λ q. absurd (omega arith)) (λ q. absurd (omega arith)) (said _ 2 t) e)
  source_of (Missing name) h t e = (name, h.0, inl h.1)
  source_of (TooLarge name) h t e = absurd (never 5 3 (λ q. absurd (omega arith)) (λ q. absurd (omega arith)) (λ q. absurd (omega arith)) (said _ 5 t) e)
  source_of (Faulty name f) h t e =
      (name, h.0, inr (h.1, h.2, h.3, f, h.4, wanted_is (fault_status f) 3 e (λ q. absurd (omega arith)) (λ q. absurd (omega arith)) (said _ (fault_status f) t)))
  source_of ReadFailed h t e = absurd (never 6 3 (λ q. absurd (omega arith)) (λ q. absurd (omega arith)) (λ q. absurd (omega arith)) (said _ 6 t) e)
  source_of WriteFailed h t e = absurd (never 7 3 (λ q. absurd (omega arith)) (λ q. absurd (omega arith)) (λ q. absurd (omega arith)) (said _ 7 t) e)
  source_of OutOfMemory h t e = absurd (never 8 3 (λ q. absurd (omega arith)) (λ q. absurd (omega arith)) (λ q. absurd (omega arith)) (said _ 8 t) e)

  limit_of : (cause : Cause) → Holds words old new cause → Tells old new cause status → status ≡ 5 → Limited
  limit_of Translated h t e = absurd (let q = t.0 in omega arith)
  limit_of Unread h t e = absurd (never 2 5 (λ q. absurd (omega arith)) (λ q. absurd (omega arith)) (λ q. absurd (omega arith)) (said _ 2 t) e)
  limit_of (Missing name) h t e = absurd (never 3 5 (λ q. absurd (omega arith)) (λ q. absurd (omega arith)) (λ q. absurd (omega arith)) (said _ 3 t) e)
  limit_of (TooLarge name) h t e = (name, h.0, h.1, h.2, inl h.3)
  limit_of (Faulty name f) h t e =
      (name, h.0, h.1, h.2, inr (h.3, f, h.4, wanted_is (fault_status f) 5 e (λ q. absurd (omega arith)) (λ q. absurd (omega arith)) (said _ (fault_status f) t)))
  limit_of ReadFailed h t e = absurd (never 6 5 (λ q. absurd (omega arith)) (λ q. absurd (omega arith)) (λ q. absurd (omega arith)) (said _ 6 t) e)
  limit_of WriteFailed h t e = absurd (never 7 5 (λ q. absurd (omega arith)) (λ q. absurd (omega arith)) (λ q. absurd (omega arith)) (said _ 7 t) e)
  limit_of OutOfMemory h t e = absurd (never 8 5 (λ q. absurd (omega arith)) (λ q. absurd (omega arith)) (λ q. absurd (omega arith)) (said _ 8 t) e)

  read_fault_of : (cause : Cause) → Holds words old new cause → Tells old new cause status → status ≡ 6 → ((name : Name) × (reading words ≡ Some name)) × Rose old.read_faults new.read_faults
  read_fault_of Translated h t e = absurd (let q = t.0 in omega arith)
  read_fault_of Unread h t e = absurd (never 2 6 (λ q. absurd (omega arith)) (λ q. absurd (omega arith)) (λ q. absurd (omega arith)) (said _ 2 t) e)
  read_fault_of (Missing name) h t e = absurd (never 3 6 (λ q. absurd (omega arith)) (λ q. absurd (omega arith)) (λ q. absurd (omega arith)) (said _ 3 t) e)
  read_fault_of (TooLarge name) h t e = absurd (never 5 6 (λ q. absurd (omega arith)) (λ q. absurd (omega arith)) (λ q. absurd (omega arith)) (said _ 5 t) e)
  read_fault_of (Faulty name f) h t e =
      absurd (never (fault_status f) 6 (λ q. absurd (omega arith)) (λ q. absurd (omega arith)) (not_fault f 6 (λ q. absurd (omega arith)) (λ q. absurd (omega arith))) (said _ (fault_status f) t) e)
  read_fault_of ReadFailed h t e = ((h.0, h.1), h.2)
  read_fault_of WriteFailed h t e = absurd (never 7 6 (λ q. absurd (omega arith)) (λ q. absurd (omega arith)) (λ q. absurd (omega arith)) (said _ 7 t) e)
  read_fault_of OutOfMemory h t e = absurd (never 8 6 (λ q. absurd (omega arith)) (λ q. absurd (omega arith)) (λ q. absurd (omega arith)) (said _ 8 t) e)

  write_fault_of : (cause : Cause) → Holds words old new cause → Tells old new cause status → status ≡ 7 → Rose old.write_faults new.write_faults ⊎ Rose old.err_faults new.err_faults
  write_fault_of Translated h t e = absurd (let q = t.0 in omega arith)
  write_fault_of Unread h t e = inr (err_fault 2 e (λ q. absurd (omega arith)) (said _ 2 t))
  write_fault_of (Missing name) h t e = inr (err_fault 3 e (λ q. absurd (omega arith)) (said _ 3 t))
  write_fault_of (TooLarge name) h t e = inr (err_fault 5 e (λ q. absurd (omega arith)) (said _ 5 t))
  write_fault_of (Faulty name f) h t e = inr (err_fault (fault_status f) e (not_fault f 7 (λ q. absurd (omega arith)) (λ q. absurd (omega arith))) (said _ (fault_status f) t))
  write_fault_of ReadFailed h t e = inr (err_fault 6 e (λ q. absurd (omega arith)) (said _ 6 t))
  write_fault_of WriteFailed h t e = inl h.2
  write_fault_of OutOfMemory h t e = inr (err_fault 8 e (λ q. absurd (omega arith)) (said _ 8 t))

  complete_of : (cause : Cause) → Holds words old new cause → Tells old new cause status → (files : Files) (P : Program) → old.files ≡ Some files → Spells words old.files P → (Rose old.read_faults new.read_faults → ⊥) → (Rose old.write_faults new.write_faults → ⊥) → (Rose old.err_faults new.err_faults → ⊥) → (status ≡ 0) ⊎ (status ≡ 8)
  complete_of Translated h t files P told s reads writes says = inl t.0
  complete_of Unread h t files P told s reads writes says = let a = h.0 in let b = s.read in cc
  complete_of (Missing name) h t files P told s reads writes says =
      let a = h.0 in
      let b = s.read in
      let same : name ≡ s.name = cc in
      let none : None ≡ Some s.text = same_given s.name None (Some s.text) files old.files told (subst (λ (n : Name). GivesModule old.files n None) same h.1) s.found in
      cc
  complete_of (TooLarge name) h t files P told s reads writes says =
      let a = h.0 in
      let b = s.read in
      let same : name ≡ s.name = cc in
      let texts : Some h.1 ≡ Some s.text = same_given s.name (Some h.1) (Some s.text) files old.files told (subst (λ (n : Name). GivesModule old.files n (Some h.1)) same h.2) s.found in
      let text : h.1 ≡ s.text = cc in
      let short = s.short in
      let long : most_bytes < length s.text = subst (λ (l : List ℕ). most_bytes < length l) text h.3 in
      absurd (omega arith)
  complete_of (Faulty name f) h t files P told s reads writes says =
      let a = h.0 in
      let b = s.read in
      let same : name ≡ s.name = cc in
      let texts : Some h.1 ≡ Some s.text = same_given s.name (Some h.1) (Some s.text) files old.files told (subst (λ (n : Name). GivesModule old.files n (Some h.1)) same h.2) s.found in
      let text : h.1 ≡ s.text = cc in
      absurd (no_fault h.1 s.body f (subst (λ (l : List ℕ). IsSource l s.body) (sym text) s.source) h.4)
  complete_of ReadFailed h t files P told s reads writes says = absurd (reads h.2)
  complete_of WriteFailed h t files P told s reads writes says = absurd (writes h.2)
  complete_of OutOfMemory h t files P told s reads writes says = inr (⊎_elim (λ a. a) (λ b. b) (no_rise 8 says (said _ 8 t)))

  abbrev Known : Type 0
  Known = (status ≡ 0) ⊎ (status ≡ 2) ⊎ (status ≡ 3) ⊎ (status ≡ 5) ⊎ (status ≡ 6) ⊎ (status ≡ 7) ⊎ (status ≡ 8)

  else_known : (((status ≡ 7) × Rose old.err_faults new.err_faults) ⊎ (status ≡ 8)) → Known
  else_known h = ⊎_elim (λ f. inr (inr (inr (inr (inr (inl f.0)))))) (λ m. inr (inr (inr (inr (inr (inr m)))))) h

  known_of : (cause : Cause) → Tells old new cause status → Known
  known_of Translated t = inl t.0
  known_of Unread t = ⊎_elim (λ a. inr (inl a)) else_known (said _ 2 t)
  known_of (Missing name) t = ⊎_elim (λ a. inr (inr (inl a))) else_known (said _ 3 t)
  known_of (TooLarge name) t = ⊎_elim (λ a. inr (inr (inr (inl a)))) else_known (said _ 5 t)
  known_of (Faulty name f) t =
      ⊎_elim (λ a. ⊎_elim (λ three. inr (inr (inl (a ∙ three)))) (λ five. inr (inr (inr (inl (a ∙ five))))) (either_fault f)) else_known (said _ (fault_status f) t)
  known_of ReadFailed t = ⊎_elim (λ a. inr (inr (inr (inr (inl a))))) else_known (said _ 6 t)
  known_of WriteFailed t = ⊎_elim (λ a. inr (inr (inr (inr (inr (inl a)))))) else_known (said _ 7 t)
  known_of OutOfMemory t = ⊎_elim (λ a. inr (inr (inr (inr (inr (inr a)))))) else_known (said _ 8 t)

  kept_of : (cause : Cause) → Holds words old new cause → Tells old new cause status → (status ≡ 0 → ⊥) → (status ≡ 7 → ⊥) → (status ≡ 8 → ⊥) → new.files ≡ old.files
  kept_of Translated h t no0 no7 no8 = absurd (no0 t.0)
  kept_of Unread h t no0 no7 no8 = h.1
  kept_of (Missing name) h t no0 no7 no8 = h.2
  kept_of (TooLarge name) h t no0 no7 no8 = h.4
  kept_of (Faulty name f) h t no0 no7 no8 = h.5
  kept_of ReadFailed h t no0 no7 no8 = h.3
  kept_of WriteFailed h t no0 no7 no8 = absurd (⊎_elim no7 (λ b. ⊎_elim (λ f. no7 f.0) no8 b) (said _ 7 t))
  kept_of OutOfMemory h t no0 no7 no8 = absurd (⊎_elim no8 (λ b. ⊎_elim (λ f. no7 f.0) no8 b) (said _ 8 t))

  pub causes_follow : Ends words old new status → Causes words old new status
  causes_follow e =
      record {
        done = done_of e.cause e.holds e.tells;
        refused = refused_of e.cause e.holds e.tells;
        unread = unread_of e.cause e.holds e.tells;
        source = source_of e.cause e.holds e.tells;
        limit = limit_of e.cause e.holds e.tells;
        read_fault = read_fault_of e.cause e.holds e.tells;
        write_fault = write_fault_of e.cause e.holds e.tells;
        complete = complete_of e.cause e.holds e.tells;
        known = known_of e.cause e.tells;
        folder_kept = kept_of e.cause e.holds e.tells;
      }
