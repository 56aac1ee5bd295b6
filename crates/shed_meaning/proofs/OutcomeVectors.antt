-- What some runs of the command come to, and what they cannot come to.
use Rattle.std.proofs.Common.{◌≡◌, ℕ, Bool, true, zero, suc, ◌<◌, ◌≤◌, List, [], ◌∷◌, length, take, drop, Option, Some, None, inl, inr, refl, sym, ap, ◌∙◌, ◌++◌, replicate, subst, codes, lit≤, lit<, true, not-le_of_lt}
use Rattle.std.specs.Prelude.{option_map}
use Rattle.std.specs.Fmt.{digits}
use Rattle.std.specs.FinMap as map
use Rattle.std.proofs.lemmas.List.{length-take-le}
use Rattle.runs.specs.Number.{W32}
use Rattle.py_tokens.specs.Token.{Place, BadCharacter, TooLong, Tokens}
use Rattle.py_tokens.specs.Tokens.{tokens_of_characters, beginning, unmarked}
use Rattle.py_syntax.specs.Laws.{IsLongestFront}
use Rattle.py_constructs.specs.Construct.{Construct, Float, constructs}
use Rattle.py_constructs.specs.Search.{best}
use Rattle.py_constructs.specs.Trial.{search}
use Rattle.py_constructs.proofs.Trial.{search_law}
use Rattle.py_nesting.specs.Outlines.{Plain, Event, Over, Gather, JoinGroup, Assign}
use Rattle.py_nesting.proofs.FirstFound.{first_law}
use Rattle.shed_base.specs.Files.{Files, with_file}
use Rattle.shed_base.proofs.WrittenFiles.{file_of-with_file, file_of-empty}
use Rattle.py_meaning.specs.Source.{IsSource, most_bytes, names_of, grammar_tokens}
use Rattle.py_meaning.proofs.SourceVectors.{at, is_ascii, ascii_tokens, tokens, tree, spelt_text, read_text, longest_front, sum_text, sum_body, sum_is_source}
use Rattle.cpp_meaning.specs.Text.{File}
use Rattle.cpp_meaning.proofs.TreeVectors.{sum}
use Rattle.shed_meaning.specs.Headline.{written}
use Rattle.py_tokens.specs.Tokens.{tokens_of}
use Rattle.py_nesting.specs.TooDeep.{IsShallowTo}
use Rattle.py_nesting.proofs.FrontsOrdered.{ordered_front}
use Rattle.py_demands.specs.Stops.{behind, is_shallow_at}
use Rattle.py_demands.proofs.ShallowFronts.{shallow_front_law}
use Rattle.shed_meaning.proofs.GrammarOrdered.{grammar_tokens_are_ordered}
use Rattle.shed_meaning.specs.Fault.{Fault, BadToken, Unexpected, Outside, TooDeep, Unbuilt, HasFault, place_at, said_at, fault_text, fault_status}
use Rattle.shed_meaning.specs.Outcome.{World, Translated, Unread, Missing, TooLarge, Faulty, ReadFailed, WriteFailed, OutOfMemory, GivesModule, Spells, Yields, with_files, message_of, Says, Tells, Holds, Cause, Ends}
use Rattle.shed_meaning.proofs.LayoutVectors.{sum_source}
use Rattle.shed_meaning.proofs.HeadlineVectors.{sum_headline}
use Rattle.shed_meaning.proofs.FaultsExcluded.{no_fault}

abbrev words : List (List ℕ)
words = codes "translate" ∷ codes "main" ∷ []

-- a folder with the one file `main.py`
abbrev folder : List ℕ → Files
folder text = with_file map.empty (codes "main.py") text

-- these files, err with these bytes, and nothing else to tell of
abbrev world : Files → List ℕ → World
world files err = record { files = Some files; out = Some []; err = Some err; read_faults = 0; write_faults = 0; err_faults = 0 }

-- ---- what the folder gives

given : (text : List ℕ) → take 1048577 text ≡ text → GivesModule (Some (folder text)) (codes "main") (Some text)
given text e = ap (λ (o : Option (List ℕ)). Some (option_map (λ (bytes : List ℕ). take 1048577 bytes) o)) (file_of-with_file map.empty (codes "main.py") text) ∙ ap (λ (bytes : List ℕ). Some (Some bytes)) e

missing : GivesModule (Some map.empty) (codes "main") None
missing = ap (λ (o : Option (List ℕ)). Some (option_map (λ (bytes : List ℕ). take 1048577 bytes) o)) (file_of-empty (codes "main.py"))

files_in_order : (held : Files) → with_files (Some held) (record { name = codes "a"; bytes = codes "1" } ∷ record { name = codes "b"; bytes = codes "2" } ∷ []) ≡ Some (with_file (with_file held (codes "a") (codes "1")) (codes "b") (codes "2"))
files_in_order held = refl

-- ---- a module that is translated

sum_spelt : Spells words (Some (folder sum_text)) sum_source
sum_spelt =
    record {
      name = codes "main";
      read = refl;
      text = sum_text;
      found = given sum_text refl;
      short = lit≤ tt;
      body = sum_body;
      source = sum_is_source;
      is_program = refl;
    }

abbrev files : List File
files = written sum_source sum

sum_yields : Yields words (Some (folder sum_text)) files
sum_yields = record { source = sum_source; spelt = sum_spelt; target = sum; headline = sum_headline }

abbrev told : List File → Option Files
told written = with_files (Some (folder sum_text)) written

abbrev left : Option Files → List ℕ → ℕ → World
left files err faults = record { files = files; out = Some []; err = Some err; read_faults = 0; write_faults = faults; err_faults = 0 }

translated : Ends words (world (folder sum_text) []) (left (told files) [] 0) 0
translated = record { cause = Translated; holds = (files, sum_yields, refl); tells = (refl, refl); out = refl }

-- the second of the five files breaks off behind its first 12 bytes, `#pragma once`
broken_off : Ends words (world (folder sum_text) []) (left (option_map (λ (f : Files). with_file f (codes "main.hpp") (codes "#pragma once")) (told (take 1 files))) (codes "shed: write fault\n") 1) 7
broken_off =
    record {
      cause = WriteFailed;
      holds = (files, sum_yields, lit≤ tt, record { whole = 1; failing = _; at = refl; count = 12; left = refl });
      tells = inl (refl, refl);
      out = refl;
    }

-- memory ends behind the first file
memory_ended : Ends words (world (folder sum_text) []) (left (told (take 1 files)) (codes "shed: no memory\n") 0) 8
memory_ended = record { cause = OutOfMemory; holds = (codes "main", refl, inr (files, sum_yields, 1, refl)); tells = inl (refl, refl); out = refl }

-- ---- other endings

unread : (held : Files) → Ends [] (world held (codes "a\n")) (world held (codes "a\nusage: shed translate [-l] [-b] [-w] [-o] [-a] [-m FILE] NAME | run [--ticks N] NAME | bulk SEED COUNT\n")) 2
unread held = record { cause = Unread; holds = (refl, refl); tells = inl (refl, refl); out = refl }

not_there : Ends words (world map.empty []) (world map.empty (codes "main.py: M1 Missing main\n")) 3
not_there = record { cause = Missing (codes "main"); holds = (refl, missing, refl); tells = inl (refl, refl); out = refl }

-- more bytes than a module may have, whatever they are
too_large : (text : List ℕ) → most_bytes < length text → Ends words (world (folder text) []) (world (folder text) (codes "shed: M6 TooLarge main\n")) 5
too_large text long =
    let front = ap (λ (o : Option (List ℕ)). Some (option_map (λ (bytes : List ℕ). take 1048577 bytes) o)) (file_of-with_file map.empty (codes "main.py") text) in
    let cut : length (take 1048577 text) ≡ 1048577 = length-take-le 1048577 text long in
    record {
      cause = TooLarge (codes "main");
      holds = (refl, take 1048577 text, front, subst (λ (n : ℕ). most_bytes < n) (sym cut) (lit< tt), refl);
      tells = inl (refl, refl);
      out = refl;
    }

-- the module has this text and this fault
refused : (text : List ℕ) (fault : Fault) → take 1048577 text ≡ text → length text ≤ most_bytes → HasFault text fault
    → Ends words (world (folder text) []) (world (folder text) (fault_text (codes "main") fault)) (fault_status fault)
refused text fault all short has = record { cause = Faulty (codes "main") fault; holds = (refl, text, given text all, short, has, refl); tells = said fault; out = refl }
  where
    said : (f : Fault) → Tells (world (folder text) []) (world (folder text) (fault_text (codes "main") f)) (Faulty (codes "main") f) (fault_status f)
    said f = inl (refl, refl)

-- x = $
bad_character_text : List ℕ
bad_character_text = codes "x = $\n"

bad_character : Ends words (world (folder bad_character_text) []) (world (folder bad_character_text) (codes "main.py:1:5: L2 BadCharacter\n")) 3
unfolding bad_character_text digits lib.Utf8.encode
bad_character = refused bad_character_text (BadToken BadCharacter (at 1 5)) refl (lit≤ tt) (ascii_tokens bad_character_text refl ∙ refl)

-- a name of 1001 letters
too_long_text : List ℕ
too_long_text = codes "x = " ++ (replicate 1001 97 ++ codes "\n")

too_long : Ends words (world (folder too_long_text) []) (world (folder too_long_text) (codes "main.py:1:5: L11 TooLong\n")) 5
unfolding too_long_text digits lib.Utf8.encode
too_long = refused too_long_text (BadToken TooLong (at 1 5)) refl (lit≤ tt) (ascii_tokens too_long_text refl ∙ refl)

-- the first so many tokens are nested too deep nowhere
abbrev is_shallow : ℕ → List ℕ → Bool
is_shallow k text = is_shallow_at (behind (take k (grammar_tokens (tokens text)))) (take k (grammar_tokens (tokens text)))

shallow_to : (k : ℕ) (text : List ℕ) (p : Place) → tokens_of 0 W32 text ≡ Tokens (tokens text) → is_shallow k text ≡ true → IsShallowTo p (take k (grammar_tokens (tokens text)))
shallow_to k text p lexed h q t =
    absurd (shallow_front_law (take k (grammar_tokens (tokens text))) (ordered_front k (grammar_tokens (tokens text)) (grammar_tokens_are_ordered.0 0 W32 text (tokens text) lexed)) h q t)

-- where the longest front of the tokens has so many of them, the next one is said
stuck : (k : ℕ) (text : List ℕ) (p : Place) (said : List ℕ) → is_ascii text ≡ true → tokens_of_characters W32 (beginning 0) (unmarked text) ≡ Tokens (tokens text)
    → IsLongestFront (take k (grammar_tokens (tokens text))) (drop k (grammar_tokens (tokens text)))
    → p ≡ place_at (tokens text) (drop k (tokens text)) → said ≡ said_at (drop k (tokens text))
    → search constructs 400 (grammar_tokens (tokens text)) k None ≡ Some None → is_shallow k text ≡ true → HasFault text (Unexpected p said)
stuck k text p said a lexed longest place words none shallow = (
  tokens text,
  ascii_tokens text a ∙ lexed,
  record {
    count = k;
    longest = longest;
    place = place;
    words = words;
    none = search_law 400 (grammar_tokens (tokens text)) k None none;
  },
  shallow_to k text p (ascii_tokens text a ∙ lexed) shallow,
)

-- no value stands behind `=`
no_value_text : List ℕ
no_value_text = codes "x = \n"

no_value : Ends words (world (folder no_value_text) []) (world (folder no_value_text) (codes "main.py:1:5: P1 Unexpected NEWLINE\n")) 3
unfolding no_value_text digits lib.Utf8.encode
no_value = refused no_value_text (Unexpected (at 1 5) (codes "NEWLINE")) refl (lit≤ tt) (stuck 2 no_value_text _ _ refl refl (longest_front 400 2 no_value_text refl) refl refl refl refl)

-- a branch with nothing in it: the end has the place of the last token, which is a NEWLINE
no_block_text : List ℕ
no_block_text = codes "if 1 < 2:\n"

no_block : Ends words (world (folder no_block_text) []) (world (folder no_block_text) (codes "main.py:1:10: P1 Unexpected END\n")) 3
unfolding no_block_text digits lib.Utf8.encode
no_block = refused no_block_text (Unexpected (at 1 10) (codes "END")) refl (lit≤ tt) (stuck 6 no_block_text _ _ refl refl (longest_front 400 6 no_block_text refl) refl refl refl refl)

-- a text behind a name is said as `repr` has it
text_behind_text : List ℕ
text_behind_text = codes "x = 1\nx 'it\\'s'\n"

text_behind : Ends words (world (folder text_behind_text) []) (world (folder text_behind_text) (codes "main.py:2:3: P1 Unexpected \"it's\"\n")) 3
unfolding text_behind_text digits lib.Utf8.encode
text_behind = refused text_behind_text (Unexpected (at 2 3) (codes "\"it's\"")) refl (lit≤ tt) (stuck 5 text_behind_text _ _ refl refl (longest_front 400 5 text_behind_text refl) refl refl refl refl)

-- where a construct is found behind so many tokens, it is said in place of the next one
found_at : (k n : ℕ) (text : List ℕ) (p : Place) (c : Construct) → is_ascii text ≡ true → tokens_of_characters W32 (beginning 0) (unmarked text) ≡ Tokens (tokens text)
    → IsLongestFront (take k (grammar_tokens (tokens text))) (drop k (grammar_tokens (tokens text)))
    → search constructs 400 (grammar_tokens (tokens text)) k None ≡ Some (Some (best c (record { number = n; place = p }))) → is_shallow k text ≡ true → HasFault text (Outside p c)
found_at k n text p c a lexed longest e shallow = (
  tokens text,
  ascii_tokens text a ∙ lexed,
  record { count = k; longest = longest; found = search_law 400 (grammar_tokens (tokens text)) k (Some (best c (record { number = n; place = p }))) e },
  shallow_to k text p (ascii_tokens text a ∙ lexed) shallow,
)

-- a float stands where a number may
half_text : List ℕ
half_text = codes "x = 1.5\n"

half : Ends words (world (folder half_text) []) (world (folder half_text) (codes "main.py:1:5: P2 Outside float\n")) 3
unfolding half_text digits lib.Utf8.encode
half = refused half_text (Outside (at 1 5) Float) refl (lit≤ tt) (found_at 2 2 half_text (at 1 5) Float refl refl (longest_front 400 2 half_text refl) refl refl)

-- a number below a hundred signs and their statement
too_deep_text : List ℕ
too_deep_text = codes "x = " ++ (replicate 100 45 ++ codes "1\n")

-- how its nodes are put together, the last step first
abbrev signs : ℕ → ℕ → List Event → List Event
signs zero column events = events
signs (suc n) column events = Over Plain (at 1 column) 1 ∷ signs n (suc column) events

abbrev too_deep_steps : List Event
too_deep_steps = JoinGroup ∷ Over Plain (at 1 1) 2 ∷ signs 100 5 (Over Plain (at 1 105) 0 ∷ Gather 1 ∷ Assign ∷ Over Plain (at 1 1) 0 ∷ Gather 0 ∷ [])

too_deep : Ends words (world (folder too_deep_text) []) (world (folder too_deep_text) (codes "main.py:1:105: P3 TooDeep\n")) 5
unfolding too_deep_text digits lib.Utf8.encode
too_deep = refused too_deep_text (TooDeep (at 1 105)) refl (lit≤ tt) (inl (record {
  tokens = tokens too_deep_text;
  lexed = ascii_tokens too_deep_text refl ∙ refl;
  tree = tree 2000 too_deep_text;
  spelt = spelt_text 2000 too_deep_text refl;
  first = first_law too_deep_steps (tree 2000 too_deep_text) refl;
}))

-- print(y), where y is unset
unset_text : List ℕ
unset_text = codes "print(y)\n"

unset : Ends words (world (folder unset_text) []) (world (folder unset_text) (codes "main.py:1:7: P2 Outside unbuilt\n")) 3
unfolding unset_text digits lib.Utf8.encode
unset =
    refused unset_text (Unbuilt (at 1 7)) refl (lit≤ tt)
    (tree 400 unset_text, names_of (tokens unset_text), read_text 400 unset_text refl refl refl (lit≤ tt), refl)

-- err takes four bytes of the message, and its next write fails
half_told : Ends words (world map.empty []) (record { files = Some map.empty; out = Some []; err = Some (codes "main"); read_faults = 0; write_faults = 0; err_faults = 1 }) 7
half_told = record { cause = Missing (codes "main"); holds = (refl, missing, refl); tells = inr (inl (refl, lit≤ tt, 4, refl)); out = refl }

read_failed : Ends words (world map.empty []) (record { files = Some map.empty; out = Some []; err = Some (codes "shed: read fault\n"); read_faults = 1; write_faults = 0; err_faults = 0 }) 6
read_failed = record { cause = ReadFailed; holds = (codes "main", refl, lit≤ tt, refl); tells = inl (refl, refl); out = refl }

-- ---- what cannot be

-- a message that is said in vain, or a status that is not its own
not_said : (old new : Option (List ℕ)) (before now : ℕ) (message : List ℕ) (wanted status : ℕ) → (status ≡ wanted → ⊥) → (status ≡ 7 → ⊥) → (status ≡ 8 → ⊥) → Says old new before now message wanted status → ⊥
not_said old new before now message wanted status w f m (inl s) = w s.0
not_said old new before now message wanted status w f m (inr (inl s)) = f s.0
not_said old new before now message wanted status w f m (inr (inr s)) = m s.0

-- the module `x = 1`, `print(x + 2)` is never refused, missing or too large
not_refused : (new : World) (status : ℕ) → (status ≡ 0 → ⊥) → (status ≡ 2 → ⊥) → (status ≡ 6 → ⊥) → (status ≡ 7 → ⊥) → (status ≡ 8 → ⊥)
    → Ends words (world (folder sum_text) []) new status → ⊥
not_refused new status no0 no2 no6 no7 no8 end = at end.cause end.holds end.tells
  where
    as_main : (name : List ℕ) (found : Option (List ℕ)) → Some (codes "main") ≡ Some name → GivesModule (Some (folder sum_text)) name found → Some sum_text ≡ found
    as_main name found e g =
        let same : codes "main" ≡ name = cc e in
        let as_well : GivesModule (Some (folder sum_text)) (codes "main") found = subst (λ (n : List ℕ). GivesModule (Some (folder sum_text)) n found) (sym same) g in
        let both : Some (Some sum_text) ≡ Some found = sym (given sum_text refl) ∙ as_well in
        cc both

    is_short : (text : List ℕ) → sum_text ≡ text → most_bytes < length text → ⊥
    is_short text e long = not-le_of_lt (subst (λ (t : List ℕ). most_bytes < length t) (sym e) long) (lit≤ tt)

    at : (c : Cause) → Holds words (world (folder sum_text) []) new c → Tells (world (folder sum_text) []) new c status → ⊥
    at Translated h t = no0 t.0
    at Unread h t = cc (h.0)
    at (Missing name) h t = cc (as_main name None h.0 h.1)
    at (TooLarge name) h t = is_short h.1 (cc (as_main name (Some h.1) h.0 h.2)) h.3
    at (Faulty name fault) h t =
        let text : sum_text ≡ h.1 = cc (as_main name (Some h.1) h.0 h.2) in no_fault h.1 sum_body fault (subst (λ (t : List ℕ). IsSource t sum_body) text sum_is_source) h.4
    at ReadFailed h t = not_said (Some []) new.err 0 new.err_faults (message_of ReadFailed) 6 status no6 no7 no8 t
    at WriteFailed h t = not_said (Some []) new.err 0 new.err_faults (message_of WriteFailed) 7 status no7 no7 no8 t
    at OutOfMemory h t = not_said (Some []) new.err 0 new.err_faults (message_of OutOfMemory) 8 status no8 no7 no8 t

translatable : (new : World) → Ends words (world (folder sum_text) []) new 3 → ⊥
translatable new end = not_refused new 3 (λ e. cc e) (λ e. cc e) (λ e. cc e) (λ e. cc e) (λ e. cc e) end

within_limits : (new : World) → Ends words (world (folder sum_text) []) new 5 → ⊥
within_limits new end = not_refused new 5 (λ e. cc e) (λ e. cc e) (λ e. cc e) (λ e. cc e) (λ e. cc e) end

-- no words never end well, whatever the folder has
no_words_fail : (old new : World) → Ends [] old new 0 → ⊥
no_words_fail old new end = at end.cause end.holds end.tells
  where
    at : (c : Cause) → Holds [] old new c → Tells old new c 0 → ⊥
    at Translated h t = cc (h.1.spelt.read)
    at Unread h t = not_said old.err new.err old.err_faults new.err_faults (message_of Unread) 2 0 (λ e. cc e) (λ e. cc e) (λ e. cc e) t
    at (Missing name) h t = cc (h.0)
    at (TooLarge name) h t = cc (h.0)
    at (Faulty name fault) h t = cc (h.0)
    at ReadFailed h t = cc (h.1)
    at WriteFailed h t = cc (h.1.spelt.read)
    at OutOfMemory h t = cc (h.1)
