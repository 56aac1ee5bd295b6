-- The stacks have their top at the end.
use Rattle.std.proofs.Common.{◌≡◌, List, [], ◌∷◌, ◌++◌, map, length, refl, ap, arith}
use Rattle.std.proofs.lemmas.List.{reverse-append}
use Rattle.py_depth.specs.PlainEntries.{plain_entry, plain_event, entries_of, events_of}
use Rattle.py_depth.specs.declared.shape.Entry.{Entry}
use Rattle.py_depth.specs.declared.event.Event.{Event}

pub entries_of-push : (xs : List Entry) (x : Entry) → entries_of (xs ++ x ∷ []) ≡ plain_entry x ∷ entries_of xs
unfolding entries_of
entries_of-push xs x = ap (map plain_entry) (reverse-append xs (x ∷ []))

pub events_of-push : (xs : List Event) (x : Event) → events_of (xs ++ x ∷ []) ≡ plain_event x ∷ events_of xs
unfolding events_of
events_of-push xs x = ap (map plain_event) (reverse-append xs (x ∷ []))

pub entries_of-nothing : entries_of [] ≡ []
unfolding entries_of
entries_of-nothing = refl

pub events_of-nothing : events_of [] ≡ []
unfolding events_of
events_of-nothing = refl

pub ruleset stacks = (entries_of-push, events_of-push, entries_of-nothing, events_of-nothing)

pub entries_of-none : (xs : List Entry) → length xs ≡ 0 → entries_of xs ≡ []
entries_of-none [] h = entries_of-nothing
entries_of-none (x ∷ xs) h = absurd (omega arith)
