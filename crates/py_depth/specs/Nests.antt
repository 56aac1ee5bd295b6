-- What the code's entries and events become.
use Rattle.std.specs.Prelude.{◌≡◌, List, ◌++◌, Option, Some, None}
use Rattle.py_nesting.specs.Outlines.{Event}
use Rattle.py_nesting.specs.Shapes.{Entry}
use Rattle.py_nesting.specs.Effects.{Effect, effect}
use Rattle.py_depth.specs.PlainEntries.{entries_of, events_of}
use Rattle.py_depth.specs.declared.nest.Nest.{Nest}

-- the events of an effect come behind those that were
abbrev pub onto : Option Effect → List Event → Option Effect
onto None events = None
onto (Some (effect es more)) events = Some (effect es (more ++ events))

-- where an action has an effect, these are its entries and events
abbrev pub IsAfter : (List Entry → Option Effect) → Nest → Nest → Type 0
IsAfter f old new = onto (f (entries_of old.entries.items)) (events_of old.events.items) ≡ Some (effect (entries_of new.entries.items) (events_of new.events.items))
