-- Entries and events stand for parts.
use Rattle.std.proofs.Common.{◌≡◌, Bool, List, ◌++◌, Option, Some, None, refl, sym, ap, ◌∙◌}
use Rattle.py_syntax.specs.Build.{Parts, Action, act, are_targets_last}
use Rattle.py_nesting.proofs.EventsAdded.{built_more}
use Rattle.py_nesting.proofs.FormsAgree.{targets_of_entries}
use Rattle.py_nesting.specs.Outlines.{Event, built}
use Rattle.py_nesting.specs.Shapes as shapes
use Rattle.py_nesting.specs.Shapes.{Entry, outlines_of}
use Rattle.py_nesting.specs.Effects.{Effect, effect, effect_of, after_all}
use Rattle.py_nesting.proofs.EffectsKept.{effects_kept}
use Rattle.py_nesting.specs.Asked.{targets_last}
use Rattle.py_depth.specs.Nests.{onto, IsAfter}
use Rattle.py_depth.specs.PlainEntries.{entries_of, events_of}
use Rattle.py_depth.specs.declared.nest.Nest.{Nest}

keeps : (a : Action) (v : Parts) (es fs : List Entry) (events news : List Event) (r : Option Effect) → effect_of a (shapes.entries_of v) ≡ r
    → onto r events ≡ Some (effect fs news) → built events ≡ Some (outlines_of v)
    → (fs ≡ shapes.entries_of (act a v)) × (built news ≡ Some (outlines_of (act a v)))
keeps a v es fs events news None e h b = absurd (cc)
keeps a v es fs events news (Some (effect gs more)) e h b =
    let kept = effects_kept a v (effect gs more) e in
    let entries : gs ≡ fs = cc in
    let steps : more ++ events ≡ news = cc in
    (sym entries ∙ sym kept.0, ap built (sym steps) ∙ built_more more events ∙ ap (after_all more) b ∙ kept.1)

-- what an action does
pub acted : (a : Action) (v : Parts) (old new : Nest) → IsAfter (effect_of a) old new
    → ((entries_of old.entries.items ≡ shapes.entries_of v) × (built (events_of old.events.items) ≡ Some (outlines_of v)))
    → (entries_of new.entries.items ≡ shapes.entries_of (act a v)) × (built (events_of new.events.items) ≡ Some (outlines_of (act a v)))
acted a v old new h s =
    keeps a v (entries_of old.entries.items) _ (events_of old.events.items) _ (effect_of a (shapes.entries_of v)) refl
    (ap (λ (es : List Entry). onto (effect_of a es) (events_of old.events.items)) (sym s.0) ∙ h) s.1

pub targets_asked : (v : Parts) (es : List Entry) (b : Bool) → es ≡ shapes.entries_of v → b ≡ targets_last es → b ≡ are_targets_last v
targets_asked v es b h e = e ∙ ap targets_last h ∙ sym (targets_of_entries v)
