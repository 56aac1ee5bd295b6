-- The stack of demands has its top at the end, and nodes that are met come one by one.
use Rattle.std.proofs.Common.{◌≡◌, ℕ, zero, suc, ◌-◌, ◌<◌, ◌≤◌, List, [], ◌∷◌, ◌++◌, map, length, take, get_or, Option, refl, sym, ap, ◌∙◌, arith}
use Rattle.std.proofs.Math.Seq.{take-suc, take-length}
use Rattle.std.proofs.lemmas.List.{reverse-append}
use Rattle.py_tokens.specs.Token as token
use Rattle.py_nesting.specs.Walk as walking
use Rattle.py_nesting.specs.Walk.{Met, met, walk, back, brought}
use Rattle.py_nesting.specs.First.{first_of}
use Rattle.py_depth.specs.PlainEntries.{plain_event, events_of}
use Rattle.py_depth.specs.PlainDemands.{plain_demand, demands_of}
use Rattle.py_depth.specs.declared.event.Event.{Event}
use Rattle.py_depth.proofs.Stacks.{events_of-push, events_of-nothing}
use Rattle.py_depth.specs.declared.walk.Demand.{Demand}

pub demands_of-push : (xs : List Demand) (x : Demand) → demands_of (xs ++ x ∷ []) ≡ plain_demand x ∷ demands_of xs
unfolding demands_of
demands_of-push xs x = ap (map plain_demand) (reverse-append xs (x ∷ []))

pub demands_of-nothing : demands_of [] ≡ []
unfolding demands_of
demands_of-nothing = refl

pub ruleset stacks = (demands_of-push, demands_of-nothing)

-- one event further back
pub gone_back : (events : List Event) (i : ℕ) (d : Event) (whole first next : Option token.Place) (ds es : List walking.Demand) → 0 < i → i ≤ length events
    → whole ≡ first_of first (walk (events_of (take i events)) ds) → es ≡ back (plain_event (get_or events (i - 1) d)) ds
    → ((nodes : List Met) → first_of first (brought (plain_event (get_or events (i - 1) d)) ds nodes) ≡ first_of next nodes)
    → whole ≡ first_of next (walk (events_of (take (i - 1) events)) es)
gone_back events zero d whole first next ds es p q h e f = absurd (omega arith)
gone_back events (suc j) d whole first next ds es p q h e f =
    let less : j < length events = omega arith in
    let split : events_of (take (suc j) events) ≡ plain_event (get_or events j d) ∷ events_of (take j events) =
    ap events_of (take-suc events j d less) ∙ events_of-push (take j events) (get_or events j d) in
    let one : suc j - 1 ≡ j = omega arith in
    rw one
    (h ∙ ap (λ l. first_of first (walk l ds)) split ∙ (rw one at (f (walk (events_of (take j events)) (back (plain_event (get_or events j d)) ds))))
    ∙ ap (λ (l : List walking.Demand). first_of next (walk (events_of (take j events)) l)) (sym (rw one at e)))

-- before the first
pub begun : (events : List Event) (first : Option token.Place) (ds : List walking.Demand)
    → first_of first (walk (events_of events) ds) ≡ first_of first (walk (events_of (take (length events) events)) ds)
begun events first ds = rw (take-length events) refl

-- behind the last
pub gone_through : (events : List Event) (i : ℕ) (whole first : Option token.Place) (ds : List walking.Demand) → i ≤ 0
    → whole ≡ first_of first (walk (events_of (take i events)) ds) → whole ≡ first
gone_through events zero whole first ds p h = h ∙ ap (λ l. first_of first (walk l ds)) events_of-nothing
gone_through events (suc i) whole first ds p h = absurd (omega arith)
