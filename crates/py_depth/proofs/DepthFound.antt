-- The nodes that are met at the end are those of the module.
use Rattle.std.proofs.Common.{◌≡◌, ℕ, List, [], ◌∷◌, Option, Some, None, sym, ap, ◌∙◌, subst}
use Rattle.grammars.specs.Run.{Done, Stuck, run}
use Rattle.py_tokens.specs.Token.{Place}
use Rattle.py_syntax.specs.Token.{Token}
use Rattle.py_syntax.specs.Tree.{Body}
use Rattle.py_syntax.specs.Build.{Parts}
use Rattle.py_syntax.specs.Grammar.{IsModule}
use Rattle.py_syntax.specs.Heights.{IsShallow}
use Rattle.py_syntax.specs.Table.{table, sets}
use Rattle.py_syntax.specs.Laws.{goal, start}
use Rattle.py_syntax.proofs.TableLaws.{run_builds_tree, stuck_at_longest_front}
use Rattle.py_nesting.specs.TooDeep.{IsFirstTooDeep}
use Rattle.py_nesting.specs.First.{first_in, IsFirst}
use Rattle.py_nesting.specs.Outlines.{Event, built}
use Rattle.py_nesting.specs.TreeOutlines.{body_outline}
use Rattle.py_nesting.specs.Shapes as shapes
use Rattle.py_nesting.specs.Shapes.{outlines_of}
use Rattle.py_nesting.proofs.ShallowModules.{shallow_law}
use Rattle.py_depth.specs.Found.{IsRest}
use Rattle.py_depth.specs.PlainEntries.{entries_of, events_of}
use Rattle.py_depth.specs.declared.shape.Entry.{Entry}
use Rattle.py_depth.specs.declared.event.Event as code
use Rattle.py_depth.proofs.Stacks.{entries_of-nothing, events_of-nothing}
use Rattle.py_nesting.proofs.FirstFound.{first_law}

abbrev pub Finished : List Token → List Event → Type 0
Finished ts events = (n : ℕ) × (v : Parts) × (built events ≡ Some (outlines_of v)) × (run table sets n goal start ts ≡ Done v)

pub finished : (ts : List Token) (es : List shapes.Entry) (events : List Event)
    → ((n : ℕ) × (v : Parts) × ((es ≡ shapes.entries_of v) × (built events ≡ Some (outlines_of v))) × (run table sets n goal start ts ≡ Done v)) → Finished ts events
finished ts es events r = (r.0, r.1, r.2.1, r.3)

-- nothing stands for nothing
pub begins : (entries : List Entry) (events : List code.Event) → entries ≡ [] → events ≡ []
    → (entries_of entries ≡ shapes.entries_of start) × (built (events_of events) ≡ Some (outlines_of start))
begins entries events e f = (ap entries_of e ∙ entries_of-nothing, ap (λ l. built (events_of l)) f ∙ ap built events_of-nothing)

module_of : (ts : List Token) (events : List Event) → Finished ts events → (body : Body) × IsModule body ts × (built events ≡ Some (body_outline body ∷ []))
module_of ts events r =
    let t = run_builds_tree r.0 ts r.1 r.3 in
    (t.0, t.2, r.2 ∙ ap (λ (v : Parts). Some (outlines_of v)) t.1)

-- a tree, and the first place of it that lies too deep
first_found : (ts : List Token) (events : List Event) (first : Option Place) → Finished ts events → first ≡ first_in events → (body : Body) × IsModule body ts × IsFirst first body
first_found ts events first r f =
    let m = module_of ts events r in
    (m.0, m.1, subst (λ (o : Option Place). IsFirst o m.0) (sym f) (first_law events m.0 m.2))

pub found_shallow : (ts : List Token) (events : List Event) (first : Option Place) → Finished ts events → first ≡ first_in events → first ≡ None → (body : Body) × IsModule body ts × IsShallow body
found_shallow ts events first r f e =
    let m = first_found ts events first r f in
    (m.0, m.1, (shallow_law m.0).1 (subst (λ (o : Option Place). IsFirst o m.0) e m.2))

pub found_deep : (ts : List Token) (events : List Event) (first : Option Place) (p : Place) → Finished ts events → first ≡ first_in events → first ≡ Some p
    → (body : Body) × IsModule body ts × IsFirstTooDeep p body
found_deep ts events first p r f e =
    let m = first_found ts events first r f in
    (m.0, m.1, subst (λ (o : Option Place). IsFirst o m.0) e m.2)

pub rest_of_stuck : (ts rest : List Token) → ((n : ℕ) × (run table sets n goal start ts ≡ Stuck rest)) → IsRest ts rest
rest_of_stuck ts rest r = stuck_at_longest_front r.0 ts rest r.1
