-- Entries and what is asked of them, one after another.
use Rattle.std.proofs.Common.{◌≡◌, ℕ, zero, suc, ◌-◌, ◌+◌, ◌<◌, ◌≤◌, Bool, true, false, if◌then◌else◌, List, [], ◌∷◌, ◌++◌, length, take, get_or, Option, None, sym, ap, ◌∙◌, arith}
use Rattle.std.proofs.Math.Seq.{take-suc}
use Rattle.py_tokens.specs.Token as token
use Rattle.py_nesting.specs.First.{first_of}
use Rattle.py_nesting.specs.Shapes as shapes
use Rattle.py_nesting.specs.Walk as walking
use Rattle.py_nesting.specs.Walk.{Met}
use Rattle.py_demands.specs.Asks.{has_outline, of_outlines}
use Rattle.py_demands.specs.FrontDepth.{entry_met, tokens_met}
use Rattle.py_depth.specs.PlainEntries.{plain_entry, entries_of}
use Rattle.py_depth.specs.PlainDemands.{plain_demand, demands_of}
use Rattle.py_depth.specs.declared.shape.Entry.{Entry}
use Rattle.py_depth.specs.declared.walk.Demand.{Demand}
use Rattle.py_depth.specs.declared.walk.Demand.TheVariants as demand
use Rattle.py_depth.proofs.Demands.{demands_of-push, demands_of-nothing}
use Rattle.py_depth.proofs.Stacks.{entries_of-push, entries_of-nothing}

pub entries_split : (entries : List Entry) (i : ℕ) (x : Entry) → i < length entries → entries_of (take (suc i) entries) ≡ plain_entry (get_or entries i x) ∷ entries_of (take i entries)
entries_split entries i x p = ap entries_of (take-suc entries i x p) ∙ entries_of-push (take i entries) (get_or entries i x)

pub demands_split : (demands : List Demand) (i : ℕ) (x : Demand) → i < length demands → demands_of (take (suc i) demands) ≡ plain_demand (get_or demands i x) ∷ demands_of (take i demands)
demands_split demands i x p = ap demands_of (take-suc demands i x p) ∙ demands_of-push (take i demands) (get_or demands i x)

-- the first place of all is what is left of it from here
abbrev pub IsLeft : List Entry → List Demand → ℕ → Option token.Place → Type 0
IsLeft entries demands i first =
    (nodes : List Met) → first_of None (tokens_met (entries_of entries) (demands_of demands) nodes) ≡ first_of first (tokens_met (entries_of (take i entries)) (demands_of (take i demands)) nodes)

pub one_less : (entries : List Entry) (demands : List Demand) (i : ℕ) (x : Entry) (d : Demand) (first next : Option token.Place) → length entries ≡ length demands → 0 < i → i ≤ length entries
    → IsLeft entries demands i first → ((nodes : List Met) → first_of first (entry_met (plain_entry (get_or entries (i - 1) x)) (plain_demand (get_or demands (i - 1) d)) nodes) ≡ first_of next nodes)
    → IsLeft entries demands (i - 1) next
one_less entries demands zero x d first next e p q h f = absurd (omega arith)
one_less entries demands (suc j) x d first next e p q h f =
    let one : suc j - 1 ≡ j = omega arith in
    let less : j < length entries = omega arith in
    let same : j < length demands = omega arith in
    λ nodes. rw one
    (h nodes ∙ ap (λ (l : List shapes.Entry). first_of first (tokens_met l (demands_of (take (suc j) demands)) nodes)) (entries_split entries j x less)
    ∙ ap (λ (l : List walking.Demand). first_of first (tokens_met (plain_entry (get_or entries j x) ∷ entries_of (take j entries)) l nodes)) (demands_split demands j d same)
    ∙ (rw one at (f (tokens_met (entries_of (take j entries)) (demands_of (take j demands)) nodes))))

pub none_left : (entries : List Entry) (demands : List Demand) (i : ℕ) (first : Option token.Place) → i ≤ 0 → IsLeft entries demands i first
    → (nodes : List Met) → first_of None (tokens_met (entries_of entries) (demands_of demands) nodes) ≡ first_of first nodes
none_left entries demands zero first p h nodes = h nodes ∙ ap (λ (l : List shapes.Entry). first_of first (tokens_met l (demands_of []) nodes)) entries_of-nothing
none_left entries demands (suc i) first p h nodes = absurd (omega arith)

-- what is asked of outlines so far
abbrev pub IsAsked : List Entry → List Demand → ℕ → List Demand → Type 0
IsAsked entries demands i asked = demands_of asked ≡ of_outlines (entries_of (take i entries)) (demands_of (take i demands))

pub none_asked : (entries : List Entry) (demands asked : List Demand) → asked ≡ [] → IsAsked entries demands 0 asked
none_asked entries demands asked e = ap demands_of e ∙ demands_of-nothing ∙ ap (λ (l : List shapes.Entry). of_outlines l (demands_of [])) (sym entries_of-nothing)

asked_split : (entries : List Entry) (demands : List Demand) (i : ℕ) (x : Entry) (d : Demand) → length entries ≡ length demands → i < length entries
    → of_outlines (entries_of (take (suc i) entries)) (demands_of (take (suc i) demands))
    ≡ of_outlines (plain_entry (get_or entries i x) ∷ entries_of (take i entries)) (plain_demand (get_or demands i d) ∷ demands_of (take i demands))
asked_split entries demands i x d e p =
    let same : i < length demands = omega arith in
    ap (λ (l : List shapes.Entry). of_outlines l (demands_of (take (suc i) demands))) (entries_split entries i x p)
    ∙ ap (of_outlines (plain_entry (get_or entries i x) ∷ entries_of (take i entries))) (demands_split demands i d same)

by_outline : (b c : Bool) (d : walking.Demand) (ds : List walking.Demand) → c ≡ b → (if b then d ∷ ds else ds) ≡ (if c then d ∷ ds else ds)
by_outline b c d ds e = ap (λ (z : Bool). if z then d ∷ ds else ds) (sym e)

pub one_asked : (entries : List Entry) (demands asked more : List Demand) (i : ℕ) (x : Entry) (d : Demand) (b : Bool) → length entries ≡ length demands → i < length entries → IsAsked entries demands i asked
    → b ≡ has_outline (plain_entry (get_or entries i x)) → b ≡ true → more ≡ asked ++ get_or demands i d ∷ [] → IsAsked entries demands (i + 1) more
one_asked entries demands asked more i x d b e p h o t f =
    let next : i + 1 ≡ suc i = omega arith in
    rw next
    (ap demands_of f ∙ demands_of-push asked (get_or demands i d) ∙ ap (λ (l : List walking.Demand). plain_demand (get_or demands i d) ∷ l) h
    ∙ by_outline true (has_outline (plain_entry (get_or entries i x))) (plain_demand (get_or demands i d)) (of_outlines (entries_of (take i entries)) (demands_of (take i demands))) (sym o ∙ t)
    ∙ sym (asked_split entries demands i x d e p))

pub none_more : (entries : List Entry) (demands asked : List Demand) (i : ℕ) (x : Entry) (b : Bool) → length entries ≡ length demands → i < length entries → IsAsked entries demands i asked
    → b ≡ has_outline (plain_entry (get_or entries i x)) → b ≡ false → IsAsked entries demands (i + 1) asked
none_more entries demands asked i x b e p h o t =
    let next : i + 1 ≡ suc i = omega arith in
    rw next
    (h ∙ by_outline false (has_outline (plain_entry (get_or entries i x))) (plain_demand (get_or demands i demand.Nothing)) (of_outlines (entries_of (take i entries)) (demands_of (take i demands))) (sym o ∙ t)
    ∙ sym (asked_split entries demands i x demand.Nothing e p))
