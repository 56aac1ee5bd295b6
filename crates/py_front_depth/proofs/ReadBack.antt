-- The reading with targets, symbol by symbol and part by part.
use Rattle.std.proofs.Common.{◌≡◌, ℕ, zero, suc, ◌+◌, ◌<◌, ◌≤◌, Bool, true, false, if◌then◌else◌, List, [], ◌∷◌, ◌++◌, map, length, take, get_or, Option, Some, None, refl, sym, ap, ◌∙◌, subst, arith}
use Rattle.std.proofs.Math.Seq.{take-suc, take-length}
use Rattle.std.proofs.lemmas.Option.{same_Some}
use Rattle.grammars.specs.Grammar.{Do}
use Rattle.py_syntax.specs.Build.{AddItem}
use Rattle.py_syntax.specs.Table as meaning
use Rattle.py_nesting.specs.Walk as walking
use Rattle.py_demands.specs.Aims as aiming
use Rattle.py_demands.specs.Least as at_least
use Rattle.py_demands.specs.Least.{AtLeast, OpenAtLeast, before_symbol}
use Rattle.py_demands.specs.Readings as readings
use Rattle.py_demands.specs.Readings.{Settled, Among, has_never, settled, among, settled_before, reading_before, of_aim, more_of, of_aims}
use Rattle.py_demands.proofs.ReadItems.{simply_never}
use Rattle.py_depth.specs.PlainEntries.{plain_entry, entries_of}
use Rattle.py_depth.specs.declared.shape.Entry.{Entry}
use Rattle.py_table.specs.PlainSymbols.{plain_symbol}
use Rattle.py_table.specs.Steps.{stack_of}
use Rattle.py_table.specs.declared.symbol.Symbol.{Symbol}
use Rattle.py_table.specs.declared.symbol.Symbol.TheVariants as symbol
use Rattle.py_table.specs.declared.symbol.Nonterminal.TheVariants as nonterminal
use Rattle.py_front_depth.specs.PlainAsks.{plain_ask, plain_aim, asks_of, aims_of}
use Rattle.py_front_depth.specs.Reading.{plain_reading, IsClear}
use Rattle.py_front_depth.specs.declared.aim.Aim.{Aim}
use Rattle.py_front_depth.specs.declared.ask.Ask.{Ask}
use Rattle.py_front_depth.specs.declared.ask.Ask.TheVariants as ask
use Rattle.py_front_depth.specs.declared.readings.Reading.{Reading}
use Rattle.py_depth.proofs.Stacks.{entries_of-nothing}
use Rattle.py_table.proofs.SymbolStacks.{stack_of-push, stack_of-nothing}
use Rattle.py_front_depth.proofs.Entries.{entries_split}
use Rattle.py_front_depth.proofs.Stacks.{asks_of-push, asks_of-nothing, aims_of-push, aims_of-nothing}

asks_split : (asks : List Ask) (i : ℕ) (x : Ask) → i < length asks → asks_of (take (suc i) asks) ≡ plain_ask (get_or asks i x) ∷ asks_of (take i asks)
asks_split asks i x p = ap asks_of (take-suc asks i x p) ∙ asks_of-push (take i asks) (get_or asks i x)

aims_split : (aims : List Aim) (i : ℕ) (x : Aim) → i < length aims → aims_of (take (suc i) aims) ≡ plain_aim (get_or aims i x) ∷ aims_of (take i aims)
aims_split aims i x p = ap aims_of (take-suc aims i x p) ∙ aims_of-push (take i aims) (get_or aims i x)

symbols_split : (symbols : List Symbol) (i : ℕ) (x : Symbol) → i < length symbols → stack_of (take (suc i) symbols) ≡ plain_symbol (get_or symbols i x) ∷ stack_of (take i symbols)
symbols_split symbols i x p = ap stack_of (take-suc symbols i x p) ∙ stack_of-push (take i symbols) (get_or symbols i x)

pub simply_more : (asks : List Ask) (i : ℕ) (x : Ask) (now next : List aiming.Aim) → i < length asks → now ≡ map aiming.Simply (asks_of (take i asks)) → next ≡ aiming.Simply (plain_ask (get_or asks i x)) ∷ now
    → next ≡ map aiming.Simply (asks_of (take (i + 1) asks))
simply_more asks i x now next p h e =
    let one : i + 1 ≡ suc i = omega arith in rw one (e ∙ ap (λ (l : List aiming.Aim). aiming.Simply (plain_ask (get_or asks i x)) ∷ l) h ∙ ap (map aiming.Simply) (sym (asks_split asks i x p)))

-- nothing that is read can't be a target
settled_clear : (s : meaning.Symbol) (qs : List at_least.Ask) (r : readings.Reading) → settled_before s qs ≡ Some r → IsClear r
settled_clear (Do AddItem) (OpenAtLeast n ∷ qs) r h = subst IsClear (same_Some (Among (aiming.Target n ∷ aiming.Targets n ∷ map aiming.Simply qs)) r h) (simply_never qs)
settled_clear s qs r h = go (before_symbol s qs) h
  where
    go : (o : Option (List at_least.Ask)) → settled o ≡ Some r → IsClear r
    go None h = absurd (cc)
    go (Some asks) h = subst IsClear (same_Some (Settled asks) r h) tt

among_clear : (o : Option (List aiming.Aim)) (r : readings.Reading) → among o ≡ Some r → IsClear r
among_clear None r h = absurd (cc)
among_clear (Some aims) r h = go (has_never aims) refl h
  where
    go : (b : Bool) → has_never aims ≡ b → (if b then None else Some (Among aims)) ≡ Some r → IsClear r
    go true n h = absurd (cc)
    go false n h = subst IsClear (same_Some (Among aims) r h) n

clear_reading : (symbols : List meaning.Symbol) (r : readings.Reading) → readings.reading symbols ≡ Some r → IsClear r
clear_reading [] r h = subst IsClear (same_Some (Settled (AtLeast 0 ∷ [])) r h) tt
clear_reading (s ∷ symbols) r h = go (readings.reading symbols) h
  where
    go : (o : Option readings.Reading) → reading_before s o ≡ Some r → IsClear r
    go None h = absurd (cc)
    go (Some (Settled qs)) h = settled_clear s qs r h
    go (Some (Among aims)) h = among_clear (aiming.aims_symbol s aims) r h

-- one symbol more
pub read_begun : (none one : List Ask) (symbols : List Symbol) → none ≡ [] → one ≡ none ++ ask.AtLeast 0 ∷ [] → Some (Settled (asks_of one)) ≡ readings.reading (stack_of (take 0 symbols))
read_begun none one symbols e f =
    ap (λ (l : List Ask). Some (Settled (asks_of l))) (f ∙ ap (λ (l : List Ask). l ++ ask.AtLeast 0 ∷ []) e) ∙ ap (λ (l : List at_least.Ask). Some (Settled l)) (asks_of-push [] (ask.AtLeast 0) ∙ ap (λ (l : List at_least.Ask). AtLeast 0 ∷ l) asks_of-nothing)
    ∙ ap readings.reading (sym stack_of-nothing)

pub read_more : (symbols : List Symbol) (i : ℕ) (x : Symbol) (now : Reading) (next : Option readings.Reading) → i < length symbols → Some (plain_reading now) ≡ readings.reading (stack_of (take i symbols))
    → (IsClear (plain_reading now) → next ≡ reading_before (plain_symbol (get_or symbols i x)) (Some (plain_reading now))) → next ≡ readings.reading (stack_of (take (i + 1) symbols))
read_more symbols i x now next p h e =
    let one : i + 1 ≡ suc i = omega arith in
    rw one (e (clear_reading (stack_of (take i symbols)) (plain_reading now) (sym h)) ∙ ap (reading_before (plain_symbol (get_or symbols i x))) h ∙ ap readings.reading (sym (symbols_split symbols i x p)))

pub none_more_read : (symbols : List Symbol) (i : ℕ) → i < length symbols → None ≡ readings.reading (stack_of (take i symbols)) → None ≡ readings.reading (stack_of (take (i + 1) symbols))
none_more_read symbols i p h =
    let one : i + 1 ≡ suc i = omega arith in
    let x : Symbol = symbol.Expand nonterminal.Module in
    rw one (ap (reading_before (plain_symbol (get_or symbols i x))) h ∙ ap readings.reading (sym (symbols_split symbols i x p)))

-- what is asked of so many parts
abbrev pub asked_first : List Aim → List Entry → ℕ → Option (List walking.Demand)
asked_first aims entries i = of_aims (aims_of (take i aims)) (entries_of (take i entries))

asked_split : (aims : List Aim) (entries : List Entry) (i : ℕ) (x : Aim) (y : Entry) → length aims ≡ length entries → i < length aims
    → asked_first aims entries (suc i) ≡ more_of (of_aim (plain_aim (get_or aims i x)) (plain_entry (get_or entries i y))) (asked_first aims entries i)
asked_split aims entries i x y e p =
    let same : i < length entries = omega arith in
    ap (λ (l : List aiming.Aim). of_aims l (entries_of (take (suc i) entries))) (aims_split aims i x p) ∙ ap (of_aims (plain_aim (get_or aims i x) ∷ aims_of (take i aims))) (entries_split entries i y same)

pub asked_begun : (aims : List Aim) (entries : List Entry) (now : List walking.Demand) → now ≡ [] → asked_first aims entries 0 ≡ Some now
asked_begun aims entries now e = ap (λ (l : List aiming.Aim). of_aims l (entries_of [])) aims_of-nothing ∙ ap (of_aims []) entries_of-nothing ∙ ap Some (sym e)

pub asked_more : (aims : List Aim) (entries : List Entry) (i : ℕ) (x : Aim) (y : Entry) (d : walking.Demand) (now next : List walking.Demand) → length aims ≡ length entries → i < length aims → asked_first aims entries i ≡ Some now
    → Some d ≡ of_aim (plain_aim (get_or aims i x)) (plain_entry (get_or entries i y)) → next ≡ d ∷ now → asked_first aims entries (i + 1) ≡ Some next
asked_more aims entries i x y d now next e p h f g =
    let one : i + 1 ≡ suc i = omega arith in
    rw one (asked_split aims entries i x y e p ∙ ap (more_of (of_aim (plain_aim (get_or aims i x)) (plain_entry (get_or entries i y)))) h ∙ ap (λ (o : Option walking.Demand). more_of o (Some now)) (sym f) ∙ ap Some (sym g))

more_none : (o : Option walking.Demand) → more_of o None ≡ None
more_none None = refl
more_none (Some d) = refl

none_further : (aims : List Aim) (entries : List Entry) (i k : ℕ) (x : Aim) (y : Entry) → length aims ≡ length entries → i + k ≤ length aims → asked_first aims entries i ≡ None → asked_first aims entries (i + k) ≡ None
none_further aims entries i zero x y e p h = let same : i + 0 ≡ i = omega arith in rw same h
none_further aims entries i (suc k) x y e p h =
    let next : i + suc k ≡ suc (i + k) = omega arith in
    rw next
    (asked_split aims entries (i + k) x y e (omega arith) ∙ ap (more_of (of_aim (plain_aim (get_or aims (i + k) x)) (plain_entry (get_or entries (i + k) y)))) (none_further aims entries i k x y e (omega arith) h)
    ∙ more_none (of_aim (plain_aim (get_or aims (i + k) x)) (plain_entry (get_or entries (i + k) y))))

all_first : (aims : List Aim) (entries : List Entry) → length aims ≡ length entries → asked_first aims entries (length aims) ≡ of_aims (aims_of aims) (entries_of entries)
all_first aims entries e =
    ap (λ (l : List Aim). of_aims (aims_of l) (entries_of (take (length aims) entries))) (take-length aims) ∙ ap (λ (l : List Entry). of_aims (aims_of aims) (entries_of l)) (ap (λ (n : ℕ). take n entries) e ∙ take-length entries)

pub none_asked_so : (aims : List Aim) (entries : List Entry) (i : ℕ) (x : Aim) (y : Entry) (now : List walking.Demand) → length aims ≡ length entries → i < length aims → asked_first aims entries i ≡ Some now
    → None ≡ of_aim (plain_aim (get_or aims i x)) (plain_entry (get_or entries i y)) → None ≡ of_aims (aims_of aims) (entries_of entries)
none_asked_so aims entries i x y now e p h f =
    let here : asked_first aims entries (suc i) ≡ None = asked_split aims entries i x y e p ∙ ap (more_of (of_aim (plain_aim (get_or aims i x)) (plain_entry (get_or entries i y)))) h ∙ ap (λ (o : Option walking.Demand). more_of o (Some now)) (sym f) in
    sym (at_end (length aims) refl here)
  where
    at_end : (n : ℕ) → length aims ≡ n → asked_first aims entries (suc i) ≡ None → of_aims (aims_of aims) (entries_of entries) ≡ None
    at_end n m here =
        let k = n_less n (suc i) (omega arith) in
        let same : suc i + k.0 ≡ length aims = omega arith in
        sym (all_first aims entries e) ∙ ap (asked_first aims entries) (sym same) ∙ none_further aims entries (suc i) k.0 x y e (omega arith) here
      where
        n_less : (n j : ℕ) → j ≤ n → (k : ℕ) × (j + k ≡ n)
        n_less n zero p = (n, omega arith)
        n_less zero (suc j) p = absurd (omega arith)
        n_less (suc n) (suc j) p = let r = n_less n j (omega arith) in (r.0, (let q = r.1 in omega arith))
