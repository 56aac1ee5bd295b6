-- Where one token of a front stands at a place at most, one part of the stack has nodes there at most.
use Rattle.std.proofs.Common.{◌≡◌, ℕ, zero, suc, ◌≤◌, ◌<◌, Bool, false, List, [], ◌∷◌, ◌++◌, map, length, Some, refl, ap, ◌∙◌, arith}
use Rattle.py_tokens.specs.Token.{Place}
use Rattle.py_syntax.specs.Token.{Token, At}
use Rattle.py_syntax.specs.Build.{PToken, Parts, Action, Drop, act}
use Rattle.py_nesting.specs.Outlines.{Label, Plain, Bracket, Tuple, outline_depth, Event, built}
use Rattle.py_nesting.specs.Shapes.{entry_of, Entry, entries_of, outlines_of}
use Rattle.py_nesting.specs.Effects.{effect, effect_of}
use Rattle.py_nesting.specs.TreeOutlines.{leaf}
use Rattle.py_nesting.specs.Walk.{Demand, Nothing, Whole, Inside, Assigned, InsideAssigned, raise, demanded, comes}
use Rattle.py_nesting.proofs.WalkCounts.{nothing_asked}
use Rattle.py_fronts.specs.Begins.{Begin}
use Rattle.py_demands.specs.Roles.{Change, Below, Apart, Loose, Turned, Role, Lost, Head, Through, changed, all_changed, at_token, asked_by, roles, asked_before}
use Rattle.py_demands.specs.Asks.{place_of, entry_depth}
use Rattle.py_demands.specs.Order.{NoDeeper, AreNoDeeper, IsAway, IsLone}
use Rattle.py_demands.proofs.EffectsTied.{tied}
use Rattle.py_demands.proofs.Bounded.{stands_before, stands_behind, token_avoided}

change_ordered : (c : Change) (u d : Demand) → NoDeeper u d → NoDeeper (changed c u) (changed c d)
change_ordered (Below l) u Nothing h = tt
change_ordered (Below Plain) (Whole m) (Whole n) h = (omega arith)
change_ordered (Below Bracket) (Whole m) (Whole n) h = (omega arith)
change_ordered (Below Tuple) (Whole m) (Whole n) h = (omega arith)
change_ordered (Below Plain) (Inside m) (Inside n) h = h
change_ordered (Below Bracket) (Inside m) (Inside n) h = h
change_ordered (Below Tuple) (Inside m) (Inside n) h = h
change_ordered (Below Plain) (Assigned m) (Assigned n) h = (omega arith)
change_ordered (Below Bracket) (Assigned m) (Assigned n) h = (omega arith)
change_ordered (Below Tuple) (Assigned m) (Assigned n) h = h
change_ordered (Below Plain) (InsideAssigned m) (InsideAssigned n) h = h
change_ordered (Below Bracket) (InsideAssigned m) (InsideAssigned n) h = h
change_ordered (Below Tuple) (InsideAssigned m) (InsideAssigned n) h = h
change_ordered Apart u Nothing h = tt
change_ordered Apart (Whole m) (Whole n) h = h
change_ordered Apart (Inside m) (Inside n) h = h
change_ordered Apart (Assigned m) (Assigned n) h = h
change_ordered Apart (InsideAssigned m) (InsideAssigned n) h = h
change_ordered Loose u Nothing h = tt
change_ordered Loose (Whole m) (Whole n) h = h
change_ordered Loose (Inside m) (Inside n) h = h
change_ordered Loose (Assigned m) (Assigned n) h = h
change_ordered Loose (InsideAssigned m) (InsideAssigned n) h = h
change_ordered Turned u Nothing h = tt
change_ordered Turned (Whole m) (Whole n) h = h
change_ordered Turned (Inside m) (Inside n) h = h
change_ordered Turned (Assigned m) (Assigned n) h = h
change_ordered Turned (InsideAssigned m) (InsideAssigned n) h = h
change_ordered c u d h = absurd h

changes_ordered : (changes : List Change) (u d : Demand) → NoDeeper u d → NoDeeper (all_changed changes u) (all_changed changes d)
changes_ordered [] u d h = h
changes_ordered (c ∷ changes) u d h = changes_ordered changes (changed c u) (changed c d) (change_ordered c u d h)

head_ordered : (l : Label) (u d : Demand) → NoDeeper u d → NoDeeper (at_token (comes l u)) (at_token (comes l d))
head_ordered l u Nothing h = tt
head_ordered l (Whole m) (Whole n) h = h
head_ordered l (Inside m) (Inside n) h = tt
head_ordered Plain (Assigned m) (Assigned n) h = h
head_ordered Bracket (Assigned m) (Assigned n) h = h
head_ordered Tuple (Assigned m) (Assigned n) h = tt
head_ordered l (InsideAssigned m) (InsideAssigned n) h = tt
head_ordered l u d h = absurd h

role_ordered : (role : Role) (u d : Demand) → NoDeeper u d → NoDeeper (asked_by u role) (asked_by d role)
role_ordered Lost u d h = tt
role_ordered (Head l changes) u d h = head_ordered l (all_changed changes u) (all_changed changes d) (changes_ordered changes u d h)
role_ordered (Through changes) u d h = changes_ordered changes u d h

roles_ordered : (these : List Role) (u d : Demand) (us ds : List Demand) → NoDeeper u d → AreNoDeeper us ds → AreNoDeeper (map (asked_by u) these ++ us) (map (asked_by d) these ++ ds)
roles_ordered [] u d us ds h k = k
roles_ordered (role ∷ these) u d us ds h k = (role_ordered role u d h, roles_ordered these u d us ds h k)

action_ordered : (a : Action) (us ds : List Demand) → AreNoDeeper us ds → AreNoDeeper (asked_before a us) (asked_before a ds)
action_ordered Drop us ds h = (tt, h)
action_ordered a [] [] h = h
action_ordered a [] (d ∷ ds) h = absurd h
action_ordered a (u ∷ us) [] h = absurd h
action_ordered a (u ∷ us) (d ∷ ds) h = roles_ordered (roles a) u d us ds h.0 h.1

pub away_at_start : (at : Place → Bool) → IsAway at []
away_at_start at ds = refl

pub away_from_token : (at : Place → Bool) (t : Token) (v : Parts) → at (place_of t) ≡ false → IsAway at v → IsAway at (PToken t ∷ v)
away_from_token at t v h k [] = let none = nothing_asked at (outlines_of v) in omega arith
away_from_token at t v h k (d ∷ ds) = let none = token_avoided at d t h in let rest = k ds in omega arith

pub away_behind_action : (at : Place → Bool) (a : Action) (v : Parts) (new : List Entry) (more events : List Event) → Begin v → effect_of a (entries_of v) ≡ Some (effect new more)
    → built events ≡ Some (outlines_of v) → built (more ++ events) ≡ Some (outlines_of (act a v)) → entries_of (act a v) ≡ new → IsAway at v → IsAway at (act a v)
away_behind_action at a v new more events g e b c same k ds =
    let none = k (asked_before a ds) in let o = stands_behind at a v new more events ds g e b c same in omega arith

pub lone_at_start : (at : Place → Bool) → IsLone at []
lone_at_start at us ds m h k = absurd (omega arith)

pub lone_beside_token : (at : Place → Bool) (t : Token) (v : Parts) → at (place_of t) ≡ false → IsLone at v → IsLone at (PToken t ∷ v)
lone_beside_token at t v h l [] [] m o k = absurd (omega arith)
lone_beside_token at t v h l [] (d ∷ ds) m o k = absurd o
lone_beside_token at t v h l (u ∷ us) [] m o k = absurd o
lone_beside_token at t v h l (u ∷ us) (d ∷ ds) m o k =
    let one = token_avoided at d t h in let other = token_avoided at u t h in let r = l us ds (omega arith) o.1 (omega arith) in ((omega (arith, r.0)), (omega (arith, r.1)))

raise_ordered : (m n x : ℕ) → m ≤ n → 0 < raise n x → (0 < raise m x) × (raise m x ≤ raise n x)
raise_ordered m n zero h k = absurd (omega arith)
raise_ordered m n (suc x) h k = ((omega arith), (omega arith))

token_ordered : (at : Place → Bool) (p : Place) (u d : Demand) → NoDeeper u d → 0 < demanded at d (leaf p) → (0 < demanded at u (leaf p)) × (demanded at u (leaf p) ≤ demanded at d (leaf p))
token_ordered at p u Nothing h k = absurd (omega arith)
token_ordered at p (Whole m) (Whole n) h k = raise_ordered m n (outline_depth at (leaf p)) h k
token_ordered at p (Inside m) (Inside n) h k = absurd (omega arith)
token_ordered at p (Assigned m) (Assigned n) h k = raise_ordered m n (outline_depth at (leaf p)) h k
token_ordered at p (InsideAssigned m) (InsideAssigned n) h k = absurd (omega arith)
token_ordered at p u d h k = absurd h

pub lone_at_token : (at : Place → Bool) (t : Token) (v : Parts) → IsAway at v → IsLone at (PToken t ∷ v)
lone_at_token at (At p k) v a [] [] m o h = absurd (omega arith)
lone_at_token at (At p k) v a [] (d ∷ ds) m o h = absurd o
lone_at_token at (At p k) v a (u ∷ us) [] m o h = absurd o
lone_at_token at (At p k) v a (u ∷ us) (d ∷ ds) m o h =
    let none = a ds in let nothing = a us in
    let t : entry_depth at d (entry_of (PToken (At p k))) ≡ demanded at d (leaf p) = refl in
    let s : entry_depth at u (entry_of (PToken (At p k))) ≡ demanded at u (leaf p) = refl in
    let r = token_ordered at p u d o.0 (omega arith) in ((omega (arith, r.0)), (omega (arith, r.1)))

pub lone_behind_action : (at : Place → Bool) (a : Action) (v : Parts) (new : List Entry) (more events : List Event) → Begin v → effect_of a (entries_of v) ≡ Some (effect new more)
    → built events ≡ Some (outlines_of v) → built (more ++ events) ≡ Some (outlines_of (act a v)) → entries_of (act a v) ≡ new → IsLone at v → IsLone at (act a v)
lone_behind_action at a v new more events g e b c same l us ds m o k =
    let t = tied a (entries_of v) (effect new more) e ds in
    let first = stands_before at a v new more events ds e b c same in
    let second = stands_behind at a v new more events ds g e b c same in
    let third = stands_before at a v new more events us e b c same in
    let fourth = stands_behind at a v new more events us g e b c same in
    let r = l (asked_before a us) (asked_before a ds) (t.2 (m ∙ ap length same)) (action_ordered a us ds o) (omega arith) in ((omega (arith, r.0)), (omega (arith, r.1)))
