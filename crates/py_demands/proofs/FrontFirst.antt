-- The first node that is met and lies too deep stands where the front is nested too deep first.
use Rattle.std.proofs.Common.{◌≡◌, ℕ, suc, ◌<◌, ◌≤◌, max, Bool, true, false, not, ◌&&◌, ◌||◌, if◌then◌else◌, List, [], ◌∷◌, Option, Some, None, ◌⊎◌, inl, inr, refl, sym, ap, ◌∙◌, subst, arith, append-nil}
use Rattle.grammars.proofs.Bools.{and_left, and_right, both}
use Rattle.py_tokens.specs.Token.{Place}
use Rattle.py_syntax.specs.Token.{Token}
use Rattle.py_syntax.specs.Kinds.{kind_of}
use Rattle.py_syntax.specs.Build.{Parts}
use Rattle.py_syntax.specs.Table.{Symbol}
use Rattle.py_nesting.specs.Depths.{here, body_depth}
use Rattle.py_nesting.specs.First.{first_of}
use Rattle.py_nesting.specs.Ordered.{is_layout_kind}
use Rattle.py_nesting.specs.Outlines.{Event, built}
use Rattle.py_nesting.specs.Shapes.{TokenShape, ExprShape, SignShape, LoopShape, LoopTargetShape, TargetsShape, ClassShape, StmtShape, BodyShape, Entry, entry, entries_of, outlines_of}
use Rattle.py_nesting.specs.TooDeep.{same_place, stands_among, IsTooDeepInFront, IsFirstInFront}
use Rattle.py_nesting.specs.Walk.{Demand, Nothing, Whole, Inside, Assigned, InsideAssigned, Met, raise, walk, met_depth}
use Rattle.py_nesting.proofs.FirstFound.{IsDeepAmong, is_least, none_found}
use Rattle.py_nesting.proofs.WalkCounts.{walk_counts}
use Rattle.py_demands.specs.Asks.{of_outlines, place_of, avoids, entry_depth, tokens_depth}
use Rattle.py_demands.specs.Behind.{heads, drops_first, Behind}
use Rattle.py_demands.specs.Bound.{standing}
use Rattle.py_demands.specs.Decided.{IsNoDeeper, InModules}
use Rattle.py_demands.specs.FrontDepth.{AreApart, entry_met, tokens_met, front_met, FirstLaw}
use Rattle.py_demands.specs.Order.{IsAway}
use Rattle.py_demands.specs.Turning.{IsReached}
use Rattle.py_demands.proofs.Agreed.{kept_so}

-- the nodes that are met are those that stand
raised_here : (n : ℕ) (b : Bool) → raise n (max (here b) 0) ≡ raise n (here b)
raised_here n true = refl
raised_here n false = refl

entry_counts : (at : Place → Bool) (e : Entry) (d : Demand) (nodes : List Met) → met_depth at (entry_met e d nodes) ≡ max (entry_depth at d e) (met_depth at nodes)
entry_counts at (entry (TokenShape f) p) Nothing nodes = omega arith
entry_counts at (entry (TokenShape f) p) (Whole n) nodes = let r = raised_here n (at p) in omega arith
entry_counts at (entry (TokenShape f) p) (Inside n) nodes = omega arith
entry_counts at (entry (TokenShape f) p) (Assigned n) nodes = let r = raised_here n (at p) in omega arith
entry_counts at (entry (TokenShape f) p) (InsideAssigned n) nodes = omega arith
entry_counts at (entry SignShape p) Nothing nodes = omega arith
entry_counts at (entry SignShape p) (Whole n) nodes = let r = raised_here n (at p) in omega arith
entry_counts at (entry SignShape p) (Inside n) nodes = omega arith
entry_counts at (entry SignShape p) (Assigned n) nodes = let r = raised_here n (at p) in omega arith
entry_counts at (entry SignShape p) (InsideAssigned n) nodes = omega arith
entry_counts at (entry (ExprShape f b) p) d nodes = omega arith
entry_counts at (entry LoopShape p) d nodes = omega arith
entry_counts at (entry (LoopTargetShape f b) p) d nodes = omega arith
entry_counts at (entry TargetsShape p) d nodes = omega arith
entry_counts at (entry (ClassShape f) p) d nodes = omega arith
entry_counts at (entry (StmtShape f b) p) d nodes = omega arith
entry_counts at (entry (BodyShape b) p) d nodes = omega arith

tokens_count : (at : Place → Bool) (es : List Entry) (ds : List Demand) (nodes : List Met) → met_depth at (tokens_met es ds nodes) ≡ max (tokens_depth at es ds) (met_depth at nodes)
tokens_count at [] ds nodes = omega arith
tokens_count at (e ∷ es) [] nodes = omega arith
tokens_count at (e ∷ es) (d ∷ ds) nodes =
    let one = entry_counts at e d (tokens_met es ds nodes) in let rest = tokens_count at es ds nodes in omega arith

pub front_counts : (at : Place → Bool) (v : Parts) (events : List Event) (ds : List Demand) → built events ≡ Some (outlines_of v) → met_depth at (front_met (entries_of v) events ds) ≡ standing at v ds
front_counts at v events ds b =
    let parts = walk_counts at events (outlines_of v) (of_outlines (entries_of v) ds) b in
    let tokens = tokens_count at (entries_of v) ds (walk events (of_outlines (entries_of v) ds)) in omega arith

-- where a token stands
stands_so : (p : Place) (ts : List Token) → stands_among ts p ≡ true → avoids (same_place p) ts ≡ true → ⊥
stands_so p [] h k = absurd (cc)
stands_so p (t ∷ ts) h k = go (same_place p (place_of t)) refl h k (λ i j. stands_so p ts i j)
  where
    go : (b : Bool) → same_place p (place_of t) ≡ b → (b || stands_among ts p) ≡ true → (not b && avoids (same_place p) ts) ≡ true → (stands_among ts p ≡ true → avoids (same_place p) ts ≡ true → ⊥) → ⊥
    go true e h k again = absurd (cc)
    go false e h k again = again h k

pub stands_or_not : (p : Place) (ts : List Token) → (stands_among ts p ≡ true) ⊎ (avoids (same_place p) ts ≡ true)
stands_or_not p [] = inr refl
stands_or_not p (t ∷ ts) = go (same_place p (place_of t)) (stands_or_not p ts)
  where
    go : (b : Bool) → (stands_among ts p ≡ true) ⊎ (avoids (same_place p) ts ≡ true) → ((b || stands_among ts p) ≡ true) ⊎ ((not b && avoids (same_place p) ts) ≡ true)
    go true o = inl refl
    go false o = o

pub avoided_so : (p : Place) (ts : List Token) → stands_among ts p ≡ false → avoids (same_place p) ts ≡ true
avoided_so p ts h = elim (stands_or_not p ts) [ inl e ↦ absurd (let no : true ≡ false = sym e ∙ h in cc) | inr e ↦ e ]

pub not_among : (p : Place) (ts : List Token) → avoids (same_place p) ts ≡ true → stands_among ts p ≡ false
not_among p ts h = go (stands_among ts p) refl
  where
    go : (b : Bool) → stands_among ts p ≡ b → b ≡ false
    go true e = absurd (stands_so p ts e h)
    go false e = refl

pub heads_avoided : (at : Place → Bool) (ts : List Token) → avoids at ts ≡ true → avoids at (heads ts) ≡ true
heads_avoided at [] h = refl
heads_avoided at (t ∷ ts) h = go (is_layout_kind (kind_of t)) (heads_avoided at ts (and_right (not (at (place_of t))) (avoids at ts) h))
  where
    go : (b : Bool) → avoids at (heads ts) ≡ true → avoids at (if b then heads ts else t ∷ heads ts) ≡ true
    go true r = r
    go false r = both (not (at (place_of t))) (avoids at (heads ts)) (and_left (not (at (place_of t))) (avoids at ts) h) r

-- a place where no token of the front stands
abbrev pub last_line : List Token → ℕ
last_line [] = 0
last_line (t ∷ ts) = max (place_of t).line (last_line ts)

abbrev pub beyond : ℕ → Place
beyond n = record { «module» = 0; line = suc n; column = 1 }

other_line : (p q : Place) → p.line < q.line → same_place p q ≡ false
other_line p q h = grind arith

stands_before : (p : Place) (ts : List Token) → stands_among ts p ≡ true → p.line ≤ last_line ts
stands_before p [] h = absurd (cc)
stands_before p (t ∷ ts) h = go (same_place p (place_of t)) refl h (λ k. stands_before p ts k)
  where
    go : (b : Bool) → same_place p (place_of t) ≡ b → (b || stands_among ts p) ≡ true → (stands_among ts p ≡ true → p.line ≤ last_line ts) → p.line ≤ max (place_of t).line (last_line ts)
    go true e k again = let same : p.line ≡ (place_of t).line = grind arith in omega arith
    go false e k again = let r = again k in omega arith

pub apart_from : (p : Place) (ts : List Token) → stands_among ts p ≡ true → same_place p (beyond (last_line ts)) ≡ false
apart_from p ts h = let r = stands_before p ts h in other_line p (beyond (last_line ts)) (omega arith)

-- with a module that begins with the front
by_module : (front : List Token) (symbols : List Symbol) (v : Parts) (b : Behind front [] symbols v) (ds : List Demand) (events : List Event) → drops_first symbols ≡ false → AreApart front
    → built events ≡ Some (outlines_of v) → InModules front symbols (λ at body. IsNoDeeper at v ds body) → IsReached front v ds (beyond (last_line front))
    → IsFirstInFront (first_of None (front_met (entries_of v) events ds)) front
by_module front symbols v b ds events first apart put lower closed = decided (first_of None (front_met (entries_of v) events ds)) refl
  where
    counts : (p : Place) → met_depth (same_place p) (front_met (entries_of v) events ds) ≡ standing (same_place p) v ds
    counts p = front_counts (same_place p) v events ds put

    -- a node that is asked for stands at a token of the front
    among : (p : Place) → 0 < standing (same_place p) v ds → stands_among front p ≡ true
    among p h = elim (stands_or_not p front) [
      | inl e ↦ e
      | inr e ↦
          let all : front ≡ b.read = b.split ∙ append-nil b.read in
          let none : IsAway (same_place p) v = subst (IsAway (same_place p)) (kept_so symbols v b.kept first b.held) (b.away (same_place p) (ap (λ (l : List Token). avoids (same_place p) (heads l)) (sym all) ∙ heads_avoided (same_place p) front e)) in
          absurd (let no = none ds in omega arith)
    ]

    goes_on : (p : Place) → stands_among front p ≡ true → stands_among closed.0 p ≡ false
    goes_on p h = not_among p closed.0 (closed.3 (same_place p) (apart_from p front h))

    depth_is : (p : Place) → stands_among front p ≡ true → body_depth (same_place p) closed.1 ≡ standing (same_place p) v ds
    depth_is p h = let l = (closed.5 (same_place p)).0 in let m = (closed.5 (same_place p)).1 (apart_from p front h) in omega arith

    deep_in_front : (p : Place) → IsDeepAmong (front_met (entries_of v) events ds) p → IsTooDeepInFront p front
    deep_in_front p deep =
        let e = counts p in
        let stands : stands_among front p ≡ true = among p (omega arith) in (
          stands,
          (closed.1, (closed.0, closed.2, goes_on), (let d = depth_is p stands in omega arith)),
          λ other goes some. (
              let r = lower first (same_place p) (apart p) goes.0 other goes.1 (avoided_so p goes.0 (goes.2 p stands)) some in
              let l = r.1 in omega arith
              ),
        )

    deep_among : (p : Place) → IsTooDeepInFront p front → IsDeepAmong (front_met (entries_of v) events ds) p
    deep_among p t =
        let e = counts p in
        let d = depth_is p t.0 in
        let o = t.1 in
        let r = lower first (same_place p) (apart p) o.1.0 o.0 o.1.1 (avoided_so p o.1.0 (o.1.2 p t.0)) o.2 in
        let some = r.0 in
        let deep = t.2 closed.1 (closed.0, closed.2, goes_on) (omega arith) in
        omega arith

    decided : (o : Option Place) → first_of None (front_met (entries_of v) events ds) ≡ o → IsFirstInFront o front
    decided None e = λ p t. (none_found (front_met (entries_of v) events ds) None e).1 p (deep_among p t)
    decided (Some p) e =
        let l = is_least (front_met (entries_of v) events ds) None p e in
        let deep : IsDeepAmong (front_met (entries_of v) events ds) p = elim l.0 [ inl none ↦ absurd (cc) | inr d ↦ d ] in
        (deep_in_front p deep, λ q t. l.2 q (deep_among q t))

pub first_in_front : FirstLaw
first_in_front front symbols v b ds events first apart put lower reached = by_module front symbols v b ds events first apart put lower (reached (beyond (last_line front)))
