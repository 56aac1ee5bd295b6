-- The first place where a front is nested too deep, by two readings.
use Rattle.std.proofs.Common.{◌≡◌, suc, ◌<◌, true, false, List, [], Option, Some, None, ◌⊎◌, inl, inr, sym, ap, ◌∙◌, subst, arith, append-nil}
use Rattle.py_tokens.specs.Token.{Place}
use Rattle.py_syntax.specs.Token.{Token}
use Rattle.py_syntax.specs.Tree.{Body}
use Rattle.py_syntax.specs.Heights.{most_ancestors}
use Rattle.py_syntax.specs.Build.{Parts}
use Rattle.py_syntax.specs.Table.{Symbol}
use Rattle.py_nesting.specs.Depths.{body_depth}
use Rattle.py_nesting.specs.Outlines.{Event, built}
use Rattle.py_nesting.specs.Shapes.{entries_of, outlines_of}
use Rattle.py_nesting.specs.TooDeep.{same_place, stands_among, HasNode, IsTooDeepAt, GoesOnAs, IsTooDeepInFront, IsFirstInFront}
use Rattle.py_nesting.specs.Walk.{Demand, met_depth}
use Rattle.py_demands.specs.Asks.{avoids}
use Rattle.py_demands.specs.Behind.{heads, drops_first, Behind}
use Rattle.py_demands.specs.BothFirst.{IsMetAt, IsDeepAt, IsDeepInBoth, IsFirstInBoth, BothFirstLaw}
use Rattle.py_demands.specs.Bound.{standing}
use Rattle.py_demands.specs.Decided.{IsNoDeeper, InModules}
use Rattle.py_demands.specs.FrontDepth.{AreApart, front_met}
use Rattle.py_demands.specs.Order.{IsAway}
use Rattle.py_demands.specs.Turning.{IsReached}
use Rattle.py_demands.proofs.Agreed.{kept_so}
use Rattle.py_demands.proofs.FrontFirst.{front_counts, stands_or_not, avoided_so, not_among, heads_avoided, last_line, beyond, apart_from}

-- a node that is asked for stands at a token of the front
pub among : (front : List Token) (symbols : List Symbol) (v : Parts) (b : Behind front [] symbols v) (ds : List Demand) (p : Place) → drops_first symbols ≡ false → 0 < standing (same_place p) v ds → stands_among front p ≡ true
among front symbols v b ds p first h = elim (stands_or_not p front) [
  | inl e ↦ e
  | inr e ↦
      let all : front ≡ b.read = b.split ∙ append-nil b.read in
      let none : IsAway (same_place p) v = subst (IsAway (same_place p)) (kept_so symbols v b.kept first b.held) (b.away (same_place p) (ap (λ (l : List Token). avoids (same_place p) (heads l)) (sym all) ∙ heads_avoided (same_place p) front e)) in
      absurd (let no = none ds in omega arith)
]

-- a reading is that of a module that goes on with the front
record Shown (front : List Token) (v : Parts) (ds : List Demand) (p : Place) : Type 0 where
  pub body : Body
  pub goes : GoesOnAs front body
  pub depth_is : body_depth (same_place p) body ≡ standing (same_place p) v ds

shown : (front : List Token) (v : Parts) (ds : List Demand) (p : Place) → stands_among front p ≡ true → IsReached front v ds (beyond (last_line front)) → Shown front v ds p
shown front v ds p h closed =
    record {
      body = closed.1;
      goes = (closed.0, closed.2, λ q k. not_among q closed.0 (closed.3 (same_place q) (apart_from q front k)));
      depth_is = (let l = (closed.5 (same_place p)).0 in let m = (closed.5 (same_place p)).1 (apart_from p front h) in omega arith);
    }

by_modules : (front : List Token) (symbols : List Symbol) (v : Parts) (b : Behind front [] symbols v) (us ws : List Demand) (events : List Event) → drops_first symbols ≡ false → AreApart front
    → built events ≡ Some (outlines_of v) → InModules front symbols (λ at body. IsNoDeeper at v us body ⊎ IsNoDeeper at v ws body)
    → IsReached front v us (beyond (last_line front)) → IsReached front v ws (beyond (last_line front)) → (p : Place)
    → (IsDeepInBoth (front_met (entries_of v) events us) (front_met (entries_of v) events ws) p → IsTooDeepInFront p front)
    × (IsTooDeepInFront p front → IsDeepInBoth (front_met (entries_of v) events us) (front_met (entries_of v) events ws) p)
by_modules front symbols v b us ws events first apart put lower one two p = (in_front, in_both)
  where
    first_counts : met_depth (same_place p) (front_met (entries_of v) events us) ≡ standing (same_place p) v us
    first_counts = front_counts (same_place p) v events us put

    second_counts : met_depth (same_place p) (front_met (entries_of v) events ws) ≡ standing (same_place p) v ws
    second_counts = front_counts (same_place p) v events ws put

    some_module : stands_among front p ≡ true → IsMetAt (front_met (entries_of v) events us) p ⊎ IsMetAt (front_met (entries_of v) events ws) p → (body : Body) × GoesOnAs front body × HasNode p body
    some_module h (inl m) = let s = shown front v us p h one in let e = s.depth_is in let c = first_counts in (s.body, s.goes, omega arith)
    some_module h (inr m) = let s = shown front v ws p h two in let e = s.depth_is in let c = second_counts in (s.body, s.goes, omega arith)

    stands : IsMetAt (front_met (entries_of v) events us) p ⊎ IsMetAt (front_met (entries_of v) events ws) p → stands_among front p ≡ true
    stands (inl m) = let c = first_counts in among front symbols v b us p first (omega arith)
    stands (inr m) = let c = second_counts in among front symbols v b ws p first (omega arith)

    at_module : stands_among front p ≡ true → (body : Body) → GoesOnAs front body → HasNode p body → IsNoDeeper (same_place p) v us body ⊎ IsNoDeeper (same_place p) v ws body
    at_module h body goes some = lower first (same_place p) (apart p) goes.0 body goes.1 (avoided_so p goes.0 (goes.2 p h)) some

    in_front : IsDeepInBoth (front_met (entries_of v) events us) (front_met (entries_of v) events ws) p → IsTooDeepInFront p front
    in_front d = let h = stands d.0 in (h, some_module h d.0, λ body goes some. deep body (at_module h body goes some))
      where
        deep : (body : Body) → IsNoDeeper (same_place p) v us body ⊎ IsNoDeeper (same_place p) v ws body → IsTooDeepAt p body
        deep body (inl r) = let c = first_counts in let n = r.0 in let l = r.1 in let k : suc most_ancestors < met_depth (same_place p) (front_met (entries_of v) events us) = d.1 (omega arith) in omega arith
        deep body (inr r) = let c = second_counts in let n = r.0 in let l = r.1 in let k : suc most_ancestors < met_depth (same_place p) (front_met (entries_of v) events ws) = d.2 (omega arith) in omega arith

    in_both : IsTooDeepInFront p front → IsDeepInBoth (front_met (entries_of v) events us) (front_met (entries_of v) events ws) p
    in_both t = (met_in (at_module t.0 t.1.0 t.1.1 t.1.2), deep_first, deep_second)
      where
        met_in : IsNoDeeper (same_place p) v us t.1.0 ⊎ IsNoDeeper (same_place p) v ws t.1.0 → IsMetAt (front_met (entries_of v) events us) p ⊎ IsMetAt (front_met (entries_of v) events ws) p
        met_in (inl r) = inl (let c = first_counts in let n = r.0 in omega arith)
        met_in (inr r) = inr (let c = second_counts in let n = r.0 in omega arith)

        deep_first : IsMetAt (front_met (entries_of v) events us) p → IsDeepAt (front_met (entries_of v) events us) p
        deep_first m =
            let s = shown front v us p t.0 one in
            let e = s.depth_is in let c = first_counts in let d : suc most_ancestors < body_depth (same_place p) s.body = t.2 s.body s.goes (omega arith) in omega arith

        deep_second : IsMetAt (front_met (entries_of v) events ws) p → IsDeepAt (front_met (entries_of v) events ws) p
        deep_second m =
            let s = shown front v ws p t.0 two in
            let e = s.depth_is in let c = second_counts in let d : suc most_ancestors < body_depth (same_place p) s.body = t.2 s.body s.goes (omega arith) in omega arith

pub both_first_law : BothFirstLaw
both_first_law front symbols v b us ws events o first apart put lower one two found = go o found
  where
    same : (p : Place)
        → (IsDeepInBoth (front_met (entries_of v) events us) (front_met (entries_of v) events ws) p → IsTooDeepInFront p front)
        × (IsTooDeepInFront p front → IsDeepInBoth (front_met (entries_of v) events us) (front_met (entries_of v) events ws) p)
    same = by_modules front symbols v b us ws events first apart put lower (one (beyond (last_line front))) (two (beyond (last_line front)))

    go : (o : Option Place) → IsFirstInBoth o (front_met (entries_of v) events us) (front_met (entries_of v) events ws) → IsFirstInFront o front
    go None f = λ p t. f p ((same p).1 t)
    go (Some p) f = ((same p).0 f.0, λ q t. f.1 q ((same q).1 t))
