-- A node stands no less deep than in one of the two ways to read a tuple that may be assigned to.
use Rattle.std.proofs.Common.{◌≡◌, ℕ, suc, true, false, List, [], ◌∷◌, ◌++◌, ◌⊎◌, inl, inr, sym, ◌∙◌, subst, arith}
use Rattle.grammars.specs.Grammar.{Do}
use Rattle.py_syntax.specs.Build.{Part, Parts, AddItem}
use Rattle.py_nesting.specs.Asked.{targets_last, target_last}
use Rattle.py_nesting.specs.Depths.{body_depth}
use Rattle.py_nesting.specs.Shapes.{entry_of, entries_of}
use Rattle.py_nesting.specs.Walk.{Demand, Nothing, Whole, Assigned}
use Rattle.py_demands.specs.Aims.{Aim, Simply, Targets, Target, MayTarget, Never}
use Rattle.py_demands.specs.Aimed.{IsTarget, IsAimed, AreAimed}
use Rattle.py_demands.specs.AtMost.{AtMost, AreAtMost}
use Rattle.py_demands.specs.Decided.{AgreesAim, AgreeAims, IsOut, AreOut, EitherLaw, WholeLaw, IsOpen, AgreeBoth, BothLaw}
use Rattle.py_demands.specs.Least.{Ask, AtLeast, OpenAtLeast}
use Rattle.py_demands.specs.Turned.{IfTurned, AreTurned}
use Rattle.py_demands.proofs.Agreed.{IsRead, AreRead, none_read, one_read, read_whole, same, all_whole, lone_so}
use Rattle.py_demands.proofs.Items.{item_law}
use Rattle.py_demands.proofs.Lower.{turned_law}

at_least_read : (part : Part) (m k : ℕ) (d : Demand) → m ≡ k → AtMost (AtLeast m) d → IsRead part (Whole k) d
at_least_read part m k Nothing e h = (Nothing, tt, same part Nothing)
at_least_read part m k (Whole n) e h = (Whole n, (omega arith), same part (Whole n))
at_least_read part m k d e h = absurd h

targets_read : (part : Part) (m k : ℕ) (d : Demand) → m ≡ k → IsAimed (Targets m) (entry_of part) d → IsRead part (Assigned k) d
targets_read part m k (Assigned n) e h = (Assigned n, (let l = h.0 in omega arith), same part (Assigned n))
targets_read part m k d e h = absurd h

may_read : (part : Part) (m k : ℕ) (d : Demand) → ((target_last (entry_of part ∷ []) ≡ true) × (m ≡ k)) ⊎ ((target_last (entry_of part ∷ []) ≡ false) × (suc m ≡ k))
    → IsTarget m (entry_of part) d ⊎ AtMost (AtLeast (suc m)) d → IsRead part (Whole k) d
may_read part m k d (inl a) (inl h) = at_least_read part m k d a.1 h.0
may_read part m k Nothing (inl a) (inr h) = (Nothing, tt, same part Nothing)
may_read part m k (Whole n) (inl a) (inr h) = (Whole n, (let e = a.1 in omega arith), same part (Whole n))
may_read part m k d (inl a) (inr h) = absurd h
may_read part m k d (inr a) (inl h) = let no : true ≡ false = sym h.1 ∙ a.0 in absurd (cc)
may_read part m k d (inr a) (inr h) = at_least_read part (suc m) k d a.1 h

aim_read : (part : Part) (aim : Aim) (u d : Demand) → AgreesAim part aim u → IsAimed aim (entry_of part) d → IfTurned (targets_last (entry_of part ∷ [])) d → IsRead part u d
aim_read part (Simply q) u d a h t = read_whole part q u d a h t
aim_read part (Targets m) (Assigned k) d a h t = targets_read part m k d a h
aim_read part (Target m) (Whole k) d a h t = at_least_read part m k d a h.0
aim_read part (MayTarget m) (Whole k) d a h t = may_read part m k d a h
aim_read part aim u d a h t = absurd a

aims_read : (v : Parts) (aims : List Aim) (us ds : List Demand) → AgreeAims v aims us → AreAimed aims (entries_of v) ds → AreTurned (entries_of v) ds → AreRead v us ds
aims_read [] [] [] [] a h t = none_read
aims_read (part ∷ v) (aim ∷ aims) (u ∷ us) (d ∷ ds) a h t = one_read part v u d us ds (aim_read part aim u d a.0 h.0 t.0) (aims_read v aims us ds a.1 h.1 t.1)
aims_read [] [] [] (d ∷ ds) a h t = absurd h
aims_read (part ∷ v) (aim ∷ aims) (u ∷ us) [] a h t = absurd h
aims_read v aims us ds a h t = absurd a

out_so : (part : Part) (aim : Aim) (d : Demand) → IsOut part aim → IsAimed aim (entry_of part) d → ⊥
out_so part Never d o h = h
out_so part (Target n) d o h = let no : true ≡ false = sym h.1 ∙ o in absurd (cc)
out_so part (Targets n) (Assigned m) o h = let no : true ≡ false = sym h.1 ∙ o in absurd (cc)
out_so part (Targets n) d o h = h
out_so part aim d o h = o

are_out : (v : Parts) (aims : List Aim) (ds : List Demand) → AreOut v aims → AreAimed aims (entries_of v) ds → ⊥
are_out (part ∷ v) (aim ∷ aims) (d ∷ ds) (inl o) h = out_so part aim d o h.0
are_out (part ∷ v) (aim ∷ aims) (d ∷ ds) (inr o) h = are_out v aims ds o h.1
are_out (part ∷ v) (aim ∷ aims) [] o h = h
are_out v aims ds o h = absurd o

pub either_law : EitherLaw
either_law front item rest v b i us a w clear at once more body m away h =
    let l = item_law front more item rest v body i b.at_front m in
    elim l.2 [
      | inl k ↦ inl (lone_so front (item ++ Do AddItem ∷ rest) v b clear at once b.demands l.0 l.1 (all_whole v i.asks b.demands l.0 a k l.3) (body_depth at body) h (l.4 at).0 ((l.4 at).1 away))
      | inr k ↦ inr (lone_so front (item ++ Do AddItem ∷ rest) v b clear at once us l.0 l.1 (aims_read v i.aims us l.0 w k l.3) (body_depth at body) h (l.4 at).0 ((l.4 at).1 away))
    ]

pub whole_law : WholeLaw
whole_law front item rest v b i a o clear at once more body m away h =
    let l = item_law front more item rest v body i b.at_front m in
    elim l.2 [
      | inl k ↦ lone_so front (item ++ Do AddItem ∷ rest) v b clear at once b.demands l.0 l.1 (all_whole v i.asks b.demands l.0 a k l.3) (body_depth at body) h (l.4 at).0 ((l.4 at).1 away)
      | inr k ↦ absurd (are_out v i.aims l.0 o k)
    ]

open_read : (part : Part) (v : Parts) (q : Ask) (u w d : Demand) (us ds : List Demand) → IsOpen q u w → AtMost q d → AreRead v us ds → AreRead (part ∷ v) (u ∷ us) (d ∷ ds) ⊎ AreRead (part ∷ v) (w ∷ us) (d ∷ ds)
open_read part v (OpenAtLeast m) (Whole k) (Assigned n) Nothing us ds o h r = inl (one_read part v (Whole k) Nothing us ds (Nothing, tt, same part Nothing) r)
open_read part v (OpenAtLeast m) (Whole k) (Assigned n) (Whole i) us ds o h r = inl (one_read part v (Whole k) (Whole i) us ds (Whole i, (let e = o.0 in omega arith), same part (Whole i)) r)
open_read part v (OpenAtLeast m) (Whole k) (Assigned n) (Assigned i) us ds o h r =
    inr (one_read part v (Assigned n) (Assigned i) us ds (Assigned i, (let e = o.1 in omega arith), same part (Assigned i)) r)
open_read part v (OpenAtLeast m) (Whole k) (Assigned n) d us ds o h r = absurd h
open_read part v q u w d us ds o h r = absurd o

both_read : (v : Parts) (qs : List Ask) (us ws ds : List Demand) → AgreeBoth v qs us ws → AreAtMost qs ds → AreTurned (entries_of v) ds → AreRead v us ds ⊎ AreRead v ws ds
both_read (part ∷ v) (q ∷ qs) (u ∷ us) (w ∷ ws) (d ∷ ds) (inl a) h t =
    let x = read_whole part q u d a.0 h.0 t.0 in
    elim (both_read v qs us ws ds a.2 h.1 t.1) [
      | inl r ↦ inl (one_read part v u d us ds x r)
      | inr r ↦ inr (subst (λ (z : Demand). AreRead (part ∷ v) (z ∷ ws) (d ∷ ds)) a.1 (one_read part v u d ws ds x r))
    ]
both_read (part ∷ v) (q ∷ qs) (u ∷ us) (w ∷ ws) (d ∷ ds) (inr a) h t =
    elim (open_read part v q u w d us ds a.0 h.0 (all_whole v qs us ds a.2 h.1 t.1)) [
      | inl r ↦ inl r
      | inr r ↦ inr (subst (λ (z : List Demand). AreRead (part ∷ v) (w ∷ z) (d ∷ ds)) a.1 r)
    ]
both_read (part ∷ v) (q ∷ qs) (u ∷ us) (w ∷ ws) [] a h t = absurd h
both_read v qs us ws ds a h t = absurd a

pub both_law : BothLaw
both_law front symbols v b ws a clear at once more body m away h =
    let l = turned_law front more symbols v body b.asks b.at_front m b.askable b.least_is in
    elim (both_read v b.asks b.demands ws l.0 a l.2 l.3) [
      | inl r ↦ inl (lone_so front symbols v b clear at once b.demands l.0 l.1 r (body_depth at body) h (l.4 at).0 ((l.4 at).1 away))
      | inr r ↦ inr (lone_so front symbols v b clear at once ws l.0 l.1 r (body_depth at body) h (l.4 at).0 ((l.4 at).1 away))
    ]
