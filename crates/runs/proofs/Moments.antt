-- What each step keeps holds at every moment of a run, and bars an ending that no good moment has.
use Rattle.std.proofs.Common.{◌≡◌, ℕ, zero, suc, List, Some, subst}
use Rattle.runs.specs.Run.{Ending, GoingOn, Next, Goes, Ticks, Ends, Machine, Gives, decide, run_for, ComesTo}
use Rattle.runs.specs.Moment.{moment_after, moment_then, moment_at}

-- a step to a good moment, or to an ending that is not barred
abbrev pub Keeps : {S : Type 0} → (S → Type 0) → (Ending → Type 0) → Next S → Type 0
Keeps Good May (Goes t) = Good t
Keeps Good May (Ticks t) = Good t
Keeps Good May (Ends e) = May e

module _ {S : Type 0} (m : Machine S) (Good : S → Type 0) (May : Ending → Type 0) (keeps : (s : S) → Good s → Keeps Good May (m.step s)) where
  at_next : (k : ℕ) (next : Next S) (t : S) → ((s : S) → Good s → moment_at m k s ≡ Some t → Good t) → Keeps Good May next → moment_then (moment_after next) (moment_at m k) ≡ Some t → Good t
  at_next k (Goes s) t later good e = later s good e
  at_next k (Ticks s) t later good e = later s good e
  at_next k (Ends x) t later good e = cc

  -- at every moment
  pub holds_at_each : (k : ℕ) (s t : S) → Good s → moment_at m k s ≡ Some t → Good t
  holds_at_each zero s t good e = let same : s ≡ t = cc in subst Good same good
  holds_at_each (suc k) s t good e = at_next k (m.step s) t (λ s' good' e'. holds_at_each k s' t good' e') (keeps s good) e

  decided_well : (out got : List ℕ) (e : Ending) (next : Next S) (n k : ℕ) → May GoingOn → ((j : ℕ) (s : S) → Good s → run_for m k j s ≡ Some (Gives got e) → May e) → Keeps Good May next → decide out next n (run_for m k) ≡ Some (Gives got e) → May e
  decided_well out got e (Goes s) n k may later good d = later n s good d
  decided_well out got e (Ticks s) zero k may later good d = let same : GoingOn ≡ e = cc in subst May same may
  decided_well out got e (Ticks s) (suc n) k may later good d = later n s good d
  decided_well out got e (Ends x) n k may later good d = let same : x ≡ e = cc in subst May same good

  ends_well_for : May GoingOn → (k n : ℕ) (s : S) (out : List ℕ) (e : Ending) → Good s → run_for m k n s ≡ Some (Gives out e) → May e
  ends_well_for may zero n s out e good d = cc
  ends_well_for may (suc k) n s out e good d =
      decided_well (m.output s) out e (m.step s) n k may (λ j s' good' d'. ends_well_for may k j s' out e good' d') (keeps s good) d

  -- every run ends as it may
  pub ends_well : May GoingOn → (n : ℕ) (s : S) (out : List ℕ) (e : Ending) → Good s → ComesTo m n s (Gives out e) → May e
  ends_well may n s out e good c = ends_well_for may c.0 n s out e good c.1
