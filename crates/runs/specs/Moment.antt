-- The moments of a run.
use Rattle.std.specs.Prelude.{ℕ, zero, suc, List, Option, Some, None}
use Rattle.runs.specs.Run.{Next, Goes, Ticks, Ends, Ending, Machine, Gives, ComesTo}

abbrev pub moment_after : {S : Type 0} → Next S → Option S
moment_after (Goes t) = Some t
moment_after (Ticks t) = Some t
moment_after (Ends e) = None

abbrev pub moment_then : {S : Type 0} → Option S → (S → Option S) → Option S
moment_then None go = None
moment_then (Some s) go = go s

-- the moment after k small steps, if the run has not ended before
abbrev pub moment_at : {S : Type 0} → Machine S → ℕ → S → Option S
moment_at m zero s = Some s
moment_at m (suc k) s = moment_then (moment_after (m.step s)) (moment_at m k)

-- no run from s, with whatever number of ticks, ends so
abbrev pub NeverEnds : {S : Type 0} → Machine S → S → Ending → Type 0
NeverEnds m s e = (n : ℕ) (out : List ℕ) → ComesTo m n s (Gives out e) → ⊥
