-- Runs of a machine with a number of ticks. A tick stands for a turn of a loop or an entry of a function, so a run with n
-- ticks always comes to a result, and what a program does is known from its runs with every n.
use Rattle.std.specs.Prelude.{◌≡◌, ℕ, zero, suc, List, Option, Some, None}

-- how a run ends
pub data Ending : Type 0 where
  Done : Ending
  -- by an exception that nothing caught
  Raised : (class : List ℕ) → (message : List ℕ) → Ending
  -- the ticks are used up and another is due
  GoingOn : Ending
  -- an operation has no case for its values
  Wrong : Ending
  -- an unchecked index is out of bounds
  Undefined : Ending

-- what a small step does: it goes on, goes on and takes a tick, or ends
pub data Next (S : Type 0) : Type 0 where
  Goes : S → Next S
  Ticks : S → Next S
  Ends : Ending → Next S

pub record Machine (S : Type 0) : Type 0 where
  pub step : S → Next S
  -- what has been written so far
  pub output : S → List ℕ

pub data Result : Type 0 where
  Gives : (output : List ℕ) → (ending : Ending) → Result

-- what a step makes of a run with n ticks, where `again` is the rest of the run
abbrev pub decide : {S : Type 0} → List ℕ → Next S → ℕ → (ℕ → S → Option Result) → Option Result
decide out (Goes t) n again = again n t
decide out (Ticks t) zero again = Some (Gives out GoingOn)
decide out (Ticks t) (suc n) again = again n t
decide out (Ends e) n again = Some (Gives out e)

-- the result of the run with n ticks, if k small steps suffice
abbrev pub run_for : {S : Type 0} → Machine S → ℕ → ℕ → S → Option Result
run_for m zero n s = None
run_for m (suc k) n s = decide (m.output s) (m.step s) n (run_for m k)

-- with n ticks, the run from s has this result
abbrev pub ComesTo : {S : Type 0} → Machine S → ℕ → S → Result → Type 0
ComesTo m n s r = (k : ℕ) × (run_for m k n s ≡ Some r)

-- for every number of ticks both runs come to a result, and to the same one
abbrev pub SameRuns : {S T : Type 0} → Machine S → S → Machine T → T → Type 0
SameRuns L s R t = (n : ℕ) → (r : Result) × ComesTo L n s r × ComesTo R n t r
