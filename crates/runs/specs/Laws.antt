-- The laws of runs that hold of every machine.
use Rattle.std.specs.Prelude.{◌≡◌, ℕ, Bool, true, false, Some}
use Rattle.runs.specs.Run.{Machine, Result, ComesTo, SameRuns}
use Rattle.runs.specs.FiniteMap.{Map, put}

-- a run with n ticks has one result
abbrev pub OneResult : Type 0 → Type 0
OneResult S = (m : Machine S) (n : ℕ) (s : S) (r q : Result) → ComesTo m n s r → ComesTo m n s q → r ≡ q

-- so where two machines have the same runs, whatever one comes to the other comes to
abbrev pub BothWays : Type 0 → Type 0 → Type 0
BothWays S T = (L : Machine S) (s : S) (R : Machine T) (t : T) → SameRuns L s R t → (n : ℕ) (r : Result) → (ComesTo L n s r → ComesTo R n t r) × (ComesTo R n t r → ComesTo L n s r)

-- a map has at a key what was put there, and elsewhere what it had
pub record PutLaws (K V : Type 0) : Type 0 where
  pub there : (same : K → K → Bool) (m : Map K V) (k q : K) (v : V) → same k q ≡ true → put same m k v q ≡ Some v
  pub elsewhere : (same : K → K → Bool) (m : Map K V) (k q : K) (v : V) → same k q ≡ false → put same m k v q ≡ m q
