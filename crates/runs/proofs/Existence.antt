-- Every run with n ticks comes to a result, where each step without a tick lowers a weight.
use Rattle.std.proofs.Common.{◌≡◌, ℕ, zero, suc, ◌<◌, List, Some, refl, arith}
use Rattle.runs.specs.Run.{GoingOn, Next, Goes, Ticks, Ends, Machine, Result, Gives, decide, run_for, ComesTo}

abbrev pub Comes : {S : Type 0} → Machine S → ℕ → S → Type 0
Comes m n s = (r : Result) × ComesTo m n s r

-- a step to a good moment, which weighs less than before unless the step takes a tick
abbrev pub Falls : {S : Type 0} → (S → ℕ) → (S → Type 0) → ℕ → Next S → Type 0
Falls weight Good before (Goes t) = (weight t < before) × Good t
Falls weight Good before (Ticks t) = Good t
Falls weight Good before (Ends e) = Unit {0}

module _ {S : Type 0} (m : Machine S) (weight : S → ℕ) (Good : S → Type 0) (falls : (s : S) → Good s → Falls weight Good (weight s) (m.step s)) where
  -- what is known of runs with one tick less
  abbrev Fewer : ℕ → Type 0
  Fewer zero = Unit {0}
  Fewer (suc n) = (t : S) → Good t → Comes m n t

  -- one step more
  step_more : (s : S) (n : ℕ) → (r : Result) × (k : ℕ) × (decide (m.output s) (m.step s) n (run_for m k) ≡ Some r) → Comes m n s
  step_more s n d = (d.0, (suc d.1, d.2))

  decided : (out : List ℕ) (next : Next S) (n before : ℕ) → Fewer n → ((t : S) → weight t < before → Good t → Comes m n t) → Falls weight Good before next → (r : Result) × (k : ℕ) × (decide out next n (run_for m k) ≡ Some r)
  decided out (Goes t) n before fewer less f = let c = less t f.0 f.1 in (c.0, c.1.0, c.1.1)
  decided out (Ticks t) zero before fewer less f = (Gives out GoingOn, 0, refl)
  decided out (Ticks t) (suc n) before fewer less f = let c = fewer t f in (c.0, c.1.0, c.1.1)
  decided out (Ends e) n before fewer less f = (Gives out e, 0, refl)

  within : (n : ℕ) → Fewer n → (bound : ℕ) (s : S) → weight s < bound → Good s → Comes m n s
  within n fewer zero s w g = absurd (omega arith)
  within n fewer (suc bound) s w g =
      step_more s n (decided (m.output s) (m.step s) n (weight s) fewer (λ t lighter good. within n fewer bound t (omega arith) good) (falls s g))

  pub comes : (n : ℕ) (s : S) → Good s → Comes m n s
  comes zero s g = within zero tt (suc (weight s)) s (omega arith) g
  comes (suc n) s g = within (suc n) (λ t good. comes n t good) (suc (weight s)) s (omega arith) g
