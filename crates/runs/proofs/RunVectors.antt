-- What the definitions of runs say of a machine that counts down, writes each number and takes a tick for each.
use Rattle.std.proofs.Common.{◌≡◌, ℕ, zero, suc, List, [], ◌∷◌, ◌++◌, Some, None, refl}
use Rattle.runs.specs.Run.{Done, GoingOn, Next, Ticks, Ends, Machine, Gives, run_for, ComesTo}
use Rattle.runs.specs.Moment.{moment_at}

pub record Count : Type 0 where
  pub left : ℕ
  pub written : List ℕ

abbrev count_step : ℕ → List ℕ → Next Count
count_step zero written = Ends Done
count_step (suc n) written = Ticks (record { left = n; written = written ++ suc n ∷ [] })

abbrev counter : Machine Count
counter = record { step = λ c. count_step c.left c.written; output = λ c. c.written }

-- with no tick the first one is due at once; with two the run goes on after two numbers; with three it is done, and with
-- more it is so as well
no_ticks : ComesTo counter 0 (record { left = 3; written = [] }) (Gives [] GoingOn)
no_ticks = (1, refl)

two_ticks : ComesTo counter 2 (record { left = 3; written = [] }) (Gives (3 ∷ 2 ∷ []) GoingOn)
two_ticks = (3, refl)

three_ticks : ComesTo counter 3 (record { left = 3; written = [] }) (Gives (3 ∷ 2 ∷ 1 ∷ []) Done)
three_ticks = (4, refl)

more_ticks : ComesTo counter 9 (record { left = 3; written = [] }) (Gives (3 ∷ 2 ∷ 1 ∷ []) Done)
more_ticks = (4, refl)

-- too few small steps show no result
too_few : run_for counter 2 2 (record { left = 3; written = [] }) ≡ None
too_few = refl

-- the moments of the run, and none after its end
moments : (moment_at counter 1 (record { left = 3; written = [] }) ≡ Some (record { left = 2; written = 3 ∷ [] })) × (moment_at counter 4 (record { left = 3; written = [] }) ≡ None)
moments = (refl, refl)
