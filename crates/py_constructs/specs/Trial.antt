-- A search that computes, by which worked texts are looked at.
use Rattle.std.specs.Prelude.{◌≡◌, ℕ, zero, suc, List, [], ◌∷◌, Option, Some, None}
use Rattle.py_syntax.specs.Token.{Token}
use Rattle.py_constructs.specs.Construct.{Construct, constructs}
use Rattle.py_constructs.specs.Values.{Value, begin}
use Rattle.py_constructs.specs.Table.{Symbol, additions, goal}
use Rattle.py_constructs.specs.Standing.{IsFinding}
use Rattle.py_constructs.specs.Reached.{head_at}
use Rattle.py_constructs.specs.Search.{Best, better, found}
use Rattle.py_constructs.specs.OneStep.{Step, Going, Finished, Halted, one_step}

abbrev pub after : (List Symbol → Value → List Token → Option Value) → Value → Step → Option Value
after again v (Going symbols w ts) = again symbols w ts
after again v Finished = Some v
after again v Halted = Some v

-- the value at which the run ends, in so many steps
abbrev pub ending : Construct → ℕ → List Symbol → Value → List Token → Option Value
ending c zero symbols v ts = None
ending c (suc n) symbols v ts = after (ending c n) v (one_step (additions c) symbols v ts)

-- the best of these constructs and of the one so far
abbrev pub search : List Construct → ℕ → List Token → ℕ → Option Best → Option (Option Best)
search [] n ts first o = Some o
search (c ∷ more) n ts first o = elim (ending c n goal begin ts) [ None ↦ None | Some v ↦ search more n ts first (better o c (head_at first v)) ]

abbrev pub SearchLaw : Type 0
SearchLaw = (n : ℕ) (ts : List Token) (first : ℕ) (o : Option Best) → search constructs n ts first None ≡ Some o → IsFinding ts first (found o)
