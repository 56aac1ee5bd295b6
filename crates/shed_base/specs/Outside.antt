-- What a source and a sink hold, where they tell it, and how faults are counted.
use Rattle.std.specs.Prelude.{◌≡◌, ℕ, ◌+◌, ◌-◌, ◌^◌, ◌≤◌, ◌==◌, min, List, ◌++◌, length, Option, option_map}

-- the count after one more fault: at the last value of its type it stays
abbrev pub raised : ℕ → ℕ
raised count = min (count + 1) (2 ^ 64 - 1)

-- the count of faults rose, or stands at its last value
abbrev pub Rose : ℕ → ℕ → Type 0
Rose before now = raised before ≤ now

-- what a sink holds once these bytes are appended
abbrev pub appended : Option (List ℕ) → List ℕ → Option (List ℕ)
appended held bytes = option_map (λ (front : List ℕ). front ++ bytes) held

-- what a source had left before these bytes were taken
abbrev pub put_back : List ℕ → Option (List ℕ) → Option (List ℕ)
put_back bytes left = option_map (λ (rest : List ℕ). bytes ++ rest) left

-- a read of some room gives no byte exactly where none is left
abbrev pub ZeroExactlyAtEnd : ℕ → Option (List ℕ) → Type 0
ZeroExactlyAtEnd count left = option_map (λ (rest : List ℕ). length rest == 0) left ≡ option_map (λ (_ : List ℕ). count == 0) left
