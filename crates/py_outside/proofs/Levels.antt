-- The stack of levels has its top at the end.
use Rattle.std.proofs.Common.{◌≡◌, List, [], ◌∷◌, ◌++◌, length, map, refl, ap, arith}
use Rattle.std.proofs.lemmas.List.{reverse-append}
use Rattle.py_outside.specs.PlainValues.{plain_level, levels_of}
use Rattle.py_outside.specs.declared.left.Level.{Level}

pub levels_of_pushed : (xs : List Level) (x : Level) → levels_of (xs ++ x ∷ []) ≡ plain_level x ∷ levels_of xs
unfolding levels_of
levels_of_pushed xs x = ap (map plain_level) (reverse-append xs (x ∷ []))

pub levels_of_nothing : levels_of [] ≡ []
unfolding levels_of
levels_of_nothing = refl

pub ruleset stacks = (levels_of_pushed, levels_of_nothing)

pub levels_of_none : (xs : List Level) → length xs ≡ 0 → levels_of xs ≡ []
levels_of_none [] h = levels_of_nothing
levels_of_none (x ∷ xs) h = absurd (omega arith)
