-- No row asks less than its nonterminal is said to, where an item among targets is read.
use Rattle.std.proofs.Common.{◌≡◌, suc, Bool, true, false, ◌&&◌, List, [], ◌∷◌, map, Option, Some, None, refl}
use Rattle.grammars.specs.Grammar.{Row}
use Rattle.py_syntax.specs.Build.{Parts, Action}
use Rattle.py_syntax.specs.Table.{Nonterminal, Module, rows}
use Rattle.py_demands.specs.Least.{AtLeast, low, is_below, asks_no_more}
use Rattle.py_demands.specs.Aims.{Aim, Simply, Target, MayTarget, Never, way, gone, aim_least, aimed, are_aimable}

-- the first aims at no more than the second
abbrev pub aims_no_more : Aim → Aim → Bool
aims_no_more aim Never = true
aims_no_more (Simply q) (Simply r) = asks_no_more q r
aims_no_more (Simply q) (Target n) = asks_no_more q (AtLeast n)
aims_no_more (Simply q) (MayTarget n) = asks_no_more q (AtLeast n)
aims_no_more (Target m) (Target n) = is_below m n
aims_no_more (MayTarget m) (Target n) = is_below m n
aims_no_more (MayTarget m) (MayTarget n) = is_below m n
aims_no_more (MayTarget m) (Simply r) = asks_no_more (AtLeast (suc m)) r
aims_no_more aim other = false

abbrev pub all_aim_no_more : List Aim → List Aim → Bool
all_aim_no_more [] [] = true
all_aim_no_more (a ∷ aims) (b ∷ others) = aims_no_more a b && all_aim_no_more aims others
all_aim_no_more aims others = false

abbrev pub aim_no_more : List Aim → Option (List Aim) → Bool
aim_no_more aims None = false
aim_no_more aims (Some others) = all_aim_no_more aims others

abbrev pub said : Nonterminal → Aim → List Aim
said x aim = map (aim_least (gone (way x) aim)) (low x)

abbrev pub row_is_aimed : Nonterminal → Aim → Row Nonterminal Action Parts → Bool
row_is_aimed x aim r = aim_no_more (said x aim) (aimed r.symbols (Some (aim ∷ []))) && are_aimable r.symbols (Some (aim ∷ []))

abbrev pub rows_are_aimed : Nonterminal → Aim → List (Row Nonterminal Action Parts) → Bool
rows_are_aimed x aim [] = true
rows_are_aimed x aim (r ∷ these) = row_is_aimed x aim r && rows_are_aimed x aim these

abbrev pub is_aimed : Nonterminal → Bool
is_aimed x = rows_are_aimed x (Target 0) (rows x) && (rows_are_aimed x (MayTarget 0) (rows x) && rows_are_aimed x Never (rows x))

pub all_aimed : (x : Nonterminal) → is_aimed x ≡ true
all_aimed Module = refl
all_aimed _ = refl
