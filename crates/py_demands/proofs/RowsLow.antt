-- No row asks less than its nonterminal is said to.
use Rattle.std.proofs.Common.{◌≡◌, Bool, true, false, not, ◌&&◌, ◌||◌, List, [], ◌∷◌, map, Option, Some, None, refl}
use Rattle.grammars.specs.Grammar.{Row}
use Rattle.py_syntax.specs.Build.{Parts, Action}
use Rattle.py_syntax.specs.Table.{Nonterminal, Module, rows}
use Rattle.py_fronts.specs.Kinds.{gives}
use Rattle.py_demands.specs.Least.{Ask, NoNode, AtLeast, WithinAtLeast, OpenAtLeast, ask_least, low, least, are_askable, gives_expression, gives_items, ask_no_more}

abbrev pub no_more : List Ask → Option (List Ask) → Bool
no_more qs None = false
no_more qs (Some rs) = ask_no_more qs rs

abbrev pub row_is_low : Nonterminal → Ask → Row Nonterminal Action Parts → Bool
row_is_low x q r = no_more (map (ask_least q) (low x)) (least r.symbols (Some (q ∷ []))) && are_askable r.symbols (Some (q ∷ []))

abbrev pub rows_are_low : Nonterminal → Ask → List (Row Nonterminal Action Parts) → Bool
rows_are_low x q [] = true
rows_are_low x q (r ∷ these) = row_is_low x q r && rows_are_low x q these

abbrev pub is_low : Nonterminal → Bool
is_low x =
    (rows_are_low x NoNode (rows x) && rows_are_low x (AtLeast 0) (rows x))
    && ((not (gives_expression (gives x)) || rows_are_low x (OpenAtLeast 0) (rows x)) && (not (gives_items x) || rows_are_low x (WithinAtLeast 0) (rows x)))

pub all_low : (x : Nonterminal) → is_low x ≡ true
all_low Module = refl
all_low _ = refl
