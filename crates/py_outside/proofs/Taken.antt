-- Rows and sights by their numbers.
use Rattle.std.proofs.Common.{◌≡◌, ℕ, Bool, true, false, ◌||◌, ◌==◌, cond, List, [], ◌∷◌, map, Some, None, refl, sym, ap, ◌∙◌, eqb-true, eq-eqb, ◌&&◌, Option, slice_get, arith}
use Rattle.std.specs.List.{list_any}
use Rattle.grammars.specs.Sets.{has, same_sight}
use Rattle.std.specs.Option.{option_map}
use Rattle.py_constructs.specs.Table.{profile_rows}
use Rattle.py_constructs.specs.Values.{Widening}
use Rattle.py_table.specs.PlainSymbols as profile
use Rattle.py_table.specs.declared.symbol.Row.{Row as ProfileRow}
use Rattle.py_table.specs.Sights.{sight_numbered}
use Rattle.py_outside.specs.PlainSymbols.{plain_row, plain_profile_row}
use Rattle.py_outside.specs.declared.symbol.Row.{Row as CodeRow}
use Rattle.py_outside.proofs.Picked.{own_at, profile_at}

same_sights : (a n : ℕ) → same_sight (sight_numbered a) (sight_numbered n) ≡ (a == n)
same_sights a n = go (a == 95) (n == 95) refl refl
  where
    go : (p q : Bool) → (a == 95) ≡ p → (n == 95) ≡ q → same_sight (cond p None (Some a)) (cond q None (Some n)) ≡ (a == n)
    go true true h k = let e : a ≡ 95 = eqb-true _ _ h in let f : n ≡ 95 = eqb-true _ _ k in rw (e, f) refl
    go true false h k = let e : a ≡ 95 = eqb-true _ _ h in grind arith
    go false true h k = let e : n ≡ 95 = eqb-true _ _ k in grind arith
    go false false h k = refl

pub sights_have : (l : List ℕ) (n : ℕ) → has (map sight_numbered l) (sight_numbered n) ≡ list_any (λ y. y == n) l
sights_have [] n = refl
sights_have (a ∷ l) n = ap (λ (b : Bool). b || has (map sight_numbered l) (sight_numbered n)) (same_sights a n) ∙ ap (λ (b : Bool). (a == n) || b) (sights_have l n)

pub added_here : (a n s : ℕ) (l : List ℕ) (b : Bool) → a ≡ n → b ≡ list_any (λ y. y == s) l → b ≡ ((a == n) && has (map sight_numbered l) (sight_numbered s))
added_here a n s l b e f = f ∙ sym (sights_have l s) ∙ ap (λ (t : Bool). t && has (map sight_numbered l) (sight_numbered s)) (sym (eq-eqb a n e))

pub profile_taken : (l : List ProfileRow) (n : ℕ) (o : Option ProfileRow) → o ≡ slice_get l n → option_map plain_profile_row o ≡ slice_get (profile_rows (map profile.plain_row l)) n
profile_taken l n o e = ap (option_map plain_profile_row) e ∙ sym (profile_at l n)

pub own_row_taken : (w : Widening) (l : List CodeRow) (n : ℕ) (o : Option CodeRow) → o ≡ slice_get l n → option_map (plain_row w) o ≡ slice_get (map (plain_row w) l) n
own_row_taken w l n o e = ap (option_map (plain_row w)) e ∙ sym (own_at w l n)
