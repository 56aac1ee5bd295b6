-- The first of some places and others is the earlier of both firsts.
use Rattle.std.proofs.Common.{◌≡◌, Bool, true, false, List, [], ◌∷◌, ◌++◌, refl, sym, ap, ◌∙◌, Option, Some, None, if◌then◌else◌}
use Rattle.py_tokens.specs.Token.{Place}
use Rattle.py_tokens.specs.Places.{is_before}
use Rattle.py_tokens.proofs.PlacesOrdered.{before_through, before_neither}
use Rattle.py_meaning.specs.Built.{earlier, first_place}
use Rattle.py_built.specs.First.{earliest}

earlier_both : (p q r : Place) (b c : Bool) → is_before r q ≡ b → is_before q p ≡ c
    → (if is_before (if b then r else q) p then (if b then r else q) else p) ≡ (if is_before r (if c then q else p) then r else (if c then q else p))
earlier_both p q r true true h k = rw (h, before_through p q r h k) refl
earlier_both p q r true false h k = refl
earlier_both p q r false true h k = rw (h, k) refl
earlier_both p q r false false h k = rw (k, before_neither p q r h k) refl

earlier_joined : (p : Place) (o o2 : Option Place) → earlier p (earliest o o2) ≡ earlier (earlier p o) o2
earlier_joined p None o2 = refl
earlier_joined p (Some q) None = refl
earlier_joined p (Some q) (Some r) = earlier_both p q r (is_before r q) (is_before q p) refl refl

pub first_place-append : (l m : List Place) → first_place (l ++ m) ≡ earliest (first_place l) (first_place m)
first_place-append [] m = refl
first_place-append (p ∷ l) m = ap (λ o. Some (earlier p o)) (first_place-append l m) ∙ ap Some (earlier_joined p (first_place l) (first_place m))

pub earliest_assoc : (o o2 o3 : Option Place) → earliest (earliest o o2) o3 ≡ earliest o (earliest o2 o3)
earliest_assoc None o2 o3 = refl
earliest_assoc (Some p) o2 o3 = ap Some (sym (earlier_joined p o2 o3))

-- no place is first just where there is none
pub no_first : (places : List Place) → first_place places ≡ None → places ≡ []
no_first [] h = refl
no_first (p ∷ places) h = absurd (cc)

pub ruleset firsts = (first_place-append)
