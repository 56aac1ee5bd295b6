-- Tests of more than one part.
use Rattle.std.proofs.Common.{◌≡◌, Bool, true, false, not, ◌&&◌, ◌||◌, ◌⊎◌, inl, inr, refl, eqb-true, eq-eqb, Some, None, ap, subst}
use Rattle.grammars.specs.Grammar.{Sight}
use Rattle.grammars.specs.Sets.{same_sight}

pub and_left : (a b : Bool) → (a && b) ≡ true → a ≡ true
and_left true b h = refl
and_left false b h = h

pub and_right : (a b : Bool) → (a && b) ≡ true → b ≡ true
and_right true b h = h
and_right false b h = (cc)

pub both : (a b : Bool) → a ≡ true → b ≡ true → (a && b) ≡ true
both true b p q = q
both false b p q = p

pub either : (a b : Bool) → (a || b) ≡ true → (a ≡ true) ⊎ (b ≡ true)
either true b h = inl refl
either false b h = inr h

pub on_left : (a b : Bool) → a ≡ true → (a || b) ≡ true
on_left true b h = refl
on_left false b h = (cc)

pub on_right : (a b : Bool) → b ≡ true → (a || b) ≡ true
on_right true b h = refl
on_right false b h = h

pub implied : (a b : Bool) → (not a || b) ≡ true → a ≡ true → b ≡ true
implied true b h p = h
implied false b h p = (cc)

pub not_false : (a : Bool) → not a ≡ true → a ≡ false
not_false true h = (cc)
not_false false h = refl

pub same_sight_eq : (a b : Sight) → same_sight a b ≡ true → a ≡ b
same_sight_eq None None h = refl
same_sight_eq (Some a) (Some b) h = ap Some (eqb-true a b h)
same_sight_eq None (Some b) h = (cc)
same_sight_eq (Some a) None h = (cc)

pub same_sight_refl : (a : Sight) → same_sight a a ≡ true
same_sight_refl None = refl
same_sight_refl (Some a) = eq-eqb a a refl

pub same_sight_flip : (a b : Sight) → same_sight a b ≡ true → same_sight b a ≡ true
same_sight_flip a b h = subst (λ (x : Sight). same_sight x a ≡ true) (same_sight_eq a b h) (same_sight_refl a)
