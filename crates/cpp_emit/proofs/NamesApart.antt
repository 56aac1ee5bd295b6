-- Emitted names tell the names of the source apart.
use Rattle.std.proofs.Common.{◌≡◌, ℕ, List, [], ◌∷◌, ◌++◌, Bool, true, false, refl, sym, ap, ◌∙◌, eqb-true}
use Rattle.std.specs.Prelude.{◌==◌, ◌&&◌, if◌then◌else◌, codes}
use Rattle.std.specs.Bool.{Decides}
use Rattle.std.specs.Str.{bytes_eq}
use Rattle.std.specs.Fmt.{decimal}
use Rattle.std.proofs.lemmas.Slice.Eq.{bytes_eq-Decides}
use Rattle.shed_meaning.specs.EmittedName.{encoded, global_name, temporary_name}

-- the name that an encoding was made from: the character behind a `Z` stands for itself
abbrev decoded : Bool → List ℕ → List ℕ
decoded escape [] = []
decoded true (c ∷ x) = c ∷ decoded false x
decoded false (c ∷ x) = if c == 90 then decoded true x else c ∷ decoded false x

undo_one : (after is_z is_low : Bool) (c : ℕ) (x t : List ℕ) → (c == 90) ≡ is_z → (c == 95) ≡ is_low → decoded false t ≡ x → decoded false ((if is_z then codes "ZZ" else (if is_low && after then codes "Z_" else c ∷ [])) ++ t) ≡ c ∷ x
undo_one after true is_low c x t z l e = ap (λ s. 90 ∷ s) e ∙ ap (λ k. k ∷ x) (sym (eqb-true c 90 z))
undo_one true false true c x t z l e = ap (λ s. 95 ∷ s) e ∙ ap (λ k. k ∷ x) (sym (eqb-true c 95 l))
undo_one false false true c x t z l e = ap (λ b. if b then decoded true t else c ∷ decoded false t) z ∙ ap (λ s. c ∷ s) e
undo_one true false false c x t z l e = ap (λ b. if b then decoded true t else c ∷ decoded false t) z ∙ ap (λ s. c ∷ s) e
undo_one false false false c x t z l e = ap (λ b. if b then decoded true t else c ∷ decoded false t) z ∙ ap (λ s. c ∷ s) e

decoded-encoded : (after : Bool) (x : List ℕ) → decoded false (encoded after x) ≡ x
decoded-encoded after [] = refl
decoded-encoded after (c ∷ x) =
    undo_one after (c == 90) (c == 95) c x (encoded (c == 95) x) refl refl (decoded-encoded (c == 95) x)

encoded_apart : (after : Bool) (x y : List ℕ) → encoded after x ≡ encoded after y → x ≡ y
encoded_apart after x y e = sym (decoded-encoded after x) ∙ (ap (λ s. decoded false s) e ∙ decoded-encoded after y)

front_off : (p x y : List ℕ) → p ++ x ≡ p ++ y → x ≡ y
front_off [] x y e = e
front_off (c ∷ p) x y e = front_off p x y cc

-- two globals have one name only where their names are one
pub global_name_apart : (owner : ℕ) (x y : List ℕ) → global_name owner x ≡ global_name owner y → x ≡ y
global_name_apart owner x y e =
    encoded_apart true x y (front_off (codes "_") _ _ (front_off (decimal owner) _ _ (front_off (codes "g_") _ _ e)))

decided_false : {P : Type 0} (b : Bool) → Decides b P → (P → ⊥) → b ≡ false
decided_false true d not_so = absurd (not_so (d.0 refl))
decided_false false d not_so = refl

pub same_is : (x y : List ℕ) → bytes_eq x y ≡ true → x ≡ y
same_is x y e = (bytes_eq-Decides x y).0 e

pub same_self : (x : List ℕ) → bytes_eq x x ≡ true
same_self x = (bytes_eq-Decides x x).1 refl

pub same_globals : (owner : ℕ) (x y : List ℕ) → bytes_eq x y ≡ true → global_name owner x ≡ global_name owner y
same_globals owner x y e = ap (λ z. global_name owner z) (same_is x y e)

pub other_globals : (owner : ℕ) (x y : List ℕ) → bytes_eq x y ≡ false → bytes_eq (global_name owner x) (global_name owner y) ≡ false
other_globals owner x y e =
    decided_false _ (bytes_eq-Decides (global_name owner x) (global_name owner y))
    (λ same. let is : bytes_eq x y ≡ true = (bytes_eq-Decides x y).1 (global_name_apart owner x y same) in cc)

pub temporary_apart : (n owner : ℕ) (x : List ℕ) → bytes_eq (temporary_name n) (global_name owner x) ≡ false
temporary_apart n owner x = refl
