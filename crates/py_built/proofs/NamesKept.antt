-- The code's set of names is the list of their texts, and a text that comes goes last.
use Rattle.std.proofs.Common.{◌≡◌, ℕ, List, [], ◌∷◌, ◌++◌, Bool, true, false, refl, sym, ap, subst, ◌∙◌}
use Rattle.std.specs.Prelude.{◌||◌, if◌then◌else◌, map, string_bytes, String}
use Rattle.std.specs.Str.{bytes_eq}
use Rattle.std.specs.String.{string_eq}
use Rattle.std.specs.List.{list_any}
use Rattle.std.proofs.lemmas.Slice.Eq.{bytes_eq-Decides}
use Rattle.std.proofs.lemmas.Bool.Decides.{same_from_decides}
use Rattle.shed_base.proofs.NamesPlaced.{added as added_last}
use Rattle.py_meaning.specs.Name.{Name, same_name}
use Rattle.py_meaning.specs.Rules.{has_name}
use Rattle.py_built.specs.Names.{with_name, Alike}

bytes_eq_sym : (x y : List ℕ) → bytes_eq x y ≡ bytes_eq y x
bytes_eq_sym x y = same_from_decides (bytes_eq x y) (bytes_eq y x) (bytes_eq-Decides x y) ((λ e. sym ((bytes_eq-Decides y x).0 e)), (λ e. (bytes_eq-Decides y x).1 (sym e)))

-- the test by which a set finds a name
pub any_is_has : {Y : Type 0} (keys : List (String Y)) (x : List ℕ) → list_any (λ k. bytes_eq x (string_bytes k)) keys ≡ has_name (map string_bytes keys) x
any_is_has [] x = refl
any_is_has (k ∷ keys) x =
    ap (λ b. b || list_any (λ j. bytes_eq x (string_bytes j)) keys) (bytes_eq_sym x (string_bytes k))
    ∙ ap (λ b. bytes_eq (string_bytes k) x || b) (any_is_has keys x)

pub kept : {Y : Type 0} (keys : List (String Y)) (x : List ℕ) → list_any (λ k. bytes_eq x (string_bytes k)) keys ≡ true → map string_bytes keys ≡ with_name (map string_bytes keys) x
kept keys x e =
    ap (λ b. if b then map string_bytes keys else map string_bytes keys ++ x ∷ []) (sym e ∙ any_is_has keys x)

pub added : {Y : Type 0} (old new : List (String Y)) (k : String Y) (x : List ℕ) → string_bytes k ≡ x → list_any (λ j. bytes_eq x (string_bytes j)) old ≡ false → new ≡ (if list_any (string_eq k) old then old else old ++ k ∷ []) → map string_bytes new ≡ with_name (map string_bytes old) x
added old new k x is absent e =
    added_last old new k x is absent e
    ∙ ap (λ b. if b then map string_bytes old else map string_bytes old ++ x ∷ []) (sym absent ∙ any_is_has old x)

-- only whether a name is there counts
pub has_last : (names : List Name) (x y : Name) → has_name (names ++ x ∷ []) y ≡ has_name (x ∷ names) y
has_last [] x y = refl
has_last (z ∷ names) x y = ap (λ b. same_name z y || b) (has_last names x y) ∙ turn (same_name z y) (same_name x y) (has_name names y)
  where
    turn : (a b c : Bool) → (a || (b || c)) ≡ (b || (a || c))
    turn true true c = refl
    turn true false c = refl
    turn false b c = refl

-- a name that comes last is there as one that comes first
pub with_name-alike : (names : List Name) (x : Name) → Alike (with_name names x) (x ∷ names)
with_name-alike names x y = by_test (has_name names x) refl
  where
    by_test : (b : Bool) → has_name names x ≡ b → has_name (if b then names else names ++ x ∷ []) y ≡ has_name (x ∷ names) y
    by_test false h = has_last names x y
    by_test true h = by_name (same_name x y) refl
      where
        by_name : (c : Bool) → same_name x y ≡ c → has_name names y ≡ (c || has_name names y)
        by_name false k = refl
        by_name true k = subst (λ (z : Name). has_name names z ≡ true) ((bytes_eq-Decides x y).0 k) h
