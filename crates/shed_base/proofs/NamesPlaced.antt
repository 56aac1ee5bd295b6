-- The places of texts in the list of a `Names`.
use Rattle.std.proofs.Common.{◌≡◌, ℕ, zero, suc, ◌+◌, ◌<◌, ◌≤◌, Bool, true, false, length, get_or, take, Bor, List, [], ◌∷◌, ◌++◌, position, slice_get, Some, is_some, Result, Ok, Err, OnOk, ◌⊎◌, inl, inr, arith, refl, sym, ap, ◌∙◌, true≢false}
use Rattle.std.specs.Prelude.{◌||◌, codes, if◌then◌else◌, map, string_bytes, String, option_map}
use Rattle.std.specs.List.{list_any, IsDistinct}
use Rattle.std.specs.Str.{bytes_eq}
use Rattle.std.specs.String.{string_eq}
use Rattle.std.proofs.lemmas.Bool.{cases_lt}
use Rattle.std.proofs.lemmas.Cmp.{nat_list_eq_equiv}
use Rattle.std.proofs.Math.ListN.{get_or-map}
use Rattle.std.proofs.lemmas.List.{map-append}
use Rattle.std.proofs.lemmas.List.Quantifiers.{position-Some}
use Rattle.std.proofs.lemmas.Map.Keys.{IsDistinct-push, apart_from_distinct}
use Rattle.std.proofs.lemmas.Option.{slice_get-get_or, slice_get-map, slice_get_within, get_or_from_slice_get}
use Rattle.std.proofs.lemmas.Slice.Eq.{bytes_eq-Decides}
use Rattle.shed_base.specs.Names.{special_texts, has_text, with_text, AreDistinct, OnePlace, KeptPlace}

-- the test by which a set finds a text
pub any_is_has : {Y : Type 0} (keys : List (String Y)) (x : List ℕ) → list_any (λ k. bytes_eq x (string_bytes k)) keys ≡ has_text (map string_bytes keys) x
any_is_has [] x = refl
any_is_has (k ∷ keys) x = ap (λ b. bytes_eq x (string_bytes k) || b) (any_is_has keys x)

-- a text that is found leaves the texts
pub kept : {Y : Type 0} (keys : List (String Y)) (x : List ℕ) → list_any (λ k. bytes_eq x (string_bytes k)) keys ≡ true → map string_bytes keys ≡ with_text (map string_bytes keys) x
kept keys x e =
    ap (λ b. if b then map string_bytes keys else map string_bytes keys ++ x ∷ []) (sym e ∙ any_is_has keys x)

-- and one that is not is their last
pub added : {Y : Type 0} (old new : List (String Y)) (k : String Y) (x : List ℕ) → string_bytes k ≡ x → list_any (λ j. bytes_eq x (string_bytes j)) old ≡ false → new ≡ (if list_any (string_eq k) old then old else old ++ k ∷ []) → map string_bytes new ≡ map string_bytes old ++ x ∷ []
added old new k x is absent e =
    let lacks : list_any (string_eq k) old ≡ false = ap (λ y. list_any (λ j. bytes_eq y (string_bytes j)) old) is ∙ absent in
    ap (λ ks. map string_bytes ks) e
    ∙ ap (λ b. map string_bytes (if b then old else old ++ k ∷ [])) lacks
    ∙ map-append string_bytes old (k ∷ [])
    ∙ ap (λ y. map string_bytes old ++ y ∷ []) is

pub last_is_with : {Y : Type 0} (old : List (String Y)) (x : List ℕ) → list_any (λ j. bytes_eq x (string_bytes j)) old ≡ false → map string_bytes old ++ x ∷ [] ≡ with_text (map string_bytes old) x
last_is_with old x absent =
    ap (λ b. if b then map string_bytes old else map string_bytes old ++ x ∷ []) (sym absent ∙ any_is_has old x)

-- so a text that is there was found
pub found : {Y : Type 0} {A : Type 0} (keys : List (String Y)) (texts : List (List ℕ)) (x : List ℕ) → map string_bytes keys ≡ texts → list_any (λ k. bytes_eq x (string_bytes k)) keys ≡ false → has_text texts x ≡ true → A
found keys texts x view absent there =
    absurd (true≢false (sym there ∙ ap (λ ts. has_text ts x) (sym view) ∙ sym (any_is_has keys x) ∙ absent))

-- the place of a text that is found has this text
pub at_found : {Y : Type 0} (keys : List (String Y)) (x : List ℕ) (i : ℕ) → Some i ≡ position (λ k. bytes_eq x (string_bytes k)) keys → slice_get (map string_bytes keys) i ≡ Some x
at_found [] x i e = absurd (true≢false (ap is_some e))
at_found {Y} (k ∷ keys) x i e =
    let p = position-Some (λ (j : String Y). bytes_eq x (string_bytes j)) (k ∷ keys) i k (sym e) in
    slice_get-map string_bytes (k ∷ keys) i
    ∙ ap (option_map string_bytes) (slice_get-get_or (k ∷ keys) i k p.0)
    ∙ ap (λ y. Some y) (sym ((bytes_eq-Decides x (string_bytes (get_or (k ∷ keys) i k))).0 p.1))

-- and so has the last place
pub at_last : (texts : List (List ℕ)) (x : List ℕ) → slice_get (texts ++ x ∷ []) (length texts) ≡ Some x
at_last [] x = refl
at_last (y ∷ texts) x = at_last texts x

-- distinct texts stay so
pub distinct-with_text : (texts : List (List ℕ)) (x : List ℕ) → AreDistinct texts → AreDistinct (with_text texts x)
distinct-with_text texts x d = by (has_text texts x) refl
  where
    by : (b : Bool) → has_text texts x ≡ b → AreDistinct (if b then texts else texts ++ x ∷ [])
    by true e = d
    by false e = IsDistinct-push nat_list_eq_equiv texts x d e

pub nothing-distinct : AreDistinct []
unfolding IsDistinct
nothing-distinct = tt

-- the special texts come one by one
special_next : (i : ℕ) (x : List ℕ) → i < 5 → with_text (take i special_texts) (get_or special_texts i x) ≡ take (i + 1) special_texts
special_next zero x within = refl
special_next (suc zero) x within = refl
special_next (suc (suc zero)) x within = refl
special_next (suc (suc (suc zero))) x within = refl
special_next (suc (suc (suc (suc zero)))) x within = refl
special_next (suc (suc (suc (suc (suc i))))) x within = let no : ⊥ = omega arith in absurd no

-- the special texts behind references
abbrev pub behind : (p q r s t : ℕ × ℕ) → List (Bor (List ℕ))
behind p q r s t =
    record { ref_ptr = p; now = codes "__init__" } ∷ record { ref_ptr = q; now = codes "__str__" } ∷ record { ref_ptr = r; now = codes "__eq__" } ∷ record { ref_ptr = s; now = codes "__lt__" } ∷ record { ref_ptr = t; now = codes "__len__" } ∷ []

pub special_at : (p q r s t : ℕ × ℕ) (none : Bor (List ℕ)) (i : ℕ) → (get_or {A = Bor (List ℕ)} (behind p q r s t) i none).now ≡ get_or special_texts i none.now
special_at p q r s t none i = sym (get_or-map (λ (b : Bor (List ℕ)). b.now) (behind p q r s t) i none)

pub specials_step : (old new : List (List ℕ)) (x none : List ℕ) (i : ℕ) → new ≡ with_text old x → old ≡ take i special_texts → x ≡ get_or special_texts i none → i < 5 → new ≡ take (i + 1) special_texts
specials_step old new x none i gains so_far is within =
    gains
    ∙ ap (λ ts. with_text ts x) so_far
    ∙ ap (with_text (take i special_texts)) is
    ∙ special_next i none within

-- one text has one place
apart : (texts : List (List ℕ)) → AreDistinct texts → (i j : ℕ) (x : List ℕ) → slice_get texts i ≡ Some x → slice_get texts j ≡ Some x → i < j → ⊥
apart texts d i j x at_i at_j before =
    let differ : bytes_eq (get_or texts i x) (get_or texts j x) ≡ false = apart_from_distinct bytes_eq texts i j x d before (slice_get_within texts j x at_j) in
    let left : get_or texts i x ≡ x = get_or_from_slice_get texts i x x at_i in
    let right : get_or texts j x ≡ x = get_or_from_slice_get texts j x x at_j in
    true≢false (sym ((bytes_eq-Decides (get_or texts i x) (get_or texts j x)).1 (left ∙ sym right)) ∙ differ)

pub one_place : OnePlace
one_place texts d i j x at_i at_j = by (cases_lt i j) (cases_lt j i)
  where
    by : (i < j) ⊎ (j ≤ i) → (j < i) ⊎ (i ≤ j) → i ≡ j
    by (inl before) q = absurd (apart texts d i j x at_i at_j before)
    by (inr p) (inl after) = absurd (apart texts d j i x at_j at_i after)
    by (inr p) (inr q) = omega arith

-- and keeps it
front : (texts more : List (List ℕ)) (i : ℕ) (x : List ℕ) → slice_get texts i ≡ Some x → slice_get (texts ++ more) i ≡ Some x
front [] more i x e = absurd (true≢false (sym (ap is_some e)))
front (y ∷ texts) more zero x e = e
front (y ∷ texts) more (suc i) x e = front texts more i x e

pub kept_place : KeptPlace
kept_place texts more i x e = by (has_text texts more)
  where
    by : (b : Bool) → slice_get (if b then texts else texts ++ more ∷ []) i ≡ Some x
    by true = e
    by false = front texts (more ∷ []) i x e

-- what is so whatever the answer is, is so where it is good
pub on_ok : {T E P : Type 0} (r : Result T E) → P → OnOk r P
on_ok (Ok x) p = p
on_ok (Err e) p = tt
