-- The stack of items has its top at the end.
use Rattle.std.proofs.Common.{◌≡◌, ℕ, zero, suc, ◌-◌, ◌≤◌, List, [], ◌∷◌, ◌++◌, length, take, drop, map, reverse, inl, inr, ◌⊎◌, refl, sym, ap, ◌∙◌, arith}
use Rattle.std.proofs.lemmas.List.{reverse-append, map-append, length-map, length-reverse, length-drop, take-append-drop}
use Rattle.py_constructs.specs.Values as meaning
use Rattle.py_constructs.specs.Values.{less}
use Rattle.py_outside.specs.PlainValues.{plain_item, items_of}
use Rattle.py_outside.specs.declared.item.Item.{Item}

pub items_of_pushed : (xs : List Item) (x : Item) → items_of (xs ++ x ∷ []) ≡ plain_item x ∷ items_of xs
unfolding items_of
items_of_pushed xs x = ap (map plain_item) (reverse-append xs (x ∷ []))

pub items_of_nothing : items_of [] ≡ []
unfolding items_of
items_of_nothing = refl

pub ruleset stacks = (items_of_pushed, items_of_nothing)

pub items_of_none : (xs : List Item) → length xs ≡ 0 → items_of xs ≡ []
items_of_none [] h = items_of_nothing
items_of_none (x ∷ xs) h = absurd (omega arith)

-- without what stands before
less_prefix : (these those : List meaning.Item) (n : ℕ) → n ≡ length these → less n (these ++ those) ≡ those
less_prefix [] those zero h = refl
less_prefix [] those (suc n) h = absurd (omega arith)
less_prefix (i ∷ these) those zero h = absurd (omega arith)
less_prefix (i ∷ these) those (suc n) h = less_prefix these those n (omega (arith, h))

less_all : (n : ℕ) (l : List meaning.Item) → length l ≤ n → less n l ≡ []
less_all zero [] h = refl
less_all zero (i ∷ l) h = absurd (omega arith)
less_all (suc n) [] h = refl
less_all (suc n) (i ∷ l) h = less_all n l (omega (arith, h))

length_of_items : (xs : List Item) → length (items_of xs) ≡ length xs
unfolding items_of
length_of_items xs = length-map (reverse xs) plain_item ∙ length-reverse xs

items_of_both : (xs ys : List Item) → items_of (xs ++ ys) ≡ items_of ys ++ items_of xs
unfolding items_of
items_of_both xs ys = ap (map plain_item) (reverse-append xs ys) ∙ map-append plain_item (reverse ys) (reverse xs)

total : (a b : ℕ) → (a ≤ b) ⊎ (b ≤ a)
total zero b = inl (omega arith)
total (suc a) zero = inr (omega arith)
total (suc a) (suc b) = elim (total a b) [
  | inl p ↦ inl (omega (arith, p))
  | inr p ↦ inr (omega (arith, p))
]

some_dropped : (xs : List Item) (n k : ℕ) → length (drop k xs) ≡ n → items_of (take k xs) ≡ less n (items_of xs)
some_dropped xs n k h =
    sym
    (ap (λ (l : List Item). less n (items_of l)) (sym (take-append-drop k xs))
    ∙ ap (less n) (items_of_both (take k xs) (drop k xs))
    ∙ less_prefix (items_of (drop k xs)) (items_of (take k xs)) n (sym (length_of_items (drop k xs) ∙ h)))

all_dropped : (xs : List Item) (n k : ℕ) → k ≡ 0 → length xs ≤ n → items_of (take k xs) ≡ less n (items_of xs)
all_dropped xs n k e h =
    let most : length (items_of xs) ≤ n = omega (arith, length_of_items xs, h) in
    ap (λ (m : ℕ). items_of (take m xs)) e ∙ items_of_nothing ∙ sym (less_all n (items_of xs) most)

-- what stays where n are dropped
pub items_of_kept : (xs : List Item) (n : ℕ) → items_of (take (length xs - n) xs) ≡ less n (items_of xs)
items_of_kept xs n = elim (total n (length xs)) [
  | inl some ↦ some_dropped xs n (length xs - n) (length-drop (length xs - n) xs ∙ omega (arith, some))
  | inr most ↦ all_dropped xs n (length xs - n) (omega (arith, most)) most
]
