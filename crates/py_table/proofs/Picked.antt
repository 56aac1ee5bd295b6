-- The row that is picked is found by the numbers of its nonterminal and of the sight.
use Rattle.std.proofs.Common.{◌≡◌, ℕ, zero, suc, ◌+◌, ◌<◌, Bool, true, false, cond, ◌&&◌, List, [], ◌∷◌, map, slice_get, Option, Some, None, refl, sym, ap, ◌∙◌, arith}
use Rattle.grammars.specs.Grammar.{allows, Row, Sight}
use Rattle.grammars.specs.Sets.{has, ahead, is_apart_from, are_told_apart}
use Rattle.grammars.specs.Run.{first_row, pick}
use Rattle.grammars.proofs.Bools.{and_left, and_right}
use Rattle.grammars.proofs.Sets.{are_apart_lem}
use Rattle.py_syntax.specs.Build.{Action, Parts}
use Rattle.py_syntax.specs.Table.{Nonterminal, Module, rows, table, sets}
use Rattle.py_syntax.proofs.TableSets.{decided}
use Rattle.py_table.specs.Sights.{sight_numbered, is_taken, row_before, place_of_first, allowed}
use Rattle.std.specs.Option.{option_map}
use Rattle.py_table.specs.declared.symbol.Row.{Row as CodeRow}
use Rattle.py_table.specs.PlainSymbols.{plain_row}
use Rattle.py_table.specs.RowNumbers.{row_numbers}

-- none of these rows is taken at one of these sights
none_taken : (x : Nonterminal) (sights : List Sight) (l : List (Row Nonterminal Action Parts)) (v : Parts) (s : Sight)
    → is_apart_from sets x sights l ≡ true → has sights s ≡ true → first_row (λ r. is_taken x s r && allows r.guard v) l ≡ None
none_taken x sights [] v s h p = refl
none_taken x sights (r ∷ l) v s h p = go (none_taken x sights l v s (and_right _ _ h) p) (is_taken x s r) refl
  where
    go : first_row (λ r. is_taken x s r && allows r.guard v) l ≡ None → (b : Bool) → is_taken x s r ≡ b
        → cond (b && allows r.guard v) (Some r) (first_row (λ r. is_taken x s r && allows r.guard v) l) ≡ None
    go rest false e = rest
    go rest true e = let clash : has sights s ≡ false = are_apart_lem _ sights s (and_left _ _ h) e in absurd (cc)

-- no other row is taken where the guard of the one forbids it
pub picked : (x : Nonterminal) (l : List (Row Nonterminal Action Parts)) (v : Parts) (s : Sight) → are_told_apart sets x l ≡ true
    → first_row (λ r. is_taken x s r && allows r.guard v) l ≡ allowed v (first_row (is_taken x s) l)
picked x [] v s h = refl
picked x (r ∷ l) v s h = go (picked x l v s (and_right _ _ h)) (is_taken x s r) (allows r.guard v) refl refl
  where
    goal : Bool → Bool → Type 0
    goal b c = cond (b && c) (Some r) (first_row (λ r. is_taken x s r && allows r.guard v) l) ≡ allowed v (cond b (Some r) (first_row (is_taken x s) l))

    go : first_row (λ r. is_taken x s r && allows r.guard v) l ≡ allowed v (first_row (is_taken x s) l)
        → (b c : Bool) → is_taken x s r ≡ b → allows r.guard v ≡ c → goal b c
    go rest false c e f = rest
    go rest true true e f = rw f refl
    go rest true false e f = rw f (none_taken x (ahead sets (sets.follow x) r.symbols) l v s (and_left _ _ h) e)

pub pick_before : (x : Nonterminal) (v : Parts) (s : Sight) → pick table sets x v s ≡ allowed v (row_before x s)
pick_before x v s = picked x (rows x) v s (and_right _ _ (decided x))

-- the first row stands at its place
row_at_place : (test : Row Nonterminal Action Parts → Bool) (l : List (Row Nonterminal Action Parts)) → slice_get l (place_of_first test l) ≡ first_row test l
row_at_place test [] = refl
row_at_place test (r ∷ l) = go (row_at_place test l) (test r)
  where
    go : slice_get l (place_of_first test l) ≡ first_row test l
        → (b : Bool) → slice_get (r ∷ l) (cond b 0 (suc (place_of_first test l))) ≡ cond b (Some r) (first_row test l)
    go rest true = refl
    go rest false = rest

-- n, n + 1 and so on, so many of them
abbrev count_from : ℕ → ℕ → List ℕ
count_from n zero = []
count_from n (suc more) = n ∷ count_from (suc n) more

count_at : (n more i : ℕ) → i < more → slice_get (count_from n more) i ≡ Some (n + i)
count_at n zero i h = absurd (omega arith)
count_at n (suc more) zero h = let e : n ≡ n + 0 = omega arith in ap Some e
count_at n (suc more) (suc i) h = let e : suc n + i ≡ n + suc i = omega arith in count_at (suc n) more i (omega arith) ∙ ap Some e

abbrev place_at : Nonterminal → ℕ → ℕ
place_at x n = place_of_first (is_taken x (sight_numbered n)) (rows x)

-- each of them, computed
numbers_computed : (x : Nonterminal) → row_numbers x ≡ map (place_at x) (count_from 0 96)
numbers_computed Module = refl
numbers_computed _ = refl

mapped_at : (f : ℕ → ℕ) (l : List ℕ) (i n : ℕ) → slice_get l i ≡ Some n → slice_get (map f l) i ≡ Some (f n)
mapped_at f [] i n h = absurd (cc)
mapped_at f (m ∷ l) zero n h = let e : m ≡ n = cc in ap (λ (k : ℕ). Some (f k)) e
mapped_at f (m ∷ l) (suc i) n h = mapped_at f l i n h

number_at : (x : Nonterminal) (n : ℕ) → n < 96 → slice_get (row_numbers x) n ≡ Some (place_at x n)
number_at x n h = ap (λ (l : List ℕ). slice_get l n) (numbers_computed x) ∙ mapped_at (place_at x) (count_from 0 96) n n (let e : 0 + n ≡ n = omega arith in count_at 0 96 n h ∙ ap Some e)

-- what the code looks up
looked_up : (x : Nonterminal) (n number : ℕ) → n < 96 → slice_get (row_numbers x) n ≡ Some number → slice_get (rows x) number ≡ row_before x (sight_numbered n)
looked_up x n number h e =
    let f : Some number ≡ Some (place_at x n) = sym e ∙ number_at x n h in
    let same : number ≡ place_at x n = cc in
    ap (slice_get (rows x)) same ∙ row_at_place (is_taken x (sight_numbered n)) (rows x)

slice_get-map : {A B : Type 0} (f : A → B) (l : List A) (n : ℕ) → slice_get (map f l) n ≡ option_map f (slice_get l n)
slice_get-map f [] n = refl
slice_get-map f (a ∷ l) zero = refl
slice_get-map f (a ∷ l) (suc n) = slice_get-map f l n

-- the row that the code finds
pub row_found : (x : Nonterminal) (n number : ℕ) (numbers : List ℕ) (l : List CodeRow) (found : Option CodeRow) → n < 96 → numbers ≡ row_numbers x
    → slice_get numbers n ≡ Some number → map plain_row l ≡ rows x → found ≡ slice_get l number
    → option_map plain_row found ≡ row_before x (sight_numbered n)
row_found x n number numbers l found h e f g k =
    ap (option_map plain_row) k ∙ sym (slice_get-map plain_row l number) ∙ ap (λ (r : List (Row Nonterminal Action Parts)). slice_get r number) g
    ∙ looked_up x n number h (ap (λ (r : List ℕ). slice_get r n) (sym e) ∙ f)

-- there is a number at each sight
pub number_missing : (x : Nonterminal) (n : ℕ) (numbers : List ℕ) → n < 96 → numbers ≡ row_numbers x → slice_get numbers n ≡ None → ⊥
number_missing x n numbers h e f =
    let there : slice_get numbers n ≡ Some (place_at x n) = ap (λ (r : List ℕ). slice_get r n) e ∙ number_at x n h in
    absurd (cc)
