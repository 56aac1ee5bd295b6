-- The row that is picked is found by the numbers of its name and of the sight, and by the sights of rows that are added.
use Rattle.std.proofs.Common.{◌≡◌, ℕ, zero, suc, ◌+◌, ◌<◌, Bool, true, false, cond, ◌&&◌, ◌==◌, List, [], ◌∷◌, ◌++◌, map, slice_get, Option, Some, None, refl, sym, ap, ◌∙◌, arith, eqb-true, eq-eqb}
use Rattle.grammars.specs.Grammar.{allows, Row, Sight}
use Rattle.grammars.specs.Sets.{has, ahead, is_apart_from, are_told_apart, is_decided}
use Rattle.grammars.specs.Run.{first_row, pick}
use Rattle.grammars.proofs.Bools.{and_left, and_right}
use Rattle.grammars.proofs.Sets.{are_apart_lem}
use Rattle.py_syntax.specs.Table as t
use Rattle.py_constructs.specs.Values.{Action, Value, Widening, NoWidening}
use Rattle.py_constructs.specs.Table.{Name, Profile, profile_rows, rows_of, number_of, Addition, to, widened, added_to, widening_of, rows_with, grammar_with, sets}
use Rattle.py_constructs.proofs.TableSets.{own_decided, same_name, decided}
use Rattle.std.specs.Option.{option_map}
use Rattle.py_table.specs.PlainSymbols as profile
use Rattle.py_table.specs.declared.symbol.Row.{Row as ProfileRow}
use Rattle.py_outside.specs.Sights.{is_taken, row_before, own_before, place_of_first, allowed, Added, spread_rows, spread, first_added}
use Rattle.py_table.specs.Sights.{sight_numbered}
use Rattle.py_outside.specs.PlainConstructs.{plain_construct, additions_of}
use Rattle.py_outside.specs.PlainSymbols.{plain_row, plain_profile_row}
use Rattle.py_outside.specs.RowNumbers.{row_numbers}
use Rattle.py_outside.specs.declared.construct.Construct.{Construct}
use Rattle.py_outside.specs.declared.symbol.Row.{Row as CodeRow}

abbrev OneRow : Type 0
OneRow = Row Name Action Value

-- none of these rows is taken at one of these sights
none_taken : (x : Name) (sights : List Sight) (l : List OneRow) (v : Value) (s : Sight)
    → is_apart_from sets x sights l ≡ true → has sights s ≡ true → first_row (λ r. is_taken x s r && allows r.guard v) l ≡ None
none_taken x sights [] v s h p = refl
none_taken x sights (r ∷ l) v s h p = go (none_taken x sights l v s (and_right _ _ h) p) (is_taken x s r) refl
  where
    go : first_row (λ r. is_taken x s r && allows r.guard v) l ≡ None → (b : Bool) → is_taken x s r ≡ b
        → cond (b && allows r.guard v) (Some r) (first_row (λ r. is_taken x s r && allows r.guard v) l) ≡ None
    go rest false e = rest
    go rest true e = let clash : has sights s ≡ false = are_apart_lem _ sights s (and_left _ _ h) e in absurd (cc)

-- no other row is taken where the guard of the one forbids it
picked : (x : Name) (l : List OneRow) (v : Value) (s : Sight) → are_told_apart sets x l ≡ true
    → first_row (λ r. is_taken x s r && allows r.guard v) l ≡ allowed v (first_row (is_taken x s) l)
picked x [] v s h = refl
picked x (r ∷ l) v s h = go (picked x l v s (and_right _ _ h)) (is_taken x s r) (allows r.guard v) refl refl
  where
    goal : Bool → Bool → Type 0
    goal b c = cond (b && c) (Some r) (first_row (λ r. is_taken x s r && allows r.guard v) l) ≡ allowed v (cond b (Some r) (first_row (is_taken x s) l))

    go : first_row (λ r. is_taken x s r && allows r.guard v) l ≡ allowed v (first_row (is_taken x s) l)
        → (b c : Bool) → is_taken x s r ≡ b → allows r.guard v ≡ c → goal b c
    go rest false c e f = rest
    go rest true true e f = rw f refl
    go rest true false e f = rw f (none_taken x (ahead sets (sets.follow x) r.symbols) l v s (and_left _ _ h) e)

decided_with : (c : Option Construct) (x : Name) → is_decided (grammar_with (additions_of c)) sets x ≡ true
decided_with None x = own_decided NoWidening x
decided_with (Some c) x = decided (plain_construct c) x

pub pick_before : (c : Option Construct) (x : Name) (v : Value) (s : Sight)
    → pick (grammar_with (additions_of c)) sets x v s ≡ allowed v (row_before (additions_of c) x s)
pick_before c x v s = picked x (rows_with (additions_of c) x) v s (and_right _ _ (decided_with c x))

-- the first row stands at its place
row_at_place : (test : OneRow → Bool) (l : List OneRow) → slice_get l (place_of_first test l) ≡ first_row test l
row_at_place test [] = refl
row_at_place test (r ∷ l) = go (row_at_place test l) (test r)
  where
    go : slice_get l (place_of_first test l) ≡ first_row test l
        → (b : Bool) → slice_get (r ∷ l) (cond b 0 (suc (place_of_first test l))) ≡ cond b (Some r) (first_row test l)
    go rest true = refl
    go rest false = rest

-- n, n + 1 and so on, so many of them
abbrev count_from : ℕ → ℕ → List ℕ
count_from n zero = []
count_from n (suc more) = n ∷ count_from (suc n) more

count_at : (n more i : ℕ) → i < more → slice_get (count_from n more) i ≡ Some (n + i)
count_at n zero i h = absurd (omega arith)
count_at n (suc more) zero h = let e : n ≡ n + 0 = omega arith in ap Some e
count_at n (suc more) (suc i) h = let e : suc n + i ≡ n + suc i = omega arith in count_at (suc n) more i (omega arith) ∙ ap Some e

abbrev place_at : Widening → Name → ℕ → ℕ
place_at w x n = place_of_first (is_taken x (sight_numbered n)) (rows_of w x)

-- each of them, computed
numbers_computed : (w : Widening) (x : Name) → row_numbers x ≡ map (place_at w x) (count_from 0 96)
numbers_computed w (Profile t.Module) = refl
numbers_computed w _ = refl

mapped_at : (f : ℕ → ℕ) (l : List ℕ) (i n : ℕ) → slice_get l i ≡ Some n → slice_get (map f l) i ≡ Some (f n)
mapped_at f [] i n h = absurd (cc)
mapped_at f (m ∷ l) zero n h = let e : m ≡ n = cc in ap (λ (k : ℕ). Some (f k)) e
mapped_at f (m ∷ l) (suc i) n h = mapped_at f l i n h

number_at : (w : Widening) (x : Name) (n : ℕ) → n < 96 → slice_get (row_numbers x) n ≡ Some (place_at w x n)
number_at w x n h =
    ap (λ (l : List ℕ). slice_get l n) (numbers_computed w x)
    ∙ mapped_at (place_at w x) (count_from 0 96) n n (let e : 0 + n ≡ n = omega arith in count_at 0 96 n h ∙ ap Some e)

-- the row that the number leads to
looked_up : (w : Widening) (x : Name) (n number : ℕ) → n < 96 → slice_get (row_numbers x) n ≡ Some number → slice_get (rows_of w x) number ≡ own_before w x (sight_numbered n)
looked_up w x n number h e =
    let there : Some number ≡ Some (place_at w x n) = sym e ∙ number_at w x n h in
    let same : number ≡ place_at w x n = cc in
    ap (slice_get (rows_of w x)) same ∙ row_at_place (is_taken x (sight_numbered n)) (rows_of w x)

pub row_found : (w : Widening) (x : Name) (n number : ℕ) (numbers : List ℕ) (l : List OneRow) (found : Option OneRow) → n < 96 → numbers ≡ row_numbers x
    → slice_get numbers n ≡ Some number → l ≡ rows_of w x → found ≡ slice_get l number → found ≡ own_before w x (sight_numbered n)
row_found w x n number numbers l found h e f g k =
    k ∙ ap (λ (r : List OneRow). slice_get r number) g ∙ looked_up w x n number h (ap (λ (r : List ℕ). slice_get r n) (sym e) ∙ f)

-- there is a number at each sight
pub number_missing : (x : Name) (n : ℕ) (numbers : List ℕ) → n < 96 → numbers ≡ row_numbers x → slice_get numbers n ≡ None → ⊥
number_missing x n numbers h e f =
    let there : slice_get numbers n ≡ Some (place_at NoWidening x n) = ap (λ (r : List ℕ). slice_get r n) e ∙ number_at NoWidening x n h in
    absurd (cc)

pub own_at : (w : Widening) (l : List CodeRow) (n : ℕ) → slice_get (map (plain_row w) l) n ≡ option_map (plain_row w) (slice_get l n)
own_at w [] n = refl
own_at w (a ∷ l) zero = refl
own_at w (a ∷ l) (suc n) = own_at w l n

pub profile_at : (l : List ProfileRow) (n : ℕ) → slice_get (profile_rows (map profile.plain_row l)) n ≡ option_map plain_profile_row (slice_get l n)
profile_at [] n = refl
profile_at (a ∷ l) zero = refl
profile_at (a ∷ l) (suc n) = profile_at l n

abbrev or_else : Option OneRow → Option OneRow → Option OneRow
or_else None other = other
or_else (Some r) other = Some r

first_of_both : (test : OneRow → Bool) (these those : List OneRow) → first_row test (these ++ those) ≡ or_else (first_row test these) (first_row test those)
first_of_both test [] those = refl
first_of_both test (r ∷ these) those = go (test r) (first_of_both test these those)
  where
    go : (b : Bool) → first_row test (these ++ those) ≡ or_else (first_row test these) (first_row test those)
        → cond b (Some r) (first_row test (these ++ those)) ≡ or_else (cond b (Some r) (first_row test these)) (first_row test those)
    go true e = refl
    go false e = e

same_number : (n : ℕ) → (n == n) ≡ true
same_number n = eq-eqb n n refl

-- what is added to the name
spread_here : (x : Name) (s : Sight) (rows : List OneRow) (more : List Added)
    → first_added (number_of x) s (spread_rows x rows ++ more) ≡ or_else (first_row (is_taken x s) rows) (first_added (number_of x) s more)
spread_here x s [] more = refl
spread_here x s (r ∷ rows) more = go (number_of x == number_of x) (is_taken x s r) (same_number (number_of x)) (spread_here x s rows more)
  where
    go : (a b : Bool) → a ≡ true → first_added (number_of x) s (spread_rows x rows ++ more) ≡ or_else (first_row (is_taken x s) rows) (first_added (number_of x) s more)
        → cond (a && b) (Some r) (first_added (number_of x) s (spread_rows x rows ++ more)) ≡ or_else (cond b (Some r) (first_row (is_taken x s) rows)) (first_added (number_of x) s more)
    go true true h e = refl
    go true false h e = e
    go false b h e = absurd (cc)

-- what is added to another
spread_there : (x : Name) (n : ℕ) (s : Sight) (rows : List OneRow) (more : List Added) → (number_of x == n) ≡ false
    → first_added n s (spread_rows x rows ++ more) ≡ first_added n s more
spread_there x n s [] more h = refl
spread_there x n s (r ∷ rows) more h = rw h (spread_there x n s rows more h)

pub added_found : (x : Name) (s : Sight) (more : List Addition) → first_added (number_of x) s (spread more) ≡ first_row (is_taken x s) (added_to (number_of x) more)
added_found x s [] = refl
added_found x s (to y rows ∷ more) = go (number_of y == number_of x) refl (added_found x s more)
  where
    go : (b : Bool) → (number_of y == number_of x) ≡ b → first_added (number_of x) s (spread more) ≡ first_row (is_taken x s) (added_to (number_of x) more)
        → first_added (number_of x) s (spread_rows y rows ++ spread more) ≡ first_row (is_taken x s) (cond b (rows ++ added_to (number_of x) more) (added_to (number_of x) more))
    go true e later =
        let same : y ≡ x = same_name y x (eqb-true _ _ e) in
        ap (λ (z : Name). first_added (number_of x) s (spread_rows z rows ++ spread more)) same
        ∙ spread_here x s rows (spread more)
        ∙ ap (or_else (first_row (is_taken x s) rows)) later
        ∙ sym (first_of_both (is_taken x s) rows (added_to (number_of x) more))
    go false e later = spread_there y (number_of x) s rows (spread more) e ∙ later
added_found x s (widened w ∷ more) = added_found x s more

-- a row that stands with no construct is the one that is taken
pub own_taken : (more : List Addition) (x : Name) (s : Sight) (r : OneRow) → own_before (widening_of more) x s ≡ Some r → row_before more x s ≡ Some r
own_taken more x s r h =
    first_of_both (is_taken x s) (rows_of (widening_of more) x) (added_to (number_of x) more) ∙ ap (λ (o : Option OneRow). or_else o (first_row (is_taken x s) (added_to (number_of x) more))) h

-- and otherwise one that is added
pub added_taken : (more : List Addition) (x : Name) (s : Sight) → own_before (widening_of more) x s ≡ None → row_before more x s ≡ first_added (number_of x) s (spread more)
added_taken more x s h =
    first_of_both (is_taken x s) (rows_of (widening_of more) x) (added_to (number_of x) more)
    ∙ ap (λ (o : Option OneRow). or_else o (first_row (is_taken x s) (added_to (number_of x) more))) h
    ∙ sym (added_found x s more)
