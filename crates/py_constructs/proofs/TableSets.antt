-- With each construct added one token of sight decides, and each nonterminal derives something.
use Rattle.std.proofs.Common.{◌≡◌, ℕ, Bool, true, false, not, ◌&&◌, if◌then◌else◌, ◌==◌, List, [], ◌∷◌, ◌++◌, get_or, inl, inr, refl, sym, ap, ◌∙◌, subst, eqb-true, append-nil}
use Rattle.grammars.specs.Grammar.{Tok, Non, Do, Row, Sight}
use Rattle.grammars.specs.Sets.{ahead, are_closed, are_apart, is_apart_from, are_told_apart, is_decided, is_start, are_below, have_specimens, have_all_specimens, is_unguarded, have_exit, is_completable}
use Rattle.grammars.proofs.Bools.{and_left, and_right, both, either, on_left, on_right, not_false}
use Rattle.py_syntax.specs.Kinds.{kind_of, specimen}
use Rattle.py_syntax.specs.Table as t
use Rattle.py_constructs.specs.Construct as c
use Rattle.py_constructs.specs.Construct.{Construct}
use Rattle.py_constructs.specs.Values.{Action, Value, Widening}
use Rattle.py_constructs.specs.Table.{Name, Profile, Symbol, rows_of, number_of, names, Addition, to, widened, additions, added_to, widening_of, grammar_with, extended, sets, goal}

pub own_decided : (w : Widening) (x : Name) → is_decided (grammar_with (widened w ∷ [])) sets x ≡ true
own_decided w (Profile t.Module) = refl
own_decided w _ = refl

own_completable : (w : Widening) (x : Name) → is_completable (grammar_with (widened w ∷ [])) sets x ≡ true
own_completable w (Profile t.Module) = refl
own_completable w _ = refl

-- none of these rows is taken where one of those is
abbrev are_apart_rows : Name → List (Row Name Action Value) → List (Row Name Action Value) → Bool
are_apart_rows x [] those = true
are_apart_rows x (r ∷ these) those = is_apart_from sets x (ahead sets (sets.follow x) r.symbols) those && are_apart_rows x these those

-- what rows that are added have to meet
abbrev fit : Widening → Name → List (Row Name Action Value) → Bool
fit w x [] = true
fit w x (r ∷ rows) =
    are_closed sets x (r ∷ rows) && (are_told_apart sets x (r ∷ rows) && (are_apart_rows x (rows_of w x) (r ∷ rows) && have_all_specimens (grammar_with []) sets (r ∷ rows)))

-- no other rows are added to this name
abbrev is_new : ℕ → List Addition → Bool
is_new n [] = true
is_new n (to x rows ∷ more) = not (number_of x == n) && is_new n more
is_new n (widened w ∷ more) = is_new n more

abbrev all_fit : Widening → List Addition → Bool
all_fit w [] = true
all_fit w (to x rows ∷ more) = fit w x rows && (is_new (number_of x) more && all_fit w more)
all_fit w (widened u ∷ more) = all_fit w more

additions_fit : (w : Widening) (a : Construct) → all_fit w (additions a) ≡ true
additions_fit w c.Float = refl
additions_fit w _ = refl

-- numbers tell names apart
named : (x : Name) → get_or names (number_of x) (Profile t.Module) ≡ x
named (Profile t.Module) = refl
named _ = refl

pub same_name : (x y : Name) → number_of x ≡ number_of y → x ≡ y
same_name x y e = sym (named x) ∙ ap (λ n. get_or names n (Profile t.Module)) e ∙ named y

none_added : (n : ℕ) (more : List Addition) → is_new n more ≡ true → added_to n more ≡ []
none_added n [] h = refl
none_added n (to x rows ∷ more) h = go (number_of x == n) refl (none_added n more (and_right _ _ h))
  where
    go : (b : Bool) → (number_of x == n) ≡ b → added_to n more ≡ [] → (if b then rows ++ added_to n more else added_to n more) ≡ []
    go true e later = absurd (let no : true ≡ false = sym e ∙ not_false (number_of x == n) (and_left _ _ h) in cc)
    go false e later = later
none_added n (widened w ∷ more) h = none_added n more h

-- so what is added to a name fits it
added_fit : (w : Widening) (more : List Addition) (x : Name) → all_fit w more ≡ true → fit w x (added_to (number_of x) more) ≡ true
added_fit w [] x h = refl
added_fit w (to y rows ∷ more) x h = go (number_of y == number_of x) refl (added_fit w more x (and_right _ _ (and_right _ _ h)))
  where
    go : (b : Bool) → (number_of y == number_of x) ≡ b → fit w x (added_to (number_of x) more) ≡ true → fit w x (if b then rows ++ added_to (number_of x) more else added_to (number_of x) more) ≡ true
    go true e later =
        let same : y ≡ x = same_name y x (eqb-true _ _ e) in
        let none : added_to (number_of x) more ≡ [] = subst (λ (z : Name). added_to (number_of z) more ≡ []) same (none_added (number_of y) more (and_left _ _ (and_right _ _ h))) in
        subst (λ (l : List (Row Name Action Value)). fit w x (rows ++ l) ≡ true) (sym none)
        (subst (λ (l : List (Row Name Action Value)). fit w x l ≡ true) (sym (append-nil rows)) (subst (λ (z : Name). fit w z rows ≡ true) same (and_left _ _ h)))
    go false e later = later
added_fit w (widened u ∷ more) x h = added_fit w more x h

closed_both : (x : Name) (these those : List (Row Name Action Value)) → are_closed sets x these ≡ true → are_closed sets x those ≡ true → are_closed sets x (these ++ those) ≡ true
closed_both x [] those h k = k
closed_both x (r ∷ these) those h k = both _ (are_closed sets x (these ++ those)) (and_left _ (are_closed sets x these) h) (closed_both x these those (and_right _ (are_closed sets x these) h) k)

apart_both : (x : Name) (sights : List Sight) (these those : List (Row Name Action Value)) → is_apart_from sets x sights these ≡ true → is_apart_from sets x sights those ≡ true
    → is_apart_from sets x sights (these ++ those) ≡ true
apart_both x sights [] those h k = k
apart_both x sights (r ∷ these) those h k = both (are_apart (ahead sets (sets.follow x) r.symbols) sights) _ (and_left _ _ h) (apart_both x sights these those (and_right _ _ h) k)

told_apart_both : (x : Name) (these those : List (Row Name Action Value)) → are_told_apart sets x these ≡ true → are_told_apart sets x those ≡ true → are_apart_rows x these those ≡ true
    → are_told_apart sets x (these ++ those) ≡ true
told_apart_both x [] those h k p = k
told_apart_both x (r ∷ these) those h k p =
    both (is_apart_from sets x (ahead sets (sets.follow x) r.symbols) (these ++ those)) _
    (apart_both x (ahead sets (sets.follow x) r.symbols) these those (and_left _ _ h) (and_left _ _ p)) (told_apart_both x these those (and_right _ _ h) k (and_right _ _ p))

exit_both : (n : ℕ) (these those : List (Row Name Action Value)) → have_exit sets n these ≡ true → have_exit sets n (these ++ those) ≡ true
exit_both n [] those h = absurd (cc)
exit_both n (r ∷ these) those h = elim (either (is_unguarded r.guard && are_below sets n r.symbols) (have_exit sets n these) h) [
  | inl p ↦ on_left _ (have_exit sets n (these ++ those)) p
  | inr p ↦ on_right (is_unguarded r.guard && are_below sets n r.symbols) _ (exit_both n these those p)
]

-- what is added makes no difference to kinds
specimens_alike : (more other : List Addition) (symbols : List Symbol) → have_specimens (grammar_with other) sets symbols ≡ true → have_specimens (grammar_with more) sets symbols ≡ true
specimens_alike more other [] h = refl
specimens_alike more other (Tok k ∷ symbols) h = both (kind_of (specimen k) == k) _ (and_left _ _ h) (specimens_alike more other symbols (and_right _ _ h))
specimens_alike more other (Non x ∷ symbols) h = specimens_alike more other symbols h
specimens_alike more other (Do a ∷ symbols) h = specimens_alike more other symbols h

all_specimens : (more other : List Addition) (rows : List (Row Name Action Value)) → have_all_specimens (grammar_with other) sets rows ≡ true → have_all_specimens (grammar_with more) sets rows ≡ true
all_specimens more other [] h = refl
all_specimens more other (r ∷ rows) h = both (have_specimens (grammar_with more) sets r.symbols) _ (specimens_alike more other r.symbols (and_left _ _ h)) (all_specimens more other rows (and_right _ _ h))

specimens_both : (more : List Addition) (these those : List (Row Name Action Value)) → have_all_specimens (grammar_with more) sets these ≡ true → have_all_specimens (grammar_with more) sets those ≡ true
    → have_all_specimens (grammar_with more) sets (these ++ those) ≡ true
specimens_both more [] those h k = k
specimens_both more (r ∷ these) those h k = both (have_specimens (grammar_with more) sets r.symbols) _ (and_left _ _ h) (specimens_both more these those (and_right _ _ h) k)

own_so : (w : Widening) (x : Name) → (are_closed sets x (rows_of w x) && are_told_apart sets x (rows_of w x)) ≡ true
own_so w x = subst (λ (l : List (Row Name Action Value)). (are_closed sets x l && are_told_apart sets x l) ≡ true) (append-nil (rows_of w x)) (own_decided w x)

own_ends : (w : Widening) (x : Name) → (have_exit sets (sets.rank x) (rows_of w x) && have_all_specimens (grammar_with []) sets (rows_of w x)) ≡ true
own_ends w x = subst (λ (l : List (Row Name Action Value)). (have_exit sets (sets.rank x) l && have_all_specimens (grammar_with []) sets l) ≡ true) (append-nil (rows_of w x)) (own_completable w x)

-- the four tests of rows that are added
abbrev Fit : Widening → Name → List (Row Name Action Value) → Type 0
Fit w x rows =
    (are_closed sets x rows ≡ true) × (are_told_apart sets x rows ≡ true) × (are_apart_rows x (rows_of w x) rows ≡ true) × (have_all_specimens (grammar_with []) sets rows ≡ true)

all_four : (a b c d : Bool) → (a && (b && (c && d))) ≡ true → (a ≡ true) × (b ≡ true) × (c ≡ true) × (d ≡ true)
all_four a b c d h =
    let later : (b && (c && d)) ≡ true = and_right a (b && (c && d)) h in
    let last : (c && d) ≡ true = and_right b (c && d) later in
    (and_left a (b && (c && d)) h, and_left b (c && d) later, and_left c d last, and_right c d last)

tests : (w : Widening) (x : Name) (r : Row Name Action Value) (rows : List (Row Name Action Value)) → fit w x (r ∷ rows) ≡ true → Fit w x (r ∷ rows)
tests w x r rows h = all_four (are_closed sets x (r ∷ rows)) (are_told_apart sets x (r ∷ rows)) (are_apart_rows x (rows_of w x) (r ∷ rows)) (have_all_specimens (grammar_with []) sets (r ∷ rows)) h

-- where rows that fit are added, all is decided and has an exit
decided_with : (w : Widening) (x : Name) (rows : List (Row Name Action Value)) → fit w x rows ≡ true → (are_closed sets x (rows_of w x ++ rows) && are_told_apart sets x (rows_of w x ++ rows)) ≡ true
decided_with w x [] h = own_decided w x
decided_with w x (r ∷ rows) h =
    let f : Fit w x (r ∷ rows) = tests w x r rows h in
    both (are_closed sets x (rows_of w x ++ r ∷ rows)) _
    (closed_both x (rows_of w x) (r ∷ rows) (and_left _ _ (own_so w x)) f.0)
    (told_apart_both x (rows_of w x) (r ∷ rows) (and_right _ _ (own_so w x)) f.1 f.2)

specimens_fit : (w : Widening) (more : List Addition) (x : Name) (rows : List (Row Name Action Value)) → fit w x rows ≡ true → have_all_specimens (grammar_with more) sets rows ≡ true
specimens_fit w more x [] h = refl
specimens_fit w more x (r ∷ rows) h = all_specimens more [] (r ∷ rows) (tests w x r rows h).3

completable_with : (w : Widening) (more : List Addition) (x : Name) (rows : List (Row Name Action Value)) → fit w x rows ≡ true
    → (have_exit sets (sets.rank x) (rows_of w x ++ rows) && have_all_specimens (grammar_with more) sets (rows_of w x ++ rows)) ≡ true
completable_with w more x rows h =
    both (have_exit sets (sets.rank x) (rows_of w x ++ rows)) _
    (exit_both (sets.rank x) (rows_of w x) rows (and_left _ _ (own_ends w x)))
    (specimens_both more (rows_of w x) rows (all_specimens more [] (rows_of w x) (and_right _ _ (own_ends w x))) (specimens_fit w more x rows h))

pub decided : (a : Construct) (x : Name) → is_decided (extended a) sets x ≡ true
decided a x =
    let w : Widening = widening_of (additions a) in
    decided_with w x (added_to (number_of x) (additions a)) (added_fit w (additions a) x (additions_fit w a))

pub completable : (a : Construct) (x : Name) → is_completable (extended a) sets x ≡ true
completable a x =
    let w : Widening = widening_of (additions a) in
    completable_with w (additions a) x (added_to (number_of x) (additions a)) (added_fit w (additions a) x (additions_fit w a))

pub goal_decided : is_start sets goal ≡ true
goal_decided = refl

pub goal_has_specimens : (a : Construct) → have_specimens (extended a) sets goal ≡ true
goal_has_specimens a = refl
