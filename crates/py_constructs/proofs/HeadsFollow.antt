-- In all rows a head is told just behind its token.
use Rattle.std.proofs.Common.{◌≡◌, ℕ, Bool, true, false, ◌&&◌, if◌then◌else◌, ◌==◌, List, [], ◌∷◌, ◌++◌, inl, inr, refl, sym, subst}
use Rattle.grammars.specs.Grammar.{Tok, Non, Do, Row, IsRow}
use Rattle.grammars.proofs.Bools.{and_left, and_right, both}
use Rattle.py_syntax.specs.Table as t
use Rattle.py_constructs.specs.Construct as c
use Rattle.py_constructs.specs.Construct.{Construct}
use Rattle.py_constructs.specs.Values.{Action, Own, Head, Hold, Forget, Plain, TellTargets, TellLoop, HoldSlice, Value, Widening}
use Rattle.py_constructs.specs.Table.{Name, Profile, Symbol, rows_of, number_of, Addition, to, widened, additions, added_to, widening_of, rows_with}
use Rattle.py_constructs.specs.Reached.{heads_follow}

abbrev are_headed : List (Row Name Action Value) → Bool
are_headed [] = true
are_headed (r ∷ rows) = heads_follow false r.symbols && are_headed rows

abbrev all_headed : List Addition → Bool
all_headed [] = true
all_headed (to x rows ∷ more) = are_headed rows && all_headed more
all_headed (widened w ∷ more) = all_headed more

own_headed : (w : Widening) (x : Name) → are_headed (rows_of w x) ≡ true
own_headed w (Profile t.Module) = refl
own_headed w _ = refl

additions_headed : (a : Construct) → all_headed (additions a) ≡ true
additions_headed c.Float = refl
additions_headed _ = refl

headed_both : (these those : List (Row Name Action Value)) → are_headed these ≡ true → are_headed those ≡ true → are_headed (these ++ those) ≡ true
headed_both [] those h k = k
headed_both (r ∷ these) those h k = both (heads_follow false r.symbols) _ (and_left _ _ h) (headed_both these those (and_right _ _ h) k)

added_headed : (n : ℕ) (more : List Addition) → all_headed more ≡ true → are_headed (added_to n more) ≡ true
added_headed n [] h = refl
added_headed n (to x rows ∷ more) h = go (number_of x == n) (added_headed n more (and_right _ _ h))
  where
    go : (b : Bool) → are_headed (added_to n more) ≡ true → are_headed (if b then rows ++ added_to n more else added_to n more) ≡ true
    go true later = headed_both rows (added_to n more) (and_left _ _ h) later
    go false later = later
added_headed n (widened w ∷ more) h = added_headed n more h

row_headed : (rows : List (Row Name Action Value)) (r : Row Name Action Value) → are_headed rows ≡ true → IsRow r rows → heads_follow false r.symbols ≡ true
row_headed [] r h i = absurd i
row_headed (q ∷ rows) r h (inl e) = subst (λ (y : Row Name Action Value). heads_follow false y.symbols ≡ true) (sym e) (and_left _ _ h)
row_headed (q ∷ rows) r h (inr i) = row_headed rows r (and_right _ _ h) i

pub headed_row : (a : Construct) (x : Name) (r : Row Name Action Value) → IsRow r (rows_with (additions a) x) → heads_follow false r.symbols ≡ true
headed_row a x r i =
    row_headed (rows_with (additions a) x) r (headed_both (rows_of (widening_of (additions a)) x) (added_to (number_of x) (additions a)) (own_headed (widening_of (additions a)) x) (added_headed (number_of x) (additions a) (additions_headed a))) i

-- a token before does no harm
pub headed_later : (symbols : List Symbol) → heads_follow false symbols ≡ true → heads_follow true symbols ≡ true
headed_later [] h = refl
headed_later (Tok k ∷ symbols) h = h
headed_later (Non x ∷ symbols) h = h
headed_later (Do Head ∷ symbols) h = absurd (cc)
headed_later (Do Hold ∷ symbols) h = h
headed_later (Do Forget ∷ symbols) h = h
headed_later (Do Plain ∷ symbols) h = h
headed_later (Do TellTargets ∷ symbols) h = absurd (cc)
headed_later (Do TellLoop ∷ symbols) h = absurd (cc)
headed_later (Do HoldSlice ∷ symbols) h = h
headed_later (Do (Own a) ∷ symbols) h = h

pub headed_joined : (just : Bool) (front symbols : List Symbol) → heads_follow just front ≡ true → heads_follow false symbols ≡ true → heads_follow just (front ++ symbols) ≡ true
headed_joined true [] symbols h k = headed_later symbols k
headed_joined false [] symbols h k = k
headed_joined just (Tok m ∷ front) symbols h k = headed_joined true front symbols h k
headed_joined just (Non x ∷ front) symbols h k = headed_joined false front symbols h k
headed_joined true (Do Head ∷ front) symbols h k = headed_joined false front symbols h k
headed_joined false (Do Head ∷ front) symbols h k = absurd (cc)
headed_joined just (Do Hold ∷ front) symbols h k = headed_joined false front symbols h k
headed_joined just (Do Forget ∷ front) symbols h k = headed_joined false front symbols h k
headed_joined just (Do Plain ∷ front) symbols h k = headed_joined false front symbols h k
headed_joined true (Do TellTargets ∷ front) symbols h k = headed_joined false front symbols h k
headed_joined false (Do TellTargets ∷ front) symbols h k = absurd (cc)
headed_joined true (Do TellLoop ∷ front) symbols h k = headed_joined false front symbols h k
headed_joined false (Do TellLoop ∷ front) symbols h k = absurd (cc)
headed_joined just (Do HoldSlice ∷ front) symbols h k = headed_joined false front symbols h k
headed_joined just (Do (Own a) ∷ front) symbols h k = headed_joined false front symbols h k
