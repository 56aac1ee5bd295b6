-- Symbols that are closed leave what may be targets, where that is open before them.
use Rattle.std.proofs.Common.{◌≡◌, ℕ, zero, suc, nat_lt, ◌<◌, Bool, true, false, not, ◌&&◌, ◌||◌, ◌==◌, if◌then◌else◌, List, [], ◌∷◌, ◌++◌, map, Option, Some, None, ◌⊎◌, inl, inr, refl, sym, ap, ◌∙◌, subst, eqb-true, arith}
use Rattle.grammars.specs.Grammar.{Tok, Non, Do}
use Rattle.grammars.specs.Sets.{are_below, have_specimens}
use Rattle.grammars.proofs.Bools.{and_left, and_right, both, not_false, either, on_left, on_right}
use Rattle.py_tokens.specs.Token.{Place}
use Rattle.py_syntax.specs.Token.{Token, At}
use Rattle.py_syntax.specs.Kinds.{kind_at, kind_of}
use Rattle.py_syntax.specs.Build.{PToken, Parts, Action, AddItem, act}
use Rattle.py_syntax.specs.Table.{Symbol, Nonterminal, row, table, Module, SmallTail, AssignTail}
use Rattle.py_nesting.specs.Asked.{targets_last}
use Rattle.py_nesting.specs.Effects.{effect}
use Rattle.py_nesting.specs.Shapes.{Entry, entry_of, entries_of}
use Rattle.py_nesting.proofs.EffectsKept.{effects_kept}
use Rattle.py_fronts.specs.Fit.{Fit}
use Rattle.py_fronts.specs.Kinds.{fits, token_kind}
use Rattle.py_fronts.proofs.DerivedFit.{token_fits_so}
use Rattle.py_fronts.proofs.TableFits.{row_fits}
use Rattle.py_demands.specs.Closing.{closing}
use Rattle.py_demands.specs.Least.{Ask, NoNode, AtLeast, WithinAtLeast, OpenAtLeast, ask_least, low, before_symbol, before, least}
use Rattle.py_demands.specs.Paired.{is_open}
use Rattle.py_demands.specs.Ready.{adds_to_open, adds_to_none}
use Rattle.py_demands.specs.Turning.{is_tail, with_effect, then_ends, ends}
use Rattle.py_demands.specs.TurnedPaired.{begins_targets, are_within}
use Rattle.py_demands.proofs.Closed.{sets_at, anywhere}
use Rattle.py_demands.proofs.LowRows.{least_frame}
use Rattle.py_demands.proofs.Passing.{adds_items, action_passed}
use Rattle.py_demands.proofs.ReadingsLow.{adds_first, open_targets}
use Rattle.py_demands.proofs.RowsClose.{is_row, closing_rank, closing_sets, closed_below, closed_by_specimens}
use Rattle.py_demands.proofs.Steps.{asks_behind}
use Rattle.std.proofs.lemmas.Bool.{lt-ltb, ltb-true}
use Rattle.std.proofs.lemmas.Option.{same_Some}

-- what is asked as a whole or as targets is the same in both
abbrev are_open_alike : List Ask → List Ask → Bool
are_open_alike [] [] = true
are_open_alike (q ∷ qs) (r ∷ rs) = (if is_open q then is_open r else not (is_open r)) && are_open_alike qs rs
are_open_alike qs rs = false

abbrev is_open_alike : List Ask → Option (List Ask) → Bool
is_open_alike qs None = false
is_open_alike qs (Some rs) = are_open_alike qs rs

closing_alike : (x : Nonterminal) (q : Ask) → is_tail x ≡ false → is_open_alike (map (ask_least q) (low x)) (least (closing x) (Some (q ∷ []))) ≡ true
closing_alike SmallTail q h = absurd (cc)
closing_alike AssignTail q h = absurd (cc)
closing_alike _ NoNode h = refl
closing_alike _ (AtLeast n) h = refl
closing_alike _ (WithinAtLeast n) h = refl
closing_alike _ (OpenAtLeast n) h = refl

open_so : (qs rs cs : List Ask) (es : List Entry) → are_open_alike qs rs ≡ true → open_targets (qs ++ cs) es ≡ true → open_targets (rs ++ cs) es ≡ true
open_so [] [] cs es a h = h
open_so [] (r ∷ rs) cs es a h = absurd (cc)
open_so (q ∷ qs) [] cs es a h = absurd (cc)
open_so (q ∷ qs) (r ∷ rs) cs [] a h = absurd (cc)
open_so (q ∷ qs) (r ∷ rs) cs (e ∷ es) a h =
    go (is_open q) (is_open r) (and_left (if is_open q then is_open r else not (is_open r)) (are_open_alike qs rs) a) h
    (λ k. open_so qs rs cs es (and_right (if is_open q then is_open r else not (is_open r)) (are_open_alike qs rs) a) k)
  where
    go : (b c : Bool) → (if b then c else not c) ≡ true → ((b && targets_last (e ∷ [])) || open_targets (qs ++ cs) es) ≡ true → (open_targets (qs ++ cs) es ≡ true → open_targets (rs ++ cs) es ≡ true)
        → ((c && targets_last (e ∷ [])) || open_targets (rs ++ cs) es) ≡ true
    go true true i h again = further (either (targets_last (e ∷ [])) (open_targets (qs ++ cs) es) h)
      where
        further : (targets_last (e ∷ []) ≡ true) ⊎ (open_targets (qs ++ cs) es ≡ true) → (targets_last (e ∷ []) || open_targets (rs ++ cs) es) ≡ true
        further (inl k) = on_left (targets_last (e ∷ [])) (open_targets (rs ++ cs) es) k
        further (inr k) = on_right (targets_last (e ∷ [])) (open_targets (rs ++ cs) es) (again k)
    go false false i h again = again h
    go true false i h again = absurd (cc)
    go false true i h again = absurd (cc)

pub closing_within : (x : Nonterminal) → are_within (closing x) ≡ true
closing_within Module = refl
closing_within _ = refl

abbrev adds_nothing : List Symbol → Bool
adds_nothing [] = true
adds_nothing (Tok k ∷ symbols) = adds_nothing symbols
adds_nothing (Non x ∷ symbols) = adds_nothing symbols
adds_nothing (Do a ∷ symbols) = not (adds_items a) && adds_nothing symbols

closing_adds : (x : Nonterminal) → adds_nothing (closing x) ≡ true
closing_adds Module = refl
closing_adds _ = refl

adds_no : (a : Action) (o : Option (List Ask)) → not (adds_items a) ≡ true → not (adds_to_open a o) ≡ true
adds_no AddItem o h = absurd (cc)
adds_no a o h = refl

adds_so : (symbols : List Symbol) (o : Option (List Ask)) → adds_nothing symbols ≡ true → adds_to_none symbols o ≡ true
adds_so [] o h = refl
adds_so (Tok k ∷ symbols) o h = adds_so symbols o h
adds_so (Non x ∷ symbols) o h = adds_so symbols o h
adds_so (Do a ∷ symbols) o h = both (not (adds_to_open a (least symbols o))) (adds_to_none symbols o) (adds_no a (least symbols o) (and_left (not (adds_items a)) (adds_nothing symbols) h)) (adds_so symbols o (and_right (not (adds_items a)) (adds_nothing symbols) h))

lt_before : (a b c : ℕ) → nat_lt a b ≡ true → nat_lt b (suc c) ≡ true → nat_lt a c ≡ true
lt_before a b c h k = let l : a < b = ltb-true a b h in let m : b < suc c = ltb-true b (suc c) k in lt-ltb a c (omega arith)

pub below_more : (symbols : List Symbol) (m n : ℕ) → nat_lt m (suc n) ≡ true → are_below closing_sets m symbols ≡ true → are_below closing_sets n symbols ≡ true
below_more [] m n l h = refl
below_more (Tok k ∷ symbols) m n l h = below_more symbols m n l h
below_more (Do a ∷ symbols) m n l h = below_more symbols m n l h
below_more (Non x ∷ symbols) m n l h =
    both (nat_lt (closing_rank x) n) (are_below closing_sets n symbols) (lt_before (closing_rank x) m n (and_left (nat_lt (closing_rank x) m) (are_below closing_sets m symbols) h) l) (below_more symbols m n l (and_right (nat_lt (closing_rank x) m) (are_below closing_sets m symbols) h))

pub record Left (n : ℕ) (p : Place) (symbols more : List Symbol) (v : Parts) (qs : List Ask) : Type 0 where
  pub left : Parts
  pub ends_so : ends n p symbols (entries_of v) ≡ Some (entries_of left)
  pub fit : Fit more (entries_of left)
  pub targets : open_targets qs (entries_of left) ≡ true

within_rest : (s : Symbol) (symbols : List Symbol) → are_within (s ∷ symbols) ≡ true → are_within symbols ≡ true
within_rest (Tok k) symbols h = h
within_rest (Non x) symbols h = and_right (not (is_tail x)) (are_within symbols) h
within_rest (Do a) symbols h = and_right (not (begins_targets a)) (are_within symbols) h

pub targets_left : (n : ℕ) (p : Place) (symbols more : List Symbol) (v : Parts) (qs asks : List Ask) → are_below closing_sets n symbols ≡ true → have_specimens table (sets_at p) symbols ≡ true → are_within symbols ≡ true
    → adds_to_none symbols (Some qs) ≡ true → Fit (symbols ++ more) (entries_of v) → least symbols (Some qs) ≡ Some asks → open_targets asks (entries_of v) ≡ true → Left n p symbols more v qs
targets_left n p [] more v qs asks r k w a f e h = record { left = v; ends_so = refl; fit = f; targets = ap (λ (l : List Ask). open_targets l (entries_of v)) (same_Some qs asks e) ∙ h }
targets_left n p (Tok j ∷ symbols) more v qs asks r k w a f e h =
    let t : Token = At p (kind_at j) in
    let kind : kind_of t ≡ j = eqb-true _ _ (and_left (kind_of t == j) (have_specimens table (sets_at p) symbols) k) in
    let b = asks_behind (Tok j) symbols (Some qs) asks e in
    let l = targets_left n p symbols more (PToken t ∷ v) qs b.0 r (and_right (kind_of t == j) (have_specimens table (sets_at p) symbols) k) w a
    (f (entry_of (PToken t)) (subst (λ (m : ℕ). fits (token_kind m) (entry_of (PToken t)) ≡ true) kind (token_fits_so t))) b.1 (go b.0 (sym (ap (before (Tok j)) b.1) ∙ e)) in
    record { left = l.left; ends_so = l.ends_so; fit = l.fit; targets = l.targets }
  where
    go : (rs : List Ask) → before_symbol (Tok j) rs ≡ Some asks → open_targets rs (entries_of (PToken (At p (kind_at j)) ∷ v)) ≡ true
    go [] i = absurd (cc)
    go (q ∷ rs) i = on_right (is_open q && targets_last (entry_of (PToken (At p (kind_at j))) ∷ [])) (open_targets rs (entries_of v)) (ap (λ (l : List Ask). open_targets l (entries_of v)) (same_Some rs asks i) ∙ h)
targets_left n p (Do c ∷ symbols) more v qs asks r k w a f e h =
    let kept = effects_kept c v (effect f.0 f.1) f.2 in
    let b = asks_behind (Do c) symbols (Some qs) asks e in
    let fair = adds_first (Do c) symbols qs b.0 a b.1 in
    let passed = action_passed c (entries_of v) f.0 f.1 b.0 asks (not_false (begins_targets c) (and_left (not (begins_targets c)) (are_within symbols) w)) (and_left (not (adds_to_open c (Some b.0))) true fair.0) f.2 (sym (ap (before (Do c)) b.1) ∙ e) h in
    let l = targets_left n p symbols more (act c v) qs b.0 r k (within_rest (Do c) symbols w) fair.1 (subst (Fit (symbols ++ more)) (sym kept.0) f.3) b.1 (ap (open_targets b.0) kept.0 ∙ passed) in
    record { left = l.left; ends_so = ap (with_effect (ends n p symbols)) f.2 ∙ ap (ends n p symbols) (sym kept.0) ∙ l.ends_so; fit = l.fit; targets = l.targets }
targets_left zero p (Non x ∷ symbols) more v qs asks r k w a f e h = let l : closing_rank x < 0 = ltb-true (closing_rank x) 0 (and_left (nat_lt (closing_rank x) 0) (are_below closing_sets 0 symbols) r) in absurd (omega arith)
targets_left (suc n) p (Non x ∷ symbols) more v qs asks r k w a f e h =
    let b = asks_behind (Non x) symbols (Some qs) asks e in
    at_row b.0 b.1 (sym (ap (before (Non x)) b.1) ∙ e)
    (λ q cs rs i o. targets_left n p (closing x) (symbols ++ more) v (q ∷ cs) rs (below_more (closing x) (closing_rank x) n (and_left (nat_lt (closing_rank x) (suc n)) (are_below closing_sets (suc n) symbols) r) (closed_below x)) (anywhere p (closing x) (closed_by_specimens x)) (closing_within x)
    (adds_so (closing x) (Some (q ∷ cs)) (closing_adds x)) (row_fits x (row (closing x)) v (symbols ++ more) (is_row x) refl f.0 f.1) i o)
    (λ rs u g i o. targets_left (suc n) p symbols more u qs rs (and_right (nat_lt (closing_rank x) (suc n)) (are_below closing_sets (suc n) symbols) r) k (within_rest (Non x) symbols w) a g i o)
  where
    at_row : (rs : List Ask) → least symbols (Some qs) ≡ Some rs → before_symbol (Non x) rs ≡ Some asks
        → ((q : Ask) (cs others : List Ask) → least (closing x) (Some (q ∷ cs)) ≡ Some others → open_targets others (entries_of v) ≡ true → Left n p (closing x) (symbols ++ more) v (q ∷ cs))
        → ((rs : List Ask) (u : Parts) → Fit (symbols ++ more) (entries_of u) → least symbols (Some qs) ≡ Some rs → open_targets rs (entries_of u) ≡ true → Left (suc n) p symbols more u qs) → Left (suc n) p (Non x ∷ symbols) more v qs
    at_row [] i j close again = absurd (cc)
    at_row (q ∷ cs) i j close again = at_closing (least (closing x) (Some (q ∷ []))) refl (closing_alike x q (not_false (is_tail x) (and_left (not (is_tail x)) (are_within symbols) w)))
      where
        at_closing : (o : Option (List Ask)) → least (closing x) (Some (q ∷ [])) ≡ o → is_open_alike (map (ask_least q) (low x)) o ≡ true → Left (suc n) p (Non x ∷ symbols) more v qs
        at_closing None o l = absurd (cc)
        at_closing (Some others) o l =
            let there : open_targets (map (ask_least q) (low x) ++ cs) (entries_of v) ≡ true = ap (λ (l : List Ask). open_targets l (entries_of v)) (same_Some (map (ask_least q) (low x) ++ cs) asks j) ∙ h in
            let c = close q cs (others ++ cs) (least_frame (closing x) (q ∷ []) others cs o) (open_so (map (ask_least q) (low x)) others cs (entries_of v) l there) in
            let d = again (q ∷ cs) c.left c.fit i c.targets in
            record { left = d.left; ends_so = ap (then_ends (ends (suc n) p symbols)) c.ends_so ∙ d.ends_so; fit = d.fit; targets = d.targets }
