-- Where an item that is closed is a target, and those before it are, the tuple is assigned to.
use Rattle.std.proofs.Common.{◌≡◌, ℕ, zero, suc, Bool, true, false, ◌&&◌, List, [], ◌∷◌, ◌++◌, Option, Some, None, sym, ap, ◌∙◌, subst, append_assoc}
use Rattle.grammars.specs.Grammar.{Tok, Non, Do, IsRow}
use Rattle.grammars.specs.Sets.{have_specimens}
use Rattle.grammars.proofs.Bools.{both, on_left}
use Rattle.py_tokens.specs.Token.{Place}
use Rattle.py_syntax.specs.Token.{Token}
use Rattle.py_syntax.specs.Build.{Parts, AddItem, act}
use Rattle.py_syntax.specs.Table.{Symbol, Nonterminal, row, rows, table, sets}
use Rattle.py_nesting.specs.Asked.{targets_last, target_last}
use Rattle.py_nesting.specs.Effects.{Effect, effect, effect_of, effect_add_item}
use Rattle.py_nesting.specs.Forms.{TupleForm, is_target}
use Rattle.py_nesting.specs.Outlines.{Event}
use Rattle.py_nesting.specs.Shapes.{ExprShape, Entry, entry, entries_of}
use Rattle.py_nesting.specs.Walk.{Demand, Whole, Assigned}
use Rattle.py_nesting.proofs.EffectsKept.{no_effect, effects_kept}
use Rattle.py_fronts.specs.AtFront.{AtFront}
use Rattle.py_fronts.specs.Fit.{Fit}
use Rattle.py_demands.specs.Closing.{closing, exactly_before, exactly}
use Rattle.py_demands.specs.Least.{Ask, OpenAtLeast, least}
use Rattle.py_demands.specs.Ready.{adds_to_none}
use Rattle.py_demands.specs.Turning.{is_tail, turning, with_effect, then_ends, ends, IsReached}
use Rattle.py_demands.specs.TurnedPaired.{are_within, AllPairedTurned}
use Rattle.py_demands.proofs.Closed.{sets_at}
use Rattle.py_demands.proofs.ExactRows.{exactly_joined}
use Rattle.py_demands.proofs.ReadingsLow.{open_targets}
use Rattle.py_demands.proofs.ReadSettled.{all_ranked, opens_top, top_targets}
use Rattle.py_demands.proofs.TargetsLeft.{targets_left}
use Rattle.py_demands.proofs.TurnedPaired.{turned_paired_law}
use Rattle.py_demands.proofs.Turning.{turning_law, other_row_law}
use Rattle.std.proofs.lemmas.Option.{same_Some}

pub ends_joined : (n : ℕ) (p : Place) (these symbols : List Symbol) (es fs : List Entry) → ends n p these es ≡ Some fs → ends n p (these ++ symbols) es ≡ ends n p symbols fs
ends_joined n p [] symbols es fs e = ap (ends n p symbols) (same_Some es fs e)
ends_joined n p (Tok k ∷ these) symbols es fs e = ends_joined n p these symbols _ fs e
ends_joined n p (Do a ∷ these) symbols es fs e = go (effect_of a es) e (λ new k. ends_joined n p these symbols new fs k)
  where
    go : (o : Option Effect) → with_effect (ends n p these) o ≡ Some fs → ((new : List Entry) → ends n p these new ≡ Some fs → ends n p (these ++ symbols) new ≡ ends n p symbols fs) → with_effect (ends n p (these ++ symbols)) o ≡ ends n p symbols fs
    go None k again = absurd (cc)
    go (Some (effect new events)) k again = again new k
ends_joined zero p (Non x ∷ these) symbols es fs e = absurd (cc)
ends_joined (suc n) p (Non x ∷ these) symbols es fs e = go (ends n p (closing x) es) e (λ new k. ends_joined (suc n) p these symbols new fs k)
  where
    go : (o : Option (List Entry)) → then_ends (ends (suc n) p these) o ≡ Some fs → ((new : List Entry) → ends (suc n) p these new ≡ Some fs → ends (suc n) p (these ++ symbols) new ≡ ends (suc n) p symbols fs)
        → then_ends (ends (suc n) p (these ++ symbols)) o ≡ ends (suc n) p symbols fs
    go None k again = absurd (cc)
    go (Some new) k again = again new k

-- the tuple behind the item
abbrev pub tuple_targets : List Entry → Bool
tuple_targets [] = false
tuple_targets (e ∷ es) = targets_last es

item_targets : (es new : List Entry) (events : List Event) → effect_add_item es ≡ Some (effect new events) → target_last es ≡ true → tuple_targets es ≡ true → (n : ℕ) (qs : List Ask) → open_targets (OpenAtLeast n ∷ qs) new ≡ true
item_targets (entry (ExprShape f k) b ∷ entry (ExprShape (TupleForm u) false) a ∷ es) new events e t s n qs =
    let is : entry (ExprShape (TupleForm (u && is_target f)) false) a ∷ es ≡ new = cc in
    subst (λ (l : List Entry). open_targets (OpenAtLeast n ∷ qs) l ≡ true) is (on_left (u && is_target f) (open_targets qs es) (both u (is_target f) s t))
item_targets es new events e t s n qs = no_effect e

-- what is asked of an item and its tuple, where the tuple is assigned to
pub item_turned : (front : List Token) (item above rest : List Symbol) (x : Nonterminal) (v w : Parts) (n : ℕ) (below qs : List Ask) (us ws : List Demand) (p : Place) → is_tail x ≡ true → are_within above ≡ true → adds_to_none above (Some qs) ≡ true
    → AtFront front [] ((item ++ Do AddItem ∷ above) ++ Non x ∷ rest) v → have_specimens table sets ((item ++ Do AddItem ∷ above) ++ Non x ∷ rest) ≡ true → have_specimens table (sets_at p) above ≡ true
    → least above (Some qs) ≡ Some (OpenAtLeast n ∷ below) → opens_top qs ≡ true → exactly (turning x ++ rest) (Some (Whole 0 ∷ [])) ≡ Some us → AllPairedTurned qs us
    → (zs : List Demand) → exactly above (Some us) ≡ Some zs → ends 100 p item (entries_of v) ≡ Some (entries_of w) → Fit (Do AddItem ∷ above ++ Non x ∷ rest) (entries_of w) → target_last (entries_of w) ≡ true → tuple_targets (entries_of w) ≡ true
    → ((ds : List Demand) → AllPairedTurned below ds → exactly item (Some (Whole n ∷ Assigned n ∷ ds)) ≡ Some ws) → IsReached front v ws p
item_turned front item above rest x v w n below qs us ws p tail within adds f k j e top u pairs zs there done fit target tuple item_is =
    let kept = effects_kept AddItem w (effect fit.0 fit.1) fit.2 in
    let some : open_targets (OpenAtLeast n ∷ below) (entries_of (act AddItem w)) ≡ true = ap (open_targets (OpenAtLeast n ∷ below)) kept.0 ∙ item_targets (entries_of w) fit.0 fit.1 fit.2 target tuple n below in
    let l = targets_left 100 p above (Non x ∷ rest) (act AddItem w) qs (OpenAtLeast n ∷ below) (all_ranked above) j within adds (subst (Fit (above ++ Non x ∷ rest)) (sym kept.0) fit.3) e some in
    let added : ends 100 p (Do AddItem ∷ above) (entries_of w) ≡ Some (entries_of l.left) = ap (with_effect (ends 100 p above)) fit.2 ∙ ap (ends 100 p above) (sym kept.0) ∙ l.ends_so in
    let all : ends 100 p (item ++ Do AddItem ∷ above) (entries_of v) ≡ Some (entries_of l.left) = ends_joined 100 p item (Do AddItem ∷ above) (entries_of v) (entries_of w) done ∙ added in
    let asked = exactly_joined item (Do AddItem ∷ above) (Some us) ∙ ap (λ (o : Option (List Demand)). exactly item (exactly_before (Do AddItem) o)) there in
    turning_law front (item ++ Do AddItem ∷ above) rest x v (entries_of l.left) us ws p 100 tail f k all (top_targets qs (entries_of l.left) top l.targets) u
    (asked ∙ with_tuple zs (turned_paired_law above qs (OpenAtLeast n ∷ below) us zs pairs within e there))
  where
    with_tuple : (zs : List Demand) → AllPairedTurned (OpenAtLeast n ∷ below) zs → exactly item (exactly_before (Do AddItem) (Some zs)) ≡ Some ws
    with_tuple [] h = absurd h
    with_tuple (Assigned m ∷ ds) h = subst (λ (i : ℕ). exactly item (Some (Whole i ∷ Assigned i ∷ ds)) ≡ Some ws) h.0 (item_is ds h.1)
    with_tuple (z ∷ ds) h = absurd h.0

-- And where one of its nonterminals gives way to another row than the closing one.
pub item_turned_by_row : (front : List Token) (first these last above rest : List Symbol) (y x : Nonterminal) (v w : Parts) (fs : List Entry) (n : ℕ) (below qs : List Ask) (us vs ws : List Demand) (p : Place) → IsRow (row these) (rows y) → is_tail x ≡ true
    → are_within above ≡ true → adds_to_none above (Some qs) ≡ true → AtFront front [] (first ++ (Non y ∷ (last ++ Do AddItem ∷ above) ++ Non x ∷ rest)) v
    → have_specimens table sets (first ++ (Non y ∷ (last ++ Do AddItem ∷ above) ++ Non x ∷ rest)) ≡ true → have_specimens table (sets_at p) above ≡ true
    → least above (Some qs) ≡ Some (OpenAtLeast n ∷ below) → opens_top qs ≡ true → exactly (turning x ++ rest) (Some (Whole 0 ∷ [])) ≡ Some us → AllPairedTurned qs us
    → (zs : List Demand) → exactly above (Some us) ≡ Some zs → ends 100 p first (entries_of v) ≡ Some fs → ends 100 p (these ++ last) fs ≡ Some (entries_of w) → Fit (Do AddItem ∷ above ++ Non x ∷ rest) (entries_of w)
    → target_last (entries_of w) ≡ true → tuple_targets (entries_of w) ≡ true
    → ((ds : List Demand) → AllPairedTurned below ds → exactly (these ++ last) (Some (Whole n ∷ Assigned n ∷ ds)) ≡ Some vs) → exactly first (Some vs) ≡ Some ws → IsReached front v ws p
item_turned_by_row front first these last above rest y x v w fs n below qs us vs ws p i tail within adds f k j e top u pairs zs there begun done fit target tuple item_is first_is =
    let kept = effects_kept AddItem w (effect fit.0 fit.1) fit.2 in
    let some : open_targets (OpenAtLeast n ∷ below) (entries_of (act AddItem w)) ≡ true = ap (open_targets (OpenAtLeast n ∷ below)) kept.0 ∙ item_targets (entries_of w) fit.0 fit.1 fit.2 target tuple n below in
    let l = targets_left 100 p above (Non x ∷ rest) (act AddItem w) qs (OpenAtLeast n ∷ below) (all_ranked above) j within adds (subst (Fit (above ++ Non x ∷ rest)) (sym kept.0) fit.3) e some in
    let added : ends 100 p (Do AddItem ∷ above) (entries_of w) ≡ Some (entries_of l.left) = ap (with_effect (ends 100 p above)) fit.2 ∙ ap (ends 100 p above) (sym kept.0) ∙ l.ends_so in
    let all : ends 100 p ((these ++ last) ++ Do AddItem ∷ above) fs ≡ Some (entries_of l.left) = ends_joined 100 p (these ++ last) (Do AddItem ∷ above) fs (entries_of w) done ∙ added in
    let same : (these ++ last) ++ Do AddItem ∷ above ≡ these ++ (last ++ Do AddItem ∷ above) = append_assoc these last (Do AddItem ∷ above) in
    let asked = exactly_joined (these ++ last) (Do AddItem ∷ above) (Some us) ∙ ap (λ (o : Option (List Demand)). exactly (these ++ last) (exactly_before (Do AddItem) o)) there in
    let found = asked ∙ with_tuple zs (turned_paired_law above qs (OpenAtLeast n ∷ below) us zs pairs within e there) in
    other_row_law front first these (last ++ Do AddItem ∷ above) rest y x v fs (entries_of l.left) us vs ws p 100 i tail f k begun (sym (ap (λ (s : List Symbol). ends 100 p s fs) same) ∙ all) (top_targets qs (entries_of l.left) top l.targets) u
    (sym (ap (λ (s : List Symbol). exactly s (Some us)) same) ∙ found) first_is
  where
    with_tuple : (zs : List Demand) → AllPairedTurned (OpenAtLeast n ∷ below) zs → exactly (these ++ last) (exactly_before (Do AddItem) (Some zs)) ≡ Some vs
    with_tuple [] h = absurd h
    with_tuple (Assigned m ∷ ds) h = subst (λ (i : ℕ). exactly (these ++ last) (Some (Whole i ∷ Assigned i ∷ ds)) ≡ Some vs) h.0 (item_is ds h.1)
    with_tuple (z ∷ ds) h = absurd h.0
