-- How the symbols behind a front stand, step by step.
use Rattle.std.proofs.Common.{◌≡◌, ℕ, Bool, true, false, not, ◌&&◌, if◌then◌else◌, List, [], ◌∷◌, ◌++◌, map, Option, Some, None, ◌⊎◌, inl, inr, refl, sym, ap, ◌∙◌, subst, append_assoc}
use Rattle.grammars.specs.Grammar.{Tok, Non, Do, Row, IsRow}
use Rattle.grammars.proofs.Bools.{and_left, and_right, both}
use Rattle.py_syntax.specs.Token.{Token}
use Rattle.py_syntax.specs.Build.{Parts, Action, AddItem}
use Rattle.py_syntax.specs.Table.{Symbol, Nonterminal, rows, Module, ItemMore, ItemNext, Expression, AnyName}
use Rattle.py_demands.specs.Aimed.{ItemAsks}
use Rattle.py_demands.specs.Aims.{Aim, Simply, Targets, Target, aims_before, aimed, may_aim, may_aim_first, are_aimable}
use Rattle.py_demands.specs.Least.{Ask, NoNode, AtLeast, WithinAtLeast, OpenAtLeast, before, least, may_ask_first, are_askable}
use Rattle.py_demands.specs.Ready.{begins_row, are_calm, are_calm_below, are_calm_soon, IsMore, is_inner, makes_targets, are_inner, are_quiet, are_single, adds_to_open, adds_to_none, Itemed, ReadyBeginning, ReadyOverAction, ReadyOverToken, ReadyOverRow, ReadyLaw}
use Rattle.py_demands.specs.Turning.{is_tail}
use Rattle.py_demands.specs.TurnedPaired.{none_open}
use Rattle.py_demands.proofs.AimRows.{aims_row, aimed_frame, aimed_joined}
use Rattle.py_demands.proofs.FewOpen.{few_kept}
use Rattle.py_demands.proofs.ItemSteps.{begins_so, first_so, item_row_so, aims_first}

pub ready_at_beginning : ReadyBeginning
ready_at_beginning front = record { calm = inl refl; single = refl; shaped = inl refl }

-- calm symbols stay so
pub calm_so : (symbols : List Symbol) → are_calm symbols ≡ true → are_calm_below symbols ≡ true
calm_so [] h = refl
calm_so (Tok k ∷ symbols) h = h
calm_so (Non x ∷ symbols) h = h
calm_so (Do a ∷ symbols) h = and_right (not (begins_row a)) (are_calm symbols) h

soon_so : (symbols : List Symbol) → are_calm symbols ≡ true → are_calm_soon symbols ≡ true
soon_so [] h = refl
soon_so (Tok k ∷ symbols) h = calm_so symbols h
soon_so (Do a ∷ symbols) h = and_right (not (begins_row a)) (are_calm symbols) h
soon_so (Non AnyName ∷ symbols) h = calm_so symbols h
soon_so (Non x ∷ symbols) h = h

calm_joined : (these symbols : List Symbol) → are_calm these ≡ true → are_calm symbols ≡ true → are_calm (these ++ symbols) ≡ true
calm_joined [] symbols h k = k
calm_joined (Tok j ∷ these) symbols h k = calm_joined these symbols h k
calm_joined (Non x ∷ these) symbols h k = calm_joined these symbols h k
calm_joined (Do a ∷ these) symbols h k = both (not (begins_row a)) (are_calm (these ++ symbols)) (and_left (not (begins_row a)) (are_calm these) h) (calm_joined these symbols (and_right (not (begins_row a)) (are_calm these) h) k)

below_joined : (these symbols : List Symbol) → are_calm_below these ≡ true → are_calm symbols ≡ true → are_calm_below (these ++ symbols) ≡ true
below_joined [] symbols h k = calm_so symbols k
below_joined (Tok j ∷ these) symbols h k = calm_joined these symbols h k
below_joined (Non x ∷ these) symbols h k = calm_joined these symbols h k
below_joined (Do a ∷ these) symbols h k = calm_joined these symbols h k

soon_joined : (these symbols : List Symbol) → are_calm_soon these ≡ true → are_calm symbols ≡ true → are_calm_soon (these ++ symbols) ≡ true
soon_joined [] symbols h k = soon_so symbols k
soon_joined (Tok j ∷ these) symbols h k = below_joined these symbols h k
soon_joined (Do a ∷ these) symbols h k = calm_joined these symbols h k
soon_joined (Non AnyName ∷ these) symbols h k = below_joined these symbols h k
soon_joined (Non x ∷ these) symbols h k = calm_joined these symbols h k

abbrev rows_are_calm : List (Row Nonterminal Action Parts) → Bool
rows_are_calm [] = true
rows_are_calm (r ∷ these) = are_calm_soon r.symbols && rows_are_calm these

all_calm : (x : Nonterminal) → rows_are_calm (rows x) ≡ true
all_calm Module = refl
all_calm _ = refl

row_calm : (r : Row Nonterminal Action Parts) (these : List (Row Nonterminal Action Parts)) → rows_are_calm these ≡ true → IsRow r these → are_calm_soon r.symbols ≡ true
row_calm r [] h i = absurd i
row_calm r (q ∷ these) h (inl e) = ap (λ (s : Row Nonterminal Action Parts). are_calm_soon s.symbols) e ∙ and_left (are_calm_soon q.symbols) (rows_are_calm these) h
row_calm r (q ∷ these) h (inr i) = row_calm r these (and_right (are_calm_soon q.symbols) (rows_are_calm these) h) i

-- a name is one token
name_rows : (r : Row Nonterminal Action Parts) → IsRow r (rows AnyName) → (k : ℕ) × (r.symbols ≡ Tok k ∷ [])
name_rows r (inl e) = (_, ap (λ (s : Row Nonterminal Action Parts). s.symbols) e)
name_rows r (inr (inl e)) = (_, ap (λ (s : Row Nonterminal Action Parts). s.symbols) e)
name_rows r (inr (inr i)) = absurd i

soon_before : (x : Nonterminal) (symbols : List Symbol) → are_calm_soon (Non x ∷ symbols) ≡ true → (x ≡ AnyName) × (are_calm_below symbols ≡ true) ⊎ (are_calm symbols ≡ true)
soon_before AnyName symbols h = inl (refl, h)
soon_before x symbols h = inr h

over_row_calm : (x : Nonterminal) (r : Row Nonterminal Action Parts) (symbols : List Symbol) → IsRow r (rows x) → are_calm_soon (Non x ∷ symbols) ≡ true → are_calm_soon (r.symbols ++ symbols) ≡ true
over_row_calm x r symbols i h = go (soon_before x symbols h)
  where
    go : (x ≡ AnyName) × (are_calm_below symbols ≡ true) ⊎ (are_calm symbols ≡ true) → are_calm_soon (r.symbols ++ symbols) ≡ true
    go (inl (is, k)) = let n = name_rows r (subst (λ (y : Nonterminal). IsRow r (rows y)) is i) in ap (λ (l : List Symbol). are_calm_soon (l ++ symbols)) n.1 ∙ k
    go (inr k) = soon_joined r.symbols symbols (row_calm r (rows x) (all_calm x) i) k

soon_at_row : (x : Nonterminal) (symbols : List Symbol) (ahead : List Token) → (are_calm_below (Non x ∷ symbols) ≡ true) ⊎ ((are_calm_soon (Non x ∷ symbols) ≡ true) × IsMore ahead) → are_calm_soon (Non x ∷ symbols) ≡ true
soon_at_row x symbols ahead (inl h) = soon_so (Non x ∷ symbols) h
soon_at_row x symbols ahead (inr h) = h.0

-- one thing behind an expression stays one
abbrev row_is_single : Nonterminal → Row Nonterminal Action Parts → Bool
row_is_single x r = if is_inner x then are_inner r.symbols else are_single r.symbols

abbrev rows_are_single : Nonterminal → List (Row Nonterminal Action Parts) → Bool
rows_are_single x [] = true
rows_are_single x (r ∷ these) = row_is_single x r && rows_are_single x these

all_single : (x : Nonterminal) → rows_are_single x (rows x) ≡ true
all_single Module = refl
all_single _ = refl

row_single : (x : Nonterminal) (r : Row Nonterminal Action Parts) (these : List (Row Nonterminal Action Parts)) → rows_are_single x these ≡ true → IsRow r these → row_is_single x r ≡ true
row_single x r [] h i = absurd i
row_single x r (q ∷ these) h (inl e) = ap (row_is_single x) e ∙ and_left (row_is_single x q) (rows_are_single x these) h
row_single x r (q ∷ these) h (inr i) = row_single x r these (and_right (row_is_single x q) (rows_are_single x these) h) i

inner_joined : (these symbols : List Symbol) → are_inner these ≡ true → are_inner symbols ≡ true → are_inner (these ++ symbols) ≡ true
inner_joined [] symbols h k = k
inner_joined (Tok j ∷ these) symbols h k = inner_joined these symbols h k
inner_joined (Non x ∷ these) symbols h k = both (is_inner x) (are_inner (these ++ symbols)) (and_left (is_inner x) (are_inner these) h) (inner_joined these symbols (and_right (is_inner x) (are_inner these) h) k)
inner_joined (Do a ∷ these) symbols h k =
    both (not (makes_targets a)) (are_inner (these ++ symbols)) (and_left (not (makes_targets a)) (are_inner these) h) (inner_joined these symbols (and_right (not (makes_targets a)) (are_inner these) h) k)

pub inner_row : (x : Nonterminal) (r : Row Nonterminal Action Parts) → is_inner x ≡ true → IsRow r (rows x) → are_inner r.symbols ≡ true
inner_row x r h i = sym (ap (λ (b : Bool). if b then are_inner r.symbols else are_single r.symbols) h) ∙ row_single x r (rows x) (all_single x) i

single_behind_inner : (these symbols : List Symbol) → are_inner these ≡ true → are_single symbols ≡ true → are_single (these ++ symbols) ≡ true
single_behind_inner [] symbols h k = k
single_behind_inner (Tok j ∷ these) symbols h k = single_behind_inner these symbols h k
single_behind_inner (Non x ∷ these) symbols h k =
    ap (λ (b : Bool). if b then are_single (these ++ symbols) else are_quiet (these ++ symbols)) (and_left (is_inner x) (are_inner these) h) ∙ single_behind_inner these symbols (and_right (is_inner x) (are_inner these) h) k
single_behind_inner (Do a ∷ these) symbols h k = single_behind_inner these symbols (and_right (not (makes_targets a)) (are_inner these) h) k

pub single_rest : (these symbols : List Symbol) → are_inner these ≡ true → are_single (these ++ symbols) ≡ true → are_single symbols ≡ true
single_rest [] symbols h k = k
single_rest (Tok j ∷ these) symbols h k = single_rest these symbols h k
single_rest (Non x ∷ these) symbols h k =
    single_rest these symbols (and_right (is_inner x) (are_inner these) h) (sym (ap (λ (b : Bool). if b then are_single (these ++ symbols) else are_quiet (these ++ symbols)) (and_left (is_inner x) (are_inner these) h)) ∙ k)
single_rest (Do a ∷ these) symbols h k = single_rest these symbols (and_right (not (makes_targets a)) (are_inner these) h) k

quiet_joined : (these symbols : List Symbol) → are_quiet these ≡ true → are_quiet symbols ≡ true → are_quiet (these ++ symbols) ≡ true
quiet_joined [] symbols h k = k
quiet_joined (Tok j ∷ these) symbols h k = quiet_joined these symbols h k
quiet_joined (Non x ∷ these) symbols h k = both (not (is_tail x)) (are_quiet (these ++ symbols)) (and_left (not (is_tail x)) (are_quiet these) h) (quiet_joined these symbols (and_right (not (is_tail x)) (are_quiet these) h) k)
quiet_joined (Do a ∷ these) symbols h k = quiet_joined these symbols h k

quiet_single : (symbols : List Symbol) → are_quiet symbols ≡ true → are_single symbols ≡ true
quiet_single [] h = refl
quiet_single (Tok k ∷ symbols) h = quiet_single symbols h
quiet_single (Do a ∷ symbols) h = quiet_single symbols h
quiet_single (Non x ∷ symbols) h = go (is_inner x) (quiet_single symbols (and_right (not (is_tail x)) (are_quiet symbols) h))
  where
    go : (b : Bool) → are_single symbols ≡ true → (if b then are_single symbols else are_quiet symbols) ≡ true
    go true k = k
    go false k = and_right (not (is_tail x)) (are_quiet symbols) h

single_before_quiet : (these symbols : List Symbol) → are_single these ≡ true → are_quiet symbols ≡ true → are_single (these ++ symbols) ≡ true
single_before_quiet [] symbols h k = quiet_single symbols k
single_before_quiet (Tok j ∷ these) symbols h k = single_before_quiet these symbols h k
single_before_quiet (Do a ∷ these) symbols h k = single_before_quiet these symbols h k
single_before_quiet (Non x ∷ these) symbols h k = go (is_inner x) h (λ l. single_before_quiet these symbols l k)
  where
    go : (b : Bool) → (if b then are_single these else are_quiet these) ≡ true → (are_single these ≡ true → are_single (these ++ symbols) ≡ true) → (if b then are_single (these ++ symbols) else are_quiet (these ++ symbols)) ≡ true
    go true l again = again l
    go false l again = quiet_joined these symbols l k

over_row_single : (x : Nonterminal) (r : Row Nonterminal Action Parts) (symbols : List Symbol) → IsRow r (rows x) → are_single (Non x ∷ symbols) ≡ true → are_single (r.symbols ++ symbols) ≡ true
over_row_single x r symbols i h = go (is_inner x) (row_single x r (rows x) (all_single x) i) h
  where
    go : (b : Bool) → (if b then are_inner r.symbols else are_single r.symbols) ≡ true → (if b then are_single symbols else are_quiet symbols) ≡ true → are_single (r.symbols ++ symbols) ≡ true
    go true k l = single_behind_inner r.symbols symbols k l
    go false k l = single_before_quiet r.symbols symbols k l

pub inner_rest : (s : Symbol) (symbols : List Symbol) → are_inner (s ∷ symbols) ≡ true → are_inner symbols ≡ true
inner_rest (Tok k) symbols h = h
inner_rest (Non x) symbols h = and_right (is_inner x) (are_inner symbols) h
inner_rest (Do a) symbols h = and_right (not (makes_targets a)) (are_inner symbols) h

abbrev adds_nothing : List Symbol → Bool
adds_nothing [] = true
adds_nothing (Tok k ∷ symbols) = adds_nothing symbols
adds_nothing (Non x ∷ symbols) = adds_nothing symbols
adds_nothing (Do AddItem ∷ symbols) = false
adds_nothing (Do a ∷ symbols) = adds_nothing symbols

adds_first : (a : Action) (symbols : List Symbol) (o : Option (List Ask)) → adds_nothing (Do a ∷ symbols) ≡ true → (adds_to_open a o ≡ false) × (adds_nothing symbols ≡ true)
adds_first AddItem symbols o h = absurd (cc)
adds_first a symbols o h = (refl, h)

adds_joined : (these symbols : List Symbol) (o : Option (List Ask)) → adds_nothing these ≡ true → adds_to_none symbols o ≡ true → adds_to_none (these ++ symbols) o ≡ true
adds_joined [] symbols o h k = k
adds_joined (Tok j ∷ these) symbols o h k = adds_joined these symbols o h k
adds_joined (Non x ∷ these) symbols o h k = adds_joined these symbols o h k
adds_joined (Do a ∷ these) symbols o h k =
    let f = adds_first a these (least (these ++ symbols) o) h in
    both (not (adds_to_open a (least (these ++ symbols) o))) (adds_to_none (these ++ symbols) o) (ap not f.0) (adds_joined these symbols o f.1 k)

abbrev rows_add_nothing : List (Row Nonterminal Action Parts) → Bool
rows_add_nothing [] = true
rows_add_nothing (r ∷ these) = adds_nothing r.symbols && rows_add_nothing these

row_adds_nothing : (r : Row Nonterminal Action Parts) (these : List (Row Nonterminal Action Parts)) → rows_add_nothing these ≡ true → IsRow r these → adds_nothing r.symbols ≡ true
row_adds_nothing r [] h i = absurd i
row_adds_nothing r (q ∷ these) h (inl e) = ap (λ (s : Row Nonterminal Action Parts). adds_nothing s.symbols) e ∙ and_left (adds_nothing q.symbols) (rows_add_nothing these) h
row_adds_nothing r (q ∷ these) h (inr i) = row_adds_nothing r these (and_right (adds_nothing q.symbols) (rows_add_nothing these) h) i

-- one nonterminal alone reads an item
item_or_nothing : (x : Nonterminal) → (x ≡ ItemMore) ⊎ (rows_add_nothing (rows x) ≡ true)
item_or_nothing ItemMore = inl refl
item_or_nothing _ = inr refl

abbrev ItemRow : List Symbol → Type 0
ItemRow symbols = (symbols ≡ []) ⊎ (symbols ≡ Non Expression ∷ Do AddItem ∷ Non ItemNext ∷ [])

item_rows : (r : Row Nonterminal Action Parts) → IsRow r (rows ItemMore) → ItemRow r.symbols
item_rows r (inl e) = inl (ap (λ (s : Row Nonterminal Action Parts). s.symbols) e)
item_rows r (inr (inl e)) = inr (ap (λ (s : Row Nonterminal Action Parts). s.symbols) e)
item_rows r (inr (inr i)) = absurd i

abbrev Shaped : List Symbol → Type 0
Shaped symbols = (adds_to_none symbols (Some (AtLeast 0 ∷ [])) ≡ true) ⊎ Itemed symbols

shaped_action : (a : Action) (symbols : List Symbol) → Shaped (Do a ∷ symbols) → Shaped symbols
shaped_action a symbols (inl h) = inl (and_right (not (adds_to_open a (least symbols (Some (AtLeast 0 ∷ []))))) (adds_to_none symbols (Some (AtLeast 0 ∷ []))) h)
shaped_action a symbols (inr i) = go i.item i.symbols_are i.asks i.alone i.alone_are i.inner i.none_open_below
  where
    go : (item : List Symbol) → Do a ∷ symbols ≡ item ++ Do AddItem ∷ i.rest → (k : ItemAsks item i.rest) (alone : List Aim) → aimed item (Some (Target k.above ∷ [])) ≡ Some alone → are_inner item ≡ true
        → none_open k.below ≡ true → Shaped symbols
    go [] is k alone alone_are inner none = let same : symbols ≡ i.rest = cc in inl (ap (λ (l : List Symbol). adds_to_none l (Some (AtLeast 0 ∷ []))) same ∙ i.rest_settled)
    go (s ∷ item) is k alone alone_are inner none =
        let same : symbols ≡ item ++ Do AddItem ∷ i.rest = cc in
        let f = aims_first s item (Some (Target k.above ∷ [])) alone alone_are in
        let j = first_so s item i.rest k in
        inr (
        record {
          item = item;
          rest = i.rest;
          symbols_are = same;
          asks = j.0;
          alone = f.0;
          alone_are = ap (λ (n : ℕ). aimed item (Some (Target n ∷ []))) j.1 ∙ f.1;
          inner = inner_rest s item inner;
          none_open_below = ap none_open j.2 ∙ none;
          rest_calm = i.rest_calm;
          rest_settled = i.rest_settled;
        })

shaped_token : (k : ℕ) (symbols : List Symbol) → Shaped (Tok k ∷ symbols) → Shaped symbols
shaped_token n symbols (inl h) = inl h
shaped_token n symbols (inr i) = go i.item i.symbols_are i.asks i.alone i.alone_are i.inner i.none_open_below
  where
    go : (item : List Symbol) → Tok n ∷ symbols ≡ item ++ Do AddItem ∷ i.rest → (k : ItemAsks item i.rest) (alone : List Aim) → aimed item (Some (Target k.above ∷ [])) ≡ Some alone → are_inner item ≡ true
        → none_open k.below ≡ true → Shaped symbols
    go [] is k alone alone_are inner none = absurd (cc)
    go (s ∷ item) is k alone alone_are inner none =
        let same : symbols ≡ item ++ Do AddItem ∷ i.rest = cc in
        let f = aims_first s item (Some (Target k.above ∷ [])) alone alone_are in
        let j = first_so s item i.rest k in
        inr (
        record {
          item = item;
          rest = i.rest;
          symbols_are = same;
          asks = j.0;
          alone = f.0;
          alone_are = ap (λ (n : ℕ). aimed item (Some (Target n ∷ []))) j.1 ∙ f.1;
          inner = inner_rest s item inner;
          none_open_below = ap none_open j.2 ∙ none;
          rest_calm = i.rest_calm;
          rest_settled = i.rest_settled;
        })

-- what is asked of the item alone, when a row is taken
alone_row : (x : Nonterminal) (r : Row Nonterminal Action Parts) (item : List Symbol) (n : ℕ) (cs alone : List Aim) → IsRow r (rows x) → may_aim_first x (aimed item (Some (Target n ∷ cs))) ≡ true
    → aimed (Non x ∷ item) (Some (Target n ∷ [])) ≡ Some alone → (others : List Aim) × (aimed (r.symbols ++ item) (Some (Target n ∷ [])) ≡ Some others)
alone_row x r item n cs alone i m e = let f = aims_first (Non x) item (Some (Target n ∷ [])) alone e in go f.0 f.1
  where
    go : (others : List Aim) → aimed item (Some (Target n ∷ [])) ≡ Some others → (others : List Aim) × (aimed (r.symbols ++ item) (Some (Target n ∷ [])) ≡ Some others)
    go [] f = let none : None ≡ Some alone = sym (ap (aims_before (Non x)) f) ∙ e in absurd (cc)
    go (aim ∷ aims) f =
        let may : may_aim x aim ≡ true = sym (ap (may_aim_first x) (aimed_frame item (Target n ∷ []) (aim ∷ aims) cs f)) ∙ m in
        let l = aims_row x aim r i may in
        (l.aims ++ aims, aimed_joined r.symbols item (Some (Target n ∷ [])) ∙ ap (aimed r.symbols) f ∙ aimed_frame r.symbols (aim ∷ []) l.aims aims l.aimed_is)

begins_item : (symbols : List Symbol) (o : Option (List Ask)) → least symbols (Some (AtLeast 0 ∷ [])) ≡ o → may_ask_first ItemMore o ≡ true → are_askable symbols (Some (AtLeast 0 ∷ [])) ≡ true → are_calm symbols ≡ true
    → are_single symbols ≡ true → adds_to_none symbols (Some (AtLeast 0 ∷ [])) ≡ true → Shaped (Non Expression ∷ Do AddItem ∷ Non ItemNext ∷ symbols)
begins_item symbols None e m k c s h = absurd (cc)
begins_item symbols (Some []) e m k c s h = absurd (cc)
begins_item symbols (Some (OpenAtLeast n ∷ qs)) e m k c s h =
    let next : least (Non ItemNext ∷ symbols) (Some (AtLeast 0 ∷ [])) ≡ Some (OpenAtLeast n ∷ qs) = ap (before (Non ItemNext)) e in
    let may : are_askable (Non ItemNext ∷ symbols) (Some (AtLeast 0 ∷ [])) ≡ true = both (may_ask_first ItemNext (least symbols (Some (AtLeast 0 ∷ [])))) (are_askable symbols (Some (AtLeast 0 ∷ []))) (ap (may_ask_first ItemNext) e) k in
    let j = begins_so (Non ItemNext ∷ symbols) n qs next may in
    inr (
    record {
      item = Non Expression ∷ [];
      rest = Non ItemNext ∷ symbols;
      symbols_are = refl;
      asks = j.0;
      alone = [];
      alone_are = refl;
      inner = refl;
      none_open_below = ap none_open j.2 ∙ few_kept symbols (OpenAtLeast n ∷ qs) s c e;
      rest_calm = c;
      rest_settled = h;
    })
begins_item symbols (Some (NoNode ∷ qs)) e m k c s h = inl (both (not (adds_to_open AddItem (least (Non ItemNext ∷ symbols) (Some (AtLeast 0 ∷ []))))) _ (ap (λ (o : Option (List Ask)). not (adds_to_open AddItem (before (Non ItemNext) o))) e) h)
begins_item symbols (Some (AtLeast n ∷ qs)) e m k c s h = inl (both (not (adds_to_open AddItem (least (Non ItemNext ∷ symbols) (Some (AtLeast 0 ∷ []))))) _ (ap (λ (o : Option (List Ask)). not (adds_to_open AddItem (before (Non ItemNext) o))) e) h)
begins_item symbols (Some (WithinAtLeast n ∷ qs)) e m k c s h = inl (both (not (adds_to_open AddItem (least (Non ItemNext ∷ symbols) (Some (AtLeast 0 ∷ []))))) _ (ap (λ (o : Option (List Ask)). not (adds_to_open AddItem (before (Non ItemNext) o))) e) h)

shaped_row : (x : Nonterminal) (r : Row Nonterminal Action Parts) (symbols : List Symbol) → IsRow r (rows x) → are_askable (Non x ∷ symbols) (Some (AtLeast 0 ∷ [])) ≡ true → are_calm_soon (Non x ∷ symbols) ≡ true
    → are_single (Non x ∷ symbols) ≡ true → Shaped (Non x ∷ symbols) → Shaped (r.symbols ++ symbols)
shaped_row x r symbols i m c s (inl h) = go (item_or_nothing x)
  where
    at_item : (x ≡ ItemMore) → ItemRow r.symbols → Shaped (r.symbols ++ symbols)
    at_item is (inl e) = inl (ap (λ (l : List Symbol). adds_to_none (l ++ symbols) (Some (AtLeast 0 ∷ []))) e ∙ h)
    at_item is (inr e) =
        let may : are_askable (Non ItemMore ∷ symbols) (Some (AtLeast 0 ∷ [])) ≡ true = subst (λ (y : Nonterminal). are_askable (Non y ∷ symbols) (Some (AtLeast 0 ∷ [])) ≡ true) is m in
        let calm : are_calm symbols ≡ true = subst (λ (y : Nonterminal). are_calm_soon (Non y ∷ symbols) ≡ true) is c in
        let single : are_single symbols ≡ true = subst (λ (y : Nonterminal). are_single (Non y ∷ symbols) ≡ true) is s in
        subst (λ (l : List Symbol). Shaped (l ++ symbols)) (sym e)
        (begins_item symbols (least symbols (Some (AtLeast 0 ∷ []))) refl (and_left (may_ask_first ItemMore (least symbols (Some (AtLeast 0 ∷ [])))) (are_askable symbols (Some (AtLeast 0 ∷ []))) may)
        (and_right (may_ask_first ItemMore (least symbols (Some (AtLeast 0 ∷ [])))) (are_askable symbols (Some (AtLeast 0 ∷ []))) may) calm single h)

    go : (x ≡ ItemMore) ⊎ (rows_add_nothing (rows x) ≡ true) → Shaped (r.symbols ++ symbols)
    go (inl is) = at_item is (item_rows r (subst (λ (y : Nonterminal). IsRow r (rows y)) is i))
    go (inr nothing) = inl (adds_joined r.symbols symbols (Some (AtLeast 0 ∷ [])) (row_adds_nothing r (rows x) nothing i) h)
shaped_row x r symbols i m c s (inr h) = go h.item h.symbols_are h.asks h.alone h.alone_are h.inner h.none_open_below
  where
    go : (item : List Symbol) → Non x ∷ symbols ≡ item ++ Do AddItem ∷ h.rest → (k : ItemAsks item h.rest) (alone : List Aim) → aimed item (Some (Target k.above ∷ [])) ≡ Some alone → are_inner item ≡ true
        → none_open k.below ≡ true → Shaped (r.symbols ++ symbols)
    go [] is k alone alone_are inner none = absurd (cc)
    go (Tok j ∷ item) is k alone alone_are inner none = absurd (cc)
    go (Do a ∷ item) is k alone alone_are inner none = absurd (cc)
    go (Non y ∷ item) is k alone alone_are inner none =
        let same : symbols ≡ item ++ Do AddItem ∷ h.rest = cc in
        let one : x ≡ y = cc in
        let j : IsRow r (rows y) = subst (λ (z : Nonterminal). IsRow r (rows z)) one i in
        let f = alone_row y r item k.above (Targets k.above ∷ map Simply k.below) alone j (and_left (may_aim_first y (aimed item (Some (Target k.above ∷ Targets k.above ∷ map Simply k.below)))) (are_aimable item (Some (Target k.above ∷ Targets k.above ∷ map Simply k.below))) k.aimable) alone_are in
        let l = item_row_so y r item h.rest j k in
        inr (
        record {
          item = r.symbols ++ item;
          rest = h.rest;
          symbols_are = ap (λ (l : List Symbol). r.symbols ++ l) same ∙ sym (append_assoc r.symbols item (Do AddItem ∷ h.rest));
          asks = l.0;
          alone = f.0;
          alone_are = ap (λ (n : ℕ). aimed (r.symbols ++ item) (Some (Target n ∷ []))) l.1 ∙ f.1;
          inner = inner_joined r.symbols item (inner_row y r (and_left (is_inner y) (are_inner item) inner) j) (and_right (is_inner y) (are_inner item) inner);
          none_open_below = ap none_open l.2 ∙ none;
          rest_calm = h.rest_calm;
          rest_settled = h.rest_settled;
        })

pub ready_over_action : ReadyOverAction
ready_over_action front ahead a symbols v b r = record { calm = inl (calm_so symbols (at_action r.calm)); single = r.single; shaped = shaped_action a symbols r.shaped }
  where
    at_action : (are_calm_below (Do a ∷ symbols) ≡ true) ⊎ ((are_calm_soon (Do a ∷ symbols) ≡ true) × IsMore ahead) → are_calm symbols ≡ true
    at_action (inl h) = h
    at_action (inr h) = h.0

pub ready_over_token : ReadyOverToken
ready_over_token ahead t k symbols r = record { calm = inl (at_token r.calm); single = r.single; shaped = shaped_token k symbols r.shaped }
  where
    at_token : (are_calm_below (Tok k ∷ symbols) ≡ true) ⊎ ((are_calm_soon (Tok k ∷ symbols) ≡ true) × IsMore (t ∷ ahead)) → are_calm_below symbols ≡ true
    at_token (inl h) = calm_so symbols h
    at_token (inr h) = h.0

pub ready_over_row : ReadyOverRow
ready_over_row front ahead t x r symbols v i b y =
    let soon = soon_at_row x symbols (t ∷ ahead) y.calm in
    record { calm = inr (over_row_calm x r symbols i soon, tt); single = over_row_single x r symbols i y.single; shaped = shaped_row x r symbols i b.askable soon y.single y.shaped }

pub ready_law : ReadyLaw
ready_law = (ready_at_beginning, ready_over_action, ready_over_token, ready_over_row)
