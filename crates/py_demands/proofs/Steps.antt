-- The run behind a front, step by step, with what is asked there.
use Rattle.std.proofs.Common.{◌≡◌, ℕ, Bool, true, false, not, ◌&&◌, ◌||◌, ◌==◌, if◌then◌else◌, List, [], ◌∷◌, ◌++◌, Option, Some, None, ◌⊎◌, inl, inr, refl, sym, ap, ◌∙◌, subst, append_assoc, eq-eqb}
use Rattle.grammars.specs.Grammar.{Tok, Non, Do, Row, IsRow}
use Rattle.grammars.specs.Sets.{have_specimens}
use Rattle.grammars.proofs.Bools.{and_left, and_right, both, not_false}
use Rattle.grammars.proofs.Completions.{row_has_specimens, specimens_joined}
use Rattle.py_syntax.specs.Token.{Token}
use Rattle.py_syntax.specs.Kinds.{kind_of}
use Rattle.py_syntax.specs.Build.{PToken, Parts, Action, Drop, act}
use Rattle.py_syntax.specs.Table.{Symbol, Nonterminal, Module, rows, table, sets}
use Rattle.py_syntax.proofs.TableSets.{completable}
use Rattle.py_tokens.specs.Token.{Place}
use Rattle.py_nesting.specs.Outlines.{built}
use Rattle.py_nesting.specs.Shapes.{outlines_of}
use Rattle.py_nesting.specs.Effects.{effect, after_all}
use Rattle.py_nesting.specs.Ordered.{is_layout_kind}
use Rattle.py_nesting.specs.Walk.{Whole}
use Rattle.py_nesting.proofs.EffectsKept.{effects_kept}
use Rattle.py_fronts.proofs.FrontsReached.{at_beginning, over_action, over_token, over_row}
use Rattle.py_nesting.proofs.EventsAdded.{built_more}
use Rattle.py_demands.specs.Asks.{place_of, avoids}
use Rattle.py_demands.specs.Least.{Ask, AtLeast, before, least, may_ask_first, are_askable}
use Rattle.py_demands.specs.Behind.{heads, is_once, drops_first, drop_layout, Behind}
use Rattle.py_demands.specs.Order.{IsAway, IsLone}
use Rattle.py_demands.specs.Steps.{Beginning, OverAction, OverToken, OverRow, StepsLaw}
use Rattle.py_demands.proofs.LowRows.{low_row, least_frame, least_joined, askable_joined}
use Rattle.py_demands.proofs.ExactRows.{row_asks, behind_first}
use Rattle.py_demands.proofs.Ordered.{away_at_start, away_from_token, away_behind_action, lone_at_start, lone_beside_token, lone_at_token, lone_behind_action}

pub behind_at_beginning : Beginning
behind_at_beginning front =
    record {
      at_front = at_beginning front;
      specimens = refl;
      asks = [];
      least_is = refl;
      askable = refl;
      demands = [];
      exactly_is = refl;
      drops = refl;
      kept = [];
      held = inl refl;
      read = [];
      split = refl;
      away = λ at h. away_at_start at;
      lone = λ at h. lone_at_start at;
    }

-- what is asked at least behind the first symbol
pub asks_behind : (s : Symbol) (symbols : List Symbol) (o : Option (List Ask)) (qs : List Ask) → least (s ∷ symbols) o ≡ Some qs → (rs : List Ask) × (least symbols o ≡ Some rs)
asks_behind s symbols o qs e = go (least symbols o) refl e
  where
    go : (w : Option (List Ask)) → least symbols o ≡ w → before s w ≡ Some qs → (rs : List Ask) × (least symbols o ≡ Some rs)
    go None w h = absurd (cc)
    go (Some rs) w h = (rs, w)

-- a token of layout that was read is dropped
dropped_so : (a : Action) (symbols : List Symbol) (v : Parts) (t : Token) → drops_first (Do a ∷ symbols) ≡ true → v ≡ act a (PToken t ∷ v)
dropped_so Drop symbols v t h = refl
dropped_so a symbols v t h = absurd (cc)

pub behind_action : OverAction
behind_action front ahead a symbols v b =
    let q = asks_behind (Do a) symbols (Some (AtLeast 0 ∷ [])) b.asks b.least_is in
    let d = behind_first (Do a) symbols (Some (Whole 0 ∷ [])) b.demands b.exactly_is in
    record {
      at_front = over_action front ahead a symbols v b.at_front;
      specimens = b.specimens;
      asks = q.0;
      least_is = q.1;
      askable = b.askable;
      demands = d.0;
      exactly_is = d.1;
      read = b.read;
      split = b.split;
      drops = b.drops;
      kept = act a v;
      held = inl refl;
      away = λ at h. away_after at b.held (b.away at h);
      lone = λ at h. lone_after at b.held (b.lone at h);
    }
  where
    away_after : (at : Place → Bool) → (b.kept ≡ v) ⊎ ((t : Token) × (v ≡ PToken t ∷ b.kept) × (drops_first (Do a ∷ symbols) ≡ true)) → IsAway at b.kept → IsAway at (act a v)
    away_after at (inl e) h =
        let f = b.at_front in
        let kept = effects_kept a v (effect f.fit.0 f.fit.1) f.fit.2 in
        let put : built (f.fit.1 ++ f.events) ≡ Some (outlines_of (act a v)) = built_more f.fit.1 f.events ∙ ap (after_all f.fit.1) f.put ∙ kept.1 in
        away_behind_action at a v f.fit.0 f.fit.1 f.events f.begun f.fit.2 f.put put kept.0 (subst (IsAway at) e h)
    away_after at (inr e) h = subst (IsAway at) (dropped_so a symbols b.kept e.0 e.2 ∙ ap (act a) (sym e.1)) h

    lone_after : (at : Place → Bool) → (b.kept ≡ v) ⊎ ((t : Token) × (v ≡ PToken t ∷ b.kept) × (drops_first (Do a ∷ symbols) ≡ true)) → IsLone at b.kept → IsLone at (act a v)
    lone_after at (inl e) h =
        let f = b.at_front in
        let kept = effects_kept a v (effect f.fit.0 f.fit.1) f.fit.2 in
        let put : built (f.fit.1 ++ f.events) ≡ Some (outlines_of (act a v)) = built_more f.fit.1 f.events ∙ ap (after_all f.fit.1) f.put ∙ kept.1 in
        lone_behind_action at a v f.fit.0 f.fit.1 f.events f.begun f.fit.2 f.put put kept.0 (subst (IsLone at) e h)
    lone_after at (inr e) h = subst (IsLone at) (dropped_so a symbols b.kept e.0 e.2 ∙ ap (act a) (sym e.1)) h

avoids_last : (at : Place → Bool) (ts : List Token) (t : Token) → avoids at (ts ++ t ∷ []) ≡ true → (avoids at ts ≡ true) × (at (place_of t) ≡ false)
avoids_last at [] t h = (refl, not_false (at (place_of t)) (and_left (not (at (place_of t))) true h))
avoids_last at (u ∷ ts) t h =
    let r = avoids_last at ts t (and_right (not (at (place_of u))) (avoids at (ts ++ t ∷ [])) h) in
    (both (not (at (place_of u))) (avoids at ts) (and_left (not (at (place_of u))) (avoids at (ts ++ t ∷ [])) h) r.0, r.1)

-- the last token stands there, and no other does; or it doesn't
once_last : (at : Place → Bool) (ts : List Token) (t : Token) → is_once at (ts ++ t ∷ []) ≡ true → (avoids at ts ≡ true) ⊎ ((at (place_of t) ≡ false) × (is_once at ts ≡ true))
once_last at [] t h = inl refl
once_last at (u ∷ ts) t h = go (at (place_of u)) refl h (λ k. once_last at ts t k)
  where
    go : (b : Bool) → at (place_of u) ≡ b → (if b then avoids at (ts ++ t ∷ []) else is_once at (ts ++ t ∷ [])) ≡ true
        → (is_once at (ts ++ t ∷ []) ≡ true → (avoids at ts ≡ true) ⊎ ((at (place_of t) ≡ false) × (is_once at ts ≡ true)))
        → (avoids at (u ∷ ts) ≡ true) ⊎ ((at (place_of t) ≡ false) × (is_once at (u ∷ ts) ≡ true))
    go true e k again = let r = avoids_last at ts t k in inr (r.1, ap (λ (b : Bool). if b then avoids at ts else is_once at ts) e ∙ r.0)
    go false e k again = further (again k)
      where
        further : (avoids at ts ≡ true) ⊎ ((at (place_of t) ≡ false) × (is_once at ts ≡ true)) → (avoids at (u ∷ ts) ≡ true) ⊎ ((at (place_of t) ≡ false) × (is_once at (u ∷ ts) ≡ true))
        further (inl r) = inl (both (not (at (place_of u))) (avoids at ts) (ap not e) r)
        further (inr r) = inr (r.0, ap (λ (b : Bool). if b then avoids at ts else is_once at ts) e ∙ r.1)

-- without layout
heads_last : (ts : List Token) (t : Token) → heads (ts ++ t ∷ []) ≡ (if is_layout_kind (kind_of t) then heads ts else heads ts ++ t ∷ [])
heads_last [] t = refl
heads_last (u ∷ ts) t = go (is_layout_kind (kind_of u)) (is_layout_kind (kind_of t)) (heads_last ts t)
  where
    go : (b c : Bool) → heads (ts ++ t ∷ []) ≡ (if c then heads ts else heads ts ++ t ∷ [])
        → (if b then heads (ts ++ t ∷ []) else u ∷ heads (ts ++ t ∷ [])) ≡ (if c then (if b then heads ts else u ∷ heads ts) else (if b then heads ts else u ∷ heads ts) ++ t ∷ [])
    go true true e = e
    go true false e = e
    go false true e = ap (λ (l : List Token). u ∷ l) e
    go false false e = ap (λ (l : List Token). u ∷ l) e

layout_not_held : (k : ℕ) (symbols : List Symbol) (v kept : Parts) → (kept ≡ v) ⊎ ((t : Token) × (v ≡ PToken t ∷ kept) × (drops_first (Tok k ∷ symbols) ≡ true)) → kept ≡ v
layout_not_held k symbols v kept (inl e) = e
layout_not_held k symbols v kept (inr e) = let no = e.2 in absurd (cc)

drops_behind : (k : ℕ) (symbols : List Symbol) → drop_layout (Tok k ∷ symbols) ≡ true → is_layout_kind k ≡ true → drops_first symbols ≡ true
drops_behind k symbols h l = go (is_layout_kind k) l (and_left (not (is_layout_kind k) || drops_first symbols) (drop_layout symbols) h)
  where
    go : (b : Bool) → b ≡ true → (not b || drops_first symbols) ≡ true → drops_first symbols ≡ true
    go true e k = k
    go false e k = absurd (cc)

pub behind_token : OverToken
behind_token front ahead t k symbols v e b = go (is_layout_kind (kind_of t)) refl
  where
    same : b.kept ≡ v
    same = layout_not_held k symbols v b.kept b.held

    all : front ≡ (b.read ++ t ∷ []) ++ ahead
    all = b.split ∙ sym (append_assoc b.read (t ∷ []) ahead)

    at_last : (at : Place → Bool) → (avoids at (heads b.read) ≡ true) ⊎ ((at (place_of t) ≡ false) × (is_once at (heads b.read) ≡ true)) → IsLone at (PToken t ∷ v)
    at_last at (inl r) = lone_at_token at t v (subst (IsAway at) same (b.away at r))
    at_last at (inr r) = lone_beside_token at t v r.0 (subst (IsLone at) same (b.lone at r.1))

    go : (l : Bool) → is_layout_kind (kind_of t) ≡ l → Behind front ahead symbols (PToken t ∷ v)
    go true l =
        let q = asks_behind (Tok k) symbols (Some (AtLeast 0 ∷ [])) b.asks b.least_is in
        let d = behind_first (Tok k) symbols (Some (Whole 0 ∷ [])) b.demands b.exactly_is in
        let none : heads (b.read ++ t ∷ []) ≡ heads b.read = heads_last b.read t ∙ ap (λ (c : Bool). if c then heads b.read else heads b.read ++ t ∷ []) l in
        record {
          at_front = over_token front ahead t k symbols v e (eq-eqb (kind_of t) k e) b.at_front;
          specimens = and_right (table.kind (sets.specimen k) == k) (have_specimens table sets symbols) b.specimens;
          asks = q.0;
          least_is = q.1;
          askable = b.askable;
          demands = d.0;
          exactly_is = d.1;
          drops = and_right (not (is_layout_kind k) || drops_first symbols) (drop_layout symbols) b.drops;
          kept = v;
          held = inr (t, refl, drops_behind k symbols b.drops (ap is_layout_kind (sym e) ∙ l));
          read = b.read ++ t ∷ [];
          split = all;
          away = λ at h. subst (IsAway at) same (b.away at (ap (avoids at) (sym none) ∙ h));
          lone = λ at h. subst (IsLone at) same (b.lone at (ap (is_once at) (sym none) ∙ h));
        }
    go false l =
        let q = asks_behind (Tok k) symbols (Some (AtLeast 0 ∷ [])) b.asks b.least_is in
        let d = behind_first (Tok k) symbols (Some (Whole 0 ∷ [])) b.demands b.exactly_is in
        let more : heads (b.read ++ t ∷ []) ≡ heads b.read ++ t ∷ [] = heads_last b.read t ∙ ap (λ (c : Bool). if c then heads b.read else heads b.read ++ t ∷ []) l in
        record {
          at_front = over_token front ahead t k symbols v e (eq-eqb (kind_of t) k e) b.at_front;
          specimens = and_right (table.kind (sets.specimen k) == k) (have_specimens table sets symbols) b.specimens;
          asks = q.0;
          least_is = q.1;
          askable = b.askable;
          demands = d.0;
          exactly_is = d.1;
          drops = and_right (not (is_layout_kind k) || drops_first symbols) (drop_layout symbols) b.drops;
          kept = PToken t ∷ v;
          held = inl refl;
          read = b.read ++ t ∷ [];
          split = all;
          away = λ at h. (let r = avoids_last at (heads b.read) t (ap (avoids at) (sym more) ∙ h) in away_from_token at t v r.1 (subst (IsAway at) same (b.away at r.0)));
          lone = λ at h. at_last at (once_last at (heads b.read) t (ap (is_once at) (sym more) ∙ h));
        }

-- each row drops layout as soon as it is read
abbrev all_drop : List (Row Nonterminal Action Parts) → Bool
all_drop [] = true
all_drop (r ∷ these) = drop_layout r.symbols && all_drop these

rows_drop : (x : Nonterminal) → all_drop (rows x) ≡ true
rows_drop Module = refl
rows_drop _ = refl

row_drops : (r : Row Nonterminal Action Parts) (these : List (Row Nonterminal Action Parts)) → all_drop these ≡ true → IsRow r these → drop_layout r.symbols ≡ true
row_drops r [] h i = absurd i
row_drops r (q ∷ these) h (inl e) = ap (λ (s : Row Nonterminal Action Parts). drop_layout s.symbols) e ∙ and_left (drop_layout q.symbols) (all_drop these) h
row_drops r (q ∷ these) h (inr i) = row_drops r these (and_right (drop_layout q.symbols) (all_drop these) h) i

drops_more : (symbols rest : List Symbol) → drops_first symbols ≡ true → drops_first (symbols ++ rest) ≡ true
drops_more (Do Drop ∷ symbols) rest h = refl
drops_more symbols rest h = absurd (cc)

drop_joined : (symbols rest : List Symbol) → drop_layout symbols ≡ true → drop_layout rest ≡ true → drop_layout (symbols ++ rest) ≡ true
drop_joined [] rest h k = k
drop_joined (Tok j ∷ symbols) rest h k =
    both (not (is_layout_kind j) || drops_first (symbols ++ rest)) (drop_layout (symbols ++ rest))
    (go (is_layout_kind j) (and_left (not (is_layout_kind j) || drops_first symbols) (drop_layout symbols) h))
    (drop_joined symbols rest (and_right (not (is_layout_kind j) || drops_first symbols) (drop_layout symbols) h) k)
  where
    go : (b : Bool) → (not b || drops_first symbols) ≡ true → (not b || drops_first (symbols ++ rest)) ≡ true
    go true l = drops_more symbols rest l
    go false l = refl
drop_joined (Non x ∷ symbols) rest h k = drop_joined symbols rest h k
drop_joined (Do a ∷ symbols) rest h k = drop_joined symbols rest h k

still_held : (x : Nonterminal) (symbols others : List Symbol) (v kept : Parts) → (kept ≡ v) ⊎ ((t : Token) × (v ≡ PToken t ∷ kept) × (drops_first (Non x ∷ symbols) ≡ true))
    → (kept ≡ v) ⊎ ((t : Token) × (v ≡ PToken t ∷ kept) × (drops_first others ≡ true))
still_held x symbols others v kept (inl e) = inl e
still_held x symbols others v kept (inr e) = let no = e.2 in absurd (cc)

pub behind_row : OverRow
behind_row front ahead t x r symbols v e i a b =
    let d = row_asks x r symbols (Some (Whole 0 ∷ [])) b.demands i b.exactly_is in
    let q = row_least (least symbols (Some (AtLeast 0 ∷ []))) refl (and_left (may_ask_first x (least symbols (Some (AtLeast 0 ∷ [])))) _ b.askable) in
    record {
      at_front = over_row front ahead t x r symbols v e i a b.at_front;
      specimens = specimens_joined table sets r.symbols symbols (row_has_specimens table sets (rows x) r (and_right _ _ (completable x)) i) b.specimens;
      asks = q.0;
      least_is = q.1;
      askable = q.2;
      demands = d.0;
      exactly_is = d.1;
      drops = drop_joined r.symbols symbols (row_drops r (rows x) (rows_drop x) i) b.drops;
      kept = b.kept;
      held = still_held x symbols (r.symbols ++ symbols) v b.kept b.held;
      read = b.read;
      split = b.split;
      away = b.away;
      lone = b.lone;
    }
  where
    row_least : (o : Option (List Ask)) → least symbols (Some (AtLeast 0 ∷ [])) ≡ o → may_ask_first x o ≡ true
        → (qs : List Ask) × (least (r.symbols ++ symbols) (Some (AtLeast 0 ∷ [])) ≡ Some qs) × (are_askable (r.symbols ++ symbols) (Some (AtLeast 0 ∷ [])) ≡ true)
    row_least None o m = absurd (cc)
    row_least (Some []) o m = absurd (cc)
    row_least (Some (q ∷ cs)) o m =
        let l = low_row x q r i m in (
          l.asks ++ cs,
          least_joined r.symbols symbols (Some (AtLeast 0 ∷ [])) ∙ ap (least r.symbols) o ∙ least_frame r.symbols (q ∷ []) l.asks cs l.least_is,
          askable_joined r.symbols symbols q cs (Some (AtLeast 0 ∷ [])) o l.askable (and_right (may_ask_first x (least symbols (Some (AtLeast 0 ∷ [])))) _ b.askable),
        )

pub steps_law : StepsLaw
steps_law = (behind_at_beginning, behind_action, behind_token, behind_row)
