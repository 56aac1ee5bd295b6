-- An item that is read of a tuple, in the modules in which the tuple is read as a whole and in those that assign to it.
use Rattle.std.proofs.Common.{◌≡◌, ℕ, zero, suc, ◌≤◌, Bool, true, false, not, ◌&&◌, List, [], ◌∷◌, ◌++◌, map, length, Option, Some, ◌⊎◌, inl, inr, refl, sym, ap, ◌∙◌, subst, append_assoc, arith}
use Rattle.grammars.specs.Grammar.{Tok, Non, Do}
use Rattle.grammars.specs.Derivation.{Derives, Yields}
use Rattle.grammars.proofs.Bools.{and_left, and_right, both}
use Rattle.grammars.proofs.Steps.{by_nothing, by_action, by_row}
use Rattle.py_tokens.specs.Token.{Place}
use Rattle.py_syntax.specs.Token.{Token}
use Rattle.py_syntax.specs.Tree.{Body}
use Rattle.py_syntax.specs.Build.{PToken, Parts, AddItem, act}
use Rattle.py_syntax.specs.Laws.{finished}
use Rattle.py_syntax.specs.Table.{Symbol, table}
use Rattle.py_nesting.specs.Depths.{body_depth}
use Rattle.py_nesting.specs.Forms.{TupleForm, is_target}
use Rattle.py_nesting.specs.Outlines.{Event, built}
use Rattle.py_nesting.specs.Shapes.{ExprShape, Entry, entry, entry_of, entries_of, outlines_of}
use Rattle.py_nesting.specs.Effects.{effect, effect_add_item, after_all}
use Rattle.py_nesting.specs.Walk.{Demand, Nothing, Whole, Inside, Assigned, InsideAssigned}
use Rattle.py_nesting.proofs.EffectsKept.{no_effect, effects_kept}
use Rattle.py_nesting.proofs.EventsAdded.{built_more}
use Rattle.py_fronts.specs.Kinds.{fits, token_kind}
use Rattle.py_fronts.specs.Begins.{Begin}
use Rattle.py_fronts.specs.Fit.{Fit}
use Rattle.py_fronts.proofs.DerivedFit.{token_fits_so}
use Rattle.py_fronts.proofs.FrontsReached.{completion_law}
use Rattle.py_fronts.proofs.PartsBegin.{parts_begin}
use Rattle.py_fronts.proofs.TableFits.{row_fits}
use Rattle.py_demands.specs.Roles.{asked_before}
use Rattle.py_demands.specs.Asks.{place_of, avoids}
use Rattle.py_demands.specs.AtMost.{AreAtMost}
use Rattle.py_demands.specs.Bound.{standing}
use Rattle.py_demands.specs.Least.{Ask, AtLeast, OpenAtLeast}
use Rattle.py_demands.specs.Turned.{AreTurned}
use Rattle.py_demands.specs.Aims.{Aim, Simply, Targets, Target, MayTarget, Never, aimed, may_aim_first, are_aimable}
use Rattle.py_demands.specs.Readings.{has_never}
use Rattle.py_demands.specs.Aimed.{AreAimed, ItemAsks, ItemLaw}
use Rattle.py_fronts.specs.AtFront.{AtFront}
use Rattle.py_syntax.specs.Grammar.{IsModule}
use Rattle.py_demands.proofs.EffectsTied.{tied}
use Rattle.py_demands.proofs.Turned.{turned_before}
use Rattle.py_demands.proofs.Bounded.{Bounds, stands_before, stands_behind, bounded}
use Rattle.py_demands.proofs.Lower.{whole_stands}

-- where the first symbols end
record Split (these symbols : List Symbol) (v w : Parts) (ts : List Token) : Type 0 where
  pub between : Parts
  pub first : List Token
  pub last : List Token
  pub both_are : ts ≡ first ++ last
  pub here : Yields table these v first between
  pub there : Yields table symbols between last w
  pub fit : Fit symbols (entries_of between)
  pub events : List Event
  pub put : built events ≡ Some (outlines_of between)
  pub begun : Begin between

split : (n : ℕ) (these symbols : List Symbol) (v w : Parts) (ts : List Token) (events : List Event) → Fit (these ++ symbols) (entries_of v) → built events ≡ Some (outlines_of v) → Begin v
    → Derives table n (these ++ symbols) v ts w → Split these symbols v w ts
split n [] symbols v w ts events f b g d =
    record { between = v; first = []; last = ts; both_are = refl; here = by_nothing table v; there = (n, d); fit = f; events = events; put = b; begun = g }
split zero (s ∷ these) symbols v w ts events f b g d = absurd d
split (suc n) (Tok k ∷ these) symbols v w ts events f b g (t, rest, e, kind, d) =
    let r = split n these symbols (PToken t ∷ v) w rest events (f (entry_of (PToken t)) (subst (λ (m : ℕ). fits (token_kind m) (entry_of (PToken t)) ≡ true) kind (token_fits_so t))) b (tt, g) d in
    record {
      between = r.between;
      first = t ∷ r.first;
      last = r.last;
      both_are = e ∙ ap (λ (l : List Token). t ∷ l) r.both_are;
      here = (suc r.here.0, (t, r.first, refl, kind, r.here.1));
      there = r.there;
      fit = r.fit;
      events = r.events;
      put = r.put;
      begun = r.begun;
    }
split (suc n) (Non x ∷ these) symbols v w ts events f b g (q, i, a, d) =
    let same : q.symbols ++ (these ++ symbols) ≡ (q.symbols ++ these) ++ symbols = sym (append_assoc q.symbols these symbols) in
    let r = split n (q.symbols ++ these) symbols v w ts events (subst (λ (l : List Symbol). Fit l (entries_of v)) same (row_fits x q v (these ++ symbols) i a f.0 f.1)) b g (subst (λ (l : List Symbol). Derives table n l v ts w) same d) in
    record {
      between = r.between;
      first = r.first;
      last = r.last;
      both_are = r.both_are;
      here = by_row table x q these v r.first r.between i a r.here;
      there = r.there;
      fit = r.fit;
      events = r.events;
      put = r.put;
      begun = r.begun;
    }
split (suc n) (Do a ∷ these) symbols v w ts events f b g d =
    let kept = effects_kept a v (effect f.0 f.1) f.2 in
    let put : built (f.1 ++ events) ≡ Some (outlines_of (act a v)) = built_more f.1 events ∙ ap (after_all f.1) b ∙ kept.1 in
    let r = split n these symbols (act a v) w ts (f.1 ++ events) (subst (Fit (these ++ symbols)) (sym kept.0) f.3) put (parts_begin a v g) d in
    record {
      between = r.between;
      first = r.first;
      last = r.last;
      both_are = r.both_are;
      here = by_action table a these v r.first r.between r.here;
      there = r.there;
      fit = r.fit;
      events = r.events;
      put = r.put;
      begun = r.begun;
    }

first_fit : (these symbols : List Symbol) (es : List Entry) → Fit (these ++ symbols) es → Fit these es
first_fit [] symbols es f = tt
first_fit (Tok k ∷ these) symbols es f = λ e h. first_fit these symbols (e ∷ es) (f e h)
first_fit (Non x ∷ these) symbols es f = (f.0, λ new h. first_fit these symbols (new ++ f.0.below) (f.1 new h))
first_fit (Do a ∷ these) symbols es f = (f.0, f.1, f.2, first_fit these symbols f.0 f.3)

avoids_parts : (at : Place → Bool) (ts us : List Token) → avoids at (ts ++ us) ≡ true → (avoids at ts ≡ true) × (avoids at us ≡ true)
avoids_parts at [] us h = (refl, h)
avoids_parts at (t ∷ ts) us h =
    let r = avoids_parts at ts us (and_right (not (at (place_of t))) (avoids at (ts ++ us)) h) in
    (both (not (at (place_of t))) (avoids at ts) (and_left (not (at (place_of t))) (avoids at (ts ++ us)) h) r.0, r.1)

simply_aimed : (qs : List Ask) (es : List Entry) (ds : List Demand) → length ds ≡ length es → AreAtMost qs ds → AreAimed (map Simply qs) es ds
simply_aimed [] [] [] m h = tt
simply_aimed [] [] (d ∷ ds) m h = absurd h
simply_aimed [] (e ∷ es) [] m h = absurd (omega arith)
simply_aimed [] (e ∷ es) (d ∷ ds) m h = absurd h
simply_aimed (q ∷ qs) es [] m h = absurd h
simply_aimed (q ∷ qs) [] (d ∷ ds) m h = absurd (omega arith)
simply_aimed (q ∷ qs) (e ∷ es) (d ∷ ds) m h = (h.0, simply_aimed qs es ds (omega arith) h.1)

-- before the item is added, by what is asked of the tuple with it
abbrev Either : ℕ → List Ask → List Entry → List Demand → Type 0
Either n qs es ds = AreAtMost (AtLeast (suc n) ∷ AtLeast n ∷ qs) ds ⊎ AreAimed (Target n ∷ Targets n ∷ map Simply qs) es ds

item_either : (n : ℕ) (qs : List Ask) (es new : List Entry) (events : List Event) (ds : List Demand) → effect_add_item es ≡ Some (effect new events) → length ds ≡ length new
    → AreAtMost (OpenAtLeast n ∷ qs) ds → AreTurned new ds → Either n qs es (asked_before AddItem ds)
item_either n qs (entry (ExprShape f k) b ∷ entry (ExprShape (TupleForm u) false) a ∷ es) new events ds e m h t =
    let is : entry (ExprShape (TupleForm (u && is_target f)) false) a ∷ es ≡ new = cc in
    go ds (m ∙ ap length (sym is)) h (subst (λ (l : List Entry). AreTurned l ds) (sym is) t)
  where
    go : (ds : List Demand) → length ds ≡ suc (length es) → AreAtMost (OpenAtLeast n ∷ qs) ds → AreTurned (entry (ExprShape (TupleForm (u && is_target f)) false) a ∷ es) ds
        → Either n qs (entry (ExprShape f k) b ∷ entry (ExprShape (TupleForm u) false) a ∷ es) (asked_before AddItem ds)
    go [] m h t = absurd h
    go (Nothing ∷ ds) m h t = inl (tt, (tt, h.1))
    go (Whole i ∷ ds) m h t = inl ((let l = h.0 in omega arith), (h.0, h.1))
    go (Inside i ∷ ds) m h t = absurd h.0
    go (Assigned i ∷ ds) m h t = inr ((h.0, and_right u (is_target f) t.0), ((h.0, and_left u (is_target f) t.0), simply_aimed qs es ds (omega arith) h.1))
    go (InsideAssigned i ∷ ds) m h t = absurd h.0
item_either n qs es new events ds e m h t = no_effect e

-- the demands of a module, by what holds of those that turn the tuple into targets
abbrev pub Outcome : Parts → Body → List Token → List Ask → (List Demand → Type 0) → Type 0
Outcome v body more asks Turns =
    (ds : List Demand) × (length ds ≡ length (entries_of v)) × (AreAtMost asks ds ⊎ Turns ds) × AreTurned (entries_of v) ds
    × ((at : Place → Bool) → (standing at v ds ≤ body_depth at body) × (avoids at more ≡ true → body_depth at body ≤ standing at v ds))

item_read : (front more : List Token) (item rest : List Symbol) (v : Parts) (body : Body) (i : ItemAsks item rest) (f : AtFront front [] (item ++ Do AddItem ∷ rest) v) → IsModule body (front ++ more) → (Turns : List Demand → Type 0)
    → ((s : Split item (Do AddItem ∷ rest) v (finished body) more) (ds : List Demand) → length ds ≡ length (entries_of s.between) → AreAimed (Target i.above ∷ Targets i.above ∷ map Simply i.below) (entries_of s.between) ds
    → (b : Bounds item v s.between s.first ds) → Turns b.demands) → Outcome v body more i.asks Turns
item_read front more item rest v body i f m Turns turns =
    let y = (completion_law front (item ++ Do AddItem ∷ rest) v f).0 more body m in
    at_item (split y.0 item (Do AddItem ∷ rest) v (finished body) more f.events f.fit f.put f.begun y.1)
  where
    at_item : Split item (Do AddItem ∷ rest) v (finished body) more → Outcome v body more i.asks Turns
    at_item s = go s.there.0 s.there.1
      where
        go : (count : ℕ) → Derives table count (Do AddItem ∷ rest) s.between s.last (finished body) → Outcome v body more i.asks Turns
        go zero d = absurd d
        go (suc count) d =
            let kept = effects_kept AddItem s.between (effect s.fit.0 s.fit.1) s.fit.2 in
            let put : built (s.fit.1 ++ s.events) ≡ Some (outlines_of (act AddItem s.between)) = built_more s.fit.1 s.events ∙ ap (after_all s.fit.1) s.put ∙ kept.1 in
            let r = bounded count rest (act AddItem s.between) (finished body) s.last (s.fit.1 ++ s.events) (Whole 0 ∷ []) (subst (Fit rest) (sym kept.0) s.fit.3) put (parts_begin AddItem s.between s.begun) d refl in
            let low = r.no_less (AtLeast 0 ∷ []) (OpenAtLeast i.above ∷ i.below) (omega arith, tt) i.rest_askable i.rest_is in
            let turned : AreTurned s.fit.0 r.demands = subst (λ (es : List Entry). AreTurned es r.demands) kept.0 (r.turned (tt, tt)) in
            let many : length r.demands ≡ length s.fit.0 = r.many ∙ ap length kept.0 in
            let t = tied AddItem (entries_of s.between) (effect s.fit.0 s.fit.1) s.fit.2 r.demands in
            let b = bounded s.here.0 item v s.between s.first f.events (asked_before AddItem r.demands) (first_fit item (Do AddItem ∷ rest) (entries_of v) f.fit) f.put f.begun s.here.1 (t.2 many) in
            let either = item_either i.above i.below (entries_of s.between) s.fit.0 s.fit.1 r.demands s.fit.2 many low turned in (
              b.demands,
              b.many,
              elim either [
                | inl w ↦ inl (b.no_less (AtLeast (suc i.above) ∷ AtLeast i.above ∷ i.below) i.asks w i.askable i.asks_are)
                | inr w ↦ inr (turns s (asked_before AddItem r.demands) (t.2 many) w b)
              ],
              b.turned (turned_before AddItem (entries_of s.between) s.fit.0 s.fit.1 r.demands s.fit.2 turned),
              λ at. (
                (let w = whole_stands at body in let one = b.stand at in let two = stands_before at AddItem s.between s.fit.0 s.fit.1 s.events r.demands s.fit.2 s.put put kept.0 in let three = r.stand at in omega arith),
                λ h.
                    let p = avoids_parts at s.first s.last (sym (ap (avoids at) s.both_are) ∙ h) in
                    let w = whole_stands at body in
                    let one = b.stand_so at p.0 in
                    let two = stands_behind at AddItem s.between s.fit.0 s.fit.1 s.events r.demands s.begun s.fit.2 s.put put kept.0 in
                    let three = r.stand_so at p.1 in omega arith,
              ),
            )

pub item_law : ItemLaw
item_law front more item rest v body i f m =
    item_read front more item rest v body i f m (AreAimed i.aims (entries_of v)) (λ s ds many w b. b.aims_met (Target i.above ∷ Targets i.above ∷ map Simply i.below) i.aims w i.aimable i.aims_are)

never_so : (aims : List Aim) (es : List Entry) (ds : List Demand) → has_never aims ≡ true → AreAimed aims es ds → ⊥
never_so [] es ds h k = absurd (cc)
never_so (aim ∷ aims) [] ds h k = k
never_so (aim ∷ aims) (e ∷ es) [] h k = k
never_so (Never ∷ aims) (e ∷ es) (d ∷ ds) h k = k.0
never_so (Simply q ∷ aims) (e ∷ es) (d ∷ ds) h k = never_so aims es ds h k.1
never_so (Targets n ∷ aims) (e ∷ es) (d ∷ ds) h k = never_so aims es ds h k.1
never_so (Target n ∷ aims) (e ∷ es) (d ∷ ds) h k = never_so aims es ds h k.1
never_so (MayTarget n ∷ aims) (e ∷ es) (d ∷ ds) h k = never_so aims es ds h k.1

aimable_last : (these symbols : List Symbol) (o : Option (List Aim)) → are_aimable (these ++ symbols) o ≡ true → are_aimable symbols o ≡ true
aimable_last [] symbols o h = h
aimable_last (Tok k ∷ these) symbols o h = aimable_last these symbols o h
aimable_last (Do a ∷ these) symbols o h = aimable_last these symbols o h
aimable_last (Non x ∷ these) symbols o h = aimable_last these symbols o (and_right (may_aim_first x (aimed (these ++ symbols) o)) (are_aimable (these ++ symbols) o) h)

-- where something in the item can't be a target, the tuple is read as a whole
pub never_law : (front more : List Token) (item rest these those : List Symbol) (v : Parts) (body : Body) (i : ItemAsks item rest) (aims : List Aim) → item ≡ these ++ those
    → aimed those (Some (Target i.above ∷ Targets i.above ∷ map Simply i.below)) ≡ Some aims → has_never aims ≡ true
    → AtFront front [] (item ++ Do AddItem ∷ rest) v → IsModule body (front ++ more) → Outcome v body more i.asks (λ ds. ⊥)
never_law front more item rest these those v body i aims is e never f m = item_read front more item rest v body i f m (λ ds. ⊥) turns
  where
    turns : (s : Split item (Do AddItem ∷ rest) v (finished body) more) (ds : List Demand) → length ds ≡ length (entries_of s.between)
        → AreAimed (Target i.above ∷ Targets i.above ∷ map Simply i.below) (entries_of s.between) ds → Bounds item v s.between s.first ds → ⊥
    turns s ds many w b =
        let fit : Fit (these ++ those) (entries_of v) = subst (λ (l : List Symbol). Fit l (entries_of v)) is (first_fit item (Do AddItem ∷ rest) (entries_of v) f.fit) in
        let d : Derives table s.here.0 (these ++ those) v s.first s.between = subst (λ (l : List Symbol). Derives table s.here.0 l v s.first s.between) is s.here.1 in
        let t = split s.here.0 these those v s.between s.first f.events fit f.put f.begun d in
        let c = bounded t.there.0 those t.between s.between t.last t.events ds t.fit t.put t.begun t.there.1 many in
        let may = aimable_last these those (Some (Target i.above ∷ Targets i.above ∷ map Simply i.below)) (subst (λ (l : List Symbol). are_aimable l (Some (Target i.above ∷ Targets i.above ∷ map Simply i.below)) ≡ true) is i.aimable) in
        never_so aims (entries_of t.between) c.demands never (c.aims_met (Target i.above ∷ Targets i.above ∷ map Simply i.below) aims w may e)
