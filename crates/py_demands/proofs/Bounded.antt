-- What symbols derive asks no less of the parts before them than the symbols do.
use Rattle.std.proofs.Common.{◌≡◌, ℕ, zero, suc, max, ◌≤◌, Bool, true, false, not, List, [], ◌∷◌, ◌++◌, map, length, Option, Some, None, refl, sym, ap, ◌∙◌, subst, arith}
use Rattle.grammars.specs.Grammar.{Tok, Non, Do, Row, IsRow}
use Rattle.grammars.specs.Derivation.{Derives}
use Rattle.grammars.proofs.Bools.{and_left, and_right, not_false}
use Rattle.py_tokens.specs.Token.{Place}
use Rattle.py_syntax.specs.Token.{Token, At}
use Rattle.py_syntax.specs.Build.{PToken, Parts, Action, act}
use Rattle.py_syntax.specs.Table.{Symbol, Nonterminal, table}
use Rattle.py_nesting.specs.Depths.{here}
use Rattle.py_nesting.specs.Outlines.{Event, built}
use Rattle.py_nesting.specs.TreeOutlines.{leaf}
use Rattle.py_nesting.specs.Shapes.{entry_of, Entry, entries_of, outlines_of}
use Rattle.py_nesting.specs.Effects.{effect, effect_of, after_all}
use Rattle.py_nesting.specs.Walk.{Demand, Nothing, Whole, Inside, Assigned, InsideAssigned, raise, demanded, depth_of, walk, met_depth}
use Rattle.py_nesting.proofs.EffectsKept.{effects_kept}
use Rattle.py_nesting.proofs.WalkCounts.{walk_counts}
use Rattle.py_fronts.specs.Kinds.{fits, token_kind}
use Rattle.py_fronts.specs.Begins.{Begin}
use Rattle.py_fronts.proofs.PartsBegin.{parts_begin}
use Rattle.py_demands.proofs.StartsBelow.{starts_below}
use Rattle.py_fronts.specs.Fit.{Fit}
use Rattle.py_fronts.specs.AtFront.{asked, nodes_of}
use Rattle.py_fronts.proofs.TableFits.{row_fits}
use Rattle.py_fronts.proofs.DerivedFit.{token_fits_so}
use Rattle.py_nesting.proofs.EventsAdded.{built_more}
use Rattle.py_fronts.proofs.DepthsGo.{walk_both}
use Rattle.py_demands.specs.Roles.{asked_before}
use Rattle.py_demands.specs.Asks.{of_outlines, entry_depth, tokens_depth, place_of, avoids}
use Rattle.py_demands.specs.Least.{Ask, ask_least, low, before, least, may_ask_first, are_askable}
use Rattle.py_demands.specs.AtMost.{AreAtMost}
use Rattle.py_demands.specs.Bound.{standing}
use Rattle.py_demands.specs.Turned.{AreTurned}
use Rattle.py_demands.proofs.Turned.{turned_before}
use Rattle.py_demands.specs.Aims.{Aim, aims_before, aimed, may_aim_first, are_aimable}
use Rattle.py_demands.specs.Aimed.{AreAimed}
use Rattle.py_demands.proofs.AimsKept.{action_aimed, no_more_aimed}
use Rattle.py_demands.proofs.AimRows.{aims_row, aimed_frame, aimed_joined, aimable_joined}
use Rattle.py_demands.proofs.RowsAimed.{said}
use Rattle.py_demands.proofs.EffectsTied.{tied}
use Rattle.py_demands.proofs.AsksKept.{action_kept, no_more_all}
use Rattle.std.proofs.lemmas.Option.{same_Some}
use Rattle.py_demands.proofs.LowRows.{low_row, least_frame, least_joined, askable_joined}

pub record Bounds (symbols : List Symbol) (v w : Parts) (ts : List Token) (ds : List Demand) : Type 0 where
  pub demands : List Demand
  pub many : length demands ≡ length (entries_of v)
  pub stand : (at : Place → Bool) → standing at v demands ≤ standing at w ds
  -- and no deeper, but for nodes at the tokens that are read
  pub stand_so : (at : Place → Bool) → avoids at ts ≡ true → standing at w ds ≤ standing at v demands
  pub no_less : (qs bs : List Ask) → AreAtMost qs ds → are_askable symbols (Some qs) ≡ true → least symbols (Some qs) ≡ Some bs → AreAtMost bs demands
  pub turned : AreTurned (entries_of w) ds → AreTurned (entries_of v) demands
  pub aims_met : (aims others : List Aim) → AreAimed aims (entries_of w) ds → are_aimable symbols (Some aims) ≡ true → aimed symbols (Some aims) ≡ Some others → AreAimed others (entries_of v) demands

-- the outlines behind an action have the nodes that it brings, and those before it as they are asked then
outlines_behind : (at : Place → Bool) (v w : Parts) (more events : List Event) (ds : List Demand) → built events ≡ Some (outlines_of v) → built (more ++ events) ≡ Some (outlines_of w)
    → depth_of at (outlines_of w) ds ≡ max (met_depth at (nodes_of more ds)) (depth_of at (outlines_of v) (asked more ds))
outlines_behind at v w more events ds b c =
    let whole : depth_of at (outlines_of w) ds ≡ met_depth at (walk (more ++ events) ds) = walk_counts at (more ++ events) (outlines_of w) ds c in
    let parts : met_depth at (walk (more ++ events) ds) ≡ max (met_depth at (nodes_of more ds)) (met_depth at (walk events (asked more ds))) = walk_both at more events ds in
    let old : depth_of at (outlines_of v) (asked more ds) ≡ met_depth at (walk events (asked more ds)) = walk_counts at events (outlines_of v) (asked more ds) b in
    omega arith

raised_nothing : (n m : ℕ) → m ≡ 0 → raise n m ≡ 0
raised_nothing n m h = ap (raise n) h

not_asked_there : (at : Place → Bool) (d : Demand) (p : Place) → at p ≡ false → demanded at d (leaf p) ≡ 0
not_asked_there at Nothing p h = refl
not_asked_there at (Whole n) p h = let e : here (at p) ≡ 0 = ap here h in raised_nothing n (max (here (at p)) 0) (omega arith)
not_asked_there at (Inside n) p h = raised_nothing n 0 refl
not_asked_there at (Assigned n) p h = let e : here (at p) ≡ 0 = ap here h in raised_nothing n (max (here (at p)) 0) (omega arith)
not_asked_there at (InsideAssigned n) p h = raised_nothing n 0 refl

pub token_avoided : (at : Place → Bool) (d : Demand) (t : Token) → at (place_of t) ≡ false → entry_depth at d (entry_of (PToken t)) ≡ 0
token_avoided at d (At p k) h = not_asked_there at d p h

by_token : (t : Token) (k : ℕ) (symbols : List Symbol) (v w : Parts) (ts : List Token) (ds : List Demand) → Bounds symbols (PToken t ∷ v) w ts ds → Bounds (Tok k ∷ symbols) v w (t ∷ ts) ds
by_token t k symbols v w ts ds b = go b.demands b.many b.stand b.stand_so b.no_less b.turned b.aims_met
  where
    go : (these : List Demand) → length these ≡ length (entries_of (PToken t ∷ v)) → ((at : Place → Bool) → standing at (PToken t ∷ v) these ≤ standing at w ds)
        → ((at : Place → Bool) → avoids at ts ≡ true → standing at w ds ≤ standing at (PToken t ∷ v) these)
        → ((qs bs : List Ask) → AreAtMost qs ds → are_askable symbols (Some qs) ≡ true → least symbols (Some qs) ≡ Some bs → AreAtMost bs these)
        → (AreTurned (entries_of w) ds → AreTurned (entries_of (PToken t ∷ v)) these)
        → ((aims others : List Aim) → AreAimed aims (entries_of w) ds → are_aimable symbols (Some aims) ≡ true → aimed symbols (Some aims) ≡ Some others → AreAimed others (entries_of (PToken t ∷ v)) these)
        → Bounds (Tok k ∷ symbols) v w (t ∷ ts) ds
    go [] many stand stand_so no_less turned met = absurd (omega arith)
    go (d ∷ these) many stand stand_so no_less turned met =
        record {
          demands = these;
          many = omega arith;
          stand = λ at. (let s = stand at in omega arith);
          stand_so = λ at h. (
              let s = stand_so at (and_right (not (at (place_of t))) (avoids at ts) h) in
              let none : entry_depth at d (entry_of (PToken t)) ≡ 0 = token_avoided at d t (not_false (at (place_of t)) (and_left (not (at (place_of t))) (avoids at ts) h)) in omega arith
              );
          no_less = λ qs bs h a e. rest_of qs bs h a (least symbols (Some qs)) refl e;
          turned = λ h. (turned h).1;
          aims_met = λ aims others h a e. aims_rest aims others h a (aimed symbols (Some aims)) refl e;
        }
      where
        rest_of : (qs bs : List Ask) → AreAtMost qs ds → are_askable symbols (Some qs) ≡ true → (o : Option (List Ask)) → least symbols (Some qs) ≡ o → before (Tok k) o ≡ Some bs → AreAtMost bs these
        rest_of qs bs h a None o e = absurd (cc)
        rest_of qs bs h a (Some []) o e = absurd (cc)
        rest_of qs bs h a (Some (r ∷ rs)) o e = subst (λ (l : List Ask). AreAtMost l these) (same_Some rs bs e) (no_less qs (r ∷ rs) h a o).1

        aims_rest : (aims others : List Aim) → AreAimed aims (entries_of w) ds → are_aimable symbols (Some aims) ≡ true → (o : Option (List Aim)) → aimed symbols (Some aims) ≡ o → aims_before (Tok k) o ≡ Some others
            → AreAimed others (entries_of v) these
        aims_rest aims others h a None o e = absurd (cc)
        aims_rest aims others h a (Some []) o e = absurd (cc)
        aims_rest aims others h a (Some (r ∷ rs)) o e = subst (λ (l : List Aim). AreAimed l (entries_of v) these) (same_Some rs others e) (met aims (r ∷ rs) h a o).1

-- behind an action nodes stand no deeper than what it asks of the parts before it tells
pub stands_behind : (at : Place → Bool) (a : Action) (v : Parts) (new : List Entry) (more events : List Event) (ds : List Demand) → Begin v → effect_of a (entries_of v) ≡ Some (effect new more)
    → built events ≡ Some (outlines_of v) → built (more ++ events) ≡ Some (outlines_of (act a v)) → entries_of (act a v) ≡ new → standing at (act a v) ds ≤ standing at v (asked_before a ds)
stands_behind at a v new more events ds begun e b c same =
    let t = tied a (entries_of v) (effect new more) e ds in
    let tokens = t.3 at in
    let starts = starts_below a v at ds new more begun e in
    let old : depth_of at (outlines_of v) (asked more (of_outlines new ds)) ≡ depth_of at (outlines_of v) (of_outlines (entries_of v) (asked_before a ds)) = ap (depth_of at (outlines_of v)) t.0 in
    let behind = outlines_behind at v (act a v) more events (of_outlines new ds) b c in
    let names : tokens_depth at (entries_of (act a v)) ds ≡ tokens_depth at new ds = ap (λ (es : List Entry). tokens_depth at es ds) same in
    let outlines : depth_of at (outlines_of (act a v)) (of_outlines (entries_of (act a v)) ds) ≡ depth_of at (outlines_of (act a v)) (of_outlines new ds) =
    ap (λ (es : List Entry). depth_of at (outlines_of (act a v)) (of_outlines es ds)) same in omega arith

-- and no less deep
pub stands_before : (at : Place → Bool) (a : Action) (v : Parts) (new : List Entry) (more events : List Event) (ds : List Demand) → effect_of a (entries_of v) ≡ Some (effect new more)
    → built events ≡ Some (outlines_of v) → built (more ++ events) ≡ Some (outlines_of (act a v)) → entries_of (act a v) ≡ new → standing at v (asked_before a ds) ≤ standing at (act a v) ds
stands_before at a v new more events ds e b c same =
    let t = tied a (entries_of v) (effect new more) e ds in
    let tokens = t.1 at in
    let old : depth_of at (outlines_of v) (asked more (of_outlines new ds)) ≡ depth_of at (outlines_of v) (of_outlines (entries_of v) (asked_before a ds)) = ap (depth_of at (outlines_of v)) t.0 in
    let behind = outlines_behind at v (act a v) more events (of_outlines new ds) b c in
    let names : tokens_depth at (entries_of (act a v)) ds ≡ tokens_depth at new ds = ap (λ (es : List Entry). tokens_depth at es ds) same in
    let outlines : depth_of at (outlines_of (act a v)) (of_outlines (entries_of (act a v)) ds) ≡ depth_of at (outlines_of (act a v)) (of_outlines new ds) =
    ap (λ (es : List Entry). depth_of at (outlines_of (act a v)) (of_outlines es ds)) same in omega arith

by_action : (a : Action) (symbols : List Symbol) (v w : Parts) (new : List Entry) (more events : List Event) (ts : List Token) (ds : List Demand) → Begin v → effect_of a (entries_of v) ≡ Some (effect new more)
    → built events ≡ Some (outlines_of v) → built (more ++ events) ≡ Some (outlines_of (act a v)) → entries_of (act a v) ≡ new → Bounds symbols (act a v) w ts ds → Bounds (Do a ∷ symbols) v w ts ds
by_action a symbols v w new more events ts ds begun e b c same r =
    let t = tied a (entries_of v) (effect new more) e r.demands in
    record {
      demands = asked_before a r.demands;
      many = t.2 (r.many ∙ ap length same);
      stand_so = λ at h. (let o = stands_behind at a v new more events r.demands begun e b c same in let s = r.stand_so at h in omega arith);
      stand = λ at. (let o = stands_before at a v new more events r.demands e b c same in let s = r.stand at in omega arith);
      no_less = λ qs bs h k f. kept qs bs h k (least symbols (Some qs)) refl f;
      turned = λ h. turned_before a (entries_of v) new more r.demands e (subst (λ (es : List Entry). AreTurned es r.demands) same (r.turned h));
      aims_met = λ aims others h k f. aims_kept aims others h k (aimed symbols (Some aims)) refl f;
    }
  where
    kept : (qs bs : List Ask) → AreAtMost qs ds → are_askable symbols (Some qs) ≡ true → (o : Option (List Ask)) → least symbols (Some qs) ≡ o → before (Do a) o ≡ Some bs → AreAtMost bs (asked_before a r.demands)
    kept qs bs h k None o f = absurd (cc)
    kept qs bs h k (Some rs) o f = action_kept a rs bs r.demands f (r.no_less qs rs h k o)

    aims_kept : (aims others : List Aim) → AreAimed aims (entries_of w) ds → are_aimable symbols (Some aims) ≡ true → (o : Option (List Aim)) → aimed symbols (Some aims) ≡ o → aims_before (Do a) o ≡ Some others
        → AreAimed others (entries_of v) (asked_before a r.demands)
    aims_kept aims others h k None o f = absurd (cc)
    aims_kept aims others h k (Some rs) o f =
        action_aimed a (entries_of v) new more r.demands rs others e f (subst (λ (es : List Entry). AreAimed rs es r.demands) same (r.aims_met aims rs h k o))

by_row : (x : Nonterminal) (r : Row Nonterminal Action Parts) (symbols : List Symbol) (v w : Parts) (ts : List Token) (ds : List Demand) → IsRow r (table.rows x) → Bounds (r.symbols ++ symbols) v w ts ds
    → Bounds (Non x ∷ symbols) v w ts ds
by_row x r symbols v w ts ds i b =
    record {
      demands = b.demands;
      many = b.many;
      stand = b.stand;
      stand_so = b.stand_so;
      no_less = λ qs bs h k f. lowered qs bs h (and_right (may_ask_first x (least symbols (Some qs))) _ k) (least symbols (Some qs)) refl (and_left _ _ k) f;
      turned = b.turned;
      aims_met = λ aims others h k f. aims_lowered aims others h (and_right (may_aim_first x (aimed symbols (Some aims))) _ k) (aimed symbols (Some aims)) refl (and_left _ _ k) f;
    }
  where
    lowered : (qs bs : List Ask) → AreAtMost qs ds → are_askable symbols (Some qs) ≡ true → (o : Option (List Ask)) → least symbols (Some qs) ≡ o → may_ask_first x o ≡ true → before (Non x) o ≡ Some bs
        → AreAtMost bs b.demands
    lowered qs bs h k None o m f = absurd (cc)
    lowered qs bs h k (Some []) o m f = absurd (cc)
    lowered qs bs h k (Some (q ∷ cs)) o m f =
        let l = low_row x q r i m in
        let joined : least (r.symbols ++ symbols) (Some qs) ≡ Some (l.asks ++ cs) = least_joined r.symbols symbols (Some qs) ∙ ap (least r.symbols) o ∙ least_frame r.symbols (q ∷ []) l.asks cs l.least_is in
        let askable : are_askable (r.symbols ++ symbols) (Some qs) ≡ true = askable_joined r.symbols symbols q cs (Some qs) o l.askable k in
        subst (λ (x : List Ask). AreAtMost x b.demands) (same_Some (map (ask_least q) (low x) ++ cs) bs f)
        (no_more_all (map (ask_least q) (low x)) l.asks cs b.demands l.no_more_is (b.no_less qs (l.asks ++ cs) h askable joined))

    aims_lowered : (aims others : List Aim) → AreAimed aims (entries_of w) ds → are_aimable symbols (Some aims) ≡ true → (o : Option (List Aim)) → aimed symbols (Some aims) ≡ o → may_aim_first x o ≡ true
        → aims_before (Non x) o ≡ Some others → AreAimed others (entries_of v) b.demands
    aims_lowered aims others h k None o m f = absurd (cc)
    aims_lowered aims others h k (Some []) o m f = absurd (cc)
    aims_lowered aims others h k (Some (aim ∷ cs)) o m f =
        let l = aims_row x aim r i m in
        let joined : aimed (r.symbols ++ symbols) (Some aims) ≡ Some (l.aims ++ cs) = aimed_joined r.symbols symbols (Some aims) ∙ ap (aimed r.symbols) o ∙ aimed_frame r.symbols (aim ∷ []) l.aims cs l.aimed_is in
        let aimable : are_aimable (r.symbols ++ symbols) (Some aims) ≡ true = aimable_joined r.symbols symbols aim cs (Some aims) o l.aimable k in
        subst (λ (z : List Aim). AreAimed z (entries_of v) b.demands) (same_Some (said x aim ++ cs) others f)
        (no_more_aimed (said x aim) l.aims cs (entries_of v) b.demands l.no_more_is (b.aims_met aims (l.aims ++ cs) h aimable joined))

pub bounded : (n : ℕ) (symbols : List Symbol) (v w : Parts) (ts : List Token) (events : List Event) (ds : List Demand) → Fit symbols (entries_of v) → built events ≡ Some (outlines_of v) → Begin v
    → Derives table n symbols v ts w → length ds ≡ length (entries_of w) → Bounds symbols v w ts ds
bounded zero [] v w ts events ds f b g d m =
    record {
      demands = ds;
      many = m ∙ ap (λ (u : Parts). length (entries_of u)) (sym d.1);
      stand = λ at. (let e : standing at v ds ≡ standing at w ds = ap (λ (u : Parts). standing at u ds) d.1 in omega arith);
      stand_so = λ at h. (let e : standing at v ds ≡ standing at w ds = ap (λ (u : Parts). standing at u ds) d.1 in omega arith);
      no_less = λ qs bs h k e. subst (λ (l : List Ask). AreAtMost l ds) (same_Some qs bs e) h;
      turned = subst (λ (u : Parts). AreTurned (entries_of w) ds → AreTurned (entries_of u) ds) (sym d.1) (λ h. h);
      aims_met = λ aims others h k e. subst (λ (u : Parts). AreAimed others (entries_of u) ds) (sym d.1) (subst (λ (l : List Aim). AreAimed l (entries_of w) ds) (same_Some aims others e) h);
    }
bounded zero (s ∷ symbols) v w ts events ds f b g d m = absurd d
bounded (suc n) [] v w ts events ds f b g d m = absurd d
bounded (suc n) (Tok k ∷ symbols) v w ts events ds f b g (t, rest, e, kind, d) m =
    subst (λ (l : List Token). Bounds (Tok k ∷ symbols) v w l ds) (sym e)
    (by_token t k symbols v w rest ds
    (bounded n symbols (PToken t ∷ v) w rest events ds (f (entry_of (PToken t)) (subst (λ (m : ℕ). fits (token_kind m) (entry_of (PToken t)) ≡ true) kind (token_fits_so t))) b (tt, g) d m))
bounded (suc n) (Non x ∷ symbols) v w ts events ds f b g (r, i, a, d) m =
    by_row x r symbols v w ts ds i (bounded n (r.symbols ++ symbols) v w ts events ds (row_fits x r v symbols i a f.0 f.1) b g d m)
bounded (suc n) (Do a ∷ symbols) v w ts events ds f b g d m =
    let kept = effects_kept a v (effect f.0 f.1) f.2 in
    let put : built (f.1 ++ events) ≡ Some (outlines_of (act a v)) = built_more f.1 events ∙ ap (after_all f.1) b ∙ kept.1 in
    by_action a symbols v w f.0 f.1 events ts ds g f.2 b put kept.0 (bounded n symbols (act a v) w ts (f.1 ++ events) ds (subst (Fit symbols) (sym kept.0) f.3) put (parts_begin a v g) d m)
