-- Symbols can be closed by tokens at one place, and then ask just what the rows that close them ask.
use Rattle.std.proofs.Common.{nat_lt, ◌==◌, ◌≡◌, ℕ, ◌≤◌, Bool, true, false, not, List, [], ◌∷◌, ◌++◌, length, Option, Some, None, refl, sym, ap, ◌∙◌, subst, arith}
use Rattle.grammars.specs.Grammar.{Tok, Non, Do}
use Rattle.grammars.specs.Derivation.{Yields}
use Rattle.grammars.specs.Sets.{Sets, are_below, have_specimens}
use Rattle.grammars.proofs.Bools.{and_left, and_right, both}
use Rattle.grammars.proofs.Completions.{AreSpecimens, IsLed, IsAnswered, answered}
use Rattle.py_tokens.specs.Token.{Place}
use Rattle.py_syntax.specs.Token.{Token, At}
use Rattle.py_syntax.specs.Kinds.{kind_at, kind_of}
use Rattle.py_syntax.specs.Build.{PToken, Parts, Action, Drop, act}
use Rattle.py_syntax.specs.Table.{Symbol, Nonterminal, row, table, sets}
use Rattle.py_nesting.specs.Outlines.{Event, built}
use Rattle.py_nesting.specs.Shapes.{entry_of, entries_of, outlines_of}
use Rattle.py_nesting.specs.Effects.{effect, after_all}
use Rattle.py_nesting.specs.Walk.{Demand, Nothing}
use Rattle.py_nesting.proofs.EffectsKept.{effects_kept}
use Rattle.py_fronts.specs.Kinds.{fits, token_kind}
use Rattle.py_fronts.specs.Begins.{Begin}
use Rattle.py_fronts.specs.Fit.{Fit}
use Rattle.py_fronts.proofs.TableFits.{row_fits}
use Rattle.py_fronts.proofs.DerivedFit.{token_fits_so}
use Rattle.py_nesting.proofs.EventsAdded.{built_more}
use Rattle.py_fronts.proofs.PartsBegin.{parts_begin}
use Rattle.py_demands.specs.Roles.{asked_before}
use Rattle.py_demands.specs.Asks.{place_of, avoids}
use Rattle.py_demands.specs.Closing.{closing, exactly_by, exactly_before, exactly}
use Rattle.py_demands.specs.Bound.{standing}
use Rattle.py_demands.proofs.EffectsTied.{tied}
use Rattle.std.proofs.lemmas.Option.{same_Some}
use Rattle.py_demands.proofs.Bounded.{stands_before, stands_behind, token_avoided}
use Rattle.py_demands.proofs.RowsClose.{is_row, closes, closing_rank, closing_sets, closed_below, closed_by_specimens}

-- nodes stand behind as deep as before, but for those at this place
abbrev pub Same : (Place → Bool) → Place → Parts → List Demand → Parts → List Demand → Type 0
Same at p w ds v us = (standing at v us ≤ standing at w ds) × (at p ≡ false → standing at w ds ≤ standing at v us)

-- what symbols lead to, where it is known what comes behind them
abbrev pub Leads : Place → List Symbol → Parts → Parts → Type 0
Leads p symbols v w =
    (more : List Symbol) (events : List Event) → Fit (symbols ++ more) (entries_of v) → built events ≡ Some (outlines_of v) → Begin v
    → Fit more (entries_of w) × ((later : List Event) × (built later ≡ Some (outlines_of w))) × Begin w
    × ((ds us : List Demand) → length ds ≡ length (entries_of w) → exactly symbols (Some ds) ≡ Some us
    → (length us ≡ length (entries_of v)) × ((at : Place → Bool) → Same at p w ds v us))

pub record Closed (p : Place) (symbols : List Symbol) (v : Parts) : Type 0 where
  pub tokens : List Token
  pub left : Parts
  pub derived : Yields table symbols v tokens left
  pub placed : (at : Place → Bool) → at p ≡ false → avoids at tokens ≡ true
  pub leads : Leads p symbols v left

exact_is : (a : Action) (ds us : List Demand) → exactly_by a ds ≡ Some us → us ≡ asked_before a ds
exact_is Drop ds us e = sym (same_Some (Nothing ∷ ds) us e)
exact_is a [] us e = absurd (cc)
exact_is a (d ∷ ds) us e = sym (same_Some _ us e)

pub nothing_leads : (p : Place) (v : Parts) → Leads p [] v v
nothing_leads p v more events f b g = (f, (events, b), g, λ ds us m e. let same : ds ≡ us = same_Some ds us e in subst (λ (x : List Demand). (length x ≡ length (entries_of v)) × ((at : Place → Bool) → Same at p v ds v x)) same (m, λ at. ((omega arith), λ h. omega arith)))

pub token_leads : (p : Place) (k : ℕ) (symbols : List Symbol) (v w : Parts) → kind_of (At p (kind_at k)) ≡ k → Leads p symbols (PToken (At p (kind_at k)) ∷ v) w → Leads p (Tok k ∷ symbols) v w
token_leads p k symbols v w kind l more events f b g =
    let t : Token = At p (kind_at k) in
    let r = l more events (f (entry_of (PToken t)) (subst (λ (m : ℕ). fits (token_kind m) (entry_of (PToken t)) ≡ true) kind (token_fits_so t))) b (tt, g) in
    (r.0, r.1, r.2, λ ds us m e. before ds us (exactly symbols (Some ds)) refl e (r.3 ds) m)
  where
    before : (ds us : List Demand) (o : Option (List Demand)) → exactly symbols (Some ds) ≡ o → exactly_before (Tok k) o ≡ Some us
        → ((us : List Demand) → length ds ≡ length (entries_of w) → exactly symbols (Some ds) ≡ Some us
        → (length us ≡ length (entries_of (PToken (At p (kind_at k)) ∷ v))) × ((at : Place → Bool) → Same at p w ds (PToken (At p (kind_at k)) ∷ v) us))
        → length ds ≡ length (entries_of w) → (length us ≡ length (entries_of v)) × ((at : Place → Bool) → Same at p w ds v us)
    before ds us None o e r m = absurd (cc)
    before ds us (Some []) o e r m = absurd (cc)
    before ds us (Some (d ∷ these)) o e r m =
        let same : these ≡ us = same_Some these us e in
        let s = r (d ∷ these) m o in
        subst (λ (x : List Demand). (length x ≡ length (entries_of v)) × ((at : Place → Bool) → Same at p w ds v x)) same
        ((let n = s.0 in omega arith), λ at. ((let n = (s.1 at).0 in omega arith), λ h. (let n = (s.1 at).1 h in let none = token_avoided at d (At p (kind_at k)) h in omega arith)))

pub action_leads : (p : Place) (a : Action) (symbols : List Symbol) (v w : Parts) → Leads p symbols (act a v) w → Leads p (Do a ∷ symbols) v w
action_leads p a symbols v w l more events f b g =
    let kept = effects_kept a v (effect f.0 f.1) f.2 in
    let put : built (f.1 ++ events) ≡ Some (outlines_of (act a v)) = built_more f.1 events ∙ ap (after_all f.1) b ∙ kept.1 in
    let r = l more (f.1 ++ events) (subst (Fit (symbols ++ more)) (sym kept.0) f.3) put (parts_begin a v g) in
    (r.0, r.1, r.2, λ ds us m e. before put kept.0 ds us (exactly symbols (Some ds)) refl e (r.3 ds) m)
  where
    before : built (f.1 ++ events) ≡ Some (outlines_of (act a v)) → entries_of (act a v) ≡ f.0 → (ds us : List Demand) (o : Option (List Demand)) → exactly symbols (Some ds) ≡ o → exactly_before (Do a) o ≡ Some us
        → ((us : List Demand) → length ds ≡ length (entries_of w) → exactly symbols (Some ds) ≡ Some us
        → (length us ≡ length (entries_of (act a v))) × ((at : Place → Bool) → Same at p w ds (act a v) us))
        → length ds ≡ length (entries_of w) → (length us ≡ length (entries_of v)) × ((at : Place → Bool) → Same at p w ds v us)
    before put same ds us None o e r m = absurd (cc)
    before put same ds us (Some these) o e r m =
        let is : us ≡ asked_before a these = exact_is a these us e in
        let s = r these m o in
        let t = tied a (entries_of v) (effect f.0 f.1) f.2 these in
        subst (λ (x : List Demand). (length x ≡ length (entries_of v)) × ((at : Place → Bool) → Same at p w ds v x)) (sym is) (
          t.2 (s.0 ∙ ap length same),
          λ at. (
            (let n = (s.1 at).0 in let o = stands_before at a v f.0 f.1 events these f.2 b put same in omega arith),
            λ h. (let n = (s.1 at).1 h in let o = stands_behind at a v f.0 f.1 events these g f.2 b put same in omega arith),
          ),
        )

pub rows_lead : (p : Place) (x : Nonterminal) (symbols : List Symbol) (v u w : Parts) → Leads p (closing x) v u → Leads p symbols u w → Leads p (Non x ∷ symbols) v w
rows_lead p x symbols v u w l k more events f b g =
    let fit : Fit (closing x ++ (symbols ++ more)) (entries_of v) = row_fits x (row (closing x)) v (symbols ++ more) (is_row x) refl f.0 f.1 in
    let r = l (symbols ++ more) events fit b g in
    let s = k more r.1.0 r.0 r.1.1 r.2 in
    (s.0, s.1, s.2, λ ds us m e. before ds us (exactly symbols (Some ds)) refl e (s.3 ds) r.3 m)
  where
    before : (ds us : List Demand) (o : Option (List Demand)) → exactly symbols (Some ds) ≡ o → exactly_before (Non x) o ≡ Some us
        → ((us : List Demand) → length ds ≡ length (entries_of w) → exactly symbols (Some ds) ≡ Some us
        → (length us ≡ length (entries_of u)) × ((at : Place → Bool) → Same at p w ds u us))
        → ((ds us : List Demand) → length ds ≡ length (entries_of u) → exactly (closing x) (Some ds) ≡ Some us
        → (length us ≡ length (entries_of v)) × ((at : Place → Bool) → Same at p u ds v us))
        → length ds ≡ length (entries_of w) → (length us ≡ length (entries_of v)) × ((at : Place → Bool) → Same at p w ds v us)
    before ds us None o e s r m = absurd (cc)
    before ds us (Some []) o e s r m = absurd (cc)
    before ds us (Some (d ∷ these)) o e s r m =
        let behind = s (d ∷ these) m o in
        let front = r (d ∷ these) us behind.0 (closes x d these ∙ e) in
        (front.0, λ at. ((let n = (behind.1 at).0 in let i = (front.1 at).0 in omega arith), λ h. (let n = (behind.1 at).1 h in let i = (front.1 at).1 h in omega arith)))

-- tokens at p
abbrev pub sets_at : Place → Sets Nonterminal Token
sets_at p = record { nullable = sets.nullable; first = sets.first; follow = sets.follow; rank = closing_rank; specimen = λ k. At p (kind_at k) }

-- which place it is makes no difference
pub anywhere : (p : Place) (symbols : List Symbol) → have_specimens table sets symbols ≡ true → have_specimens table (sets_at p) symbols ≡ true
anywhere p [] h = refl
anywhere p (Tok k ∷ symbols) h = both (kind_of (At p (kind_at k)) == k) _ (and_left _ _ h) (anywhere p symbols (and_right _ _ h))
anywhere p (Non x ∷ symbols) h = anywhere p symbols h
anywhere p (Do a ∷ symbols) h = anywhere p symbols h

below_anywhere : (p : Place) (n : ℕ) (symbols : List Symbol) → are_below closing_sets n symbols ≡ true → are_below (sets_at p) n symbols ≡ true
below_anywhere p n [] h = refl
below_anywhere p n (Tok k ∷ symbols) h = below_anywhere p n symbols h
below_anywhere p n (Non x ∷ symbols) h = both (nat_lt (closing_rank x) n) _ (and_left _ _ h) (below_anywhere p n symbols (and_right _ _ h))
below_anywhere p n (Do a ∷ symbols) h = below_anywhere p n symbols h

led : (p : Place) → IsLed table (sets_at p) (Leads p)
led p = record {
  nothing = nothing_leads p;
  token = λ k symbols v w kind l. token_leads p k symbols v w kind l;
  action = action_leads p;
  rows = λ x v. (row (closing x), is_row x, refl, below_anywhere p (closing_rank x) (closing x) (closed_below x), anywhere p (closing x) (closed_by_specimens x), λ symbols u w l k. rows_lead p x symbols v u w l k);
}

avoided : (at : Place → Bool) (p : Place) (ts : List Token) → at p ≡ false → AreSpecimens (sets_at p) ts → avoids at ts ≡ true
avoided at p [] h s = refl
avoided at p (t ∷ ts) h s = both (not (at (place_of t))) _ (ap (λ (u : Token). not (at (place_of u))) s.0.1 ∙ ap not h) (avoided at p ts h s.1)

pub closed : (p : Place) (symbols : List Symbol) (v : Parts) → have_specimens table sets symbols ≡ true → Closed p symbols v
closed p symbols v k =
    let a : IsAnswered table (sets_at p) (Leads p) symbols v = answered table (sets_at p) (Leads p) (led p) symbols v (anywhere p symbols k) in
    record { tokens = a.0; left = a.1; derived = a.2; placed = λ at h. avoided at p a.0 h a.4; leads = a.3 }
