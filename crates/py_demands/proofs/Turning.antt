-- An expression that may be targets is assigned to.
use Rattle.std.proofs.Common.{◌≡◌, ℕ, zero, suc, ◌≤◌, Bool, true, false, not, ◌==◌, List, [], ◌∷◌, ◌++◌, length, Option, Some, None, inl, inr, refl, sym, ap, ◌∙◌, subst, append-nil, append_assoc, eqb-true, arith}
use Rattle.grammars.specs.Grammar.{Tok, Non, Do, IsRow}
use Rattle.grammars.specs.Derivation.{Yields}
use Rattle.grammars.specs.Sets.{have_specimens}
use Rattle.grammars.proofs.Bools.{and_left, and_right, both}
use Rattle.grammars.proofs.Steps.{by_nothing, by_token, by_action, by_row}
use Rattle.grammars.proofs.Completions.{joined, specimens_joined, row_has_specimens}
use Rattle.py_tokens.specs.Token.{Place}
use Rattle.py_syntax.specs.Token.{Token, At}
use Rattle.py_syntax.specs.Kinds.{kind_at, kind_of}
use Rattle.py_syntax.specs.Tree.{Body}
use Rattle.py_syntax.specs.Build.{PToken, Parts, Action, act, are_targets_last}
use Rattle.py_syntax.specs.Laws.{finished}
use Rattle.py_syntax.specs.Table.{Symbol, Nonterminal, guarded, row, rows, table, sets, SmallTail, AssignTail}
use Rattle.py_syntax.specs.Grammar.{IsModule}
use Rattle.py_nesting.specs.Outlines.{Event, built}
use Rattle.py_syntax.proofs.TableSets.{completable}
use Rattle.py_nesting.specs.Asked.{targets_last}
use Rattle.py_nesting.specs.Depths.{body_depth}
use Rattle.py_nesting.specs.Shapes.{Entry, entries_of, outlines_of}
use Rattle.py_nesting.specs.Effects.{Effect, effect, effect_of}
use Rattle.py_nesting.specs.Walk.{Demand, Whole}
use Rattle.py_nesting.proofs.EffectsKept.{effects_kept}
use Rattle.py_nesting.proofs.FormsAgree.{targets_of_entries}
use Rattle.py_fronts.specs.Begins.{Begin}
use Rattle.py_fronts.specs.Fit.{Fit}
use Rattle.py_fronts.proofs.FrontsReached.{completion_law}
use Rattle.py_fronts.proofs.TableFits.{row_fits}
use Rattle.py_demands.specs.Asks.{place_of, avoids}
use Rattle.py_demands.specs.Bound.{standing}
use Rattle.py_demands.specs.Closing.{closing, exactly}
use Rattle.py_demands.specs.Turning.{is_tail, turning, with_effect, then_ends, ends, IsReached, TurningLaw, OtherRowLaw}
use Rattle.py_demands.proofs.Closed.{Same, Leads, Closed, closed, nothing_leads, token_leads, action_leads, rows_lead, sets_at, anywhere}
use Rattle.py_demands.proofs.RowsClose.{is_row, closed_by_specimens}
use Rattle.py_demands.proofs.Lower.{whole_stands}
use Rattle.std.proofs.lemmas.Option.{same_Some}

record Ends (p : Place) (symbols : List Symbol) (v : Parts) (es : List Entry) : Type 0 where
  pub tokens : List Token
  pub left : Parts
  pub derived : Yields table symbols v tokens left
  pub same : entries_of left ≡ es
  pub placed : (at : Place → Bool) → at p ≡ false → avoids at tokens ≡ true
  pub leads : Leads p symbols v left

avoids_both : (at : Place → Bool) (ts us : List Token) → avoids at ts ≡ true → avoids at us ≡ true → avoids at (ts ++ us) ≡ true
avoids_both at [] us h k = k
avoids_both at (t ∷ ts) us h k = both (not (at (place_of t))) _ (and_left _ _ h) (avoids_both at ts us (and_right (not (at (place_of t))) _ h) k)

ends_nothing : (p : Place) (v : Parts) (es : List Entry) → Some (entries_of v) ≡ Some es → Ends p [] v es
ends_nothing p v es e = record { tokens = []; left = v; derived = by_nothing table v; same = same_Some _ _ e; placed = λ at h. refl; leads = nothing_leads p v }

ends_token : (p : Place) (k : ℕ) (symbols : List Symbol) (v : Parts) (es : List Entry) → kind_of (At p (kind_at k)) ≡ k → Ends p symbols (PToken (At p (kind_at k)) ∷ v) es → Ends p (Tok k ∷ symbols) v es
ends_token p k symbols v es kind r =
    record {
      tokens = At p (kind_at k) ∷ r.tokens;
      left = r.left;
      derived = subst (λ (m : ℕ). Yields table (Tok m ∷ symbols) v (At p (kind_at k) ∷ r.tokens) r.left) kind (by_token table (At p (kind_at k)) symbols v r.tokens r.left r.derived);
      same = r.same;
      placed = λ at h. both (not (at p)) _ (ap not h) (r.placed at h);
      leads = token_leads p k symbols v r.left kind r.leads;
    }

ends_action : (p : Place) (a : Action) (symbols : List Symbol) (v : Parts) (es : List Entry) → Ends p symbols (act a v) es → Ends p (Do a ∷ symbols) v es
ends_action p a symbols v es r =
    record { tokens = r.tokens; left = r.left; derived = by_action table a symbols v r.tokens r.left r.derived; same = r.same; placed = r.placed; leads = action_leads p a symbols v r.left r.leads }

ends_row : (p : Place) (x : Nonterminal) (symbols : List Symbol) (v : Parts) (fs es : List Entry) (c : Ends p (closing x) v fs) → Ends p symbols c.left es → Ends p (Non x ∷ symbols) v es
ends_row p x symbols v fs es c r =
    record {
      tokens = c.tokens ++ r.tokens;
      left = r.left;
      derived = by_row table x (row (closing x)) symbols v (c.tokens ++ r.tokens) r.left (is_row x) refl (joined table c.derived.0 (closing x) symbols v c.left r.left c.tokens r.tokens c.derived.1 r.derived);
      same = r.same;
      placed = λ at h. avoids_both at c.tokens r.tokens (c.placed at h) (r.placed at h);
      leads = rows_lead p x symbols v c.left r.left c.leads r.leads;
    }

ends_so : (n : ℕ) (p : Place) (symbols : List Symbol) (v : Parts) (es : List Entry) → have_specimens table (sets_at p) symbols ≡ true → ends n p symbols (entries_of v) ≡ Some es → Ends p symbols v es
ends_so n p [] v es h e = ends_nothing p v es e
ends_so n p (Tok k ∷ symbols) v es h e = ends_token p k symbols v es (eqb-true _ _ (and_left (kind_of (At p (kind_at k)) == k) _ h)) (ends_so n p symbols (PToken (At p (kind_at k)) ∷ v) es (and_right (kind_of (At p (kind_at k)) == k) _ h) e)
ends_so n p (Do a ∷ symbols) v es h e = go (effect_of a (entries_of v)) refl e (λ k. ends_so n p symbols (act a v) es h k)
  where
    go : (o : Option Effect) → effect_of a (entries_of v) ≡ o → with_effect (ends n p symbols) o ≡ Some es → (ends n p symbols (entries_of (act a v)) ≡ Some es → Ends p symbols (act a v) es) → Ends p (Do a ∷ symbols) v es
    go None o k again = absurd (cc)
    go (Some (effect new events)) o k again =
        let kept = effects_kept a v (effect new events) o in ends_action p a symbols v es (again (ap (ends n p symbols) kept.0 ∙ k))
ends_so zero p (Non x ∷ symbols) v es h e = absurd (cc)
ends_so (suc n) p (Non x ∷ symbols) v es h e = go (ends n p (closing x) (entries_of v)) refl e (λ fs k. ends_so n p (closing x) v fs (anywhere p (closing x) (closed_by_specimens x)) k) (λ w k. ends_so (suc n) p symbols w es h k)
  where
    go : (o : Option (List Entry)) → ends n p (closing x) (entries_of v) ≡ o → then_ends (ends (suc n) p symbols) o ≡ Some es
        → ((fs : List Entry) → ends n p (closing x) (entries_of v) ≡ Some fs → Ends p (closing x) v fs)
        → ((w : Parts) → ends (suc n) p symbols (entries_of w) ≡ Some es → Ends p symbols w es) → Ends p (Non x ∷ symbols) v es
    go None o k closes again = absurd (cc)
    go (Some fs) o k closes again = let c = closes fs o in ends_row p x symbols v fs es c (again c.left (ap (ends (suc n) p symbols) c.same ∙ k))

-- the row that assigns
pub turning_row : (x : Nonterminal) → is_tail x ≡ true → IsRow (guarded are_targets_last (turning x)) (rows x) × (have_specimens table sets (turning x) ≡ true)
turning_row SmallTail h = (inr (inl refl), refl)
turning_row AssignTail h = (inr (inl refl), refl)
turning_row x h = absurd (cc)

pub specimens_first : (these symbols : List Symbol) → have_specimens table sets (these ++ symbols) ≡ true → have_specimens table sets these ≡ true
specimens_first [] symbols h = refl
specimens_first (Tok k ∷ these) symbols h = both _ _ (and_left _ _ h) (specimens_first these symbols (and_right _ _ h))
specimens_first (Non x ∷ these) symbols h = specimens_first these symbols h
specimens_first (Do a ∷ these) symbols h = specimens_first these symbols h

pub specimens_last : (these symbols : List Symbol) → have_specimens table sets (these ++ symbols) ≡ true → have_specimens table sets symbols ≡ true
specimens_last [] symbols h = h
specimens_last (Tok k ∷ these) symbols h = specimens_last these symbols (and_right _ _ h)
specimens_last (Non x ∷ these) symbols h = specimens_last these symbols h
specimens_last (Do a ∷ these) symbols h = specimens_last these symbols h

whole_so : (p : Place) (u v : Parts) (us ds : List Demand) (body : Body) (at : Place → Bool) → Same at p (finished body) (Whole 0 ∷ []) u us → Same at p u us v ds
    → (standing at v ds ≤ body_depth at body) × (at p ≡ false → body_depth at body ≤ standing at v ds)
whole_so p u v us ds body at s n = let w = whole_stands at body in ((let t = s.0 in let o = n.0 in omega arith), λ h. (let t = s.1 h in let o = n.1 h in omega arith))

one_left : (w : Parts) (body : Body) → w ≡ finished body → length (Whole 0 ∷ []) ≡ length (entries_of w)
one_left w body e = subst (λ (u : Parts). length (Whole 0 ∷ []) ≡ length (entries_of u)) (sym e) refl

-- what these symbols derive completes the front
abbrev Completes : List Token → List Symbol → Parts → Type 0
Completes front symbols v = (more : List Token) (w : Parts) → Yields table symbols v more w → (body : Body) × (w ≡ finished body) × IsModule body (front ++ more)

turned_to : (front : List Token) (above rest : List Symbol) (x : Nonterminal) (v : Parts) (es : List Entry) (us ds : List Demand) (p : Place) (i : ℕ) (events : List Event) → is_tail x ≡ true
    → Completes front (above ++ Non x ∷ rest) v → Fit (above ++ Non x ∷ rest) (entries_of v) → built events ≡ Some (outlines_of v) → Begin v
    → have_specimens table sets (above ++ Non x ∷ rest) ≡ true → ends i p above (entries_of v) ≡ Some es → targets_last es ≡ true
    → exactly (turning x ++ rest) (Some (Whole 0 ∷ [])) ≡ Some us → exactly above (Some us) ≡ Some ds → IsReached front v ds p
turned_to front above rest x v es us ds p i events tail completes fits put begun k e t u d =
    at_end (ends_so i p above v es (anywhere p above (specimens_first above (Non x ∷ rest) k)) e)
  where
    at_end : Ends p above v es → IsReached front v ds p
    at_end c =
        let r = turning_row x tail in
        let may : are_targets_last c.left ≡ true = targets_of_entries c.left ∙ ap targets_last c.same ∙ t in
        let l = c.leads (Non x ∷ rest) events fits put begun in
        let fit : Fit (turning x ++ rest) (entries_of c.left) = row_fits x (guarded are_targets_last (turning x)) c.left rest r.0 may l.0.0 l.0.1 in
        from_there may l.1.0 fit l.1.1 l.2 (l.3 us ds) (closed p (turning x ++ rest) c.left (specimens_joined table sets (turning x) rest r.1 (specimens_last above (Non x ∷ rest) k)))
      where
        from_there : are_targets_last c.left ≡ true → (later : List Event) → Fit (turning x ++ rest) (entries_of c.left) → built later ≡ Some (outlines_of c.left) → Begin c.left
            → (length us ≡ length (entries_of c.left) → exactly above (Some us) ≡ Some ds → (length ds ≡ length (entries_of v)) × ((at : Place → Bool) → Same at p c.left us v ds))
            → Closed p (turning x ++ rest) c.left → IsReached front v ds p
        from_there may later fit there starts l g =
            let whole : Yields table (Non x ∷ rest) c.left g.tokens g.left = by_row table x (guarded are_targets_last (turning x)) rest c.left g.tokens g.left (turning_row x tail).0 may g.derived in
            let y : Yields table (above ++ Non x ∷ rest) v (c.tokens ++ g.tokens) g.left = joined table c.derived.0 above (Non x ∷ rest) v c.left g.left c.tokens g.tokens c.derived.1 whole in
            let m = completes (c.tokens ++ g.tokens) g.left y in
            let h = g.leads [] later (subst (λ (s : List Symbol). Fit s (entries_of c.left)) (sym (append-nil (turning x ++ rest))) fit) there starts in
            let i = h.3 (Whole 0 ∷ []) us (one_left g.left m.0 m.1) u in
            let j = l i.0 d in (
              c.tokens ++ g.tokens,
              m.0,
              m.2,
              (λ at n. avoids_both at c.tokens g.tokens (c.placed at n) (g.placed at n)),
              j.0,
              λ at. whole_so p c.left v us ds m.0 at (subst (λ (w : Parts). Same at p w (Whole 0 ∷ []) c.left us) m.1 (i.1 at)) (j.1 at),
            )

pub turning_law : TurningLaw
turning_law front above rest x v es us ds p n tail f k e t u d = turned_to front above rest x v es us ds p n f.events tail (completion_law front (above ++ Non x ∷ rest) v f).1 f.fit f.put f.begun k e t u d

-- a front with more tokens, from which it is gone on
reached_before : (front : List Token) (first : List Symbol) (v : Parts) (fs : List Entry) (ws ds : List Demand) (p : Place) (c : Ends p first v fs)
    → (length ws ≡ length (entries_of c.left) → (length ds ≡ length (entries_of v)) × ((at : Place → Bool) → Same at p c.left ws v ds)) → IsReached (front ++ c.tokens) c.left ws p → IsReached front v ds p
reached_before front first v fs ws ds p c l (more, body, m, placed, many, stand) =
    let j = l many in (
      c.tokens ++ more,
      body,
      subst (IsModule body) (append_assoc front c.tokens more) m,
      (λ at n. avoids_both at c.tokens more (c.placed at n) (placed at n)),
      j.0,
      λ at. ((let a = (stand at).0 in let b = (j.1 at).0 in omega arith), λ h. (let a = (stand at).1 h in let b = (j.1 at).1 h in omega arith)),
    )

row_specimens : (y : Nonterminal) (these : List Symbol) → IsRow (row these) (rows y) → have_specimens table sets these ≡ true
row_specimens y these i = row_has_specimens table sets (rows y) (row these) (and_right _ _ (completable y)) i

pub other_row_law : OtherRowLaw
other_row_law front first these above rest y x v fs es us ws ds p n i tail f k e o t u w d =
    let c = ends_so n p first v fs (anywhere p first (specimens_first first (Non y ∷ above ++ Non x ∷ rest) k)) e in
    let l = c.leads (Non y ∷ above ++ Non x ∷ rest) f.events f.fit f.put f.begun in
    from_there c l.1.0 l.0 l.1.1 l.2 (λ m. l.3 ws ds m d)
  where
    same : (these ++ above) ++ Non x ∷ rest ≡ these ++ (above ++ Non x ∷ rest)
    same = append_assoc these above (Non x ∷ rest)

    completes : (c : Ends p first v fs) → Completes (front ++ c.tokens) ((these ++ above) ++ Non x ∷ rest) c.left
    completes c more w z =
        let one : Yields table (Non y ∷ above ++ Non x ∷ rest) c.left more w = by_row table y (row these) (above ++ Non x ∷ rest) c.left more w i refl (subst (λ (s : List Symbol). Yields table s c.left more w) same z) in
        let all : Yields table (first ++ (Non y ∷ above ++ Non x ∷ rest)) v (c.tokens ++ more) w = joined table c.derived.0 first (Non y ∷ above ++ Non x ∷ rest) v c.left w c.tokens more c.derived.1 one in
        let m = (completion_law front (first ++ (Non y ∷ above ++ Non x ∷ rest)) v f).1 (c.tokens ++ more) w all in
        (m.0, m.1, subst (IsModule m.0) (sym (append_assoc front c.tokens more)) m.2)

    from_there : (c : Ends p first v fs) (later : List Event) → Fit (Non y ∷ above ++ Non x ∷ rest) (entries_of c.left) → built later ≡ Some (outlines_of c.left) → Begin c.left
        → (length ws ≡ length (entries_of c.left) → (length ds ≡ length (entries_of v)) × ((at : Place → Bool) → Same at p c.left ws v ds)) → IsReached front v ds p
    from_there c later fit there starts l =
        let all : have_specimens table sets ((these ++ above) ++ Non x ∷ rest) ≡ true =
        subst (λ (s : List Symbol). have_specimens table sets s ≡ true) (sym same)
        (specimens_joined table sets these (above ++ Non x ∷ rest) (row_specimens y these i) (specimens_last first (Non y ∷ above ++ Non x ∷ rest) k)) in
        let begins : Fit ((these ++ above) ++ Non x ∷ rest) (entries_of c.left) = subst (λ (s : List Symbol). Fit s (entries_of c.left)) (sym same) (row_fits y (row these) c.left (above ++ Non x ∷ rest) i refl fit.0 fit.1) in
        reached_before front first v fs ws ds p c l
        (turned_to (front ++ c.tokens) (these ++ above) rest x c.left es us ws p n later tail (completes c) begins there starts all (ap (ends n p (these ++ above)) c.same ∙ o) t u w)
