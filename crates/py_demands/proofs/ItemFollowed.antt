-- An item is followed while its symbols are closed: what is asked of its parts, and a target at its end, or an operand that is none yet.
use Rattle.std.proofs.Common.{◌≡◌, ℕ, suc, ◌+◌, Bool, true, false, not, ◌&&◌, ◌==◌, List, [], ◌∷◌, ◌++◌, map, length, Option, Some, None, ◌⊎◌, inl, inr, refl, sym, ap, ◌∙◌, subst, eqb-true, arith}
use Rattle.grammars.specs.Grammar.{Tok, Non, Do}
use Rattle.grammars.specs.Sets.{have_specimens}
use Rattle.grammars.proofs.Bools.{and_left, and_right, both, not_false}
use Rattle.py_tokens.specs.Token.{Place}
use Rattle.py_syntax.specs.Token.{Token, At}
use Rattle.py_syntax.specs.Kinds.{kind_at, kind_of}
use Rattle.py_syntax.specs.Build.{PToken, Parts, act}
use Rattle.py_syntax.specs.Table.{Symbol, Nonterminal, table, PrimaryTail, AttributeTail}
use Rattle.py_nesting.specs.Asked.{target_last}
use Rattle.py_nesting.specs.Effects.{effect}
use Rattle.py_nesting.specs.Shapes.{ExprShape, Entry, entry, entry_of, entries_of}
use Rattle.py_nesting.specs.Walk.{Demand, Whole}
use Rattle.py_nesting.proofs.EffectsKept.{effects_kept}
use Rattle.py_fronts.specs.Fit.{Fit, Takes}
use Rattle.py_fronts.specs.Kinds.{fits, all_fit, token_kind, takes, AnExpr}
use Rattle.py_fronts.proofs.DerivedFit.{token_fits_so}
use Rattle.py_demands.specs.Aims.{Aim, Target, Extends, way, gone, aim_least, aims_symbol, aims_before, aimed}
use Rattle.py_demands.specs.Closing.{closing, exactly_symbol, exactly_before, exactly}
use Rattle.py_demands.specs.Least.{AtLeast, ask_least, low}
use Rattle.py_demands.specs.Readings.{has_never}
use Rattle.py_demands.specs.Ready.{begins_row, are_calm, is_inner, are_inner, makes_targets}
use Rattle.py_demands.specs.Turning.{with_effect, then_ends, ends}
use Rattle.py_demands.proofs.Closed.{sets_at}
use Rattle.py_demands.proofs.Found.{is_expression, AreFound, IsKept, other_so, first_never, action_found}
use Rattle.py_demands.proofs.FoundClosed.{StuckAt, Turns, closed_found}
use Rattle.py_demands.proofs.FewOpen.{calm_first}
use Rattle.py_demands.proofs.ItemSteps.{aims_first}
use Rattle.py_demands.proofs.ItemTurned.{ends_joined}
use Rattle.py_demands.proofs.ReadingsLow.{inner_quiet, is_tame, all_tame, tame_kept}
use Rattle.py_demands.proofs.ReadSettled.{all_ranked}
use Rattle.py_demands.proofs.Shut.{Shut, shut, asks_many}
use Rattle.std.proofs.lemmas.Option.{same_Some}

-- nothing that can't be a target is asked anywhere behind
abbrev pub never_there : Option (List Aim) → Bool
never_there None = false
never_there (Some aims) = has_never aims

abbrev pub are_clear : List Symbol → Option (List Aim) → Bool
are_clear [] base = true
are_clear (s ∷ symbols) base = not (never_there (aimed symbols base)) && are_clear symbols base

record Stepped (p : Place) (s : Symbol) (symbols : List Symbol) (v : Parts) (below : List Entry) (aims others : List Aim) (ds : List Demand) : Type 0 where
  left : Parts
  ends_so : ends 100 p (s ∷ []) (entries_of v) ≡ Some (entries_of left)
  fit : Fit symbols (entries_of left)
  asked : List Demand
  found : AreFound below aims (entries_of left) asked
  exact : exactly_symbol s asked ≡ Some ds
  kept : IsKept others (entries_of v) → IsKept aims (entries_of left)

record Stuck (s : Symbol) (aims others : List Aim) (v : Parts) (below : List Entry) (ds : List Demand) : Type 0 where
  tail : Nonterminal
  symbol_is : s ≡ Non tail
  aim : Aim
  rest : List Aim
  aims_are : aims ≡ aim ∷ rest
  stuck : StuckAt below tail aim rest others (entries_of v) ds

-- as many parts as a nonterminal takes
found_parted : {A : Type 0} (below : List Entry) (f : A → Aim) (these : List A) (aims : List Aim) (es : List Entry) (ds : List Demand) → AreFound below (map f these ++ aims) es ds → (taken : List Entry) × (rest : List Entry) × (es ≡ taken ++ rest) × (length taken ≡ length these)
found_parted below f [] aims es ds k = ([], es, refl, refl)
found_parted below f (a ∷ these) aims [] ds k = absurd k
found_parted below f (a ∷ these) aims (e ∷ es) [] k = absurd k
found_parted below f (a ∷ these) aims (e ∷ es) (d ∷ ds) k = let r = found_parted below f these aims es ds k.1 in (e ∷ r.0, r.1, ap (λ (l : List Entry). e ∷ l) r.2, ap suc r.3)

one_only : (es : List Entry) → length es ≡ 1 → (e : Entry) × (es ≡ e ∷ [])
one_only [] h = absurd (omega arith)
one_only (e ∷ []) h = (e, refl)
one_only (e ∷ (f ∷ es)) h = absurd (omega arith)

joined_one : (es rest : List Entry) (e : Entry) → es ≡ e ∷ [] → es ++ rest ≡ e ∷ rest
joined_one es rest e h = ap (λ (o : List Entry). o ++ rest) h

fit_expression : (e : Entry) → fits AnExpr e ≡ true → is_expression e ≡ true
fit_expression (entry (ExprShape f n) p) h = refl
fit_expression e h = absurd (cc)

-- what a tail takes is an expression
tail_takes : (x : Nonterminal) → way x ≡ Extends → takes x ≡ AnExpr ∷ []
tail_takes PrimaryTail h = refl
tail_takes AttributeTail h = refl
tail_takes x h = absurd (cc)

operand_so : (x : Nonterminal) (es : List Entry) → Takes x es → way x ≡ Extends → (e : Entry) (lower : List Entry) → es ≡ e ∷ lower → is_expression e ≡ true
operand_so x es t w e lower is = go t.front (ap (λ (l : List _). all_fit l t.front) (sym (tail_takes x w)) ∙ t.fit) (sym t.parts ∙ is)
  where
    go : (front : List Entry) → all_fit (AnExpr ∷ []) front ≡ true → front ++ t.below ≡ e ∷ lower → is_expression e ≡ true
    go [] h k = absurd (cc)
    go (f ∷ front) h k = let same : f ≡ e = cc in ap is_expression (sym same) ∙ fit_expression f (and_left (fits AnExpr f) (all_fit [] front) h)

step : (p : Place) (s : Symbol) (symbols : List Symbol) (v : Parts) (below : List Entry) (aims others : List Aim) (ds : List Demand) → are_inner (s ∷ []) ≡ true → are_calm (s ∷ []) ≡ true → have_specimens table (sets_at p) (s ∷ []) ≡ true
    → Fit (s ∷ symbols) (entries_of v) → aims_symbol s aims ≡ Some others → all_tame aims ≡ true → has_never aims ≡ false → AreFound below others (entries_of v) ds → Stepped p s symbols v below aims others ds ⊎ Stuck s aims others v below ds
step p (Tok j) symbols v below [] others ds i c k f e t n h = absurd (cc)
step p (Tok j) symbols v below (aim ∷ aims) others ds i c k f e t n h =
    let token : Token = At p (kind_at j) in
    let kind : kind_of token ≡ j = eqb-true _ _ (and_left (kind_of token == j) true k) in
    let w = other_so aim (entry_of (PToken token)) refl (and_left (is_tame aim) (all_tame aims) t) (first_never aim aims n) in
    let same : aims ≡ others = same_Some aims others e in
    inl (record {
      left = PToken token ∷ v;
      ends_so = refl;
      fit = f (entry_of (PToken token)) (subst (λ (m : ℕ). fits (token_kind m) (entry_of (PToken token)) ≡ true) kind (token_fits_so token));
      asked = w.0 ∷ ds;
      found = (w.1, subst (λ (l : List Aim). AreFound below l (entries_of v) ds) (sym same) h);
      exact = refl;
      kept = λ i. inr (subst (λ (l : List Aim). IsKept l (entries_of v)) (sym same) i);
    })
step p (Do a) symbols v below aims others ds i c k f e t n h =
    let kept = effects_kept a v (effect f.0 f.1) f.2 in
    let r = action_found below a (entries_of v) f.0 f.1 aims others ds (and_left (not (begins_row a)) true c) f.2 e t n h in
    inl (record {
      left = act a v;
      ends_so = ap (with_effect (ends 100 p [])) f.2 ∙ ap Some (sym kept.0);
      fit = subst (Fit symbols) (sym kept.0) f.3;
      asked = r.0;
      found = subst (λ (l : List Entry). AreFound below aims l r.0) (sym kept.0) r.1;
      exact = r.2;
      kept = λ i. subst (IsKept aims) (sym kept.0) (r.3 i);
    })
step p (Non x) symbols v below [] others ds i c k f e t n h = absurd (cc)
step p (Non x) symbols v below (aim ∷ aims) others ds i c k f e t n h =
    let l : Shut 100 p (Non x ∷ []) symbols v (length (map (ask_least (AtLeast 0)) (low x) ++ [])) 1 = shut 100 p (Non x ∷ []) symbols v (AtLeast 0 ∷ []) (map (ask_least (AtLeast 0)) (low x) ++ []) (all_ranked (Non x ∷ [])) k f refl in
    let same : map (aim_least (gone (way x) aim)) (low x) ++ aims ≡ others = same_Some _ others e in
    let there : AreFound below (map (aim_least (gone (way x) aim)) (low x) ++ aims) (entries_of v) ds = subst (λ (l : List Aim). AreFound below l (entries_of v) ds) (sym same) h in
    let parted = found_parted below (aim_least (gone (way x) aim)) (low x) aims (entries_of v) ds there in
    let many : length (map (ask_least (AtLeast 0)) (low x) ++ []) ≡ length (low x) + 0 = asks_many (ask_least (AtLeast 0)) (low x) [] in
    let frame = l.frame parted.0 parted.1 parted.2 (let m = parted.3 in omega arith) in
    let one = one_only frame.0 frame.2 in
    let turns : Turns 99 p x (entries_of v) (entries_of l.left) = record { taken = parted.0; lower = parted.1; top = one.0; es_are = parted.2; many = parted.3; new_are = frame.1 ∙ joined_one frame.0 parted.1 one.0 one.1; closed = closed_so l.left l.ends_so } in
    let r = closed_found 99 p below x (way x) (entries_of v) (entries_of l.left) aim aims ds turns (and_left (is_inner x) true i) refl (and_left (is_tame aim) (all_tame aims) t) (first_never aim aims n) (operand_so x (entries_of v) f.0) there in
    elim r [
      | inl m ↦ inl (record { left = l.left; ends_so = l.ends_so; fit = l.fit; asked = m.0; found = m.1; exact = m.2; kept = λ i. m.3 (subst (λ (l : List Aim). IsKept l (entries_of v)) (sym same) i) })
      | inr m ↦ inr (record { tail = x; symbol_is = refl; aim = aim; rest = aims; aims_are = refl; stuck = subst (λ (l : List Aim). StuckAt below x aim aims l (entries_of v) ds) same m })
    ]
  where
    closed_so : (w : Parts) → ends 100 p (Non x ∷ []) (entries_of v) ≡ Some (entries_of w) → ends 99 p (closing x) (entries_of v) ≡ Some (entries_of w)
    closed_so w g = go (ends 99 p (closing x) (entries_of v)) g
      where
        go : (o : Option (List Entry)) → then_ends (ends 100 p []) o ≡ Some (entries_of w) → o ≡ Some (entries_of w)
        go None g = absurd (cc)
        go (Some fs) g = g

-- symbols that can be followed
abbrev pub IsFollowable : Place → List Symbol → List Aim → Type 0
IsFollowable p symbols base = (are_inner symbols ≡ true) × (are_calm symbols ≡ true) × (have_specimens table (sets_at p) symbols ≡ true) × (are_clear symbols (Some base) ≡ true)

pub record Followed (p : Place) (item more : List Symbol) (v : Parts) (below : List Entry) (base : List Aim) (ds : List Demand) : Type 0 where
  pub left : Parts
  pub ends_so : ends 100 p item (entries_of v) ≡ Some (entries_of left)
  pub fit : Fit more (entries_of left)
  pub asked : List Demand
  pub found : AreFound below base (entries_of left) asked
  pub exact : exactly item (Some asked) ≡ Some ds

pub record Stopped (p : Place) (item more : List Symbol) (v : Parts) (below : List Entry) (base others : List Aim) (ds : List Demand) : Type 0 where
  pub first : List Symbol
  pub tail : Nonterminal
  pub last : List Symbol
  pub item_is : item ≡ first ++ Non tail ∷ last
  pub left : Parts
  pub ends_so : ends 100 p first (entries_of v) ≡ Some (entries_of left)
  pub fit : Fit (Non tail ∷ (last ++ more)) (entries_of left)
  pub above : ℕ
  pub rest : List Aim
  pub aims_are : aimed last (Some base) ≡ Some (Target above ∷ rest)
  pub extends : way tail ≡ Extends
  pub part : Entry
  pub lower : List Entry
  pub parts_are : entries_of left ≡ part ∷ lower
  pub expression : is_expression part ≡ true
  pub otherwise : target_last (part ∷ []) ≡ false
  pub asked : List Demand
  pub found : AreFound below rest lower asked
  pub exact : exactly first (Some (Whole (suc above) ∷ asked)) ≡ Some ds
  pub lost : IsKept others (entries_of v) → IsKept rest lower
  pub last_so : IsFollowable p last base

inner_first : (s : Symbol) (symbols : List Symbol) → are_inner (s ∷ symbols) ≡ true → (are_inner (s ∷ []) ≡ true) × (are_inner symbols ≡ true)
inner_first (Tok k) symbols h = (refl, h)
inner_first (Non x) symbols h = (both (is_inner x) true (and_left (is_inner x) (are_inner symbols) h) refl, and_right (is_inner x) (are_inner symbols) h)
inner_first (Do a) symbols h = (both (not (makes_targets a)) true (and_left (not (makes_targets a)) (are_inner symbols) h) refl, and_right (not (makes_targets a)) (are_inner symbols) h)

specimens_first_one : (p : Place) (s : Symbol) (symbols : List Symbol) → have_specimens table (sets_at p) (s ∷ symbols) ≡ true → (have_specimens table (sets_at p) (s ∷ []) ≡ true) × (have_specimens table (sets_at p) symbols ≡ true)
specimens_first_one p (Tok k) symbols h = (both (kind_of (At p (kind_at k)) == k) true (and_left (kind_of (At p (kind_at k)) == k) (have_specimens table (sets_at p) symbols) h) refl, and_right (kind_of (At p (kind_at k)) == k) (have_specimens table (sets_at p) symbols) h)
specimens_first_one p (Non x) symbols h = (refl, h)
specimens_first_one p (Do a) symbols h = (refl, h)

pub followed : (p : Place) (item more : List Symbol) (v : Parts) (below : List Entry) (base others : List Aim) (ds : List Demand) → IsFollowable p item base → Fit (item ++ more) (entries_of v) → aimed item (Some base) ≡ Some others → all_tame base ≡ true
    → AreFound below others (entries_of v) ds → Followed p item more v below base ds ⊎ Stopped p item more v below base others ds
followed p [] more v below base others ds o f e t h =
    inl (record { left = v; ends_so = refl; fit = f; asked = ds; found = subst (λ (l : List Aim). AreFound below l (entries_of v) ds) (sym (same_Some base others e)) h; exact = refl })
followed p (s ∷ item) more v below base others ds o f e t h =
    let a = aims_first s item (Some base) others e in
    let inner = inner_first s item o.0 in
    let calm = calm_first s item o.1 in
    let tame = tame_kept item base a.0 (inner_quiet item inner.1) calm.1 t a.1 in
    let never : has_never a.0 ≡ false = sym (ap never_there a.1) ∙ not_false (never_there (aimed item (Some base))) (and_left (not (never_there (aimed item (Some base)))) (are_clear item (Some base)) o.3) in
    let specimens = specimens_first_one p s item o.2 in
    let last : IsFollowable p item base = (inner.1, calm.1, specimens.1, and_right (not (never_there (aimed item (Some base)))) (are_clear item (Some base)) o.3) in
    by_step a.0 a.1 last (step p s (item ++ more) v below a.0 others ds inner.0 calm.0 specimens.0 f (sym (ap (aims_before s) a.1) ∙ e) tame never h) (λ w us g j. followed p item more w below base a.0 us last g a.1 t j)
  where
    by_step : (aims : List Aim) → aimed item (Some base) ≡ Some aims → IsFollowable p item base → Stepped p s (item ++ more) v below aims others ds ⊎ Stuck s aims others v below ds
        → ((w : Parts) (us : List Demand) → Fit (item ++ more) (entries_of w) → AreFound below aims (entries_of w) us → Followed p item more w below base us ⊎ Stopped p item more w below base aims us)
        → Followed p (s ∷ item) more v below base ds ⊎ Stopped p (s ∷ item) more v below base others ds
    by_step aims a last_so (inl m) again = further (again m.left m.asked m.fit m.found)
      where
        further : Followed p item more m.left below base m.asked ⊎ Stopped p item more m.left below base aims m.asked → Followed p (s ∷ item) more v below base ds ⊎ Stopped p (s ∷ item) more v below base others ds
        further (inl r) =
            inl (record {
              left = r.left;
              ends_so = ends_joined 100 p (s ∷ []) item (entries_of v) (entries_of m.left) m.ends_so ∙ r.ends_so;
              fit = r.fit;
              asked = r.asked;
              found = r.found;
              exact = ap (exactly_before s) r.exact ∙ m.exact;
            })
        further (inr r) =
            inr (record {
              first = s ∷ r.first;
              tail = r.tail;
              last = r.last;
              item_is = ap (λ (l : List Symbol). s ∷ l) r.item_is;
              left = r.left;
              ends_so = ends_joined 100 p (s ∷ []) r.first (entries_of v) (entries_of m.left) m.ends_so ∙ r.ends_so;
              fit = r.fit;
              above = r.above;
              rest = r.rest;
              aims_are = r.aims_are;
              extends = r.extends;
              part = r.part;
              lower = r.lower;
              parts_are = r.parts_are;
              expression = r.expression;
              otherwise = r.otherwise;
              asked = r.asked;
              found = r.found;
              exact = ap (exactly_before s) r.exact ∙ m.exact;
              lost = λ i. r.lost (m.kept i);
              last_so = r.last_so;
            })
    by_step aims a last_so (inr m) again =
        inr (record {
          first = [];
          tail = m.tail;
          last = item;
          item_is = ap (λ (x : Symbol). x ∷ item) m.symbol_is;
          left = v;
          ends_so = refl;
          fit = subst (λ (x : Symbol). Fit (x ∷ (item ++ more)) (entries_of v)) m.symbol_is f;
          above = m.stuck.above;
          rest = m.rest;
          aims_are = a ∙ ap Some (m.aims_are ∙ ap (λ (x : Aim). x ∷ m.rest) m.stuck.aim_is);
          extends = m.stuck.extends;
          part = m.stuck.part;
          lower = m.stuck.lower;
          parts_are = m.stuck.parts_are;
          expression = m.stuck.expression;
          otherwise = m.stuck.otherwise;
          asked = m.stuck.asked;
          found = m.stuck.found;
          exact = ap Some (sym m.stuck.asked_is);
          lost = m.stuck.lost;
          last_so = last_so;
        })
