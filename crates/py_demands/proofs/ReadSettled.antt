-- Where no item is read of a tuple that may be assigned to, there is a module for the reading with targets.
use Rattle.std.proofs.Common.{◌≡◌, suc, nat_lt, Bool, true, false, not, ◌&&◌, ◌||◌, if◌then◌else◌, List, [], ◌∷◌, ◌++◌, map, length, Option, Some, None, ◌⊎◌, inl, inr, refl, sym, ap, ◌∙◌, subst, arith}
use Rattle.grammars.specs.Grammar.{Tok, Non, Do}
use Rattle.grammars.specs.Sets.{are_below}
use Rattle.grammars.proofs.Bools.{and_left, and_right, both, either}
use Rattle.py_tokens.specs.Token.{Place}
use Rattle.py_syntax.specs.Token.{Token}
use Rattle.py_syntax.specs.Build.{Parts, Action, Drop, AddItem, are_targets_last}
use Rattle.py_syntax.specs.Table.{Symbol, Nonterminal, guarded, Module, SmallTail, AssignTail}
use Rattle.py_nesting.specs.Asked.{targets_last}
use Rattle.py_nesting.specs.Shapes.{Entry, entries_of}
use Rattle.py_nesting.specs.Walk.{Demand, Nothing, Whole, Inside, Assigned}
use Rattle.py_demands.specs.Aims.{Aim, Simply, Targets, Target, aims_symbol}
use Rattle.py_demands.specs.Behind.{Behind}
use Rattle.py_demands.specs.Closing.{asks_exactly, exactly_by, exactly_symbol, exactly_before, exactly}
use Rattle.py_demands.specs.Least.{Ask, NoNode, AtLeast, WithinAtLeast, OpenAtLeast, ask_least, low, before_symbol, before, least}
use Rattle.py_demands.specs.Paired.{ArePaired, AllPaired, is_open, are_settled}
use Rattle.py_demands.specs.Readings.{Reading, Settled, Among, has_never, among, reading_before, reading, of_ask, of_reading, targets_reading, acts_first}
use Rattle.py_demands.specs.Ready.{are_calm, is_inner, are_quiet, are_single, adds_to_open, adds_to_none, Itemed, Ready}
use Rattle.py_demands.specs.Roles.{asked_by, roles}
use Rattle.py_demands.specs.Turning.{is_tail, turning, IsReached}
use Rattle.py_demands.specs.TurnedPaired.{begins_targets, are_within, IsPairedTurned, AllPairedTurned, none_open}
use Rattle.py_demands.proofs.Closed.{anywhere}
use Rattle.py_demands.proofs.ExactRows.{exactly_joined, row_asks, behind_first}
use Rattle.py_demands.proofs.FewOpen.{none_rest, symbol_none, none_kept, few_kept, calm_first}
use Rattle.py_demands.proofs.LowRows.{least_joined}
use Rattle.py_demands.proofs.Paired.{agreement_law, paired_law}
use Rattle.py_demands.proofs.ReadingsLow.{settled_reading, calm_settled, open_targets, of_asks, plainly_of, none_targets, one_targets, paired_many, demands_many, ready_calm}
use Rattle.py_demands.proofs.Passing.{last_only}
use Rattle.py_demands.proofs.RowsClose.{closing_rank, closing_sets}
use Rattle.py_demands.proofs.Steps.{asks_behind}
use Rattle.py_demands.proofs.TargetsLeft.{targets_left}
use Rattle.py_demands.proofs.TurnedPaired.{turned_paired_law}
use Rattle.py_demands.proofs.Turning.{turning_row, specimens_first, turning_law}
use Rattle.py_demands.proofs.Ways.{closing_law}
use Rattle.std.proofs.lemmas.Option.{same_Some}

-- where something comes behind an expression
pub record Tailed (symbols : List Symbol) : Type 0 where
  pub above : List Symbol
  pub tail : Nonterminal
  pub rest : List Symbol
  pub symbols_are : symbols ≡ above ++ Non tail ∷ rest
  pub is_one : is_tail tail ≡ true
  pub within : are_within above ≡ true
  pub quiet : are_quiet rest ≡ true
  pub calm : are_calm rest ≡ true

calm_within : (a : Action) → are_calm (Do a ∷ []) ≡ true → not (begins_targets a) ≡ true
calm_within a h = go a h
  where
    go : (a : Action) → are_calm (Do a ∷ []) ≡ true → not (begins_targets a) ≡ true
    go Drop h = refl
    go _ h = (cc)

one_more : (s : Symbol) (symbols : List Symbol) → are_within (s ∷ []) ≡ true → Tailed symbols → Tailed (s ∷ symbols)
one_more s symbols w t =
    record {
      above = s ∷ t.above;
      tail = t.tail;
      rest = t.rest;
      symbols_are = ap (λ (l : List Symbol). s ∷ l) t.symbols_are;
      is_one = t.is_one;
      within = with_one s t.above w t.within;
      quiet = t.quiet;
      calm = t.calm;
    }
  where
    with_one : (s : Symbol) (symbols : List Symbol) → are_within (s ∷ []) ≡ true → are_within symbols ≡ true → are_within (s ∷ symbols) ≡ true
    with_one (Tok k) symbols w h = h
    with_one (Non x) symbols w h = both (not (is_tail x)) (are_within symbols) (and_left (not (is_tail x)) true w) h
    with_one (Do a) symbols w h = both (not (begins_targets a)) (are_within symbols) (and_left (not (begins_targets a)) true w) h

pub tail_found : (symbols : List Symbol) (asks : List Ask) → are_single symbols ≡ true → are_calm symbols ≡ true → least symbols (Some (AtLeast 0 ∷ [])) ≡ Some asks → (none_open asks ≡ true) ⊎ Tailed symbols
tail_found [] asks s c e = inl (subst (λ (l : List Ask). none_open l ≡ true) (same_Some (AtLeast 0 ∷ []) asks e) refl)
tail_found (Tok k ∷ symbols) asks s c e = go (tail_found symbols b.0 s c b.1)
  where
    b : (rs : List Ask) × (least symbols (Some (AtLeast 0 ∷ [])) ≡ Some rs)
    b = asks_behind (Tok k) symbols (Some (AtLeast 0 ∷ [])) asks e

    go : (none_open b.0 ≡ true) ⊎ Tailed symbols → (none_open asks ≡ true) ⊎ Tailed (Tok k ∷ symbols)
    go (inl n) = inl (symbol_none (Tok k) b.0 asks refl refl (sym (ap (before (Tok k)) b.1) ∙ e) n)
    go (inr t) = inr (one_more (Tok k) symbols refl t)
tail_found (Do a ∷ symbols) asks s c e = go (tail_found symbols b.0 s (calm_first (Do a) symbols c).1 b.1)
  where
    b : (rs : List Ask) × (least symbols (Some (AtLeast 0 ∷ [])) ≡ Some rs)
    b = asks_behind (Do a) symbols (Some (AtLeast 0 ∷ [])) asks e

    go : (none_open b.0 ≡ true) ⊎ Tailed symbols → (none_open asks ≡ true) ⊎ Tailed (Do a ∷ symbols)
    go (inl n) = inl (symbol_none (Do a) b.0 asks refl (calm_first (Do a) symbols c).0 (sym (ap (before (Do a)) b.1) ∙ e) n)
    go (inr t) = inr (one_more (Do a) symbols (both (not (begins_targets a)) true (calm_within a (calm_first (Do a) symbols c).0) refl) t)
tail_found (Non x ∷ symbols) asks s c e = go (is_inner x) (is_tail x) refl refl s (λ k. tail_found symbols b.0 k c b.1)
  where
    b : (rs : List Ask) × (least symbols (Some (AtLeast 0 ∷ [])) ≡ Some rs)
    b = asks_behind (Non x) symbols (Some (AtLeast 0 ∷ [])) asks e

    inner_tail : (x : Nonterminal) → is_inner x ≡ true → is_tail x ≡ true → ⊥
    inner_tail SmallTail h k = absurd (cc)
    inner_tail AssignTail h k = absurd (cc)
    inner_tail x h k = absurd (cc)

    quiet_one : is_tail x ≡ false → are_quiet (Non x ∷ []) ≡ true
    quiet_one i = both (not (is_tail x)) true (ap not i) refl

    go : (i t : Bool) → is_inner x ≡ i → is_tail x ≡ t → (if i then are_single symbols else are_quiet symbols) ≡ true → (are_single symbols ≡ true → (none_open b.0 ≡ true) ⊎ Tailed symbols) → (none_open asks ≡ true) ⊎ Tailed (Non x ∷ symbols)
    go true true i t s again = absurd (inner_tail x i t)
    go true false i t s again = further (again s)
      where
        further : (none_open b.0 ≡ true) ⊎ Tailed symbols → (none_open asks ≡ true) ⊎ Tailed (Non x ∷ symbols)
        further (inl n) = inl (symbol_none (Non x) b.0 asks (quiet_one t) refl (sym (ap (before (Non x)) b.1) ∙ e) n)
        further (inr r) = inr (one_more (Non x) symbols (quiet_one t) r)
    go false false i t s again = inl (symbol_none (Non x) b.0 asks (quiet_one t) refl (sym (ap (before (Non x)) b.1) ∙ e) (none_kept symbols (AtLeast 0 ∷ []) b.0 s c refl b.1))
    go false true i t s again = inr (record { above = []; tail = x; rest = symbols; symbols_are = refl; is_one = t; within = refl; quiet = s; calm = c })

-- the symbols are enough for any nonterminal
ranked : (x : Nonterminal) → nat_lt (closing_rank x) 100 ≡ true
ranked Module = refl
ranked _ = refl

pub all_ranked : (symbols : List Symbol) → are_below closing_sets 100 symbols ≡ true
all_ranked [] = refl
all_ranked (Tok k ∷ symbols) = all_ranked symbols
all_ranked (Do a ∷ symbols) = all_ranked symbols
all_ranked (Non x ∷ symbols) = both (nat_lt (closing_rank x) 100) (are_below closing_sets 100 symbols) (ranked x) (all_ranked symbols)

-- what is asked where the expression is assigned to goes together with what is asked at least
none_turned : (qs : List Ask) (ds : List Demand) → none_open qs ≡ true → AllPaired qs ds → AllPairedTurned qs ds
none_turned [] [] n h = tt
none_turned [] (d ∷ ds) n h = absurd h
none_turned (q ∷ qs) [] n h = absurd h
none_turned (q ∷ qs) (d ∷ ds) n h = (one q d (none_rest q qs n).0 h.0, none_turned qs ds (none_rest q qs n).1 h.1)
  where
    one : (q : Ask) (d : Demand) → is_open q ≡ false → ArePaired q d → IsPairedTurned q d
    one NoNode Nothing i h = tt
    one (AtLeast m) (Whole n) i h = h
    one (WithinAtLeast m) (Inside n) i h = h
    one (OpenAtLeast m) d i h = absurd (cc)
    one q d i h = absurd h

tail_turned : (x : Nonterminal) (q : Ask) (d : Demand) (qs : List Ask) (ds us : List Demand) → is_tail x ≡ true → is_open q ≡ false → ArePaired q d → AllPairedTurned qs ds → exactly (turning x) (Some (d ∷ ds)) ≡ Some us
    → AllPairedTurned (map (ask_least q) (low x) ++ qs) us
tail_turned SmallTail NoNode Nothing qs ds us t o h k e = subst (AllPairedTurned (NoNode ∷ qs)) (same_Some (Nothing ∷ ds) us e) (tt, k)
tail_turned SmallTail (AtLeast m) (Whole n) qs ds us t o h k e = subst (AllPairedTurned (OpenAtLeast (suc m) ∷ qs)) (same_Some (Assigned (suc n) ∷ ds) us e) (ap suc h, k)
tail_turned SmallTail (WithinAtLeast m) (Inside n) qs ds us t o h k e = subst (AllPairedTurned (OpenAtLeast m ∷ qs)) (same_Some (Assigned n ∷ ds) us e) (h, k)
tail_turned AssignTail NoNode Nothing qs ds us t o h k e = subst (AllPairedTurned (NoNode ∷ NoNode ∷ qs)) (same_Some (Nothing ∷ Nothing ∷ ds) us e) (tt, (tt, k))
tail_turned AssignTail (AtLeast m) (Whole n) qs ds us t o h k e = subst (AllPairedTurned (OpenAtLeast (suc m) ∷ AtLeast (suc m) ∷ qs)) (same_Some (Assigned (suc n) ∷ Whole (suc n) ∷ ds) us e) (ap suc h, (ap suc h, k))
tail_turned AssignTail (WithinAtLeast m) (Inside n) qs ds us t o h k e = subst (AllPairedTurned (OpenAtLeast m ∷ AtLeast m ∷ qs)) (same_Some (Assigned n ∷ Whole n ∷ ds) us e) (h, (h, k))
tail_turned x (OpenAtLeast m) d qs ds us t o h k e = absurd (cc)
tail_turned SmallTail q d qs ds us t o h k e = absurd h
tail_turned AssignTail q d qs ds us t o h k e = absurd h
tail_turned x q d qs ds us t o h k e = absurd (cc)

-- they are those of the reading
pub turned_is : (qs : List Ask) (ds us : List Demand) → AllPairedTurned qs ds → AllPairedTurned qs us → ds ≡ us
turned_is [] [] [] h k = refl
turned_is [] [] (u ∷ us) h k = absurd k
turned_is [] (d ∷ ds) us h k = absurd h
turned_is (q ∷ qs) [] us h k = absurd h
turned_is (q ∷ qs) (d ∷ ds) [] h k = absurd k
turned_is (q ∷ qs) (d ∷ ds) (u ∷ us) h k = ap (λ (x : Demand). x ∷ ds) (one q d u h.0 k.0) ∙ ap (λ (l : List Demand). u ∷ l) (turned_is qs ds us h.1 k.1)
  where
    one : (q : Ask) (d u : Demand) → IsPairedTurned q d → IsPairedTurned q u → d ≡ u
    one NoNode Nothing Nothing h k = refl
    one (AtLeast m) (Whole n) (Whole i) h k = ap Whole (sym h ∙ k)
    one (WithinAtLeast m) (Inside n) (Inside i) h k = ap Inside (sym h ∙ k)
    one (OpenAtLeast m) (Assigned n) (Assigned i) h k = ap Assigned (sym h ∙ k)
    one NoNode Nothing u h k = absurd k
    one (AtLeast m) (Whole n) u h k = absurd k
    one (WithinAtLeast m) (Inside n) u h k = absurd k
    one (OpenAtLeast m) (Assigned n) u h k = absurd k
    one q d u h k = absurd h

-- where nothing that is open may be targets, the reading is the one that closes the symbols
whole_is : (qs : List Ask) (ds : List Demand) (es : List Entry) → AllPaired qs ds → length qs ≡ length es → open_targets qs es ≡ false → of_asks qs es ≡ ds
whole_is [] [] es h m n = refl
whole_is [] (d ∷ ds) es h m n = absurd h
whole_is (q ∷ qs) [] es h m n = absurd h
whole_is (q ∷ qs) (d ∷ ds) [] h m n = absurd (omega arith)
whole_is (q ∷ qs) (d ∷ ds) (e ∷ es) h m n =
    ap (λ (x : Demand). x ∷ of_asks qs es) (one q d h.0 (or_first (is_open q && targets_last (e ∷ [])) (open_targets qs es) n).0)
    ∙ ap (λ (l : List Demand). d ∷ l) (whole_is qs ds es h.1 (omega arith) (or_first (is_open q && targets_last (e ∷ [])) (open_targets qs es) n).1)
  where
    or_first : (a b : Bool) → (a || b) ≡ false → (a ≡ false) × (b ≡ false)
    or_first true b h = absurd (cc)
    or_first false b h = (refl, h)

    one : (q : Ask) (d : Demand) → ArePaired q d → (is_open q && targets_last (e ∷ [])) ≡ false → of_ask q e ≡ d
    one NoNode Nothing h k = refl
    one (AtLeast m) (Whole n) h k = ap Whole h
    one (WithinAtLeast m) (Inside n) h k = ap Inside h
    one (OpenAtLeast m) (Whole n) h k = ap (λ (b : Bool). if b then Assigned m else Whole m) k ∙ ap Whole h
    one q d h k = absurd h

-- closing symbols ask of as many parts, whatever is asked behind them
exact_many : {A : Type 0} (f g : A → Demand) (these : List A) (ds us : List Demand) → length ds ≡ length us → length (map f these ++ ds) ≡ length (map g these ++ us)
exact_many f g [] ds us m = m
exact_many f g (a ∷ these) ds us m = ap suc (exact_many f g these ds us m)

symbol_there : (s : Symbol) (ds us rs : List Demand) → length ds ≡ length us → exactly_symbol s ds ≡ Some rs → (ws : List Demand) × (exactly_symbol s us ≡ Some ws) × (length rs ≡ length ws)
symbol_there (Tok k) [] us rs m e = absurd (cc)
symbol_there (Tok k) (d ∷ ds) [] rs m e = absurd (omega arith)
symbol_there (Tok k) (d ∷ ds) (u ∷ us) rs m e = (us, refl, (let l = ap length (same_Some ds rs e) in omega arith))
symbol_there (Non x) [] us rs m e = absurd (cc)
symbol_there (Non x) (d ∷ ds) [] rs m e = absurd (omega arith)
symbol_there (Non x) (d ∷ ds) (u ∷ us) rs m e = (_, refl, sym (ap length (same_Some _ rs e)) ∙ exact_many (asked_by d) (asked_by u) (asks_exactly x) ds us (omega arith))
symbol_there (Do a) ds us rs m e = go (leaves a) ds us m e
  where
    leaves : (a : Action) → (a ≡ Drop) ⊎ (((d : Demand) (ds : List Demand) → exactly_by a (d ∷ ds) ≡ Some (map (asked_by d) (roles a) ++ ds)) × (exactly_by a [] ≡ None))
    leaves Drop = inl refl
    leaves _ = inr ((λ d ds. refl), refl)

    go : (a ≡ Drop) ⊎ (((d : Demand) (ds : List Demand) → exactly_by a (d ∷ ds) ≡ Some (map (asked_by d) (roles a) ++ ds)) × (exactly_by a [] ≡ None)) → (ds us : List Demand) → length ds ≡ length us → exactly_by a ds ≡ Some rs
        → (ws : List Demand) × (exactly_by a us ≡ Some ws) × (length rs ≡ length ws)
    go (inl is) ds us m e =
        (Nothing ∷ us, ap (λ (b : Action). exactly_by b us) is, sym (ap length (same_Some (Nothing ∷ ds) rs (sym (ap (λ (b : Action). exactly_by b ds) is) ∙ e))) ∙ ap suc m)
    go (inr (one, two)) [] us m e = let none : None ≡ Some rs = sym two ∙ e in absurd (cc)
    go (inr (one, two)) (d ∷ ds) [] m e = absurd (omega arith)
    go (inr (one, two)) (d ∷ ds) (u ∷ us) m e = (_, one u us, sym (ap length (same_Some _ rs (sym (one d ds) ∙ e))) ∙ exact_many (asked_by d) (asked_by u) (roles a) ds us (omega arith))

pub exactly_there : (symbols : List Symbol) (ds us rs : List Demand) → length ds ≡ length us → exactly symbols (Some ds) ≡ Some rs → (ws : List Demand) × (exactly symbols (Some us) ≡ Some ws) × (length rs ≡ length ws)
exactly_there [] ds us rs m e = (us, refl, sym (ap length (same_Some ds rs e)) ∙ m)
exactly_there (s ∷ symbols) ds us rs m e =
    let b = behind_first s symbols (Some ds) rs e in
    let r = exactly_there symbols ds us b.0 m b.1 in
    let w = symbol_there s b.0 r.0 rs r.2 (sym (ap (exactly_before s) b.1) ∙ e) in
    (w.0, ap (exactly_before s) r.1 ∙ w.1, w.2)

-- what is open stands on top
abbrev pub opens_top : List Ask → Bool
opens_top [] = true
opens_top (q ∷ qs) = none_open qs

pub last_so : (e : Entry) (es : List Entry) → targets_last (e ∷ []) ≡ true → targets_last (e ∷ es) ≡ true
last_so e es h = last_only e es ∙ h

pub top_targets : (qs : List Ask) (es : List Entry) → opens_top qs ≡ true → open_targets qs es ≡ true → targets_last es ≡ true
top_targets [] es o h = absurd (cc)
top_targets (q ∷ qs) [] o h = absurd (cc)
top_targets (q ∷ qs) (e ∷ es) o h = go (either (is_open q && targets_last (e ∷ [])) (open_targets qs es) h)
  where
    go : ((is_open q && targets_last (e ∷ [])) ≡ true) ⊎ (open_targets qs es ≡ true) → targets_last (e ∷ es) ≡ true
    go (inl k) = last_so e es (and_right (is_open q) (targets_last (e ∷ [])) k)
    go (inr k) = let no : true ≡ false = sym k ∙ none_targets qs es o in absurd (cc)

one_on_top : (x : Nonterminal) (q : Ask) (rs : List Ask) → is_tail x ≡ true → is_open q ≡ false → none_open rs ≡ true → opens_top (map (ask_least q) (low x) ++ rs) ≡ true
one_on_top SmallTail q rs t o n = n
one_on_top AssignTail NoNode rs t o n = n
one_on_top AssignTail (AtLeast m) rs t o n = n
one_on_top AssignTail (WithinAtLeast m) rs t o n = n
one_on_top AssignTail (OpenAtLeast m) rs t o n = n
one_on_top x q rs t o n = absurd (cc)

-- what is asked where something comes behind an expression, and where that is assigned to
pub record TailAsked (above : List Symbol) (tail : Nonterminal) (rest : List Symbol) : Type 0 where
  pub asks : List Ask
  pub asks_are : least (Non tail ∷ rest) (Some (AtLeast 0 ∷ [])) ≡ Some asks
  pub demands : List Demand
  pub demands_are : exactly (Non tail ∷ rest) (Some (Whole 0 ∷ [])) ≡ Some demands
  pub many : length asks ≡ length demands
  -- the first ask alone is open
  pub on_top : opens_top asks ≡ true
  pub adds : adds_to_none above (Some asks) ≡ true
  pub assigned : List Demand
  pub assigned_are : exactly (turning tail ++ rest) (Some (Whole 0 ∷ [])) ≡ Some assigned
  pub turned : AllPairedTurned asks assigned

none_asked : (symbols : List Symbol) → least symbols None ≡ None
none_asked [] = refl
none_asked (s ∷ symbols) = ap (before s) (none_asked symbols)

pub asks_below : (above symbols : List Symbol) (asks : List Ask) → least (above ++ symbols) (Some (AtLeast 0 ∷ [])) ≡ Some asks → (qs : List Ask) × (least symbols (Some (AtLeast 0 ∷ [])) ≡ Some qs)
asks_below above symbols asks e = go (least symbols (Some (AtLeast 0 ∷ []))) refl (sym (least_joined above symbols (Some (AtLeast 0 ∷ []))) ∙ e)
  where
    go : (o : Option (List Ask)) → least symbols (Some (AtLeast 0 ∷ [])) ≡ o → least above o ≡ Some asks → (qs : List Ask) × (least symbols (Some (AtLeast 0 ∷ [])) ≡ Some qs)
    go None o h = let no : None ≡ Some asks = sym (none_asked above) ∙ h in absurd (cc)
    go (Some qs) o h = (qs, o)

none_exact : (symbols : List Symbol) → exactly symbols None ≡ None
none_exact [] = refl
none_exact (s ∷ symbols) = ap (exactly_before s) (none_exact symbols)

pub demands_below : (above symbols : List Symbol) (demands : List Demand) → exactly (above ++ symbols) (Some (Whole 0 ∷ [])) ≡ Some demands → (ds : List Demand) × (exactly symbols (Some (Whole 0 ∷ [])) ≡ Some ds)
demands_below above symbols demands e = go (exactly symbols (Some (Whole 0 ∷ []))) refl (sym (exactly_joined above symbols (Some (Whole 0 ∷ []))) ∙ e)
  where
    go : (o : Option (List Demand)) → exactly symbols (Some (Whole 0 ∷ [])) ≡ o → exactly above o ≡ Some demands → (ds : List Demand) × (exactly symbols (Some (Whole 0 ∷ [])) ≡ Some ds)
    go None o h = let no : None ≡ Some demands = sym (none_exact above) ∙ h in absurd (cc)
    go (Some ds) o h = (ds, o)

adds_rest : (these symbols : List Symbol) → adds_to_none (these ++ symbols) (Some (AtLeast 0 ∷ [])) ≡ true → adds_to_none symbols (Some (AtLeast 0 ∷ [])) ≡ true
adds_rest [] symbols h = h
adds_rest (Tok k ∷ these) symbols h = adds_rest these symbols h
adds_rest (Non y ∷ these) symbols h = adds_rest these symbols h
adds_rest (Do a ∷ these) symbols h = adds_rest these symbols (and_right (not (adds_to_open a (least (these ++ symbols) (Some (AtLeast 0 ∷ []))))) (adds_to_none (these ++ symbols) (Some (AtLeast 0 ∷ []))) h)

adds_above : (these symbols : List Symbol) (qs : List Ask) → least symbols (Some (AtLeast 0 ∷ [])) ≡ Some qs → adds_to_none (these ++ symbols) (Some (AtLeast 0 ∷ [])) ≡ true → adds_to_none these (Some qs) ≡ true
adds_above [] symbols qs e h = refl
adds_above (Tok k ∷ these) symbols qs e h = adds_above these symbols qs e h
adds_above (Non y ∷ these) symbols qs e h = adds_above these symbols qs e h
adds_above (Do a ∷ these) symbols qs e h =
    both (not (adds_to_open a (least these (Some qs)))) (adds_to_none these (Some qs))
    (ap (λ (o : Option (List Ask)). not (adds_to_open a o)) (ap (least these) (sym e) ∙ sym (least_joined these symbols (Some (AtLeast 0 ∷ []))))
    ∙ and_left (not (adds_to_open a (least (these ++ symbols) (Some (AtLeast 0 ∷ []))))) (adds_to_none (these ++ symbols) (Some (AtLeast 0 ∷ []))) h)
    (adds_above these symbols qs e (and_right (not (adds_to_open a (least (these ++ symbols) (Some (AtLeast 0 ∷ []))))) (adds_to_none (these ++ symbols) (Some (AtLeast 0 ∷ []))) h))

pub turned_many : (qs : List Ask) (ds : List Demand) → AllPairedTurned qs ds → length qs ≡ length ds
turned_many [] [] h = refl
turned_many [] (d ∷ ds) h = absurd h
turned_many (q ∷ qs) [] h = absurd h
turned_many (q ∷ qs) (d ∷ ds) h = ap suc (turned_many qs ds h.1)

pub tail_asked : (above rest : List Symbol) (x : Nonterminal) (asks : List Ask) (demands : List Demand) → is_tail x ≡ true → are_quiet rest ≡ true → are_calm rest ≡ true → adds_to_none (above ++ Non x ∷ rest) (Some (AtLeast 0 ∷ [])) ≡ true
    → least (above ++ Non x ∷ rest) (Some (AtLeast 0 ∷ [])) ≡ Some asks → exactly (above ++ Non x ∷ rest) (Some (Whole 0 ∷ [])) ≡ Some demands → TailAsked above x rest
tail_asked above rest x asks demands tail quiet calm adds e f =
    let a = asks_below above (Non x ∷ rest) asks e in
    let d = demands_below above (Non x ∷ rest) demands f in
    at_tail a.0 a.1 d.0 d.1
  where
    at_tail : (tail_asks : List Ask) → least (Non x ∷ rest) (Some (AtLeast 0 ∷ [])) ≡ Some tail_asks → (tail_demands : List Demand) → exactly (Non x ∷ rest) (Some (Whole 0 ∷ [])) ≡ Some tail_demands → TailAsked above x rest
    at_tail tail_asks a tail_demands d =
        record {
          asks = tail_asks;
          asks_are = a;
          demands = tail_demands;
          demands_are = d;
          many = paired_many tail_asks tail_demands tail_paired;
          on_top = top rest_asks.0 (sym (ap (before (Non x)) rest_asks.1) ∙ a) rest_closed;
          adds = adds_above above (Non x ∷ rest) tail_asks a adds;
          assigned = turning_demands.0;
          assigned_are = turning_demands.1;
          turned = turned;
        }
      where
        rest_asks : (rs : List Ask) × (least rest (Some (AtLeast 0 ∷ [])) ≡ Some rs)
        rest_asks = asks_behind (Non x) rest (Some (AtLeast 0 ∷ [])) tail_asks a

        rest_demands : (us : List Demand) × (exactly rest (Some (Whole 0 ∷ [])) ≡ Some us)
        rest_demands = behind_first (Non x) rest (Some (Whole 0 ∷ [])) tail_demands d

        rest_closed : none_open rest_asks.0 ≡ true
        rest_closed = none_kept rest (AtLeast 0 ∷ []) rest_asks.0 quiet calm refl rest_asks.1

        rest_settled : are_settled rest (Some (AtLeast 0 ∷ [])) ≡ true
        rest_settled = calm_settled rest (AtLeast 0 ∷ []) rest_asks.0 calm (adds_rest (Non x ∷ []) rest (adds_rest above (Non x ∷ rest) adds)) rest_asks.1

        rest_paired : AllPaired rest_asks.0 rest_demands.0
        rest_paired = paired_law rest (AtLeast 0 ∷ []) rest_asks.0 (Whole 0 ∷ []) rest_demands.0 (refl, tt) rest_settled rest_asks.1 rest_demands.1

        tail_paired : AllPaired tail_asks tail_demands
        tail_paired = paired_law (Non x ∷ rest) (AtLeast 0 ∷ []) tail_asks (Whole 0 ∷ []) tail_demands (refl, tt) rest_settled a d

        turning_demands : (us : List Demand) × (exactly (turning x ++ rest) (Some (Whole 0 ∷ [])) ≡ Some us)
        turning_demands = row_asks x (guarded are_targets_last (turning x)) rest (Some (Whole 0 ∷ [])) tail_demands (turning_row x tail).0 d

        turned_pairs : (qs : List Ask) (ds : List Demand) → none_open qs ≡ true → AllPaired qs ds → before_symbol (Non x) qs ≡ Some tail_asks → exactly (turning x) (Some ds) ≡ Some turning_demands.0
            → AllPairedTurned tail_asks turning_demands.0
        turned_pairs [] ds n h i j = absurd (cc)
        turned_pairs (q ∷ qs) [] n h i j = absurd h
        turned_pairs (q ∷ qs) (d ∷ ds) n h i j =
            subst (λ (l : List Ask). AllPairedTurned l turning_demands.0) (same_Some (map (ask_least q) (low x) ++ qs) tail_asks i)
            (tail_turned x q d qs ds turning_demands.0 tail (none_rest q qs n).0 h.0 (none_turned qs ds (none_rest q qs n).1 h.1) j)

        turned : AllPairedTurned tail_asks turning_demands.0
        turned =
            turned_pairs rest_asks.0 rest_demands.0 rest_closed rest_paired (sym (ap (before (Non x)) rest_asks.1) ∙ a)
            (sym (ap (exactly (turning x)) rest_demands.1) ∙ sym (exactly_joined (turning x) rest (Some (Whole 0 ∷ []))) ∙ turning_demands.1)

        top : (rs : List Ask) → before_symbol (Non x) rs ≡ Some tail_asks → none_open rs ≡ true → opens_top tail_asks ≡ true
        top [] i n = absurd (cc)
        top (q ∷ rs) i n = let r = none_rest q rs n in ap opens_top (sym (same_Some (map (ask_least q) (low x) ++ rs) tail_asks i)) ∙ one_on_top x q rs tail r.0 r.1

-- the reading that assigns, where something comes behind the expression
turned_read : (front : List Token) (above rest : List Symbol) (x : Nonterminal) (v : Parts) (asks : List Ask) (ws : List Demand) (p : Place) → is_tail x ≡ true → are_within above ≡ true → are_quiet rest ≡ true → are_calm rest ≡ true
    → adds_to_none (above ++ Non x ∷ rest) (Some (AtLeast 0 ∷ [])) ≡ true → Behind front [] (above ++ Non x ∷ rest) v → least (above ++ Non x ∷ rest) (Some (AtLeast 0 ∷ [])) ≡ Some asks
    → open_targets asks (entries_of v) ≡ true → AllPairedTurned asks ws → IsReached front v ws p
turned_read front above rest x v asks ws p tail within quiet calm adds b e some paired =
    let t = tail_asked above rest x asks b.demands tail quiet calm adds e b.exactly_is in
    let there =
    exactly_there above t.demands t.assigned b.demands (sym t.many ∙ turned_many t.asks t.assigned t.turned)
    (sym (ap (exactly above) t.demands_are) ∙ sym (exactly_joined above (Non x ∷ rest) (Some (Whole 0 ∷ []))) ∙ b.exactly_is) in
    let asked = sym (ap (least above) t.asks_are) ∙ sym (least_joined above (Non x ∷ rest) (Some (AtLeast 0 ∷ []))) ∙ e in
    let l = targets_left 100 p above (Non x ∷ rest) v t.asks asks (all_ranked above) (anywhere p above (specimens_first above (Non x ∷ rest) b.specimens)) within t.adds b.at_front.fit asked some in
    let same : there.0 ≡ ws = turned_is asks there.0 ws (turned_paired_law above t.asks asks t.assigned there.0 t.turned within asked there.1) paired in
    turning_law front above rest x v (entries_of l.left) t.assigned ws p 100 tail b.at_front b.specimens l.ends_so (top_targets t.asks (entries_of l.left) t.on_top l.targets) t.assigned_are (there.1 ∙ ap Some same)

-- an item that is read stays so
abbrev pub IsSettled : Option Reading → List Ask → Type 0
IsSettled None asks = ⊥
IsSettled (Some (Settled qs)) asks = qs ≡ asks
IsSettled (Some (Among aims)) asks = ⊥

among_so : (o : Option (List Aim)) (asks : List Ask) → IsSettled (among o) asks → ⊥
among_so None asks h = h
among_so (Some aims) asks h = go (has_never aims) h
  where
    go : (b : Bool) → IsSettled (if b then None else Some (Among aims)) asks → ⊥
    go true h = h
    go false h = h

pub stays_read : (item rest : List Symbol) (base : List Aim) (asks : List Ask) → reading (Do AddItem ∷ rest) ≡ Some (Among base) → IsSettled (reading (item ++ Do AddItem ∷ rest)) asks → ⊥
stays_read [] rest base asks e h = subst (λ (o : Option Reading). IsSettled o asks) e h
stays_read (s ∷ item) rest base asks e h = go (reading (item ++ Do AddItem ∷ rest)) (λ k. stays_read item rest base asks e k) (λ qs r. stays_read item rest base qs e (subst (λ (o : Option Reading). IsSettled o qs) (sym r) refl)) refl h
  where
    go : (o : Option Reading) → (IsSettled (reading (item ++ Do AddItem ∷ rest)) asks → ⊥) → ((qs : List Ask) → reading (item ++ Do AddItem ∷ rest) ≡ Some (Settled qs) → ⊥) → reading (item ++ Do AddItem ∷ rest) ≡ o
        → IsSettled (reading_before s o) asks → ⊥
    go None again never r h = h
    go (Some (Settled qs)) again never r h = never qs r
    go (Some (Among aims)) again never r h = among_so (aims_symbol s aims) asks h

settled_adds : (symbols : List Symbol) (asks : List Ask) → Ready symbols [] → reading symbols ≡ Some (Settled asks) → adds_to_none symbols (Some (AtLeast 0 ∷ [])) ≡ true
settled_adds symbols asks y r = go y.shaped
  where
    go : (adds_to_none symbols (Some (AtLeast 0 ∷ [])) ≡ true) ⊎ Itemed symbols → adds_to_none symbols (Some (AtLeast 0 ∷ [])) ≡ true
    go (inl h) = h
    go (inr i) =
        let read : reading (Do AddItem ∷ i.rest) ≡ Some (Among (Target i.asks.above ∷ Targets i.asks.above ∷ map Simply i.asks.below)) = ap (reading_before (Do AddItem)) (settled_reading i.rest (OpenAtLeast i.asks.above ∷ i.asks.below) i.rest_settled i.asks.rest_is) in
        absurd (stays_read i.item i.rest (Target i.asks.above ∷ Targets i.asks.above ∷ map Simply i.asks.below) asks read (subst (λ (o : Option Reading). IsSettled o asks) (sym (sym (ap reading i.symbols_are) ∙ r)) refl))

pub settled_read_law : (front : List Token) (symbols : List Symbol) (v : Parts) (asks : List Ask) (ws : List Demand) → Behind front [] symbols v → Ready symbols [] → acts_first symbols ≡ false → reading symbols ≡ Some (Settled asks)
    → targets_reading symbols (entries_of v) ≡ Some ws → (p : Place) → IsReached front v ws p
settled_read_law front symbols v asks ws b y acts r w p = go (open_targets b.asks (entries_of v)) refl
  where
    adds : adds_to_none symbols (Some (AtLeast 0 ∷ [])) ≡ true
    adds = settled_adds symbols asks y r

    calm : are_calm symbols ≡ true
    calm = ready_calm symbols y acts

    paired : AllPaired b.asks b.demands
    paired = agreement_law.1 front symbols v b (calm_settled symbols (AtLeast 0 ∷ []) b.asks calm adds b.least_is)

    many : length b.asks ≡ length (entries_of v)
    many = paired_many b.asks b.demands paired ∙ demands_many front symbols v b

    is : of_asks b.asks (entries_of v) ≡ ws
    is = same_Some (of_asks b.asks (entries_of v)) ws (sym (ap (λ (o : Option Reading). of_reading o (entries_of v)) (settled_reading symbols b.asks adds b.least_is) ∙ plainly_of b.asks (entries_of v) many) ∙ w)

    at_tail : open_targets b.asks (entries_of v) ≡ true → (none_open b.asks ≡ true) ⊎ Tailed symbols → IsReached front v ws p
    at_tail o (inl n) = let no : true ≡ false = sym o ∙ none_targets b.asks (entries_of v) n in absurd (cc)
    at_tail o (inr t) =
        let pairs : AllPairedTurned b.asks ws = subst (AllPairedTurned b.asks) is (one_targets b.asks (entries_of v) many (few_kept symbols b.asks y.single calm b.least_is) o).0 in
        turned_read front t.above t.rest t.tail v b.asks ws p t.is_one t.within t.quiet t.calm (sym (ap (λ (l : List Symbol). adds_to_none l (Some (AtLeast 0 ∷ []))) t.symbols_are) ∙ adds)
        (subst (λ (l : List Symbol). Behind front [] l v) t.symbols_are b) (sym (ap (λ (l : List Symbol). least l (Some (AtLeast 0 ∷ []))) t.symbols_are) ∙ b.least_is) o pairs

    go : (o : Bool) → open_targets b.asks (entries_of v) ≡ o → IsReached front v ws p
    go false o =
        let same : b.demands ≡ ws = sym (whole_is b.asks b.demands (entries_of v) paired many o) ∙ is in
        closing_law front symbols v ws p b.at_front b.specimens (b.exactly_is ∙ ap Some same)
    go true o = at_tail o (tail_found symbols b.asks y.single calm b.least_is)
