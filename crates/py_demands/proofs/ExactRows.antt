-- What closing a row asks is always there.
use Rattle.std.proofs.Common.{◌≡◌, Bool, true, false, ◌&&◌, List, [], ◌∷◌, ◌++◌, map, Option, Some, None, inl, inr, refl, sym, ap, ◌∙◌, append_assoc}
use Rattle.grammars.specs.Grammar.{Tok, Non, Do, Row, IsRow}
use Rattle.grammars.proofs.Bools.{and_left, and_right}
use Rattle.py_syntax.specs.Build.{Parts, Action, Drop}
use Rattle.py_syntax.specs.Table.{Symbol, Nonterminal, Module, rows}
use Rattle.py_nesting.specs.Walk.{Demand, Nothing}
use Rattle.py_demands.specs.Roles.{asked_by, roles}
use Rattle.py_demands.specs.Closing.{asks_exactly, exactly_by, exactly_symbol, exactly_before, exactly}
use Rattle.std.proofs.lemmas.Option.{same_Some}

abbrev is_there : Option (List Demand) → Bool
is_there None = false
is_there (Some ds) = true

abbrev all_there : Demand → List (Row Nonterminal Action Parts) → Bool
all_there d [] = true
all_there d (r ∷ these) = is_there (exactly r.symbols (Some (d ∷ []))) && all_there d these

rows_there : (x : Nonterminal) (d : Demand) → all_there d (rows x) ≡ true
rows_there Module d = refl
rows_there _ d = refl

row_there : (d : Demand) (r : Row Nonterminal Action Parts) (these : List (Row Nonterminal Action Parts)) → all_there d these ≡ true → IsRow r these → is_there (exactly r.symbols (Some (d ∷ []))) ≡ true
row_there d r [] h i = absurd i
row_there d r (q ∷ these) h (inl e) = ap (λ (s : Row Nonterminal Action Parts). is_there (exactly s.symbols (Some (d ∷ [])))) e ∙ and_left _ _ h
row_there d r (q ∷ these) h (inr i) = row_there d r these (and_right (is_there (exactly q.symbols (Some (d ∷ [])))) _ h) i

there_is : (o : Option (List Demand)) → is_there o ≡ true → (ds : List Demand) × (o ≡ Some ds)
there_is None h = absurd (cc)
there_is (Some ds) h = (ds, refl)

action_frame : (a : Action) (ds us cs : List Demand) → exactly_by a ds ≡ Some us → exactly_by a (ds ++ cs) ≡ Some (us ++ cs)
action_frame Drop ds us cs e = ap (λ (l : List Demand). Some (l ++ cs)) (same_Some (Nothing ∷ ds) us e)
action_frame a [] us cs e = absurd (cc)
action_frame a (d ∷ ds) us cs e = ap Some (sym (append_assoc (map (asked_by d) (roles a)) ds cs)) ∙ ap (λ (l : List Demand). Some (l ++ cs)) (same_Some _ us e)

symbol_frame : (s : Symbol) (ds us cs : List Demand) → exactly_symbol s ds ≡ Some us → exactly_symbol s (ds ++ cs) ≡ Some (us ++ cs)
symbol_frame (Tok k) [] us cs e = absurd (cc)
symbol_frame (Tok k) (d ∷ ds) us cs e = ap (λ (l : List Demand). Some (l ++ cs)) (same_Some ds us e)
symbol_frame (Do a) ds us cs e = action_frame a ds us cs e
symbol_frame (Non x) [] us cs e = absurd (cc)
symbol_frame (Non x) (d ∷ ds) us cs e = ap Some (sym (append_assoc (map (asked_by d) (asks_exactly x)) ds cs)) ∙ ap (λ (l : List Demand). Some (l ++ cs)) (same_Some _ us e)

pub exactly_frame : (symbols : List Symbol) (ds us cs : List Demand) → exactly symbols (Some ds) ≡ Some us → exactly symbols (Some (ds ++ cs)) ≡ Some (us ++ cs)
exactly_frame [] ds us cs e = ap (λ (l : List Demand). Some (l ++ cs)) (same_Some ds us e)
exactly_frame (s ∷ symbols) ds us cs e = go (exactly symbols (Some ds)) refl e (λ rs h. exactly_frame symbols ds rs cs h)
  where
    go : (o : Option (List Demand)) → exactly symbols (Some ds) ≡ o → exactly_before s o ≡ Some us
        → ((rs : List Demand) → exactly symbols (Some ds) ≡ Some rs → exactly symbols (Some (ds ++ cs)) ≡ Some (rs ++ cs)) → exactly_before s (exactly symbols (Some (ds ++ cs))) ≡ Some (us ++ cs)
    go None o h again = absurd (cc)
    go (Some rs) o h again = ap (exactly_before s) (again rs o) ∙ symbol_frame s rs us cs h

pub exactly_joined : (these symbols : List Symbol) (o : Option (List Demand)) → exactly (these ++ symbols) o ≡ exactly these (exactly symbols o)
exactly_joined [] symbols o = refl
exactly_joined (s ∷ these) symbols o = ap (exactly_before s) (exactly_joined these symbols o)

-- a row in place of its nonterminal
pub row_asks : (x : Nonterminal) (r : Row Nonterminal Action Parts) (symbols : List Symbol) (o : Option (List Demand)) (ds : List Demand) → IsRow r (rows x) → exactly (Non x ∷ symbols) o ≡ Some ds
    → (us : List Demand) × (exactly (r.symbols ++ symbols) o ≡ Some us)
row_asks x r symbols o ds i e = go (exactly symbols o) refl e
  where
    go : (w : Option (List Demand)) → exactly symbols o ≡ w → exactly_before (Non x) w ≡ Some ds → (us : List Demand) × (exactly (r.symbols ++ symbols) o ≡ Some us)
    go None w h = absurd (cc)
    go (Some []) w h = absurd (cc)
    go (Some (d ∷ rest)) w h =
        let t = there_is (exactly r.symbols (Some (d ∷ []))) (row_there d r (rows x) (rows_there x d) i) in
        (t.0 ++ rest, exactly_joined r.symbols symbols o ∙ ap (exactly r.symbols) w ∙ exactly_frame r.symbols (d ∷ []) t.0 rest t.1)

-- what is asked behind the first symbol
pub behind_first : (s : Symbol) (symbols : List Symbol) (o : Option (List Demand)) (ds : List Demand) → exactly (s ∷ symbols) o ≡ Some ds → (us : List Demand) × (exactly symbols o ≡ Some us)
behind_first s symbols o ds e = go (exactly symbols o) refl e
  where
    go : (w : Option (List Demand)) → exactly symbols o ≡ w → exactly_before s w ≡ Some ds → (us : List Demand) × (exactly symbols o ≡ Some us)
    go None w h = absurd (cc)
    go (Some us) w h = (us, w)
