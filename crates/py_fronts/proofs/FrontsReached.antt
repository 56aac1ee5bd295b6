-- The run behind a front, step by step, and the modules that go on from there.
use Rattle.std.proofs.Common.{◌≡◌, ℕ, zero, suc, ◌+◌, Bool, true, false, cond, ◌==◌, List, [], ◌∷◌, ◌++◌, Option, Some, None, refl, sym, ap, ◌∙◌, subst, arith}
use Rattle.grammars.specs.Grammar.{Tok, Non, Do, allows, Row, IsRow, sight}
use Rattle.grammars.specs.Derivation.{Yields}
use Rattle.grammars.specs.Run.{Done, Stuck, pick, expand, run}
use Rattle.grammars.proofs.Sound.{sound}
use Rattle.grammars.proofs.Steps.{by_token, by_action, by_row}
use Rattle.py_syntax.specs.Token.{Token}
use Rattle.py_syntax.specs.Kinds.{kind_of}
use Rattle.py_syntax.specs.Build.{PToken, Parts, Action, act}
use Rattle.py_syntax.specs.Table.{Symbol, Nonterminal, rows, table, sets}
use Rattle.py_syntax.specs.Laws.{goal, start, finished}
use Rattle.py_syntax.proofs.KeptAll.{spelt_so}
use Rattle.py_syntax.proofs.TableLaws.{tree_is_reached}
use Rattle.py_nesting.specs.Shapes.{entry_of}
use Rattle.py_nesting.specs.Effects.{effect, after_all}
use Rattle.py_nesting.proofs.EffectsKept.{effects_kept}
use Rattle.py_nesting.proofs.EventsAdded.{built_more}
use Rattle.py_fronts.specs.Kinds.{fits, token_kind}
use Rattle.py_fronts.specs.Fit.{Fit}
use Rattle.py_fronts.specs.AtFront.{AtFront, CompletionLaw}
use Rattle.py_fronts.proofs.PartsBegin.{parts_begin}
use Rattle.py_fronts.proofs.TableFits.{row_fits}
use Rattle.py_fronts.proofs.DerivedFit.{token_fits_so, start_law}

-- a run that ends ends with more steps too
one_longer : (n : ℕ) (symbols : List Symbol) (v : Parts) (ts : List Token) (w : Parts) → run table sets n symbols v ts ≡ Done w → run table sets (suc n) symbols v ts ≡ Done w
one_longer zero [] v [] w h = h
one_longer zero [] v (t ∷ ts) w h = absurd (cc)
one_longer zero (s ∷ symbols) v ts w h = absurd (cc)
one_longer (suc n) [] v [] w h = h
one_longer (suc n) [] v (t ∷ ts) w h = absurd (cc)
one_longer (suc n) (Tok k ∷ symbols) v [] w h = absurd (cc)
one_longer (suc n) (Tok k ∷ symbols) v (t ∷ ts) w h = go (kind_of t == k) h (λ g. one_longer n symbols (PToken t ∷ v) ts w g)
  where
    go : (b : Bool) → cond b (run table sets n symbols (PToken t ∷ v) ts) (Stuck (t ∷ ts)) ≡ Done w
        → (run table sets n symbols (PToken t ∷ v) ts ≡ Done w → run table sets (suc n) symbols (PToken t ∷ v) ts ≡ Done w)
        → cond b (run table sets (suc n) symbols (PToken t ∷ v) ts) (Stuck (t ∷ ts)) ≡ Done w
    go true h again = again h
    go false h again = absurd (cc)
one_longer (suc n) (Non x ∷ symbols) v ts w h = go (pick table sets x v (sight table ts)) h (λ more g. one_longer n more v ts w g)
  where
    go : (o : Option (Row Nonterminal Action Parts)) → expand (run table sets n) symbols v ts o ≡ Done w
        → ((more : List Symbol) → run table sets n more v ts ≡ Done w → run table sets (suc n) more v ts ≡ Done w)
        → expand (run table sets (suc n)) symbols v ts o ≡ Done w
    go None h again = absurd (cc)
    go (Some r) h again = again (r.symbols ++ symbols) h
one_longer (suc n) (Do a ∷ symbols) v ts w h = one_longer n symbols (act a v) ts w h

pub longer : (k n : ℕ) (symbols : List Symbol) (v : Parts) (ts : List Token) (w : Parts) → run table sets n symbols v ts ≡ Done w → run table sets (k + n) symbols v ts ≡ Done w
longer zero n symbols v ts w h = let e : zero + n ≡ n = omega arith in rw e h
longer (suc k) n symbols v ts w h = let e : suc k + n ≡ suc (k + n) = omega arith in rw e (one_longer (k + n) symbols v ts w (longer k n symbols v ts w h))

pub at_beginning : (front : List Token) → AtFront front front goal start
at_beginning front = record { steps = 0; goes = λ more n. (let e : 0 + n ≡ n = omega arith in rw e refl); derives = λ more w y. y; fit = start_law; events = []; put = refl; begun = tt }

-- one step further
deeper : (k n : ℕ) → suc k + n ≡ k + suc n
deeper k n = omega arith

pub over_action : (front ahead : List Token) (a : Action) (symbols : List Symbol) (v : Parts) → AtFront front ahead (Do a ∷ symbols) v → AtFront front ahead symbols (act a v)
over_action front ahead a symbols v f =
    let kept = effects_kept a v (effect f.fit.0 f.fit.1) f.fit.2 in
    record {
      steps = suc f.steps;
      goes = λ more n. rw (deeper f.steps n) (f.goes more (suc n));
      derives = λ more w y. f.derives more w (by_action table a symbols v (ahead ++ more) w y);
      fit = subst (Fit symbols) (sym kept.0) f.fit.3;
      events = f.fit.1 ++ f.events;
      put = built_more f.fit.1 f.events ∙ ap (after_all f.fit.1) f.put ∙ kept.1;
      begun = parts_begin a v f.begun;
    }

pub over_token : (front ahead : List Token) (t : Token) (k : ℕ) (symbols : List Symbol) (v : Parts) → kind_of t ≡ k → (kind_of t == k) ≡ true
    → AtFront front (t ∷ ahead) (Tok k ∷ symbols) v → AtFront front ahead symbols (PToken t ∷ v)
over_token front ahead t k symbols v e same f =
    record {
      steps = suc f.steps;
      goes = λ more n. rw (deeper f.steps n) (f.goes more (suc n) ∙ ap (λ (b : Bool). cond b (run table sets n symbols (PToken t ∷ v) (ahead ++ more)) (Stuck (t ∷ ahead ++ more))) same);
      derives = λ more w y. f.derives more w (subst (λ (m : ℕ). Yields table (Tok m ∷ symbols) v (t ∷ ahead ++ more) w) e (by_token table t symbols v (ahead ++ more) w y));
      fit = f.fit (entry_of (PToken t)) (subst (λ (m : ℕ). fits (token_kind m) (entry_of (PToken t)) ≡ true) e (token_fits_so t));
      events = f.events;
      put = f.put;
      begun = (tt, f.begun);
    }

pub over_row : (front ahead : List Token) (t : Token) (x : Nonterminal) (r : Row Nonterminal Action Parts) (symbols : List Symbol) (v : Parts)
    → pick table sets x v (sight table (t ∷ ahead)) ≡ Some r → IsRow r (rows x) → allows r.guard v ≡ true
    → AtFront front (t ∷ ahead) (Non x ∷ symbols) v → AtFront front (t ∷ ahead) (r.symbols ++ symbols) v
over_row front ahead t x r symbols v e i a f =
    record {
      steps = suc f.steps;
      goes = λ more n. rw (deeper f.steps n) (f.goes more (suc n) ∙ ap (expand (run table sets n) symbols v (t ∷ ahead ++ more)) e);
      derives = λ more w y. f.derives more w (by_row table x r symbols v (t ∷ ahead ++ more) w i a y);
      fit = row_fits x r v symbols i a f.fit.0 f.fit.1;
      events = f.events;
      put = f.put;
      begun = f.begun;
    }

pub completion_law : CompletionLaw
completion_law front symbols v f = (
  λ more body m. (
      let reached = tree_is_reached body (front ++ more) m in
      sound table sets reached.0 symbols v more (finished body) (sym (f.goes more reached.0) ∙ longer f.steps reached.0 goal start (front ++ more) (finished body) reached.1)
      ),
  λ more w y. spelt_so (front ++ more) w (f.derives more w y),
)
