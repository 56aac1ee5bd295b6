-- The run behind a front, step by step.
use Rattle.std.proofs.Common.{◌≡◌, ℕ, suc, ◌+◌, Bool, true, false, ◌==◌, if◌then◌else◌, List, [], ◌∷◌, ◌++◌, Option, Some, None, refl, sym, ap, ◌∙◌, subst, arith, eqb-true}
use Rattle.grammars.specs.Grammar.{Tok, Non, Do, Row, Sight, sight}
use Rattle.grammars.specs.Run.{Done, Stuck, pick, run}
use Rattle.grammars.proofs.Rows.{pick_is_row}
use Rattle.py_syntax.specs.Token.{Token}
use Rattle.py_syntax.specs.Kinds.{kind_of}
use Rattle.py_syntax.specs.Tree.{Body}
use Rattle.py_syntax.specs.Build.{PToken, Parts, Action}
use Rattle.py_syntax.specs.Grammar.{IsModule}
use Rattle.py_syntax.specs.Table.{Symbol, Nonterminal, table, sets}
use Rattle.py_syntax.specs.Laws.{goal, start, finished}
use Rattle.py_syntax.proofs.TableLaws.{tree_is_reached}
use Rattle.py_fronts.proofs.FrontsReached.{longer}
use Rattle.py_nesting.specs.Outlines.{built}
use Rattle.py_demands.specs.Behind.{Behind}
use Rattle.py_demands.specs.Ready.{Ready}
use Rattle.py_demands.proofs.ReadySteps.{ready_law}
use Rattle.py_demands.proofs.Steps.{behind_at_beginning, behind_action, behind_token, behind_row}
use Rattle.py_table.specs.Sights.{sight_numbered, number_of_sight, row_before, allowed}
use Rattle.py_table.specs.Steps.{stack_of, Step, Going, Finished, Halted, expanded, one_step}
use Rattle.py_table.specs.declared.symbol.Symbol.{Symbol as SymbolKept}
use Rattle.py_table.specs.declared.symbol.Symbol.TheVariants as symbol
use Rattle.py_table.specs.declared.symbol.Nonterminal.TheVariants as nonterminal
use Rattle.py_table.specs.declared.symbol.Action.TheVariants as action
use Rattle.py_table.proofs.Picked.{pick_before}
use Rattle.py_table.proofs.SymbolStacks.{started}
use Rattle.py_table.proofs.Turns.{after, sight_of_number, step_runs}
use Rattle.py_depth.specs.PlainEntries.{entries_of, events_of}
use Rattle.py_depth.specs.declared.nest.Nest.{Nest}
use Rattle.py_front_depth.specs.Reaching.{is_done, StandsFor, StandsHere}

-- at the beginning nothing stands for nothing
pub at_start : (front : List Token) (a b c : List SymbolKept) (nest : Nest) → a ≡ [] → b ≡ a ++ symbol.Expand nonterminal.Module ∷ [] → c ≡ b ++ symbol.Do action.BeginBody ∷ []
    → nest.entries.items ≡ [] → nest.events.items ≡ [] → StandsHere front front c nest
unfolding entries_of events_of
at_start front a b c nest e f h i j = (
  start,
  subst (λ (l : List Symbol). Behind front front l start) (sym (started a b c e f h)) (behind_at_beginning front),
  subst (λ (l : List Symbol). Ready l front) (sym (started a b c e f h)) (ready_law.0 front),
  (ap entries_of i, ap (λ l. built (events_of l)) j),
)

-- where the step goes
abbrev GoesOn : List Token → Step → Type 0
GoesOn front (Going symbols v ts) = Behind front ts symbols v × Ready symbols ts
GoesOn front Finished = Unit {0}
GoesOn front Halted = Unit {0}

row_taken : (x : Nonterminal) (v : Parts) (t : Token) (ts : List Token) → pick table sets x v (sight table (t ∷ ts)) ≡ allowed v (row_before x (sight_numbered (number_of_sight (t ∷ ts))))
row_taken x v t ts = pick_before x v (sight table (t ∷ ts)) ∙ ap (λ (s : Sight). allowed v (row_before x s)) (sight_of_number (t ∷ ts))

stepped : (front ahead : List Token) (symbols : List Symbol) (v : Parts) → Behind front ahead symbols v → Ready symbols ahead → is_done ahead symbols ≡ false → GoesOn front (one_step symbols v ahead)
stepped front [] [] v b y d = tt
stepped front (t ∷ ts) [] v b y d = tt
stepped front [] (Tok k ∷ symbols) v b y d = tt
stepped front (t ∷ ts) (Tok k ∷ symbols) v b y d = go (kind_of t == k) refl
  where
    go : (c : Bool) → (kind_of t == k) ≡ c → GoesOn front (if c then Going symbols (PToken t ∷ v) ts else Halted)
    go true e = (behind_token front ts t k symbols v (eqb-true (kind_of t) k e) b, ready_law.2 ts t k symbols y)
    go false e = tt
stepped front [] (Non x ∷ symbols) v b y d = absurd (cc)
stepped front (t ∷ ts) (Non x ∷ symbols) v b y d = go (allowed v (row_before x (sight_numbered (number_of_sight (t ∷ ts))))) (row_taken x v t ts)
  where
    go : (o : Option (Row Nonterminal Action Parts)) → pick table sets x v (sight table (t ∷ ts)) ≡ o → GoesOn front (expanded o symbols v (t ∷ ts))
    go None e = tt
    go (Some r) e =
        let i = pick_is_row table sets x v (sight table (t ∷ ts)) r e in
        (behind_row front ts t x r symbols v e i.0 i.1 b, ready_law.3 front ts t x r symbols v i.0 b y)
stepped front ahead (Do a ∷ symbols) v b y d = (behind_action front ahead a symbols v b, ready_law.1 front ahead a symbols v b y)

pub further : (front ahead left : List Token) (symbols : List Symbol) (others : List SymbolKept) (old new : Nest) → ((v : Parts) × Behind front ahead symbols v × Ready symbols ahead × StandsFor old v) → is_done ahead symbols ≡ false
    → ((v : Parts) → StandsFor old v → (w : Parts) × StandsFor new w × (one_step symbols v ahead ≡ Going (stack_of others) w left)) → StandsHere front left others new
further front ahead left symbols others old new h d s =
    let next = s h.0 h.3 in
    let there = subst (GoesOn front) next.2 (stepped front ahead symbols h.0 h.1 h.2 d) in
    (next.0, there.0, there.1, next.1)

-- where it is stuck with these tokens, it is so with more behind them
abbrev IsHalted : Step → Type 0
IsHalted (Going symbols v ts) = ⊥
IsHalted Finished = ⊥
IsHalted Halted = Unit {0}

halted_with : (t : Token) (ts more : List Token) (symbols : List Symbol) (v : Parts) → one_step symbols v (t ∷ ts) ≡ Halted → one_step symbols v (t ∷ ts ++ more) ≡ Halted
halted_with t ts more [] v h = refl
halted_with t ts more (Tok k ∷ symbols) v h = go (kind_of t == k) h
  where
    go : (c : Bool) → (if c then Going symbols (PToken t ∷ v) ts else Halted) ≡ Halted → (if c then Going symbols (PToken t ∷ v) (ts ++ more) else Halted) ≡ Halted
    go true e = absurd (subst IsHalted (sym e) tt)
    go false e = refl
halted_with t ts more (Non x ∷ symbols) v h = go (allowed v (row_before x (sight_numbered (kind_of t)))) h
  where
    go : (o : Option (Row Nonterminal Action Parts)) → expanded o symbols v (t ∷ ts) ≡ Halted → expanded o symbols v (t ∷ ts ++ more) ≡ Halted
    go None e = refl
    go (Some r) e = absurd (subst IsHalted (sym e) tt)
halted_with t ts more (Do a ∷ symbols) v h = absurd (subst IsHalted (sym h) tt)

-- and then no module begins with the tokens
no_module : (front ahead : List Token) (symbols : List Symbol) (v : Parts) → Behind front ahead symbols v → is_done ahead symbols ≡ false → one_step symbols v ahead ≡ Halted
    → (more : List Token) (body : Body) → IsModule body (front ++ more) → ⊥
no_module front [] [] v b d h more body m = absurd (cc)
no_module front [] (Tok k ∷ symbols) v b d h more body m = absurd (cc)
no_module front [] (Non x ∷ symbols) v b d h more body m = absurd (cc)
no_module front [] (Do a ∷ symbols) v b d h more body m = absurd (subst IsHalted (sym h) tt)
no_module front (t ∷ ts) symbols v b d h more body m =
    let f = b.at_front in
    let r = tree_is_reached body (front ++ more) m in
    let stuck : run table sets (suc r.0) symbols v (t ∷ ts ++ more) ≡ Stuck (t ∷ ts ++ more) = step_runs r.0 symbols v (t ∷ ts ++ more) ∙ ap (after r.0 v (t ∷ ts ++ more)) (halted_with t ts more symbols v h) in
    let done : run table sets (suc f.steps + r.0) goal start (front ++ more) ≡ Done (finished body) = longer (suc f.steps) r.0 goal start (front ++ more) (finished body) r.1 in
    let same : suc f.steps + r.0 ≡ f.steps + suc r.0 = omega arith in
    let both : Stuck (t ∷ ts ++ more) ≡ Done (finished body) = sym stuck ∙ sym (f.goes more (suc r.0)) ∙ ap (λ (n : ℕ). run table sets n goal start (front ++ more)) (sym same) ∙ done in
    absurd (cc)

pub stuck_so : (front ahead : List Token) (symbols : List Symbol) (old : Nest) → ((v : Parts) × Behind front ahead symbols v × Ready symbols ahead × StandsFor old v) → is_done ahead symbols ≡ false
    → ((v : Parts) → StandsFor old v → one_step symbols v ahead ≡ Halted) → (more : List Token) (body : Body) → IsModule body (front ++ more) → ⊥
stuck_so front ahead symbols old h d s = no_module front ahead symbols h.0 h.1 d (s h.0 h.3)

-- it is never at its end where something is left to do
not_finished : (ahead : List Token) (symbols : List Symbol) (v : Parts) → is_done ahead symbols ≡ false → one_step symbols v ahead ≡ Finished → ⊥
not_finished [] [] v d h = absurd (cc)
not_finished (t ∷ ts) [] v d h = absurd (cc)
not_finished [] (Tok k ∷ symbols) v d h = absurd (cc)
not_finished (t ∷ ts) (Tok k ∷ symbols) v d h = go (kind_of t == k) h
  where
    go : (c : Bool) → (if c then Going symbols (PToken t ∷ v) ts else Halted) ≡ Finished → ⊥
    go true e = absurd (cc)
    go false e = absurd (cc)
not_finished ahead (Non x ∷ symbols) v d h = go (allowed v (row_before x (sight_numbered (number_of_sight ahead)))) h
  where
    go : (o : Option (Row Nonterminal Action Parts)) → expanded o symbols v ahead ≡ Finished → ⊥
    go None e = absurd (cc)
    go (Some r) e = absurd (cc)
not_finished ahead (Do a ∷ symbols) v d h = absurd (cc)

pub done_so : (front ahead : List Token) (symbols : List Symbol) (old : Nest) (A : Parts → Type 0) → ((v : Parts) × Behind front ahead symbols v × Ready symbols ahead × StandsFor old v) → is_done ahead symbols ≡ false
    → ((v : Parts) → StandsFor old v → (one_step symbols v ahead ≡ Finished) × A v) → (more : List Token) (body : Body) → IsModule body (front ++ more) → ⊥
done_so front ahead symbols old A h d s more body m = not_finished ahead symbols h.0 d (s h.0 h.3).0
