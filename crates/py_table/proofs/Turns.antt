-- Steps and turns of the run.
use Rattle.std.proofs.Common.{◌≡◌, ℕ, suc, ◌+◌, Bool, true, false, cond, ◌==◌, List, [], ◌∷◌, Option, Some, None, refl, ap, ◌∙◌, arith, eqb-true, ◌<◌, ◌≤◌}
use Rattle.grammars.specs.Grammar.{Tok, Non, Do, Row, Sight, sight}
use Rattle.grammars.specs.Run.{Outcome as RunOutcome, Done, Stuck, expand, run}
use Rattle.py_tokens.specs.Lexeme.{keywords, operators}
use Rattle.py_syntax.specs.Token.{TName, TKeyword, TOperator, Token, At}
use Rattle.py_syntax.specs.Kinds.{place_among, kind_of}
use Rattle.py_syntax.proofs.TokenOf.{no_more}
use Rattle.py_syntax.specs.Build.{Action, Parts, PToken}
use Rattle.py_syntax.specs.Table.{Symbol, Nonterminal, table, sets}
use Rattle.py_syntax.specs.Laws.{goal, start}
use Rattle.py_table.specs.Sights.{end_number, sight_numbered, number_of_sight, row_before, allowed}
use Rattle.py_table.specs.Steps.{stack_of, Step, Going, Finished, Halted, expanded, one_step, Became, Ended, RunsOn}
use Rattle.py_table.specs.declared.symbol.Symbol.{Symbol as SymbolKept}
use Rattle.py_table.specs.declared.run.Next.{Next}
use Rattle.py_table.specs.declared.run.Next.TheVariants as next
use Rattle.py_table.proofs.Picked.{pick_before}

pub ended_became : (texts : List (List ℕ)) (Stands : Parts → Type 0) (v : Parts) (symbols : List SymbolKept) (n : Next) (s : Step)
    → Ended n s → Stands v → Became texts Stands v symbols n s
ended_became texts Stands v symbols (next.Goes rest) s h t = absurd h
ended_became texts Stands v symbols next.Done s h t = (h, t)
ended_became texts Stands v symbols next.Stuck s h t = h

-- the run after a step
abbrev pub after : ℕ → Parts → List Token → Step → RunOutcome Token Parts
after n v ts (Going symbols w rest) = run table sets n symbols w rest
after n v ts Finished = Done v
after n v ts Halted = Stuck ts

row_expanded : (n : ℕ) (symbols : List Symbol) (v : Parts) (ts : List Token) (o : Option (Row Nonterminal Action Parts))
    → expand (run table sets n) symbols v ts o ≡ after n v ts (expanded o symbols v ts)
row_expanded n symbols v ts None = refl
row_expanded n symbols v ts (Some r) = refl

kind_below : (t : Token) → kind_of t < 95
kind_below (At p (TName true x)) = omega arith
kind_below (At p (TName false x)) = omega arith
kind_below (At p (TKeyword s)) = let most : place_among keywords s ≤ 35 = no_more keywords s in omega arith
kind_below (At p (TOperator s)) = let most : place_among operators s ≤ 47 = no_more operators s in omega arith
kind_below (At p _) = omega arith

pub sight_of_number : (ts : List Token) → sight table ts ≡ sight_numbered (number_of_sight ts)
sight_of_number [] = refl
sight_of_number (t ∷ ts) = go (kind_of t == end_number) refl
  where
    go : (b : Bool) → (kind_of t == end_number) ≡ b → Some (kind_of t) ≡ cond b None (Some (kind_of t))
    go false e = refl
    go true e = let low : kind_of t < 95 = kind_below t in let same : kind_of t ≡ 95 = eqb-true _ _ e in absurd (omega arith)

pub step_runs : (n : ℕ) (symbols : List Symbol) (v : Parts) (ts : List Token) → run table sets (suc n) symbols v ts ≡ after n v ts (one_step symbols v ts)
step_runs n [] v [] = refl
step_runs n [] v (t ∷ ts) = refl
step_runs n (Tok k ∷ symbols) v [] = refl
step_runs n (Tok k ∷ symbols) v (t ∷ ts) = go (kind_of t == k)
  where
    go : (b : Bool) → cond b (run table sets n symbols (PToken t ∷ v) ts) (Stuck (t ∷ ts)) ≡ after n v (t ∷ ts) (cond b (Going symbols (PToken t ∷ v) ts) Halted)
    go true = refl
    go false = refl
step_runs n (Non x ∷ symbols) v ts =
    ap (expand (run table sets n) symbols v ts) (pick_before x v (sight table ts))
    ∙ row_expanded n symbols v ts (allowed v (row_before x (sight table ts)))
    ∙ ap (λ (s : Sight). after n v ts (expanded (allowed v (row_before x s)) symbols v ts)) (sight_of_number ts)
step_runs n (Do a ∷ symbols) v ts = refl

pub runs_at_start : (ts : List Token) (Stands : Parts → Type 0) → Stands start → RunsOn 0 ts Stands goal ts
unfolding RunsOn
runs_at_start ts Stands s = (start, s, λ n. let e : 0 + n ≡ n = omega arith in ap (λ (m : ℕ). run table sets m goal start ts) e)

pub runs_further : (texts : List (List ℕ)) (turns : ℕ) (ts : List Token) (Old New : Parts → Type 0) (symbols : List Symbol) (others : List SymbolKept) (rest left : List Token)
    → RunsOn turns ts Old symbols rest
    → ((v : Parts) → Old v → (w : Parts) × New w × (one_step symbols v rest ≡ Going (stack_of others) w left))
    → RunsOn (turns + 1) ts New (stack_of others) left
unfolding RunsOn
runs_further texts turns ts Old New symbols others rest left h e =
    let v = h.0 in
    let next = e v h.1 in (
      next.0,
      next.1,
      λ n.
          let m : turns + 1 + n ≡ turns + suc n = omega arith in
          ap (λ (k : ℕ). run table sets k goal start ts) m ∙ h.2 (suc n) ∙ step_runs n symbols v rest ∙ ap (after n v rest) next.2,
    )

pub runs_to_end : (turns : ℕ) (ts : List Token) (Old New : Parts → Type 0) (symbols : List Symbol) (rest : List Token)
    → RunsOn turns ts Old symbols rest → ((v : Parts) → Old v → (one_step symbols v rest ≡ Finished) × New v)
    → (n : ℕ) × (v : Parts) × New v × (run table sets n goal start ts ≡ Done v)
unfolding RunsOn
runs_to_end turns ts Old New symbols rest h e =
    let v = h.0 in
    let f = e v h.1 in
    (turns + 1, v, f.1, h.2 1 ∙ step_runs 0 symbols v rest ∙ ap (after 0 v rest) f.0)

pub runs_stuck : (turns : ℕ) (ts : List Token) (Old : Parts → Type 0) (symbols : List Symbol) (rest : List Token)
    → RunsOn turns ts Old symbols rest → ((v : Parts) → Old v → one_step symbols v rest ≡ Halted)
    → (n : ℕ) × (run table sets n goal start ts ≡ Stuck rest)
unfolding RunsOn
runs_stuck turns ts Old symbols rest h e =
    let v = h.0 in
    (turns + 1, h.2 1 ∙ step_runs 0 symbols v rest ∙ ap (after 0 v rest) (e v h.1))
