-- What the search that computes finds is there.
use Rattle.std.proofs.Common.{◌≡◌, ℕ, zero, suc, ◌<◌, ◌≤◌, nat_lt, Bool, true, false, ◌&&◌, ◌==◌, if◌then◌else◌, List, [], ◌∷◌, ◌++◌, length, Option, Some, None, ◌⊎◌, inl, inr, refl, sym, ◌∙◌, subst, arith, eqb-true, ltb-true}
use Rattle.std.specs.Option.{option_map}
use Rattle.std.proofs.lemmas.Option.{none-some, same_Some}
use Rattle.grammars.specs.Run.{Stuck, run}
use Rattle.grammars.proofs.Bools.{and_left, and_right}
use Rattle.py_syntax.specs.Token.{Token}
use Rattle.py_constructs.specs.Construct.{Construct, construct_order, constructs}
use Rattle.py_constructs.specs.Values.{Numbered, Told, Value, begin}
use Rattle.py_constructs.specs.Table.{Symbol, additions, extended, sets, goal}
use Rattle.py_constructs.specs.Reached.{settled, End, head_at, IsHead, EndLaw}
use Rattle.py_constructs.specs.Search.{Best, IsBest, better}
use Rattle.py_constructs.specs.OneStep.{Step, Going, Finished, Halted, one_step, OnWay}
use Rattle.py_constructs.specs.Trial.{after, ending, search, SearchLaw}
use Rattle.py_constructs.proofs.OnWay.{start_law, step_law, halt_law, finish_law}
use Rattle.py_constructs.proofs.Searched.{not_below, next_law, last_law}
use Rattle.py_constructs.proofs.Standing.{told_law, stuck_law}

ends : (c : Construct) (n : ℕ) (symbols : List Symbol) (v : Value) (ts rest : List Token) (w : Value) → OnWay c ts symbols v rest → ending c n symbols v rest ≡ Some w → End c ts w
ends c zero symbols v ts rest w o e = absurd (none-some w e)
ends c (suc n) symbols v ts rest w o e = go (one_step (additions c) symbols v rest) refl e (λ others u more p q. ends c n others u ts more w p q)
  where
    go : (s : Step) → one_step (additions c) symbols v rest ≡ s → after (ending c n) v s ≡ Some w
        → ((others : List Symbol) (u : Value) (more : List Token) → OnWay c ts others u more → ending c n others u more ≡ Some w → End c ts w) → End c ts w
    go (Going others u more) k q again = again others u more (step_law c ts symbols others v u rest more o k) q
    go Finished k q again = subst (End c ts) (same_Some v w q) (finish_law c ts symbols v rest o k)
    go Halted k q again = subst (End c ts) (same_Some v w q) (halt_law c ts symbols v rest o k)

-- the head that is told at the end of a run
pub end_law : EndLaw
end_law c ts w first end = go (nat_lt first w.read) refl
  where
    on_split : (o : Option Numbered) → IsHead c (end.before ++ end.rest) first o → IsHead c ts first o
    on_split o h = subst (λ (l : List Token). IsHead c l first o) (sym end.split) h

    long : nat_lt first w.read ≡ true → first < length end.before
    long e = let l : first < w.read = ltb-true first w.read e in let r = end.reached.read in omega arith

    short : nat_lt first w.read ≡ false → length end.before ≤ first
    short e = let l : w.read ≤ first = not_below first w.read e in let r = end.reached.read in omega arith

    none : (length end.before ≤ first) ⊎ (settled end.symbols w ≡ None) → IsHead c ts first None
    none n = on_split None (stuck_law c end.steps end.before end.rest end.symbols w first end.reached (on_run end.ended) n)
      where
        on_run : (run (extended c) sets end.steps goal begin ts ≡ Stuck end.rest) ⊎ (end.rest ≡ []) → (run (extended c) sets end.steps goal begin (end.before ++ end.rest) ≡ Stuck end.rest) ⊎ (end.rest ≡ [])
        on_run (inl h) = inl (subst (λ (l : List Token). run (extended c) sets end.steps goal begin l ≡ Stuck end.rest) end.split h)
        on_run (inr h) = inr h

    told : nat_lt first w.read ≡ true → (o : Option Told) → w.told ≡ o → IsHead c ts first (option_map (λ (t : Told). t.head) o)
    told e None t = none (inr (end.settled_so ∙ t))
    told e (Some u) t = on_split (Some u.head) (told_law c end.before end.rest end.symbols w u first end.reached t (long e))

    go : (b : Bool) → nat_lt first w.read ≡ b → IsHead c ts first (if b then option_map (λ (t : Told). t.head) w.told else None)
    go true e = told e w.told refl
    go false e = none (inl (short e))

-- constructs that stand in order from n on
abbrev are_in_order : ℕ → List Construct → Bool
are_in_order n [] = n == 44
are_in_order n (c ∷ more) = (construct_order c == n) && are_in_order (suc n) more

in_order : are_in_order 0 constructs ≡ true
in_order = refl

searched : (more : List Construct) (k n : ℕ) (ts : List Token) (first : ℕ) (o p : Option Best) → are_in_order k more ≡ true → IsBest k ts first o → search more n ts first o ≡ Some p → IsBest 44 ts first p
searched [] k n ts first o p i b e = subst (λ (m : ℕ). IsBest m ts first p) (eqb-true k 44 i) (subst (IsBest k ts first) (same_Some o p e) b)
searched (c ∷ more) k n ts first o p i b e = go (ending c n goal begin ts) refl e (λ q m j. searched more (suc k) n ts first q p (and_right _ _ i) m j)
  where
    go : (r : Option Value) → ending c n goal begin ts ≡ r → elim r [ None ↦ None | Some v ↦ search more n ts first (better o c (head_at first v)) ] ≡ Some p
        → ((q : Option Best) → IsBest (suc k) ts first q → search more n ts first q ≡ Some p → IsBest 44 ts first p) → IsBest 44 ts first p
    go None f s again = absurd (none-some p s)
    go (Some v) f s again =
        let order : construct_order c ≡ k = eqb-true (construct_order c) k (and_left _ _ i) in
        let end : End c ts v = ends c n goal begin ts ts v (start_law c ts) f in
        let here : IsHead c ts first (head_at first v) = end_law c ts v first end in
        let next = next_law ts first o c (head_at first v) (subst (λ (m : ℕ). IsBest m ts first o) (sym order) b) here in
        again (better o c (head_at first v)) (subst (λ (m : ℕ). IsBest (suc m) ts first (better o c (head_at first v))) order next) s

pub search_law : SearchLaw
search_law n ts first o e = last_law ts first o (searched constructs 0 n ts first None o in_order (λ d head l s. absurd (omega arith)) e)
