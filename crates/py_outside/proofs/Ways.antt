-- Where runs have come.
use Rattle.std.proofs.Common.{◌≡◌, ℕ, suc, ◌<◌, nat_lt, Bool, true, false, if◌then◌else◌, List, [], ◌∷◌, inl, inr, Option, Some, None, refl, sym, subst, arith, ltb-true}
use Rattle.std.specs.Option.{option_map}
use Rattle.std.proofs.lemmas.Option.{none-some, same_Some}
use Rattle.grammars.specs.Grammar.{Tok, Do}
use Rattle.py_syntax.specs.Token.{Token}
use Rattle.py_constructs.specs.Construct as meaning
use Rattle.py_constructs.specs.Construct.{construct_order}
use Rattle.py_constructs.specs.Values.{Numbered, Told, Value, Action, begin}
use Rattle.py_constructs.specs.Table.{Symbol, Addition, additions, goal}
use Rattle.py_constructs.specs.OneStep.{Going, Finished, Halted, one_step, OnWay}
use Rattle.py_constructs.specs.Reached.{head_at, IsHead}
use Rattle.py_constructs.specs.Search.{IsBest, Best, better, found}
use Rattle.py_constructs.specs.Standing.{Finding, IsFinding}
use Rattle.py_constructs.proofs.Searched.{next_law, last_law}
use Rattle.py_constructs.proofs.OnWay.{start_law, step_law, own_step_law, halt_law, finish_law, early_law}
use Rattle.py_constructs.proofs.Trial.{end_law}
use Rattle.py_outside.specs.Ways.{OnAllWays, HasEnded}

pub at_start : (ts : List Token) (symbols : List Symbol) (v : Value) → symbols ≡ goal → v ≡ begin → OnAllWays ts symbols v ts
at_start ts symbols v e f = λ c. subst (λ (s : List Symbol). OnWay c ts s v ts) (sym e) (subst (λ (w : Value). OnWay c ts goal w ts) (sym f) (start_law c ts))

pub further : (ts : List Token) (symbols others : List Symbol) (v w : Value) (rest more : List Token) → OnAllWays ts symbols v rest → one_step [] symbols v rest ≡ Going others w more
    → OnAllWays ts others w more
further ts symbols others v w rest more h e = λ c. own_step_law c ts symbols others v w rest more (h c) e

-- where a run has ended that tells no head in time, there is none
pub none_halted : (c : meaning.Construct) (ts : List Token) (symbols : List Symbol) (v : Value) (rest : List Token) (first : ℕ) → OnWay c ts symbols v rest
    → one_step (additions c) symbols v rest ≡ Halted → head_at first v ≡ None → IsHead c ts first None
none_halted c ts symbols v rest first w e n = subst (IsHead c ts first) n (end_law c ts v first (halt_law c ts symbols v rest w e))

pub none_finished : (c : meaning.Construct) (ts : List Token) (symbols : List Symbol) (v : Value) (rest : List Token) (first : ℕ) → OnWay c ts symbols v rest
    → one_step (additions c) symbols v rest ≡ Finished → head_at first v ≡ None → IsHead c ts first None
none_finished c ts symbols v rest first w e n = subst (IsHead c ts first) n (end_law c ts v first (finish_law c ts symbols v rest w e))

-- what is on top and no name ends a run with each construct where it does with none
pub read_ended : (more : List Addition) (k : ℕ) (symbols : List Symbol) (v : Value) (ts : List Token) → HasEnded [] (Tok k ∷ symbols) v ts → HasEnded more (Tok k ∷ symbols) v ts
read_ended more k symbols v [] h = h
read_ended more k symbols v (t ∷ ts) h = h

pub done_ended : (more : List Addition) (a : Action) (symbols : List Symbol) (v : Value) (ts : List Token) → HasEnded [] (Do a ∷ symbols) v ts → HasEnded more (Do a ∷ symbols) v ts
done_ended more a symbols v ts h = h

pub nothing_ended : (more : List Addition) (v : Value) (ts : List Token) → HasEnded [] [] v ts → HasEnded more [] v ts
nothing_ended more v [] h = h
nothing_ended more v (t ∷ ts) h = h

-- the head at the end of a run
pub head_there : (c : meaning.Construct) (ts : List Token) (symbols : List Symbol) (v : Value) (rest : List Token) (first : ℕ) → OnWay c ts symbols v rest
    → HasEnded (additions c) symbols v rest → IsHead c ts first (head_at first v)
head_there c ts symbols v rest first w (inl h) = end_law c ts v first (halt_law c ts symbols v rest w h)
head_there c ts symbols v rest first w (inr h) = end_law c ts v first (finish_law c ts symbols v rest w h)

-- no construct comes before the first
pub none_first : (ts : List Token) (first : ℕ) (n : ℕ) → n ≡ 0 → IsBest n ts first None
none_first ts first n e = λ d head l s. absurd (let z : construct_order d < 0 = subst (λ (m : ℕ). construct_order d < m) e l in omega arith)

-- a head that is told in time is the construct's
pub told_early : (c : meaning.Construct) (ts : List Token) (symbols : List Symbol) (v : Value) (rest : List Token) (head : Numbered) (first : ℕ) → OnWay c ts symbols v rest
    → head_at first v ≡ Some head → IsHead c ts first (Some head)
told_early c ts symbols v rest head first w e = go (nat_lt first v.read) refl v.told refl e
  where
    go : (b : Bool) → nat_lt first v.read ≡ b → (o : Option Told) → v.told ≡ o → (if b then option_map (λ (t : Told). t.head) o else None) ≡ Some head → IsHead c ts first (Some head)
    go false l o t e = absurd (none-some head e)
    go true l None t e = absurd (none-some head e)
    go true l (Some u) t e = subst (λ (h : Numbered). IsHead c ts first (Some h)) (same_Some u.head head e) (early_law c ts symbols v rest u first w t (ltb-true first v.read l))

pub step_further : (c : meaning.Construct) (ts : List Token) (symbols others : List Symbol) (v w : Value) (rest more : List Token) → OnWay c ts symbols v rest
    → one_step (additions c) symbols v rest ≡ Going others w more → OnWay c ts others w more
step_further c ts symbols others v w rest more h e = step_law c ts symbols others v w rest more h e

pub next_one : (ts : List Token) (first : ℕ) (o now : Option Best) (c : meaning.Construct) (head : Option Numbered) (n : ℕ) → IsBest (construct_order c) ts first o → IsHead c ts first head
    → now ≡ better o c head → n ≡ suc (construct_order c) → IsBest n ts first now
next_one ts first o now c head n b h e m =
    subst (λ (k : ℕ). IsBest k ts first now) (sym m) (subst (λ (p : Option Best). IsBest (suc (construct_order c)) ts first p) (sym e) (next_law ts first o c head b h))

pub last_one : (ts : List Token) (first : ℕ) (o now : Option Best) (c : meaning.Construct) (head : Option Numbered) (f : Option Finding) → IsBest (construct_order c) ts first o → IsHead c ts first head
    → now ≡ better o c head → suc (construct_order c) ≡ 44 → f ≡ found now → IsFinding ts first f
last_one ts first o now c head f b h e m g =
    subst (IsFinding ts first) (sym g) (last_law ts first now (next_one ts first o now c head 44 b h e (sym m)))

-- the same stack
pub ended_there : (more : List Addition) (all symbols : List Symbol) (v : Value) (ts : List Token) → all ≡ symbols → HasEnded more symbols v ts → HasEnded more all v ts
ended_there more all symbols v ts e h = subst (λ (l : List Symbol). HasEnded more l v ts) (sym e) h
