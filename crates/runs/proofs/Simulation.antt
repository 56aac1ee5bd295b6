-- Steps that answer one another give equal runs.
use Rattle.std.proofs.Common.{◌≡◌, ℕ, zero, suc, List, Some, ap, ◌∙◌, subst}
use Rattle.runs.specs.Run.{Ending, GoingOn, Next, Goes, Ticks, Ends, Machine, Result, Gives, decide, run_for, ComesTo, SameRuns}

-- whatever the run from t comes to, the run from s comes to
abbrev pub Leads : {S : Type 0} → Machine S → S → S → Type 0
Leads m s t = (n : ℕ) (r : Result) → ComesTo m n t r → ComesTo m n s r

pub leads_stay : {S : Type 0} (m : Machine S) (s : S) → Leads m s s
leads_stay m s n r c = c

pub leads_on : {S : Type 0} (m : Machine S) (s t u : S) → Leads m s t → Leads m t u → Leads m s u
leads_on m s t u f g n r c = f n r (g n r c)

-- a step that takes no tick
pub leads_step : {S : Type 0} (m : Machine S) (s t : S) → m.step s ≡ Goes t → Leads m s t
leads_step m s t e n r c = (suc c.0, ap (λ next. decide (m.output s) next n (run_for m c.0)) e ∙ c.1)

-- how the machine R, at t, answers a step that L makes: with the same tick or ending and output, and to moments that are
-- related again
abbrev pub Answers : {S T : Type 0} → Machine T → (S → T → Type 0) → List ℕ → T → Next S → Type 0
Answers {S} {T} R Rel out t (Goes s) = (t' : T) × Leads R t t' × Rel s t'
Answers {S} {T} R Rel out t (Ticks s) = (t1 : T) × (t' : T) × Leads R t t1 × (R.step t1 ≡ Ticks t') × (R.output t1 ≡ out) × Rel s t'
Answers {S} {T} R Rel out t (Ends e) = (t1 : T) × Leads R t t1 × (R.step t1 ≡ Ends e) × (R.output t1 ≡ out)

-- what a step of R comes to, where the rest of the run is known
ends_so : {T : Type 0} (R : Machine T) (n : ℕ) (t : T) (e : Ending) (out : List ℕ) → R.step t ≡ Ends e → R.output t ≡ out → ComesTo R n t (Gives out e)
ends_so R n t e out step same =
    (1, ap (λ next. decide (R.output t) next n (run_for R 0)) step ∙ ap (λ o. Some (Gives o e)) same)

pub waits : {T : Type 0} (R : Machine T) (t t' : T) (out : List ℕ) → R.step t ≡ Ticks t' → R.output t ≡ out → ComesTo R 0 t (Gives out GoingOn)
waits R t t' out step same =
    (1, ap (λ next. decide (R.output t) next 0 (run_for R 0)) step ∙ ap (λ o. Some (Gives o GoingOn)) same)

pub ticks_on : {T : Type 0} (R : Machine T) (n : ℕ) (t t' : T) (r : Result) → R.step t ≡ Ticks t' → ComesTo R n t' r → ComesTo R (suc n) t r
ticks_on R n t t' r step c =
    (suc c.0, ap (λ next. decide (R.output t) next (suc n) (run_for R c.0)) step ∙ c.1)

module _ {S T : Type 0} (L : Machine S) (R : Machine T) (Rel : S → T → Type 0) (answers : (s : S) (t : T) → Rel s t → Answers R Rel (L.output s) t (L.step s)) where
  after : (out : List ℕ) (next : Next S) (k n : ℕ) (t : T) (r : Result) → ((m : ℕ) (s : S) (u : T) → Rel s u → run_for L k m s ≡ Some r → ComesTo R m u r) → Answers R Rel out t next → decide out next n (run_for L k) ≡ Some r → ComesTo R n t r
  after out (Goes s) k n t r again a e = a.1 n r (again n s a.0 a.2 e)
  after out (Ticks s) k zero t r again a e =
      let same : Gives out GoingOn ≡ r = cc in
      subst (ComesTo R zero t) same (a.2 zero (Gives out GoingOn) (waits R a.0 a.1 out a.3 a.4))
  after out (Ticks s) k (suc n) t r again a e = a.2 (suc n) r (ticks_on R n a.0 a.1 r a.3 (again n s a.1 a.5 e))
  after out (Ends x) k n t r again a e =
      let same : Gives out x ≡ r = cc in
      subst (ComesTo R n t) same (a.1 n (Gives out x) (ends_so R n a.0 x out a.2 a.3))

  -- whatever L comes to from s, R comes to from a related moment
  pub follows : (k n : ℕ) (s : S) (t : T) (r : Result) → Rel s t → run_for L k n s ≡ Some r → ComesTo R n t r
  follows zero n s t r rel e = cc
  follows (suc k) n s t r rel e =
      after (L.output s) (L.step s) k n t r (λ m s' u rel' e'. follows k m s' u r rel' e') (answers s t rel) e

  -- so where L always comes to a result, the runs are the same
  pub same_runs : (s : S) (t : T) → ((n : ℕ) → (r : Result) × ComesTo L n s r) → Rel s t → SameRuns L s R t
  same_runs s t comes rel n =
      let p = comes n in
      (p.0, p.1, follows p.1.0 n s t p.0 rel p.1.1)
