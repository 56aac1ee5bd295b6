-- A run with n ticks has one result.
use Rattle.std.proofs.Common.{◌≡◌, ℕ, zero, suc, List, Option, Some, subst}
use Rattle.runs.specs.Run.{Next, Goes, Ticks, Ends, Machine, Result, decide, run_for, ComesTo}
use Rattle.runs.specs.Laws.{OneResult, BothWays}

same_decision : {S : Type 0} (out : List ℕ) (next : Next S) (n : ℕ) (again other : ℕ → S → Option Result) (r q : Result) → ((m : ℕ) (t : S) → again m t ≡ Some r → other m t ≡ Some q → r ≡ q) → decide out next n again ≡ Some r → decide out next n other ≡ Some q → r ≡ q
same_decision out (Goes t) n again other r q same e f = same n t e f
same_decision out (Ticks t) zero again other r q same e f = cc
same_decision out (Ticks t) (suc n) again other r q same e f = same n t e f
same_decision out (Ends x) n again other r q same e f = cc

one_result_for : {S : Type 0} (m : Machine S) (k j n : ℕ) (s : S) (r q : Result) → run_for m k n s ≡ Some r → run_for m j n s ≡ Some q → r ≡ q
one_result_for m zero j n s r q e f = cc
one_result_for m (suc k) zero n s r q e f = cc
one_result_for m (suc k) (suc j) n s r q e f =
    same_decision (m.output s) (m.step s) n (run_for m k) (run_for m j) r q (λ n' t e' f'. one_result_for m k j n' t r q e' f') e f

pub one_result : {S : Type 0} → OneResult S
one_result m n s r q c d = one_result_for m c.0 d.0 n s r q c.1 d.1

pub both_ways : {S T : Type 0} → BothWays S T
both_ways L s R t same n r =
    let p = same n in (
      (λ c. subst (ComesTo R n t) (one_result L n s p.0 r p.1 c) p.2),
      (λ c. subst (ComesTo L n s) (one_result R n t p.0 r p.2 c) p.1),
    )
