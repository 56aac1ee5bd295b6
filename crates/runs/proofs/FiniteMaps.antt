-- The laws of `put`.
use Rattle.std.proofs.Common.{◌≡◌, Bool, true, false, Some, ap}
use Rattle.std.specs.Prelude.{if◌then◌else◌}
use Rattle.runs.specs.FiniteMap.{Map, put}
use Rattle.runs.specs.Laws.{PutLaws}

pub put_same : {K V : Type 0} (same : K → K → Bool) (m : Map K V) (k q : K) (v : V) → same k q ≡ true → put same m k v q ≡ Some v
unfolding put
put_same same m k q v e = ap (λ b. if b then Some v else m q) e

pub put_other : {K V : Type 0} (same : K → K → Bool) (m : Map K V) (k q : K) (v : V) → same k q ≡ false → put same m k v q ≡ m q
unfolding put
put_other same m k q v e = ap (λ b. if b then Some v else m q) e

pub put_laws : {K V : Type 0} → PutLaws K V
put_laws = record { there = put_same; elsewhere = put_other }
