-- A module is shallow exactly where no node of it lies too deep.
use Rattle.std.proofs.Common.{◌≡◌, suc, ◌≤◌, ◌⊎◌, inl, inr, arith}
use Rattle.py_tokens.specs.Token.{Place}
use Rattle.py_syntax.specs.Tree.{Body}
use Rattle.py_syntax.specs.Heights.{body_height, most_ancestors, IsShallow}
use Rattle.py_nesting.specs.Depths.{body_depth}
use Rattle.py_nesting.specs.TooDeep.{same_place, IsTooDeepAt, ShallowLaw}
use Rattle.py_nesting.proofs.Fits.{low_or_high, fits_body}

not_deeper : (body : Body) → IsShallow body → (p : Place) → IsTooDeepAt p body → ⊥
not_deeper body h p d = let a = (fits_body body).0 (same_place p) in omega arith

deeper : (body : Body) → ((p : Place) → IsTooDeepAt p body → ⊥) → (suc (suc most_ancestors) ≤ body_height body) → ⊥
deeper body none high = at (fits_body body).1
  where
    at : ((body_height body ≡ 0) ⊎ ((p : Place) × (body_height body ≤ body_depth (same_place p) body))) → ⊥
    at (inl e) = omega arith
    at (inr p) = none p.0 (let h = p.1 in omega arith)

shallow : (body : Body) → ((p : Place) → IsTooDeepAt p body → ⊥) → IsShallow body
shallow body none = at (low_or_high (body_height body) (suc most_ancestors))
  where
    at : ((body_height body ≤ suc most_ancestors) ⊎ (suc (suc most_ancestors) ≤ body_height body)) → IsShallow body
    at (inl l) = l
    at (inr l) = absurd (deeper body none l)

pub shallow_law : ShallowLaw
shallow_law body = (not_deeper body, shallow body)
