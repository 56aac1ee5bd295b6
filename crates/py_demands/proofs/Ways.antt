-- A front of the tokens is closed to a module in which nodes stand as deep as the closing symbols ask.
use Rattle.std.proofs.Common.{◌≡◌, ◌≤◌, Bool, false, List, [], ◌∷◌, length, refl, sym, subst, append-nil, arith}
use Rattle.py_tokens.specs.Token.{Place}
use Rattle.py_syntax.specs.Tree.{Body}
use Rattle.py_syntax.specs.Build.{Parts}
use Rattle.py_syntax.specs.Laws.{finished}
use Rattle.py_syntax.specs.Table.{Symbol}
use Rattle.py_nesting.specs.Depths.{body_depth}
use Rattle.py_nesting.specs.Shapes.{entries_of}
use Rattle.py_nesting.specs.Walk.{Whole}
use Rattle.py_fronts.specs.Fit.{Fit}
use Rattle.py_fronts.proofs.FrontsReached.{completion_law}
use Rattle.py_demands.specs.Bound.{standing, ClosingLaw}
use Rattle.py_demands.proofs.Closed.{Same, closed}
use Rattle.py_demands.proofs.Lower.{whole_stands}

pub closing_law : ClosingLaw
closing_law front symbols v ds p f k e =
    let c = closed p symbols v k in
    let m = (completion_law front symbols v f).1 c.tokens c.left c.derived in
    let l = c.leads [] f.events (subst (λ (s : List Symbol). Fit s (entries_of v)) (sym (append-nil symbols)) f.fit) f.put f.begun in
    let one : length (Whole 0 ∷ []) ≡ length (entries_of c.left) = subst (λ (w : Parts). length (Whole 0 ∷ []) ≡ length (entries_of w)) (sym m.1) refl in
    let r = l.3 (Whole 0 ∷ []) ds one e in
    (c.tokens, m.0, m.2, c.placed, r.0, λ at. whole_so m.0 at (subst (λ (w : Parts). Same at p w (Whole 0 ∷ []) v ds) m.1 (r.1 at)))
  where
    whole_so : (body : Body) (at : Place → Bool) → Same at p (finished body) (Whole 0 ∷ []) v ds → (standing at v ds ≤ body_depth at body) × (at p ≡ false → body_depth at body ≤ standing at v ds)
    whole_so body at s = let w = whole_stands at body in ((let t = s.0 in omega arith), λ h. (let t = s.1 h in omega arith))
