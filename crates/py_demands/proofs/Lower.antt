-- The nodes of the parts behind a front stand no less deep in a module that begins with it.
use Rattle.std.proofs.Common.{◌≡◌, Bool, [], ◌∷◌, refl, arith}
use Rattle.py_tokens.specs.Token.{Place}
use Rattle.py_syntax.specs.Tree.{Body}
use Rattle.py_syntax.specs.Laws.{finished}
use Rattle.py_nesting.specs.Depths.{body_depth}
use Rattle.py_nesting.specs.Outlines.{outline_depth}
use Rattle.py_nesting.specs.TreeOutlines.{body_outline}
use Rattle.py_nesting.specs.Walk.{Whole, raise}
use Rattle.py_nesting.proofs.OutlinesCount.{outline_law}
use Rattle.py_fronts.proofs.FrontsReached.{completion_law}
use Rattle.py_nesting.proofs.FirstFound.{from_the_top}
use Rattle.py_demands.specs.Least.{AtLeast}
use Rattle.py_demands.specs.Bound.{standing, LowerLaw}
use Rattle.py_demands.specs.Turned.{TurnedLaw}
use Rattle.py_demands.proofs.Bounded.{bounded}

pub whole_stands : (at : Place → Bool) (body : Body) → standing at (finished body) (Whole 0 ∷ []) ≡ body_depth at body
whole_stands at body =
    let top : raise 0 (outline_depth at (body_outline body)) ≡ outline_depth at (body_outline body) = from_the_top (outline_depth at (body_outline body)) in
    let whole : outline_depth at (body_outline body) ≡ body_depth at body = outline_law at body in
    omega arith

pub turned_law : TurnedLaw
turned_law front more symbols v body asks f m k e =
    let y = (completion_law front symbols v f).0 more body m in
    let b = bounded y.0 symbols v (finished body) more f.events (Whole 0 ∷ []) f.fit f.put f.begun y.1 refl in (
      b.demands,
      b.many,
      b.no_less (AtLeast 0 ∷ []) asks (omega arith, tt) k e,
      b.turned (tt, tt),
      λ at. ((let s = b.stand at in let w = whole_stands at body in omega arith), λ h. (let s = b.stand_so at h in let w = whole_stands at body in omega arith)),
    )

pub lower_law : LowerLaw
lower_law front more symbols v body asks f m k e = let t = turned_law front more symbols v body asks f m k e in (t.0, t.1, t.2, t.4)
