-- The depths of a module that begins with a front.
use Rattle.std.proofs.Common.{◌≡◌, max, Bool, List, [], ◌∷◌, ◌++◌, sym, ap, ◌∙◌, arith}
use Rattle.py_tokens.specs.Token.{Place}
use Rattle.py_syntax.specs.Laws.{finished}
use Rattle.py_nesting.specs.Outlines.{Event}
use Rattle.py_nesting.specs.Effects.{after_all}
use Rattle.py_nesting.specs.Walk.{Demand, Whole, back, walk, met_depth}
use Rattle.py_nesting.proofs.WalkCounts.{brought_more}
use Rattle.py_nesting.proofs.EventsAdded.{built_more}
use Rattle.py_nesting.proofs.FirstFound.{depths_met}
use Rattle.py_fronts.specs.AtFront.{asked, nodes_of, DepthLaw}
use Rattle.py_fronts.proofs.DerivedFit.{fit_law}
use Rattle.py_fronts.proofs.FrontsReached.{completion_law}

pub walk_both : (at : Place → Bool) (later events : List Event) (ds : List Demand)
    → met_depth at (walk (later ++ events) ds) ≡ max (met_depth at (nodes_of later ds)) (met_depth at (walk events (asked later ds)))
walk_both at [] events ds = omega arith
walk_both at (e ∷ later) events ds =
    let all = brought_more at e ds (walk (later ++ events) (back e ds)) in
    let first = brought_more at e ds (nodes_of later (back e ds)) in
    let same = walk_both at later events (back e ds) in omega arith

pub depth_law : DepthLaw
depth_law front more symbols v body f m =
    let y = (completion_law front symbols v f).0 more body m in
    let l = fit_law symbols v (finished body) more f.fit y in
    (l.0, λ at. sym (depths_met (l.0 ++ f.events) body at (built_more l.0 f.events ∙ ap (after_all l.0) f.put ∙ l.1)) ∙ walk_both at l.0 f.events (Whole 0 ∷ []))
