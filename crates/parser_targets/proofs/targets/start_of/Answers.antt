use Rattle.std.proofs.Common.{List, slice_get, arith, ap, ◌∙◌}
use Rattle.std.proofs.lemmas.Grind.{common_steps}
use Rattle.py_ast.specs.PlainExprs.{plain_exprs_by_variant}
use Rattle.py_ast.specs.declared.tree.Expr.{Expr}
use Rattle.parser_targets.proofs.TargetLemmas.{starts_at_first, starts_at_comma, slices}
use Rattle.parser_targets.proofs.targets.start_of.Goals as goal
use Rattle.parser_targets.proofs.targets.start_of.Goals.{in-Tuple+in-Some, in-Attribute2}

pub returns-in-None : goal.returns-in-None
returns-in-None c =
    starts_at_comma c.loop-turn.inner.now c.in-Tuple.place c.in-Tuple.items c.in-Tuple.is (c.in-None.ensures.value ∙ ap (λ (l : List Expr). slice_get l 0) c.as_slice.ensures)
    ∙ c.loop-turn.invariant

pub loop-turn-preserved : goal.loop-turn-preserved
loop-turn-preserved c =
    elim c.match-inner.branch [
      | in-Tuple+in-Some w ↦
          starts_at_first c.loop-turn.inner.now c.match-inner.inner.now w.in-Some.first.now w.in-Tuple.place w.in-Tuple.items w.in-Tuple.is (cc)
          (w.in-Some.ensures.value ∙ ap (λ (l : List Expr). slice_get l 0) w.as_slice.ensures)
          ∙ c.loop-turn.invariant
      | in-Attribute2 w ↦ grind (arith, common_steps, plain_exprs_by_variant, slices)
    ]
