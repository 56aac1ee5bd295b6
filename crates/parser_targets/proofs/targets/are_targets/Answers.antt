use Rattle.std.proofs.Common.{Bor, List, arith, ap, ◌∙◌, length}
use Rattle.py_syntax.specs.Build.{is_some, target_list_of}
use Rattle.py_ast.specs.PlainExprs.{plain_exprs}
use Rattle.py_ast.specs.declared.tree.Expr.{Expr}
use Rattle.parser_targets.proofs.TargetLemmas.{commas_inside, not_one_inside, one_inside, in_parenthesis}
use Rattle.parser_targets.proofs.targets.are_targets.Goals as goal
use Rattle.parser_targets.proofs.targets.are_targets.Goals.{in-Parenthesis, in-List+in-None+in-len1}

pub returns-in-Some : goal.returns-in-Some
returns-in-Some c =
    c.are_all_targets.ensures ∙ ap (λ (l : List Expr). is_some (target_list_of (plain_exprs l))) c.as_slice.ensures
    ∙ commas_inside c.loop-turn.inner.now c.in-List.field-0 _ c.in-List.comma c.in-List.items c.in-List.is c.in-Some.is
    ∙ c.loop-turn.invariant

pub returns-in_default : goal.returns-in_default
returns-in_default c =
    not_one_inside c.loop-turn.inner.now c.in-List.field-0 c.in-List.comma c.in-List.items c.in-List.is c.in-None.is (λ one. omega (arith, ap length c.as_slice-in-None.ensures))
    ∙ c.loop-turn.invariant

pub returns-in_default-2 : goal.returns-in_default-2
returns-in_default-2 c =
    not_one_inside c.loop-turn.inner.now c.in-List.field-0 c.in-List.comma c.in-List.items c.in-List.is c.in-None.is (λ one. omega (arith, ap length c.as_slice-in-None.ensures))
    ∙ c.loop-turn.invariant

pub loop-turn-preserved : goal.loop-turn-preserved
loop-turn-preserved c =
    elim c.match-inner.branch [
      | in-Parenthesis w ↦ in_parenthesis c.loop-turn.inner.now c.match-inner.inner.now w.in-Parenthesis.within _ w.in-Parenthesis.is (cc) ∙ c.loop-turn.invariant
      | in-List+in-None+in-len1 w ↦
          one_inside c.loop-turn.inner.now c.match-inner.inner.now w.item-item.result w.in-List.field-0 w.in-List.comma w.in-List.items w.as_slice-in-None.result.now
          w.in-List.is w.in-None.is w.as_slice-in-None.ensures (omega arith) w.item-item.is (ap (λ (r : Bor Expr). r.now) w.inner-is)
          ∙ c.loop-turn.invariant
    ]
