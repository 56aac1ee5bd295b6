use Rattle.std.proofs.Common.{◌≤◌, ◌^◌, length, arith, ap, sym, subst, ◌∙◌, map, string_bytes}
use Rattle.std.proofs.lemmas.List.{take_all}
use Rattle.shed_base.specs.Names.{special_texts, AreDistinct}
use Rattle.shed_base.proofs.NamesPlaced.{nothing-distinct, specials_step, special_at}
use Rattle.shed_base.proofs.names.Names.new.Goals as goal

pub invariant_of-names : goal.invariant_of-names
invariant_of-names c =
    subst (λ ks. AreDistinct (map string_bytes ks) × (length ks ≤ 2 ^ 32)) (sym c.new.ensures.empty) (nothing-distinct, omega arith)

pub loop-text-init : goal.loop-text-init
loop-text-init c = (ap (map string_bytes) c.new.ensures.empty, (invariant_of-names c).0)

pub loop-text-preserved : goal.loop-text-preserved
loop-text-preserved c =
    (specials_step _ _ _ _ _ c.in_ok-intern.ensures.texts c.loop-text.invariant.0 (special_at _ _ _ _ _ _ c.loop-text.text-index) c.loop-text-test.true, c.in_ok-intern.ensures.distinct)

pub returns-clause-texts : goal.returns-clause-texts
returns-clause-texts c =
    let past = c.loop-text-test.false in
    c.loop-text.invariant.0 ∙ take_all c.loop-text.text-index special_texts (omega arith)

pub returns-clause-distinct : goal.returns-clause-distinct
returns-clause-distinct c = c.loop-text.invariant.1
