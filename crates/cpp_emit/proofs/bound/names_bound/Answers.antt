use Rattle.std.proofs.Common.{◌≡◌, List, [], ap, ◌∙◌, rules, arith}
use Rattle.std.proofs.lemmas.Grind.{common_steps}
use Rattle.py_built.specs.PlainTrees.{plain_body}
use Rattle.py_meaning.specs.Binding.{targets, once}
use Rattle.py_built.specs.declared.tree.Stmt.{Stmt}
use Rattle.py_built.specs.Names.{texts}
use Rattle.cpp_emit.specs.Names.{with_names}
use Rattle.cpp_emit.proofs.NamesKept.{with_names-once}
use Rattle.cpp_emit.proofs.bound.names_bound.Goals as goal

pub returns : goal.returns
returns c =
    let empty : texts c.new-names.result ≡ [] = first_of (search rules, grind (arith, common_steps, c.new-names.ensures.empty)) in
    c.in_ok-bind_targets.ensures
    ∙ ap (λ ns. with_names ns (targets (plain_body c.as_slice.result.now))) empty
    ∙ with_names-once (targets (plain_body c.as_slice.result.now)) []
    ∙ ap (λ (body : List Stmt). once [] (targets (plain_body body))) c.as_slice.ensures
