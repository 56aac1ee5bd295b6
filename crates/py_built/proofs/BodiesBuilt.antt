-- Bodies that are built statement by statement.
use Rattle.std.proofs.Common.{◌≡◌, ℕ, ◌+◌, ◌<◌, ◌≤◌, true, List, [], ◌∷◌, ◌++◌, length, drop, get_or, Option, Some, None, refl, sym, ap, ◌∙◌}
use Rattle.std.proofs.Math.ListN.{drop_of_length-le}
use Rattle.std.specs.Option.{option_map}
use Rattle.py_syntax.specs.Tree as whole
use Rattle.py_meaning.specs.Name.{Name}
use Rattle.py_meaning.specs.Rules.{are_reads_sure}
use Rattle.py_meaning.specs.Tree as meaning
use Rattle.py_meaning.specs.Built.{both, built_stmt, built_body, unbuilt, first_place}
use Rattle.py_meaning.proofs.BuiltLaws.{nothing_unbuilt}
use Rattle.py_ast.specs.declared.tree.Stmt.{Stmt as WholeStmt}
use Rattle.py_ast.specs.PlainTrees as whole_trees
use Rattle.py_built.specs.declared.tree.Stmt.{Stmt}
use Rattle.py_built.specs.PlainTrees.{plain_stmt, plain_body}
use Rattle.py_built.specs.Forms.{behind}
use Rattle.py_built.proofs.FirstPlaces.{no_first}
use Rattle.py_built.proofs.UnbuiltSteps.{drop_at}

behind_one_more : (built : List Stmt) (t : Stmt) (body : meaning.Body) → behind (built ++ t ∷ []) body ≡ behind built (meaning.more (plain_stmt t) body)
behind_one_more [] t body = refl
behind_one_more (u ∷ built) t body = ap (meaning.more (plain_stmt u)) (behind_one_more built t body)

pub behind_nothing : (built : List Stmt) → behind built meaning.none ≡ plain_body built
behind_nothing [] = refl
behind_nothing (t ∷ built) = ap (meaning.more (plain_stmt t)) (behind_nothing built)

one_more : (built : List Stmt) (t : Stmt) (o : Option meaning.Stmt) (rest : Option meaning.Body) → o ≡ Some (plain_stmt t)
    → option_map (behind (built ++ t ∷ [])) rest ≡ option_map (behind built) (both meaning.more o rest)
one_more built t None rest is = absurd (cc)
one_more built t (Some u) None is = refl
one_more built t (Some u) (Some body) is = ap Some (behind_one_more built t body ∙ ap (λ s. behind built (meaning.more s body)) (cc))

pub built_step : (texts : List Name) (built : List Stmt) (all : Option meaning.Body) (items : List WholeStmt) (i : ℕ) (s : WholeStmt) (t : Stmt)
    → i < length items → s ≡ get_or items i s → built_stmt texts (whole_trees.plain_stmt s) ≡ Some (plain_stmt t)
    → option_map (behind built) (built_body texts (whole_trees.plain_body (drop i items))) ≡ all
    → option_map (behind (built ++ t ∷ [])) (built_body texts (whole_trees.plain_body (drop (i + 1) items))) ≡ all
built_step texts built all items i s t within is e h =
    one_more built t (built_stmt texts (whole_trees.plain_stmt s)) (built_body texts (whole_trees.plain_body (drop (i + 1) items))) e
    ∙ ap (λ (ss : List WholeStmt). option_map (behind built) (built_body texts (whole_trees.plain_body ss))) (sym (drop_at items i s within is))
    ∙ h

pub built_end : (texts : List Name) (built : List Stmt) (all : Option meaning.Body) (items : List WholeStmt) (i : ℕ) → length items ≤ i
    → option_map (behind built) (built_body texts (whole_trees.plain_body (drop i items))) ≡ all → all ≡ Some (plain_body built)
built_end texts built all items i past h =
    sym h
    ∙ ap (λ (ss : List WholeStmt). option_map (behind built) (built_body texts (whole_trees.plain_body ss))) (drop_of_length-le items past)
    ∙ ap Some (behind_nothing built)

-- where nothing is unbuilt, what is built reads no name that may be unset
pub built_reads : (texts : List Name) (tree : whole.Body) (body : meaning.Body) → first_place (unbuilt texts [] tree) ≡ None → built_body texts tree ≡ Some body → are_reads_sure [] body ≡ true
built_reads texts tree body h is =
    let law = (nothing_unbuilt texts tree).0 (no_first (unbuilt texts [] tree) h) in
    ap (λ (b : meaning.Body). are_reads_sure [] b) (same body law.0 (sym is ∙ law.1)) ∙ law.2
  where
    same : (a b : meaning.Body) → Some a ≡ Some b → a ≡ b
    same a b h = (cc)
