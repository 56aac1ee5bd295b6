-- The table and the grammar say the same.
use Rattle.std.proofs.Common.{List, [], ◌∷◌, ◌++◌, refl, sym, ap, subst, append-nil, append_assoc}
use Rattle.grammars.specs.Derivation.{Yields}
use Rattle.grammars.proofs.Sound.{sound}
use Rattle.grammars.proofs.Complete.{complete, one_value}
use Rattle.grammars.proofs.Longest.{longest}
use Rattle.py_syntax.specs.Token.{Token}
use Rattle.py_syntax.specs.Tree.{Body, no_stmts}
use Rattle.py_syntax.specs.Build.{Parts, PBody}
use Rattle.py_syntax.specs.Grammar.{IsModule}
use Rattle.py_syntax.specs.Table.{table, sets}
use Rattle.py_syntax.specs.Laws.{goal, start, finished, TableSpells, OneTree, RunBuildsTree, StuckAtLongestFront, TreeIsReached}
use Rattle.py_syntax.proofs.TableSets.{decided, completable, goal_decided, goal_has_specimens}
use Rattle.py_syntax.proofs.ModulesDerived.{derived}
use Rattle.py_syntax.proofs.KeptAll.{spelt_so}

-- the body that is built
abbrev body_of : Parts → Body
body_of (PBody b ∷ v) = b
body_of v = no_stmts

pub table_spells : TableSpells
table_spells body ts = (
  derived body ts,
  λ y. let s = spelt_so ts (finished body) y in subst (λ (b : Body). IsModule b ts) (sym (ap body_of s.1)) s.2,
)

pub one_tree : OneTree
one_tree one other ts h k =
    ap body_of (one_value table sets decided goal start ts (finished one) (finished other) goal_decided (derived one ts h) (derived other ts k))

pub run_builds_tree : RunBuildsTree
run_builds_tree n ts v h = spelt_so ts v (sound table sets n goal start ts v h)

pub stuck_at_longest_front : StuckAtLongestFront
stuck_at_longest_front n ts [] h =
    let l = longest table sets decided completable n goal start ts [] goal_decided goal_has_specimens h in
    let s = spelt_so (l.0 ++ l.2.0) l.2.1 l.2.2 in (
      l.0,
      l.1,
      ((l.2.0, s.0, s.2), λ body k. l.3 [] (finished body) refl (subst (λ (x : List Token). Yields table goal start x (finished body)) (sym (append-nil l.0)) (derived body l.0 k))),
    )
stuck_at_longest_front n ts (t ∷ rest) h =
    let l = longest table sets decided completable n goal start ts (t ∷ rest) goal_decided goal_has_specimens h in
    let s = spelt_so (l.0 ++ l.2.0) l.2.1 l.2.2 in (
      l.0,
      l.1,
      (
        (l.2.0, s.0, s.2),
        λ k. l.3 (t ∷ k.0) (finished k.1) refl
            (subst (λ (x : List Token). Yields table goal start x (finished k.1)) (append_assoc l.0 (t ∷ []) k.0) (derived k.1 ((l.0 ++ t ∷ []) ++ k.0) k.2)),
      ),
    )

pub tree_is_reached : TreeIsReached
tree_is_reached body ts h =
    let y = derived body ts h in (y.0, complete table sets decided y.0 goal start ts (finished body) goal_decided y.1)
