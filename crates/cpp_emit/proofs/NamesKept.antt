-- The names that are bound, name by name.
use Rattle.std.proofs.Common.{◌≡◌, ℕ, ◌+◌, ◌<◌, length, drop, get_or, List, [], ◌∷◌, ◌++◌, Bool, true, false, refl, sym, ap, ◌∙◌, append_assoc}
use Rattle.std.specs.Prelude.{◌||◌, if◌then◌else◌}
use Rattle.std.proofs.lemmas.List.{append-nil}
use Rattle.py_meaning.specs.Name.{Name, same_name}
use Rattle.py_meaning.specs.Rules.{has_name}
use Rattle.py_meaning.specs.Binding.{targets_of, targets, once}
use Rattle.py_built.specs.Names.{with_name}
use Rattle.cpp_emit.specs.Names.{with_names}
use Rattle.py_built.proofs.NamesKept.{has_last}
use Rattle.py_built.proofs.UnbuiltSteps.{drop_at}
use Rattle.py_built.specs.declared.tree.Stmt.{Stmt}
use Rattle.py_built.specs.PlainTrees.{plain_stmt, plain_body}

once_same : (names s t : List Name) → ((y : Name) → has_name s y ≡ has_name t y) → once s names ≡ once t names
once_same [] s t same = refl
once_same (x ∷ names) s t same =
    ap (λ b. if b then once s names else x ∷ once (x ∷ s) names) (same x)
    ∙ ap (λ ys. if has_name t x then ys else x ∷ once (x ∷ s) names) (once_same names s t same)
    ∙ ap (λ ys. if has_name t x then once t names else x ∷ ys) (once_same names (x ∷ s) (x ∷ t) (λ y. ap (λ b. same_name x y || b) (same y)))

with_names_here : (x : Name) (there : Bool) (names more : List Name) → has_name names x ≡ there → ((now : List Name) → with_names now more ≡ now ++ once now more) → with_names (if there then names else names ++ x ∷ []) more ≡ names ++ (if there then once names more else x ∷ once (x ∷ names) more)
with_names_here x true names more is later = later names
with_names_here x false names more is later =
    later (names ++ x ∷ [])
    ∙ append_assoc names (x ∷ []) (once (names ++ x ∷ []) more)
    ∙ ap (λ ys. names ++ x ∷ ys) (once_same more (names ++ x ∷ []) (x ∷ names) (has_last names x))

pub with_names-once : (more names : List Name) → with_names names more ≡ names ++ once names more
with_names-once [] names = sym (append-nil names)
with_names-once (x ∷ more) names = with_names_here x (has_name names x) names more refl (λ now. with_names-once more now)

-- name by name, or list by list
pub with_names-append : (more others names : List Name) → with_names names (more ++ others) ≡ with_names (with_names names more) others
with_names-append [] others names = refl
with_names-append (x ∷ more) others names = with_names-append more others (with_name names x)

pub ruleset lists = (with_names-append)

-- the step of the loop over statements, and its end
pub names_step : (all : List Name) (old new : List Name) (items : List Stmt) (i : ℕ) (s : Stmt) → i < length items → s ≡ get_or items i s → new ≡ with_names old (targets_of (plain_stmt s)) → with_names old (targets (plain_body (drop i items))) ≡ all → with_names new (targets (plain_body (drop (i + 1) items))) ≡ all
names_step all old new items i s within is e h =
    let rest = targets (plain_body (drop (i + 1) items)) in
    ap (λ ns. with_names ns rest) e
    ∙ sym (with_names-append (targets_of (plain_stmt s)) rest old)
    ∙ ap (λ (ss : List Stmt). with_names old (targets (plain_body ss))) (sym (drop_at items i s within is))
    ∙ h
