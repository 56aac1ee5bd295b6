-- The loops over statements: what was found, and what is found behind it.
use Rattle.std.proofs.Common.{◌≡◌, ℕ, suc, ◌+◌, ◌<◌, List, ◌∷◌, ◌++◌, length, drop, get_or, Option, refl, sym, ap, ◌∙◌, add-one, drop-cons}
use Rattle.py_tokens.specs.Token.{Place}
use Rattle.py_ast.specs.declared.tree.Stmt.{Stmt}
use Rattle.py_ast.specs.PlainTrees.{plain_stmt, plain_body}
use Rattle.py_meaning.specs.Name.{Name}
use Rattle.py_meaning.specs.Built.{first_place, sure_behind, unbuilt_stmt, unbuilt_block, unbuilt}
use Rattle.py_built.specs.First.{earliest}
use Rattle.py_built.specs.Names.{Alike}
use Rattle.py_built.proofs.FirstPlaces.{first_place-append, earliest_assoc}
use Rattle.py_built.proofs.UnbuiltAlike.{unbuilt_alike}

-- the statement that the loop is at, and those after it
pub drop_at : {A : Type 0} (items : List A) (i : ℕ) (x : A) → i < length items → x ≡ get_or items i x → drop i items ≡ x ∷ drop (i + 1) items
drop_at items i x within is = rw (add-one, drop-cons items i x within) (ap (λ y. y ∷ drop (suc i) items) (sym is))

-- what is found in the statement joins what was found
moved : (found now all : Option Place) (first : List Place) (more less : List Place) → now ≡ earliest found (first_place first) → more ≡ less
    → earliest found (first_place (first ++ less)) ≡ all → earliest now (first_place more) ≡ all
moved found now all first more less e same h =
    ap (λ o. earliest o (first_place more)) e
    ∙ earliest_assoc found (first_place first) (first_place more)
    ∙ ap (λ (places : List Place). earliest found (earliest (first_place first) (first_place places))) same
    ∙ ap (earliest found) (sym (first_place-append first less))
    ∙ h

pub block_step : (texts sure : List Name) (found now all : Option Place) (items : List Stmt) (i : ℕ) (s : Stmt) → i < length items → s ≡ get_or items i s
    → now ≡ earliest found (first_place (unbuilt_stmt texts sure (plain_stmt s)))
    → earliest found (first_place (unbuilt_block texts sure (plain_body (drop i items)))) ≡ all
    → earliest now (first_place (unbuilt_block texts sure (plain_body (drop (i + 1) items)))) ≡ all
block_step texts sure found now all items i s within is e h =
    let rest = unbuilt_block texts sure (plain_body (drop (i + 1) items)) in
    moved found now all (unbuilt_stmt texts sure (plain_stmt s)) rest rest e refl
    (ap (λ (ss : List Stmt). earliest found (first_place (unbuilt_block texts sure (plain_body ss)))) (sym (drop_at items i s within is)) ∙ h)

pub module_step : (texts sure sure_now : List Name) (found now all : Option Place) (items : List Stmt) (i : ℕ) (s : Stmt) → i < length items → s ≡ get_or items i s
    → now ≡ earliest found (first_place (unbuilt_stmt texts sure (plain_stmt s)))
    → Alike sure_now (sure_behind texts (plain_stmt s) sure)
    → earliest found (first_place (unbuilt texts sure (plain_body (drop i items)))) ≡ all
    → earliest now (first_place (unbuilt texts sure_now (plain_body (drop (i + 1) items)))) ≡ all
module_step texts sure sure_now found now all items i s within is e alike h =
    let rest = plain_body (drop (i + 1) items) in
    let behind = sure_behind texts (plain_stmt s) sure in
    moved found now all (unbuilt_stmt texts sure (plain_stmt s)) (unbuilt texts sure_now rest) (unbuilt texts behind rest) e (unbuilt_alike texts sure_now behind alike rest)
    (ap (λ (ss : List Stmt). earliest found (first_place (unbuilt texts sure (plain_body ss)))) (sym (drop_at items i s within is)) ∙ h)
