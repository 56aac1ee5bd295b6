-- Blocks that grow at their ends.
use Rattle.std.proofs.Common.{◌≡◌, ℕ, ◌+◌, ◌<◌, ◌≤◌, List, [], ◌∷◌, ◌++◌, length, drop, get_or, refl, sym, ap, ◌∙◌}
use Rattle.std.proofs.Math.ListN.{drop_of_length-le}
use Rattle.py_meaning.specs.Tree.{Stmt as SourceStmt, SAssign, SPrint, SIf, SWhile}
use Rattle.py_built.specs.declared.tree.Stmt.{Stmt}
use Rattle.py_built.specs.PlainTrees.{plain_stmt as plain_statement, plain_body}
use Rattle.py_built.proofs.UnbuiltSteps.{drop_at}
use Rattle.cpp_meaning.specs.Tree.{Block, none, more}
use Rattle.cpp_ast.specs.declared.tree.CppStmt.{CppStmt}
use Rattle.cpp_ast.specs.Plain.{plain_stmt, plain_block}
use Rattle.cpp_emit.specs.Emit.{emit_stmt, emit_body}
use Rattle.cpp_emit.specs.Blocks.{followed_by, statements_of}

pub plain_block-push : (block : List CppStmt) (s : CppStmt) → plain_block (block ++ s ∷ []) ≡ followed_by (plain_block block) (more (plain_stmt s) none)
plain_block-push [] s = refl
plain_block-push (t ∷ block) s = ap (λ b. more (plain_stmt t) b) (plain_block-push block s)

pub followed_by_assoc : (a b c : Block) → followed_by (followed_by a b) c ≡ followed_by a (followed_by b c)
followed_by_assoc none b c = refl
followed_by_assoc (more s a) b c = ap (λ r. more s r) (followed_by_assoc a b c)

pub followed_by_nothing : (a : Block) → followed_by a none ≡ a
followed_by_nothing none = refl
followed_by_nothing (more s a) = ap (λ r. more s r) (followed_by_nothing a)

pub ruleset pushes = (plain_block-push, followed_by_assoc)

-- what is emitted for a statement stands in front of what comes behind it
pub emit_stmt-followed : (s : SourceStmt) (rest : Block) → followed_by (statements_of s) rest ≡ emit_stmt s rest
emit_stmt-followed (SAssign p x e) rest = refl
emit_stmt-followed (SPrint p c e) rest = refl
emit_stmt-followed (SIf p c body other) rest = refl
emit_stmt-followed (SWhile p c body) rest = refl

pub block_step : (b b' all : Block) (items : List Stmt) (i : ℕ) (s : Stmt) → i < length items → s ≡ get_or items i s → b' ≡ followed_by b (statements_of (plain_statement s)) → followed_by b (emit_body (plain_body (drop i items))) ≡ all → followed_by b' (emit_body (plain_body (drop (i + 1) items))) ≡ all
block_step b b' all items i s within is e h =
    let rest = emit_body (plain_body (drop (i + 1) items)) in
    ap (λ c. followed_by c rest) e
    ∙ followed_by_assoc b (statements_of (plain_statement s)) rest
    ∙ ap (λ c. followed_by b c) (emit_stmt-followed (plain_statement s) rest)
    ∙ ap (λ (ss : List Stmt). followed_by b (emit_body (plain_body ss))) (sym (drop_at items i s within is))
    ∙ h

pub block_end : (b all : Block) (items : List Stmt) (i : ℕ) → length items ≤ i → followed_by b (emit_body (plain_body (drop i items))) ≡ all → b ≡ all
block_end b all items i past h =
    sym (followed_by_nothing b)
    ∙ ap (λ (ss : List Stmt). followed_by b (emit_body (plain_body ss))) (sym (drop_of_length-le items past))
    ∙ h
