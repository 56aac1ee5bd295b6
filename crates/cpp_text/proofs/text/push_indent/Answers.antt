use Rattle.std.proofs.Common.{◌≡◌, ℕ, List, ◌++◌, sym, ap, ◌∙◌, append_assoc, codes, arith, add-one}
use Rattle.cpp_meaning.specs.Text.{indent}
use Rattle.cpp_text.proofs.Appends.{indent_last}
use Rattle.cpp_text.proofs.text.push_indent.Goals as goal

pub loop-level-preserved : goal.loop-level-preserved
loop-level-preserved c =
    let old = c.args.out.now.items in
    let level = c.loop-level._level in
    c.in_ok-extend_from_slice.ensures.items
    ∙ ap (λ (x : List ℕ). x ++ codes "  ") c.loop-level.invariant
    ∙ append_assoc old (indent level) (codes "  ")
    ∙ ap (λ (x : List ℕ). old ++ x) (indent_last level)
    ∙ ap (λ (n : ℕ). old ++ indent n) (sym (add-one level))

pub returns : goal.returns
returns c =
    let last : c.loop-level._level ≡ c.args.depth = omega arith in
    c.loop-level.invariant ∙ ap (λ (n : ℕ). c.args.out.now.items ++ indent n) last
