-- A line that is written piece by piece.
use Rattle.std.proofs.Common.{◌≡◌, List, ℕ, ◌++◌, sym, ap, ◌∙◌, append_assoc, codes}
use Rattle.std.specs.Fmt.{decimal}
use Rattle.py_tokens.specs.Token.{Place}
use Rattle.shed_meaning.specs.Fault.{located}

-- what is said behind a place
pub located_said : (name : List ℕ) (p : Place) (written said : List ℕ) → written ≡ said
    → name ++ (codes ".py:" ++ (decimal p.line ++ (codes ":" ++ (decimal p.column ++ (codes ": " ++ (written ++ codes "\n")))))) ≡ located name p ++ (said ++ codes "\n")
located_said name p written said is =
    let line = decimal p.line in
    let column = decimal p.column in
    let rest = said ++ codes "\n" in
    ap (λ w. name ++ (codes ".py:" ++ (line ++ (codes ":" ++ (column ++ (codes ": " ++ (w ++ codes "\n"))))))) is
    ∙ ap (λ x. name ++ (codes ".py:" ++ (line ++ (codes ":" ++ x)))) (sym (append_assoc column (codes ": ") rest))
    ∙ ap (λ x. name ++ (codes ".py:" ++ (line ++ x))) (sym (append_assoc (codes ":") (column ++ codes ": ") rest))
    ∙ ap (λ x. name ++ (codes ".py:" ++ x)) (sym (append_assoc line (codes ":" ++ (column ++ codes ": ")) rest))
    ∙ ap (λ x. name ++ x) (sym (append_assoc (codes ".py:") (line ++ (codes ":" ++ (column ++ codes ": "))) rest))
    ∙ sym (append_assoc name (codes ".py:" ++ (line ++ (codes ":" ++ (column ++ codes ": ")))) rest)
