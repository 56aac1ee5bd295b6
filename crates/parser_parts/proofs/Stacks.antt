-- The stack of parts has its top at the end.
use Rattle.std.proofs.Common.{◌≡◌, ℕ, List, [], ◌∷◌, ◌++◌, map, length, None, arith, refl, ap}
use Rattle.py_ast.proofs.Pushes.{reverse_push}
use Rattle.parser_parts.specs.PlainParts.{last_expr}
use Rattle.parser_parts.specs.PlainParts.{plain_part, parts_of}
use Rattle.parser_parts.specs.declared.parts.Part.{Part}

pub parts_of-push : (texts : List (List ℕ)) (xs : List Part) (x : Part) → parts_of texts (xs ++ x ∷ []) ≡ plain_part texts x ∷ parts_of texts xs
unfolding parts_of
parts_of-push texts xs x = ap (map (plain_part texts)) (reverse_push xs x)

pub parts_of-nothing : (texts : List (List ℕ)) → parts_of texts [] ≡ []
unfolding parts_of
parts_of-nothing texts = refl

pub ruleset stacks = (parts_of-push, parts_of-nothing)

pub nothing_last : (texts : List (List ℕ)) (parts : List Part) → length parts ≡ 0 → None ≡ last_expr (parts_of texts parts)
nothing_last texts [] h = rw (parts_of-nothing texts) refl
nothing_last texts (p ∷ parts) h = absurd (omega arith)
