-- Brackets around targets.
use Rattle.std.specs.Prelude.{List, [], ◌∷◌, ◌++◌, Option, Some, None}
use Rattle.py_syntax.specs.Tree as meaning
use Rattle.py_syntax.specs.Build.{in_brackets, targets_of}
use Rattle.py_lexer.specs.PlainTokens.{plain_place}
use Rattle.py_ast.specs.PlainExprs.{plain_expr}
use Rattle.py_ast.specs.PlainTrees.{plain_targets}
use Rattle.parser_targets.specs.declared.targets.Around.{Around}
use Rattle.parser_targets.specs.declared.targets.Around.TheVariants as around
use Rattle.parser_targets.specs.declared.targets.Peeled.{Peeled}
use Rattle.parser_targets.specs.declared.targets.Peeled.TheVariants as peeled

abbrev pub bracketed : Around → meaning.Targets → meaning.Targets
bracketed (around.Parenthesis p) = meaning.ParenthesisTargets (plain_place p)
bracketed (around.Bracket p) = meaning.BracketTargets (plain_place p)

-- in these brackets, the outermost of which is the first
abbrev pub all_around : List Around → Option meaning.Targets → Option meaning.Targets
all_around [] t = t
all_around (b ∷ brackets) t = in_brackets (bracketed b) (all_around brackets t)

-- the targets that an expression is, without its outermost bracket
abbrev pub peeled_targets : Peeled → Option meaning.Targets
peeled_targets (peeled.Within b e) = in_brackets (bracketed b) (targets_of (plain_expr e))
peeled_targets (peeled.Whole t) = Some (plain_targets t)

-- targets before others
abbrev pub followed : Option (List meaning.Target) → List meaning.Target → Option (List meaning.Target)
followed None ts = None
followed (Some us) ts = Some (us ++ ts)
