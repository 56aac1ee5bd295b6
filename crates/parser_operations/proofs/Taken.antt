-- Parts that were taken one after another stand on each other.
use Rattle.std.proofs.Common.{◌≡◌, ◌∷◌, Option, Some, None, refl}
use Rattle.py_syntax.specs.Token.{Token}
use Rattle.py_syntax.specs.Build.{Part, Parts, PToken, PExpr, add_upper}
use Rattle.py_ast.specs.PlainExprs.{plain_expr, plain_expr-Slice-no-upper, plain_expr-Slice-upper}
use Rattle.shed_base.specs.declared.place.Place.{Place}
use Rattle.py_ast.specs.declared.tree.Expr.{Expr}
use Rattle.py_ast.specs.declared.tree.Expr.TheVariants as expr

pub three_taken : (u v w x : Parts) (a b c : Part) → u ≡ a ∷ v → v ≡ b ∷ w → w ≡ c ∷ x → a ∷ b ∷ c ∷ x ≡ u
three_taken u v w x a b c d e f = rw (d, e, f) refl

pub four_taken : (u v w x y : Parts) (a b c d : Part) → u ≡ a ∷ v → v ≡ b ∷ w → w ≡ c ∷ x → x ≡ d ∷ y → a ∷ b ∷ c ∷ d ∷ y ≡ u
four_taken u v w x y a b c d e f g h = rw (e, f, g, h) refl

pub upper_added : (slice upper object : Expr) (p : Place) (lower bound : Option Expr) (close : Token) (v : Parts) → slice ≡ expr.Slice p object lower bound → bound ≡ None
    → PExpr (plain_expr (expr.Slice p object lower (Some upper))) ∷ v ≡ add_upper (PToken close ∷ PExpr (plain_expr upper) ∷ PExpr (plain_expr slice) ∷ v)
upper_added slice upper object p lower bound close v e none = rw (e, none, plain_expr-Slice-no-upper, plain_expr-Slice-upper) refl
