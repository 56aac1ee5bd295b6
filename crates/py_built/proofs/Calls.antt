-- Which calls print.
use Rattle.std.proofs.Common.{◌≡◌, List, [], ◌∷◌, length, None, refl}
use Rattle.py_tokens.specs.Token.{Place}
use Rattle.py_syntax.specs.Tree as whole
use Rattle.py_ast.specs.declared.tree.Expr.{Expr}
use Rattle.py_ast.specs.declared.tree.NameAt.{NameAt}
use Rattle.py_ast.specs.PlainExprs.{plain_exprs, plain_keywords}
use Rattle.py_meaning.specs.Name.{Name}
use Rattle.py_meaning.specs.Built.{printed}

-- other than one argument by place
pub one_argument : (texts : List Name) (q : Place) (f : whole.Expr) (es : List Expr) (ks : whole.Keywords) → (length es ≡ 1 → ⊥)
    → None ≡ printed texts (whole.ECall q f (plain_exprs es) ks)
one_argument texts q (whole.EName p x) [] ks other = refl
one_argument texts q (whole.EName p x) (e ∷ []) ks other = absurd (other refl)
one_argument texts q (whole.EName p x) (e ∷ e2 ∷ es) ks other = refl
one_argument texts q _ es ks other = refl

-- an argument by name
pub no_keyword : (texts : List Name) (q : Place) (f : whole.Expr) (es : whole.Exprs) (ks : List (NameAt × Expr)) → (length ks ≡ 0 → ⊥)
    → None ≡ printed texts (whole.ECall q f es (plain_keywords ks))
no_keyword texts q f es [] there = absurd (there refl)
no_keyword texts q (whole.EName p y) whole.no_exprs (k ∷ ks) there = refl
no_keyword texts q (whole.EName p y) (whole.more_exprs e whole.no_exprs) (k ∷ ks) there = refl
no_keyword texts q (whole.EName p y) (whole.more_exprs e (whole.more_exprs e2 es)) (k ∷ ks) there = refl
no_keyword texts q _ es (k ∷ ks) there = refl
