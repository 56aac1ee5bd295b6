-- Depths of small modules, worked out by hand.
use Rattle.std.proofs.Common.{◌≡◌, ℕ, zero, suc, [], ◌∷◌, refl}
use Rattle.py_tokens.specs.Token.{Place}
use Rattle.py_syntax.specs.Tree.{NameAt, Expr, EName, ENumber, EParenthesis, ETuple, ECall, no_exprs, more_exprs, no_keywords, more_keywords, OneTarget, SomeTargets, TargetName, Stmt, SExpr, SAssign, no_stmts, more_stmts}
use Rattle.py_nesting.specs.Depths.{body_depth}
use Rattle.py_nesting.specs.TooDeep.{same_place}

spot : ℕ → Place
spot c = record { «module» = 0; line = 1; column = c }

name_at : ℕ → NameAt
name_at c = record { place = spot c; name = 7 }

-- what is counted at a column of the module that is this one statement
count : Stmt → ℕ → ℕ
count s c = body_depth (same_place (spot c)) (more_stmts s no_stmts)

-- x = ((1)): the statement and the name stand at one place, and the name lies deeper
bracketed : Stmt
bracketed = SAssign (spot 1) (OneTarget (TargetName (name_at 1)) ∷ []) (EParenthesis (spot 5) (EParenthesis (spot 6) (ENumber (spot 7) 1)))

bracketed_counted : (count bracketed 1 ∷ count bracketed 3 ∷ count bracketed 5 ∷ count bracketed 6 ∷ count bracketed 7 ∷ []) ≡ 2 ∷ 0 ∷ 2 ∷ 3 ∷ 4 ∷ []
unfolding spot name_at count bracketed
bracketed_counted = refl

-- a, b = c, d: the comma of targets is no node, and that of a tuple is one, above its items
unpacked : Stmt
unpacked =
    SAssign (spot 1) (SomeTargets (spot 2) (TargetName (name_at 1) ∷ TargetName (name_at 4) ∷ []) ∷ [])
    (ETuple (spot 9) (more_exprs (EName (spot 8) 7) (more_exprs (EName (spot 11) 7) no_exprs)))

unpacked_counted : (count unpacked 1 ∷ count unpacked 2 ∷ count unpacked 4 ∷ count unpacked 8 ∷ count unpacked 9 ∷ count unpacked 11 ∷ []) ≡ 2 ∷ 0 ∷ 2 ∷ 3 ∷ 2 ∷ 3 ∷ []
unfolding spot name_at count unpacked
unpacked_counted = refl

-- f(x=1): the name of an argument is no node
named : Stmt
named = SExpr (spot 1) (ECall (spot 2) (EName (spot 1) 7) no_exprs (more_keywords (name_at 3) (ENumber (spot 5) 1) no_keywords))

named_counted : (count named 1 ∷ count named 2 ∷ count named 3 ∷ count named 5 ∷ []) ≡ 3 ∷ 2 ∷ 0 ∷ 3 ∷ []
unfolding spot name_at count named
named_counted = refl

-- so many brackets round a number, the first at this column
brackets : ℕ → ℕ → Expr
brackets zero c = ENumber (spot c) 1
brackets (suc n) c = EParenthesis (spot c) (brackets n (suc c))

assigned : ℕ → Stmt
assigned n = SAssign (spot 1) (OneTarget (TargetName (name_at 1)) ∷ []) (brackets n 5)

-- with 99 pairs of brackets the number has 100 nodes above it, and with 100 pairs 101
deep_enough : count (assigned 99) 104 ≡ 101
unfolding spot name_at count brackets assigned
deep_enough = refl

too_deep : count (assigned 100) 105 ≡ 102
unfolding spot name_at count brackets assigned
too_deep = refl
