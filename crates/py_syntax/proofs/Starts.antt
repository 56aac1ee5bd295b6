-- Where an expression begins.
use Rattle.std.proofs.Common.{ℕ, List, Some, None}
use Rattle.py_syntax.specs.Token.{Token}
use Rattle.py_syntax.specs.Tree.{Expr, EName, ENumber, EText, ETrue, EFalse, ENone, EParenthesis, EEmptyTuple, ETuple, EList, EListComprehension, EDict, ESet, EAttribute, ECall, ESubscript, ESlice, EUnary, EBinary, ECompare, ENot, EAnd, EOr, EConditional, no_exprs, more_exprs, no_loops, more_loops}
use Rattle.py_syntax.specs.Build.{start_of}
use Rattle.py_syntax.specs.Grammar.{left_level, IsExpr, BeginsAt}

-- its first token has the place that the tree says
pub starts : (l : ℕ) (e : Expr) (ts rest : List Token) → IsExpr l e ts rest → BeginsAt (start_of e) ts
starts l (EName p x) ts rest h = (_, _, h.1)
starts l (ENumber p n) ts rest h = (_, _, h)
starts l (EText p t) ts rest h = (_, _, h)
starts l (ETrue p) ts rest h = (_, _, h)
starts l (EFalse p) ts rest h = (_, _, h)
starts l (ENone p) ts rest h = (_, _, h)
starts l (EParenthesis p e) ts rest h = (_, _, h.2)
starts l (EEmptyTuple p) ts rest h = (_, _, h.1)
starts l (ETuple p no_exprs) ts rest h = absurd h
starts l (ETuple p (more_exprs e es)) ts rest h = starts 1 e ts _ h.2
starts l (EList p None no_exprs) ts rest h = (_, _, h.1)
starts l (EList p None (more_exprs e no_exprs)) ts rest h = (_, _, h.2)
starts l (EList p None (more_exprs e (more_exprs f es))) ts rest h = absurd h
starts l (EList p (Some c) no_exprs) ts rest h = absurd h
starts l (EList p (Some c) (more_exprs e es)) ts rest h = (_, _, h.3)
starts l (EListComprehension p e no_loops) ts rest h = absurd h
starts l (EListComprehension p e (more_loops f t i cs loops)) ts rest h = (_, _, h.3)
starts l (EDict p pairs) ts rest h = (_, _, h.2)
starts l (ESet p no_exprs) ts rest h = absurd h
starts l (ESet p (more_exprs e es)) ts rest h = (_, _, h.2)
starts l (EAttribute p e x) ts rest h = starts 14 e ts _ h.1
starts l (ECall p e es ks) ts rest h = starts 14 e ts _ h.2
starts l (ESubscript p e i) ts rest h = starts 14 e ts _ h.2
starts l (ESlice p e lower upper) ts rest h = starts 14 e ts _ h.4
starts l (EUnary p o e) ts rest h = (_, _, h.2)
starts l (EBinary p o a b) ts rest h = starts (left_level o) a ts _ h.2
starts l (ECompare p o a b links) ts rest h = starts 6 a ts _ h.4
starts l (ENot p e) ts rest h = (_, _, h.2)
starts l (EAnd p a b es) ts rest h = starts 4 a ts _ h.3
starts l (EOr p a b es) ts rest h = starts 3 a ts _ h.3
starts l (EConditional p a t b) ts rest h = starts 2 a ts _ h.4
