-- Small steps by which rows keep what nonterminals mean.
use Rattle.std.proofs.Common.{◌≡◌, ℕ, ◌≤◌, List, ◌∷◌, le_trans, Some, None}
use Rattle.py_syntax.specs.Token.{Token}
use Rattle.py_syntax.specs.Tree.{Expr, EName, ENumber, EText, ETrue, EFalse, ENone, EParenthesis, EEmptyTuple, ETuple, EList, EListComprehension, EDict, ESet, EAttribute, ECall, ESubscript, ESlice, EUnary, EBinary, ECompare, ENot, EAnd, EOr, EConditional, no_exprs, more_exprs, no_loops, more_loops}
use Rattle.py_syntax.specs.Grammar.{IsExpr}

-- the first token, once it is known, and the rest
pub first_is : {t u : Token} {ts after rest : List Token} → ts ≡ t ∷ after → t ≡ u → after ≡ rest → ts ≡ u ∷ rest
first_is p q r = (cc)

-- what stands at a level stands at each looser one
pub looser : (l m : ℕ) (e : Expr) (ts rest : List Token) → m ≤ l → IsExpr l e ts rest → IsExpr m e ts rest
looser l m (EName p x) ts rest le h = h
looser l m (ENumber p n) ts rest le h = h
looser l m (EText p t) ts rest le h = h
looser l m (ETrue p) ts rest le h = h
looser l m (EFalse p) ts rest le h = h
looser l m (ENone p) ts rest le h = h
looser l m (EParenthesis p e) ts rest le h = h
looser l m (EEmptyTuple p) ts rest le h = h
looser l m (EList p None no_exprs) ts rest le h = h
looser l m (EList p None (more_exprs e no_exprs)) ts rest le h = h
looser l m (EList p None (more_exprs e (more_exprs f es))) ts rest le h = h
looser l m (EList p (Some c) no_exprs) ts rest le h = h
looser l m (EList p (Some c) (more_exprs e es)) ts rest le h = h
looser l m (EListComprehension p e no_loops) ts rest le h = h
looser l m (EListComprehension p e (more_loops f t i cs loops)) ts rest le h = h
looser l m (EDict p pairs) ts rest le h = h
looser l m (ESet p no_exprs) ts rest le h = h
looser l m (ESet p (more_exprs e es)) ts rest le h = h
looser l m (EAttribute p e x) ts rest le h = h
looser l m (ECall p e es ks) ts rest le h = h
looser l m (ESubscript p e i) ts rest le h = h
looser l m (ESlice p e lower upper) ts rest le h = h
looser l m (ETuple p no_exprs) ts rest le h = h
looser l m (ETuple p (more_exprs e es)) ts rest le h = (le_trans le h.0, h.1, h.2, h.3)
looser l m (EUnary p o e) ts rest le h = (le_trans le h.0, h.1, h.2, h.3)
looser l m (EBinary p o a b) ts rest le h = (le_trans le h.0, h.1, h.2, h.3)
looser l m (ECompare p o a b links) ts rest le h = (le_trans le h.0, h.1, h.2, h.3, h.4, h.5, h.6, h.7)
looser l m (ENot p e) ts rest le h = (le_trans le h.0, h.1, h.2, h.3)
looser l m (EAnd p a b es) ts rest le h = (le_trans le h.0, h.1, h.2, h.3, h.4, h.5)
looser l m (EOr p a b es) ts rest le h = (le_trans le h.0, h.1, h.2, h.3, h.4, h.5)
looser l m (EConditional p a t b) ts rest le h = (le_trans le h.0, h.1, h.2, h.3, h.4, h.5, h.6)
