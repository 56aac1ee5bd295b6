-- The table derives what tokens spell as an expression, at each level.
use Rattle.std.proofs.Common.{ℕ, zero, suc, ◌≤◌, Bool, true, false, List, [], ◌∷◌, ◌++◌, codes, Option, Some, None, inl, inr, refl, sym, ap, arith}
use Rattle.grammars.specs.Grammar.{Tok, Non, Do}
use Rattle.grammars.specs.Derivation.{Yields}
use Rattle.py_tokens.specs.Token.{Place}
use Rattle.py_syntax.specs.Token.{Name, Token}
use Rattle.py_syntax.specs.Kinds.{kind_of}
use Rattle.py_syntax.specs.Tree.{NameAt, UnaryOperator, Negative, Positive, Invert, BinaryOperator, BitOr, BitXor, BitAnd, LeftShift, RightShift, Add, Subtract, Multiply, FloorDivide, Modulo, Power, ComparisonOperator, Expr, EName, ENumber, EText, ETrue, EFalse, ENone, EParenthesis, EEmptyTuple, ETuple, EList, EListComprehension, EDict, ESet, EAttribute, ECall, ESubscript, ESlice, EUnary, EBinary, ECompare, ENot, EAnd, EOr, EConditional, Exprs, no_exprs, more_exprs, MaybeExpr, no_expr, an_expr, Pairs, no_pairs, more_pairs, Links, no_links, more_links, Keywords, no_keywords, more_keywords, Loops, no_loops, more_loops}
use Rattle.py_syntax.specs.Build.{Parts, PExpr, MakeParenthesis, MakeAttribute, BeginCall, Drop, MakeSubscript, MakeSlice, MakeSliceFrom, MakeUnary, MakeBinary, AddAnd, AddOr}
use Rattle.py_syntax.specs.Grammar.{sign, word, binary_level, left_level, right_level, binary_sign, unary_sign, is_attribute, IsExpr, AreItems, ArePairs}
use Rattle.py_syntax.specs.Table.{ExpressionListTail, Expression, ParenthesisedTail, AndMore, OrMore, PowerTail, Factor, AnyName, Upper, PrimaryTail, Subscription, SubscriptionTail, DeletedSubscript, DeletedSubscriptTail, Symbol, the_dot, the_open_parenthesis, the_close_parenthesis, the_open_bracket, the_close_bracket, the_colon, table}
use Rattle.py_syntax.proofs.TakenSteps.{take, read, perform, with_parts, read_name}
use Rattle.py_syntax.proofs.LevelsDerived.{Leads, whole, tail, behind_of, lowest, lower}
use Rattle.py_syntax.proofs.PartsDerived.{is_subscript, Derived, Postfix, Listed, Everywhere, EachExpr, EachMaybe, EachPair, EachLink, EachKeyword, EachLoop, complete, items_derived, chain_derived, sign_derived, links_derived, pairs_derived, comprehension_derived, arguments, arguments_derived, upper_derived}

listed_by : (e : Expr)
    → ((v : Parts) (ts rest : List Token) → IsExpr 0 e ts rest → Leads (Non Expression ∷ []) v ts [] (PExpr e ∷ v) rest) → Listed e
listed_by e f x closers c v ts rest h s w y = f v ts rest h (Non x ∷ s) w (c.0 (PExpr e ∷ v) rest s w y)

-- a form of the tightest level
postfixed : (e : Expr) → ((l m : ℕ) (ts rest : List Token) → IsExpr l e ts rest → IsExpr m e ts rest)
    → ((deleted : Bool) → Postfix deleted e) → Everywhere e
postfixed e tight f =
    let at_level : (l : ℕ) → Derived l e
    = λ l v ts rest h. lowest (is_attribute e) (is_subscript e) l v (PExpr e ∷ v) ts rest
    (λ s w y. take 0 refl (f false v ts rest (tight l 14 ts rest h) s w y)) in
    (at_level, f, listed_by e (λ v ts rest h. at_level 1 v ts rest (tight 0 1 ts rest h)))

-- a form of a level between
loose : (m : ℕ) (e : Expr) → 1 ≤ m → m ≤ 13
    → ((l : ℕ) (ts rest : List Token) → IsExpr l e ts rest → (l ≤ m) × IsExpr m e ts rest) → Derived m e → Everywhere e
loose m e low high tight own = (
  λ l v ts rest h. lower (is_attribute e) (is_subscript e) l m (tight l ts rest h).0 v (PExpr e ∷ v) ts rest (own v ts rest (tight l ts rest h).1),
  λ deleted v ts rest h. let not_so_tight : 14 ≤ m = (tight 14 ts rest h).0 in absurd (omega arith),
  listed_by e (λ v ts rest h. lower (is_attribute e) (is_subscript e) 1 m low v (PExpr e ∷ v) ts rest (own v ts rest (tight 0 ts rest h).1)),
)

-- forms that begin with a token of their own

name_everywhere : (p : Place) (x : Name) → Everywhere (EName p x)
name_everywhere p x = postfixed (EName p x) (λ l m ts rest h. h) (λ deleted v ts rest h s w y. take 0 refl (read_name h (perform y)))

number_everywhere : (p : Place) (n : ℕ) → Everywhere (ENumber p n)
number_everywhere p n = postfixed (ENumber p n) (λ l m ts rest h. h) (λ deleted v ts rest h s w y. take 1 refl (read h (perform y)))

text_everywhere : (p : Place) (t : List ℕ) → Everywhere (EText p t)
text_everywhere p t = postfixed (EText p t) (λ l m ts rest h. h) (λ deleted v ts rest h s w y. take 2 refl (read h (perform y)))

true_everywhere : (p : Place) → Everywhere (ETrue p)
true_everywhere p = postfixed (ETrue p) (λ l m ts rest h. h) (λ deleted v ts rest h s w y. take 3 refl (read h (perform y)))

false_everywhere : (p : Place) → Everywhere (EFalse p)
false_everywhere p = postfixed (EFalse p) (λ l m ts rest h. h) (λ deleted v ts rest h s w y. take 4 refl (read h (perform y)))

none_everywhere : (p : Place) → Everywhere (ENone p)
none_everywhere p = postfixed (ENone p) (λ l m ts rest h. h) (λ deleted v ts rest h s w y. take 5 refl (read h (perform y)))

parenthesis_everywhere : (p : Place) (e : Expr) → Everywhere e → Everywhere (EParenthesis p e)
parenthesis_everywhere p e each = postfixed (EParenthesis p e) (λ l m ts rest h. h) (λ deleted v ts rest h s w y.
    take 6 refl (read h.2 (take 1 refl (
    each.2 ParenthesisedTail (the_close_parenthesis ∷ Do MakeParenthesis ∷ []) (λ v ts s w y. take 0 refl y, λ v ts s w y. take 1 refl y)
    _ h.1 _ h.3 _ w (read {t = sign h.0 (codes ")")} refl (perform y))))))

empty_tuple_everywhere : (p : Place) → Everywhere (EEmptyTuple p)
empty_tuple_everywhere p = postfixed (EEmptyTuple p) (λ l m ts rest h. h) (λ deleted v ts rest h s w y.
    take 6 refl (read h.1 (take 0 refl (read {t = sign h.0 (codes ")")} refl (perform y)))))

list_everywhere : (p : Place) (c : Option Place) (es : Exprs) → EachExpr es → Everywhere (EList p c es)
list_everywhere p None no_exprs each = postfixed (EList p None no_exprs) (λ l m ts rest h. h) (λ deleted v ts rest h s w y.
    take 7 refl (read h.1 (take 0 refl (read {t = sign h.0 (codes "]")} refl (perform y)))))
list_everywhere p None (more_exprs e no_exprs) each = postfixed (EList p None (more_exprs e no_exprs)) (λ l m ts rest h. h) (λ deleted v ts rest h s w y.
    take 7 refl (read h.2 (take 1 refl (complete each.0 1 h.3 (take 0 refl (read {t = sign h.0 (codes "]")} refl (perform y)))))))
list_everywhere p None (more_exprs e (more_exprs f es)) each =
    postfixed (EList p None (more_exprs e (more_exprs f es))) (λ l m ts rest h. h) (λ deleted v ts rest h s w y. absurd h)
list_everywhere p (Some c) no_exprs each = postfixed (EList p (Some c) no_exprs) (λ l m ts rest h. h) (λ deleted v ts rest h s w y. absurd h)
list_everywhere p (Some c) (more_exprs e es) each = postfixed (EList p (Some c) (more_exprs e es)) (λ l m ts rest h. h) (λ deleted v ts rest h s w y.
    take 7 refl (read h.3 (take 1 refl (complete each.0 1 h.4 (take 1 refl (read {t = sign c (codes ",")} refl (perform (
    items_derived es each.1 c (more_exprs e no_exprs) _ h.2 _ h.5 _ w (read refl (perform y))))))))))

comprehension_everywhere : (p : Place) (e : Expr) (loops : Loops) → Everywhere e → EachLoop loops → Everywhere (EListComprehension p e loops)
comprehension_everywhere p e no_loops each_e each = postfixed (EListComprehension p e no_loops) (λ l m ts rest h. h) (λ deleted v ts rest h s w y. absurd h)
comprehension_everywhere p e (more_loops f t i cs loops) each_e each =
    postfixed (EListComprehension p e (more_loops f t i cs loops)) (λ l m ts rest h. h) (λ deleted v ts rest h s w y.
    take 7 refl (read h.3 (take 1 refl (complete each_e 1 h.4 (take 2 refl (perform (
    comprehension_derived f t i cs loops each e p v h.2 _ h.5 _ w (read refl (perform y)))))))))

dict_everywhere : (p : Place) (pairs : Pairs) → EachPair pairs → Everywhere (EDict p pairs)
dict_everywhere p no_pairs each = postfixed (EDict p no_pairs) (λ l m ts rest h. h) (λ deleted v ts rest h s w y.
    take 8 refl (read h.2 (take 0 refl (read h.3 (perform y)))))
dict_everywhere p (more_pairs k e pairs) each = postfixed (EDict p (more_pairs k e pairs)) (λ l m ts rest h. h) (λ deleted v ts rest h s w y.
    let first : ArePairs (more_pairs k e pairs) h.1 (sign h.0 (codes "}") ∷ rest) = h.3 in
    take 8 refl (read h.2 (take 1 refl (complete each.0 1 first.3 (take 2 refl (read {t = sign first.0 (codes ":")} refl (complete each.1 1 first.4 (perform (
    pairs_derived pairs each.2 p (more_pairs k e no_pairs) v first.2 _ first.5 _ w (read refl (perform y)))))))))))

set_everywhere : (p : Place) (es : Exprs) → EachExpr es → Everywhere (ESet p es)
set_everywhere p no_exprs each = postfixed (ESet p no_exprs) (λ l m ts rest h. h) (λ deleted v ts rest h s w y. absurd h)
set_everywhere p (more_exprs e es) each = postfixed (ESet p (more_exprs e es)) (λ l m ts rest h. h) (λ deleted v ts rest h s w y.
    let items : AreItems (more_exprs e es) h.1 (sign h.0 (codes "}") ∷ rest) = h.3 in
    take 8 refl (read h.2 (take 1 refl (complete each.0 1 items.1 (
    elim items.2 [
      | inl end ↦ take 0 refl (read end.1 (perform (with_parts (ap (λ (x : Exprs). PExpr (ESet p (more_exprs e x)) ∷ v) (sym end.0)) y)))
      | inr comma ↦ take 1 refl (read comma.2 (perform (
          items_derived es each.1 comma.0 (more_exprs e no_exprs) _ comma.1 _ comma.3 _ w (read refl (perform y)))))
    ])))))

-- What may come behind an expression of the tightest level; `deleted`, whether it is in `del`.

attribute_row : (deleted attribute subscript : Bool) (v : Parts) (ts : List Token)
    → Leads (Non (behind_of deleted attribute subscript) ∷ []) v ts (the_dot ∷ Non AnyName ∷ Do MakeAttribute ∷ Non (behind_of deleted true false) ∷ []) v ts
attribute_row false false subscript v ts s w y = take 1 refl y
attribute_row false true subscript v ts s w y = take 1 refl y
attribute_row true false false v ts s w y = take 0 refl y
attribute_row true false true v ts s w y = take 1 refl y
attribute_row true true subscript v ts s w y = take 0 refl y

call_row : (deleted attribute subscript : Bool) (v : Parts) (ts : List Token)
    → Leads (Non (behind_of deleted attribute subscript) ∷ []) v ts
    (the_open_parenthesis ∷ Do BeginCall ∷ Non (arguments attribute) ∷ the_close_parenthesis ∷ Do Drop ∷ Non (behind_of deleted false false) ∷ []) v ts
call_row false false subscript v ts s w y = take 2 refl y
call_row false true subscript v ts s w y = take 2 refl y
call_row true false false v ts s w y = take 1 refl y
call_row true false true v ts s w y = take 2 refl y
call_row true true subscript v ts s w y = take 1 refl y

-- behind the bracket of a subscript or a slice; behind its first expression
abbrev bracketed : Bool → List Symbol
bracketed false = Non Subscription ∷ Non PrimaryTail ∷ []
bracketed true = Non DeletedSubscript ∷ []

abbrev index_tail : Bool → List Symbol
index_tail false = Non SubscriptionTail ∷ Non PrimaryTail ∷ []
index_tail true = Non DeletedSubscriptTail ∷ []

bracket_row : (deleted attribute subscript : Bool) (v : Parts) (ts : List Token)
    → Leads (Non (behind_of deleted attribute subscript) ∷ []) v ts (the_open_bracket ∷ bracketed deleted) v ts
bracket_row false false subscript v ts s w y = take 3 refl y
bracket_row false true subscript v ts s w y = take 3 refl y
bracket_row true false false v ts s w y = take 2 refl y
bracket_row true false true v ts s w y = take 3 refl y
bracket_row true true subscript v ts s w y = take 2 refl y

index_row : (deleted : Bool) (v : Parts) (ts : List Token) → Leads (bracketed deleted) v ts (Non Expression ∷ index_tail deleted) v ts
index_row false v ts s w y = take 0 refl y
index_row true v ts s w y = take 0 refl y

no_lower_row : (deleted : Bool) (v : Parts) (ts : List Token)
    → Leads (bracketed deleted) v ts (the_colon ∷ Do MakeSlice ∷ Non Upper ∷ Non (behind_of deleted false false) ∷ []) v ts
no_lower_row false v ts s w y = take 1 refl y
no_lower_row true v ts s w y = take 1 refl y

subscript_row : (deleted : Bool) (v : Parts) (ts : List Token)
    → Leads (index_tail deleted) v ts (the_close_bracket ∷ Do MakeSubscript ∷ Non (behind_of deleted false true) ∷ []) v ts
subscript_row false v ts s w y = take 0 refl y
subscript_row true v ts s w y = take 0 refl y

slice_row : (deleted : Bool) (v : Parts) (ts : List Token)
    → Leads (index_tail deleted) v ts (the_colon ∷ Do MakeSliceFrom ∷ Non Upper ∷ Non (behind_of deleted false false) ∷ []) v ts
slice_row false v ts s w y = take 1 refl y
slice_row true v ts s w y = take 1 refl y

attribute_everywhere : (p : Place) (e : Expr) (x : NameAt) → Everywhere e → Everywhere (EAttribute p e x)
attribute_everywhere p e x each = postfixed (EAttribute p e x) (λ l m ts rest h. h) (λ deleted v ts rest h s w y.
    each.1 deleted v ts _ h.1 s w (attribute_row deleted (is_attribute e) (is_subscript e) _ _ s w
    (read {t = sign p (codes ".")} refl (read_name h.2 (perform y)))))

call_everywhere : (p : Place) (e : Expr) (es : Exprs) (ks : Keywords) → Everywhere e → EachExpr es → EachKeyword ks → Everywhere (ECall p e es ks)
call_everywhere p e es ks each each_argument each_keyword = postfixed (ECall p e es ks) (λ l m ts rest h. h) (λ deleted v ts rest h s w y.
    each.1 deleted v ts _ h.2 s w (call_row deleted (is_attribute e) (is_subscript e) _ _ s w
    (read {t = sign p (codes "(")} refl (perform (
    arguments_derived (is_attribute e) ks each_keyword es each_argument p e no_exprs v h.1 _ h.3 _ w (read {t = sign h.0 (codes ")")} refl (perform y)))))))

subscript_everywhere : (p : Place) (e i : Expr) → Everywhere e → Everywhere i → Everywhere (ESubscript p e i)
subscript_everywhere p e i each each_index = postfixed (ESubscript p e i) (λ l m ts rest h. h) (λ deleted v ts rest h s w y.
    each.1 deleted v ts _ h.2 s w (bracket_row deleted (is_attribute e) (is_subscript e) _ _ s w
    (read {t = sign p (codes "[")} refl (index_row deleted _ _ s w (complete each_index 1 h.3 (subscript_row deleted _ _ s w
    (read {t = sign h.0 (codes "]")} refl (perform y))))))))

slice_everywhere : (p : Place) (e : Expr) (lower upper : MaybeExpr) → Everywhere e → EachMaybe lower → EachMaybe upper → Everywhere (ESlice p e lower upper)
slice_everywhere p e no_expr upper each each_lower each_upper = postfixed (ESlice p e no_expr upper) (λ l m ts rest h. h) (λ deleted v ts rest h s w y.
    each.1 deleted v ts _ h.4 s w (bracket_row deleted (is_attribute e) (is_subscript e) _ _ s w
    (read {t = sign p (codes "[")} refl (no_lower_row deleted _ _ s w (read h.5 (perform (
    upper_derived upper each_upper h.1 p e no_expr v h.3 rest h.6 _ w y)))))))
slice_everywhere p e (an_expr i) upper each each_lower each_upper = postfixed (ESlice p e (an_expr i) upper) (λ l m ts rest h. h) (λ deleted v ts rest h s w y.
    each.1 deleted v ts _ h.4 s w (bracket_row deleted (is_attribute e) (is_subscript e) _ _ s w
    (read {t = sign p (codes "[")} refl (index_row deleted _ _ s w (complete each_lower 1 h.5 (slice_row deleted _ _ s w
    (read {t = sign h.0 (codes ":")} refl (perform (upper_derived upper each_upper h.1 p e (an_expr i) v h.3 rest h.6 _ w y)))))))))

-- a tuple stands at the loosest level alone

tuple_listed : (p : Place) (e : Expr) (es : Exprs) → EachExpr (more_exprs e es) → Listed (ETuple p (more_exprs e es))
tuple_listed p e es each x closers c v ts rest h s w y =
    complete each.0 1 h.2 (c.1 _ _ s w (read {t = sign p (codes ",")} refl (perform (
    items_derived es each.1 p (more_exprs e no_exprs) v h.1 rest h.3 (closers ++ s) w y))))

tuple_at : (p : Place) (e : Expr) (es : Exprs) → EachExpr (more_exprs e es) → (l : ℕ) → Derived l (ETuple p (more_exprs e es))
tuple_at p e es each zero v ts rest h s w y = take 0 refl (
    tuple_listed p e es each ExpressionListTail [] (λ v ts s w y. take 0 refl y, λ v ts s w y. take 1 refl y) v ts rest h s w y)
tuple_at p e es each (suc l) v ts rest h s w y = let none_so_low : suc l ≤ 0 = h.0 in absurd (omega arith)

tuple_everywhere : (p : Place) (es : Exprs) → EachExpr es → Everywhere (ETuple p es)
tuple_everywhere p no_exprs each = (λ l v ts rest h. absurd h, λ deleted v ts rest h. absurd h, λ x closers c v ts rest h. absurd h)
tuple_everywhere p (more_exprs e es) each =
    (tuple_at p e es each, λ deleted v ts rest h. let not_so_tight : 14 ≤ 0 = h.0 in absurd (omega arith), tuple_listed p e es each)

-- operators

unary_row : (o : UnaryOperator) (p : Place) (v : Parts) (ts : List Token)
    → Leads (Non Factor ∷ []) v ts (Tok (kind_of (sign p (unary_sign o))) ∷ Non Factor ∷ Do (MakeUnary o) ∷ []) v ts
unary_row Negative p v ts s w y = take 0 refl y
unary_row Positive p v ts s w y = take 1 refl y
unary_row Invert p v ts s w y = take 2 refl y

unary_everywhere : (p : Place) (o : UnaryOperator) (e : Expr) → Everywhere e → Everywhere (EUnary p o e)
unary_everywhere p o e each = loose 12 (EUnary p o e) (omega arith) (omega arith) (λ l ts rest h. (h.0, (omega arith, h.1, h.2, h.3))) (λ v ts rest h s w y.
    unary_row o p _ _ s w (read {t = sign p (unary_sign o)} h.2 (complete each 12 h.3 (perform y))))

-- what stands behind an operator's left operand
abbrev operator_tail : BinaryOperator → List Symbol
operator_tail Power = Non PowerTail ∷ []
operator_tail o = tail PrimaryTail (binary_level o)

binary_row : (o : BinaryOperator) (p : Place) (v : Parts) (ts : List Token)
    → Leads (operator_tail o) v ts
    (Tok (kind_of (sign p (binary_sign o))) ∷ Non (whole (right_level o)) ∷ Do (MakeBinary o) ∷ tail PrimaryTail (binary_level o)) v ts
binary_row BitOr p v ts s w y = take 1 refl y
binary_row BitXor p v ts s w y = take 1 refl y
binary_row BitAnd p v ts s w y = take 1 refl y
binary_row LeftShift p v ts s w y = take 1 refl y
binary_row RightShift p v ts s w y = take 2 refl y
binary_row Add p v ts s w y = take 1 refl y
binary_row Subtract p v ts s w y = take 2 refl y
binary_row Multiply p v ts s w y = take 1 refl y
binary_row FloorDivide p v ts s w y = take 2 refl y
binary_row Modulo p v ts s w y = take 3 refl y
binary_row Power p v ts s w y = take 1 refl y

left_operand : (o : BinaryOperator) (a : Expr) → Everywhere a → (v : Parts) (ts rest : List Token) → IsExpr (left_level o) a ts rest
    → Leads (Non (whole (binary_level o)) ∷ []) v ts (operator_tail o) (PExpr a ∷ v) rest
left_operand Power a each v ts rest h s w y = take 0 refl (complete each 14 h y)
left_operand o a each v ts rest h s w y = each.0 (binary_level o) v ts rest h s w y

binary_is_between : (o : BinaryOperator) → (1 ≤ binary_level o) × (binary_level o ≤ 13)
binary_is_between BitOr = (omega arith, omega arith)
binary_is_between o = (omega arith, omega arith)

binary_everywhere : (p : Place) (o : BinaryOperator) (a b : Expr) → Everywhere a → Everywhere b → Everywhere (EBinary p o a b)
binary_everywhere p o a b each_a each_b =
    loose (binary_level o) (EBinary p o a b) (binary_is_between o).0 (binary_is_between o).1
    (λ l ts rest h. (h.0, (omega arith, h.1, h.2, h.3))) (λ v ts rest h s w y.
    left_operand o a each_a v ts _ h.2 s w (binary_row o p _ _ s w (read {t = sign p (binary_sign o)} refl (complete each_b (right_level o) h.3 (perform y)))))

compare_everywhere : (p : Place) (o : ComparisonOperator) (a b : Expr) (links : Links) → Everywhere a → Everywhere b → EachLink links
    → Everywhere (ECompare p o a b links)
compare_everywhere p o a b links each_a each_b each =
    loose 5 (ECompare p o a b links) (omega arith) (omega arith)
    (λ l ts rest h. (h.0, (omega arith, h.1, h.2, h.3, h.4, h.5, h.6, h.7))) (λ v ts rest h s w y.
    take 0 refl (complete each_a 6 h.4 (take 1 refl (sign_derived o p _ h.1 h.2 h.5 _ w (complete each_b 6 h.6 (perform (
    links_derived links each p o a b no_links v h.3 rest h.7 s w y)))))))

not_everywhere : (p : Place) (e : Expr) → Everywhere e → Everywhere (ENot p e)
not_everywhere p e each = loose 4 (ENot p e) (omega arith) (omega arith) (λ l ts rest h. (h.0, (omega arith, h.1, h.2, h.3))) (λ v ts rest h s w y.
    take 0 refl (read h.2 (complete each 4 h.3 (perform y))))

and_everywhere : (p : Place) (a b : Expr) (es : Exprs) → Everywhere a → Everywhere b → EachExpr es → Everywhere (EAnd p a b es)
and_everywhere p a b es each_a each_b each =
    loose 3 (EAnd p a b es) (omega arith) (omega arith) (λ l ts rest h. (h.0, (omega arith, h.1, h.2, h.3, h.4, h.5))) (λ v ts rest h s w y.
    take 0 refl (complete each_a 4 h.3 (take 1 refl (read {t = word p (codes "and")} refl (complete each_b 4 h.4 (perform (
    chain_derived AndMore (codes "and") 4 AddAnd (λ x. PExpr (EAnd p a b x) ∷ v)
    (λ v ts s w y. take 0 refl y) (λ p v ts s w y. take 1 refl y) (λ t done e. refl)
    es each no_exprs h.2 rest h.5 s w y)))))))

or_everywhere : (p : Place) (a b : Expr) (es : Exprs) → Everywhere a → Everywhere b → EachExpr es → Everywhere (EOr p a b es)
or_everywhere p a b es each_a each_b each =
    loose 2 (EOr p a b es) (omega arith) (omega arith) (λ l ts rest h. (h.0, (omega arith, h.1, h.2, h.3, h.4, h.5))) (λ v ts rest h s w y.
    take 0 refl (complete each_a 3 h.3 (take 1 refl (read {t = word p (codes "or")} refl (complete each_b 3 h.4 (perform (
    chain_derived OrMore (codes "or") 3 AddOr (λ x. PExpr (EOr p a b x) ∷ v)
    (λ v ts s w y. take 0 refl y) (λ p v ts s w y. take 1 refl y) (λ t done e. refl)
    es each no_exprs h.2 rest h.5 s w y)))))))

conditional_everywhere : (p : Place) (a t b : Expr) → Everywhere a → Everywhere t → Everywhere b → Everywhere (EConditional p a t b)
conditional_everywhere p a t b each_a each_t each_b =
    loose 1 (EConditional p a t b) (omega arith) (omega arith) (λ l ts rest h. (h.0, (omega arith, h.1, h.2, h.3, h.4, h.5, h.6))) (λ v ts rest h s w y.
    take 0 refl (complete each_a 2 h.4 (take 1 refl (read {t = word p (codes "if")} refl (complete each_t 2 h.5 (read {t = word h.1 (codes "else")} refl (
    complete each_b 1 h.6 (perform y))))))))

mutual
  pub everywhere : (e : Expr) → Everywhere e
  everywhere (EName p x) = name_everywhere p x
  everywhere (ENumber p n) = number_everywhere p n
  everywhere (EText p t) = text_everywhere p t
  everywhere (ETrue p) = true_everywhere p
  everywhere (EFalse p) = false_everywhere p
  everywhere (ENone p) = none_everywhere p
  everywhere (EParenthesis p e) = parenthesis_everywhere p e (everywhere e)
  everywhere (EEmptyTuple p) = empty_tuple_everywhere p
  everywhere (ETuple p es) = tuple_everywhere p es (each_expr es)
  everywhere (EList p c es) = list_everywhere p c es (each_expr es)
  everywhere (EListComprehension p e loops) = comprehension_everywhere p e loops (everywhere e) (each_loop loops)
  everywhere (EDict p pairs) = dict_everywhere p pairs (each_pair pairs)
  everywhere (ESet p es) = set_everywhere p es (each_expr es)
  everywhere (EAttribute p e x) = attribute_everywhere p e x (everywhere e)
  everywhere (ECall p e es ks) = call_everywhere p e es ks (everywhere e) (each_expr es) (each_keyword ks)
  everywhere (ESubscript p e i) = subscript_everywhere p e i (everywhere e) (everywhere i)
  everywhere (ESlice p e i u) = slice_everywhere p e i u (everywhere e) (each_maybe i) (each_maybe u)
  everywhere (EUnary p o e) = unary_everywhere p o e (everywhere e)
  everywhere (EBinary p o a b) = binary_everywhere p o a b (everywhere a) (everywhere b)
  everywhere (ECompare p o a b links) = compare_everywhere p o a b links (everywhere a) (everywhere b) (each_link links)
  everywhere (ENot p e) = not_everywhere p e (everywhere e)
  everywhere (EAnd p a b es) = and_everywhere p a b es (everywhere a) (everywhere b) (each_expr es)
  everywhere (EOr p a b es) = or_everywhere p a b es (everywhere a) (everywhere b) (each_expr es)
  everywhere (EConditional p a t b) = conditional_everywhere p a t b (everywhere a) (everywhere t) (everywhere b)

  each_expr : (es : Exprs) → EachExpr es
  each_expr no_exprs = tt
  each_expr (more_exprs e es) = (everywhere e, each_expr es)

  each_maybe : (m : MaybeExpr) → EachMaybe m
  each_maybe no_expr = tt
  each_maybe (an_expr e) = everywhere e

  each_pair : (pairs : Pairs) → EachPair pairs
  each_pair no_pairs = tt
  each_pair (more_pairs k e pairs) = (everywhere k, everywhere e, each_pair pairs)

  each_link : (links : Links) → EachLink links
  each_link no_links = tt
  each_link (more_links p o e links) = (everywhere e, each_link links)

  each_keyword : (ks : Keywords) → EachKeyword ks
  each_keyword no_keywords = tt
  each_keyword (more_keywords x e ks) = (everywhere e, each_keyword ks)

  each_loop : (loops : Loops) → EachLoop loops
  each_loop no_loops = tt
  each_loop (more_loops p t i cs loops) = (everywhere i, each_expr cs, each_loop loops)

-- an expression is derived where its tokens spell it
pub spelt : {e : Expr} {symbols : List Symbol} {v : Parts} {ts rest : List Token} {w : Parts} (l : ℕ) → IsExpr l e ts rest
    → Yields table symbols (PExpr e ∷ v) rest w → Yields table (Non (whole l) ∷ symbols) v ts w
spelt {e} l h y = complete (everywhere e) l h y
