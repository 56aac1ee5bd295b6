-- The rows of operators and lists of expressions keep what their nonterminals mean.
use Rattle.std.proofs.Common.{◌≡◌, ℕ, ◌≤◌, List, ◌∷◌, inl, inr, codes, refl, sym, ap, ◌∙◌, subst, subst₂, arith}
use Rattle.py_tokens.specs.Token.{Place}
use Rattle.py_syntax.specs.Token.{Kind, TKeyword, Token, At}
use Rattle.py_syntax.specs.Tree.{UnaryOperator, Negative, Positive, Invert, BinaryOperator, BitOr, BitXor, BitAnd, LeftShift, RightShift, Add, Subtract, Multiply, FloorDivide, Modulo, Power, ComparisonOperator, Expr, Less, Greater, LessOrEqual, GreaterOrEqual, Equal, NotEqual, In, NotIn, Is, IsNot, ETuple, EUnary, EBinary, ECompare, ENot, EAnd, EOr, EConditional, Exprs, no_exprs, more_exprs, Links, no_links, more_links}
use Rattle.py_syntax.specs.Grammar.{word, sign, binary_level, left_level, right_level, binary_sign, unary_sign, IsComparison, IsEndOrComma, IsExpr, AreItems, AreLinks, AreChained}
use Rattle.py_syntax.specs.Build.{Parts, Action, PToken, PExpr, PSign, MakeTuple, AddItem, MakeUnary, MakeBinary, MakeSign, MakeLongSign, MakeCompare, AddLink, MakeNot, MakeAnd, AddAnd, MakeOr, AddOr, MakeConditional, with_expr, with_link, act}
use Rattle.py_syntax.specs.Table.{ExpressionList, ExpressionListTail, ItemMore, ItemNext, Expression, ExpressionTail, OrTest, OrTail, OrMore, AndTest, AndTail, AndMore, NotTest, Comparison, ComparisonTail, ComparisonMore, ComparisonSign, IsTail, OrExpr, OrExprTail, XorExpr, XorExprTail, AndExpr, AndExprTail, ShiftExpr, ShiftTail, Sum, SumTail, Product, ProductTail, Factor, PowerExpr, PowerTail}
use Rattle.py_syntax.proofs.Means.{Pushes, Lengthens, Grows, tuple_part, compare_part, IsSign, Kept}
use Rattle.py_syntax.proofs.Together.{exprs_together, exprs_grow, exprs_alone, links_grow, links_alone}
use Rattle.py_syntax.proofs.TokenOf.{the_and_is, the_else_is, the_if_is, the_in_is, the_is_is, the_not_is, the_or_is, the_double_slash_is, the_double_star_is, the_left_shift_is, the_right_shift_is, the_less_equal_is, the_greater_equal_is, the_equal_equal_is, the_not_equal_is, the_plus_is, the_minus_is, the_star_is, the_percent_is, the_ampersand_is, the_bar_is, the_caret_is, the_tilde_is, the_less_is, the_greater_is, the_comma_is}
use Rattle.py_syntax.proofs.KeptSteps.{first_is, looser}

-- an expression and what lengthens it
from_tail : (m k l : ℕ) (v u w z : Parts) (ts after last rest : List Token) → k ≤ m → Pushes PExpr (IsExpr m) v ts u after → Lengthens k l u after z last
    → z ≡ w → last ≡ rest → Pushes PExpr (IsExpr l) v ts w rest
from_tail m k l v u w z ts after last rest le i t p q =
    let e = t i.0 v i.1 in
    (e.0, sym p ∙ e.1, subst (IsExpr l e.0 ts) q (e.2 ts (looser m k i.0 ts after le i.2)))

-- a tail with nothing in it
ended : (m l : ℕ) (v w : Parts) (ts rest : List Token) → l ≤ m → v ≡ w → ts ≡ rest → Lengthens m l v ts w rest
ended m l v w ts rest le p q a u is = (a, sym p ∙ is, λ front h. subst (IsExpr l a front) q (looser m l a front ts le h))

-- an expression of a tighter level alone
alone : (m l : ℕ) (v u w : Parts) (ts after rest : List Token) → l ≤ m → Pushes PExpr (IsExpr m) v ts u after → u ≡ w → after ≡ rest
    → Pushes PExpr (IsExpr l) v ts w rest
alone m l v u w ts after rest le i p q = (i.0, sym p ∙ i.1, subst (IsExpr l i.0 ts) q (looser m l i.0 ts after le i.2))

pub kept_expression_list : Kept ExpressionList
kept_expression_list = (λ v ts w rest g c. from_tail 1 1 0 v c.0 w c.3.0 ts c.1 c.3.1 rest (omega arith) c.2 c.3.2 c.3.3.0 c.3.3.1, tt)

pub kept_expression_list_tail : Kept ExpressionListTail
kept_expression_list_tail = (
  λ v ts w rest g c. ended 1 0 v w ts rest (omega arith) c.0 c.1,
  (
    λ v ts w rest g c a u is.
        let p = the_comma_is c.0 c.3 in
        let stack : PToken c.0 ∷ v ≡ PToken (sign p.0 (codes ",")) ∷ PExpr a ∷ u = cc in
        let m = c.4.2 p.0 (more_exprs a no_exprs) u (ap (act MakeTuple) stack) in (
          ETuple p.0 (more_exprs a m.0),
          sym c.4.3.0 ∙ m.1,
          λ front h. (omega arith, c.1, subst (IsExpr 1 a front) (first_is c.2 p.1 refl) h, subst (AreItems m.0 c.1) c.4.3.1 m.2),
        ),
    tt,
  ),
)

pub kept_item_more : Kept ItemMore
kept_item_more = (
  λ v ts w rest g c p es u is. (no_exprs, sym c.0 ∙ is ∙ ap (λ (l : Exprs). tuple_part p l ∷ u) (sym (exprs_alone es)), c.1),
  (
    λ v ts w rest g c p es u is.
        let e = c.2 in
        let stack : c.0 ≡ PExpr e.0 ∷ PExpr (ETuple p es) ∷ u = cc in
        let m = c.3.2 p (with_expr es e.0) u (ap (act AddItem) stack) in (
          more_exprs e.0 m.0,
          sym c.3.3.0 ∙ m.1 ∙ ap (λ (l : Exprs). tuple_part p l ∷ u) (exprs_grow es e.0 m.0),
          (c.1, e.2, subst (IsEndOrComma (m.0 ≡ no_exprs) (AreItems m.0) c.1) c.3.3.1 m.2),
        ),
    tt,
  ),
)

pub kept_item_next : Kept ItemNext
kept_item_next = (
  λ v ts w rest g c p es u is. (no_exprs, sym c.0 ∙ is ∙ ap (λ (l : Exprs). tuple_part p l ∷ u) (sym (exprs_alone es)), inl (refl, c.1)),
  (
    λ v ts w rest g c p es u is.
        let q = the_comma_is c.0 c.3 in
        let m = c.4.2 p es u is in
        (m.0, sym c.4.3.0 ∙ m.1, inr (q.0, c.1, first_is c.2 q.1 refl, subst (AreItems m.0 c.1) c.4.3.1 m.2)),
    tt,
  ),
)

pub kept_expression : Kept Expression
kept_expression = (λ v ts w rest g c. from_tail 2 2 1 v c.0 w c.3.0 ts c.1 c.3.1 rest (omega arith) c.2 c.3.2 c.3.3.0 c.3.3.1, tt)

pub kept_expression_tail : Kept ExpressionTail
kept_expression_tail = (
  λ v ts w rest g c. ended 2 1 v w ts rest (omega arith) c.0 c.1,
  (
    λ v ts w rest g c a u is.
        let p = the_if_is c.0 c.3 in
        let test = c.4.2 in
        let q = the_else_is c.4.3.0 c.4.3.3 in
        let b = c.4.3.4.2 in
        let stack : c.4.3.4.0 ≡ PExpr b.0 ∷ PToken (word q.0 (codes "else")) ∷ PExpr test.0 ∷ PToken (word p.0 (codes "if")) ∷ PExpr a ∷ u = cc in (
          EConditional p.0 a test.0 b.0,
          sym c.4.3.4.3.0 ∙ ap (act MakeConditional) stack,
          λ front h. (
            omega arith,
            q.0,
            c.1,
            c.4.3.1,
            subst (IsExpr 2 a front) (first_is c.2 p.1 refl) h,
            subst (IsExpr 2 test.0 c.1) (first_is c.4.3.2 q.1 refl) test.2,
            subst (IsExpr 1 b.0 c.4.3.1) c.4.3.4.3.1 b.2,
          ),
        ),
    tt,
  ),
)

-- A chain of `or` or of `and`. A node of it has its place, its first two operands, and those that follow.
chain_begun : (spelling : List ℕ) (n l : ℕ) (whole : Place × Expr × Expr → Exprs → Expr) (make : Action)
    → ((k : Place × Expr × Expr) (es : Exprs) (front mid after rest : List Token) → IsExpr n k.1 front (word k.0 spelling ∷ mid) → IsExpr n k.2 mid after
    → AreChained spelling n es after rest → IsExpr l (whole k es) front rest)
    → ((p : Place) (a b : Expr) (u : Parts) → act make (PExpr b ∷ PToken (word p spelling) ∷ PExpr a ∷ u) ≡ PExpr (whole (p, a, b) no_exprs) ∷ u)
    → (t : Token) (v u w z : Parts) (ts after mid last rest : List Token) → (p : Place) × (t ≡ word p spelling) → ts ≡ t ∷ after
    → Pushes PExpr (IsExpr n) (PToken t ∷ v) after u mid → Grows (λ k es. PExpr (whole k es)) exprs_together (AreChained spelling n) (act make u) mid z last
    → z ≡ w → last ≡ rest → Lengthens n l v ts w rest
chain_begun spelling n l whole make spelt made t v u w z ts after mid last rest p first i tail q r a under is =
    let stack : u ≡ PExpr i.0 ∷ PToken (word p.0 spelling) ∷ PExpr a ∷ under = cc in
    let m = tail (p.0, a, i.0) no_exprs under (ap (act make) stack ∙ made p.0 a i.0 under) in (
      whole (p.0, a, i.0) m.0,
      sym q ∙ m.1,
      λ front h. spelt (p.0, a, i.0) m.0 front after mid rest (subst (IsExpr n a front) (first_is first p.1 refl) h) i.2 (subst (AreChained spelling n m.0 mid) r m.2),
    )

-- and goes on with one more
chain_grown : (spelling : List ℕ) (n : ℕ) (whole : Place × Expr × Expr → Exprs → Expr) (add : Action)
    → ((p : Place) (k : Place × Expr × Expr) (es : Exprs) (b : Expr) (u : Parts)
    → act add (PExpr b ∷ PToken (word p spelling) ∷ PExpr (whole k es) ∷ u) ≡ PExpr (whole k (with_expr es b)) ∷ u)
    → (t : Token) (v u w z : Parts) (ts after mid last rest : List Token) → (p : Place) × (t ≡ word p spelling) → ts ≡ t ∷ after
    → Pushes PExpr (IsExpr n) (PToken t ∷ v) after u mid → Grows (λ k es. PExpr (whole k es)) exprs_together (AreChained spelling n) (act add u) mid z last
    → z ≡ w → last ≡ rest → Grows (λ k es. PExpr (whole k es)) exprs_together (AreChained spelling n) v ts w rest
chain_grown spelling n whole add added t v u w z ts after mid last rest p first i tail q r k es under is =
    let stack : u ≡ PExpr i.0 ∷ PToken (word p.0 spelling) ∷ PExpr (whole k es) ∷ under = cc in
    let m = tail k (with_expr es i.0) under (ap (act add) stack ∙ added p.0 k es i.0 under) in (
      more_exprs i.0 m.0,
      sym q ∙ m.1 ∙ ap (λ (l : Exprs). PExpr (whole k l) ∷ under) (exprs_grow es i.0 m.0),
      (p.0, after, mid, first_is first p.1 refl, i.2, subst (AreChained spelling n m.0 mid) r m.2),
    )

chain_ended : (spelling : List ℕ) (n : ℕ) (whole : Place × Expr × Expr → Exprs → Expr) (v w : Parts) (ts rest : List Token) → v ≡ w → ts ≡ rest
    → Grows (λ k es. PExpr (whole k es)) exprs_together (AreChained spelling n) v ts w rest
chain_ended spelling n whole v w ts rest p q k es u is = (no_exprs, sym p ∙ is ∙ ap (λ (l : Exprs). PExpr (whole k l) ∷ u) (sym (exprs_alone es)), q)

pub kept_or_test : Kept OrTest
kept_or_test = (λ v ts w rest g c. from_tail 3 3 2 v c.0 w c.3.0 ts c.1 c.3.1 rest (omega arith) c.2 c.3.2 c.3.3.0 c.3.3.1, tt)

pub kept_or_tail : Kept OrTail
kept_or_tail = (
  λ v ts w rest g c. ended 3 2 v w ts rest (omega arith) c.0 c.1,
  (
    λ v ts w rest g c.
        chain_begun (codes "or") 3 2 (λ k es. EOr k.0 k.1 k.2 es) MakeOr (λ k es front mid after last h i j. (omega arith, mid, after, h, i, j)) (λ p a b u. refl)
        c.0 v c.4.0 w c.4.3.0 ts c.1 c.4.1 c.4.3.1 rest (the_or_is c.0 c.3) c.2 c.4.2 c.4.3.2 c.4.3.3.0 c.4.3.3.1,
    tt,
  ),
)

pub kept_or_more : Kept OrMore
kept_or_more = (
  λ v ts w rest g c. chain_ended (codes "or") 3 (λ k es. EOr k.0 k.1 k.2 es) v w ts rest c.0 c.1,
  (
    λ v ts w rest g c.
        chain_grown (codes "or") 3 (λ k es. EOr k.0 k.1 k.2 es) AddOr (λ p k es b u. refl)
        c.0 v c.4.0 w c.4.3.0 ts c.1 c.4.1 c.4.3.1 rest (the_or_is c.0 c.3) c.2 c.4.2 c.4.3.2 c.4.3.3.0 c.4.3.3.1,
    tt,
  ),
)

pub kept_and_test : Kept AndTest
kept_and_test = (λ v ts w rest g c. from_tail 4 4 3 v c.0 w c.3.0 ts c.1 c.3.1 rest (omega arith) c.2 c.3.2 c.3.3.0 c.3.3.1, tt)

pub kept_and_tail : Kept AndTail
kept_and_tail = (
  λ v ts w rest g c. ended 4 3 v w ts rest (omega arith) c.0 c.1,
  (
    λ v ts w rest g c.
        chain_begun (codes "and") 4 3 (λ k es. EAnd k.0 k.1 k.2 es) MakeAnd (λ k es front mid after last h i j. (omega arith, mid, after, h, i, j)) (λ p a b u. refl)
        c.0 v c.4.0 w c.4.3.0 ts c.1 c.4.1 c.4.3.1 rest (the_and_is c.0 c.3) c.2 c.4.2 c.4.3.2 c.4.3.3.0 c.4.3.3.1,
    tt,
  ),
)

pub kept_and_more : Kept AndMore
kept_and_more = (
  λ v ts w rest g c. chain_ended (codes "and") 4 (λ k es. EAnd k.0 k.1 k.2 es) v w ts rest c.0 c.1,
  (
    λ v ts w rest g c.
        chain_grown (codes "and") 4 (λ k es. EAnd k.0 k.1 k.2 es) AddAnd (λ p k es b u. refl)
        c.0 v c.4.0 w c.4.3.0 ts c.1 c.4.1 c.4.3.1 rest (the_and_is c.0 c.3) c.2 c.4.2 c.4.3.2 c.4.3.3.0 c.4.3.3.1,
    tt,
  ),
)

pub kept_not_test : Kept NotTest
kept_not_test = (
  λ v ts w rest g c.
      let p = the_not_is c.0 c.3 in
      let e = c.4.2 in
      let stack : c.4.0 ≡ PExpr e.0 ∷ PToken (word p.0 (codes "not")) ∷ v = cc in
      (ENot p.0 e.0, sym c.4.3.0 ∙ ap (act MakeNot) stack, (omega arith, c.1, first_is c.2 p.1 refl, subst (IsExpr 4 e.0 c.1) c.4.3.1 e.2)),
  (λ v ts w rest g c. alone 5 4 v c.0 w ts c.1 rest (omega arith) c.2 c.3.0 c.3.1, tt),
)

pub kept_comparison : Kept Comparison
kept_comparison = (λ v ts w rest g c. from_tail 6 6 5 v c.0 w c.3.0 ts c.1 c.3.1 rest (omega arith) c.2 c.3.2 c.3.3.0 c.3.3.1, tt)

pub kept_comparison_tail : Kept ComparisonTail
kept_comparison_tail = (
  λ v ts w rest g c. ended 6 5 v w ts rest (omega arith) c.0 c.1,
  (
    λ v ts w rest g c a u is.
        let o = c.2 in
        let b = c.3.2 in
        let stack : c.3.0 ≡ PExpr b.0 ∷ PSign o.0 o.1 ∷ PExpr a ∷ u = cc in
        let m = c.3.3.2 (o.0, o.1, a, b.0) no_links u (ap (act MakeCompare) stack) in (
          ECompare o.0 o.1 a b.0 m.0,
          sym c.3.3.3.0 ∙ m.1,
          λ front h. (omega arith, ts, c.1, c.3.1, h, o.3, b.2, subst (AreLinks m.0 c.3.1) c.3.3.3.1 m.2),
        ),
    tt,
  ),
)

pub kept_comparison_more : Kept ComparisonMore
kept_comparison_more = (
  λ v ts w rest g c k links u is. (no_links, sym c.0 ∙ is ∙ ap (λ (l : Links). compare_part k l ∷ u) (sym (links_alone links)), c.1),
  (
    λ v ts w rest g c k links u is.
        let o = c.2 in
        let b = c.3.2 in
        let stack : c.3.0 ≡ PExpr b.0 ∷ PSign o.0 o.1 ∷ compare_part k links ∷ u = cc in
        let m = c.3.3.2 k (with_link links o.0 o.1 b.0) u (ap (act AddLink) stack) in (
          more_links o.0 o.1 b.0 m.0,
          sym c.3.3.3.0 ∙ m.1 ∙ ap (λ (l : Links). compare_part k l ∷ u) (links_grow links o.0 o.1 b.0 m.0),
          (c.1, c.3.1, o.3, b.2, subst (AreLinks m.0 c.3.1) c.3.3.3.1 m.2),
        ),
    tt,
  ),
)

-- a comparison of one token
signed : (o : ComparisonOperator) (t : Token) (v w : Parts) (ts after rest : List Token) (p : Place) (k : Kind) → t ≡ At p k
    → IsComparison p o (At p k ∷ rest) rest → ts ≡ t ∷ after → act (MakeSign o) (PToken t ∷ v) ≡ w → after ≡ rest → IsSign v ts w rest
signed o t v w ts after rest p k is h first q last = (
  p,
  o,
  sym q ∙ ap (λ (x : Token). act (MakeSign o) (PToken x ∷ v)) is,
  subst (λ (x : List Token). IsComparison p o x rest) (sym (first_is first is last)) h,
)

pub kept_comparison_sign : Kept ComparisonSign
kept_comparison_sign = (
  λ v ts w rest g c. let n = the_less_is c.0 c.3 in signed Less c.0 v w ts c.1 rest n.0 _ n.1 refl c.2 c.4.0 c.4.1,
  (
    λ v ts w rest g c. let n = the_greater_is c.0 c.3 in signed Greater c.0 v w ts c.1 rest n.0 _ n.1 refl c.2 c.4.0 c.4.1,
    (
      λ v ts w rest g c. let n = the_less_equal_is c.0 c.3 in signed LessOrEqual c.0 v w ts c.1 rest n.0 _ n.1 refl c.2 c.4.0 c.4.1,
      (
        λ v ts w rest g c. let n = the_greater_equal_is c.0 c.3 in signed GreaterOrEqual c.0 v w ts c.1 rest n.0 _ n.1 refl c.2 c.4.0 c.4.1,
        (
          λ v ts w rest g c. let n = the_equal_equal_is c.0 c.3 in signed Equal c.0 v w ts c.1 rest n.0 _ n.1 refl c.2 c.4.0 c.4.1,
          (
            λ v ts w rest g c. let n = the_not_equal_is c.0 c.3 in signed NotEqual c.0 v w ts c.1 rest n.0 _ n.1 refl c.2 c.4.0 c.4.1,
            (
              λ v ts w rest g c. let n = the_in_is c.0 c.3 in signed In c.0 v w ts c.1 rest n.0 _ n.1 refl c.2 c.4.0 c.4.1,
              (
                λ v ts w rest g c.
                    let p = the_not_is c.0 c.3 in
                    let q = the_in_is c.4.0 c.4.3 in
                    let stack : PToken c.4.0 ∷ PToken c.0 ∷ v ≡ PToken (word q.0 (codes "in")) ∷ PToken (word p.0 (codes "not")) ∷ v = cc in
                    (p.0, NotIn, sym c.4.4.0 ∙ ap (act (MakeLongSign NotIn)) stack, (q.0, first_is c.2 p.1 (first_is c.4.2 q.1 c.4.4.1))),
                (
                  λ v ts w rest g c.
                      let p = the_is_is c.0 c.3 in
                      let o = c.4.2 p.0 (TKeyword (codes "is")) v (ap (λ (t : Token). PToken t ∷ v) p.1) in
                      (p.0, o.0, sym c.4.3.0 ∙ o.1, subst₂ (λ (x y : List Token). IsComparison p.0 o.0 x y) (sym (first_is c.2 p.1 refl)) c.4.3.1 o.2),
                  tt,
                ),
              ),
            ),
          ),
        ),
      ),
    ),
  ),
)

pub kept_is_tail : Kept IsTail
kept_is_tail = (
  λ v ts w rest g c p k u is. (Is, sym c.0 ∙ ap (act (MakeSign Is)) is, ap (λ (x : List Token). word p (codes "is") ∷ x) c.1),
  (
    λ v ts w rest g c p k u is.
        let q = the_not_is c.0 c.3 in
        let stack : PToken c.0 ∷ v ≡ PToken (word q.0 (codes "not")) ∷ PToken (At p k) ∷ u = cc in
        (IsNot, sym c.4.0 ∙ ap (act (MakeLongSign IsNot)) stack, (q.0, ap (λ (x : List Token). word p (codes "is") ∷ x) (first_is c.2 q.1 c.4.1))),
    tt,
  ),
)

-- an operator between operands, which nests to the left
lengthened : (l : ℕ) (o : BinaryOperator) (t : Token) (v u w z : Parts) (ts after mid last rest : List Token) → l ≡ binary_level o → left_level o ≡ binary_level o
    → (p : Place) × (t ≡ sign p (binary_sign o)) → ts ≡ t ∷ after → Pushes PExpr (IsExpr (right_level o)) (PToken t ∷ v) after u mid
    → Lengthens l l (act (MakeBinary o) u) mid z last → z ≡ w → last ≡ rest → Lengthens l l v ts w rest
lengthened l o t v u w z ts after mid last rest level left n first i tail p q a under is =
    let stack : u ≡ PExpr i.0 ∷ PToken (sign n.0 (binary_sign o)) ∷ PExpr a ∷ under = cc in
    let e = tail (EBinary n.0 o a i.0) under (ap (act (MakeBinary o)) stack) in (
      e.0,
      sym p ∙ e.1,
      λ front h. subst (IsExpr l e.0 front) q (e.2 front (
        let low : l ≤ binary_level o = omega arith in low,
        after,
        subst₂ (λ (k : ℕ) (x : List Token). IsExpr k a front x) (level ∙ sym left) (first_is first n.1 refl) h,
        i.2,
      )),
    )

pub kept_or_expr : Kept OrExpr
kept_or_expr = (λ v ts w rest g c. from_tail 7 6 6 v c.0 w c.3.0 ts c.1 c.3.1 rest (omega arith) c.2 c.3.2 c.3.3.0 c.3.3.1, tt)

pub kept_or_expr_tail : Kept OrExprTail
kept_or_expr_tail = (
  λ v ts w rest g c. ended 6 6 v w ts rest (omega arith) c.0 c.1,
  (
    λ v ts w rest g c. lengthened 6 BitOr c.0 v c.4.0 w c.4.3.0 ts c.1 c.4.1 c.4.3.1 rest refl refl (the_bar_is c.0 c.3) c.2 c.4.2 c.4.3.2 c.4.3.3.0 c.4.3.3.1,
    tt,
  ),
)

pub kept_xor_expr : Kept XorExpr
kept_xor_expr = (λ v ts w rest g c. from_tail 8 7 7 v c.0 w c.3.0 ts c.1 c.3.1 rest (omega arith) c.2 c.3.2 c.3.3.0 c.3.3.1, tt)

pub kept_xor_expr_tail : Kept XorExprTail
kept_xor_expr_tail = (
  λ v ts w rest g c. ended 7 7 v w ts rest (omega arith) c.0 c.1,
  (
    λ v ts w rest g c. lengthened 7 BitXor c.0 v c.4.0 w c.4.3.0 ts c.1 c.4.1 c.4.3.1 rest refl refl (the_caret_is c.0 c.3) c.2 c.4.2 c.4.3.2 c.4.3.3.0 c.4.3.3.1,
    tt,
  ),
)

pub kept_and_expr : Kept AndExpr
kept_and_expr = (λ v ts w rest g c. from_tail 9 8 8 v c.0 w c.3.0 ts c.1 c.3.1 rest (omega arith) c.2 c.3.2 c.3.3.0 c.3.3.1, tt)

pub kept_and_expr_tail : Kept AndExprTail
kept_and_expr_tail = (
  λ v ts w rest g c. ended 8 8 v w ts rest (omega arith) c.0 c.1,
  (
    λ v ts w rest g c. lengthened 8 BitAnd c.0 v c.4.0 w c.4.3.0 ts c.1 c.4.1 c.4.3.1 rest refl refl (the_ampersand_is c.0 c.3) c.2 c.4.2 c.4.3.2 c.4.3.3.0 c.4.3.3.1,
    tt,
  ),
)

pub kept_shift_expr : Kept ShiftExpr
kept_shift_expr = (λ v ts w rest g c. from_tail 10 9 9 v c.0 w c.3.0 ts c.1 c.3.1 rest (omega arith) c.2 c.3.2 c.3.3.0 c.3.3.1, tt)

pub kept_shift_tail : Kept ShiftTail
kept_shift_tail = (
  λ v ts w rest g c. ended 9 9 v w ts rest (omega arith) c.0 c.1,
  (
    λ v ts w rest g c. lengthened 9 LeftShift c.0 v c.4.0 w c.4.3.0 ts c.1 c.4.1 c.4.3.1 rest refl refl (the_left_shift_is c.0 c.3) c.2 c.4.2 c.4.3.2 c.4.3.3.0 c.4.3.3.1,
    (
      λ v ts w rest g c. lengthened 9 RightShift c.0 v c.4.0 w c.4.3.0 ts c.1 c.4.1 c.4.3.1 rest refl refl (the_right_shift_is c.0 c.3) c.2 c.4.2 c.4.3.2 c.4.3.3.0 c.4.3.3.1,
      tt,
    ),
  ),
)

pub kept_sum : Kept Sum
kept_sum = (λ v ts w rest g c. from_tail 11 10 10 v c.0 w c.3.0 ts c.1 c.3.1 rest (omega arith) c.2 c.3.2 c.3.3.0 c.3.3.1, tt)

pub kept_sum_tail : Kept SumTail
kept_sum_tail = (
  λ v ts w rest g c. ended 10 10 v w ts rest (omega arith) c.0 c.1,
  (
    λ v ts w rest g c. lengthened 10 Add c.0 v c.4.0 w c.4.3.0 ts c.1 c.4.1 c.4.3.1 rest refl refl (the_plus_is c.0 c.3) c.2 c.4.2 c.4.3.2 c.4.3.3.0 c.4.3.3.1,
    (
      λ v ts w rest g c. lengthened 10 Subtract c.0 v c.4.0 w c.4.3.0 ts c.1 c.4.1 c.4.3.1 rest refl refl (the_minus_is c.0 c.3) c.2 c.4.2 c.4.3.2 c.4.3.3.0 c.4.3.3.1,
      tt,
    ),
  ),
)

pub kept_product : Kept Product
kept_product = (λ v ts w rest g c. from_tail 12 11 11 v c.0 w c.3.0 ts c.1 c.3.1 rest (omega arith) c.2 c.3.2 c.3.3.0 c.3.3.1, tt)

pub kept_product_tail : Kept ProductTail
kept_product_tail = (
  λ v ts w rest g c. ended 11 11 v w ts rest (omega arith) c.0 c.1,
  (
    λ v ts w rest g c. lengthened 11 Multiply c.0 v c.4.0 w c.4.3.0 ts c.1 c.4.1 c.4.3.1 rest refl refl (the_star_is c.0 c.3) c.2 c.4.2 c.4.3.2 c.4.3.3.0 c.4.3.3.1,
    (
      λ v ts w rest g c. lengthened 11 FloorDivide c.0 v c.4.0 w c.4.3.0 ts c.1 c.4.1 c.4.3.1 rest refl refl (the_double_slash_is c.0 c.3) c.2 c.4.2 c.4.3.2 c.4.3.3.0 c.4.3.3.1,
      (
        λ v ts w rest g c. lengthened 11 Modulo c.0 v c.4.0 w c.4.3.0 ts c.1 c.4.1 c.4.3.1 rest refl refl (the_percent_is c.0 c.3) c.2 c.4.2 c.4.3.2 c.4.3.3.0 c.4.3.3.1,
        tt,
      ),
    ),
  ),
)

-- an operator before its operand
unary : (o : UnaryOperator) (t : Token) (v u w : Parts) (ts after mid rest : List Token) → (p : Place) × (t ≡ sign p (unary_sign o)) → ts ≡ t ∷ after
    → Pushes PExpr (IsExpr 12) (PToken t ∷ v) after u mid → act (MakeUnary o) u ≡ w → mid ≡ rest → Pushes PExpr (IsExpr 12) v ts w rest
unary o t v u w ts after mid rest n first e p q =
    let stack : u ≡ PExpr e.0 ∷ PToken (sign n.0 (unary_sign o)) ∷ v = cc in
    (EUnary n.0 o e.0, sym p ∙ ap (act (MakeUnary o)) stack, (omega arith, after, first_is first n.1 refl, subst (IsExpr 12 e.0 after) q e.2))

pub kept_factor : Kept Factor
kept_factor = (
  λ v ts w rest g c. unary Negative c.0 v c.4.0 w ts c.1 c.4.1 rest (the_minus_is c.0 c.3) c.2 c.4.2 c.4.3.0 c.4.3.1,
  (
    λ v ts w rest g c. unary Positive c.0 v c.4.0 w ts c.1 c.4.1 rest (the_plus_is c.0 c.3) c.2 c.4.2 c.4.3.0 c.4.3.1,
    (
      λ v ts w rest g c. unary Invert c.0 v c.4.0 w ts c.1 c.4.1 rest (the_tilde_is c.0 c.3) c.2 c.4.2 c.4.3.0 c.4.3.1,
      (λ v ts w rest g c. alone 13 12 v c.0 w ts c.1 rest (omega arith) c.2 c.3.0 c.3.1, tt),
    ),
  ),
)

pub kept_power_expr : Kept PowerExpr
kept_power_expr = (λ v ts w rest g c. from_tail 14 14 13 v c.0 w c.3.0 ts c.1 c.3.1 rest (omega arith) c.2 c.3.2 c.3.3.0 c.3.3.1, tt)

pub kept_power_tail : Kept PowerTail
kept_power_tail = (
  λ v ts w rest g c. ended 14 13 v w ts rest (omega arith) c.0 c.1,
  (
    λ v ts w rest g c a u is.
        let p = the_double_star_is c.0 c.3 in
        let b = c.4.2 in
        let stack : c.4.0 ≡ PExpr b.0 ∷ PToken (sign p.0 (codes "**")) ∷ PExpr a ∷ u = cc in (
          EBinary p.0 Power a b.0,
          sym c.4.3.0 ∙ ap (act (MakeBinary Power)) stack,
          λ front h. (omega arith, c.1, subst (IsExpr 14 a front) (first_is c.2 p.1 refl) h, subst (IsExpr 12 b.0 c.1) c.4.3.1 b.2),
        ),
    tt,
  ),
)
