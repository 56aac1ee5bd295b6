-- The rows of statements that stand on one line with others keep what their nonterminals mean.
use Rattle.std.proofs.Common.{◌≡◌, ℕ, true, List, [], ◌∷◌, ◌++◌, codes, inl, inr, refl, sym, ap, ◌∙◌, subst, subst₂, Option, append-nil}
use Rattle.grammars.specs.Grammar.{Tok, Non, Do}
use Rattle.grammars.specs.Derivation.{Chain}
use Rattle.py_tokens.specs.Token.{Place}
use Rattle.py_syntax.specs.Token.{Token}
use Rattle.py_syntax.specs.Kinds.{kind_of}
use Rattle.py_syntax.specs.Tree.{NameAt, BinaryOperator, BitOr, BitXor, BitAnd, LeftShift, RightShift, Add, Subtract, Multiply, FloorDivide, Modulo, Power, ESubscript, no_expr, an_expr, Target, Targets, SExpr, SAssign, SAugmented, SPass, SBreak, SContinue, SReturn, SRaise, SYield, SGlobal, SAssert, SDelete}
use Rattle.py_syntax.specs.Build.{PStmt, Parts, start_of, target_of, targets_of, targets_found, more_targets_found, target_found, are_targets_last, is_target_last, MakeAugmented, MakeDelete, act}
use Rattle.py_syntax.specs.Grammar.{word, sign, augmented_sign, IsName, IsExpr, AreGlobals, IsSmall}
use Rattle.py_syntax.specs.Table.{Small, SmallTail, AssignTail, Returned, GlobalNext, AssertMessage, ExpressionList, table}
use Rattle.py_syntax.proofs.Starts.{starts}
use Rattle.py_syntax.proofs.ChainSteps.{read, take, Reading, know, push, name, before, some_of, list_grows, list_stays}
use Rattle.py_syntax.proofs.TargetsSpelt.{target_spelt, targets_spelt}
use Rattle.py_syntax.proofs.TokenOf.{the_assert_is, the_break_is, the_continue_is, the_del_is, the_global_is, the_pass_is, the_raise_is, the_return_is, the_yield_is, the_double_slash_equal_is, the_double_star_equal_is, the_left_shift_equal_is, the_right_shift_equal_is, the_plus_equal_is, the_minus_equal_is, the_star_equal_is, the_percent_equal_is, the_ampersand_equal_is, the_bar_equal_is, the_caret_equal_is, the_comma_is, the_equal_is}
use Rattle.py_syntax.proofs.Means.{global_part, IsSmallTail, AreFurther, Means, Kept}

-- what stands behind the `=` of an assignment
abbrev IsAssigned : List Token → Parts → List Token → Parts → Type 0
IsAssigned ts w rest v = Chain table Means (Non ExpressionList ∷ Non AssignTail ∷ []) v ts w rest

pub kept_assign_tail : Kept AssignTail
kept_assign_tail = (
  λ v ts w rest g c a p targets u is. know (Reading AssignTail 0 ts w rest) is c (λ c. (
    [],
    a,
    sym c.0 ∙ ap (λ (l : List Targets). PStmt (SAssign p l a) ∷ u) (sym (append-nil targets)),
    λ front h. (front, refl, subst (IsExpr 0 a front) c.1 h),
  )),
  (
    λ v ts w rest g c a p targets u is.
        know (λ (v : Parts). are_targets_last v ≡ true) is g (λ g.
        know (Reading AssignTail 1 ts w rest) is c (λ c.
        read the_equal_is c (λ q after at c.
        let s = some_of (targets_of a) g in
        know (IsAssigned after w rest) (ap (λ (o : Option Targets). more_targets_found a p targets o u) s.1) c (λ c.
        push c (λ e mid e_is c.
        take c (λ z last tail c.
        let m = tail e p (targets ++ s.0 ∷ []) u refl in (
          s.0 ∷ m.0,
          m.1,
          sym c.0 ∙ m.2 ∙ ap (λ (l : List Targets). PStmt (SAssign p l m.1) ∷ u) (list_grows targets s.0 m.0),
          λ front h.
              let r = m.3 after e_is in
              (r.0, (q, after, targets_spelt a s.0 front _ s.1 (subst (IsExpr 0 a front) at h), r.1), subst (IsExpr 0 m.1 r.0) c.1 r.2),
        ))))))),
    tt,
  ),
)

-- an operator of augmented assignment, and the value
augmented : (o : BinaryOperator) (k : ℕ) → ((t : Token) → kind_of t ≡ k → (p : Place) × (t ≡ sign p (augmented_sign o)))
    → (v : Parts) (ts : List Token) (w : Parts) (rest : List Token) → is_target_last v ≡ true
    → Chain table Means (Tok k ∷ Non ExpressionList ∷ Do (MakeAugmented o) ∷ []) v ts w rest → IsSmallTail v ts w rest
augmented o k sign_is v ts w rest g c a u is =
    know (λ (v : Parts). is_target_last v ≡ true) is g (λ g.
    know (λ (v : Parts). Chain table Means (Tok k ∷ Non ExpressionList ∷ Do (MakeAugmented o) ∷ []) v ts w rest) is c (λ c.
    read sign_is c (λ q after at c.
    push c (λ e last e_is c.
    let s = some_of (target_of a) g in (
      SAugmented (start_of a) o s.0 e,
      sym c.0 ∙ ap (λ (t : Option Target). target_found o a e t u) s.1,
      λ front h. (
        starts 0 a front ts h,
        q,
        after,
        target_spelt 0 a s.0 front _ s.1 (subst (IsExpr 0 a front) at h),
        subst (IsExpr 0 e after) c.1 e_is,
      ),
    )))))

pub kept_small_tail : Kept SmallTail
kept_small_tail = (
  λ v ts w rest g c a u is. know (Reading SmallTail 0 ts w rest) is c (λ c.
      (SExpr (start_of a) a, sym c.0, λ front h. (starts 0 a front ts h, subst (IsExpr 0 a front) c.1 h))),
  (
    λ v ts w rest g c a u is.
        know (λ (v : Parts). are_targets_last v ≡ true) is g (λ g.
        know (Reading SmallTail 1 ts w rest) is c (λ c.
        read the_equal_is c (λ q after at c.
        let s = some_of (targets_of a) g in
        know (IsAssigned after w rest) (ap (λ (o : Option Targets). targets_found a o u) s.1) c (λ c.
        push c (λ e mid e_is c.
        take c (λ z last tail c.
        let m = tail e (start_of a) (s.0 ∷ []) u refl in (
          SAssign (start_of a) (s.0 ∷ m.0) m.1,
          sym c.0 ∙ m.2,
          λ front h.
              let r = m.3 after e_is in (
                starts 0 a front ts h,
                r.0,
                (q, after, targets_spelt a s.0 front _ s.1 (subst (IsExpr 0 a front) at h), r.1),
                subst (IsExpr 0 m.1 r.0) c.1 r.2,
              ),
        ))))))),
    (
      augmented BitOr 65 the_bar_equal_is,
      (
        augmented BitXor 66 the_caret_equal_is,
        (
          augmented BitAnd 64 the_ampersand_equal_is,
          (
            augmented LeftShift 49 the_left_shift_equal_is,
            (
              augmented RightShift 50 the_right_shift_equal_is,
              (
                augmented Add 60 the_plus_equal_is,
                (
                  augmented Subtract 61 the_minus_equal_is,
                  (
                    augmented Multiply 62 the_star_equal_is,
                    (
                      augmented FloorDivide 47 the_double_slash_equal_is,
                      (
                        augmented Modulo 63 the_percent_equal_is,
                        (
                          augmented Power 48 the_double_star_equal_is,
                          tt,
                        ),
                      ),
                    ),
                  ),
                ),
              ),
            ),
          ),
        ),
      ),
    ),
  ),
)

pub kept_returned : Kept Returned
kept_returned = (
  λ v ts w rest g c p k u is. know (Reading Returned 0 ts w rest) is c (λ c. (no_expr, sym c.0, ap (λ (r : List Token). word p (codes "return") ∷ r) c.1)),
  (
    λ v ts w rest g c p k u is. know (Reading Returned 1 ts w rest) is c (λ c.
        push c (λ e last e_is c. (an_expr e, sym c.0, (ts, refl, subst (IsExpr 0 e ts) c.1 e_is)))),
    tt,
  ),
)

pub kept_assert_message : Kept AssertMessage
kept_assert_message = (
  λ v ts w rest g c a p k u is. know (Reading AssertMessage 0 ts w rest) is c (λ c. (no_expr, sym c.0, λ mid h. (mid, refl, subst (IsExpr 1 a mid) c.1 h))),
  (
    λ v ts w rest g c a p k u is. know (Reading AssertMessage 1 ts w rest) is c (λ c.
        read the_comma_is c (λ q after at c.
        push c (λ e last e_is c. (
          an_expr e,
          sym c.0,
          λ mid h. (q, mid, after, refl, subst (IsExpr 1 a mid) at h, subst (IsExpr 1 e after) c.1 e_is),
        )))),
    tt,
  ),
)

-- a name, and others behind it
globals_together : (x : NameAt) (names : List NameAt) (ts mid rest : List Token) → IsName x ts mid → AreFurther AreGlobals names mid rest
    → AreGlobals (x ∷ names) ts rest
globals_together x [] ts mid rest first (inl end) = subst (IsName x ts) end.1 first
globals_together x [] ts mid rest first (inr more) = absurd more.3
globals_together x (y ∷ names) ts mid rest first (inl end) = let e : y ∷ names ≡ [] = end.0 in absurd (cc)
globals_together x (y ∷ names) ts mid rest first (inr more) = (more.0, more.1, subst (IsName x ts) more.2 first, more.3)

pub kept_global_next : Kept GlobalNext
kept_global_next = (
  λ v ts w rest g c. list_stays global_part (AreFurther AreGlobals) v ts w rest c.0 (inl (refl, c.1)),
  (
    λ v ts w rest g c p xs u is. know (Reading GlobalNext 1 ts w rest) is c (λ c.
        read the_comma_is c (λ q after at c.
        name c (λ x ascii mid at_name c.
        take c (λ z last further c.
        let m = further p (xs ++ x ∷ []) u refl in (
          x ∷ m.0,
          sym c.0 ∙ m.1 ∙ ap (λ (l : List NameAt). PStmt (SGlobal p l) ∷ u) (list_grows xs x m.0),
          inr (q, after, at, subst (AreGlobals (x ∷ m.0) after) c.1 (globals_together x m.0 after mid last (ascii, at_name) m.2)),
        ))))),
    tt,
  ),
)

pub kept_small : Kept Small
kept_small = (
  λ v ts w rest g c.
      push c (λ a mid a_is c.
      take c (λ z last tail c.
      let m = tail a v refl in
      (m.0, sym c.0 ∙ m.1, subst (IsSmall m.0 ts) c.1 (m.2 ts a_is)))),
  (
    λ v ts w rest g c. read the_pass_is c (λ p after at c. (SPass p, sym c.0, before at c.1)),
    (
      λ v ts w rest g c. read the_break_is c (λ p after at c. (SBreak p, sym c.0, before at c.1)),
      (
        λ v ts w rest g c. read the_continue_is c (λ p after at c. (SContinue p, sym c.0, before at c.1)),
        (
          λ v ts w rest g c.
              read the_return_is c (λ p after at c.
              take c (λ z last returned c.
              let m = returned p _ v refl in
              (SReturn p m.0, sym c.0 ∙ m.1, subst₂ (IsSmall (SReturn p m.0)) (sym at) c.1 m.2))),
          (
            λ v ts w rest g c.
                read the_raise_is c (λ p after at c. push c (λ e last e_is c. (SRaise p e, sym c.0, (after, at, subst (IsExpr 1 e after) c.1 e_is)))),
            (
              λ v ts w rest g c.
                  read the_yield_is c (λ p after at c. push c (λ e last e_is c. (SYield p e, sym c.0, (after, at, subst (IsExpr 0 e after) c.1 e_is)))),
              (
                λ v ts w rest g c.
                    read the_global_is c (λ p after at c.
                    name c (λ x ascii mid at_name c.
                    take c (λ z last further c.
                    let m = further p (x ∷ []) v refl in (
                      SGlobal p (x ∷ m.0),
                      sym c.0 ∙ m.1,
                      (after, at, subst (AreGlobals (x ∷ m.0) after) c.1 (globals_together x m.0 after mid last (ascii, at_name) m.2)),
                    )))),
                (
                  λ v ts w rest g c.
                      read the_assert_is c (λ p after at c.
                      push c (λ e mid e_is c.
                      take c (λ z last message c.
                      let m = message e p _ v refl in
                      (SAssert p e m.0, sym c.0 ∙ m.1, subst₂ (IsSmall (SAssert p e m.0)) (sym at) c.1 (m.2 after e_is))))),
                  (
                    λ v ts w rest g c.
                        read the_del_is c (λ p after at c.
                        push c (λ e mid e_is c.
                        take c (λ z last tail c.
                        let m = tail e _ refl e_is.1 in (
                          SDelete p m.0 m.1 m.2,
                          sym c.0 ∙ ap (act MakeDelete) m.3,
                          (after, at, subst (IsExpr 14 (ESubscript m.0 m.1 m.2) after) c.1 (m.4 after e_is.0)),
                        )))),
                    tt,
                  ),
                ),
              ),
            ),
          ),
        ),
      ),
    ),
  ),
)
