-- The rows of what is deleted keep what their nonterminals mean.
use Rattle.std.proofs.Common.{◌≡◌, Bool, true, false, List, [], ◌∷◌, codes, inl, inr, refl, sym, ap, ◌∙◌, subst, subst₂}
use Rattle.grammars.specs.Grammar.{Tok, Non, Do}
use Rattle.grammars.specs.Derivation.{Chain}
use Rattle.py_tokens.specs.Token.{Place}
use Rattle.py_syntax.specs.Token.{Token}
use Rattle.py_syntax.specs.Tree.{Expr, EAttribute, ECall, ESubscript, ESlice, Exprs, no_exprs, more_exprs, MaybeExpr, no_expr, an_expr, no_keywords}
use Rattle.py_syntax.specs.Build.{PExpr, Parts, Drop}
use Rattle.py_syntax.specs.Grammar.{sign, IsEndOrComma, is_attribute, IsExpr, IsMaybe, AreArguments, AreKeywords}
use Rattle.py_syntax.specs.Table.{DeletedTail, DeletedAttribute, DeletedEnd, DeletedSubscript, DeletedSubscriptTail, Upper, table}
use Rattle.py_syntax.proofs.ChainSteps.{read, take, Reading, know, push, name}
use Rattle.py_syntax.proofs.TokenOf.{the_open_parenthesis_is, the_close_parenthesis_is, the_open_bracket_is, the_close_bracket_is, the_colon_is, the_dot_is}
use Rattle.py_syntax.proofs.Means.{IsDeletedBehind, IsSubscript, Means, Kept}

-- an attribute of what is there
attribute_kept : (Fits : Expr → Type 0) (v : Parts) (ts : List Token) (w : Parts) (rest : List Token) → Reading DeletedTail 0 ts w rest v
    → IsDeletedBehind Fits v ts w rest
attribute_kept Fits v ts w rest c a u is fits =
    know (Reading DeletedTail 0 ts w rest) is c (λ c.
    read the_dot_is c (λ p after at c.
    name c (λ x ascii mid at_name c.
    take c (λ z last tail c.
    let m = tail (EAttribute p a x) u refl tt in (
      m.0,
      m.1,
      m.2,
      sym c.0 ∙ m.3,
      λ front h. subst (IsExpr 14 (ESubscript m.0 m.1 m.2) front) c.1 (m.4 front (after, subst (IsExpr 14 a front) at h, (ascii, at_name))),
    )))))

-- a call of it
call_kept : (Fits : Expr → Type 0) (v : Parts) (ts : List Token) (w : Parts) (rest : List Token) → ((a : Expr) → Fits a → is_attribute a ≡ false)
    → Reading DeletedTail 1 ts w rest v → IsDeletedBehind Fits v ts w rest
call_kept Fits v ts w rest plain c a u is fits =
    know (Reading DeletedTail 1 ts w rest) is c (λ c.
    read the_open_parenthesis_is c (λ p after at c.
    take c (λ z mid arguments c.
    let m = arguments p a no_exprs u refl in
    know (λ (z : Parts). Chain table Means (Tok 82 ∷ Do Drop ∷ Non DeletedTail ∷ []) z mid w rest) m.2 c (λ c.
    read the_close_parenthesis_is c (λ q behind at_close c.
    take c (λ z last tail c.
    let n = tail (ECall p a m.0 m.1) u refl refl in
    let spelt : AreArguments m.0 (m.1 ≡ no_keywords) (AreKeywords false m.1) after (sign q (codes ")") ∷ behind) =
    subst (AreArguments m.0 (m.1 ≡ no_keywords) (AreKeywords false m.1) after) at_close m.3 in (
      n.0,
      n.1,
      n.2,
      sym c.0 ∙ n.3,
      λ front h. subst (IsExpr 14 (ESubscript n.0 n.1 n.2) front) c.1 (n.4 front (
        q,
        after,
        subst (IsExpr 14 a front) at h,
        subst (λ (b : Bool). AreArguments m.0 (m.1 ≡ no_keywords) (AreKeywords b m.1) after (sign q (codes ")") ∷ behind)) (sym (plain a fits)) spelt,
      )),
    )))))))

-- a subscript of it
subscript_kept : (Fits : Expr → Type 0) (v : Parts) (ts : List Token) (w : Parts) (rest : List Token) → Reading DeletedTail 2 ts w rest v
    → IsDeletedBehind Fits v ts w rest
subscript_kept Fits v ts w rest c a u is fits =
    know (Reading DeletedTail 2 ts w rest) is c (λ c.
    read the_open_bracket_is c (λ p after at c.
    take c (λ z last inside c.
    let m = inside p _ a u refl in (
      m.0,
      m.1,
      m.2,
      sym c.0 ∙ m.3,
      λ front h. subst (IsExpr 14 (ESubscript m.0 m.1 m.2) front) c.1 (m.4 front (subst (IsExpr 14 a front) at h)),
    ))))

pub kept_deleted_tail : Kept DeletedTail
kept_deleted_tail = (
  λ v ts w rest g c. attribute_kept (λ a. is_attribute a ≡ false) v ts w rest c,
  (
    λ v ts w rest g c. call_kept (λ a. is_attribute a ≡ false) v ts w rest (λ a fits. fits) c,
    (λ v ts w rest g c. subscript_kept (λ a. is_attribute a ≡ false) v ts w rest c, tt),
  ),
)

-- arguments of an attribute's call, none of which is named
pub plain_spelt : (of_attribute : Bool) (es : Exprs) (ts rest : List Token) → AreArguments es (no_keywords ≡ no_keywords) (AreKeywords true no_keywords) ts rest
    → AreArguments es (no_keywords ≡ no_keywords) (AreKeywords of_attribute no_keywords) ts rest
plain_spelt of_attribute no_exprs ts rest h = h
plain_spelt of_attribute (more_exprs e es) ts rest h = (h.0, h.1, behind es h.0 h.2 (plain_spelt of_attribute es))
  where
    behind : (es : Exprs) (mid : List Token)
        → IsEndOrComma ((es ≡ no_exprs) × (no_keywords ≡ no_keywords)) (AreArguments es (no_keywords ≡ no_keywords) (AreKeywords true no_keywords)) mid rest
        → ((ts rest : List Token) → AreArguments es (no_keywords ≡ no_keywords) (AreKeywords true no_keywords) ts rest
        → AreArguments es (no_keywords ≡ no_keywords) (AreKeywords of_attribute no_keywords) ts rest)
        → IsEndOrComma ((es ≡ no_exprs) × (no_keywords ≡ no_keywords)) (AreArguments es (no_keywords ≡ no_keywords) (AreKeywords of_attribute no_keywords)) mid rest
    behind es mid (inl end) spelt = inl end
    behind es mid (inr more) spelt = inr (more.0, more.1, more.2, spelt more.1 rest more.3)

pub kept_deleted_attribute : Kept DeletedAttribute
kept_deleted_attribute = (
  λ v ts w rest g c. attribute_kept (λ a. Unit {0}) v ts w rest c,
  (
    λ v ts w rest g c a u is fits.
        know (Reading DeletedAttribute 1 ts w rest) is c (λ c.
        read the_open_parenthesis_is c (λ p after at c.
        take c (λ z mid arguments c.
        let m = arguments p a no_exprs u refl in
        know (λ (z : Parts). Chain table Means (Tok 82 ∷ Do Drop ∷ Non DeletedTail ∷ []) z mid w rest) m.1 c (λ c.
        read the_close_parenthesis_is c (λ q behind at_close c.
        take c (λ z last tail c.
        let n = tail (ECall p a m.0 no_keywords) u refl refl in
        let spelt : AreArguments m.0 (no_keywords ≡ no_keywords) (AreKeywords true no_keywords) after (sign q (codes ")") ∷ behind) =
        subst (AreArguments m.0 (no_keywords ≡ no_keywords) (AreKeywords true no_keywords) after) at_close m.2 in (
          n.0,
          n.1,
          n.2,
          sym c.0 ∙ n.3,
          λ front h. subst (IsExpr 14 (ESubscript n.0 n.1 n.2) front) c.1
              (n.4 front (q, after, subst (IsExpr 14 a front) at h, plain_spelt (is_attribute a) m.0 after _ spelt)),
        ))))))),
    (λ v ts w rest g c. subscript_kept (λ a. Unit {0}) v ts w rest c, tt),
  ),
)

pub kept_deleted_end : Kept DeletedEnd
kept_deleted_end = (
  λ v ts w rest g c a u is fits. (
    fits.0,
    fits.1,
    fits.2,
    sym c.0 ∙ is ∙ ap (λ (e : Expr). PExpr e ∷ u) fits.3,
    λ front h. subst₂ (λ (e : Expr) (last : List Token). IsExpr 14 e front last) fits.3 c.1 h,
  ),
  (
    λ v ts w rest g c. attribute_kept IsSubscript v ts w rest c,
    (
      λ v ts w rest g c. call_kept IsSubscript v ts w rest (λ a fits. ap is_attribute fits.3) c,
      (λ v ts w rest g c. subscript_kept IsSubscript v ts w rest c, tt),
    ),
  ),
)

-- a slice of what is there, and what stands behind it
slice_kept : (q : Place) (a : Expr) (lower : MaybeExpr) (u : Parts) (ts : List Token) (w : Parts) (rest : List Token)
    → Chain table Means (Non Upper ∷ Non DeletedTail ∷ []) (PExpr (ESlice q a lower no_expr) ∷ u) ts w rest
    → (p : Place) × (e : Expr) × (i : Expr) × (w ≡ PExpr (ESubscript p e i) ∷ u)
    × ((front mid : List Token) (colon : Place) → IsExpr 14 a front (sign q (codes "[") ∷ mid) → IsMaybe lower mid (sign colon (codes ":") ∷ ts)
    → IsExpr 14 (ESubscript p e i) front rest)
slice_kept q a lower u ts w rest c =
    take c (λ z mid upper c.
    let m = upper q a lower u refl in
    know (λ (z : Parts). Chain table Means (Non DeletedTail ∷ []) z mid w rest) m.2 c (λ c.
    take c (λ z last tail c.
    let n = tail (ESlice q a lower m.0) u refl refl in (
      n.0,
      n.1,
      n.2,
      sym c.0 ∙ n.3,
      λ front inside colon h l. subst (IsExpr 14 (ESubscript n.0 n.1 n.2) front) c.1 (n.4 front (colon, m.1, inside, ts, h, l, m.3)),
    ))))

pub kept_deleted_subscript : Kept DeletedSubscript
kept_deleted_subscript = (
  λ v ts w rest g c q k a u is.
      know (Reading DeletedSubscript 0 ts w rest) is c (λ c.
      push c (λ j mid j_is c.
      take c (λ z last tail c.
      let m = tail j q k a u refl in
      (m.0, m.1, m.2, sym c.0 ∙ m.3, λ front h. subst (IsExpr 14 (ESubscript m.0 m.1 m.2) front) c.1 (m.4 front ts h j_is))))),
  (
    λ v ts w rest g c q k a u is.
        know (Reading DeletedSubscript 1 ts w rest) is c (λ c.
        read the_colon_is c (λ colon after at c.
        let m = slice_kept q a no_expr u after w rest c in
        (m.0, m.1, m.2, m.3, λ front h. m.4 front ts colon h at))),
    tt,
  ),
)

pub kept_deleted_subscript_tail : Kept DeletedSubscriptTail
kept_deleted_subscript_tail = (
  λ v ts w rest g c j q k a u is.
      know (Reading DeletedSubscriptTail 0 ts w rest) is c (λ c.
      read the_close_bracket_is c (λ r after at c.
      take c (λ z last tail c.
      let m = tail (ESubscript q a j) u refl (q, a, j, refl) in (
        m.0,
        m.1,
        m.2,
        sym c.0 ∙ m.3,
        λ front mid h i. subst (IsExpr 14 (ESubscript m.0 m.1 m.2) front) c.1 (m.4 front (r, mid, h, subst (IsExpr 1 j mid) at i)),
      )))),
  (
    λ v ts w rest g c j q k a u is.
        know (Reading DeletedSubscriptTail 1 ts w rest) is c (λ c.
        read the_colon_is c (λ colon after at c.
        let m = slice_kept q a (an_expr j) u after w rest c in
        (m.0, m.1, m.2, m.3, λ front mid h i. m.4 front mid colon h (subst (IsExpr 1 j mid) at i)))),
    tt,
  ),
)
