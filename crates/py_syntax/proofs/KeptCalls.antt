-- The rows of what stands behind an expression, calls and subscripts, keep what their nonterminals mean.
use Rattle.std.proofs.Common.{◌≡◌, Bool, true, false, List, ◌∷◌, inl, inr, codes, refl, sym, ap, ◌∙◌, subst, subst₂}
use Rattle.py_tokens.specs.Token.{Place}
use Rattle.py_syntax.specs.Token.{Name, TName, TOperator, Token, At}
use Rattle.py_syntax.specs.Tree.{NameAt, Expr, EName, EAttribute, ECall, ESubscript, ESlice, Exprs, no_exprs, more_exprs, no_expr, an_expr, Keywords, no_keywords, more_keywords}
use Rattle.py_syntax.specs.Grammar.{sign, IsName, IsEndOrComma, IsExpr, IsMaybe, AreArguments, AreKeywords}
use Rattle.py_syntax.specs.Build.{Parts, PToken, PExpr, MakeLeaf, MakeAttribute, BeginCall, AddArgument, AddKeyword, MakeSubscript, MakeSliceFrom, MakeSlice, AddUpper, with_expr, with_keyword, is_name_last, act}
use Rattle.py_syntax.specs.Table.{Primary, PrimaryTail, AttributeTail, Subscription, SubscriptionTail, Upper, Arguments, ArgumentTail, KeywordNext, KeywordMore, PlainArguments, PlainArgumentTail}
use Rattle.py_syntax.proofs.Means.{Lengthens, IsBehindPlain, IsSubscription, AreCallArguments, ArePlainArguments, call_part, IsAnyName, Kept}
use Rattle.py_syntax.proofs.Together.{exprs_grow, exprs_alone, keywords_grow, keywords_alone}
use Rattle.py_syntax.proofs.TokenOf.{the_open_parenthesis_is, the_close_parenthesis_is, the_open_bracket_is, the_close_bracket_is, the_comma_is, the_colon_is, the_dot_is, the_equal_is}
use Rattle.py_syntax.proofs.KeptSteps.{first_is}

-- the parts with more arguments, or with more keyword arguments
abbrev argued : Place → Expr → Keywords → Parts → Exprs → Parts
argued p f ks u es = PExpr (ECall p f es ks) ∷ u

pub kept_primary : Kept Primary
kept_primary = (
  λ v ts w rest g c.
      let a = c.2 in
      let e = c.3.2 a.0 v a.1 a.2.1 in
      (e.0, sym c.3.3.0 ∙ e.1, subst (IsExpr 14 e.0 ts) c.3.3.1 (e.2 ts a.2.0)),
  tt,
)

-- an attribute of the last expression, and what comes behind
attribute : (dot : Token) (v u w z : Parts) (ts after mid last rest : List Token) → (p : Place) × (dot ≡ sign p (codes ".")) → ts ≡ dot ∷ after
    → IsAnyName (PToken dot ∷ v) after u mid → Lengthens 14 14 (act MakeAttribute u) mid z last → z ≡ w → last ≡ rest → Lengthens 14 14 v ts w rest
attribute dot v u w z ts after mid last rest n first x tail p q a under is =
    let stack : u ≡ PToken (At x.0.place (TName x.1 x.0.name)) ∷ PToken (sign n.0 (codes ".")) ∷ PExpr a ∷ under = cc in
    let e = tail (EAttribute n.0 a x.0) under (ap (act MakeAttribute) stack) in
    (e.0, sym p ∙ e.1, λ front h. subst (IsExpr 14 e.0 front) q (e.2 front (after, subst (IsExpr 14 a front) (first_is first n.1 refl) h, (x.1, x.3))))

-- a subscript or a slice of it
subscript : (bracket : Token) (v u w z : Parts) (ts after mid last rest : List Token) → (p : Place) × (bracket ≡ sign p (codes "[")) → ts ≡ bracket ∷ after
    → IsSubscription (PToken bracket ∷ v) after u mid → IsBehindPlain u mid z last → z ≡ w → last ≡ rest → Lengthens 14 14 v ts w rest
subscript bracket v u w z ts after mid last rest n first sub tail p q a under is =
    let stack : PToken bracket ∷ v ≡ PToken (sign n.0 (codes "[")) ∷ PExpr a ∷ under = cc in
    let s = sub n.0 (TOperator (codes "[")) a under stack in
    let e = tail s.0 under s.1 s.2 in
    (e.0, sym p ∙ e.1, λ front h. subst (IsExpr 14 e.0 front) q (e.2 front (s.3 front (subst (IsExpr 14 a front) (first_is first n.1 refl) h))))

-- a call of it, where it is no attribute
call : (opening close : Token) (v u w z : Parts) (ts after mid last behind rest : List Token) → (p : Place) × (opening ≡ sign p (codes "(")) → ts ≡ opening ∷ after
    → AreCallArguments (act BeginCall (PToken opening ∷ v)) after u mid → (p : Place) × (close ≡ sign p (codes ")")) → mid ≡ close ∷ last
    → IsBehindPlain u last z behind → z ≡ w → behind ≡ rest → IsBehindPlain v ts w rest
call opening close v u w z ts after mid last behind rest n first arguments m second tail p q a under is plain =
    let stack : PToken opening ∷ v ≡ PToken (sign n.0 (codes "(")) ∷ PExpr a ∷ under = cc in
    let s = arguments n.0 a no_exprs under (ap (act BeginCall) stack) in
    let e = tail (ECall n.0 a s.0 s.1) under s.2 refl in (
      e.0,
      sym p ∙ e.1,
      λ front h. subst (IsExpr 14 e.0 front) q (e.2 front (
        m.0,
        after,
        subst (IsExpr 14 a front) (first_is first n.1 refl) h,
        subst₂ (λ (b : Bool) (x : List Token). AreArguments s.0 (s.1 ≡ no_keywords) (AreKeywords b s.1) after x) (sym plain) (first_is second m.1 refl) s.3,
      )),
    )

-- a call without keyword arguments, whatever is called
plain_call : (opening close : Token) (v u w z : Parts) (ts after mid last behind rest : List Token) → (p : Place) × (opening ≡ sign p (codes "(")) → ts ≡ opening ∷ after
    → ArePlainArguments (act BeginCall (PToken opening ∷ v)) after u mid → (p : Place) × (close ≡ sign p (codes ")")) → mid ≡ close ∷ last
    → IsBehindPlain u last z behind → z ≡ w → behind ≡ rest → Lengthens 14 14 v ts w rest
plain_call opening close v u w z ts after mid last behind rest n first arguments m second tail p q a under is =
    let stack : PToken opening ∷ v ≡ PToken (sign n.0 (codes "(")) ∷ PExpr a ∷ under = cc in
    let s = arguments n.0 a no_exprs under (ap (act BeginCall) stack) in
    let e = tail (ECall n.0 a s.0 no_keywords) under s.1 refl in (
      e.0,
      sym p ∙ e.1,
      λ front h. subst (IsExpr 14 e.0 front) q (e.2 front (
        m.0,
        after,
        subst (IsExpr 14 a front) (first_is first n.1 refl) h,
        subst (AreArguments s.0 (no_keywords ≡ no_keywords) (AreKeywords true no_keywords) after) (first_is second m.1 refl) s.2,
      )),
    )

-- what holds behind any expression holds behind one that is no attribute
behind_any : (v w : Parts) (ts rest : List Token) → Lengthens 14 14 v ts w rest → IsBehindPlain v ts w rest
behind_any v w ts rest l a u is plain = l a u is

-- an attribute, and then what may stand behind one
pub kept_primary_tail : Kept PrimaryTail
kept_primary_tail = (
  λ v ts w rest g c a u is plain. (a, sym c.0 ∙ is, λ front h. subst (IsExpr 14 a front) c.1 h),
  (
    λ v ts w rest g c. behind_any v w ts rest (attribute c.0 v c.4.0 w c.4.3.0 ts c.1 c.4.1 c.4.3.1 rest (the_dot_is c.0 c.3) c.2 c.4.2 c.4.3.2 c.4.3.3.0 c.4.3.3.1),
    (
      λ v ts w rest g c.
          call c.0 c.4.3.0 v c.4.0 w c.4.3.4.0 ts c.1 c.4.1 c.4.3.1 c.4.3.4.1 rest (the_open_parenthesis_is c.0 c.3) c.2 c.4.2
          (the_close_parenthesis_is c.4.3.0 c.4.3.3) c.4.3.2 c.4.3.4.2 c.4.3.4.3.0 c.4.3.4.3.1,
      (
        λ v ts w rest g c.
            behind_any v w ts rest (subscript c.0 v c.4.0 w c.4.3.0 ts c.1 c.4.1 c.4.3.1 rest (the_open_bracket_is c.0 c.3) c.2 c.4.2 c.4.3.2 c.4.3.3.0 c.4.3.3.1),
        tt,
      ),
    ),
  ),
)

pub kept_attribute_tail : Kept AttributeTail
kept_attribute_tail = (
  λ v ts w rest g c a u is. (a, sym c.0 ∙ is, λ front h. subst (IsExpr 14 a front) c.1 h),
  (
    λ v ts w rest g c. attribute c.0 v c.4.0 w c.4.3.0 ts c.1 c.4.1 c.4.3.1 rest (the_dot_is c.0 c.3) c.2 c.4.2 c.4.3.2 c.4.3.3.0 c.4.3.3.1,
    (
      λ v ts w rest g c.
          plain_call c.0 c.4.3.0 v c.4.0 w c.4.3.4.0 ts c.1 c.4.1 c.4.3.1 c.4.3.4.1 rest (the_open_parenthesis_is c.0 c.3) c.2 c.4.2
          (the_close_parenthesis_is c.4.3.0 c.4.3.3) c.4.3.2 c.4.3.4.2 c.4.3.4.3.0 c.4.3.4.3.1,
      (
        λ v ts w rest g c. subscript c.0 v c.4.0 w c.4.3.0 ts c.1 c.4.1 c.4.3.1 rest (the_open_bracket_is c.0 c.3) c.2 c.4.2 c.4.3.2 c.4.3.3.0 c.4.3.3.1,
        tt,
      ),
    ),
  ),
)

pub kept_subscription : Kept Subscription
kept_subscription = (
  λ v ts w rest g c p k a u is.
      let i = c.2 in
      let stack : c.0 ≡ PExpr i.0 ∷ PToken (At p k) ∷ PExpr a ∷ u = cc in
      let e = c.3.2 i.0 p k a u stack in
      (e.0, sym c.3.3.0 ∙ e.1, e.2, λ front h. subst (IsExpr 14 e.0 front) c.3.3.1 (e.3 front ts h i.2)),
  (
    λ v ts w rest g c p k a u is.
        let q = the_colon_is c.0 c.3 in
        let stack : PToken c.0 ∷ v ≡ PToken (sign q.0 (codes ":")) ∷ PToken (At p k) ∷ PExpr a ∷ u = cc in
        let m = c.4.2 p a no_expr u (ap (act MakeSlice) stack) in (
          ESlice p a no_expr m.0,
          sym c.4.3.0 ∙ m.2,
          refl,
          λ front h. (q.0, m.1, ts, c.1, h, first_is c.2 q.1 refl, subst (λ (x : List Token). IsMaybe m.0 c.1 (sign m.1 (codes "]") ∷ x)) c.4.3.1 m.3),
        ),
    tt,
  ),
)

pub kept_subscription_tail : Kept SubscriptionTail
kept_subscription_tail = (
  λ v ts w rest g c i p k a u is.
      let q = the_close_bracket_is c.0 c.3 in
      let stack : PToken c.0 ∷ v ≡ PToken (sign q.0 (codes "]")) ∷ PExpr i ∷ PToken (At p k) ∷ PExpr a ∷ u = cc in (
        ESubscript p a i,
        sym c.4.0 ∙ ap (act MakeSubscript) stack,
        refl,
        λ front mid h e. (q.0, mid, h, subst (IsExpr 1 i mid) (first_is c.2 q.1 c.4.1) e),
      ),
  (
    λ v ts w rest g c i p k a u is.
        let q = the_colon_is c.0 c.3 in
        let stack : PToken c.0 ∷ v ≡ PToken (sign q.0 (codes ":")) ∷ PExpr i ∷ PToken (At p k) ∷ PExpr a ∷ u = cc in
        let m = c.4.2 p a (an_expr i) u (ap (act MakeSliceFrom) stack) in (
          ESlice p a (an_expr i) m.0,
          sym c.4.3.0 ∙ m.2,
          refl,
          λ front mid h e. (
            q.0,
            m.1,
            mid,
            c.1,
            h,
            subst (IsExpr 1 i mid) (first_is c.2 q.1 refl) e,
            subst (λ (x : List Token). IsMaybe m.0 c.1 (sign m.1 (codes "]") ∷ x)) c.4.3.1 m.3,
          ),
        ),
    tt,
  ),
)

pub kept_upper : Kept Upper
kept_upper = (
  λ v ts w rest g c p a l u is. let q = the_close_bracket_is c.0 c.3 in (no_expr, q.0, sym c.4.0 ∙ is, first_is c.2 q.1 c.4.1),
  (
    λ v ts w rest g c p a l u is.
        let e = c.2 in
        let q = the_close_bracket_is c.3.0 c.3.3 in
        let stack : PToken c.3.0 ∷ c.0 ≡ PToken (sign q.0 (codes "]")) ∷ PExpr e.0 ∷ PExpr (ESlice p a l no_expr) ∷ u = cc in
        (an_expr e.0, q.0, sym c.3.4.0 ∙ ap (act AddUpper) stack, subst (IsExpr 1 e.0 ts) (first_is c.3.2 q.1 c.3.4.1) e.2),
    tt,
  ),
)

pub kept_arguments : Kept Arguments
kept_arguments = (
  λ v ts w rest g c p f es u is. (no_exprs, no_keywords, sym c.0 ∙ is ∙ ap (argued p f no_keywords u) (sym (exprs_alone es)), c.1),
  (
    λ v ts w rest g c p f es u is.
        let a = c.2 in
        let stack : c.0 ≡ PExpr a.0 ∷ PExpr (ECall p f es no_keywords) ∷ u = cc in
        let m = c.3.2 a.0 p f es u stack in (
          m.0,
          m.1,
          sym c.3.3.0 ∙ m.2,
          subst (AreArguments m.0 (m.1 ≡ no_keywords) (AreKeywords false m.1) ts) c.3.3.1 (m.3 ts a.2),
        ),
    tt,
  ),
)

-- what is asked of a name before `=`
name_of_last : (v : Parts) (a : Expr) (u : Parts) → v ≡ PExpr a ∷ u → is_name_last v ≡ true → (p : Place) × (x : Name) × (a ≡ EName p x)
name_of_last v a u is g = named a (sym (ap is_name_last is) ∙ g)
  where
    named : (a : Expr) → is_name_last (PExpr a ∷ u) ≡ true → (p : Place) × (x : Name) × (a ≡ EName p x)
    named (EName p x) h = (p, x, refl)
    named _ h = absurd (cc)

pub kept_argument_tail : Kept ArgumentTail
kept_argument_tail = (
  λ v ts w rest g c a p f es u is. (
    more_exprs a no_exprs,
    no_keywords,
    sym c.0 ∙ ap (act AddArgument) is ∙ ap (argued p f no_keywords u) (sym (exprs_alone (with_expr es a)) ∙ exprs_grow es a no_exprs),
    λ front h. (ts, h, inl ((refl, refl), c.1)),
  ),
  (
    λ v ts w rest g c a p f es u is.
        let q = the_comma_is c.0 c.3 in
        let m = c.4.2 p f (with_expr es a) u (ap (act AddArgument) is) in (
          more_exprs a m.0,
          m.1,
          sym c.4.3.0 ∙ m.2 ∙ ap (argued p f m.1 u) (exprs_grow es a m.0),
          λ front h. (
            ts,
            h,
            inr (q.0, c.1, first_is c.2 q.1 refl, subst (AreArguments m.0 (m.1 ≡ no_keywords) (AreKeywords false m.1) c.1) c.4.3.1 m.3),
          ),
        ),
    (
      λ v ts w rest g c a p f es u is.
          let x = name_of_last v a (PExpr (ECall p f es no_keywords) ∷ u) is g in
          let q = the_equal_is c.0 c.3 in
          let e = c.4.2 in
          let stack : c.4.0 ≡ PExpr e.0 ∷ PToken (sign q.0 (codes "=")) ∷ PExpr (EName x.0 x.1) ∷ PExpr (ECall p f es no_keywords) ∷ u = cc in
          let name : NameAt = record { place = x.0; name = x.1 } in
          let m = c.4.3.2 (p, f, es) (more_keywords name e.0 no_keywords) u (ap (act AddKeyword) stack) in (
            no_exprs,
            more_keywords name e.0 m.0,
            sym c.4.3.3.0 ∙ m.1 ∙ ap (λ (l : Exprs). PExpr (ECall p f l (more_keywords name e.0 m.0)) ∷ u) (sym (exprs_alone es)),
            λ front h.
                let named : IsName name front ts = subst (λ (b : Expr). IsExpr 1 b front ts) x.2 h in (
                  refl,
                  q.0,
                  c.1,
                  c.4.1,
                  subst (IsName name front) (first_is c.2 q.1 refl) named,
                  e.2,
                  subst (IsEndOrComma (m.0 ≡ no_keywords) (AreKeywords false m.0) c.4.1) c.4.3.3.1 m.2,
                ),
          ),
      tt,
    ),
  ),
)

pub kept_keyword_next : Kept KeywordNext
kept_keyword_next = (
  λ v ts w rest g c k ks u is. (no_keywords, sym c.0 ∙ is ∙ ap (λ (l : Keywords). call_part k l ∷ u) (sym (keywords_alone ks)), inl (refl, c.1)),
  (
    λ v ts w rest g c k ks u is.
        let q = the_comma_is c.0 c.3 in
        let m = c.4.2 k ks u is in
        (m.0, sym c.4.3.0 ∙ m.1, inr (q.0, c.1, first_is c.2 q.1 refl, subst (AreKeywords false m.0 c.1) c.4.3.1 m.2)),
    tt,
  ),
)

pub kept_keyword_more : Kept KeywordMore
kept_keyword_more = (
  λ v ts w rest g c k ks u is. (no_keywords, sym c.0 ∙ is ∙ ap (λ (l : Keywords). call_part k l ∷ u) (sym (keywords_alone ks)), c.1),
  (
    λ v ts w rest g c k ks u is.
        let x = c.2 in
        let q = the_equal_is c.3.0 c.3.3 in
        let e = c.3.4.2 in
        let leaf : act MakeLeaf c.0 ≡ PExpr (EName x.0.place x.0.name) ∷ v = ap (act MakeLeaf) x.2 in
        let stack : c.3.4.0 ≡ PExpr e.0 ∷ PToken (sign q.0 (codes "=")) ∷ PExpr (EName x.0.place x.0.name) ∷ call_part k ks ∷ u = cc in
        let m = c.3.4.3.2 k (with_keyword ks x.0 e.0) u (ap (act AddKeyword) stack) in (
          more_keywords x.0 e.0 m.0,
          sym c.3.4.3.3.0 ∙ m.1 ∙ ap (λ (l : Keywords). call_part k l ∷ u) (keywords_grow ks x.0 e.0 m.0),
          (
            refl,
            q.0,
            c.3.1,
            c.3.4.1,
            (x.1, x.3 ∙ ap (λ (z : List Token). At x.0.place (TName x.1 x.0.name) ∷ z) (first_is c.3.2 q.1 refl)),
            e.2,
            subst (IsEndOrComma (m.0 ≡ no_keywords) (AreKeywords false m.0) c.3.4.1) c.3.4.3.3.1 m.2,
          ),
        ),
    tt,
  ),
)

pub kept_plain_arguments : Kept PlainArguments
kept_plain_arguments = (
  λ v ts w rest g c p f es u is. (no_exprs, sym c.0 ∙ is ∙ ap (argued p f no_keywords u) (sym (exprs_alone es)), c.1),
  (
    λ v ts w rest g c p f es u is.
        let a = c.2 in
        let stack : c.0 ≡ PExpr a.0 ∷ PExpr (ECall p f es no_keywords) ∷ u = cc in
        let m = c.3.2 a.0 p f es u stack in
        (m.0, sym c.3.3.0 ∙ m.1, subst (AreArguments m.0 (no_keywords ≡ no_keywords) (AreKeywords true no_keywords) ts) c.3.3.1 (m.2 ts a.2)),
    tt,
  ),
)

pub kept_plain_argument_tail : Kept PlainArgumentTail
kept_plain_argument_tail = (
  λ v ts w rest g c a p f es u is. (
    more_exprs a no_exprs,
    sym c.0 ∙ ap (act AddArgument) is ∙ ap (argued p f no_keywords u) (sym (exprs_alone (with_expr es a)) ∙ exprs_grow es a no_exprs),
    λ front h. (ts, h, inl ((refl, refl), c.1)),
  ),
  (
    λ v ts w rest g c a p f es u is.
        let q = the_comma_is c.0 c.3 in
        let m = c.4.2 p f (with_expr es a) u (ap (act AddArgument) is) in (
          more_exprs a m.0,
          sym c.4.3.0 ∙ m.1 ∙ ap (argued p f no_keywords u) (exprs_grow es a m.0),
          λ front h. (
            ts,
            h,
            inr (q.0, c.1, first_is c.2 q.1 refl, subst (AreArguments m.0 (no_keywords ≡ no_keywords) (AreKeywords true no_keywords) c.1) c.4.3.1 m.2),
          ),
        ),
    tt,
  ),
)
