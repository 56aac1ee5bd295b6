-- The rows of compound statements, of handlers and of names of classes keep what their nonterminals mean.
use Rattle.std.proofs.Common.{◌≡◌, false, List, ◌∷◌, codes, inl, inr, refl, sym, ap, ◌∙◌, subst, subst₂, Some, None}
use Rattle.py_tokens.specs.Token.{Place}
use Rattle.py_syntax.specs.Token.{Token}
use Rattle.py_syntax.specs.Tree.{BareClass, ClassWithin, Everything, Exceptions, SIf, SWhile, SFor, STry, Body, no_stmts, more_stmts, Handlers, no_handlers, more_handlers}
use Rattle.py_syntax.specs.Build.{PStmt, with_handler}
use Rattle.py_syntax.specs.Grammar.{word, sign, IsName, IsLoopTarget, IsExpr, IsClassName, IsSuite, IsOtherwise, AreHandlers, IsStatements}
use Rattle.py_syntax.specs.Table.{Compound, Otherwise, Handler, HandlerAlias, MoreHandlers, QualifiedName, QualifiedNameTail}
use Rattle.py_syntax.proofs.Together.{handlers_grow, handlers_alone}
use Rattle.py_syntax.proofs.ChainSteps.{read, take, Reading, know, push, name, before}
use Rattle.py_syntax.proofs.TokenOf.{the_as_is, the_elif_is, the_else_is, the_except_is, the_for_is, the_if_is, the_in_is, the_try_is, the_while_is, the_colon_is, the_dot_is}
use Rattle.py_syntax.proofs.Means.{handlers_part, Kept}

pub kept_qualified_name : Kept QualifiedName
kept_qualified_name = (
  λ v ts w rest g c.
      name c (λ x ascii mid at c.
      take c (λ z last tail c.
      let m = tail x v refl in
      (m.0, sym c.0 ∙ m.1, subst (IsClassName m.0 ts) c.1 (m.2 ts (ascii, at))))),
  tt,
)

pub kept_qualified_name_tail : Kept QualifiedNameTail
kept_qualified_name_tail = (
  λ v ts w rest g c x u is. (BareClass x, sym c.0 ∙ is, λ front h. subst (IsName x front) c.1 h),
  (
    λ v ts w rest g c x u is.
        know (Reading QualifiedNameTail 1 ts w rest) is c (λ c.
        read the_dot_is c (λ q after at c.
        name c (λ y ascii last at_name c.
        (ClassWithin x y, sym c.0, λ front h. (q, after, subst (IsName x front) at h, (ascii, before at_name c.1)))))),
    tt,
  ),
)

-- a suite behind `else`
else_kept : (b : Body) (q colon : Place) (ts mid rest : List Token) → ts ≡ word q (codes "else") ∷ sign colon (codes ":") ∷ mid
    → IsSuite b (IsStatements false b) mid rest → IsOtherwise b (IsStatements false b) ts rest
else_kept no_stmts q colon ts mid rest at h = absurd h
else_kept (more_stmts s body) q colon ts mid rest at h = inr (q, (colon, mid, at, h))

pub kept_otherwise : Kept Otherwise
kept_otherwise = (
  λ v ts w rest g c. (no_stmts, sym c.0, c.1),
  (
    λ v ts w rest g c.
        read the_else_is c (λ q after at c.
        read the_colon_is c (λ colon mid at_colon c.
        push c (λ b last b_is c.
        (b, sym c.0, subst (IsOtherwise b (IsStatements false b) ts) c.1 (else_kept b q colon ts mid last (before at at_colon) b_is))))),
    (
      λ v ts w rest g c.
          read the_elif_is c (λ p a at c.
          push c (λ e mid e_is c.
          read the_colon_is c (λ q b at_colon c.
          push c (λ body d body_is c.
          push c (λ other last other_is c. (
            more_stmts (SIf p e body other) no_stmts,
            sym c.0,
            inl (
              refl,
              (
                q,
                a,
                b,
                d,
                at,
                subst (IsExpr 1 e a) at_colon e_is,
                body_is,
                subst (IsOtherwise other (IsStatements false other) d) c.1 other_is,
              ),
            ),
          )))))),
      tt,
    ),
  ),
)

pub kept_compound : Kept Compound
kept_compound = (
  λ v ts w rest g c.
      read the_if_is c (λ p a at c.
      push c (λ e mid e_is c.
      read the_colon_is c (λ q b at_colon c.
      push c (λ body d body_is c.
      push c (λ other last other_is c. (
        SIf p e body other,
        sym c.0,
        (
          q,
          a,
          b,
          d,
          at,
          subst (IsExpr 1 e a) at_colon e_is,
          body_is,
          subst (IsOtherwise other (IsStatements false other) d) c.1 other_is,
        ),
      )))))),
  (
    λ v ts w rest g c.
        read the_while_is c (λ p a at c.
        push c (λ e mid e_is c.
        read the_colon_is c (λ q b at_colon c.
        push c (λ body last body_is c. (
          SWhile p e body,
          sym c.0,
          (q, a, b, at, subst (IsExpr 1 e a) at_colon e_is, subst (IsSuite body (IsStatements false body) b) c.1 body_is),
        ))))),
    (
      λ v ts w rest g c.
          read the_for_is c (λ p a at c.
          push c (λ t mid t_is c.
          read the_in_is c (λ q b at_in c.
          push c (λ e between e_is c.
          read the_colon_is c (λ r d at_colon c.
          push c (λ body last body_is c. (
            SFor p t e body,
            sym c.0,
            (
              q,
              r,
              a,
              b,
              d,
              at,
              subst (IsLoopTarget t a) at_in t_is,
              subst (IsExpr 0 e b) at_colon e_is,
              subst (IsSuite body (IsStatements false body) d) c.1 body_is,
            ),
          ))))))),
      (
        λ v ts w rest g c.
            read the_try_is c (λ p a at c.
            read the_colon_is c (λ q b at_colon c.
            push c (λ body mid body_is c.
            read the_except_is c (λ r d at_except c.
            take c (λ z last handler c.
            let m = handler r _ p body no_handlers v refl in (
              STry p body (more_handlers r m.0 m.1 m.2),
              sym c.0 ∙ m.3,
              (
                word r (codes "except") ∷ d,
                (q, b, before at at_colon, subst (IsSuite body (IsStatements false body) b) at_except body_is),
                subst (AreHandlers (more_handlers r m.0 m.1 m.2) (word r (codes "except") ∷ d)) c.1 m.4,
              ),
            )))))),
        tt,
      ),
    ),
  ),
)

pub kept_handler : Kept Handler
kept_handler = (
  λ v ts w rest g c q k p body hs u is.
      know (Reading Handler 0 ts w rest) is c (λ c.
      read the_colon_is c (λ colon after at c.
      push c (λ b last b_is c. (
        Everything,
        b,
        no_handlers,
        sym c.0 ∙ ap (λ (l : Handlers). PStmt (STry p body l) ∷ u) (sym (handlers_alone (with_handler hs q Everything b)) ∙ handlers_grow hs q Everything b no_handlers),
        (colon, ts, after, last, refl, at, b_is, λ e. refl, c.1),
      )))),
  (
    λ v ts w rest g c q k p body hs u is.
        know (Reading Handler 1 ts w rest) is c (λ c.
        push c (λ class mid class_is c.
        take c (λ z last alias c.
        let m = alias class q k p body hs u refl in (
          Exceptions class m.0,
          m.1,
          m.2,
          sym c.0 ∙ m.3,
          subst (AreHandlers (more_handlers q (Exceptions class m.0) m.1 m.2) (word q (codes "except") ∷ ts)) c.1 (m.4 ts class_is),
        )))),
    tt,
  ),
)

pub kept_handler_alias : Kept HandlerAlias
kept_handler_alias = (
  λ v ts w rest g c class q k p body hs u is.
      know (Reading HandlerAlias 0 ts w rest) is c (λ c.
      read the_colon_is c (λ colon after at c.
      push c (λ b mid b_is c.
      take c (λ z last more c.
      let m = more (p, body) (with_handler hs q (Exceptions class None) b) u refl in (
        None,
        b,
        m.0,
        sym c.0 ∙ m.1 ∙ ap (λ (l : Handlers). PStmt (STry p body l) ∷ u) (handlers_grow hs q (Exceptions class None) b m.0),
        λ front h. (colon, front, after, mid, refl, (ts, h, at), b_is, λ e. (cc), subst (AreHandlers m.0 mid) c.1 m.2),
      ))))),
  (
    λ v ts w rest g c class q k p body hs u is.
        know (Reading HandlerAlias 1 ts w rest) is c (λ c.
        read the_as_is c (λ r behind at c.
        name c (λ x ascii between at_name c.
        read the_colon_is c (λ colon after at_colon c.
        push c (λ b mid b_is c.
        take c (λ z last more c.
        let m = more (p, body) (with_handler hs q (Exceptions class (Some x)) b) u refl in (
          Some x,
          b,
          m.0,
          sym c.0 ∙ m.1 ∙ ap (λ (l : Handlers). PStmt (STry p body l) ∷ u) (handlers_grow hs q (Exceptions class (Some x)) b m.0),
          λ front h. (
            colon,
            front,
            after,
            mid,
            refl,
            (ts, h, (r, behind, at, (ascii, before at_name at_colon))),
            b_is,
            λ e. (cc),
            subst (AreHandlers m.0 mid) c.1 m.2,
          ),
        ))))))),
    tt,
  ),
)

pub kept_more_handlers : Kept MoreHandlers
kept_more_handlers = (
  λ v ts w rest g c k hs u is. (no_handlers, sym c.0 ∙ is ∙ ap (λ (l : Handlers). handlers_part k l ∷ u) (sym (handlers_alone hs)), c.1),
  (
    λ v ts w rest g c k hs u is.
        know (Reading MoreHandlers 1 ts w rest) is c (λ c.
        read the_except_is c (λ q after at c.
        take c (λ z last handler c.
        let m = handler q _ k.0 k.1 hs u refl in (
          more_handlers q m.0 m.1 m.2,
          sym c.0 ∙ m.3,
          subst₂ (AreHandlers (more_handlers q m.0 m.1 m.2)) (sym at) c.1 m.4,
        )))),
    tt,
  ),
)
