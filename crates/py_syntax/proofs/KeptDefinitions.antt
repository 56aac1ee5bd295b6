-- The rows of definitions and of classes keep what their nonterminals mean.
use Rattle.std.proofs.Common.{false, List, [], ◌∷◌, ◌++◌, codes, inl, inr, refl, sym, ap, ◌∙◌, subst, subst₂, Some, None}
use Rattle.grammars.specs.Grammar.{Tok, Non, Do}
use Rattle.grammars.specs.Derivation.{Chain}
use Rattle.py_syntax.specs.Token.{Token}
use Rattle.py_syntax.specs.Tree.{EText, no_expr, an_expr, Parameter, SExpr, SPass, SDef, SClass, Body, no_stmts, more_stmts}
use Rattle.py_syntax.specs.Build.{PStmt, PBody, Parts, with_stmt, Drop, AddStmt, EndDef, EndClass, act}
use Rattle.py_syntax.specs.Grammar.{sign, IsExpr, IsClassName, IsBase, IsDefault, AreParameters, IsSuite, IsStatements, IsDefinition, IsBrief, AreMembers, IsClassSuite}
use Rattle.py_syntax.specs.Table.{Suite, Definition, ParameterList, ParameterNext, ParameterItem, ParameterDefault, ClassDefinition, ClassBase, BaseList, ClassSuite, Member, Members, Brief, table}
use Rattle.py_syntax.proofs.KeptStatements.{none_added}
use Rattle.py_syntax.proofs.Together.{stmts_grow}
use Rattle.py_syntax.proofs.ChainSteps.{read, take, Reading, know, push, name, before, list_grows, list_stays, the_text_is}
use Rattle.py_syntax.proofs.TokenOf.{newline_is, indent_is, dedent_is, the_class_is, the_def_is, the_pass_is, the_open_parenthesis_is, the_close_parenthesis_is, the_comma_is, the_colon_is, the_equal_is}
use Rattle.py_syntax.proofs.Means.{parameters_part, AreFurther, Means, Kept}

pub kept_parameter_default : Kept ParameterDefault
kept_parameter_default = (
  λ v ts w rest g c q ascii n p f xs b u is. know (Reading ParameterDefault 0 ts w rest) is c (λ c. (no_expr, sym c.0, c.1)),
  (
    λ v ts w rest g c q ascii n p f xs b u is.
        know (Reading ParameterDefault 1 ts w rest) is c (λ c.
        read the_equal_is c (λ r after at c.
        push c (λ e last e_is c.
        (an_expr e, sym c.0, (r, after, at, subst (IsExpr 1 e after) c.1 e_is))))),
    tt,
  ),
)

pub kept_parameter_item : Kept ParameterItem
kept_parameter_item = (
  λ v ts w rest g c p f xs b u is.
      know (Reading ParameterItem 0 ts w rest) is c (λ c.
      name c (λ x ascii mid at c.
      take c (λ z last given c.
      let m = given x.place ascii x.name p f xs b u refl in
      (record { name = x; default = m.0 }, sym c.0 ∙ m.1, (mid, (ascii, at), subst (IsDefault m.0 mid) c.1 m.2))))),
  tt,
)

pub kept_parameter_list : Kept ParameterList
kept_parameter_list = (
  λ v ts w rest g c. list_stays parameters_part AreParameters v ts w rest c.0 c.1,
  (
    λ v ts w rest g c k xs u is.
        take c (λ z mid item c.
        let m = item k.0 k.1 xs k.2 u is in
        take c (λ y last further c.
        let n = further k (xs ++ m.0 ∷ []) u m.1 in (
          m.0 ∷ n.0,
          sym c.0 ∙ n.1 ∙ ap (λ (l : List Parameter). parameters_part k l ∷ u) (list_grows xs m.0 n.0),
          subst (AreParameters (m.0 ∷ n.0) ts) c.1 (mid, m.2, n.2),
        ))),
    tt,
  ),
)

pub kept_parameter_next : Kept ParameterNext
kept_parameter_next = (
  λ v ts w rest g c. list_stays parameters_part (AreFurther AreParameters) v ts w rest c.0 (inl (refl, c.1)),
  (
    λ v ts w rest g c k xs u is.
        read the_comma_is c (λ q after at c.
        take c (λ z last others c.
        let m = others k xs u is in
        (m.0, sym c.0 ∙ m.1, inr (q, after, at, subst (AreParameters m.0 after) c.1 m.2)))),
    tt,
  ),
)

pub kept_definition : Kept Definition
kept_definition = (
  λ v ts w rest g c.
      read the_def_is c (λ p a at c.
      name c (λ x ascii named at_name c.
      read the_open_parenthesis_is c (λ q b at_open c.
      take c (λ z mid parameters c.
      let m = parameters (p, x, no_stmts) [] v refl in
      know (λ (z : Parts). Chain table Means (Tok 82 ∷ Tok 88 ∷ Non Suite ∷ Do EndDef ∷ []) z mid w rest) m.1 c (λ c.
      read the_close_parenthesis_is c (λ r behind at_close c.
      read the_colon_is c (λ colon d at_colon c.
      push c (λ body last body_is c. (
        SDef p x m.0 body,
        sym c.0,
        (
          q,
          r,
          colon,
          a,
          b,
          d,
          at,
          (ascii, before at_name at_open),
          subst (AreParameters m.0 b) (before at_close at_colon) m.2,
          subst (IsSuite body (IsStatements false body) d) c.1 body_is,
        ),
      ))))))))),
  tt,
)

-- Classes.

pub kept_class_base : Kept ClassBase
kept_class_base = (
  λ v ts w rest g c p x b u is. (None, sym c.0 ∙ is, inl c.1),
  (
    λ v ts w rest g c p x b u is.
        know (Reading ClassBase 1 ts w rest) is c (λ c.
        read the_open_parenthesis_is c (λ q after at c.
        take c (λ z last bases c.
        let m = bases q _ p x b u refl in
        (m.0, sym c.0 ∙ m.1, subst₂ (IsBase m.0) (sym at) c.1 m.2)))),
    tt,
  ),
)

pub kept_base_list : Kept BaseList
kept_base_list = (
  λ v ts w rest g c q k p x b u is.
      know (Reading BaseList 0 ts w rest) is c (λ c.
      read the_close_parenthesis_is c (λ r after at c.
      (None, sym c.0, inr (q, r, ap (λ (l : List Token). sign q (codes "(") ∷ l) (before at c.1))))),
  (
    λ v ts w rest g c q k p x b u is.
        know (Reading BaseList 1 ts w rest) is c (λ c.
        push c (λ class last class_is c.
        read the_close_parenthesis_is c (λ r after at c.
        (Some class, sym c.0, (q, r, ts, refl, subst (IsClassName class ts) (before at c.1) class_is))))),
    tt,
  ),
)

pub kept_brief : Kept Brief
kept_brief = (
  λ v ts w rest g c b u is.
      know (Reading Brief 0 ts w rest) is c (λ c.
      read the_pass_is c (λ p after at c.
      read newline_is c (λ q last at_newline c.
      (SPass p, sym c.0, (q, before at (before at_newline c.1)))))),
  (
    λ v ts w rest g c b u is.
        know (Reading Brief 1 ts w rest) is c (λ c.
        read the_text_is c (λ t after at c.
        read newline_is c (λ q last at_newline c.
        (SExpr t.0 (EText t.0 t.1), sym c.0, (refl, q, before at (before at_newline c.1)))))),
    tt,
  ),
)

pub kept_member : Kept Member
kept_member = (
  λ v ts w rest g c b u is. let m = c.2 b u is in (m.0, sym c.3.0 ∙ m.1, inl (subst (IsBrief m.0 ts) c.3.1 m.2)),
  (
    λ v ts w rest g c b u is.
        push c (λ s after s_is c.
        (s, sym c.0 ∙ ap (λ (v : Parts). act AddStmt (PStmt s ∷ v)) is, inr (subst (IsDefinition s ts) c.1 s_is))),
    tt,
  ),
)

pub kept_members : Kept Members
kept_members = (
  λ v ts w rest g c k these u is.
      take c (λ z mid first c.
      let m = first these u is in
      take c (λ y last others c.
      let n = others k (with_stmt these m.0) u m.1 in (
        more_stmts m.0 n.0,
        sym c.0 ∙ n.1 ∙ ap (λ (b : Body). PBody b ∷ u) (stmts_grow these m.0 n.0),
        subst (AreMembers (more_stmts m.0 n.0) ts) c.1 (mid, m.2, n.2),
      ))),
  (λ v ts w rest g c. none_added AreMembers v ts w rest c.0 c.1, tt),
)

pub kept_class_suite : Kept ClassSuite
kept_class_suite = (
  λ v ts w rest g c.
      let m = c.2 no_stmts v refl in
      (more_stmts m.0 no_stmts, sym c.3.0 ∙ m.1, inl (refl, subst (IsBrief m.0 ts) c.3.1 m.2)),
  (
    λ v ts w rest g c.
        read newline_is c (λ p after at c.
        read indent_is c (λ q inside at_indent c.
        take c (λ z mid first c.
        let m = first no_stmts v refl in
        take c (λ y last others c.
        let n = others tt (more_stmts m.0 no_stmts) v m.1 in
        know (λ (y : Parts). Chain table Means (Tok 10 ∷ Do Drop ∷ []) y last w rest) n.1 c (λ c.
        read dedent_is c (λ r behind at_dedent c. (
          more_stmts m.0 n.0,
          sym c.0,
          inr (p, q, r, inside, before at at_indent, (mid, m.2, subst (AreMembers n.0 mid) (before at_dedent c.1) n.2)),
        ))))))),
    tt,
  ),
)

pub kept_class_definition : Kept ClassDefinition
kept_class_definition = (
  λ v ts w rest g c.
      read the_class_is c (λ p a at c.
      name c (λ x ascii named at_name c.
      take c (λ z mid base c.
      let m = base p x no_stmts v refl in
      know (λ (z : Parts). Chain table Means (Tok 88 ∷ Non ClassSuite ∷ Do EndClass ∷ []) z mid w rest) m.1 c (λ c.
      read the_colon_is c (λ q d at_colon c.
      push c (λ body last body_is c. (
        SClass p x m.0 body,
        sym c.0,
        (q, a, named, d, at, (ascii, at_name), subst (IsBase m.0 named) at_colon m.2, subst (IsClassSuite body d) c.1 body_is),
      ))))))),
  tt,
)
