-- The rows of lines, of suites and of statements one behind another keep what their nonterminals mean.
use Rattle.std.proofs.Common.{◌≡◌, Bool, true, false, List, [], ◌∷◌, codes, inl, inr, refl, sym, ap, ◌∙◌, subst}
use Rattle.grammars.specs.Grammar.{Tok, Non, Do}
use Rattle.grammars.specs.Derivation.{Chain}
use Rattle.py_tokens.specs.Token.{Place}
use Rattle.py_syntax.specs.Token.{TNewline, TIndent, TDedent, Token, At}
use Rattle.py_syntax.specs.Tree.{Stmt, Body, no_stmts, more_stmts}
use Rattle.py_syntax.specs.Build.{PStmt, PBody, Parts, with_stmt, Drop, AddStmt, act}
use Rattle.py_syntax.specs.Grammar.{sign, IsSmall, IsLine, IsSmallAmong, IsSuite, IsCompound, IsStatements, IsDefinition, IsClass, IsImport, IsTopLevel, AreTopLevel}
use Rattle.py_syntax.specs.Table.{Module, TopStatement, Statements, Statement, Suite, Line, LineTail, LineMore, table}
use Rattle.py_syntax.proofs.Together.{stmts_together, stmts_grow, stmts_alone}
use Rattle.py_syntax.proofs.ChainSteps.{read, take, Reading, know, push, before}
use Rattle.py_syntax.proofs.TokenOf.{newline_is, indent_is, dedent_is, the_semicolon_is}
use Rattle.py_syntax.proofs.Means.{Pushes, Adds, IsAmong, IsLineTail, IsLineMore, Means, Kept}

stmts_together_twice : (these more others : Body) → stmts_together (stmts_together these more) others ≡ stmts_together these (stmts_together more others)
stmts_together_twice no_stmts more others = refl
stmts_together_twice (more_stmts s these) more others = ap (more_stmts s) (stmts_together_twice these more others)

pub one_added : (these : Body) (s : Stmt) → with_stmt these s ≡ stmts_together these (more_stmts s no_stmts)
one_added these s = sym (stmts_alone (with_stmt these s)) ∙ stmts_grow these s no_stmts

-- no statement is added
pub none_added : (Spelt : Body → List Token → List Token → Type 0) (v : Parts) (ts : List Token) (w : Parts) (rest : List Token)
    → v ≡ w → Spelt no_stmts ts rest → Adds Spelt v ts w rest
none_added Spelt v ts w rest p h k these u is = (no_stmts, sym p ∙ is ∙ ap (λ (b : Body). PBody b ∷ u) (sym (stmts_alone these)), h)

-- Lines.

small_added : (v : Parts) (ts : List Token) (w : Parts) (rest : List Token) → Reading Line 0 ts w rest v → Adds IsLine v ts w rest
small_added v ts w rest c k these u is =
    know (Reading Line 0 ts w rest) is c (λ c.
    push c (λ s mid s_is c.
    take c (λ z last tail c.
    let m = tail tt (with_stmt these s) u refl in (
      more_stmts s m.0,
      sym c.0 ∙ m.1 ∙ ap (λ (b : Body). PBody b ∷ u) (stmts_grow these s m.0),
      subst (IsLine (more_stmts s m.0) ts) c.1 (mid, s_is, m.2),
    ))))

pub kept_line : Kept Line
kept_line = (λ v ts w rest g c. small_added v ts w rest c, tt)

pub kept_line_tail : Kept LineTail
kept_line_tail = (
  λ v ts w rest g c. read newline_is c (λ q after at c. none_added IsLineTail v ts w rest c.0 (inl (refl, inl (q, before at c.1)))),
  (
    λ v ts w rest g c k these u is.
        read the_semicolon_is c (λ p after at c.
        take c (λ z last line c.
        let m = line k these u is in
        (m.0, sym c.0 ∙ m.1, behind m.0 p ts after rest at (subst (IsLineMore m.0 after) c.1 m.2)))),
    tt,
  ),
)
  where
    behind : (b : Body) (p : Place) (ts after rest : List Token) → ts ≡ sign p (codes ";") ∷ after → IsLineMore b after rest → IsLineTail b ts rest
    behind b p ts after rest at (inl end) = inl (end.0, inr (p, end.1.0, before at end.1.1))
    behind b p ts after rest at (inr line) = inr (p, after, at, line)

pub kept_line_more : Kept LineMore
kept_line_more = (
  λ v ts w rest g c. read newline_is c (λ q after at c. none_added IsLineMore v ts w rest c.0 (inl (refl, (q, before at c.1)))),
  (
    λ v ts w rest g c k these u is.
        let m = small_added v ts w rest c k these u is in
        (m.0, m.1, inr m.2),
    tt,
  ),
)

-- Statements among others, in a block or in a module.

-- a small statement may stand before others
abbrev HasSmall : (Bool → Body → List Token → List Token → Type 0) → Type 0
HasSmall Are = (on : Bool) (s : Stmt) (body : Body) (ts rest : List Token) → IsSmallAmong s (λ on. Are on body) ts rest → Are on (more_stmts s body) ts rest

-- a line, and statements behind it
line_joins : (Are : Bool → Body → List Token → List Token → Type 0) → HasSmall Are → (on : Bool) (line others : Body) (ts mid last : List Token)
    → IsLine line ts mid → Are false others mid last → Are on (stmts_together line others) ts last
line_joins Are small on no_stmts others ts mid last h k = absurd h
line_joins Are small on (more_stmts s body) others ts mid last h k =
    small on s (stmts_together body others) ts last (behind body h.0 h.1 h.2 (λ after. line_joins Are small true body others after mid last))
  where
    behind : (body : Body) (between : List Token) → IsSmall s ts between → IsLineTail body between mid
        → ((after : List Token) → IsLine body after mid → Are false others mid last → Are true (stmts_together body others) after last)
        → IsSmallAmong s (λ on. Are on (stmts_together body others)) ts last
    behind body between h (inl end) joined =
        (between, mid, h, inl (end.1, subst (λ (b : Body). Are false b mid last) (sym (ap (λ (b : Body). stmts_together b others) end.0)) k))
    behind body between h (inr more) joined = (between, more.1, h, inr (more.0, more.2, joined more.1 more.3 k))

line_among : (Are : Bool → Body → List Token → List Token → Type 0) → HasSmall Are → (line : Body) (ts rest : List Token)
    → IsLine line ts rest → IsAmong Are line ts rest
line_among Are small no_stmts ts rest h = absurd h
line_among Are small (more_stmts s body) ts rest h = λ others last k. line_joins Are small false (more_stmts s body) others ts rest last h k

line_added : (Are : Bool → Body → List Token → List Token → Type 0) → HasSmall Are → (v : Parts) (ts : List Token) (w : Parts) (rest : List Token)
    → Chain table Means (Non Line ∷ []) v ts w rest → Adds (IsAmong Are) v ts w rest
line_added Are small v ts w rest c k these u is =
    let m = c.2 k these u is in
    (m.0, sym c.3.0 ∙ m.1, line_among Are small m.0 ts rest (subst (IsLine m.0 ts) c.3.1 m.2))

-- a statement on lines of its own
alone_added : (Are : Bool → Body → List Token → List Token → Type 0) (Spelt : Stmt → List Token → List Token → Type 0)
    → ((s : Stmt) (others : Body) (ts mid last : List Token) → Spelt s ts mid → Are false others mid last → Are false (more_stmts s others) ts last)
    → (v : Parts) (ts : List Token) (w : Parts) (rest : List Token)
    → (z : Parts) × (after : List Token) × Pushes PStmt Spelt v ts z after × ((act AddStmt z ≡ w) × (after ≡ rest)) → Adds (IsAmong Are) v ts w rest
alone_added Are Spelt joins v ts w rest c k these u is =
    push c (λ s after s_is c. (
      more_stmts s no_stmts,
      sym c.0 ∙ ap (λ (v : Parts). act AddStmt (PStmt s ∷ v)) is ∙ ap (λ (b : Body). PBody b ∷ u) (one_added these s),
      λ others last h. joins s others ts rest last (subst (Spelt s ts) c.1 s_is) h,
    ))

among_joins : (Are : Bool → Body → List Token → List Token → Type 0) (these others : Body) (ts mid last : List Token)
    → IsAmong Are these ts mid → Are false others mid last → Are false (stmts_together these others) ts last
among_joins Are no_stmts others ts mid last h k = absurd h
among_joins Are (more_stmts s these) others ts mid last h k = h others last k

-- a statement or more, and others
others_added : (Are : Bool → Body → List Token → List Token → Type 0) (v : Parts) (ts : List Token) (w : Parts) (rest : List Token)
    → (z : Parts) × (after : List Token) × Adds (IsAmong Are) v ts z after
    × ((y : Parts) × (last : List Token) × Adds (Are false) z after y last × ((y ≡ w) × (last ≡ rest))) → Adds (Are false) v ts w rest
others_added Are v ts w rest c k these u is =
    let m = c.2 k these u is in
    let n = c.3.2 k (stmts_together these m.0) u m.1 in (
      stmts_together m.0 n.0,
      sym c.3.3.0 ∙ n.1 ∙ ap (λ (b : Body). PBody b ∷ u) (stmts_together_twice these m.0 n.0),
      subst (Are false (stmts_together m.0 n.0) ts) c.3.3.1 (among_joins Are m.0 n.0 ts c.1 c.3.1 m.2 n.2),
    )

pub kept_statement : Kept Statement
kept_statement = (
  λ v ts w rest g c. line_added IsStatements (λ on s body ts rest h. inr h) v ts w rest c,
  (
    λ v ts w rest g c. alone_added IsStatements IsCompound (λ s others ts mid last h k. inl (refl, mid, h, k)) v ts w rest c,
    tt,
  ),
)

pub kept_statements : Kept Statements
kept_statements = (
  λ v ts w rest g c. others_added IsStatements v ts w rest c,
  (λ v ts w rest g c. none_added (IsStatements false) v ts w rest c.0 (refl, c.1), tt),
)

-- a statement on lines of its own in a module
top_level_added : (Spelt : Stmt → List Token → List Token → Type 0) → ((s : Stmt) (ts rest : List Token) → Spelt s ts rest → IsTopLevel s ts rest)
    → (v : Parts) (ts : List Token) (w : Parts) (rest : List Token)
    → (z : Parts) × (after : List Token) × Pushes PStmt Spelt v ts z after × ((act AddStmt z ≡ w) × (after ≡ rest)) → Adds (IsAmong AreTopLevel) v ts w rest
top_level_added Spelt allowed = alone_added AreTopLevel Spelt (λ s others ts mid last h k. inl (refl, mid, allowed s ts mid h, k))

pub kept_top_statement : Kept TopStatement
kept_top_statement = (
  λ v ts w rest g c. line_added AreTopLevel (λ on s body ts rest h. inr h) v ts w rest c,
  (
    λ v ts w rest g c. top_level_added IsCompound (λ s ts rest h. inl h) v ts w rest c,
    (
      λ v ts w rest g c. top_level_added IsDefinition (λ s ts rest h. inr (inl h)) v ts w rest c,
      (
        λ v ts w rest g c. top_level_added IsClass (λ s ts rest h. inr (inr (inl h))) v ts w rest c,
        (λ v ts w rest g c. top_level_added IsImport (λ s ts rest h. inr (inr (inr h))) v ts w rest c, tt),
      ),
    ),
  ),
)

pub kept_module : Kept Module
kept_module = (
  λ v ts w rest g c. others_added AreTopLevel v ts w rest c,
  (λ v ts w rest g c. none_added (AreTopLevel false) v ts w rest c.0 (refl, c.1), tt),
)

-- Suites.

line_suite : (b : Body) (Spelt : List Token → List Token → Type 0) (ts rest : List Token) → IsLine b ts rest → IsSuite b Spelt ts rest
line_suite no_stmts Spelt ts rest h = absurd h
line_suite (more_stmts s body) Spelt ts rest h = inl h

block_suite : (these others : Body) (p q r : Place) (ts inside mid rest : List Token) → ts ≡ At p TNewline ∷ At q TIndent ∷ inside
    → IsAmong IsStatements these inside mid → IsStatements false others mid (At r TDedent ∷ rest)
    → IsSuite (stmts_together these others) (IsStatements false (stmts_together these others)) ts rest
block_suite no_stmts others p q r ts inside mid rest at h k = absurd h
block_suite (more_stmts s these) others p q r ts inside mid rest at h k = inr (p, q, r, inside, at, h others (At r TDedent ∷ rest) k)

pub kept_suite : Kept Suite
kept_suite = (
  λ v ts w rest g c.
      let m = c.2 tt no_stmts v refl in
      (m.0, sym c.3.0 ∙ m.1, line_suite m.0 (IsStatements false m.0) ts rest (subst (IsLine m.0 ts) c.3.1 m.2)),
  (
    λ v ts w rest g c.
        read newline_is c (λ p after at c.
        read indent_is c (λ q inside at_indent c.
        take c (λ z mid first c.
        let m = first tt no_stmts v refl in
        take c (λ y last others c.
        let n = others tt m.0 v m.1 in
        know (λ (y : Parts). Chain table Means (Tok 10 ∷ Do Drop ∷ []) y last w rest) n.1 c (λ c.
        read dedent_is c (λ r behind at_dedent c. (
          stmts_together m.0 n.0,
          sym c.0,
          block_suite m.0 n.0 p q r ts inside mid rest (before at at_indent) m.2 (subst (IsStatements false n.0 mid) (before at_dedent c.1) n.2),
        ))))))),
    tt,
  ),
)
