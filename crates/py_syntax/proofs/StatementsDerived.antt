-- The table derives what tokens spell as lines, suites and compound statements.
use Rattle.std.proofs.Common.{◌≡◌, ℕ, Bool, true, false, List, [], ◌∷◌, codes, Some, None, ◌⊎◌, inl, inr, refl, sym, ap, ◌∙◌}
use Rattle.grammars.specs.Grammar.{Tok, Non, Do}
use Rattle.grammars.specs.Derivation.{Yields}
use Rattle.py_tokens.specs.Token.{Place}
use Rattle.py_syntax.specs.Token.{TNewline, TIndent, TDedent, Token, At}
use Rattle.py_syntax.specs.Kinds.{kind_of}
use Rattle.py_syntax.specs.Tree.{Expr, LoopTarget, ClassName, BareClass, ClassWithin, Caught, Everything, Exceptions, Stmt, SIf, SWhile, SFor, STry, Body, no_stmts, more_stmts, Handlers, no_handlers, more_handlers}
use Rattle.py_syntax.specs.Build.{Parts, PToken, PExpr, PClass, PStmt, PBody, with_stmt, with_handler, AddStmt}
use Rattle.py_syntax.specs.Grammar.{sign, word, IsClassName, IsLineEnd, IsLine, IsSmallAmong, IsSuite, IsClause, IsBranch, IsCompound, IsOtherwise, IsElif, IsCaught, IsAlias, AreHandlers, IsStatements}
use Rattle.py_syntax.specs.Table.{Nonterminal, Expression, Line, LineTail, LineMore, Small, Statement, Statements, Compound, Otherwise, Suite, Handler, MoreHandlers, QualifiedName, Symbol, the_colon, the_except, table}
use Rattle.py_syntax.proofs.TakenSteps.{take, read, perform, with_tokens, with_parts, read_name}
use Rattle.py_syntax.proofs.LevelsDerived.{Leads}
use Rattle.py_syntax.proofs.PartsDerived.{binding_derived}
use Rattle.py_syntax.proofs.ExpressionsDerived.{spelt}
use Rattle.py_syntax.proofs.SmallDerived.{small_derived}
use Rattle.py_syntax.proofs.BodiesJoined.{joined_bodies, joined_bodies_more, joined_bodies_nothing, joined_handlers, joined_handlers_more, joined_handlers_nothing}

line_end_derived : (v : Parts) (ts rest : List Token) → IsLineEnd ts rest → Leads (Non LineTail ∷ []) v ts [] v rest
line_end_derived v ts rest h s w y = elim h [
  | inl end ↦ take 0 refl (read end.1 (perform y))
  | inr end ↦ take 1 refl (read end.2 (perform (take 0 refl (read {t = At end.1 TNewline} refl (perform y)))))
]

-- small statements on one line
smalls_derived : (body : Body) (done : Body) (v : Parts) (ts rest : List Token) → IsLine body ts rest
    → Leads (Non Small ∷ Do AddStmt ∷ Non LineTail ∷ []) (PBody done ∷ v) ts [] (PBody (joined_bodies done body) ∷ v) rest
smalls_derived no_stmts done v ts rest h s w y = absurd h
smalls_derived (more_stmts t body) done v ts rest h s w y =
    let added : (b : Body) → body ≡ b → Yields table s (PBody (joined_bodies (with_stmt done t) b) ∷ v) rest w
    = λ b k. with_parts (ap (λ (x : Body). PBody x ∷ v) (joined_bodies_more done t b ∙ ap (λ (x : Body). joined_bodies done (more_stmts t x)) (sym k))) y
    in
    small_derived t _ ts h.0 h.1 _ w (perform (
    elim h.2 [
      | inl end ↦ line_end_derived _ h.0 rest end.1 s w
          (with_parts (ap (λ (x : Body). PBody x ∷ v) (sym (joined_bodies_nothing (with_stmt done t)))) (added no_stmts end.0))
      | inr more ↦ take 1 refl (read more.2 (perform (take 1 refl (smalls_derived body (with_stmt done t) v more.1 rest more.3 s w (added body refl)))))
    ]))

-- where statements go on: on the line, or on lines of their own
abbrev pub standing : Bool → List Symbol → Nonterminal → List Symbol
standing true front x = Non LineMore ∷ Non x ∷ []
standing false front x = front

-- A statement among others, each of which `x` is for. `Others` says how they are spelt.
small_among : (x : Nonterminal) (t : Stmt) (Others : Bool → List Token → List Token → Type 0) (done : Body) (v u : Parts) (ts rest : List Token)
    → ((goes_on : Bool) (ts : List Token) → Others goes_on ts rest
    → Leads (standing goes_on (Non x ∷ []) x) (PBody (with_stmt done t) ∷ v) ts [] u rest)
    → IsSmallAmong t Others ts rest
    → Leads (Non Small ∷ Do AddStmt ∷ Non LineTail ∷ Non x ∷ []) (PBody done ∷ v) ts [] u rest
small_among x t Others done v u ts rest others h s w y = small_derived t _ ts h.0 h.2 _ w (perform (
    elim h.3 [
      | inl end ↦ line_end_derived _ h.0 h.1 end.0 _ w (others false h.1 end.1 s w y)
      | inr more ↦ take 1 refl (read more.1 (perform (others true h.1 more.2 s w y)))
    ]))

-- `front` is for one and the others, on lines of their own; `Own` says how this one is spelt where it stands on such lines.
pub among_derived : (front : List Symbol) (x : Nonterminal)
    → ((v : Parts) (ts : List Token) → Leads front v ts (Non Line ∷ Non x ∷ []) v ts)
    → (t : Stmt) (Own : List Token → List Token → Type 0) (Others : Bool → List Token → List Token → Type 0)
    → (done : Body) (v u : Parts) (rest : List Token)
    → ((ts mid : List Token) → Own ts mid → Leads front (PBody done ∷ v) ts (Non x ∷ []) (PBody (with_stmt done t) ∷ v) mid)
    → ((goes_on : Bool) (ts : List Token) → Others goes_on ts rest
    → Leads (standing goes_on (Non x ∷ []) x) (PBody (with_stmt done t) ∷ v) ts [] u rest)
    → (goes_on : Bool) (ts : List Token)
    → ((goes_on ≡ false) × (mid : List Token) × Own ts mid × Others false mid rest) ⊎ IsSmallAmong t Others ts rest
    → Leads (standing goes_on front x) (PBody done ∷ v) ts [] u rest
among_derived front x line t Own Others done v u rest own others true ts h s w y = elim h [
  | inl alone ↦ let not_here : true ≡ false = alone.0 in absurd (cc)
  | inr small ↦ take 1 refl (small_among x t Others done v u ts rest others small s w y)
]
among_derived front x line t Own Others done v u rest own others false ts h s w y = elim h [
  | inl alone ↦ own ts alone.1 alone.2 s w (others false alone.1 alone.3 s w y)
  | inr small ↦ line _ ts s w (take 0 refl (small_among x t Others done v u ts rest others small s w y))
]

-- What is wanted of each statement of a block: where it is compound, and where it is an `elif`.
abbrev pub StmtDerived : Stmt → Type 0
StmtDerived t =
    ((v : Parts) (ts rest : List Token) → IsCompound t ts rest → Leads (Non Compound ∷ []) v ts [] (PStmt t ∷ v) rest)
    × ((v : Parts) (ts rest : List Token) → IsElif t ts rest → Leads (Non Otherwise ∷ []) v ts [] (PBody (more_stmts t no_stmts) ∷ v) rest)

abbrev pub EachStmt : Body → Type 0
EachStmt no_stmts = Unit {0}
EachStmt (more_stmts t body) = StmtDerived t × EachStmt body

abbrev pub EachHandler : Handlers → Type 0
EachHandler no_handlers = Unit {0}
EachHandler (more_handlers p c body hs) = EachStmt body × EachHandler hs

statements_derived : (body : Body) → EachStmt body → (done : Body) (v : Parts) (rest : List Token) (goes_on : Bool) (ts : List Token)
    → IsStatements goes_on body ts rest
    → Leads (standing goes_on (Non Statements ∷ []) Statements) (PBody done ∷ v) ts [] (PBody (joined_bodies done body) ∷ v) rest
statements_derived no_stmts each done v rest true ts h s w y = let not_here : true ≡ false = h.0 in absurd (cc)
statements_derived no_stmts each done v rest false ts h s w y =
    take 1 refl (with_tokens h.1 (with_parts (ap (λ (x : Body). PBody x ∷ v) (sym (joined_bodies_nothing done))) y))
statements_derived (more_stmts t body) each done v rest goes_on ts h s w y =
    among_derived (Non Statements ∷ []) Statements (λ v ts s w y. take 0 refl (take 0 refl y)) t (IsCompound t) (λ on. IsStatements on body)
    done v (PBody (joined_bodies (with_stmt done t) body) ∷ v) rest
    (λ ts mid own s w y. take 0 refl (take 1 refl (each.0.0 _ ts mid own _ w (perform y))))
    (statements_derived body each.1 (with_stmt done t) v rest) goes_on ts h s w
    (with_parts (ap (λ (x : Body). PBody x ∷ v) (joined_bodies_more done t body)) y)

-- the statements of a block: there is one at least
block_derived : (t : Stmt) (body : Body) → EachStmt (more_stmts t body) → (v : Parts) (ts rest : List Token) → IsStatements false (more_stmts t body) ts rest
    → Leads (Non Statement ∷ Non Statements ∷ []) (PBody no_stmts ∷ v) ts [] (PBody (more_stmts t body) ∷ v) rest
block_derived t body each v ts rest h s w y =
    among_derived (Non Statement ∷ Non Statements ∷ []) Statements (λ v ts s w y. take 0 refl y) t (IsCompound t) (λ on. IsStatements on body)
    no_stmts v (PBody (more_stmts t body) ∷ v) rest
    (λ ts mid own s w y. take 1 refl (each.0.0 _ ts mid own _ w (perform y)))
    (statements_derived body each.1 (more_stmts t no_stmts) v rest) false ts h s w y

pub suite_derived : (body : Body) → EachStmt body → (v : Parts) (ts rest : List Token) → IsSuite body (IsStatements false body) ts rest
    → Leads (Non Suite ∷ []) v ts [] (PBody body ∷ v) rest
suite_derived no_stmts each v ts rest h s w y = absurd h
suite_derived (more_stmts t body) each v ts rest h s w y = elim h [
  | inl line ↦ take 0 refl (perform (take 0 refl (smalls_derived (more_stmts t body) no_stmts v ts rest line s w y)))
  | inr block ↦ take 1 refl (read block.4 (perform (read {t = At block.1 TIndent} refl (perform (perform (
      block_derived t body each v block.3 _ block.5 _ w (read {t = At block.2 TDedent} refl (perform y))))))))
]

otherwise_derived : (other : Body) → EachStmt other → (v : Parts) (ts rest : List Token) → IsOtherwise other (IsStatements false other) ts rest
    → Leads (Non Otherwise ∷ []) v ts [] (PBody other ∷ v) rest
otherwise_derived no_stmts each v ts rest h s w y = take 0 refl (perform (with_tokens h y))
otherwise_derived (more_stmts t body) each v ts rest h s w y = elim h [
  | inl elif ↦ each.0.1 v ts rest elif.1 s w (with_parts (ap (λ (x : Body). PBody (more_stmts t x) ∷ v) (sym elif.0)) y)
  | inr clause ↦
      let parts : IsClause clause.0 (codes "else") (more_stmts t body) (IsStatements false (more_stmts t body)) ts rest = clause.1 in
      take 1 refl (read parts.2 (read {t = sign parts.0 (codes ":")} refl (suite_derived (more_stmts t body) each _ parts.1 rest parts.3 _ w (perform y))))
]

-- `if` or `elif`
branch_derived : (p : Place) (spelling : List ℕ) (e : Expr) (body other : Body) → EachStmt body → EachStmt other → (v : Parts) (ts rest : List Token)
    → (h : IsBranch p spelling e body (IsStatements false body) (IsOtherwise other (IsStatements false other)) ts rest)
    → Leads (Tok (kind_of (word p spelling)) ∷ Non Expression ∷ the_colon ∷ Non Suite ∷ Non Otherwise ∷ []) v ts
    [] (PBody other ∷ PBody body ∷ PToken (sign h.0 (codes ":")) ∷ PExpr e ∷ PToken (word p spelling) ∷ v) rest
branch_derived p spelling e body other each each_other v ts rest h s w y =
    read {t = word p spelling} h.4 (spelt {e = e} 1 h.5 (read {t = sign h.0 (codes ":")} refl (suite_derived body each _ h.2 h.3 h.6 _ w (
    otherwise_derived other each_other _ h.3 rest h.7 s w y))))

if_derived : (p : Place) (e : Expr) (body other : Body) → EachStmt body → EachStmt other → StmtDerived (SIf p e body other)
if_derived p e body other each each_other = (
  λ v ts rest h s w y. take 0 refl (branch_derived p (codes "if") e body other each each_other v ts rest h _ w (perform y)),
  λ v ts rest h s w y. take 2 refl (branch_derived p (codes "elif") e body other each each_other v ts rest h _ w (perform y)),
)

while_derived : (p : Place) (e : Expr) (body : Body) → EachStmt body → StmtDerived (SWhile p e body)
while_derived p e body each = (
  λ v ts rest h s w y. take 1 refl (read h.3 (spelt {e = e} 1 h.4 (read {t = sign h.0 (codes ":")} refl (suite_derived body each _ h.2 rest h.5 _ w (perform y))))),
  λ v ts rest h. absurd h,
)

for_derived : (p : Place) (t : LoopTarget) (e : Expr) (body : Body) → EachStmt body → StmtDerived (SFor p t e body)
for_derived p t e body each = (
  λ v ts rest h s w y. take 2 refl (read h.5 (binding_derived t _ h.2 _ h.6 _ w (read {t = word h.0 (codes "in")} refl (spelt {e = e} 0 h.7 (
      read {t = sign h.1 (codes ":")} refl (suite_derived body each _ h.4 rest h.8 _ w (perform y))))))),
  λ v ts rest h. absurd h,
)

pub class_name_derived : (c : ClassName) (v : Parts) (ts rest : List Token) → IsClassName c ts rest → Leads (Non QualifiedName ∷ []) v ts [] (PClass c ∷ v) rest
class_name_derived (BareClass x) v ts rest h s w y = take 0 refl (read_name h (perform (take 0 refl y)))
class_name_derived (ClassWithin m x) v ts rest h s w y =
    take 0 refl (read_name h.2 (perform (take 1 refl (read {t = sign h.0 (codes ".")} refl (read_name h.3 (perform y))))))

-- one handler, and the others, whose derivation is given
handler_derived : (q : Place) (c : Caught) (b : Body) (hs : Handlers) → EachStmt b
    → (p : Place) (body : Body) (done : Handlers) (v : Parts) (rest : List Token)
    → ((ts : List Token) → AreHandlers hs ts rest
    → Leads (Non MoreHandlers ∷ []) (PStmt (STry p body (with_handler done q c b)) ∷ v) ts
    [] (PStmt (STry p body (joined_handlers (with_handler done q c b) hs)) ∷ v) rest)
    → (ts : List Token) → AreHandlers (more_handlers q c b hs) ts rest
    → Leads (the_except ∷ Non Handler ∷ []) (PStmt (STry p body done) ∷ v) ts
    [] (PStmt (STry p body (joined_handlers done (more_handlers q c b hs))) ∷ v) rest
handler_derived q Everything b no_handlers each p body done v rest others ts h s w y =
    read h.4 (take 0 refl (read h.5 (suite_derived b each _ h.2 h.3 h.6 _ w (perform (with_tokens h.8
    (with_parts (ap (λ (x : Handlers). PStmt (STry p body x) ∷ v)
    (sym (joined_handlers_nothing (with_handler done q Everything b)) ∙ joined_handlers_more done q Everything b no_handlers)) y))))))
handler_derived q Everything b (more_handlers r d e hs) each p body done v rest others ts h s w y =
    let none : more_handlers r d e hs ≡ no_handlers = h.7 refl in absurd (cc)
handler_derived q (Exceptions c None) b hs each p body done v rest others ts h s w y =
    let caught : IsCaught (Exceptions c None) h.1 (sign h.0 (codes ":") ∷ h.2) = h.5 in
    read h.4 (take 1 refl (class_name_derived c _ h.1 caught.0 caught.1 _ w (take 0 refl (read caught.2 (suite_derived b each _ h.2 h.3 h.6 _ w (perform (
    others h.3 h.8 s w (with_parts (ap (λ (x : Handlers). PStmt (STry p body x) ∷ v) (joined_handlers_more done q (Exceptions c None) b hs)) y))))))))
handler_derived q (Exceptions c (Some x)) b hs each p body done v rest others ts h s w y =
    let caught : IsCaught (Exceptions c (Some x)) h.1 (sign h.0 (codes ":") ∷ h.2) = h.5 in
    let alias : IsAlias (Some x) caught.0 (sign h.0 (codes ":") ∷ h.2) = caught.2 in
    read h.4 (take 1 refl (class_name_derived c _ h.1 caught.0 caught.1 _ w (take 1 refl (read alias.2 (read_name alias.3 (read {t = sign h.0 (codes ":")} refl (
    suite_derived b each _ h.2 h.3 h.6 _ w (perform (
    others h.3 h.8 s w (with_parts (ap (λ (x : Handlers). PStmt (STry p body x) ∷ v) (joined_handlers_more done q (Exceptions c (Some x)) b hs)) y))))))))))

handlers_derived : (hs : Handlers) → EachHandler hs → (p : Place) (body : Body) (done : Handlers) (v : Parts) (rest ts : List Token)
    → AreHandlers hs ts rest
    → Leads (Non MoreHandlers ∷ []) (PStmt (STry p body done) ∷ v) ts [] (PStmt (STry p body (joined_handlers done hs)) ∷ v) rest
handlers_derived no_handlers each p body done v rest ts h s w y =
    take 0 refl (with_tokens h (with_parts (ap (λ (x : Handlers). PStmt (STry p body x) ∷ v) (sym (joined_handlers_nothing done))) y))
handlers_derived (more_handlers q c b hs) each p body done v rest ts h s w y =
    take 1 refl (handler_derived q c b hs each.0 p body done v rest (handlers_derived hs each.1 p body (with_handler done q c b) v rest) ts h s w y)

try_derived : (p : Place) (body : Body) (hs : Handlers) → EachStmt body → EachHandler hs → StmtDerived (STry p body hs)
try_derived p body no_handlers each each_handler = (λ v ts rest h. absurd h, λ v ts rest h. absurd h)
try_derived p body (more_handlers q c b hs) each each_handler = (
  λ v ts rest h s w y.
      let parts : IsClause p (codes "try") body (IsStatements false body) ts h.0 = h.1 in
      take 3 refl (read parts.2 (read {t = sign parts.0 (codes ":")} refl (suite_derived body each _ parts.1 h.0 parts.3 _ w (perform (
      handler_derived q c b hs each_handler.0 p body no_handlers v rest
      (handlers_derived hs each_handler.1 p body (more_handlers q c b no_handlers) v rest) h.0 h.2 s w y))))),
  λ v ts rest h. absurd h,
)

mutual
  pub stmt_derived : (t : Stmt) → StmtDerived t
  stmt_derived (SIf p e body other) = if_derived p e body other (each_stmt body) (each_stmt other)
  stmt_derived (SWhile p e body) = while_derived p e body (each_stmt body)
  stmt_derived (SFor p t e body) = for_derived p t e body (each_stmt body)
  stmt_derived (STry p body hs) = try_derived p body hs (each_stmt body) (each_handler hs)
  stmt_derived t = (λ v ts rest h. absurd h, λ v ts rest h. absurd h)

  pub each_stmt : (body : Body) → EachStmt body
  each_stmt no_stmts = tt
  each_stmt (more_stmts t body) = (stmt_derived t, each_stmt body)

  each_handler : (hs : Handlers) → EachHandler hs
  each_handler no_handlers = tt
  each_handler (more_handlers p c b hs) = (each_stmt b, each_handler hs)
