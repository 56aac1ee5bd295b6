-- What each nonterminal means in terms of Grammar.antt: what it reads, and what it does to the parts.
use Rattle.std.specs.Prelude.{◌≡◌, ℕ, Bool, true, false, List, [], ◌∷◌, ◌++◌, codes, ◌⊎◌, Option, None}
use Rattle.grammars.specs.Derivation.{Meaning, AreKept}
use Rattle.py_tokens.specs.Token.{Place}
use Rattle.py_syntax.specs.Token.{Name, Kind, TName, TNewline, Token, At}
use Rattle.py_syntax.specs.Tree.{NameAt, ComparisonOperator, LoopTarget, LoopName, LoopNames, Expr, ETuple, EListComprehension, EDict, ECall, ESubscript, ESlice, ECompare, EAnd, EOr, Exprs, no_exprs, MaybeExpr, no_expr, Pairs, no_pairs, Links, Keywords, no_keywords, Loops, no_loops, more_loops, Targets, Imported, ClassName, BareClass, Caught, Exceptions, Parameter, Stmt, SAssign, SReturn, SGlobal, SAssert, STry, SDef, SClass, SImport, SFromImport, Body, no_stmts, more_stmts, Handlers, more_handlers}
use Rattle.py_syntax.specs.Build.{Part, Parts, PToken, PExpr, PSign, PLoop, PLoopTarget, PTargets, PClass, PStmt, PBody, with_stmt, with_loop, with_imported}
use Rattle.py_syntax.specs.Grammar.{word, sign, IsComparison, IsName, IsEndOrComma, AreNames, IsLoopTarget, is_attribute, IsExpr, AreItems, IsMaybe, ArePairs, AreLinks, AreChained, AreArguments, AreKeywords, AreLoops, AreAssigned, AreGlobals, IsAlias, IsModuleName, AreImported, IsClassName, IsBase, IsDefault, IsParameter, AreParameters, IsSmall, IsLineEnd, IsLine, IsSuite, IsCompound, IsOtherwise, AreHandlers, IsStatements, IsDefinition, IsBrief, AreMembers, IsClassSuite, IsClass, IsImport, AreTopLevel}
use Rattle.py_syntax.specs.Table.{Nonterminal, Module, TopStatement, Statements, Statement, Compound, Otherwise, Suite, Handler, HandlerAlias, MoreHandlers, QualifiedName, QualifiedNameTail, Definition, ParameterList, ParameterNext, ParameterItem, ParameterDefault, ClassDefinition, ClassBase, BaseList, ClassSuite, Member, Members, Brief, ImportStatement, ImportItem, ImportAlias, ImportNext, FromItem, FromNext, Line, LineTail, LineMore, Small, SmallTail, AssignTail, Returned, GlobalNext, AssertMessage, DeletedTail, DeletedAttribute, DeletedEnd, DeletedSubscript, DeletedSubscriptTail, Binding, BindingTail, BindingMore, BindingNext, ExpressionList, ExpressionListTail, ItemMore, ItemNext, Expression, ExpressionTail, OrTest, OrTail, OrMore, AndTest, AndTail, AndMore, NotTest, Comparison, ComparisonTail, ComparisonMore, ComparisonSign, IsTail, OrExpr, OrExprTail, XorExpr, XorExprTail, AndExpr, AndExprTail, ShiftExpr, ShiftTail, Sum, SumTail, Product, ProductTail, Factor, PowerExpr, PowerTail, Primary, PrimaryTail, AttributeTail, Subscription, SubscriptionTail, Upper, Arguments, ArgumentTail, KeywordNext, KeywordMore, PlainArguments, PlainArgumentTail, Atom, Parenthesised, ParenthesisedTail, Bracketed, BracketedTail, Braced, BracedTail, PairNext, PairMore, Comprehension, Conditions, Comprehensions, AnyName, rows, table}
use Rattle.py_syntax.proofs.Together.{exprs_together, pairs_together, links_together, keywords_together, loops_together, stmts_together, handlers_together}

-- a meaning of one nonterminal: from ts on it is read and leads from v to w, and rest comes behind it
abbrev pub Reads : Type 1
Reads = Parts → List Token → Parts → List Token → Type 0

-- one part more, which is spelt so
abbrev pub Pushes : {X : Type 0} → (X → Part) → (X → List Token → List Token → Type 0) → Reads
Pushes {X} part Spelt v ts w rest = (x : X) × (w ≡ part x ∷ v) × Spelt x ts rest

-- an expression is last, and it is lengthened: where it is spelt so before, what comes of it is spelt so now
abbrev pub Lengthens : ℕ → ℕ → Reads
Lengthens m l v ts w rest =
    (a : Expr) (u : Parts) → v ≡ PExpr a ∷ u
    → (e : Expr) × (w ≡ PExpr e ∷ u) × ((front : List Token) → IsExpr m a front ts → IsExpr l e front rest)

-- the last part holds a list, and it grows by members that are spelt so
abbrev pub Grows : {K L : Type 0} → (K → L → Part) → (L → L → L) → (L → List Token → List Token → Type 0) → Reads
Grows {K} {L} part together Spelt v ts w rest =
    (k : K) (l : L) (u : Parts) → v ≡ part k l ∷ u → (m : L) × (w ≡ part k (together l m) ∷ u) × Spelt m ts rest

-- an expression of the tightest level that is no attribute
abbrev pub IsPlain : Expr → List Token → List Token → Type 0
IsPlain e ts rest = IsExpr 14 e ts rest × (is_attribute e ≡ false)

abbrev pub IsAtom : Reads
IsAtom = Pushes PExpr IsPlain

-- behind an expression
abbrev pub IsBehindPlain : Reads
IsBehindPlain v ts w rest =
    (a : Expr) (u : Parts) → v ≡ PExpr a ∷ u → is_attribute a ≡ false
    → (e : Expr) × (w ≡ PExpr e ∷ u) × ((front : List Token) → IsExpr 14 a front ts → IsExpr 14 e front rest)

-- behind an opening bracket that begins an atom
abbrev pub IsInside : List ℕ → Reads
IsInside bracket v ts w rest =
    (p : Place) (k : Kind) (u : Parts) → v ≡ PToken (At p k) ∷ u
    → (e : Expr) × (w ≡ PExpr e ∷ u) × IsPlain e (sign p bracket ∷ ts) rest

-- and behind the first expression in it
abbrev pub IsInsideBehind : List ℕ → Reads
IsInsideBehind bracket v ts w rest =
    (a : Expr) (p : Place) (k : Kind) (u : Parts) → v ≡ PExpr a ∷ PToken (At p k) ∷ u
    → (e : Expr) × (w ≡ PExpr e ∷ u) × ((mid : List Token) → IsExpr 1 a mid ts → IsPlain e (sign p bracket ∷ mid) rest)

-- behind the `[` that stands behind an expression
abbrev pub IsSubscription : Reads
IsSubscription v ts w rest =
    (p : Place) (k : Kind) (a : Expr) (u : Parts) → v ≡ PToken (At p k) ∷ PExpr a ∷ u
    → (e : Expr) × (w ≡ PExpr e ∷ u) × (is_attribute e ≡ false)
    × ((front : List Token) → IsExpr 14 a front (sign p (codes "[") ∷ ts) → IsExpr 14 e front rest)

abbrev pub IsSubscriptionTail : Reads
IsSubscriptionTail v ts w rest =
    (i : Expr) (p : Place) (k : Kind) (a : Expr) (u : Parts) → v ≡ PExpr i ∷ PToken (At p k) ∷ PExpr a ∷ u
    → (e : Expr) × (w ≡ PExpr e ∷ u) × (is_attribute e ≡ false)
    × ((front mid : List Token) → IsExpr 14 a front (sign p (codes "[") ∷ mid) → IsExpr 1 i mid ts → IsExpr 14 e front rest)

-- the end of a slice
abbrev pub IsUpper : Reads
IsUpper v ts w rest =
    (p : Place) (a : Expr) (l : MaybeExpr) (u : Parts) → v ≡ PExpr (ESlice p a l no_expr) ∷ u
    → (m : MaybeExpr) × (q : Place) × (w ≡ PExpr (ESlice p a l m) ∷ u) × IsMaybe m ts (sign q (codes "]") ∷ rest)

-- what is deleted: a subscript comes of the last expression
abbrev pub IsDeletedBehind : (Expr → Type 0) → Reads
IsDeletedBehind Fits v ts w rest =
    (a : Expr) (u : Parts) → v ≡ PExpr a ∷ u → Fits a
    → (p : Place) × (e : Expr) × (i : Expr) × (w ≡ PExpr (ESubscript p e i) ∷ u)
    × ((front : List Token) → IsExpr 14 a front ts → IsExpr 14 (ESubscript p e i) front rest)

abbrev pub IsSubscript : Expr → Type 0
IsSubscript a = (p : Place) × (e : Expr) × (i : Expr) × (a ≡ ESubscript p e i)

abbrev pub IsDeletedSubscript : Reads
IsDeletedSubscript v ts w rest =
    (q : Place) (k : Kind) (a : Expr) (u : Parts) → v ≡ PToken (At q k) ∷ PExpr a ∷ u
    → (p : Place) × (e : Expr) × (i : Expr) × (w ≡ PExpr (ESubscript p e i) ∷ u)
    × ((front : List Token) → IsExpr 14 a front (sign q (codes "[") ∷ ts) → IsExpr 14 (ESubscript p e i) front rest)

abbrev pub IsDeletedSubscriptTail : Reads
IsDeletedSubscriptTail v ts w rest =
    (j : Expr) (q : Place) (k : Kind) (a : Expr) (u : Parts) → v ≡ PExpr j ∷ PToken (At q k) ∷ PExpr a ∷ u
    → (p : Place) × (e : Expr) × (i : Expr) × (w ≡ PExpr (ESubscript p e i) ∷ u)
    × ((front mid : List Token) → IsExpr 14 a front (sign q (codes "[") ∷ mid) → IsExpr 1 j mid ts → IsExpr 14 (ESubscript p e i) front rest)

-- the arguments of a call that has no keyword arguments yet
abbrev pub AreCallArguments : Reads
AreCallArguments v ts w rest =
    (p : Place) (f : Expr) (es : Exprs) (u : Parts) → v ≡ PExpr (ECall p f es no_keywords) ∷ u
    → (more : Exprs) × (ks : Keywords) × (w ≡ PExpr (ECall p f (exprs_together es more) ks) ∷ u)
    × AreArguments more (ks ≡ no_keywords) (AreKeywords false ks) ts rest

abbrev pub IsArgumentTail : Reads
IsArgumentTail v ts w rest =
    (a : Expr) (p : Place) (f : Expr) (es : Exprs) (u : Parts) → v ≡ PExpr a ∷ PExpr (ECall p f es no_keywords) ∷ u
    → (more : Exprs) × (ks : Keywords) × (w ≡ PExpr (ECall p f (exprs_together es more) ks) ∷ u)
    × ((front : List Token) → IsExpr 1 a front ts → AreArguments more (ks ≡ no_keywords) (AreKeywords false ks) front rest)

abbrev pub ArePlainArguments : Reads
ArePlainArguments v ts w rest =
    (p : Place) (f : Expr) (es : Exprs) (u : Parts) → v ≡ PExpr (ECall p f es no_keywords) ∷ u
    → (more : Exprs) × (w ≡ PExpr (ECall p f (exprs_together es more) no_keywords) ∷ u)
    × AreArguments more (no_keywords ≡ no_keywords) (AreKeywords true no_keywords) ts rest

abbrev pub IsPlainArgumentTail : Reads
IsPlainArgumentTail v ts w rest =
    (a : Expr) (p : Place) (f : Expr) (es : Exprs) (u : Parts) → v ≡ PExpr a ∷ PExpr (ECall p f es no_keywords) ∷ u
    → (more : Exprs) × (w ≡ PExpr (ECall p f (exprs_together es more) no_keywords) ∷ u)
    × ((front : List Token) → IsExpr 1 a front ts → AreArguments more (no_keywords ≡ no_keywords) (AreKeywords true no_keywords) front rest)

-- lists that grow; what they hang on is a place and what else their part has
abbrev pub tuple_part : Place → Exprs → Part
tuple_part p es = PExpr (ETuple p es)

abbrev pub and_part : Place × Expr × Expr → Exprs → Part
and_part k es = PExpr (EAnd k.0 k.1 k.2 es)

abbrev pub or_part : Place × Expr × Expr → Exprs → Part
or_part k es = PExpr (EOr k.0 k.1 k.2 es)

abbrev pub compare_part : Place × ComparisonOperator × Expr × Expr → Links → Part
compare_part k links = PExpr (ECompare k.0 k.1 k.2 k.3 links)

abbrev pub dict_part : Place → Pairs → Part
dict_part p pairs = PExpr (EDict p pairs)

abbrev pub call_part : Place × Expr × Exprs → Keywords → Part
call_part k ks = PExpr (ECall k.0 k.1 k.2 ks)

abbrev pub loop_part : Place × LoopTarget × Expr → Exprs → Part
loop_part k cs = PLoop k.0 k.1 k.2 cs

abbrev pub comprehension_part : Place × Expr → Loops → Part
comprehension_part k loops = PExpr (EListComprehension k.0 k.1 loops)

abbrev pub loop_names_part : Place → List NameAt → Part
loop_names_part p xs = PLoopTarget (LoopNames p xs)

abbrev pub global_part : Place → List NameAt → Part
global_part p xs = PStmt (SGlobal p xs)

abbrev pub parameters_part : Place × NameAt × Body → List Parameter → Part
parameters_part k xs = PStmt (SDef k.0 k.1 xs k.2)

abbrev pub import_part : Place → List Imported → Part
import_part p xs = PStmt (SImport p xs)

abbrev pub from_part : Place × NameAt → List Imported → Part
from_part k xs = PStmt (SFromImport k.0 k.1 xs)

abbrev pub handlers_part : Place × Body → Handlers → Part
handlers_part k hs = PStmt (STry k.0 k.1 hs)

abbrev pub body_part : Unit {0} → Body → Part
body_part k b = PBody b

-- one loop of a comprehension
abbrev pub IsLoop : Reads
IsLoop v ts w rest =
    (p : Place) (e : Expr) (loops : Loops) (u : Parts) → v ≡ PExpr (EListComprehension p e loops) ∷ u
    → (q : Place) × (t : LoopTarget) × (i : Expr) × (cs : Exprs) × (w ≡ PExpr (EListComprehension p e (with_loop loops q t i cs)) ∷ u)
    × AreLoops (more_loops q t i cs no_loops) ts rest

-- the operator of a comparison
abbrev pub IsSign : Reads
IsSign v ts w rest = (p : Place) × (o : ComparisonOperator) × (w ≡ PSign p o ∷ v) × IsComparison p o ts rest

abbrev pub IsIsTail : Reads
IsIsTail v ts w rest =
    (p : Place) (k : Kind) (u : Parts) → v ≡ PToken (At p k) ∷ u
    → (o : ComparisonOperator) × (w ≡ PSign p o ∷ u) × IsComparison p o (word p (codes "is") ∷ ts) rest

abbrev pub IsAnyName : Reads
IsAnyName v ts w rest =
    (x : NameAt) × (ascii : Bool) × (w ≡ PToken (At x.place (TName ascii x.name)) ∷ v) × (ts ≡ At x.place (TName ascii x.name) ∷ rest)

abbrev pub IsBindingTail : Reads
IsBindingTail v ts w rest =
    (x : NameAt) (u : Parts) → v ≡ PLoopTarget (LoopName x) ∷ u
    → (t : LoopTarget) × (w ≡ PLoopTarget t ∷ u) × ((front : List Token) → IsName x front ts → IsLoopTarget t front rest)

-- Statements.

-- further statements behind those that there are, which are spelt so
abbrev pub Adds : (Body → List Token → List Token → Type 0) → Reads
Adds = Grows body_part stmts_together

-- one statement or more, in front of others
abbrev pub IsAmong : (Bool → Body → List Token → List Token → Type 0) → Body → List Token → List Token → Type 0
IsAmong Are no_stmts ts rest = ⊥
IsAmong Are (more_stmts s more) ts rest =
    (others : Body) (last : List Token) → Are false others rest last → Are false (stmts_together (more_stmts s more) others) ts last

-- behind a small statement on its line
abbrev pub IsLineTail : Body → List Token → List Token → Type 0
IsLineTail b ts rest =
    ((b ≡ no_stmts) × IsLineEnd ts rest) ⊎ ((p : Place) × (after : List Token) × (ts ≡ sign p (codes ";") ∷ after) × IsLine b after rest)

-- behind a `;`
abbrev pub IsLineMore : Body → List Token → List Token → Type 0
IsLineMore b ts rest = ((b ≡ no_stmts) × ((q : Place) × (ts ≡ At q TNewline ∷ rest))) ⊎ IsLine b ts rest

abbrev pub IsSmallTail : Reads
IsSmallTail v ts w rest =
    (a : Expr) (u : Parts) → v ≡ PExpr a ∷ u
    → (s : Stmt) × (w ≡ PStmt s ∷ u) × ((front : List Token) → IsExpr 0 a front ts → IsSmall s front rest)

abbrev pub IsAssignTail : Reads
IsAssignTail v ts w rest =
    (a : Expr) (p : Place) (targets : List Targets) (u : Parts) → v ≡ PExpr a ∷ PTargets p targets ∷ u
    → (more : List Targets) × (e : Expr) × (w ≡ PStmt (SAssign p (targets ++ more) e) ∷ u)
    × ((front : List Token) → IsExpr 0 a front ts → (mid : List Token) × AreAssigned more front mid × IsExpr 0 e mid rest)

abbrev pub IsReturned : Reads
IsReturned v ts w rest =
    (p : Place) (k : Kind) (u : Parts) → v ≡ PToken (At p k) ∷ u
    → (m : MaybeExpr) × (w ≡ PStmt (SReturn p m) ∷ u) × IsSmall (SReturn p m) (word p (codes "return") ∷ ts) rest

abbrev pub IsAssertMessage : Reads
IsAssertMessage v ts w rest =
    (a : Expr) (p : Place) (k : Kind) (u : Parts) → v ≡ PExpr a ∷ PToken (At p k) ∷ u
    → (m : MaybeExpr) × (w ≡ PStmt (SAssert p a m) ∷ u)
    × ((mid : List Token) → IsExpr 1 a mid ts → IsSmall (SAssert p a m) (word p (codes "assert") ∷ mid) rest)

-- further members behind a comma, or none
abbrev pub AreFurther : {X : Type 0} → (List X → List Token → List Token → Type 0) → List X → List Token → List Token → Type 0
AreFurther Are xs ts rest = IsEndOrComma (xs ≡ []) (Are xs) ts rest

-- a handler behind its `except`
abbrev pub IsHandler : Reads
IsHandler v ts w rest =
    (q : Place) (k : Kind) (p : Place) (body : Body) (hs : Handlers) (u : Parts) → v ≡ PToken (At q k) ∷ PStmt (STry p body hs) ∷ u
    → (c : Caught) × (b : Body) × (more : Handlers) × (w ≡ PStmt (STry p body (handlers_together hs (more_handlers q c b more))) ∷ u)
    × AreHandlers (more_handlers q c b more) (word q (codes "except") ∷ ts) rest

abbrev pub IsHandlerAlias : Reads
IsHandlerAlias v ts w rest =
    (c : ClassName) (q : Place) (k : Kind) (p : Place) (body : Body) (hs : Handlers) (u : Parts) → v ≡ PClass c ∷ PToken (At q k) ∷ PStmt (STry p body hs) ∷ u
    → (alias : Option NameAt) × (b : Body) × (more : Handlers)
    × (w ≡ PStmt (STry p body (handlers_together hs (more_handlers q (Exceptions c alias) b more))) ∷ u)
    × ((front : List Token) → IsClassName c front ts → AreHandlers (more_handlers q (Exceptions c alias) b more) (word q (codes "except") ∷ front) rest)

abbrev pub IsQualifiedTail : Reads
IsQualifiedTail v ts w rest =
    (m : NameAt) (u : Parts) → v ≡ PClass (BareClass m) ∷ u
    → (c : ClassName) × (w ≡ PClass c ∷ u) × ((front : List Token) → IsName m front ts → IsClassName c front rest)

abbrev pub IsParameterItem : Reads
IsParameterItem v ts w rest =
    (p : Place) (f : NameAt) (xs : List Parameter) (b : Body) (u : Parts) → v ≡ PStmt (SDef p f xs b) ∷ u
    → (x : Parameter) × (w ≡ PStmt (SDef p f (xs ++ x ∷ []) b) ∷ u) × IsParameter x ts rest

abbrev pub IsParameterDefault : Reads
IsParameterDefault v ts w rest =
    (q : Place) (ascii : Bool) (n : Name) (p : Place) (f : NameAt) (xs : List Parameter) (b : Body) (u : Parts)
    → v ≡ PToken (At q (TName ascii n)) ∷ PStmt (SDef p f xs b) ∷ u
    → (d : MaybeExpr) × (w ≡ PStmt (SDef p f (xs ++ record { name = record { place = q; name = n }; default = d } ∷ []) b) ∷ u) × IsDefault d ts rest

abbrev pub IsClassBase : Reads
IsClassBase v ts w rest =
    (p : Place) (x : NameAt) (b : Body) (u : Parts) → v ≡ PStmt (SClass p x None b) ∷ u
    → (base : Option ClassName) × (w ≡ PStmt (SClass p x base b) ∷ u) × IsBase base ts rest

abbrev pub IsBaseList : Reads
IsBaseList v ts w rest =
    (q : Place) (k : Kind) (p : Place) (x : NameAt) (b : Body) (u : Parts) → v ≡ PToken (At q k) ∷ PStmt (SClass p x None b) ∷ u
    → (base : Option ClassName) × (w ≡ PStmt (SClass p x base b) ∷ u) × IsBase base (sign q (codes "(") ∷ ts) rest

-- one statement of a class's body
abbrev pub AddsMember : (Stmt → List Token → List Token → Type 0) → Reads
AddsMember Spelt v ts w rest =
    (b : Body) (u : Parts) → v ≡ PBody b ∷ u → (s : Stmt) × (w ≡ PBody (with_stmt b s) ∷ u) × Spelt s ts rest

abbrev pub IsMember : Stmt → List Token → List Token → Type 0
IsMember s ts rest = IsBrief s ts rest ⊎ IsDefinition s ts rest

abbrev pub IsImportItem : (NameAt → List Token → List Token → Type 0) → Reads
IsImportItem Spelt v ts w rest =
    (s : Stmt) (u : Parts) → v ≡ PStmt s ∷ u
    → (x : Imported) × (w ≡ PStmt (with_imported s x) ∷ u) × ((mid : List Token) × Spelt x.name ts mid × IsAlias x.alias mid rest)

abbrev pub IsImportAlias : Reads
IsImportAlias v ts w rest =
    (q : Place) (ascii : Bool) (n : Name) (s : Stmt) (u : Parts) → v ≡ PToken (At q (TName ascii n)) ∷ PStmt s ∷ u
    → (alias : Option NameAt) × (w ≡ PStmt (with_imported s (record { name = record { place = q; name = n }; alias = alias })) ∷ u) × IsAlias alias ts rest

abbrev pub Means : Meaning Nonterminal Token Parts
Means Module = Adds (AreTopLevel false)
Means TopStatement = Adds (IsAmong AreTopLevel)
Means Statements = Adds (IsStatements false)
Means Statement = Adds (IsAmong IsStatements)
Means Compound = Pushes PStmt IsCompound
Means Otherwise = Pushes PBody (λ b. IsOtherwise b (IsStatements false b))
Means Suite = Pushes PBody (λ b. IsSuite b (IsStatements false b))
Means Handler = IsHandler
Means HandlerAlias = IsHandlerAlias
Means MoreHandlers = Grows handlers_part handlers_together AreHandlers
Means QualifiedName = Pushes PClass IsClassName
Means QualifiedNameTail = IsQualifiedTail
Means Definition = Pushes PStmt IsDefinition
Means ParameterList = Grows parameters_part (λ xs ys. xs ++ ys) AreParameters
Means ParameterNext = Grows parameters_part (λ xs ys. xs ++ ys) (AreFurther AreParameters)
Means ParameterItem = IsParameterItem
Means ParameterDefault = IsParameterDefault
Means ClassDefinition = Pushes PStmt IsClass
Means ClassBase = IsClassBase
Means BaseList = IsBaseList
Means ClassSuite = Pushes PBody IsClassSuite
Means Member = AddsMember IsMember
Means Members = Adds AreMembers
Means Brief = AddsMember IsBrief
Means ImportStatement = Pushes PStmt IsImport
Means ImportItem = IsImportItem IsModuleName
Means ImportAlias = IsImportAlias
Means ImportNext = Grows import_part (λ xs ys. xs ++ ys) (AreFurther (AreImported IsModuleName))
Means FromItem = IsImportItem IsName
Means FromNext = Grows from_part (λ xs ys. xs ++ ys) (AreFurther (AreImported IsName))
Means Line = Adds IsLine
Means LineTail = Adds IsLineTail
Means LineMore = Adds IsLineMore
Means Small = Pushes PStmt IsSmall
Means SmallTail = IsSmallTail
Means AssignTail = IsAssignTail
Means Returned = IsReturned
Means GlobalNext = Grows global_part (λ xs ys. xs ++ ys) (AreFurther AreGlobals)
Means AssertMessage = IsAssertMessage
Means DeletedTail = IsDeletedBehind (λ a. is_attribute a ≡ false)
Means DeletedAttribute = IsDeletedBehind (λ a. Unit {0})
Means DeletedEnd = IsDeletedBehind IsSubscript
Means DeletedSubscript = IsDeletedSubscript
Means DeletedSubscriptTail = IsDeletedSubscriptTail
Means Binding = Pushes PLoopTarget IsLoopTarget
Means BindingTail = IsBindingTail
Means BindingMore = Grows loop_names_part (λ xs ys. xs ++ ys) AreNames
Means BindingNext = Grows loop_names_part (λ xs ys. xs ++ ys) (AreFurther AreNames)
Means ExpressionList = Pushes PExpr (IsExpr 0)
Means ExpressionListTail = Lengthens 1 0
Means ItemMore = Grows tuple_part exprs_together AreItems
Means ItemNext = Grows tuple_part exprs_together (λ es. IsEndOrComma (es ≡ no_exprs) (AreItems es))
Means Expression = Pushes PExpr (IsExpr 1)
Means ExpressionTail = Lengthens 2 1
Means OrTest = Pushes PExpr (IsExpr 2)
Means OrTail = Lengthens 3 2
Means OrMore = Grows or_part exprs_together (AreChained (codes "or") 3)
Means AndTest = Pushes PExpr (IsExpr 3)
Means AndTail = Lengthens 4 3
Means AndMore = Grows and_part exprs_together (AreChained (codes "and") 4)
Means NotTest = Pushes PExpr (IsExpr 4)
Means Comparison = Pushes PExpr (IsExpr 5)
Means ComparisonTail = Lengthens 6 5
Means ComparisonMore = Grows compare_part links_together AreLinks
Means ComparisonSign = IsSign
Means IsTail = IsIsTail
Means OrExpr = Pushes PExpr (IsExpr 6)
Means OrExprTail = Lengthens 6 6
Means XorExpr = Pushes PExpr (IsExpr 7)
Means XorExprTail = Lengthens 7 7
Means AndExpr = Pushes PExpr (IsExpr 8)
Means AndExprTail = Lengthens 8 8
Means ShiftExpr = Pushes PExpr (IsExpr 9)
Means ShiftTail = Lengthens 9 9
Means Sum = Pushes PExpr (IsExpr 10)
Means SumTail = Lengthens 10 10
Means Product = Pushes PExpr (IsExpr 11)
Means ProductTail = Lengthens 11 11
Means Factor = Pushes PExpr (IsExpr 12)
Means PowerExpr = Pushes PExpr (IsExpr 13)
Means PowerTail = Lengthens 14 13
Means Primary = Pushes PExpr (IsExpr 14)
Means PrimaryTail = IsBehindPlain
Means AttributeTail = Lengthens 14 14
Means Subscription = IsSubscription
Means SubscriptionTail = IsSubscriptionTail
Means Upper = IsUpper
Means Arguments = AreCallArguments
Means ArgumentTail = IsArgumentTail
Means KeywordNext = Grows call_part keywords_together (λ ks. IsEndOrComma (ks ≡ no_keywords) (AreKeywords false ks))
Means KeywordMore = Grows call_part keywords_together (AreKeywords false)
Means PlainArguments = ArePlainArguments
Means PlainArgumentTail = IsPlainArgumentTail
Means Atom = IsAtom
Means Parenthesised = IsInside (codes "(")
Means ParenthesisedTail = IsInsideBehind (codes "(")
Means Bracketed = IsInside (codes "[")
Means BracketedTail = IsInsideBehind (codes "[")
Means Braced = IsInside (codes "{")
Means BracedTail = IsInsideBehind (codes "{")
Means PairNext = Grows dict_part pairs_together (λ pairs. IsEndOrComma (pairs ≡ no_pairs) (ArePairs pairs))
Means PairMore = Grows dict_part pairs_together ArePairs
Means Comprehension = IsLoop
Means Conditions = Grows loop_part exprs_together (AreChained (codes "if") 2)
Means Comprehensions = Grows comprehension_part loops_together AreLoops
Means AnyName = IsAnyName

-- each row of a nonterminal keeps its meaning
abbrev pub Kept : Nonterminal → Type 0
Kept x = AreKept table Means x (rows x)
