-- How tokens spell a tree (Python reference, "Full Grammar specification", cut to the profile): one case for each form of
-- the tree. `Is.. tree ts rest` says that from ts on this tree is spelt, and that rest comes behind it.
use Rattle.std.specs.Prelude.{◌≡◌, ℕ, suc, ◌≤◌, Bool, true, false, List, [], ◌∷◌, codes, ◌⊎◌, Option, Some, None}
use Rattle.py_tokens.specs.Token.{Place}
use Rattle.py_syntax.specs.Token.{Kind, TName, TKeyword, TOperator, TNumber, TText, TNewline, TIndent, TDedent, Token, At}
use Rattle.py_syntax.specs.Tree.{NameAt, UnaryOperator, Negative, Positive, Invert, BinaryOperator, BitOr, BitXor, BitAnd, LeftShift, RightShift, Add, Subtract, Multiply, FloorDivide, Modulo, Power, ComparisonOperator, Less, Greater, LessOrEqual, GreaterOrEqual, Equal, NotEqual, In, NotIn, Is, IsNot, LoopTarget, LoopName, LoopNames, LoopParenthesis, Expr, EName, ENumber, EText, ETrue, EFalse, ENone, EParenthesis, EEmptyTuple, ETuple, EList, EListComprehension, EDict, ESet, EAttribute, ECall, ESubscript, ESlice, EUnary, EBinary, ECompare, ENot, EAnd, EOr, EConditional, Exprs, no_exprs, more_exprs, MaybeExpr, no_expr, an_expr, Pairs, no_pairs, more_pairs, Links, no_links, more_links, Keywords, no_keywords, more_keywords, Loops, no_loops, more_loops, Target, TargetName, TargetAttribute, TargetSubscript, Targets, OneTarget, SomeTargets, ParenthesisTargets, BracketTargets, Imported, ClassName, BareClass, ClassWithin, Caught, Everything, Exceptions, Parameter, Stmt, SExpr, SAssign, SAugmented, SPass, SBreak, SContinue, SReturn, SRaise, SYield, SGlobal, SAssert, SDelete, SIf, SWhile, SFor, STry, SDef, SClass, SImport, SFromImport, Body, no_stmts, more_stmts, Handlers, no_handlers, more_handlers}

-- a keyword, an operator, a name
abbrev pub word : Place → List ℕ → Token
word p spelling = At p (TKeyword spelling)

abbrev pub sign : Place → List ℕ → Token
sign p spelling = At p (TOperator spelling)

-- Levels of expressions, from the loosest to the tightest. What stands at a level stands at each looser one.
abbrev pub list_level : ℕ
list_level = 0

abbrev pub conditional_level : ℕ
conditional_level = 1

abbrev pub or_level : ℕ
or_level = 2

abbrev pub and_level : ℕ
and_level = 3

abbrev pub not_level : ℕ
not_level = 4

abbrev pub comparison_level : ℕ
comparison_level = 5

abbrev pub unary_level : ℕ
unary_level = 12

abbrev pub postfix_level : ℕ
postfix_level = 14

abbrev pub binary_level : BinaryOperator → ℕ
binary_level BitOr = 6
binary_level BitXor = 7
binary_level BitAnd = 8
binary_level LeftShift = 9
binary_level RightShift = 9
binary_level Add = 10
binary_level Subtract = 10
binary_level Multiply = 11
binary_level FloorDivide = 11
binary_level Modulo = 11
binary_level Power = 13

-- The levels of both operands: operators of one level nest to the left, but `**` nests to the right, and its right operand
-- may have a sign.
abbrev pub left_level : BinaryOperator → ℕ
left_level Power = 14
left_level o = binary_level o

abbrev pub right_level : BinaryOperator → ℕ
right_level Power = 12
right_level o = suc (binary_level o)

abbrev pub binary_sign : BinaryOperator → List ℕ
binary_sign BitOr = codes "|"
binary_sign BitXor = codes "^"
binary_sign BitAnd = codes "&"
binary_sign LeftShift = codes "<<"
binary_sign RightShift = codes ">>"
binary_sign Add = codes "+"
binary_sign Subtract = codes "-"
binary_sign Multiply = codes "*"
binary_sign FloorDivide = codes "//"
binary_sign Modulo = codes "%"
binary_sign Power = codes "**"

-- what an augmented assignment is spelt by
abbrev pub augmented_sign : BinaryOperator → List ℕ
augmented_sign BitOr = codes "|="
augmented_sign BitXor = codes "^="
augmented_sign BitAnd = codes "&="
augmented_sign LeftShift = codes "<<="
augmented_sign RightShift = codes ">>="
augmented_sign Add = codes "+="
augmented_sign Subtract = codes "-="
augmented_sign Multiply = codes "*="
augmented_sign FloorDivide = codes "//="
augmented_sign Modulo = codes "%="
augmented_sign Power = codes "**="

abbrev pub unary_sign : UnaryOperator → List ℕ
unary_sign Negative = codes "-"
unary_sign Positive = codes "+"
unary_sign Invert = codes "~"

abbrev pub IsComparison : Place → ComparisonOperator → List Token → List Token → Type 0
IsComparison p Less ts rest = ts ≡ sign p (codes "<") ∷ rest
IsComparison p Greater ts rest = ts ≡ sign p (codes ">") ∷ rest
IsComparison p LessOrEqual ts rest = ts ≡ sign p (codes "<=") ∷ rest
IsComparison p GreaterOrEqual ts rest = ts ≡ sign p (codes ">=") ∷ rest
IsComparison p Equal ts rest = ts ≡ sign p (codes "==") ∷ rest
IsComparison p NotEqual ts rest = ts ≡ sign p (codes "!=") ∷ rest
IsComparison p In ts rest = ts ≡ word p (codes "in") ∷ rest
IsComparison p NotIn ts rest = (q : Place) × (ts ≡ word p (codes "not") ∷ word q (codes "in") ∷ rest)
IsComparison p Is ts rest = ts ≡ word p (codes "is") ∷ rest
IsComparison p IsNot ts rest = (q : Place) × (ts ≡ word p (codes "is") ∷ word q (codes "not") ∷ rest)

-- a name, of any characters
abbrev pub IsName : NameAt → List Token → List Token → Type 0
IsName x ts rest = (ascii : Bool) × (ts ≡ At x.place (TName ascii x.name) ∷ rest)

-- Behind an item of a list: the list ends here, with nothing of it left, or a comma comes and what `Further` says. So a
-- list may end with a comma.
abbrev pub IsEndOrComma : Type 0 → (List Token → List Token → Type 0) → List Token → List Token → Type 0
IsEndOrComma Ended Further ts rest =
    (Ended × (ts ≡ rest)) ⊎ ((p : Place) × (after : List Token) × (ts ≡ sign p (codes ",") ∷ after) × Further after rest)

abbrev pub AreNames : List NameAt → List Token → List Token → Type 0
AreNames [] ts rest = ts ≡ rest
AreNames (x ∷ names) ts rest = (mid : List Token) × IsName x ts mid × IsEndOrComma (names ≡ []) (AreNames names) mid rest

-- a tuple's place is that of the comma behind its first member
abbrev pub IsLoopTarget : LoopTarget → List Token → List Token → Type 0
IsLoopTarget (LoopName x) ts rest = IsName x ts rest
IsLoopTarget (LoopNames p []) ts rest = ⊥
IsLoopTarget (LoopNames p (x ∷ names)) ts rest = (mid : List Token) × IsName x ts (sign p (codes ",") ∷ mid) × AreNames names mid rest
IsLoopTarget (LoopParenthesis p t) ts rest =
    (q : Place) × (mid : List Token) × (ts ≡ sign p (codes "(") ∷ mid) × IsLoopTarget t mid (sign q (codes ")") ∷ rest)

abbrev pub is_attribute : Expr → Bool
is_attribute (EAttribute p e x) = true
is_attribute e = false

abbrev mutual
  pub IsExpr : ℕ → Expr → List Token → List Token → Type 0
  IsExpr l (EName p x) ts rest = IsName (record { place = p; name = x }) ts rest
  IsExpr l (ENumber p n) ts rest = ts ≡ At p (TNumber n) ∷ rest
  IsExpr l (EText p t) ts rest = ts ≡ At p (TText t) ∷ rest
  IsExpr l (ETrue p) ts rest = ts ≡ word p (codes "True") ∷ rest
  IsExpr l (EFalse p) ts rest = ts ≡ word p (codes "False") ∷ rest
  IsExpr l (ENone p) ts rest = ts ≡ word p (codes "None") ∷ rest
  IsExpr l (EParenthesis p e) ts rest =
      (q : Place) × (mid : List Token) × (ts ≡ sign p (codes "(") ∷ mid) × IsExpr 0 e mid (sign q (codes ")") ∷ rest)
  IsExpr l (EEmptyTuple p) ts rest = (q : Place) × (ts ≡ sign p (codes "(") ∷ sign q (codes ")") ∷ rest)
  IsExpr l (ETuple p no_exprs) ts rest = ⊥
  IsExpr l (ETuple p (more_exprs e es)) ts rest =
      (l ≤ 0) × (mid : List Token) × IsExpr 1 e ts (sign p (codes ",") ∷ mid) × AreItems es mid rest
  IsExpr l (EList p None no_exprs) ts rest = (q : Place) × (ts ≡ sign p (codes "[") ∷ sign q (codes "]") ∷ rest)
  IsExpr l (EList p None (more_exprs e no_exprs)) ts rest =
      (q : Place) × (mid : List Token) × (ts ≡ sign p (codes "[") ∷ mid) × IsExpr 1 e mid (sign q (codes "]") ∷ rest)
  IsExpr l (EList p None (more_exprs e (more_exprs f es))) ts rest = ⊥
  IsExpr l (EList p (Some c) no_exprs) ts rest = ⊥
  IsExpr l (EList p (Some c) (more_exprs e es)) ts rest =
      (q : Place) × (mid : List Token) × (after : List Token)
      × (ts ≡ sign p (codes "[") ∷ mid) × IsExpr 1 e mid (sign c (codes ",") ∷ after) × AreItems es after (sign q (codes "]") ∷ rest)
  IsExpr l (EListComprehension p e no_loops) ts rest = ⊥
  IsExpr l (EListComprehension p e (more_loops f t i cs loops)) ts rest =
      (q : Place) × (mid : List Token) × (after : List Token) × (ts ≡ sign p (codes "[") ∷ mid)
      × IsExpr 1 e mid after × AreLoops (more_loops f t i cs loops) after (sign q (codes "]") ∷ rest)
  IsExpr l (EDict p pairs) ts rest =
      (q : Place) × (mid : List Token) × (ts ≡ sign p (codes "{") ∷ mid) × ArePairs pairs mid (sign q (codes "}") ∷ rest)
  IsExpr l (ESet p no_exprs) ts rest = ⊥
  IsExpr l (ESet p (more_exprs e es)) ts rest =
      (q : Place) × (mid : List Token) × (ts ≡ sign p (codes "{") ∷ mid) × AreItems (more_exprs e es) mid (sign q (codes "}") ∷ rest)
  IsExpr l (EAttribute p e x) ts rest =
      (mid : List Token) × IsExpr 14 e ts (sign p (codes ".") ∷ mid) × IsName x mid rest
  IsExpr l (ECall p e arguments keywords) ts rest =
      (q : Place) × (mid : List Token) × IsExpr 14 e ts (sign p (codes "(") ∷ mid)
      × AreArguments arguments (keywords ≡ no_keywords) (AreKeywords (is_attribute e) keywords) mid (sign q (codes ")") ∷ rest)
  IsExpr l (ESubscript p e i) ts rest =
      (q : Place) × (mid : List Token) × IsExpr 14 e ts (sign p (codes "[") ∷ mid) × IsExpr 1 i mid (sign q (codes "]") ∷ rest)
  IsExpr l (ESlice p e lower upper) ts rest =
      (q : Place) × (r : Place) × (mid : List Token) × (after : List Token) × IsExpr 14 e ts (sign p (codes "[") ∷ mid)
      × IsMaybe lower mid (sign q (codes ":") ∷ after) × IsMaybe upper after (sign r (codes "]") ∷ rest)
  IsExpr l (EUnary p o e) ts rest = (l ≤ 12) × (mid : List Token) × (ts ≡ sign p (unary_sign o) ∷ mid) × IsExpr 12 e mid rest
  IsExpr l (EBinary p o a b) ts rest =
      (l ≤ binary_level o) × (mid : List Token) × IsExpr (left_level o) a ts (sign p (binary_sign o) ∷ mid) × IsExpr (right_level o) b mid rest
  IsExpr l (ECompare p o a b links) ts rest =
      (l ≤ 5) × (mid : List Token) × (after : List Token) × (last : List Token)
      × IsExpr 6 a ts mid × IsComparison p o mid after × IsExpr 6 b after last × AreLinks links last rest
  IsExpr l (ENot p e) ts rest = (l ≤ 4) × (mid : List Token) × (ts ≡ word p (codes "not") ∷ mid) × IsExpr 4 e mid rest
  IsExpr l (EAnd p a b es) ts rest =
      (l ≤ 3) × (mid : List Token) × (after : List Token)
      × IsExpr 4 a ts (word p (codes "and") ∷ mid) × IsExpr 4 b mid after × AreChained (codes "and") 4 es after rest
  IsExpr l (EOr p a b es) ts rest =
      (l ≤ 2) × (mid : List Token) × (after : List Token)
      × IsExpr 3 a ts (word p (codes "or") ∷ mid) × IsExpr 3 b mid after × AreChained (codes "or") 3 es after rest
  IsExpr l (EConditional p a t b) ts rest =
      (l ≤ 1) × (q : Place) × (mid : List Token) × (after : List Token)
      × IsExpr 2 a ts (word p (codes "if") ∷ mid) × IsExpr 2 t mid (word q (codes "else") ∷ after) × IsExpr 1 b after rest

  -- items with commas between them, and perhaps one behind the last; there may be none
  pub AreItems : Exprs → List Token → List Token → Type 0
  AreItems no_exprs ts rest = ts ≡ rest
  AreItems (more_exprs e es) ts rest = (mid : List Token) × IsExpr 1 e ts mid × IsEndOrComma (es ≡ no_exprs) (AreItems es) mid rest

  pub IsMaybe : MaybeExpr → List Token → List Token → Type 0
  IsMaybe no_expr ts rest = ts ≡ rest
  IsMaybe (an_expr e) ts rest = IsExpr 1 e ts rest

  pub ArePairs : Pairs → List Token → List Token → Type 0
  ArePairs no_pairs ts rest = ts ≡ rest
  ArePairs (more_pairs k v pairs) ts rest =
      (q : Place) × (mid : List Token) × (after : List Token)
      × IsExpr 1 k ts (sign q (codes ":") ∷ mid) × IsExpr 1 v mid after × IsEndOrComma (pairs ≡ no_pairs) (ArePairs pairs) after rest

  pub AreLinks : Links → List Token → List Token → Type 0
  AreLinks no_links ts rest = ts ≡ rest
  AreLinks (more_links p o e links) ts rest =
      (mid : List Token) × (after : List Token) × IsComparison p o ts mid × IsExpr 6 e mid after × AreLinks links after rest

  -- further operands of `and` or of `or`
  pub AreChained : List ℕ → ℕ → Exprs → List Token → List Token → Type 0
  AreChained spelling l no_exprs ts rest = ts ≡ rest
  AreChained spelling l (more_exprs e es) ts rest =
      (p : Place) × (mid : List Token) × (after : List Token)
      × (ts ≡ word p spelling ∷ mid) × IsExpr l e mid after × AreChained spelling l es after rest

  -- Arguments, and then keyword arguments: whether there are none, and how they are spelt.
  pub AreArguments : Exprs → Type 0 → (List Token → List Token → Type 0) → List Token → List Token → Type 0
  AreArguments no_exprs NoKeywords Keyworded ts rest = Keyworded ts rest
  AreArguments (more_exprs e es) NoKeywords Keyworded ts rest =
      (mid : List Token) × IsExpr 1 e ts mid
      × IsEndOrComma ((es ≡ no_exprs) × NoKeywords) (AreArguments es NoKeywords Keyworded) mid rest

  -- there are none in a call of an attribute
  pub AreKeywords : Bool → Keywords → List Token → List Token → Type 0
  AreKeywords of_attribute no_keywords ts rest = ts ≡ rest
  AreKeywords of_attribute (more_keywords x e keywords) ts rest =
      (of_attribute ≡ false) × (q : Place) × (mid : List Token) × (after : List Token)
      × IsName x ts (sign q (codes "=") ∷ mid) × IsExpr 1 e mid after
      × IsEndOrComma (keywords ≡ no_keywords) (AreKeywords of_attribute keywords) after rest

  -- the loops of a comprehension
  pub AreLoops : Loops → List Token → List Token → Type 0
  AreLoops no_loops ts rest = ts ≡ rest
  AreLoops (more_loops p t i cs loops) ts rest =
      (q : Place) × (a : List Token) × (b : List Token) × (c : List Token) × (d : List Token)
      × (ts ≡ word p (codes "for") ∷ a) × IsLoopTarget t a (word q (codes "in") ∷ b) × IsExpr 2 i b c
      × AreChained (codes "if") 2 cs c d × AreLoops loops d rest

-- what stands before `=` in an assignment
abbrev pub IsTarget : Target → List Token → List Token → Type 0
IsTarget (TargetName x) ts rest = IsName x ts rest
IsTarget (TargetAttribute p e x) ts rest = IsExpr 14 (EAttribute p e x) ts rest
IsTarget (TargetSubscript p e i) ts rest = IsExpr 14 (ESubscript p e i) ts rest

abbrev pub AreTargets : List Target → List Token → List Token → Type 0
AreTargets [] ts rest = ts ≡ rest
AreTargets (t ∷ targets) ts rest = (mid : List Token) × IsTarget t ts mid × IsEndOrComma (targets ≡ []) (AreTargets targets) mid rest

abbrev pub IsTargets : Targets → List Token → List Token → Type 0
IsTargets (OneTarget t) ts rest = IsTarget t ts rest
IsTargets (SomeTargets p []) ts rest = ⊥
IsTargets (SomeTargets p (t ∷ targets)) ts rest = (mid : List Token) × IsTarget t ts (sign p (codes ",") ∷ mid) × AreTargets targets mid rest
IsTargets (ParenthesisTargets p t) ts rest =
    (q : Place) × (mid : List Token) × (ts ≡ sign p (codes "(") ∷ mid) × IsTargets t mid (sign q (codes ")") ∷ rest)
IsTargets (BracketTargets p t) ts rest =
    (q : Place) × (mid : List Token) × (ts ≡ sign p (codes "[") ∷ mid) × IsTargets t mid (sign q (codes "]") ∷ rest)

-- targets with `=` behind each, in `a = b = value`
abbrev pub AreAssigned : List Targets → List Token → List Token → Type 0
AreAssigned [] ts rest = ts ≡ rest
AreAssigned (t ∷ targets) ts rest = (q : Place) × (mid : List Token) × IsTargets t ts (sign q (codes "=") ∷ mid) × AreAssigned targets mid rest

-- names with commas between them
abbrev pub AreGlobals : List NameAt → List Token → List Token → Type 0
AreGlobals [] ts rest = ⊥
AreGlobals (x ∷ []) ts rest = IsName x ts rest
AreGlobals (x ∷ y ∷ names) ts rest = (q : Place) × (mid : List Token) × IsName x ts (sign q (codes ",") ∷ mid) × AreGlobals (y ∷ names) mid rest

-- the name that is given by `as`, if one is
abbrev pub IsAlias : Option NameAt → List Token → List Token → Type 0
IsAlias None ts rest = ts ≡ rest
IsAlias (Some x) ts rest = (q : Place) × (mid : List Token) × (ts ≡ word q (codes "as") ∷ mid) × IsName x mid rest

-- a module's name is of ASCII characters
abbrev pub IsModuleName : NameAt → List Token → List Token → Type 0
IsModuleName x ts rest = ts ≡ At x.place (TName true x.name) ∷ rest

-- what is imported, with commas between
abbrev pub AreImported : (NameAt → List Token → List Token → Type 0) → List Imported → List Token → List Token → Type 0
AreImported Spelt [] ts rest = ⊥
AreImported Spelt (x ∷ []) ts rest = (mid : List Token) × Spelt x.name ts mid × IsAlias x.alias mid rest
AreImported Spelt (x ∷ y ∷ others) ts rest =
    (q : Place) × (mid : List Token) × (after : List Token)
    × Spelt x.name ts mid × IsAlias x.alias mid (sign q (codes ",") ∷ after) × AreImported Spelt (y ∷ others) after rest

abbrev pub IsClassName : ClassName → List Token → List Token → Type 0
IsClassName (BareClass x) ts rest = IsName x ts rest
IsClassName (ClassWithin m x) ts rest = (q : Place) × (mid : List Token) × IsName m ts (sign q (codes ".") ∷ mid) × IsName x mid rest

-- the bases of a class: none, with brackets or without, or one
abbrev pub IsBase : Option ClassName → List Token → List Token → Type 0
IsBase None ts rest = (ts ≡ rest) ⊎ ((p : Place) × (q : Place) × (ts ≡ sign p (codes "(") ∷ sign q (codes ")") ∷ rest))
IsBase (Some c) ts rest = (p : Place) × (q : Place) × (mid : List Token) × (ts ≡ sign p (codes "(") ∷ mid) × IsClassName c mid (sign q (codes ")") ∷ rest)

abbrev pub IsDefault : MaybeExpr → List Token → List Token → Type 0
IsDefault no_expr ts rest = ts ≡ rest
IsDefault (an_expr e) ts rest = (q : Place) × (mid : List Token) × (ts ≡ sign q (codes "=") ∷ mid) × IsExpr 1 e mid rest

abbrev pub IsParameter : Parameter → List Token → List Token → Type 0
IsParameter x ts rest = (mid : List Token) × IsName x.name ts mid × IsDefault x.default mid rest

abbrev pub AreParameters : List Parameter → List Token → List Token → Type 0
AreParameters [] ts rest = ts ≡ rest
AreParameters (x ∷ parameters) ts rest =
    (mid : List Token) × IsParameter x ts mid × IsEndOrComma (parameters ≡ []) (AreParameters parameters) mid rest

-- what a handler catches
abbrev pub IsCaught : Caught → List Token → List Token → Type 0
IsCaught Everything ts rest = ts ≡ rest
IsCaught (Exceptions c alias) ts rest = (mid : List Token) × IsClassName c ts mid × IsAlias alias mid rest

-- the first token has this place
abbrev pub BeginsAt : Place → List Token → Type 0
BeginsAt p ts = (kind : Kind) × (after : List Token) × (ts ≡ At p kind ∷ after)

-- a word alone, or before an expression
abbrev pub IsWord : Place → List ℕ → List Token → List Token → Type 0
IsWord p spelling ts rest = ts ≡ word p spelling ∷ rest

-- statements that stand on one line with others
abbrev pub IsSmall : Stmt → List Token → List Token → Type 0
IsSmall (SExpr p e) ts rest = BeginsAt p ts × IsExpr 0 e ts rest
IsSmall (SAssign p [] e) ts rest = ⊥
IsSmall (SAssign p (t ∷ targets) e) ts rest =
    BeginsAt p ts × (mid : List Token) × AreAssigned (t ∷ targets) ts mid × IsExpr 0 e mid rest
IsSmall (SAugmented p o t e) ts rest =
    BeginsAt p ts × (q : Place) × (mid : List Token) × IsTarget t ts (sign q (augmented_sign o) ∷ mid) × IsExpr 0 e mid rest
IsSmall (SPass p) ts rest = IsWord p (codes "pass") ts rest
IsSmall (SBreak p) ts rest = IsWord p (codes "break") ts rest
IsSmall (SContinue p) ts rest = IsWord p (codes "continue") ts rest
IsSmall (SReturn p no_expr) ts rest = IsWord p (codes "return") ts rest
IsSmall (SReturn p (an_expr e)) ts rest = (mid : List Token) × IsWord p (codes "return") ts mid × IsExpr 0 e mid rest
IsSmall (SRaise p e) ts rest = (mid : List Token) × IsWord p (codes "raise") ts mid × IsExpr 1 e mid rest
IsSmall (SYield p e) ts rest = (mid : List Token) × IsWord p (codes "yield") ts mid × IsExpr 0 e mid rest
IsSmall (SGlobal p names) ts rest = (mid : List Token) × IsWord p (codes "global") ts mid × AreGlobals names mid rest
IsSmall (SAssert p e no_expr) ts rest = (mid : List Token) × IsWord p (codes "assert") ts mid × IsExpr 1 e mid rest
IsSmall (SAssert p e (an_expr m)) ts rest =
    (q : Place) × (mid : List Token) × (after : List Token)
    × IsWord p (codes "assert") ts mid × IsExpr 1 e mid (sign q (codes ",") ∷ after) × IsExpr 1 m after rest
IsSmall (SDelete p q e i) ts rest = (mid : List Token) × IsWord p (codes "del") ts mid × IsExpr 14 (ESubscript q e i) mid rest
IsSmall s ts rest = ⊥

-- where a line ends, perhaps behind a last `;`
abbrev pub IsLineEnd : List Token → List Token → Type 0
IsLineEnd ts rest =
    ((q : Place) × (ts ≡ At q TNewline ∷ rest)) ⊎ ((p : Place) × (q : Place) × (ts ≡ sign p (codes ";") ∷ At q TNewline ∷ rest))

-- small statements on one line, with `;` between them
abbrev pub IsLine : Body → List Token → List Token → Type 0
IsLine no_stmts ts rest = ⊥
IsLine (more_stmts s body) ts rest =
    (mid : List Token) × IsSmall s ts mid
    × (((body ≡ no_stmts) × IsLineEnd mid rest)
    ⊎ ((p : Place) × (after : List Token) × (mid ≡ sign p (codes ";") ∷ after) × IsLine body after rest))

-- A small statement among others: its line ends behind it, or goes on with a `;`. `Others goes_on` says how the others are
-- spelt, in either case.
abbrev pub IsSmallAmong : Stmt → (Bool → List Token → List Token → Type 0) → List Token → List Token → Type 0
IsSmallAmong s Others ts rest =
    (mid : List Token) × (after : List Token) × IsSmall s ts mid
    × ((IsLineEnd mid after × Others false after rest) ⊎ ((p : Place) × (mid ≡ sign p (codes ";") ∷ after) × Others true after rest))

-- A suite: a line, or statements on lines of their own, one level further in. `Spelt` says how these are spelt.
abbrev pub IsSuite : Body → (List Token → List Token → Type 0) → List Token → List Token → Type 0
IsSuite no_stmts Spelt ts rest = ⊥
IsSuite (more_stmts s body) Spelt ts rest =
    IsLine (more_stmts s body) ts rest
    ⊎ ((p : Place) × (q : Place) × (r : Place) × (inside : List Token)
    × (ts ≡ At p TNewline ∷ At q TIndent ∷ inside) × Spelt inside (At r TDedent ∷ rest))

-- a word, a colon and a suite
abbrev pub IsClause : Place → List ℕ → Body → (List Token → List Token → Type 0) → List Token → List Token → Type 0
IsClause p spelling body Spelt ts rest =
    (q : Place) × (mid : List Token) × (ts ≡ word p spelling ∷ sign q (codes ":") ∷ mid) × IsSuite body Spelt mid rest

-- `if` or `elif`, what it tests, a suite, and what is done otherwise
abbrev pub IsBranch : Place → List ℕ → Expr → Body → (List Token → List Token → Type 0) → (List Token → List Token → Type 0)
    → List Token → List Token → Type 0
IsBranch p spelling e body Spelt Otherwise ts rest =
    (q : Place) × (a : List Token) × (b : List Token) × (c : List Token)
    × (ts ≡ word p spelling ∷ a) × IsExpr 1 e a (sign q (codes ":") ∷ b) × IsSuite body Spelt b c × Otherwise c rest

abbrev mutual
  -- a statement on lines of its own
  pub IsCompound : Stmt → List Token → List Token → Type 0
  IsCompound (SIf p e body other) ts rest =
      IsBranch p (codes "if") e body (IsStatements false body) (IsOtherwise other (IsStatements false other)) ts rest
  IsCompound (SWhile p e body) ts rest =
      (q : Place) × (a : List Token) × (b : List Token)
      × (ts ≡ word p (codes "while") ∷ a) × IsExpr 1 e a (sign q (codes ":") ∷ b) × IsSuite body (IsStatements false body) b rest
  IsCompound (SFor p t e body) ts rest =
      (q : Place) × (r : Place) × (a : List Token) × (b : List Token) × (c : List Token)
      × (ts ≡ word p (codes "for") ∷ a) × IsLoopTarget t a (word q (codes "in") ∷ b) × IsExpr 0 e b (sign r (codes ":") ∷ c)
      × IsSuite body (IsStatements false body) c rest
  IsCompound (STry p body no_handlers) ts rest = ⊥
  IsCompound (STry p body (more_handlers q c b handlers)) ts rest =
      (mid : List Token) × IsClause p (codes "try") body (IsStatements false body) ts mid × AreHandlers (more_handlers q c b handlers) mid rest
  IsCompound s ts rest = ⊥

  -- an `else` or an `elif`, or neither; `Spelt` says how the statements are spelt that are done otherwise
  pub IsOtherwise : Body → (List Token → List Token → Type 0) → List Token → List Token → Type 0
  IsOtherwise no_stmts Spelt ts rest = ts ≡ rest
  IsOtherwise (more_stmts s body) Spelt ts rest =
      ((body ≡ no_stmts) × IsElif s ts rest) ⊎ ((q : Place) × IsClause q (codes "else") (more_stmts s body) Spelt ts rest)

  pub IsElif : Stmt → List Token → List Token → Type 0
  IsElif (SIf p e body other) ts rest =
      IsBranch p (codes "elif") e body (IsStatements false body) (IsOtherwise other (IsStatements false other)) ts rest
  IsElif s ts rest = ⊥

  -- a handler that catches everything is the last
  pub AreHandlers : Handlers → List Token → List Token → Type 0
  AreHandlers no_handlers ts rest = ts ≡ rest
  AreHandlers (more_handlers p c body handlers) ts rest =
      (q : Place) × (a : List Token) × (b : List Token) × (d : List Token)
      × (ts ≡ word p (codes "except") ∷ a) × IsCaught c a (sign q (codes ":") ∷ b) × IsSuite body (IsStatements false body) b d
      × ((c ≡ Everything) → handlers ≡ no_handlers) × AreHandlers handlers d rest

  -- the statements of a block; whether they go on with the line of the one before
  pub IsStatements : Bool → Body → List Token → List Token → Type 0
  IsStatements goes_on no_stmts ts rest = (goes_on ≡ false) × (ts ≡ rest)
  IsStatements goes_on (more_stmts s body) ts rest =
      ((goes_on ≡ false) × (mid : List Token) × IsCompound s ts mid × IsStatements false body mid rest)
      ⊎ IsSmallAmong s (λ on. IsStatements on body) ts rest

abbrev pub IsDefinition : Stmt → List Token → List Token → Type 0
IsDefinition (SDef p x parameters body) ts rest =
    (q : Place) × (r : Place) × (colon : Place) × (a : List Token) × (b : List Token) × (c : List Token)
    × (ts ≡ word p (codes "def") ∷ a) × IsName x a (sign q (codes "(") ∷ b)
    × AreParameters parameters b (sign r (codes ")") ∷ sign colon (codes ":") ∷ c) × IsSuite body (IsStatements false body) c rest
IsDefinition s ts rest = ⊥

-- what a class's body may have on one line: `pass`, or a text
abbrev pub IsBrief : Stmt → List Token → List Token → Type 0
IsBrief (SPass p) ts rest = (q : Place) × (ts ≡ word p (codes "pass") ∷ At q TNewline ∷ rest)
IsBrief (SExpr p (EText q t)) ts rest = (p ≡ q) × (r : Place) × (ts ≡ At p (TText t) ∷ At r TNewline ∷ rest)
IsBrief s ts rest = ⊥

abbrev pub AreMembers : Body → List Token → List Token → Type 0
AreMembers no_stmts ts rest = ts ≡ rest
AreMembers (more_stmts s body) ts rest = (mid : List Token) × (IsBrief s ts mid ⊎ IsDefinition s ts mid) × AreMembers body mid rest

abbrev pub IsClassSuite : Body → List Token → List Token → Type 0
IsClassSuite no_stmts ts rest = ⊥
IsClassSuite (more_stmts s body) ts rest =
    ((body ≡ no_stmts) × IsBrief s ts rest)
    ⊎ ((p : Place) × (q : Place) × (r : Place) × (inside : List Token)
    × (ts ≡ At p TNewline ∷ At q TIndent ∷ inside) × AreMembers (more_stmts s body) inside (At r TDedent ∷ rest))

abbrev pub IsClass : Stmt → List Token → List Token → Type 0
IsClass (SClass p x base body) ts rest =
    (q : Place) × (a : List Token) × (b : List Token) × (c : List Token)
    × (ts ≡ word p (codes "class") ∷ a) × IsName x a b × IsBase base b (sign q (codes ":") ∷ c) × IsClassSuite body c rest
IsClass s ts rest = ⊥

abbrev pub IsImport : Stmt → List Token → List Token → Type 0
IsImport (SImport p modules) ts rest =
    (q : Place) × (mid : List Token) × (ts ≡ word p (codes "import") ∷ mid) × AreImported IsModuleName modules mid (At q TNewline ∷ rest)
IsImport (SFromImport p m names) ts rest =
    (q : Place) × (r : Place) × (a : List Token) × (b : List Token)
    × (ts ≡ word p (codes "from") ∷ a) × IsModuleName m a (word q (codes "import") ∷ b) × AreImported IsName names b (At r TNewline ∷ rest)
IsImport s ts rest = ⊥

-- what stands on lines of its own in a module: definitions, classes and imports stand in no block
abbrev pub IsTopLevel : Stmt → List Token → List Token → Type 0
IsTopLevel s ts rest = IsCompound s ts rest ⊎ (IsDefinition s ts rest ⊎ (IsClass s ts rest ⊎ IsImport s ts rest))

abbrev pub AreTopLevel : Bool → Body → List Token → List Token → Type 0
AreTopLevel goes_on no_stmts ts rest = (goes_on ≡ false) × (ts ≡ rest)
AreTopLevel goes_on (more_stmts s body) ts rest =
    ((goes_on ≡ false) × (mid : List Token) × IsTopLevel s ts mid × AreTopLevel false body mid rest)
    ⊎ IsSmallAmong s (λ on. AreTopLevel on body) ts rest

-- a whole module
abbrev pub IsModule : Body → List Token → Type 0
IsModule body ts = AreTopLevel false body ts []
