-- The language that is built today, as forms of the tree: assignments of whole numbers to names, `print` of one, `if` and
-- `while` with one comparison; sums, differences, products and negatives of numbers and names. A module of these forms is a
-- body of Tree.antt, in which names are texts; all else is unbuilt, at the first place of a node that is.
use Rattle.std.specs.Prelude.{◌≡◌, ℕ, Bool, true, false, not, ◌&&◌, nat_lt, if◌then◌else◌, List, [], ◌∷◌, ◌++◌, get_or, codes, Option, Some, None, ◌↔◌}
use Rattle.std.specs.Str.{bytes_eq}
use Rattle.std.specs.List.{list_all}
use Rattle.std.specs.Option.{option_map}
use Rattle.py_tokens.specs.Token.{Place}
use Rattle.py_tokens.specs.Places.{is_before}
use Rattle.py_syntax.specs.Tree as whole
use Rattle.py_meaning.specs.Name.{Name}
use Rattle.py_meaning.specs.Rules.{has_name, are_reads_sure}
use Rattle.py_meaning.specs.Tree.{Negative, Binary, Add, Subtract, Multiply, Comparison, LessThan, AtMost, GreaterThan, AtLeast, EqualTo, NotEqualTo, Expr, EName, ENumber, EUnary, EBinary, Condition, CCompare, Stmt, SAssign, SPrint, SIf, SWhile, Body, none, more}

-- the text of a name, where names stand for these texts
abbrev pub text_at : List Name → ℕ → Name
text_at texts x = get_or texts x []

-- Whether a name may be a variable: `print` is called, and `__name__` has a meaning of its own, which isn't built. Names
-- beyond ASCII aren't built either.
abbrev pub is_variable : Name → Bool
is_variable [] = false
is_variable (c ∷ x) =
    list_all (λ b. nat_lt b 128) (c ∷ x) && (not (bytes_eq (c ∷ x) (codes "print")) && not (bytes_eq (c ∷ x) (codes "__name__")))

abbrev pub built_binary : whole.BinaryOperator → Option Binary
built_binary whole.Add = Some Add
built_binary whole.Subtract = Some Subtract
built_binary whole.Multiply = Some Multiply
built_binary o = None

abbrev pub built_comparison : whole.ComparisonOperator → Option Comparison
built_comparison whole.Less = Some LessThan
built_comparison whole.LessOrEqual = Some AtMost
built_comparison whole.Greater = Some GreaterThan
built_comparison whole.GreaterOrEqual = Some AtLeast
built_comparison whole.Equal = Some EqualTo
built_comparison whole.NotEqual = Some NotEqualTo
built_comparison o = None

-- all three, if they are there
abbrev pub all_three : {A B C D : Type 0} → (A → B → C → D) → Option A → Option B → Option C → Option D
all_three f (Some a) (Some b) (Some c) = Some (f a b c)
all_three f a b c = None

-- a value
abbrev pub built_expr : List Name → whole.Expr → Option Expr
built_expr texts (whole.EName p x) = if is_variable (text_at texts x) then Some (EName p (text_at texts x)) else None
built_expr texts (whole.ENumber p n) = Some (ENumber p n)
built_expr texts (whole.EUnary p whole.Negative e) = option_map (EUnary p Negative) (built_expr texts e)
built_expr texts (whole.EBinary p o a b) = all_three (EBinary p) (built_binary o) (built_expr texts a) (built_expr texts b)
built_expr texts e = None

-- what an `if` or a `while` tests: one comparison
abbrev pub built_condition : List Name → whole.Expr → Option Condition
built_condition texts (whole.ECompare p o a b whole.no_links) =
    all_three (CCompare p) (built_comparison o) (built_expr texts a) (built_expr texts b)
built_condition texts e = None

-- the one name that is assigned to, if it is one and a variable
abbrev pub variable : Name → Option Name
variable x = if is_variable x then Some x else None

abbrev pub assigned : List Name → List whole.Targets → Option Name
assigned texts (whole.OneTarget (whole.TargetName x) ∷ []) = variable (text_at texts x.name)
assigned texts targets = None

-- the one argument of a call of `print`, with the place of the call
abbrev pub if_print : Name → Place → whole.Expr → Option (Place × whole.Expr)
if_print f q e = if bytes_eq f (codes "print") then Some (q, e) else None

abbrev pub printed : List Name → whole.Expr → Option (Place × whole.Expr)
printed texts (whole.ECall q (whole.EName r f) (whole.more_exprs e whole.no_exprs) whole.no_keywords) = if_print (text_at texts f) q e
printed texts e = None

abbrev pub built_assignment : List Name → Place → Option Name → whole.Expr → Option Stmt
built_assignment texts p None e = None
built_assignment texts p (Some x) e = option_map (SAssign p x) (built_expr texts e)

abbrev pub built_print : List Name → Place → Option (Place × whole.Expr) → Option Stmt
built_print texts p None = None
built_print texts p (Some call) = option_map (SPrint p call.0) (built_expr texts call.1)

abbrev pub both : {A B C : Type 0} → (A → B → C) → Option A → Option B → Option C
both f (Some a) (Some b) = Some (f a b)
both f a b = None

abbrev mutual
  pub built_stmt : List Name → whole.Stmt → Option Stmt
  built_stmt texts (whole.SAssign p targets e) = built_assignment texts p (assigned texts targets) e
  built_stmt texts (whole.SExpr p e) = built_print texts p (printed texts e)
  built_stmt texts (whole.SIf p e body other) =
      all_three (SIf p) (built_condition texts e) (built_body texts body) (built_body texts other)
  built_stmt texts (whole.SWhile p e body) = both (SWhile p) (built_condition texts e) (built_body texts body)
  built_stmt texts s = None

  pub built_body : List Name → whole.Body → Option Body
  built_body texts whole.no_stmts = Some none
  built_body texts (whole.more_stmts s body) = both more (built_stmt texts s) (built_body texts body)

-- an operator before a value whose unbuilt places are known, and one between two of them
abbrev pub unbuilt_unary : Place → whole.UnaryOperator → List Place → List Place
unbuilt_unary p whole.Negative inner = inner
unbuilt_unary p o inner = p ∷ []

abbrev pub unless_built : Place → Option Binary → List Place → List Place → List Place
unless_built p (Some o) left right = left ++ right
unless_built p None left right = p ∷ left

-- The places of nodes that aren't built, and of reads of names that may be unset, in an expression that is a value. Of a
-- node that isn't built, only what stands before its head is looked at further: the rest comes later.
abbrev mutual
  pub unbuilt_expr : List Name → List Name → whole.Expr → List Place
  unbuilt_expr texts sure (whole.EName p x) =
      if is_variable (text_at texts x) && has_name sure (text_at texts x) then [] else p ∷ []
  unbuilt_expr texts sure (whole.ENumber p n) = []
  unbuilt_expr texts sure (whole.EUnary p o e) = unbuilt_unary p o (unbuilt_expr texts sure e)
  unbuilt_expr texts sure (whole.EBinary p o a b) =
      unless_built p (built_binary o) (unbuilt_expr texts sure a) (unbuilt_expr texts sure b)
  unbuilt_expr texts sure (whole.ETuple p es) = p ∷ unbuilt_first texts sure es
  unbuilt_expr texts sure (whole.EAttribute p e x) = p ∷ unbuilt_expr texts sure e
  unbuilt_expr texts sure (whole.ECall p e es ks) = p ∷ unbuilt_expr texts sure e
  unbuilt_expr texts sure (whole.ESubscript p e i) = p ∷ unbuilt_expr texts sure e
  unbuilt_expr texts sure (whole.ESlice p e l u) = p ∷ unbuilt_expr texts sure e
  unbuilt_expr texts sure (whole.ECompare p o a b links) = p ∷ unbuilt_expr texts sure a
  unbuilt_expr texts sure (whole.EAnd p a b es) = p ∷ unbuilt_expr texts sure a
  unbuilt_expr texts sure (whole.EOr p a b es) = p ∷ unbuilt_expr texts sure a
  unbuilt_expr texts sure (whole.EConditional p a t b) = p ∷ unbuilt_expr texts sure a
  unbuilt_expr texts sure (whole.EText p t) = p ∷ []
  unbuilt_expr texts sure (whole.ETrue p) = p ∷ []
  unbuilt_expr texts sure (whole.EFalse p) = p ∷ []
  unbuilt_expr texts sure (whole.ENone p) = p ∷ []
  unbuilt_expr texts sure (whole.EParenthesis p e) = p ∷ []
  unbuilt_expr texts sure (whole.EEmptyTuple p) = p ∷ []
  unbuilt_expr texts sure (whole.EList p c es) = p ∷ []
  unbuilt_expr texts sure (whole.EListComprehension p e loops) = p ∷ []
  unbuilt_expr texts sure (whole.EDict p pairs) = p ∷ []
  unbuilt_expr texts sure (whole.ESet p es) = p ∷ []
  unbuilt_expr texts sure (whole.ENot p e) = p ∷ []

  pub unbuilt_first : List Name → List Name → whole.Exprs → List Place
  unbuilt_first texts sure whole.no_exprs = []
  unbuilt_first texts sure (whole.more_exprs e es) = unbuilt_expr texts sure e

abbrev pub head_of : whole.Expr → Place
head_of (whole.EName p x) = p
head_of (whole.ENumber p n) = p
head_of (whole.EText p t) = p
head_of (whole.ETrue p) = p
head_of (whole.EFalse p) = p
head_of (whole.ENone p) = p
head_of (whole.EParenthesis p e) = p
head_of (whole.EEmptyTuple p) = p
head_of (whole.ETuple p es) = p
head_of (whole.EList p c es) = p
head_of (whole.EListComprehension p e loops) = p
head_of (whole.EDict p pairs) = p
head_of (whole.ESet p es) = p
head_of (whole.EAttribute p e x) = p
head_of (whole.ECall p e es ks) = p
head_of (whole.ESubscript p e i) = p
head_of (whole.ESlice p e l u) = p
head_of (whole.EUnary p o e) = p
head_of (whole.EBinary p o a b) = p
head_of (whole.ECompare p o a b links) = p
head_of (whole.ENot p e) = p
head_of (whole.EAnd p a b es) = p
head_of (whole.EOr p a b es) = p
head_of (whole.EConditional p a t b) = p

abbrev pub unless_compared : Place → Option Comparison → List Place → List Place → List Place
unless_compared p (Some o) left right = left ++ right
unless_compared p None left right = p ∷ left

-- in what is tested: a node that is no comparison isn't built there
abbrev pub unbuilt_condition : List Name → List Name → whole.Expr → List Place
unbuilt_condition texts sure (whole.ECompare p o a b whole.no_links) =
    unless_compared p (built_comparison o) (unbuilt_expr texts sure a) (unbuilt_expr texts sure b)
unbuilt_condition texts sure e = head_of e ∷ unbuilt_expr texts sure e

abbrev pub unbuilt_assignment : List Name → List Name → Place → Option Name → whole.Expr → List Place
unbuilt_assignment texts sure p None e = p ∷ []
unbuilt_assignment texts sure p (Some x) e = unbuilt_expr texts sure e

abbrev pub unbuilt_print : List Name → List Name → Place → Option (Place × whole.Expr) → List Place
unbuilt_print texts sure p None = p ∷ []
unbuilt_print texts sure p (Some call) = unbuilt_expr texts sure call.1

abbrev mutual
  pub unbuilt_stmt : List Name → List Name → whole.Stmt → List Place
  unbuilt_stmt texts sure (whole.SAssign p targets e) = unbuilt_assignment texts sure p (assigned texts targets) e
  unbuilt_stmt texts sure (whole.SExpr p e) = unbuilt_print texts sure p (printed texts e)
  unbuilt_stmt texts sure (whole.SIf p e body other) =
      unbuilt_condition texts sure e ++ (unbuilt_block texts sure body ++ unbuilt_block texts sure other)
  unbuilt_stmt texts sure (whole.SWhile p e body) = unbuilt_condition texts sure e ++ unbuilt_block texts sure body
  unbuilt_stmt texts sure (whole.SAugmented p o t e) = p ∷ []
  unbuilt_stmt texts sure (whole.SPass p) = p ∷ []
  unbuilt_stmt texts sure (whole.SBreak p) = p ∷ []
  unbuilt_stmt texts sure (whole.SContinue p) = p ∷ []
  unbuilt_stmt texts sure (whole.SReturn p e) = p ∷ []
  unbuilt_stmt texts sure (whole.SRaise p e) = p ∷ []
  unbuilt_stmt texts sure (whole.SYield p e) = p ∷ []
  unbuilt_stmt texts sure (whole.SGlobal p xs) = p ∷ []
  unbuilt_stmt texts sure (whole.SAssert p e m) = p ∷ []
  unbuilt_stmt texts sure (whole.SDelete p q e i) = p ∷ []
  unbuilt_stmt texts sure (whole.SFor p t e body) = p ∷ []
  unbuilt_stmt texts sure (whole.STry p body hs) = p ∷ []
  unbuilt_stmt texts sure (whole.SDef p x xs body) = p ∷ []
  unbuilt_stmt texts sure (whole.SClass p x base body) = p ∷ []
  unbuilt_stmt texts sure (whole.SImport p xs) = p ∷ []
  unbuilt_stmt texts sure (whole.SFromImport p m xs) = p ∷ []

  -- an assignment inside a block may not have run
  pub unbuilt_block : List Name → List Name → whole.Body → List Place
  unbuilt_block texts sure whole.no_stmts = []
  unbuilt_block texts sure (whole.more_stmts s body) = unbuilt_stmt texts sure s ++ unbuilt_block texts sure body

abbrev pub with_assigned : Option Name → List Name → List Name
with_assigned None sure = sure
with_assigned (Some x) sure = x ∷ sure

-- the names that are sure to be bound after a statement of the module itself
abbrev pub sure_behind : List Name → whole.Stmt → List Name → List Name
sure_behind texts (whole.SAssign p targets e) sure = with_assigned (assigned texts targets) sure
sure_behind texts s sure = sure

-- of a whole module, where these names are sure to be bound already
abbrev pub unbuilt : List Name → List Name → whole.Body → List Place
unbuilt texts sure whole.no_stmts = []
unbuilt texts sure (whole.more_stmts s body) = unbuilt_stmt texts sure s ++ unbuilt texts (sure_behind texts s sure) body

abbrev pub earlier : Place → Option Place → Place
earlier p None = p
earlier p (Some q) = if is_before q p then q else p

-- the first by place
abbrev pub first_place : List Place → Option Place
first_place [] = None
first_place (p ∷ places) = Some (earlier p (first_place places))

-- a module whose forms are built, and which reads no name that may be unset, is one that has no unbuilt place
abbrev pub NothingUnbuilt : Type 0
NothingUnbuilt =
    (texts : List Name) (tree : whole.Body)
    → (unbuilt texts [] tree ≡ []) ↔ ((body : Body) × (built_body texts tree ≡ Some body) × (are_reads_sure [] body ≡ true))
