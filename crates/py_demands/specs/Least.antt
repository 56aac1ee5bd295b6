-- The least that symbols ask of the parts before them, whatever they derive, by what is asked of the parts behind them.
use Rattle.std.specs.Prelude.{ℕ, zero, suc, Bool, true, false, ◌&&◌, List, [], ◌∷◌, ◌++◌, map, Option, Some, None}
use Rattle.grammars.specs.Grammar.{Tok, Non, Do}
use Rattle.py_syntax.specs.Build.{Action, Drop}
use Rattle.py_syntax.specs.Table.{Symbol, Nonterminal, Module, TopStatement, Statements, Statement, Compound, Otherwise, Suite, Handler, HandlerAlias, MoreHandlers, QualifiedName, QualifiedNameTail, Definition, ParameterList, ParameterNext, ParameterItem, ParameterDefault, ClassDefinition, ClassBase, BaseList, ClassSuite, Member, Members, Brief, ImportStatement, ImportItem, ImportAlias, ImportNext, FromItem, FromNext, Line, LineTail, LineMore, Small, SmallTail, AssignTail, Returned, GlobalNext, AssertMessage, DeletedTail, DeletedAttribute, DeletedEnd, DeletedSubscript, DeletedSubscriptTail, Binding, BindingTail, BindingMore, BindingNext, ExpressionList, ExpressionListTail, ItemMore, ItemNext, Expression, ExpressionTail, OrTest, OrTail, OrMore, AndTest, AndTail, AndMore, NotTest, Comparison, ComparisonTail, ComparisonMore, ComparisonSign, IsTail, OrExpr, OrExprTail, XorExpr, XorExprTail, AndExpr, AndExprTail, ShiftExpr, ShiftTail, Sum, SumTail, Product, ProductTail, Factor, PowerExpr, PowerTail, Primary, PrimaryTail, AttributeTail, Subscription, SubscriptionTail, Upper, Arguments, ArgumentTail, KeywordNext, KeywordMore, PlainArguments, PlainArgumentTail, Atom, Parenthesised, ParenthesisedTail, Bracketed, BracketedTail, Braced, BracedTail, PairNext, PairMore, Comprehension, Conditions, Comprehensions, AnyName}
use Rattle.py_nesting.specs.Outlines.{Label, Plain, Bracket, Tuple}
use Rattle.py_fronts.specs.Kinds.{Kind, AnExpr, is_kind_of, gives}
use Rattle.py_demands.specs.Roles.{Change, Below, Apart, Loose, Turned, Role, Lost, Head, Through, Kept, roles}

pub data Ask : Type 0 where
  -- no node comes
  NoNode : Ask
  -- the whole, with at least so many above
  AtLeast : (above : ℕ) → Ask
  -- the same without the topmost node
  WithinAtLeast : (above : ℕ) → Ask
  -- the whole, or the targets that it turns out to be
  OpenAtLeast : (above : ℕ) → Ask

abbrev pub ask_below : Label → Ask → Ask
ask_below l NoNode = NoNode
ask_below l (AtLeast n) = AtLeast (suc n)
ask_below l (WithinAtLeast n) = AtLeast n
ask_below Plain (OpenAtLeast n) = AtLeast (suc n)
ask_below Bracket (OpenAtLeast n) = OpenAtLeast (suc n)
ask_below Tuple (OpenAtLeast n) = AtLeast n

abbrev pub ask_apart : Ask → Ask
ask_apart NoNode = NoNode
ask_apart (AtLeast n) = AtLeast n
ask_apart (WithinAtLeast n) = AtLeast n
ask_apart (OpenAtLeast n) = AtLeast n

abbrev pub ask_loose : Ask → Ask
ask_loose NoNode = NoNode
ask_loose (AtLeast n) = WithinAtLeast n
ask_loose (WithinAtLeast n) = WithinAtLeast n
ask_loose (OpenAtLeast n) = WithinAtLeast n

abbrev pub ask_turned : Ask → Ask
ask_turned NoNode = NoNode
ask_turned (AtLeast n) = OpenAtLeast n
ask_turned (WithinAtLeast n) = OpenAtLeast n
ask_turned (OpenAtLeast n) = OpenAtLeast n

abbrev pub ask_changed : Change → Ask → Ask
ask_changed (Below l) q = ask_below l q
ask_changed Apart q = ask_apart q
ask_changed Loose q = ask_loose q
ask_changed Turned q = ask_turned q

abbrev pub ask_all_changed : List Change → Ask → Ask
ask_all_changed [] q = q
ask_all_changed (c ∷ changes) q = ask_all_changed changes (ask_changed c q)

-- of a token at which a node stands
abbrev pub ask_head : Ask → Ask
ask_head NoNode = NoNode
ask_head (AtLeast n) = AtLeast n
ask_head (WithinAtLeast n) = NoNode
ask_head (OpenAtLeast n) = AtLeast n

abbrev pub ask_by : Ask → Role → Ask
ask_by q Lost = NoNode
ask_by q (Head l changes) = ask_head (ask_all_changed changes q)
ask_by q (Through changes) = ask_all_changed changes q

-- what a nonterminal asks of a part that it takes, at least
pub data Least : Type 0 where
  As : (role : Role) → Least
  -- below a node, whole or as targets
  Opened : Least

abbrev pub opened : Ask → Ask
opened NoNode = NoNode
opened (AtLeast n) = OpenAtLeast (suc n)
opened (WithinAtLeast n) = OpenAtLeast n
opened (OpenAtLeast n) = OpenAtLeast (suc n)

abbrev pub ask_least : Ask → Least → Ask
ask_least q (As role) = ask_by q role
ask_least q Opened = opened q

abbrev pub low : Nonterminal → List Least
low Module = (As Kept) ∷ []
low TopStatement = (As Kept) ∷ []
low Statements = (As Kept) ∷ []
low Statement = (As Kept) ∷ []
low Compound = []
low Otherwise = []
low Suite = []
low Handler = (As Lost) ∷ (As Kept) ∷ []
low HandlerAlias = (As Lost) ∷ (As Lost) ∷ (As Kept) ∷ []
low MoreHandlers = (As Kept) ∷ []
low QualifiedName = []
low QualifiedNameTail = (As Kept) ∷ []
low Definition = []
low ParameterList = (As Kept) ∷ []
low ParameterNext = (As Kept) ∷ []
low ParameterItem = (As Kept) ∷ []
low ParameterDefault = (As Lost) ∷ (As Kept) ∷ []
low ClassDefinition = []
low ClassBase = (As Kept) ∷ []
low BaseList = (As Lost) ∷ (As Kept) ∷ []
low ClassSuite = []
low Member = (As Kept) ∷ []
low Members = (As Kept) ∷ []
low Brief = (As Kept) ∷ []
low ImportStatement = []
low ImportItem = (As Kept) ∷ []
low ImportAlias = (As Lost) ∷ (As Kept) ∷ []
low ImportNext = (As Kept) ∷ []
low FromItem = (As Kept) ∷ []
low FromNext = (As Kept) ∷ []
low Line = (As Kept) ∷ []
low LineTail = (As Kept) ∷ []
low LineMore = (As Kept) ∷ []
low Small = []
low SmallTail = Opened ∷ []
low AssignTail = Opened ∷ (As (Through (Below Plain ∷ []))) ∷ []
low Returned = (As (Head Plain [])) ∷ []
low GlobalNext = (As Kept) ∷ []
low AssertMessage = (As (Through (Below Plain ∷ []))) ∷ (As (Head Plain [])) ∷ []
low DeletedTail = (As (Through (Below Plain ∷ []))) ∷ []
low DeletedAttribute = (As (Through (Below Plain ∷ []))) ∷ []
low DeletedEnd = (As Kept) ∷ []
low DeletedSubscript = (As (Head Plain [])) ∷ (As (Through (Below Plain ∷ []))) ∷ []
low DeletedSubscriptTail = (As (Through (Below Plain ∷ []))) ∷ (As (Head Plain [])) ∷ (As (Through (Below Plain ∷ []))) ∷ []
low Binding = []
low BindingTail = (As Kept) ∷ []
low BindingMore = (As Kept) ∷ []
low BindingNext = (As Kept) ∷ []
low ExpressionList = []
low ExpressionListTail = (As Kept) ∷ []
low ItemMore = (As Kept) ∷ []
low ItemNext = (As Kept) ∷ []
low Expression = []
low ExpressionTail = (As Kept) ∷ []
low OrTest = []
low OrTail = (As Kept) ∷ []
low OrMore = (As Kept) ∷ []
low AndTest = []
low AndTail = (As Kept) ∷ []
low AndMore = (As Kept) ∷ []
low NotTest = []
low Comparison = []
low ComparisonTail = (As Kept) ∷ []
low ComparisonMore = (As Kept) ∷ []
low ComparisonSign = []
low IsTail = (As Kept) ∷ []
low OrExpr = []
low OrExprTail = (As Kept) ∷ []
low XorExpr = []
low XorExprTail = (As Kept) ∷ []
low AndExpr = []
low AndExprTail = (As Kept) ∷ []
low ShiftExpr = []
low ShiftTail = (As Kept) ∷ []
low Sum = []
low SumTail = (As Kept) ∷ []
low Product = []
low ProductTail = (As Kept) ∷ []
low Factor = []
low PowerExpr = []
low PowerTail = (As Kept) ∷ []
low Primary = []
low PrimaryTail = (As Kept) ∷ []
low AttributeTail = (As Kept) ∷ []
low Subscription = (As (Head Plain [])) ∷ (As (Through (Below Plain ∷ []))) ∷ []
low SubscriptionTail = (As (Through (Below Plain ∷ []))) ∷ (As (Head Plain [])) ∷ (As (Through (Below Plain ∷ []))) ∷ []
low Upper = (As Kept) ∷ []
low Arguments = (As Kept) ∷ []
low ArgumentTail = (As (Through (Below Plain ∷ []))) ∷ (As Kept) ∷ []
low KeywordNext = (As Kept) ∷ []
low KeywordMore = (As Kept) ∷ []
low PlainArguments = (As Kept) ∷ []
low PlainArgumentTail = (As (Through (Below Plain ∷ []))) ∷ (As Kept) ∷ []
low Atom = []
low Parenthesised = (As (Head Bracket [])) ∷ []
low ParenthesisedTail = (As (Through (Below Bracket ∷ []))) ∷ (As (Head Bracket [])) ∷ []
low Bracketed = (As (Head Bracket [])) ∷ []
low BracketedTail = (As (Through (Below Bracket ∷ []))) ∷ (As (Head Bracket [])) ∷ []
low Braced = (As (Head Plain [])) ∷ []
low BracedTail = (As (Through (Below Plain ∷ []))) ∷ (As (Head Plain [])) ∷ []
low PairNext = (As Kept) ∷ []
low PairMore = (As Kept) ∷ []
low Comprehension = (As Kept) ∷ []
low Conditions = (As Kept) ∷ []
low Comprehensions = (As Kept) ∷ []
low AnyName = []

abbrev pub before_action : Action → List Ask → Option (List Ask)
before_action Drop qs = Some (NoNode ∷ qs)
before_action a [] = None
before_action a (q ∷ qs) = Some (map (ask_by q) (roles a) ++ qs)

abbrev pub before_symbol : Symbol → List Ask → Option (List Ask)
before_symbol (Tok k) [] = None
before_symbol (Tok k) (q ∷ qs) = Some qs
before_symbol (Do a) qs = before_action a qs
before_symbol (Non x) [] = None
before_symbol (Non x) (q ∷ qs) = Some (map (ask_least q) (low x) ++ qs)

abbrev pub before : Symbol → Option (List Ask) → Option (List Ask)
before s None = None
before s (Some qs) = before_symbol s qs

-- the last symbol first
abbrev pub least : List Symbol → Option (List Ask) → Option (List Ask)
least [] qs = qs
least (s ∷ symbols) qs = before s (least symbols qs)

abbrev pub gives_expression : List Kind → Bool
gives_expression (k ∷ []) = is_kind_of k AnExpr
gives_expression ks = false

abbrev pub gives_items : Nonterminal → Bool
gives_items ItemMore = true
gives_items ItemNext = true
gives_items x = false

-- what may be asked of the part that a nonterminal gives
abbrev pub may_ask : Nonterminal → Ask → Bool
may_ask x NoNode = true
may_ask x (AtLeast n) = true
may_ask x (WithinAtLeast n) = gives_items x
may_ask x (OpenAtLeast n) = gives_expression (gives x)

abbrev pub may_ask_first : Nonterminal → Option (List Ask) → Bool
may_ask_first x None = false
may_ask_first x (Some []) = false
may_ask_first x (Some (q ∷ qs)) = may_ask x q

abbrev pub are_askable : List Symbol → Option (List Ask) → Bool
are_askable [] qs = true
are_askable (Tok k ∷ symbols) qs = are_askable symbols qs
are_askable (Do a ∷ symbols) qs = are_askable symbols qs
are_askable (Non x ∷ symbols) qs = may_ask_first x (least symbols qs) && are_askable symbols qs

abbrev pub is_below : ℕ → ℕ → Bool
is_below zero n = true
is_below (suc m) zero = false
is_below (suc m) (suc n) = is_below m n

-- the first asks no more than the second
abbrev pub asks_no_more : Ask → Ask → Bool
asks_no_more q NoNode = true
asks_no_more (AtLeast m) (AtLeast n) = is_below m n
asks_no_more (WithinAtLeast m) (WithinAtLeast n) = is_below m n
asks_no_more (OpenAtLeast m) (OpenAtLeast n) = is_below m n
asks_no_more (OpenAtLeast m) (AtLeast n) = is_below m n
asks_no_more q r = false

abbrev pub ask_no_more : List Ask → List Ask → Bool
ask_no_more [] [] = true
ask_no_more (q ∷ qs) (r ∷ rs) = asks_no_more q r && ask_no_more qs rs
ask_no_more qs rs = false
