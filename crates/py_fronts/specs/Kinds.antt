-- What stands on the stack: of each part its kind, which is as much as actions and guards ask. Each action takes parts of some kinds
-- from the top and leaves others, and so does each nonterminal.
use Rattle.std.specs.Prelude.{ℕ, zero, suc, Bool, true, false, ◌&&◌, if◌then◌else◌, List, [], ◌∷◌, ◌++◌, Option, Some, None}
use Rattle.grammars.specs.Grammar.{Tok, Non, Do}
use Rattle.py_syntax.specs.Build.{Action, Drop, MakeLeaf, MakeTrue, MakeFalse, MakeNone, MakeEmptyTuple, MakeParenthesis, MakeTuple, AddItem, MakeEmptyList, MakeListOfOne, MakeList, BeginComprehension, BeginLoop, AddCondition, AddLoop, MakeEmptyDict, BeginDict, AddPair, MakeSetOfOne, MakeSet, MakeAttribute, BeginCall, AddArgument, AddKeyword, MakeSubscript, MakeSliceFrom, MakeSlice, AddUpper, MakeUnary, MakeBinary, MakeSign, MakeLongSign, MakeCompare, AddLink, MakeNot, MakeAnd, AddAnd, MakeOr, AddOr, MakeConditional, MakeLoopName, MakeLoopNames, AddLoopName, MakeLoopParenthesis, BeginBody, AddStmt, MakeExprStmt, MakeTargets, AddTargets, MakeAssign, MakeAugmented, MakePass, MakeBreak, MakeContinue, MakeReturn, MakeReturnValue, MakeRaise, MakeYield, BeginGlobal, AddGlobal, MakeAssert, MakeAssertMessage, MakeDelete, MakeIf, MakeElif, MakeElse, MakeWhile, MakeFor, BeginTry, CatchAll, Catch, CatchAs, MakeClassName, MakeClassWithin, BeginDef, AddParameter, AddDefault, EndDef, BeginClass, AddBase, EndClass, BeginImport, BeginFrom, AddImported, AddImportedAs}
use Rattle.py_syntax.specs.Table.{Symbol, Nonterminal, Module, TopStatement, Statements, Statement, Compound, Otherwise, Suite, Handler, HandlerAlias, MoreHandlers, QualifiedName, QualifiedNameTail, Definition, ParameterList, ParameterNext, ParameterItem, ParameterDefault, ClassDefinition, ClassBase, BaseList, ClassSuite, Member, Members, Brief, ImportStatement, ImportItem, ImportAlias, ImportNext, FromItem, FromNext, Line, LineTail, LineMore, Small, SmallTail, AssignTail, Returned, GlobalNext, AssertMessage, DeletedTail, DeletedAttribute, DeletedEnd, DeletedSubscript, DeletedSubscriptTail, Binding, BindingTail, BindingMore, BindingNext, ExpressionList, ExpressionListTail, ItemMore, ItemNext, Expression, ExpressionTail, OrTest, OrTail, OrMore, AndTest, AndTail, AndMore, NotTest, Comparison, ComparisonTail, ComparisonMore, ComparisonSign, IsTail, OrExpr, OrExprTail, XorExpr, XorExprTail, AndExpr, AndExprTail, ShiftExpr, ShiftTail, Sum, SumTail, Product, ProductTail, Factor, PowerExpr, PowerTail, Primary, PrimaryTail, AttributeTail, Subscription, SubscriptionTail, Upper, Arguments, ArgumentTail, KeywordNext, KeywordMore, PlainArguments, PlainArgumentTail, Atom, Parenthesised, ParenthesisedTail, Bracketed, BracketedTail, Braced, BracedTail, PairNext, PairMore, Comprehension, Conditions, Comprehensions, AnyName}
use Rattle.py_nesting.specs.Forms.{NameToken, LiteralToken, NameForm, SubscriptForm, TupleForm, ComprehensionForm, DictForm, CallForm, SliceForm, CompareForm, AndForm, OrForm, OneName, SomeNames, BareName, GlobalStmt, TryStmt, DefStmt, ClassStmt, is_target, are_targets}
use Rattle.py_nesting.specs.Shapes.{TokenShape, ExprShape, SignShape, LoopShape, LoopTargetShape, TargetsShape, ClassShape, StmtShape, BodyShape, Entry, entry}

pub data Kind : Type 0 where
  AToken : Kind
  ANameToken : Kind
  -- a number or a text
  ALiteralToken : Kind
  AnExpr : Kind
  ANameExpr : Kind
  -- an expression that may be a target
  ATarget : Kind
  -- one that may be targets
  TargetsExpr : Kind
  ASubscript : Kind
  -- a tuple that may take more items
  ATuple : Kind
  AComprehension : Kind
  ADict : Kind
  -- a call that may take more arguments by place
  ACall : Kind
  AnyCall : Kind
  -- a slice without its end
  AnOpenSlice : Kind
  ACompare : Kind
  AnAnd : Kind
  AnOr : Kind
  -- an operator of comparisons
  ASign : Kind
  -- a loop of a comprehension
  ALoop : Kind
  ALoopTarget : Kind
  OneNameTarget : Kind
  SomeNamesTarget : Kind
  -- what is assigned to
  TheTargets : Kind
  -- the name of a class
  AClass : Kind
  -- one without a module
  ABareClass : Kind
  AStmt : Kind
  AGlobal : Kind
  ATry : Kind
  -- a definition without its body
  ADef : Kind
  -- a class without its body
  AClassStmt : Kind
  ABody : Kind
  -- a body with a statement
  AFilledBody : Kind

-- a part is of a kind
abbrev pub fits : Kind → Entry → Bool
fits AToken (entry (TokenShape t) p) = true
fits ANameToken (entry (TokenShape NameToken) p) = true
fits ALiteralToken (entry (TokenShape LiteralToken) p) = true
fits AnExpr (entry (ExprShape f n) p) = true
fits ANameExpr (entry (ExprShape NameForm n) p) = true
fits ATarget (entry (ExprShape f n) p) = is_target f
fits TargetsExpr (entry (ExprShape f n) p) = are_targets f
fits ASubscript (entry (ExprShape SubscriptForm n) p) = true
fits ATuple (entry (ExprShape (TupleForm u) false) p) = true
fits AComprehension (entry (ExprShape ComprehensionForm n) p) = true
fits ADict (entry (ExprShape DictForm n) p) = true
fits ACall (entry (ExprShape CallForm false) p) = true
fits AnyCall (entry (ExprShape CallForm n) p) = true
fits AnOpenSlice (entry (ExprShape (SliceForm false) n) p) = true
fits ACompare (entry (ExprShape CompareForm n) p) = true
fits AnAnd (entry (ExprShape AndForm n) p) = true
fits AnOr (entry (ExprShape OrForm n) p) = true
fits ASign (entry SignShape p) = true
fits ALoop (entry LoopShape p) = true
fits ALoopTarget (entry (LoopTargetShape f n) p) = true
fits OneNameTarget (entry (LoopTargetShape OneName n) p) = true
fits SomeNamesTarget (entry (LoopTargetShape SomeNames true) p) = true
fits TheTargets (entry TargetsShape p) = true
fits AClass (entry (ClassShape f) p) = true
fits ABareClass (entry (ClassShape BareName) p) = true
fits AStmt (entry (StmtShape f n) p) = true
fits AGlobal (entry (StmtShape GlobalStmt n) p) = true
fits ATry (entry (StmtShape TryStmt n) p) = true
fits ADef (entry (StmtShape DefStmt false) p) = true
fits AClassStmt (entry (StmtShape ClassStmt false) p) = true
fits ABody (entry (BodyShape u) p) = true
fits AFilledBody (entry (BodyShape true) p) = true
fits k e = false

abbrev pub all_fit : List Kind → List Entry → Bool
all_fit [] [] = true
all_fit (k ∷ ks) (e ∷ es) = fits k e && all_fit ks es
all_fit ks es = false

-- each part of the first kind is one of the second
abbrev pub is_kind_of : Kind → Kind → Bool
is_kind_of AToken AToken = true
is_kind_of ANameToken ANameToken = true
is_kind_of ALiteralToken ALiteralToken = true
is_kind_of AnExpr AnExpr = true
is_kind_of ANameExpr ANameExpr = true
is_kind_of ATarget ATarget = true
is_kind_of TargetsExpr TargetsExpr = true
is_kind_of ASubscript ASubscript = true
is_kind_of ATuple ATuple = true
is_kind_of AComprehension AComprehension = true
is_kind_of ADict ADict = true
is_kind_of ACall ACall = true
is_kind_of AnyCall AnyCall = true
is_kind_of AnOpenSlice AnOpenSlice = true
is_kind_of ACompare ACompare = true
is_kind_of AnAnd AnAnd = true
is_kind_of AnOr AnOr = true
is_kind_of ASign ASign = true
is_kind_of ALoop ALoop = true
is_kind_of ALoopTarget ALoopTarget = true
is_kind_of OneNameTarget OneNameTarget = true
is_kind_of SomeNamesTarget SomeNamesTarget = true
is_kind_of TheTargets TheTargets = true
is_kind_of AClass AClass = true
is_kind_of ABareClass ABareClass = true
is_kind_of AStmt AStmt = true
is_kind_of AGlobal AGlobal = true
is_kind_of ATry ATry = true
is_kind_of ADef ADef = true
is_kind_of AClassStmt AClassStmt = true
is_kind_of ABody ABody = true
is_kind_of AFilledBody AFilledBody = true
is_kind_of ABareClass AClass = true
is_kind_of ACall AnExpr = true
is_kind_of ACall AnyCall = true
is_kind_of AClassStmt AStmt = true
is_kind_of ACompare AnExpr = true
is_kind_of AComprehension AnExpr = true
is_kind_of ADef AStmt = true
is_kind_of ADict AnExpr = true
is_kind_of AFilledBody ABody = true
is_kind_of AGlobal AStmt = true
is_kind_of ALiteralToken AToken = true
is_kind_of ANameExpr AnExpr = true
is_kind_of ANameToken AToken = true
is_kind_of ASubscript AnExpr = true
is_kind_of ATarget AnExpr = true
is_kind_of ATry AStmt = true
is_kind_of ATuple AnExpr = true
is_kind_of AnAnd AnExpr = true
is_kind_of AnOpenSlice AnExpr = true
is_kind_of AnOr AnExpr = true
is_kind_of AnyCall AnExpr = true
is_kind_of OneNameTarget ALoopTarget = true
is_kind_of SomeNamesTarget ALoopTarget = true
is_kind_of TargetsExpr AnExpr = true
is_kind_of k l = false

-- what is left of these kinds where parts of those others are taken from them
abbrev pub without : List Kind → List Kind → Option (List Kind)
without [] ks = Some ks
without (l ∷ ls) (k ∷ ks) = if is_kind_of k l then without ls ks else None
without ls ks = None

abbrev pub with_kinds : List Kind → Option (List Kind) → Option (List Kind)
with_kinds ls None = None
with_kinds ls (Some ks) = Some (ls ++ ks)

-- what an action takes, and what it leaves
abbrev pub needs : Action → List Kind
needs Drop = AToken ∷ []
needs MakeLeaf = ALiteralToken ∷ []
needs MakeTrue = AToken ∷ []
needs MakeFalse = AToken ∷ []
needs MakeNone = AToken ∷ []
needs MakeEmptyTuple = AToken ∷ AToken ∷ []
needs MakeParenthesis = AToken ∷ AnExpr ∷ AToken ∷ []
needs MakeTuple = AToken ∷ AnExpr ∷ []
needs AddItem = AnExpr ∷ ATuple ∷ []
needs MakeEmptyList = AToken ∷ AToken ∷ []
needs MakeListOfOne = AToken ∷ AnExpr ∷ AToken ∷ []
needs MakeList = AToken ∷ ATuple ∷ AToken ∷ []
needs BeginComprehension = AnExpr ∷ AToken ∷ []
needs BeginLoop = AnExpr ∷ AToken ∷ ALoopTarget ∷ AToken ∷ []
needs AddCondition = AnExpr ∷ AToken ∷ ALoop ∷ []
needs AddLoop = ALoop ∷ AComprehension ∷ []
needs MakeEmptyDict = AToken ∷ AToken ∷ []
needs BeginDict = AnExpr ∷ AToken ∷ AnExpr ∷ AToken ∷ []
needs AddPair = AnExpr ∷ AToken ∷ AnExpr ∷ ADict ∷ []
needs MakeSetOfOne = AToken ∷ AnExpr ∷ AToken ∷ []
needs MakeSet = AToken ∷ ATuple ∷ AToken ∷ []
needs MakeAttribute = ANameToken ∷ AToken ∷ AnExpr ∷ []
needs BeginCall = AToken ∷ AnExpr ∷ []
needs AddArgument = AnExpr ∷ ACall ∷ []
needs AddKeyword = AnExpr ∷ AToken ∷ ANameExpr ∷ AnyCall ∷ []
needs MakeSubscript = AToken ∷ AnExpr ∷ AToken ∷ AnExpr ∷ []
needs MakeSliceFrom = AToken ∷ AnExpr ∷ AToken ∷ AnExpr ∷ []
needs MakeSlice = AToken ∷ AToken ∷ AnExpr ∷ []
needs AddUpper = AToken ∷ AnExpr ∷ AnOpenSlice ∷ []
needs (MakeUnary o) = AnExpr ∷ AToken ∷ []
needs (MakeBinary o) = AnExpr ∷ AToken ∷ AnExpr ∷ []
needs (MakeSign o) = AToken ∷ []
needs (MakeLongSign o) = AToken ∷ AToken ∷ []
needs MakeCompare = AnExpr ∷ ASign ∷ AnExpr ∷ []
needs AddLink = AnExpr ∷ ASign ∷ ACompare ∷ []
needs MakeNot = AnExpr ∷ AToken ∷ []
needs MakeAnd = AnExpr ∷ AToken ∷ AnExpr ∷ []
needs AddAnd = AnExpr ∷ AToken ∷ AnAnd ∷ []
needs MakeOr = AnExpr ∷ AToken ∷ AnExpr ∷ []
needs AddOr = AnExpr ∷ AToken ∷ AnOr ∷ []
needs MakeConditional = AnExpr ∷ AToken ∷ AnExpr ∷ AToken ∷ AnExpr ∷ []
needs MakeLoopName = ANameToken ∷ []
needs MakeLoopNames = AToken ∷ OneNameTarget ∷ []
needs AddLoopName = ANameToken ∷ SomeNamesTarget ∷ []
needs MakeLoopParenthesis = AToken ∷ ALoopTarget ∷ AToken ∷ []
needs BeginBody = []
needs AddStmt = AStmt ∷ ABody ∷ []
needs MakeExprStmt = AnExpr ∷ []
needs MakeTargets = AToken ∷ TargetsExpr ∷ []
needs AddTargets = AToken ∷ TargetsExpr ∷ TheTargets ∷ []
needs MakeAssign = AnExpr ∷ TheTargets ∷ []
needs (MakeAugmented o) = AnExpr ∷ AToken ∷ ATarget ∷ []
needs MakePass = AToken ∷ []
needs MakeBreak = AToken ∷ []
needs MakeContinue = AToken ∷ []
needs MakeReturn = AToken ∷ []
needs MakeReturnValue = AnExpr ∷ AToken ∷ []
needs MakeRaise = AnExpr ∷ AToken ∷ []
needs MakeYield = AnExpr ∷ AToken ∷ []
needs BeginGlobal = AToken ∷ []
needs AddGlobal = ANameToken ∷ AGlobal ∷ []
needs MakeAssert = AnExpr ∷ AToken ∷ []
needs MakeAssertMessage = AnExpr ∷ AToken ∷ AnExpr ∷ AToken ∷ []
needs MakeDelete = ASubscript ∷ AToken ∷ []
needs MakeIf = ABody ∷ ABody ∷ AToken ∷ AnExpr ∷ AToken ∷ []
needs MakeElif = ABody ∷ ABody ∷ AToken ∷ AnExpr ∷ AToken ∷ []
needs MakeElse = ABody ∷ AToken ∷ AToken ∷ []
needs MakeWhile = ABody ∷ AToken ∷ AnExpr ∷ AToken ∷ []
needs MakeFor = ABody ∷ AToken ∷ AnExpr ∷ AToken ∷ ALoopTarget ∷ AToken ∷ []
needs BeginTry = ABody ∷ AToken ∷ AToken ∷ []
needs CatchAll = ABody ∷ AToken ∷ AToken ∷ ATry ∷ []
needs Catch = ABody ∷ AToken ∷ AClass ∷ AToken ∷ ATry ∷ []
needs CatchAs = ABody ∷ AToken ∷ ANameToken ∷ AToken ∷ AClass ∷ AToken ∷ ATry ∷ []
needs MakeClassName = ANameToken ∷ []
needs MakeClassWithin = ANameToken ∷ AToken ∷ ABareClass ∷ []
needs BeginDef = AToken ∷ ANameToken ∷ AToken ∷ []
needs AddParameter = ANameToken ∷ ADef ∷ []
needs AddDefault = AnExpr ∷ AToken ∷ ANameToken ∷ ADef ∷ []
needs EndDef = AFilledBody ∷ AToken ∷ AToken ∷ ADef ∷ []
needs BeginClass = ANameToken ∷ AToken ∷ []
needs AddBase = AToken ∷ AClass ∷ AToken ∷ AClassStmt ∷ []
needs EndClass = AFilledBody ∷ AToken ∷ AClassStmt ∷ []
needs BeginImport = AToken ∷ []
needs BeginFrom = AToken ∷ ANameToken ∷ AToken ∷ []
needs AddImported = ANameToken ∷ AStmt ∷ []
needs AddImportedAs = ANameToken ∷ AToken ∷ ANameToken ∷ AStmt ∷ []

abbrev pub leaves : Action → List Kind
leaves Drop = []
leaves MakeLeaf = AnExpr ∷ []
leaves MakeTrue = AnExpr ∷ []
leaves MakeFalse = AnExpr ∷ []
leaves MakeNone = AnExpr ∷ []
leaves MakeEmptyTuple = AnExpr ∷ []
leaves MakeParenthesis = AnExpr ∷ []
leaves MakeTuple = ATuple ∷ []
leaves AddItem = ATuple ∷ []
leaves MakeEmptyList = AnExpr ∷ []
leaves MakeListOfOne = AnExpr ∷ []
leaves MakeList = AnExpr ∷ []
leaves BeginComprehension = AComprehension ∷ []
leaves BeginLoop = ALoop ∷ []
leaves AddCondition = ALoop ∷ []
leaves AddLoop = AComprehension ∷ []
leaves MakeEmptyDict = AnExpr ∷ []
leaves BeginDict = ADict ∷ []
leaves AddPair = ADict ∷ []
leaves MakeSetOfOne = AnExpr ∷ []
leaves MakeSet = AnExpr ∷ []
leaves MakeAttribute = AnExpr ∷ []
leaves BeginCall = ACall ∷ []
leaves AddArgument = ACall ∷ []
leaves AddKeyword = AnyCall ∷ []
leaves MakeSubscript = ASubscript ∷ []
leaves MakeSliceFrom = AnOpenSlice ∷ []
leaves MakeSlice = AnOpenSlice ∷ []
leaves AddUpper = AnExpr ∷ []
leaves (MakeUnary o) = AnExpr ∷ []
leaves (MakeBinary o) = AnExpr ∷ []
leaves (MakeSign o) = ASign ∷ []
leaves (MakeLongSign o) = ASign ∷ []
leaves MakeCompare = ACompare ∷ []
leaves AddLink = ACompare ∷ []
leaves MakeNot = AnExpr ∷ []
leaves MakeAnd = AnAnd ∷ []
leaves AddAnd = AnAnd ∷ []
leaves MakeOr = AnOr ∷ []
leaves AddOr = AnOr ∷ []
leaves MakeConditional = AnExpr ∷ []
leaves MakeLoopName = OneNameTarget ∷ []
leaves MakeLoopNames = SomeNamesTarget ∷ []
leaves AddLoopName = SomeNamesTarget ∷ []
leaves MakeLoopParenthesis = ALoopTarget ∷ []
leaves BeginBody = ABody ∷ []
leaves AddStmt = AFilledBody ∷ []
leaves MakeExprStmt = AStmt ∷ []
leaves MakeTargets = TheTargets ∷ []
leaves AddTargets = TheTargets ∷ []
leaves MakeAssign = AStmt ∷ []
leaves (MakeAugmented o) = AStmt ∷ []
leaves MakePass = AStmt ∷ []
leaves MakeBreak = AStmt ∷ []
leaves MakeContinue = AStmt ∷ []
leaves MakeReturn = AStmt ∷ []
leaves MakeReturnValue = AStmt ∷ []
leaves MakeRaise = AStmt ∷ []
leaves MakeYield = AStmt ∷ []
leaves BeginGlobal = AGlobal ∷ []
leaves AddGlobal = AGlobal ∷ []
leaves MakeAssert = AStmt ∷ []
leaves MakeAssertMessage = AStmt ∷ []
leaves MakeDelete = AStmt ∷ []
leaves MakeIf = AStmt ∷ []
leaves MakeElif = AFilledBody ∷ []
leaves MakeElse = ABody ∷ []
leaves MakeWhile = AStmt ∷ []
leaves MakeFor = AStmt ∷ []
leaves BeginTry = ATry ∷ []
leaves CatchAll = ATry ∷ []
leaves Catch = ATry ∷ []
leaves CatchAs = ATry ∷ []
leaves MakeClassName = ABareClass ∷ []
leaves MakeClassWithin = AClass ∷ []
leaves BeginDef = ADef ∷ []
leaves AddParameter = ADef ∷ []
leaves AddDefault = ADef ∷ []
leaves EndDef = AStmt ∷ []
leaves BeginClass = AClassStmt ∷ []
leaves AddBase = AClassStmt ∷ []
leaves EndClass = AStmt ∷ []
leaves BeginImport = AStmt ∷ []
leaves BeginFrom = AStmt ∷ []
leaves AddImported = AStmt ∷ []
leaves AddImportedAs = AStmt ∷ []

-- a leaf of a name is a name
abbrev pub done : Action → List Kind → Option (List Kind)
done MakeLeaf (ANameToken ∷ ks) = Some (ANameExpr ∷ ks)
done a ks = with_kinds (leaves a) (without (needs a) ks)

-- a token by the number of its kind
abbrev pub token_kind : ℕ → Kind
token_kind zero = ANameToken
token_kind (suc zero) = ANameToken
token_kind (suc (suc zero)) = ALiteralToken
token_kind (suc (suc (suc zero))) = ALiteralToken
token_kind k = AToken

-- what a nonterminal takes, and what it gives
abbrev pub takes : Nonterminal → List Kind
takes Module = ABody ∷ []
takes TopStatement = ABody ∷ []
takes Statements = AFilledBody ∷ []
takes Statement = ABody ∷ []
takes Compound = []
takes Otherwise = []
takes Suite = []
takes Handler = AToken ∷ ATry ∷ []
takes HandlerAlias = AClass ∷ AToken ∷ ATry ∷ []
takes MoreHandlers = ATry ∷ []
takes QualifiedName = []
takes QualifiedNameTail = ABareClass ∷ []
takes Definition = []
takes ParameterList = ADef ∷ []
takes ParameterNext = ADef ∷ []
takes ParameterItem = ADef ∷ []
takes ParameterDefault = ANameToken ∷ ADef ∷ []
takes ClassDefinition = []
takes ClassBase = AClassStmt ∷ []
takes BaseList = AToken ∷ AClassStmt ∷ []
takes ClassSuite = []
takes Member = ABody ∷ []
takes Members = AFilledBody ∷ []
takes Brief = ABody ∷ []
takes ImportStatement = []
takes ImportItem = AStmt ∷ []
takes ImportAlias = ANameToken ∷ AStmt ∷ []
takes ImportNext = AStmt ∷ []
takes FromItem = AStmt ∷ []
takes FromNext = AStmt ∷ []
takes Line = ABody ∷ []
takes LineTail = AFilledBody ∷ []
takes LineMore = AFilledBody ∷ []
takes Small = []
takes SmallTail = AnExpr ∷ []
takes AssignTail = AnExpr ∷ TheTargets ∷ []
takes Returned = AToken ∷ []
takes GlobalNext = AGlobal ∷ []
takes AssertMessage = AnExpr ∷ AToken ∷ []
takes DeletedTail = AnExpr ∷ []
takes DeletedAttribute = AnExpr ∷ []
takes DeletedEnd = ASubscript ∷ []
takes DeletedSubscript = AToken ∷ AnExpr ∷ []
takes DeletedSubscriptTail = AnExpr ∷ AToken ∷ AnExpr ∷ []
takes Binding = []
takes BindingTail = OneNameTarget ∷ []
takes BindingMore = SomeNamesTarget ∷ []
takes BindingNext = SomeNamesTarget ∷ []
takes ExpressionList = []
takes ExpressionListTail = AnExpr ∷ []
takes ItemMore = ATuple ∷ []
takes ItemNext = ATuple ∷ []
takes Expression = []
takes ExpressionTail = AnExpr ∷ []
takes OrTest = []
takes OrTail = AnExpr ∷ []
takes OrMore = AnOr ∷ []
takes AndTest = []
takes AndTail = AnExpr ∷ []
takes AndMore = AnAnd ∷ []
takes NotTest = []
takes Comparison = []
takes ComparisonTail = AnExpr ∷ []
takes ComparisonMore = ACompare ∷ []
takes ComparisonSign = []
takes IsTail = AToken ∷ []
takes OrExpr = []
takes OrExprTail = AnExpr ∷ []
takes XorExpr = []
takes XorExprTail = AnExpr ∷ []
takes AndExpr = []
takes AndExprTail = AnExpr ∷ []
takes ShiftExpr = []
takes ShiftTail = AnExpr ∷ []
takes Sum = []
takes SumTail = AnExpr ∷ []
takes Product = []
takes ProductTail = AnExpr ∷ []
takes Factor = []
takes PowerExpr = []
takes PowerTail = AnExpr ∷ []
takes Primary = []
takes PrimaryTail = AnExpr ∷ []
takes AttributeTail = AnExpr ∷ []
takes Subscription = AToken ∷ AnExpr ∷ []
takes SubscriptionTail = AnExpr ∷ AToken ∷ AnExpr ∷ []
takes Upper = AnOpenSlice ∷ []
takes Arguments = ACall ∷ []
takes ArgumentTail = AnExpr ∷ ACall ∷ []
takes KeywordNext = AnyCall ∷ []
takes KeywordMore = AnyCall ∷ []
takes PlainArguments = ACall ∷ []
takes PlainArgumentTail = AnExpr ∷ ACall ∷ []
takes Atom = []
takes Parenthesised = AToken ∷ []
takes ParenthesisedTail = AnExpr ∷ AToken ∷ []
takes Bracketed = AToken ∷ []
takes BracketedTail = AnExpr ∷ AToken ∷ []
takes Braced = AToken ∷ []
takes BracedTail = AnExpr ∷ AToken ∷ []
takes PairNext = ADict ∷ []
takes PairMore = ADict ∷ []
takes Comprehension = AComprehension ∷ []
takes Conditions = ALoop ∷ []
takes Comprehensions = AComprehension ∷ []
takes AnyName = []

abbrev pub gives : Nonterminal → List Kind
gives Module = ABody ∷ []
gives TopStatement = AFilledBody ∷ []
gives Statements = AFilledBody ∷ []
gives Statement = AFilledBody ∷ []
gives Compound = AStmt ∷ []
gives Otherwise = ABody ∷ []
gives Suite = AFilledBody ∷ []
gives Handler = ATry ∷ []
gives HandlerAlias = ATry ∷ []
gives MoreHandlers = ATry ∷ []
gives QualifiedName = AClass ∷ []
gives QualifiedNameTail = AClass ∷ []
gives Definition = AStmt ∷ []
gives ParameterList = ADef ∷ []
gives ParameterNext = ADef ∷ []
gives ParameterItem = ADef ∷ []
gives ParameterDefault = ADef ∷ []
gives ClassDefinition = AStmt ∷ []
gives ClassBase = AClassStmt ∷ []
gives BaseList = AClassStmt ∷ []
gives ClassSuite = AFilledBody ∷ []
gives Member = AFilledBody ∷ []
gives Members = AFilledBody ∷ []
gives Brief = AFilledBody ∷ []
gives ImportStatement = AStmt ∷ []
gives ImportItem = AStmt ∷ []
gives ImportAlias = AStmt ∷ []
gives ImportNext = AStmt ∷ []
gives FromItem = AStmt ∷ []
gives FromNext = AStmt ∷ []
gives Line = AFilledBody ∷ []
gives LineTail = AFilledBody ∷ []
gives LineMore = AFilledBody ∷ []
gives Small = AStmt ∷ []
gives SmallTail = AStmt ∷ []
gives AssignTail = AStmt ∷ []
gives Returned = AStmt ∷ []
gives GlobalNext = AGlobal ∷ []
gives AssertMessage = AStmt ∷ []
gives DeletedTail = ASubscript ∷ []
gives DeletedAttribute = ASubscript ∷ []
gives DeletedEnd = ASubscript ∷ []
gives DeletedSubscript = ASubscript ∷ []
gives DeletedSubscriptTail = ASubscript ∷ []
gives Binding = ALoopTarget ∷ []
gives BindingTail = ALoopTarget ∷ []
gives BindingMore = ALoopTarget ∷ []
gives BindingNext = ALoopTarget ∷ []
gives ExpressionList = AnExpr ∷ []
gives ExpressionListTail = AnExpr ∷ []
gives ItemMore = ATuple ∷ []
gives ItemNext = ATuple ∷ []
gives Expression = AnExpr ∷ []
gives ExpressionTail = AnExpr ∷ []
gives OrTest = AnExpr ∷ []
gives OrTail = AnExpr ∷ []
gives OrMore = AnExpr ∷ []
gives AndTest = AnExpr ∷ []
gives AndTail = AnExpr ∷ []
gives AndMore = AnExpr ∷ []
gives NotTest = AnExpr ∷ []
gives Comparison = AnExpr ∷ []
gives ComparisonTail = AnExpr ∷ []
gives ComparisonMore = AnExpr ∷ []
gives ComparisonSign = ASign ∷ []
gives IsTail = ASign ∷ []
gives OrExpr = AnExpr ∷ []
gives OrExprTail = AnExpr ∷ []
gives XorExpr = AnExpr ∷ []
gives XorExprTail = AnExpr ∷ []
gives AndExpr = AnExpr ∷ []
gives AndExprTail = AnExpr ∷ []
gives ShiftExpr = AnExpr ∷ []
gives ShiftTail = AnExpr ∷ []
gives Sum = AnExpr ∷ []
gives SumTail = AnExpr ∷ []
gives Product = AnExpr ∷ []
gives ProductTail = AnExpr ∷ []
gives Factor = AnExpr ∷ []
gives PowerExpr = AnExpr ∷ []
gives PowerTail = AnExpr ∷ []
gives Primary = AnExpr ∷ []
gives PrimaryTail = AnExpr ∷ []
gives AttributeTail = AnExpr ∷ []
gives Subscription = AnExpr ∷ []
gives SubscriptionTail = AnExpr ∷ []
gives Upper = AnExpr ∷ []
gives Arguments = AnExpr ∷ []
gives ArgumentTail = AnExpr ∷ []
gives KeywordNext = AnExpr ∷ []
gives KeywordMore = AnExpr ∷ []
gives PlainArguments = AnExpr ∷ []
gives PlainArgumentTail = AnExpr ∷ []
gives Atom = AnExpr ∷ []
gives Parenthesised = AnExpr ∷ []
gives ParenthesisedTail = AnExpr ∷ []
gives Bracketed = AnExpr ∷ []
gives BracketedTail = AnExpr ∷ []
gives Braced = AnExpr ∷ []
gives BracedTail = AnExpr ∷ []
gives PairNext = ADict ∷ []
gives PairMore = ADict ∷ []
gives Comprehension = AComprehension ∷ []
gives Conditions = ALoop ∷ []
gives Comprehensions = AComprehension ∷ []
gives AnyName = ANameToken ∷ []

abbrev pub behind_one : Symbol → Option (List Kind) → Option (List Kind)
behind_one s None = None
behind_one (Tok k) (Some ks) = Some (token_kind k ∷ ks)
behind_one (Do a) (Some ks) = done a ks
behind_one (Non x) (Some ks) = with_kinds (gives x) (without (takes x) ks)

-- the kinds behind symbols, where each finds what it takes
abbrev pub behind : List Symbol → Option (List Kind) → Option (List Kind)
behind [] ks = ks
behind (s ∷ symbols) ks = behind symbols (behind_one s ks)
