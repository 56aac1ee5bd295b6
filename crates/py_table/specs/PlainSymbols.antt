-- What rows are made of, as the table has it. `tools/table.py` writes this file from `tools/grammar.txt`.
use Rattle.std.specs.Prelude.{List, map}
use Rattle.grammars.specs.Grammar.{Tok, Non, Do, Always, Where, Guard as PlainGuard, Row as PlainRow}
use Rattle.py_syntax.specs.Table as meaning
use Rattle.py_syntax.specs.Build as build
use Rattle.py_ast.specs.PlainOperators.{plain_unary, plain_binary, plain_comparison}
use Rattle.py_table.specs.declared.symbol.Nonterminal.{Nonterminal}
use Rattle.py_table.specs.declared.symbol.Nonterminal.TheVariants as nonterminal
use Rattle.py_table.specs.declared.symbol.Action.{Action}
use Rattle.py_table.specs.declared.symbol.Action.TheVariants as action
use Rattle.py_table.specs.declared.symbol.Guard.{Guard}
use Rattle.py_table.specs.declared.symbol.Guard.TheVariants as guard
use Rattle.py_table.specs.declared.symbol.Symbol.{Symbol}
use Rattle.py_table.specs.declared.symbol.Symbol.TheVariants as symbol
use Rattle.py_table.specs.declared.symbol.Row.{Row}

abbrev pub plain_nonterminal : Nonterminal → meaning.Nonterminal
plain_nonterminal nonterminal.Module = meaning.Module
plain_nonterminal nonterminal.TopStatement = meaning.TopStatement
plain_nonterminal nonterminal.Statements = meaning.Statements
plain_nonterminal nonterminal.Statement = meaning.Statement
plain_nonterminal nonterminal.Compound = meaning.Compound
plain_nonterminal nonterminal.Otherwise = meaning.Otherwise
plain_nonterminal nonterminal.Suite = meaning.Suite
plain_nonterminal nonterminal.Handler = meaning.Handler
plain_nonterminal nonterminal.HandlerAlias = meaning.HandlerAlias
plain_nonterminal nonterminal.MoreHandlers = meaning.MoreHandlers
plain_nonterminal nonterminal.QualifiedName = meaning.QualifiedName
plain_nonterminal nonterminal.QualifiedNameTail = meaning.QualifiedNameTail
plain_nonterminal nonterminal.Definition = meaning.Definition
plain_nonterminal nonterminal.ParameterList = meaning.ParameterList
plain_nonterminal nonterminal.ParameterNext = meaning.ParameterNext
plain_nonterminal nonterminal.ParameterItem = meaning.ParameterItem
plain_nonterminal nonterminal.ParameterDefault = meaning.ParameterDefault
plain_nonterminal nonterminal.ClassDefinition = meaning.ClassDefinition
plain_nonterminal nonterminal.ClassBase = meaning.ClassBase
plain_nonterminal nonterminal.BaseList = meaning.BaseList
plain_nonterminal nonterminal.ClassSuite = meaning.ClassSuite
plain_nonterminal nonterminal.Member = meaning.Member
plain_nonterminal nonterminal.Members = meaning.Members
plain_nonterminal nonterminal.Brief = meaning.Brief
plain_nonterminal nonterminal.ImportStatement = meaning.ImportStatement
plain_nonterminal nonterminal.ImportItem = meaning.ImportItem
plain_nonterminal nonterminal.ImportAlias = meaning.ImportAlias
plain_nonterminal nonterminal.ImportNext = meaning.ImportNext
plain_nonterminal nonterminal.FromItem = meaning.FromItem
plain_nonterminal nonterminal.FromNext = meaning.FromNext
plain_nonterminal nonterminal.Line = meaning.Line
plain_nonterminal nonterminal.LineTail = meaning.LineTail
plain_nonterminal nonterminal.LineMore = meaning.LineMore
plain_nonterminal nonterminal.Small = meaning.Small
plain_nonterminal nonterminal.SmallTail = meaning.SmallTail
plain_nonterminal nonterminal.AssignTail = meaning.AssignTail
plain_nonterminal nonterminal.Returned = meaning.Returned
plain_nonterminal nonterminal.GlobalNext = meaning.GlobalNext
plain_nonterminal nonterminal.AssertMessage = meaning.AssertMessage
plain_nonterminal nonterminal.DeletedTail = meaning.DeletedTail
plain_nonterminal nonterminal.DeletedAttribute = meaning.DeletedAttribute
plain_nonterminal nonterminal.DeletedEnd = meaning.DeletedEnd
plain_nonterminal nonterminal.DeletedSubscript = meaning.DeletedSubscript
plain_nonterminal nonterminal.DeletedSubscriptTail = meaning.DeletedSubscriptTail
plain_nonterminal nonterminal.Binding = meaning.Binding
plain_nonterminal nonterminal.BindingTail = meaning.BindingTail
plain_nonterminal nonterminal.BindingMore = meaning.BindingMore
plain_nonterminal nonterminal.BindingNext = meaning.BindingNext
plain_nonterminal nonterminal.ExpressionList = meaning.ExpressionList
plain_nonterminal nonterminal.ExpressionListTail = meaning.ExpressionListTail
plain_nonterminal nonterminal.ItemMore = meaning.ItemMore
plain_nonterminal nonterminal.ItemNext = meaning.ItemNext
plain_nonterminal nonterminal.Expression = meaning.Expression
plain_nonterminal nonterminal.ExpressionTail = meaning.ExpressionTail
plain_nonterminal nonterminal.OrTest = meaning.OrTest
plain_nonterminal nonterminal.OrTail = meaning.OrTail
plain_nonterminal nonterminal.OrMore = meaning.OrMore
plain_nonterminal nonterminal.AndTest = meaning.AndTest
plain_nonterminal nonterminal.AndTail = meaning.AndTail
plain_nonterminal nonterminal.AndMore = meaning.AndMore
plain_nonterminal nonterminal.NotTest = meaning.NotTest
plain_nonterminal nonterminal.Comparison = meaning.Comparison
plain_nonterminal nonterminal.ComparisonTail = meaning.ComparisonTail
plain_nonterminal nonterminal.ComparisonMore = meaning.ComparisonMore
plain_nonterminal nonterminal.ComparisonSign = meaning.ComparisonSign
plain_nonterminal nonterminal.IsTail = meaning.IsTail
plain_nonterminal nonterminal.OrExpr = meaning.OrExpr
plain_nonterminal nonterminal.OrExprTail = meaning.OrExprTail
plain_nonterminal nonterminal.XorExpr = meaning.XorExpr
plain_nonterminal nonterminal.XorExprTail = meaning.XorExprTail
plain_nonterminal nonterminal.AndExpr = meaning.AndExpr
plain_nonterminal nonterminal.AndExprTail = meaning.AndExprTail
plain_nonterminal nonterminal.ShiftExpr = meaning.ShiftExpr
plain_nonterminal nonterminal.ShiftTail = meaning.ShiftTail
plain_nonterminal nonterminal.Sum = meaning.Sum
plain_nonterminal nonterminal.SumTail = meaning.SumTail
plain_nonterminal nonterminal.Product = meaning.Product
plain_nonterminal nonterminal.ProductTail = meaning.ProductTail
plain_nonterminal nonterminal.Factor = meaning.Factor
plain_nonterminal nonterminal.PowerExpr = meaning.PowerExpr
plain_nonterminal nonterminal.PowerTail = meaning.PowerTail
plain_nonterminal nonterminal.Primary = meaning.Primary
plain_nonterminal nonterminal.PrimaryTail = meaning.PrimaryTail
plain_nonterminal nonterminal.AttributeTail = meaning.AttributeTail
plain_nonterminal nonterminal.Subscription = meaning.Subscription
plain_nonterminal nonterminal.SubscriptionTail = meaning.SubscriptionTail
plain_nonterminal nonterminal.Upper = meaning.Upper
plain_nonterminal nonterminal.Arguments = meaning.Arguments
plain_nonterminal nonterminal.ArgumentTail = meaning.ArgumentTail
plain_nonterminal nonterminal.KeywordNext = meaning.KeywordNext
plain_nonterminal nonterminal.KeywordMore = meaning.KeywordMore
plain_nonterminal nonterminal.PlainArguments = meaning.PlainArguments
plain_nonterminal nonterminal.PlainArgumentTail = meaning.PlainArgumentTail
plain_nonterminal nonterminal.Atom = meaning.Atom
plain_nonterminal nonterminal.Parenthesised = meaning.Parenthesised
plain_nonterminal nonterminal.ParenthesisedTail = meaning.ParenthesisedTail
plain_nonterminal nonterminal.Bracketed = meaning.Bracketed
plain_nonterminal nonterminal.BracketedTail = meaning.BracketedTail
plain_nonterminal nonterminal.Braced = meaning.Braced
plain_nonterminal nonterminal.BracedTail = meaning.BracedTail
plain_nonterminal nonterminal.PairNext = meaning.PairNext
plain_nonterminal nonterminal.PairMore = meaning.PairMore
plain_nonterminal nonterminal.Comprehension = meaning.Comprehension
plain_nonterminal nonterminal.Conditions = meaning.Conditions
plain_nonterminal nonterminal.Comprehensions = meaning.Comprehensions
plain_nonterminal nonterminal.AnyName = meaning.AnyName

abbrev pub plain_action : Action → build.Action
plain_action action.Drop = build.Drop
plain_action action.MakeLeaf = build.MakeLeaf
plain_action action.MakeTrue = build.MakeTrue
plain_action action.MakeFalse = build.MakeFalse
plain_action action.MakeNone = build.MakeNone
plain_action action.MakeEmptyTuple = build.MakeEmptyTuple
plain_action action.MakeParenthesis = build.MakeParenthesis
plain_action action.MakeTuple = build.MakeTuple
plain_action action.AddItem = build.AddItem
plain_action action.MakeEmptyList = build.MakeEmptyList
plain_action action.MakeListOfOne = build.MakeListOfOne
plain_action action.MakeList = build.MakeList
plain_action action.BeginComprehension = build.BeginComprehension
plain_action action.BeginLoop = build.BeginLoop
plain_action action.AddCondition = build.AddCondition
plain_action action.AddLoop = build.AddLoop
plain_action action.MakeEmptyDict = build.MakeEmptyDict
plain_action action.BeginDict = build.BeginDict
plain_action action.AddPair = build.AddPair
plain_action action.MakeSetOfOne = build.MakeSetOfOne
plain_action action.MakeSet = build.MakeSet
plain_action action.MakeAttribute = build.MakeAttribute
plain_action action.BeginCall = build.BeginCall
plain_action action.AddArgument = build.AddArgument
plain_action action.AddKeyword = build.AddKeyword
plain_action action.MakeSubscript = build.MakeSubscript
plain_action action.MakeSliceFrom = build.MakeSliceFrom
plain_action action.MakeSlice = build.MakeSlice
plain_action action.AddUpper = build.AddUpper
plain_action (action.MakeUnary o) = build.MakeUnary (plain_unary o)
plain_action (action.MakeBinary o) = build.MakeBinary (plain_binary o)
plain_action (action.MakeSign o) = build.MakeSign (plain_comparison o)
plain_action (action.MakeLongSign o) = build.MakeLongSign (plain_comparison o)
plain_action action.MakeCompare = build.MakeCompare
plain_action action.AddLink = build.AddLink
plain_action action.MakeNot = build.MakeNot
plain_action action.MakeAnd = build.MakeAnd
plain_action action.AddAnd = build.AddAnd
plain_action action.MakeOr = build.MakeOr
plain_action action.AddOr = build.AddOr
plain_action action.MakeConditional = build.MakeConditional
plain_action action.MakeLoopName = build.MakeLoopName
plain_action action.MakeLoopNames = build.MakeLoopNames
plain_action action.AddLoopName = build.AddLoopName
plain_action action.MakeLoopParenthesis = build.MakeLoopParenthesis
plain_action action.BeginBody = build.BeginBody
plain_action action.AddStmt = build.AddStmt
plain_action action.MakeExprStmt = build.MakeExprStmt
plain_action action.MakeTargets = build.MakeTargets
plain_action action.AddTargets = build.AddTargets
plain_action action.MakeAssign = build.MakeAssign
plain_action (action.MakeAugmented o) = build.MakeAugmented (plain_binary o)
plain_action action.MakePass = build.MakePass
plain_action action.MakeBreak = build.MakeBreak
plain_action action.MakeContinue = build.MakeContinue
plain_action action.MakeReturn = build.MakeReturn
plain_action action.MakeReturnValue = build.MakeReturnValue
plain_action action.MakeRaise = build.MakeRaise
plain_action action.MakeYield = build.MakeYield
plain_action action.BeginGlobal = build.BeginGlobal
plain_action action.AddGlobal = build.AddGlobal
plain_action action.MakeAssert = build.MakeAssert
plain_action action.MakeAssertMessage = build.MakeAssertMessage
plain_action action.MakeDelete = build.MakeDelete
plain_action action.MakeIf = build.MakeIf
plain_action action.MakeElif = build.MakeElif
plain_action action.MakeElse = build.MakeElse
plain_action action.MakeWhile = build.MakeWhile
plain_action action.MakeFor = build.MakeFor
plain_action action.BeginTry = build.BeginTry
plain_action action.CatchAll = build.CatchAll
plain_action action.Catch = build.Catch
plain_action action.CatchAs = build.CatchAs
plain_action action.MakeClassName = build.MakeClassName
plain_action action.MakeClassWithin = build.MakeClassWithin
plain_action action.BeginDef = build.BeginDef
plain_action action.AddParameter = build.AddParameter
plain_action action.AddDefault = build.AddDefault
plain_action action.EndDef = build.EndDef
plain_action action.BeginClass = build.BeginClass
plain_action action.AddBase = build.AddBase
plain_action action.EndClass = build.EndClass
plain_action action.BeginImport = build.BeginImport
plain_action action.BeginFrom = build.BeginFrom
plain_action action.AddImported = build.AddImported
plain_action action.AddImportedAs = build.AddImportedAs

abbrev pub plain_guard : Guard → PlainGuard build.Parts
plain_guard guard.Always = Always
plain_guard guard.AreTargetsLast = Where build.are_targets_last
plain_guard guard.IsTargetLast = Where build.is_target_last
plain_guard guard.IsNameLast = Where build.is_name_last

abbrev pub plain_symbol : Symbol → meaning.Symbol
plain_symbol (symbol.Read kind) = Tok kind
plain_symbol (symbol.Expand x) = Non (plain_nonterminal x)
plain_symbol (symbol.Do a) = Do (plain_action a)

abbrev pub plain_symbols : List Symbol → List meaning.Symbol
plain_symbols = map plain_symbol

abbrev pub plain_row : Row → PlainRow meaning.Nonterminal build.Action build.Parts
plain_row r = record { guard = plain_guard r.guard; symbols = plain_symbols r.symbols.now }
