-- What rows are made of, as the table of the profile's grammar with a construct added has it. `tools/additions.py` writes this file from `tools/grammar.txt` and `tools/additions.txt`.
use Rattle.std.specs.Prelude.{List, map}
use Rattle.grammars.specs.Grammar.{Tok, Non, Do, Always, Where, Guard as PlainGuard, Row as PlainRow}
use Rattle.py_constructs.specs.Table as meaning
use Rattle.py_constructs.specs.Values as value
use Rattle.py_table.specs.PlainSymbols as profile
use Rattle.py_table.specs.declared.symbol.Row.{Row as ProfileRow}
use Rattle.py_outside.specs.Sights.{Added}
use Rattle.py_table.specs.Sights.{sight_numbered}
use Rattle.py_outside.specs.declared.symbol.Name.{Name}
use Rattle.py_outside.specs.declared.symbol.Name.TheVariants as name
use Rattle.py_outside.specs.declared.symbol.Action.{Action}
use Rattle.py_outside.specs.declared.symbol.Action.TheVariants as action
use Rattle.py_outside.specs.declared.symbol.Guard.{Guard}
use Rattle.py_outside.specs.declared.symbol.Guard.TheVariants as guard
use Rattle.py_outside.specs.declared.symbol.Symbol.{Symbol}
use Rattle.py_outside.specs.declared.symbol.Symbol.TheVariants as symbol
use Rattle.py_outside.specs.declared.symbol.Row.{Row}
use Rattle.py_outside.specs.declared.symbol.Taken.{Taken}
use Rattle.py_outside.specs.declared.symbol.Taken.TheVariants as taken
use Rattle.py_outside.specs.declared.symbol.Rows.{Rows}
use Rattle.py_outside.specs.declared.symbol.Rows.TheVariants as rows
use Rattle.py_outside.specs.declared.symbol.AddedRow.{AddedRow}

abbrev pub plain_name : Name → meaning.Name
plain_name (name.Profile x) = meaning.Profile (profile.plain_nonterminal x)
plain_name name.NamedExpression = meaning.NamedExpression
plain_name name.Named = meaning.Named
plain_name name.NamedCondition = meaning.NamedCondition
plain_name name.NamedItemMore = meaning.NamedItemMore
plain_name name.NamedItemNext = meaning.NamedItemNext
plain_name name.LoopElse = meaning.LoopElse
plain_name name.TryTail = meaning.TryTail
plain_name name.HandlersEnd = meaning.HandlersEnd
plain_name name.BlockLine = meaning.BlockLine
plain_name name.BlockLineTail = meaning.BlockLineTail
plain_name name.BlockLineMore = meaning.BlockLineMore
plain_name name.BlockSmall = meaning.BlockSmall
plain_name name.DefinitionRest = meaning.DefinitionRest
plain_name name.Arrow = meaning.Arrow
plain_name name.ClassRest = meaning.ClassRest
plain_name name.BaseEnd = meaning.BaseEnd
plain_name name.BriefText = meaning.BriefText
plain_name name.FromModule = meaning.FromModule
plain_name name.FromDots = meaning.FromDots
plain_name name.FromItems = meaning.FromItems
plain_name name.ImportTail = meaning.ImportTail
plain_name name.Raised = meaning.Raised
plain_name name.RaisedTail = meaning.RaisedTail
plain_name name.Yielded = meaning.Yielded
plain_name name.Deleted = meaning.Deleted
plain_name name.DeletedSlice = meaning.DeletedSlice
plain_name name.BindingEnd = meaning.BindingEnd
plain_name name.Assigned = meaning.Assigned
plain_name name.RightSide = meaning.RightSide
plain_name name.UpperEnd = meaning.UpperEnd
plain_name name.TextTail = meaning.TextTail
plain_name name.FirstPairNext = meaning.FirstPairNext
plain_name name.MoreBytes = meaning.MoreBytes
plain_name name.MoreTexts = meaning.MoreTexts
plain_name name.Decorated = meaning.Decorated
plain_name name.DecoratedMember = meaning.DecoratedMember
plain_name name.LambdaParameters = meaning.LambdaParameters
plain_name name.LambdaDefault = meaning.LambdaDefault
plain_name name.LambdaNext = meaning.LambdaNext
plain_name name.StarName = meaning.StarName
plain_name name.StarNext = meaning.StarNext
plain_name name.StarMore = meaning.StarMore
plain_name name.StarEnd = meaning.StarEnd
plain_name name.ArgumentsNext = meaning.ArgumentsNext
plain_name name.PairsNext = meaning.PairsNext
plain_name name.PairsMore = meaning.PairsMore
plain_name name.PlainNext = meaning.PlainNext
plain_name name.PlainPairsNext = meaning.PlainPairsNext
plain_name name.PlainPairsMore = meaning.PlainPairsMore
plain_name name.PlainKeywordNext = meaning.PlainKeywordNext
plain_name name.PlainKeywordMore = meaning.PlainKeywordMore
plain_name name.AnnotatedDefault = meaning.AnnotatedDefault
plain_name name.AnnotatedValue = meaning.AnnotatedValue
plain_name name.AnnotatedMember = meaning.AnnotatedMember
plain_name name.AnnotatedBracket = meaning.AnnotatedBracket
plain_name name.ClassTargets = meaning.ClassTargets
plain_name name.ClassItems = meaning.ClassItems
plain_name name.ClassItemNext = meaning.ClassItemNext
plain_name name.ClassBracket = meaning.ClassBracket
plain_name name.Target = meaning.Target
plain_name name.TargetTail = meaning.TargetTail
plain_name name.TargetAttribute = meaning.TargetAttribute
plain_name name.TargetEnd = meaning.TargetEnd
plain_name name.TargetSubscript = meaning.TargetSubscript
plain_name name.TargetSubscriptTail = meaning.TargetSubscriptTail
plain_name name.MoreBases = meaning.MoreBases
plain_name name.BasesNext = meaning.BasesNext
plain_name name.ClassKeywordBase = meaning.ClassKeywordBase
plain_name name.ClassKeywordTail = meaning.ClassKeywordTail
plain_name name.ClassKeywordNext = meaning.ClassKeywordNext
plain_name name.ClassKeywordMore = meaning.ClassKeywordMore
plain_name name.Step = meaning.Step
plain_name name.UpperStep = meaning.UpperStep
plain_name name.WithItem = meaning.WithItem
plain_name name.WithTarget = meaning.WithTarget
plain_name name.WithBinding = meaning.WithBinding
plain_name name.WithBracket = meaning.WithBracket
plain_name name.WithNext = meaning.WithNext
plain_name name.AsyncStatement = meaning.AsyncStatement
plain_name name.YieldValue = meaning.YieldValue
plain_name name.HeadedLoop = meaning.HeadedLoop
plain_name name.LoopConditions = meaning.LoopConditions
plain_name name.LoopMore = meaning.LoopMore
plain_name name.WalrusArgument = meaning.WalrusArgument
plain_name name.PlainWalrusArgument = meaning.PlainWalrusArgument
plain_name name.WalrusSet = meaning.WalrusSet
plain_name name.RelativeModule = meaning.RelativeModule
plain_name name.ExceptNext = meaning.ExceptNext
plain_name name.ExceptMore = meaning.ExceptMore
plain_name name.DeletedRest = meaning.DeletedRest
plain_name name.DeletedNames = meaning.DeletedNames
plain_name name.DeletedNamesNext = meaning.DeletedNamesNext
plain_name name.DeletedName = meaning.DeletedName
plain_name name.StarTargets = meaning.StarTargets
plain_name name.StarTargetMore = meaning.StarTargetMore

abbrev pub plain_action : Action → value.Action
plain_action (action.Own a) = value.Own (profile.plain_action a)
plain_action action.Head = value.Head
plain_action action.Hold = value.Hold
plain_action action.Forget = value.Forget
plain_action action.Plain = value.Plain
plain_action action.TellTargets = value.TellTargets
plain_action action.TellLoop = value.TellLoop
plain_action action.HoldSlice = value.HoldSlice

abbrev pub plain_guard : value.Widening → Guard → PlainGuard value.Value
plain_guard w guard.Always = Always
plain_guard w guard.IsName = Where value.is_name
plain_guard w guard.IsTarget = Where value.is_target
plain_guard w guard.AreTargets = Where value.are_targets
plain_guard w guard.IsAnnotable = Where value.is_annotable
plain_guard w guard.IsDeleted = Where value.is_deleted
plain_guard w guard.IsBare = Where value.is_bare
plain_guard w guard.IsFirstArgument = Where value.is_first_argument
plain_guard w guard.MayBeTargets = Where value.may_be_targets
plain_guard w guard.IsTargetWith = Where (value.is_target_with w)
plain_guard w guard.AreTargetsWith = Where (value.are_targets_with w)

abbrev pub plain_symbol : Symbol → meaning.Symbol
plain_symbol (symbol.Read kind) = Tok kind
plain_symbol (symbol.Expand x) = Non (plain_name x)
plain_symbol (symbol.Do a) = Do (plain_action a)

abbrev pub plain_symbols : List Symbol → List meaning.Symbol
plain_symbols = map plain_symbol

abbrev pub plain_row : value.Widening → Row → PlainRow meaning.Name value.Action value.Value
plain_row w r = record { guard = plain_guard w r.guard; symbols = plain_symbols r.symbols.now }

-- a row of the profile's table, without its guard
abbrev pub plain_profile_row : ProfileRow → PlainRow meaning.Name value.Action value.Value
plain_profile_row r = meaning.row (map meaning.profile_symbol (profile.plain_symbols r.symbols.now))

abbrev pub plain_taken : value.Widening → Taken → PlainRow meaning.Name value.Action value.Value
plain_taken w (taken.Profile r) = plain_profile_row r.now
plain_taken w (taken.Own r) = plain_row w r.now

abbrev pub plain_rows : value.Widening → Rows → List (PlainRow meaning.Name value.Action value.Value)
plain_rows w (rows.Profile l) = meaning.profile_rows (map profile.plain_row l.now)
plain_rows w (rows.Own l) = map (plain_row w) l.now

abbrev pub plain_added : value.Widening → AddedRow → Added
plain_added w r = record { name = meaning.number_of (plain_name r.name); sights = map sight_numbered r.sights.now; row = plain_row w r.row }
