-- The profile's grammar with one construct added, as a table: the profile's rows, with a name for each place where a construct may
-- come, and the rows that each construct adds. The sets by which one token of sight decides hold with any of them.
-- `tools/additions.py` writes this file from `tools/grammar.txt` and `tools/additions.txt`.
use Rattle.std.specs.Prelude.{ℕ, Bool, true, false, ◌==◌, if◌then◌else◌, List, [], ◌∷◌, ◌++◌, map, Some, None}
use Rattle.grammars.specs.Grammar.{Sym, Tok, Non, Do, Always, Where, Row, Grammar, Sight}
use Rattle.grammars.specs.Sets.{Sets}
use Rattle.py_syntax.specs.Token.{Token}
use Rattle.py_syntax.specs.Kinds.{kind_of, specimen}
use Rattle.py_syntax.specs.Tree.{Add, BitAnd, BitOr, BitXor, FloorDivide, LeftShift, Modulo, Multiply, Power, RightShift, Subtract}
use Rattle.py_syntax.specs.Build as b
use Rattle.py_syntax.specs.Table as t
use Rattle.py_constructs.specs.Construct as c
use Rattle.py_constructs.specs.Values.{Value, take_in, Action, Own, Head, Hold, Forget, Plain, TellTargets, TellLoop, HoldSlice, act, Widening, NoWidening, Brackets, Slices, are_targets, are_targets_with, is_annotable, is_bare, is_deleted, is_first_argument, is_name, is_target, is_target_with, may_be_targets}

pub data Name : Type 0 where
  Profile : (nonterminal : t.Nonterminal) → Name
  NamedExpression : Name
  Named : Name
  NamedCondition : Name
  NamedItemMore : Name
  NamedItemNext : Name
  LoopElse : Name
  TryTail : Name
  HandlersEnd : Name
  BlockLine : Name
  BlockLineTail : Name
  BlockLineMore : Name
  BlockSmall : Name
  DefinitionRest : Name
  Arrow : Name
  ClassRest : Name
  BaseEnd : Name
  BriefText : Name
  FromModule : Name
  FromDots : Name
  FromItems : Name
  ImportTail : Name
  Raised : Name
  RaisedTail : Name
  Yielded : Name
  Deleted : Name
  DeletedSlice : Name
  BindingEnd : Name
  Assigned : Name
  RightSide : Name
  UpperEnd : Name
  TextTail : Name
  FirstPairNext : Name
  MoreBytes : Name
  MoreTexts : Name
  Decorated : Name
  DecoratedMember : Name
  LambdaParameters : Name
  LambdaDefault : Name
  LambdaNext : Name
  StarName : Name
  StarNext : Name
  StarMore : Name
  StarEnd : Name
  ArgumentsNext : Name
  PairsNext : Name
  PairsMore : Name
  PlainNext : Name
  PlainPairsNext : Name
  PlainPairsMore : Name
  PlainKeywordNext : Name
  PlainKeywordMore : Name
  AnnotatedDefault : Name
  AnnotatedValue : Name
  AnnotatedMember : Name
  AnnotatedBracket : Name
  ClassTargets : Name
  ClassItems : Name
  ClassItemNext : Name
  ClassBracket : Name
  Target : Name
  TargetTail : Name
  TargetAttribute : Name
  TargetEnd : Name
  TargetSubscript : Name
  TargetSubscriptTail : Name
  MoreBases : Name
  BasesNext : Name
  ClassKeywordBase : Name
  ClassKeywordTail : Name
  ClassKeywordNext : Name
  ClassKeywordMore : Name
  Step : Name
  UpperStep : Name
  WithItem : Name
  WithTarget : Name
  WithBinding : Name
  WithBracket : Name
  WithNext : Name
  AsyncStatement : Name
  YieldValue : Name
  HeadedLoop : Name
  LoopConditions : Name
  LoopMore : Name
  WalrusArgument : Name
  PlainWalrusArgument : Name
  WalrusSet : Name
  RelativeModule : Name
  ExceptNext : Name
  ExceptMore : Name
  DeletedRest : Name
  DeletedNames : Name
  DeletedNamesNext : Name
  DeletedName : Name
  StarTargets : Name
  StarTargetMore : Name

abbrev pub Symbol : Type 0
Symbol = Sym Name Action

abbrev pub row : List Symbol → Row Name Action Value
row symbols = record { guard = Always; symbols = symbols }

abbrev pub guarded : (Value → Bool) → List Symbol → Row Name Action Value
guarded test symbols = record { guard = Where test; symbols = symbols }

abbrev pub profile_symbol : t.Symbol → Symbol
profile_symbol (Tok k) = Tok k
profile_symbol (Non x) = Non (Profile x)
profile_symbol (Do a) = Do (Own a)

-- rows of the profile's table, of which none of these has a guard
abbrev pub profile_rows : List (Row t.Nonterminal b.Action b.Parts) → List (Row Name Action Value)
profile_rows [] = []
profile_rows (r ∷ rows) = row (map profile_symbol r.symbols) ∷ profile_rows rows

-- by what else targets may be
abbrev pub rows_between : Widening → t.Nonterminal → List (Row Name Action Value)
rows_between w t.Compound =
    row (Tok 31 ∷ Non NamedExpression ∷ Tok 88 ∷ Non (Profile t.Suite) ∷ Non (Profile t.Otherwise) ∷ Do (Own b.MakeIf) ∷ [])
    ∷ row (Tok 43 ∷ Non NamedExpression ∷ Tok 88 ∷ Non (Profile t.Suite) ∷ Non LoopElse ∷ Do (Own b.MakeWhile) ∷ [])
    ∷ row (Tok 28 ∷ Non (Profile t.Binding) ∷ Tok 33 ∷ Non (Profile t.ExpressionList) ∷ Tok 88 ∷ Non (Profile t.Suite) ∷ Non LoopElse ∷ Do (Own b.MakeFor) ∷ [])
    ∷ row (Tok 42 ∷ Tok 88 ∷ Non (Profile t.Suite) ∷ Do (Own b.BeginTry) ∷ Non TryTail ∷ [])
    ∷ []
rows_between w t.Otherwise =
    row (Do (Own b.BeginBody) ∷ [])
    ∷ row (Tok 25 ∷ Tok 88 ∷ Non (Profile t.Suite) ∷ Do (Own b.MakeElse) ∷ [])
    ∷ row (Tok 24 ∷ Non NamedExpression ∷ Tok 88 ∷ Non (Profile t.Suite) ∷ Non (Profile t.Otherwise) ∷ Do (Own b.MakeElif) ∷ [])
    ∷ []
rows_between w t.Suite =
    row (Do (Own b.BeginBody) ∷ Non BlockLine ∷ [])
    ∷ row (Tok 8 ∷ Do (Own b.Drop) ∷ Tok 9 ∷ Do (Own b.Drop) ∷ Do (Own b.BeginBody) ∷ Non (Profile t.Statement) ∷ Non (Profile t.Statements) ∷ Tok 10 ∷ Do (Own b.Drop) ∷ [])
    ∷ []
rows_between w t.Statement =
    row (Non BlockLine ∷ [])
    ∷ row (Non (Profile t.Compound) ∷ Do (Own b.AddStmt) ∷ [])
    ∷ []
rows_between w t.Handler =
    row (Tok 88 ∷ Non (Profile t.Suite) ∷ Do (Own b.CatchAll) ∷ Non HandlersEnd ∷ [])
    ∷ row (Non (Profile t.QualifiedName) ∷ Non (Profile t.HandlerAlias) ∷ [])
    ∷ []
rows_between w t.MoreHandlers =
    row (Non HandlersEnd ∷ [])
    ∷ row (Tok 26 ∷ Non (Profile t.Handler) ∷ [])
    ∷ []
rows_between w t.Definition =
    row (Tok 22 ∷ Non DefinitionRest ∷ [])
    ∷ []
rows_between w t.ClassDefinition =
    row (Tok 20 ∷ Non ClassRest ∷ [])
    ∷ []
rows_between w t.BaseList =
    row (Tok 82 ∷ Do (Own b.Drop) ∷ Do (Own b.Drop) ∷ [])
    ∷ row (Non (Profile t.QualifiedName) ∷ Non BaseEnd ∷ [])
    ∷ []
rows_between w t.Brief =
    row (Tok 39 ∷ Do (Own b.MakePass) ∷ Do (Own b.AddStmt) ∷ Tok 8 ∷ Do (Own b.Drop) ∷ [])
    ∷ row (Tok 3 ∷ Do (Own b.MakeLeaf) ∷ Non BriefText ∷ [])
    ∷ []
rows_between w t.ImportStatement =
    row (Tok 32 ∷ Do (Own b.BeginImport) ∷ Non (Profile t.ImportItem) ∷ Non (Profile t.ImportNext) ∷ Tok 8 ∷ Do (Own b.Drop) ∷ [])
    ∷ row (Tok 29 ∷ Non FromModule ∷ Tok 32 ∷ Do (Own b.BeginFrom) ∷ Non FromItems ∷ Tok 8 ∷ Do (Own b.Drop) ∷ [])
    ∷ []
rows_between w t.ImportItem =
    row (Tok 1 ∷ Non ImportTail ∷ [])
    ∷ []
rows_between w t.Small =
    row (Non (Profile t.ExpressionList) ∷ Non (Profile t.SmallTail) ∷ [])
    ∷ row (Tok 39 ∷ Do (Own b.MakePass) ∷ [])
    ∷ row (Tok 19 ∷ Do (Own b.MakeBreak) ∷ [])
    ∷ row (Tok 21 ∷ Do (Own b.MakeContinue) ∷ [])
    ∷ row (Tok 41 ∷ Non (Profile t.Returned) ∷ [])
    ∷ row (Tok 40 ∷ Non Raised ∷ [])
    ∷ row (Tok 45 ∷ Non Yielded ∷ [])
    ∷ row (Tok 30 ∷ Do (Own b.BeginGlobal) ∷ Non (Profile t.AnyName) ∷ Do (Own b.AddGlobal) ∷ Non (Profile t.GlobalNext) ∷ [])
    ∷ row (Tok 16 ∷ Non (Profile t.Expression) ∷ Non (Profile t.AssertMessage) ∷ [])
    ∷ row (Tok 23 ∷ Non (Profile t.Atom) ∷ Non Deleted ∷ [])
    ∷ []
rows_between w t.SmallTail =
    row (Do (Own b.MakeExprStmt) ∷ [])
    ∷ guarded (are_targets_with w) (Tok 91 ∷ Do TellTargets ∷ Do (Own b.MakeTargets) ∷ Non Assigned ∷ [])
    ∷ guarded (is_target_with w) (Tok 65 ∷ Do TellTargets ∷ Non RightSide ∷ Do (Own (b.MakeAugmented BitOr)) ∷ [])
    ∷ guarded (is_target_with w) (Tok 66 ∷ Do TellTargets ∷ Non RightSide ∷ Do (Own (b.MakeAugmented BitXor)) ∷ [])
    ∷ guarded (is_target_with w) (Tok 64 ∷ Do TellTargets ∷ Non RightSide ∷ Do (Own (b.MakeAugmented BitAnd)) ∷ [])
    ∷ guarded (is_target_with w) (Tok 49 ∷ Do TellTargets ∷ Non RightSide ∷ Do (Own (b.MakeAugmented LeftShift)) ∷ [])
    ∷ guarded (is_target_with w) (Tok 50 ∷ Do TellTargets ∷ Non RightSide ∷ Do (Own (b.MakeAugmented RightShift)) ∷ [])
    ∷ guarded (is_target_with w) (Tok 60 ∷ Do TellTargets ∷ Non RightSide ∷ Do (Own (b.MakeAugmented Add)) ∷ [])
    ∷ guarded (is_target_with w) (Tok 61 ∷ Do TellTargets ∷ Non RightSide ∷ Do (Own (b.MakeAugmented Subtract)) ∷ [])
    ∷ guarded (is_target_with w) (Tok 62 ∷ Do TellTargets ∷ Non RightSide ∷ Do (Own (b.MakeAugmented Multiply)) ∷ [])
    ∷ guarded (is_target_with w) (Tok 47 ∷ Do TellTargets ∷ Non RightSide ∷ Do (Own (b.MakeAugmented FloorDivide)) ∷ [])
    ∷ guarded (is_target_with w) (Tok 63 ∷ Do TellTargets ∷ Non RightSide ∷ Do (Own (b.MakeAugmented Modulo)) ∷ [])
    ∷ guarded (is_target_with w) (Tok 48 ∷ Do TellTargets ∷ Non RightSide ∷ Do (Own (b.MakeAugmented Power)) ∷ [])
    ∷ []
rows_between w t.AssignTail =
    row (Do (Own b.MakeAssign) ∷ [])
    ∷ guarded (are_targets_with w) (Tok 91 ∷ Do TellTargets ∷ Do (Own b.AddTargets) ∷ Non Assigned ∷ [])
    ∷ []
rows_between w t.DeletedSubscript =
    row (Non (Profile t.Expression) ∷ Non (Profile t.DeletedSubscriptTail) ∷ [])
    ∷ row (Tok 88 ∷ Do (Own b.MakeSlice) ∷ Non (Profile t.Upper) ∷ Non DeletedSlice ∷ [])
    ∷ []
rows_between w t.DeletedSubscriptTail =
    row (Tok 84 ∷ Do (Own b.MakeSubscript) ∷ Non (Profile t.DeletedEnd) ∷ [])
    ∷ row (Tok 88 ∷ Do (Own b.MakeSliceFrom) ∷ Non (Profile t.Upper) ∷ Non DeletedSlice ∷ [])
    ∷ []
rows_between w t.Binding =
    row (Non (Profile t.AnyName) ∷ Do (Own b.MakeLoopName) ∷ Non (Profile t.BindingTail) ∷ [])
    ∷ row (Tok 81 ∷ Non (Profile t.Binding) ∷ Tok 82 ∷ Do (Own b.MakeLoopParenthesis) ∷ Non BindingEnd ∷ [])
    ∷ []
rows_between w t.Upper =
    row (Tok 84 ∷ Do (Own b.Drop) ∷ [])
    ∷ row (Non (Profile t.Expression) ∷ Non UpperEnd ∷ [])
    ∷ []
rows_between w t.ArgumentTail =
    row (Do (Own b.AddArgument) ∷ [])
    ∷ row (Tok 87 ∷ Do (Own b.Drop) ∷ Do (Own b.AddArgument) ∷ Non (Profile t.Arguments) ∷ [])
    ∷ guarded is_name (Tok 91 ∷ Non (Profile t.Expression) ∷ Do (Own b.AddKeyword) ∷ Non (Profile t.KeywordNext) ∷ [])
    ∷ []
rows_between w t.Atom =
    row (Non (Profile t.AnyName) ∷ Do (Own b.MakeLeaf) ∷ [])
    ∷ row (Tok 2 ∷ Do (Own b.MakeLeaf) ∷ [])
    ∷ row (Tok 3 ∷ Do (Own b.MakeLeaf) ∷ Non TextTail ∷ [])
    ∷ row (Tok 13 ∷ Do (Own b.MakeTrue) ∷ [])
    ∷ row (Tok 11 ∷ Do (Own b.MakeFalse) ∷ [])
    ∷ row (Tok 12 ∷ Do (Own b.MakeNone) ∷ [])
    ∷ row (Tok 81 ∷ Non (Profile t.Parenthesised) ∷ [])
    ∷ row (Tok 83 ∷ Non (Profile t.Bracketed) ∷ [])
    ∷ row (Tok 85 ∷ Non (Profile t.Braced) ∷ [])
    ∷ []
rows_between w t.Parenthesised =
    row (Tok 82 ∷ Do (Own b.MakeEmptyTuple) ∷ [])
    ∷ row (Non NamedExpression ∷ Non (Profile t.ParenthesisedTail) ∷ [])
    ∷ []
rows_between w t.ParenthesisedTail =
    row (Tok 82 ∷ Do (Own b.MakeParenthesis) ∷ [])
    ∷ row (Tok 87 ∷ Do (Own b.MakeTuple) ∷ Non NamedItemMore ∷ Tok 82 ∷ Do (Own b.MakeParenthesis) ∷ [])
    ∷ []
rows_between w t.Bracketed =
    row (Tok 84 ∷ Do (Own b.MakeEmptyList) ∷ [])
    ∷ row (Non NamedExpression ∷ Non (Profile t.BracketedTail) ∷ [])
    ∷ []
rows_between w t.BracketedTail =
    row (Tok 84 ∷ Do (Own b.MakeListOfOne) ∷ [])
    ∷ row (Tok 87 ∷ Do (Own b.MakeTuple) ∷ Non NamedItemMore ∷ Tok 84 ∷ Do (Own b.MakeList) ∷ [])
    ∷ row (Do (Own b.BeginComprehension) ∷ Non (Profile t.Comprehension) ∷ Non (Profile t.Comprehensions) ∷ Tok 84 ∷ Do (Own b.Drop) ∷ [])
    ∷ []
rows_between w t.BracedTail =
    row (Tok 86 ∷ Do (Own b.MakeSetOfOne) ∷ [])
    ∷ row (Tok 87 ∷ Do (Own b.MakeTuple) ∷ Non NamedItemMore ∷ Tok 86 ∷ Do (Own b.MakeSet) ∷ [])
    ∷ row (Tok 88 ∷ Non (Profile t.Expression) ∷ Do (Own b.BeginDict) ∷ Non FirstPairNext ∷ Tok 86 ∷ Do (Own b.Drop) ∷ [])
    ∷ []
rows_between w t.Conditions =
    row []
    ∷ row (Tok 31 ∷ Non (Profile t.OrTest) ∷ Non NamedCondition ∷ Do (Own b.AddCondition) ∷ Non (Profile t.Conditions) ∷ [])
    ∷ []
rows_between w x = profile_rows (t.rows x)

abbrev pub rows_of : Widening → Name → List (Row Name Action Value)
rows_of w (Profile x) = rows_between w x
rows_of w NamedExpression =
    row (Non (Profile t.Expression) ∷ Non Named ∷ [])
    ∷ []
rows_of w Named =
    row []
    ∷ []
rows_of w NamedCondition =
    row []
    ∷ []
rows_of w NamedItemMore =
    row []
    ∷ row (Non NamedExpression ∷ Do (Own b.AddItem) ∷ Non NamedItemNext ∷ [])
    ∷ []
rows_of w NamedItemNext =
    row []
    ∷ row (Tok 87 ∷ Do (Own b.Drop) ∷ Non NamedItemMore ∷ [])
    ∷ []
rows_of w LoopElse =
    row []
    ∷ []
rows_of w TryTail =
    row (Tok 26 ∷ Non (Profile t.Handler) ∷ [])
    ∷ []
rows_of w HandlersEnd =
    row []
    ∷ []
rows_of w BlockLine =
    row (Non BlockSmall ∷ Do (Own b.AddStmt) ∷ Non BlockLineTail ∷ [])
    ∷ []
rows_of w BlockLineTail =
    row (Tok 8 ∷ Do (Own b.Drop) ∷ [])
    ∷ row (Tok 90 ∷ Do (Own b.Drop) ∷ Non BlockLineMore ∷ [])
    ∷ []
rows_of w BlockLineMore =
    row (Tok 8 ∷ Do (Own b.Drop) ∷ [])
    ∷ row (Non BlockSmall ∷ Do (Own b.AddStmt) ∷ Non BlockLineTail ∷ [])
    ∷ []
rows_of w BlockSmall =
    row (Non (Profile t.Small) ∷ [])
    ∷ []
rows_of w DefinitionRest =
    row (Non (Profile t.AnyName) ∷ Tok 81 ∷ Do (Own b.BeginDef) ∷ Non (Profile t.ParameterList) ∷ Tok 82 ∷ Non Arrow ∷ Tok 88 ∷ Non (Profile t.Suite) ∷ Do (Own b.EndDef) ∷ [])
    ∷ []
rows_of w Arrow =
    row []
    ∷ []
rows_of w ClassRest =
    row (Non (Profile t.AnyName) ∷ Do (Own b.BeginClass) ∷ Non (Profile t.ClassBase) ∷ Tok 88 ∷ Non (Profile t.ClassSuite) ∷ Do (Own b.EndClass) ∷ [])
    ∷ []
rows_of w BaseEnd =
    row (Tok 82 ∷ Do (Own b.AddBase) ∷ [])
    ∷ []
rows_of w BriefText =
    row (Do (Own b.MakeExprStmt) ∷ Do (Own b.AddStmt) ∷ Tok 8 ∷ Do (Own b.Drop) ∷ [])
    ∷ []
rows_of w FromModule =
    row (Tok 1 ∷ Non FromDots ∷ [])
    ∷ []
rows_of w FromDots =
    row []
    ∷ []
rows_of w FromItems =
    row (Non (Profile t.FromItem) ∷ Non (Profile t.FromNext) ∷ [])
    ∷ []
rows_of w ImportTail =
    row (Non (Profile t.ImportAlias) ∷ [])
    ∷ []
rows_of w Raised =
    row (Non (Profile t.Expression) ∷ Non RaisedTail ∷ [])
    ∷ []
rows_of w RaisedTail =
    row (Do (Own b.MakeRaise) ∷ [])
    ∷ []
rows_of w Yielded =
    row (Non (Profile t.ExpressionList) ∷ Do (Own b.MakeYield) ∷ [])
    ∷ []
rows_of w Deleted =
    row (Non (Profile t.DeletedTail) ∷ Do (Own b.MakeDelete) ∷ [])
    ∷ []
rows_of w DeletedSlice =
    row (Non (Profile t.DeletedTail) ∷ [])
    ∷ []
rows_of w BindingEnd =
    row []
    ∷ []
rows_of w Assigned =
    row (Non (Profile t.ExpressionList) ∷ Non (Profile t.AssignTail) ∷ [])
    ∷ []
rows_of w RightSide =
    row (Non (Profile t.ExpressionList) ∷ [])
    ∷ []
rows_of w UpperEnd =
    row (Tok 84 ∷ Do (Own b.AddUpper) ∷ [])
    ∷ []
rows_of w TextTail =
    row []
    ∷ []
rows_of w FirstPairNext =
    row []
    ∷ row (Tok 87 ∷ Do (Own b.Drop) ∷ Non (Profile t.PairMore) ∷ [])
    ∷ []
rows_of w MoreBytes =
    row []
    ∷ row (Tok 6 ∷ Do (Own b.Drop) ∷ Non MoreBytes ∷ [])
    ∷ []
rows_of w MoreTexts =
    row []
    ∷ row (Tok 3 ∷ Do (Own b.Drop) ∷ Non MoreTexts ∷ [])
    ∷ row (Tok 7 ∷ Do (Own b.Drop) ∷ Non MoreTexts ∷ [])
    ∷ []
rows_of w Decorated =
    row (Tok 93 ∷ Do Head ∷ Do (Own b.Drop) ∷ Non (Profile t.Expression) ∷ Tok 8 ∷ Do (Own b.Drop) ∷ Do Forget ∷ Non Decorated ∷ [])
    ∷ row (Non (Profile t.Definition) ∷ Do (Own b.AddStmt) ∷ [])
    ∷ row (Non (Profile t.ClassDefinition) ∷ Do (Own b.AddStmt) ∷ [])
    ∷ []
rows_of w DecoratedMember =
    row (Tok 93 ∷ Do Head ∷ Do (Own b.Drop) ∷ Non (Profile t.Expression) ∷ Tok 8 ∷ Do (Own b.Drop) ∷ Do Forget ∷ Non DecoratedMember ∷ [])
    ∷ row (Non (Profile t.Definition) ∷ Do (Own b.AddStmt) ∷ [])
    ∷ []
rows_of w LambdaParameters =
    row []
    ∷ row (Non (Profile t.AnyName) ∷ Do (Own b.Drop) ∷ Non LambdaDefault ∷ Non LambdaNext ∷ [])
    ∷ []
rows_of w LambdaDefault =
    row []
    ∷ row (Tok 91 ∷ Do (Own b.Drop) ∷ Non (Profile t.Expression) ∷ Do Forget ∷ [])
    ∷ []
rows_of w LambdaNext =
    row []
    ∷ row (Tok 87 ∷ Do (Own b.Drop) ∷ Non LambdaParameters ∷ [])
    ∷ []
rows_of w StarName =
    row (Non StarNext ∷ [])
    ∷ row (Non (Profile t.AnyName) ∷ Do (Own b.Drop) ∷ Non StarNext ∷ [])
    ∷ []
rows_of w StarNext =
    row []
    ∷ row (Tok 87 ∷ Do (Own b.Drop) ∷ Non StarMore ∷ [])
    ∷ []
rows_of w StarMore =
    row []
    ∷ row (Non (Profile t.ParameterItem) ∷ Non StarNext ∷ [])
    ∷ row (Tok 53 ∷ Do Head ∷ Do (Own b.Drop) ∷ Non (Profile t.AnyName) ∷ Do (Own b.Drop) ∷ Non StarEnd ∷ [])
    ∷ []
rows_of w StarEnd =
    row []
    ∷ row (Tok 87 ∷ Do (Own b.Drop) ∷ [])
    ∷ []
rows_of w ArgumentsNext =
    row []
    ∷ row (Tok 87 ∷ Do (Own b.Drop) ∷ Non (Profile t.Arguments) ∷ [])
    ∷ []
rows_of w PairsNext =
    row []
    ∷ row (Tok 87 ∷ Do (Own b.Drop) ∷ Non PairsMore ∷ [])
    ∷ []
rows_of w PairsMore =
    row []
    ∷ row (Non (Profile t.AnyName) ∷ Do (Own b.MakeLeaf) ∷ Tok 91 ∷ Non (Profile t.Expression) ∷ Do (Own b.AddKeyword) ∷ Non PairsNext ∷ [])
    ∷ row (Tok 53 ∷ Do Head ∷ Do (Own b.Drop) ∷ Non (Profile t.Expression) ∷ Do Forget ∷ Non PairsNext ∷ [])
    ∷ []
rows_of w PlainNext =
    row []
    ∷ row (Tok 87 ∷ Do (Own b.Drop) ∷ Non (Profile t.PlainArguments) ∷ [])
    ∷ []
rows_of w PlainPairsNext =
    row []
    ∷ row (Tok 87 ∷ Do (Own b.Drop) ∷ Non PlainPairsMore ∷ [])
    ∷ []
rows_of w PlainPairsMore =
    row []
    ∷ row (Tok 53 ∷ Do Head ∷ Do (Own b.Drop) ∷ Non (Profile t.Expression) ∷ Do Forget ∷ Non PlainPairsNext ∷ [])
    ∷ []
rows_of w PlainKeywordNext =
    row []
    ∷ row (Tok 87 ∷ Do (Own b.Drop) ∷ Non PlainKeywordMore ∷ [])
    ∷ []
rows_of w PlainKeywordMore =
    row []
    ∷ row (Non (Profile t.AnyName) ∷ Do (Own b.MakeLeaf) ∷ Tok 91 ∷ Do Head ∷ Non (Profile t.Expression) ∷ Do (Own b.AddKeyword) ∷ Non PlainKeywordNext ∷ [])
    ∷ []
rows_of w AnnotatedDefault =
    row (Do (Own b.AddParameter) ∷ [])
    ∷ row (Tok 91 ∷ Non (Profile t.Expression) ∷ Do (Own b.AddDefault) ∷ [])
    ∷ []
rows_of w AnnotatedValue =
    row []
    ∷ row (Tok 91 ∷ Do (Own b.Drop) ∷ Non (Profile t.ExpressionList) ∷ Do Forget ∷ [])
    ∷ []
rows_of w AnnotatedMember =
    row (Tok 88 ∷ Do Head ∷ Do (Own b.Drop) ∷ Non (Profile t.Expression) ∷ Do Forget ∷ Non AnnotatedValue ∷ Do (Own b.MakeExprStmt) ∷ Do (Own b.AddStmt) ∷ Tok 8 ∷ Do (Own b.Drop) ∷ [])
    ∷ []
rows_of w AnnotatedBracket =
    guarded is_annotable (Tok 88 ∷ Do Head ∷ Do (Own b.Drop) ∷ Non (Profile t.Expression) ∷ Do Forget ∷ Non AnnotatedValue ∷ Do (Own b.MakeExprStmt) ∷ Do (Own b.AddStmt) ∷ Tok 8 ∷ Do (Own b.Drop) ∷ [])
    ∷ row (Tok 89 ∷ Non (Profile t.AnyName) ∷ Do (Own b.MakeAttribute) ∷ Non TargetAttribute ∷ Non AnnotatedMember ∷ [])
    ∷ row (Tok 81 ∷ Do (Own b.BeginCall) ∷ Non (Profile t.Arguments) ∷ Tok 82 ∷ Do (Own b.Drop) ∷ Non TargetTail ∷ Non AnnotatedMember ∷ [])
    ∷ row (Tok 83 ∷ Non TargetSubscript ∷ Non AnnotatedMember ∷ [])
    ∷ []
rows_of w ClassTargets =
    row (Tok 91 ∷ Do Head ∷ Do (Own b.MakeTargets) ∷ Non Assigned ∷ Do (Own b.AddStmt) ∷ Tok 8 ∷ Do (Own b.Drop) ∷ [])
    ∷ row (Tok 87 ∷ Do (Own b.MakeTuple) ∷ Non ClassItems ∷ [])
    ∷ []
rows_of w ClassItems =
    row (Tok 91 ∷ Do Head ∷ Do (Own b.MakeTargets) ∷ Non Assigned ∷ Do (Own b.AddStmt) ∷ Tok 8 ∷ Do (Own b.Drop) ∷ [])
    ∷ row (Non Target ∷ Do (Own b.AddItem) ∷ Non ClassItemNext ∷ [])
    ∷ []
rows_of w ClassItemNext =
    row (Tok 91 ∷ Do Head ∷ Do (Own b.MakeTargets) ∷ Non Assigned ∷ Do (Own b.AddStmt) ∷ Tok 8 ∷ Do (Own b.Drop) ∷ [])
    ∷ row (Tok 87 ∷ Do (Own b.Drop) ∷ Non ClassItems ∷ [])
    ∷ []
rows_of w ClassBracket =
    guarded are_targets (Tok 91 ∷ Do Head ∷ Do (Own b.MakeTargets) ∷ Non Assigned ∷ Do (Own b.AddStmt) ∷ Tok 8 ∷ Do (Own b.Drop) ∷ [])
    ∷ row (Tok 89 ∷ Non (Profile t.AnyName) ∷ Do (Own b.MakeAttribute) ∷ Non TargetAttribute ∷ Non ClassTargets ∷ [])
    ∷ row (Tok 81 ∷ Do (Own b.BeginCall) ∷ Non (Profile t.Arguments) ∷ Tok 82 ∷ Do (Own b.Drop) ∷ Non TargetTail ∷ Non ClassTargets ∷ [])
    ∷ row (Tok 83 ∷ Non TargetSubscript ∷ Non ClassTargets ∷ [])
    ∷ []
rows_of w Target =
    row (Non (Profile t.AnyName) ∷ Do (Own b.MakeLeaf) ∷ Non TargetEnd ∷ [])
    ∷ row (Tok 2 ∷ Do (Own b.MakeLeaf) ∷ Non TargetTail ∷ [])
    ∷ row (Tok 3 ∷ Do (Own b.MakeLeaf) ∷ Non TargetTail ∷ [])
    ∷ row (Tok 13 ∷ Do (Own b.MakeTrue) ∷ Non TargetTail ∷ [])
    ∷ row (Tok 11 ∷ Do (Own b.MakeFalse) ∷ Non TargetTail ∷ [])
    ∷ row (Tok 12 ∷ Do (Own b.MakeNone) ∷ Non TargetTail ∷ [])
    ∷ row (Tok 81 ∷ Non (Profile t.Parenthesised) ∷ Non TargetTail ∷ [])
    ∷ row (Tok 83 ∷ Non (Profile t.Bracketed) ∷ Non TargetTail ∷ [])
    ∷ row (Tok 85 ∷ Non (Profile t.Braced) ∷ Non TargetTail ∷ [])
    ∷ []
rows_of w TargetTail =
    row (Tok 89 ∷ Non (Profile t.AnyName) ∷ Do (Own b.MakeAttribute) ∷ Non TargetAttribute ∷ [])
    ∷ row (Tok 81 ∷ Do (Own b.BeginCall) ∷ Non (Profile t.Arguments) ∷ Tok 82 ∷ Do (Own b.Drop) ∷ Non TargetTail ∷ [])
    ∷ row (Tok 83 ∷ Non TargetSubscript ∷ [])
    ∷ []
rows_of w TargetAttribute =
    row []
    ∷ row (Tok 89 ∷ Non (Profile t.AnyName) ∷ Do (Own b.MakeAttribute) ∷ Non TargetAttribute ∷ [])
    ∷ row (Tok 81 ∷ Do (Own b.BeginCall) ∷ Non (Profile t.PlainArguments) ∷ Tok 82 ∷ Do (Own b.Drop) ∷ Non TargetTail ∷ [])
    ∷ row (Tok 83 ∷ Non TargetSubscript ∷ [])
    ∷ []
rows_of w TargetEnd =
    row []
    ∷ row (Tok 89 ∷ Non (Profile t.AnyName) ∷ Do (Own b.MakeAttribute) ∷ Non TargetAttribute ∷ [])
    ∷ row (Tok 81 ∷ Do (Own b.BeginCall) ∷ Non (Profile t.Arguments) ∷ Tok 82 ∷ Do (Own b.Drop) ∷ Non TargetTail ∷ [])
    ∷ row (Tok 83 ∷ Non TargetSubscript ∷ [])
    ∷ []
rows_of w TargetSubscript =
    row (Non (Profile t.Expression) ∷ Non TargetSubscriptTail ∷ [])
    ∷ row (Tok 88 ∷ Do (Own b.MakeSlice) ∷ Non (Profile t.Upper) ∷ Non TargetTail ∷ [])
    ∷ []
rows_of w TargetSubscriptTail =
    row (Tok 84 ∷ Do (Own b.MakeSubscript) ∷ Non TargetEnd ∷ [])
    ∷ row (Tok 88 ∷ Do (Own b.MakeSliceFrom) ∷ Non (Profile t.Upper) ∷ Non TargetTail ∷ [])
    ∷ []
rows_of w MoreBases =
    row []
    ∷ row (Non (Profile t.QualifiedName) ∷ Do Forget ∷ Non BasesNext ∷ [])
    ∷ []
rows_of w BasesNext =
    row []
    ∷ row (Tok 87 ∷ Do (Own b.Drop) ∷ Non MoreBases ∷ [])
    ∷ []
rows_of w ClassKeywordBase =
    row (Non (Profile t.AnyName) ∷ Do (Own b.Drop) ∷ Non ClassKeywordTail ∷ [])
    ∷ []
rows_of w ClassKeywordTail =
    row (Tok 91 ∷ Do Head ∷ Do (Own b.Drop) ∷ Non (Profile t.Expression) ∷ Do Forget ∷ Non ClassKeywordNext ∷ [])
    ∷ row (Tok 87 ∷ Do (Own b.Drop) ∷ Non ClassKeywordBase ∷ [])
    ∷ row (Tok 89 ∷ Do (Own b.Drop) ∷ Non (Profile t.AnyName) ∷ Do (Own b.Drop) ∷ Tok 87 ∷ Do (Own b.Drop) ∷ Non ClassKeywordBase ∷ [])
    ∷ []
rows_of w ClassKeywordNext =
    row []
    ∷ row (Tok 87 ∷ Do (Own b.Drop) ∷ Non ClassKeywordMore ∷ [])
    ∷ []
rows_of w ClassKeywordMore =
    row []
    ∷ row (Non (Profile t.AnyName) ∷ Do (Own b.Drop) ∷ Tok 91 ∷ Do (Own b.Drop) ∷ Non (Profile t.Expression) ∷ Do Forget ∷ Non ClassKeywordNext ∷ [])
    ∷ []
rows_of w Step =
    row (Tok 84 ∷ Do (Own b.Drop) ∷ [])
    ∷ row (Non (Profile t.Expression) ∷ Do Forget ∷ Tok 84 ∷ Do (Own b.Drop) ∷ [])
    ∷ []
rows_of w UpperStep =
    row (Tok 84 ∷ Do (Own b.AddUpper) ∷ [])
    ∷ row (Non (Profile t.Expression) ∷ Do Forget ∷ Tok 84 ∷ Do (Own b.AddUpper) ∷ [])
    ∷ []
rows_of w WithItem =
    row (Non (Profile t.Expression) ∷ Non WithTarget ∷ [])
    ∷ []
rows_of w WithTarget =
    row []
    ∷ row (Tok 15 ∷ Do (Own b.Drop) ∷ Non WithBinding ∷ [])
    ∷ []
rows_of w WithBinding =
    row (Non (Profile t.AnyName) ∷ Do (Own b.MakeLeaf) ∷ Non TargetEnd ∷ Do Forget ∷ [])
    ∷ row (Tok 2 ∷ Do (Own b.MakeLeaf) ∷ Non TargetTail ∷ Do Forget ∷ [])
    ∷ row (Tok 3 ∷ Do (Own b.MakeLeaf) ∷ Non TargetTail ∷ Do Forget ∷ [])
    ∷ row (Tok 13 ∷ Do (Own b.MakeTrue) ∷ Non TargetTail ∷ Do Forget ∷ [])
    ∷ row (Tok 11 ∷ Do (Own b.MakeFalse) ∷ Non TargetTail ∷ Do Forget ∷ [])
    ∷ row (Tok 12 ∷ Do (Own b.MakeNone) ∷ Non TargetTail ∷ Do Forget ∷ [])
    ∷ row (Tok 81 ∷ Non (Profile t.Parenthesised) ∷ Non WithBracket ∷ Do Forget ∷ [])
    ∷ row (Tok 83 ∷ Non (Profile t.Bracketed) ∷ Non WithBracket ∷ Do Forget ∷ [])
    ∷ row (Tok 85 ∷ Non (Profile t.Braced) ∷ Non TargetTail ∷ Do Forget ∷ [])
    ∷ []
rows_of w WithBracket =
    guarded are_targets []
    ∷ row (Tok 89 ∷ Non (Profile t.AnyName) ∷ Do (Own b.MakeAttribute) ∷ Non TargetAttribute ∷ [])
    ∷ row (Tok 81 ∷ Do (Own b.BeginCall) ∷ Non (Profile t.Arguments) ∷ Tok 82 ∷ Do (Own b.Drop) ∷ Non TargetTail ∷ [])
    ∷ row (Tok 83 ∷ Non TargetSubscript ∷ [])
    ∷ []
rows_of w WithNext =
    row []
    ∷ row (Tok 87 ∷ Do (Own b.Drop) ∷ Non WithItem ∷ Do Forget ∷ Non WithNext ∷ [])
    ∷ []
rows_of w AsyncStatement =
    row (Non (Profile t.Definition) ∷ [])
    ∷ row (Tok 28 ∷ Non (Profile t.Binding) ∷ Tok 33 ∷ Non (Profile t.ExpressionList) ∷ Tok 88 ∷ Non (Profile t.Suite) ∷ Do (Own b.MakeFor) ∷ [])
    ∷ row (Tok 44 ∷ Non WithItem ∷ Tok 88 ∷ Non (Profile t.Suite) ∷ Do (Own b.MakeWhile) ∷ [])
    ∷ []
rows_of w YieldValue =
    row (Do (Own b.MakeNone) ∷ [])
    ∷ row (Non (Profile t.ExpressionList) ∷ Do (Own b.MakeNot) ∷ [])
    ∷ []
rows_of w HeadedLoop =
    row (Do (Own b.Drop) ∷ Non (Profile t.Binding) ∷ Do Forget ∷ Tok 33 ∷ Do (Own b.Drop) ∷ Non (Profile t.OrTest) ∷ Do Forget ∷ Non LoopConditions ∷ Non LoopMore ∷ [])
    ∷ []
rows_of w LoopConditions =
    row []
    ∷ row (Tok 31 ∷ Do (Own b.Drop) ∷ Non (Profile t.OrTest) ∷ Do Forget ∷ Non LoopConditions ∷ [])
    ∷ []
rows_of w LoopMore =
    row []
    ∷ row (Tok 28 ∷ Non HeadedLoop ∷ [])
    ∷ []
rows_of w WalrusArgument =
    row (Do (Own b.AddArgument) ∷ [])
    ∷ row (Tok 87 ∷ Do (Own b.Drop) ∷ Do (Own b.AddArgument) ∷ Non (Profile t.Arguments) ∷ [])
    ∷ []
rows_of w PlainWalrusArgument =
    row (Do (Own b.AddArgument) ∷ [])
    ∷ row (Tok 87 ∷ Do (Own b.Drop) ∷ Do (Own b.AddArgument) ∷ Non (Profile t.PlainArguments) ∷ [])
    ∷ []
rows_of w WalrusSet =
    row (Tok 86 ∷ Do (Own b.MakeSetOfOne) ∷ [])
    ∷ row (Tok 87 ∷ Do (Own b.MakeTuple) ∷ Non NamedItemMore ∷ Tok 86 ∷ Do (Own b.MakeSet) ∷ [])
    ∷ []
rows_of w RelativeModule =
    row []
    ∷ row (Tok 89 ∷ Do (Own b.Drop) ∷ Non RelativeModule ∷ [])
    ∷ row (Tok 51 ∷ Do (Own b.Drop) ∷ Non RelativeModule ∷ [])
    ∷ row (Tok 1 ∷ Do (Own b.Drop) ∷ [])
    ∷ []
rows_of w ExceptNext =
    row []
    ∷ row (Tok 87 ∷ Do (Own b.Drop) ∷ Non ExceptMore ∷ [])
    ∷ []
rows_of w ExceptMore =
    row []
    ∷ row (Non (Profile t.Expression) ∷ Do Forget ∷ Non ExceptNext ∷ [])
    ∷ []
rows_of w DeletedRest =
    row (Do (Own b.MakeDelete) ∷ [])
    ∷ row (Tok 87 ∷ Do (Own b.Drop) ∷ Non DeletedNames ∷ Do (Own b.MakeDelete) ∷ [])
    ∷ []
rows_of w DeletedNames =
    row []
    ∷ row (Non DeletedName ∷ Non DeletedNamesNext ∷ [])
    ∷ []
rows_of w DeletedNamesNext =
    row []
    ∷ row (Tok 87 ∷ Do (Own b.Drop) ∷ Non DeletedNames ∷ [])
    ∷ []
rows_of w DeletedName =
    row (Non (Profile t.AnyName) ∷ Do (Own b.Drop) ∷ [])
    ∷ row (Tok 81 ∷ Do (Own b.Drop) ∷ Non DeletedName ∷ Non DeletedNamesNext ∷ Tok 82 ∷ Do (Own b.Drop) ∷ [])
    ∷ row (Tok 83 ∷ Do (Own b.Drop) ∷ Non DeletedName ∷ Non DeletedNamesNext ∷ Tok 84 ∷ Do (Own b.Drop) ∷ [])
    ∷ []
rows_of w StarTargets =
    row (Tok 91 ∷ Do (Own b.MakeTargets) ∷ Non Assigned ∷ [])
    ∷ row (Tok 87 ∷ Do (Own b.Drop) ∷ Non StarTargetMore ∷ [])
    ∷ []
rows_of w StarTargetMore =
    row (Tok 91 ∷ Do (Own b.MakeTargets) ∷ Non Assigned ∷ [])
    ∷ row (Non Target ∷ Do Forget ∷ Non StarTargets ∷ [])
    ∷ row (Tok 73 ∷ Do Head ∷ Do (Own b.Drop) ∷ Non Target ∷ Do Forget ∷ Non StarTargets ∷ [])
    ∷ []

-- numbers tell names apart
abbrev pub number_of : Name → ℕ
number_of (Profile t.Module) = 0
number_of (Profile t.TopStatement) = 1
number_of (Profile t.Statements) = 2
number_of (Profile t.Statement) = 3
number_of (Profile t.Compound) = 4
number_of (Profile t.Otherwise) = 5
number_of (Profile t.Suite) = 6
number_of (Profile t.Handler) = 7
number_of (Profile t.HandlerAlias) = 8
number_of (Profile t.MoreHandlers) = 9
number_of (Profile t.QualifiedName) = 10
number_of (Profile t.QualifiedNameTail) = 11
number_of (Profile t.Definition) = 12
number_of (Profile t.ParameterList) = 13
number_of (Profile t.ParameterNext) = 14
number_of (Profile t.ParameterItem) = 15
number_of (Profile t.ParameterDefault) = 16
number_of (Profile t.ClassDefinition) = 17
number_of (Profile t.ClassBase) = 18
number_of (Profile t.BaseList) = 19
number_of (Profile t.ClassSuite) = 20
number_of (Profile t.Member) = 21
number_of (Profile t.Members) = 22
number_of (Profile t.Brief) = 23
number_of (Profile t.ImportStatement) = 24
number_of (Profile t.ImportItem) = 25
number_of (Profile t.ImportAlias) = 26
number_of (Profile t.ImportNext) = 27
number_of (Profile t.FromItem) = 28
number_of (Profile t.FromNext) = 29
number_of (Profile t.Line) = 30
number_of (Profile t.LineTail) = 31
number_of (Profile t.LineMore) = 32
number_of (Profile t.Small) = 33
number_of (Profile t.SmallTail) = 34
number_of (Profile t.AssignTail) = 35
number_of (Profile t.Returned) = 36
number_of (Profile t.GlobalNext) = 37
number_of (Profile t.AssertMessage) = 38
number_of (Profile t.DeletedTail) = 39
number_of (Profile t.DeletedAttribute) = 40
number_of (Profile t.DeletedEnd) = 41
number_of (Profile t.DeletedSubscript) = 42
number_of (Profile t.DeletedSubscriptTail) = 43
number_of (Profile t.Binding) = 44
number_of (Profile t.BindingTail) = 45
number_of (Profile t.BindingMore) = 46
number_of (Profile t.BindingNext) = 47
number_of (Profile t.ExpressionList) = 48
number_of (Profile t.ExpressionListTail) = 49
number_of (Profile t.ItemMore) = 50
number_of (Profile t.ItemNext) = 51
number_of (Profile t.Expression) = 52
number_of (Profile t.ExpressionTail) = 53
number_of (Profile t.OrTest) = 54
number_of (Profile t.OrTail) = 55
number_of (Profile t.OrMore) = 56
number_of (Profile t.AndTest) = 57
number_of (Profile t.AndTail) = 58
number_of (Profile t.AndMore) = 59
number_of (Profile t.NotTest) = 60
number_of (Profile t.Comparison) = 61
number_of (Profile t.ComparisonTail) = 62
number_of (Profile t.ComparisonMore) = 63
number_of (Profile t.ComparisonSign) = 64
number_of (Profile t.IsTail) = 65
number_of (Profile t.OrExpr) = 66
number_of (Profile t.OrExprTail) = 67
number_of (Profile t.XorExpr) = 68
number_of (Profile t.XorExprTail) = 69
number_of (Profile t.AndExpr) = 70
number_of (Profile t.AndExprTail) = 71
number_of (Profile t.ShiftExpr) = 72
number_of (Profile t.ShiftTail) = 73
number_of (Profile t.Sum) = 74
number_of (Profile t.SumTail) = 75
number_of (Profile t.Product) = 76
number_of (Profile t.ProductTail) = 77
number_of (Profile t.Factor) = 78
number_of (Profile t.PowerExpr) = 79
number_of (Profile t.PowerTail) = 80
number_of (Profile t.Primary) = 81
number_of (Profile t.PrimaryTail) = 82
number_of (Profile t.AttributeTail) = 83
number_of (Profile t.Subscription) = 84
number_of (Profile t.SubscriptionTail) = 85
number_of (Profile t.Upper) = 86
number_of (Profile t.Arguments) = 87
number_of (Profile t.ArgumentTail) = 88
number_of (Profile t.KeywordNext) = 89
number_of (Profile t.KeywordMore) = 90
number_of (Profile t.PlainArguments) = 91
number_of (Profile t.PlainArgumentTail) = 92
number_of (Profile t.Atom) = 93
number_of (Profile t.Parenthesised) = 94
number_of (Profile t.ParenthesisedTail) = 95
number_of (Profile t.Bracketed) = 96
number_of (Profile t.BracketedTail) = 97
number_of (Profile t.Braced) = 98
number_of (Profile t.BracedTail) = 99
number_of (Profile t.PairNext) = 100
number_of (Profile t.PairMore) = 101
number_of (Profile t.Comprehension) = 102
number_of (Profile t.Conditions) = 103
number_of (Profile t.Comprehensions) = 104
number_of (Profile t.AnyName) = 105
number_of NamedExpression = 106
number_of Named = 107
number_of NamedCondition = 108
number_of NamedItemMore = 109
number_of NamedItemNext = 110
number_of LoopElse = 111
number_of TryTail = 112
number_of HandlersEnd = 113
number_of BlockLine = 114
number_of BlockLineTail = 115
number_of BlockLineMore = 116
number_of BlockSmall = 117
number_of DefinitionRest = 118
number_of Arrow = 119
number_of ClassRest = 120
number_of BaseEnd = 121
number_of BriefText = 122
number_of FromModule = 123
number_of FromDots = 124
number_of FromItems = 125
number_of ImportTail = 126
number_of Raised = 127
number_of RaisedTail = 128
number_of Yielded = 129
number_of Deleted = 130
number_of DeletedSlice = 131
number_of BindingEnd = 132
number_of Assigned = 133
number_of RightSide = 134
number_of UpperEnd = 135
number_of TextTail = 136
number_of FirstPairNext = 137
number_of MoreBytes = 138
number_of MoreTexts = 139
number_of Decorated = 140
number_of DecoratedMember = 141
number_of LambdaParameters = 142
number_of LambdaDefault = 143
number_of LambdaNext = 144
number_of StarName = 145
number_of StarNext = 146
number_of StarMore = 147
number_of StarEnd = 148
number_of ArgumentsNext = 149
number_of PairsNext = 150
number_of PairsMore = 151
number_of PlainNext = 152
number_of PlainPairsNext = 153
number_of PlainPairsMore = 154
number_of PlainKeywordNext = 155
number_of PlainKeywordMore = 156
number_of AnnotatedDefault = 157
number_of AnnotatedValue = 158
number_of AnnotatedMember = 159
number_of AnnotatedBracket = 160
number_of ClassTargets = 161
number_of ClassItems = 162
number_of ClassItemNext = 163
number_of ClassBracket = 164
number_of Target = 165
number_of TargetTail = 166
number_of TargetAttribute = 167
number_of TargetEnd = 168
number_of TargetSubscript = 169
number_of TargetSubscriptTail = 170
number_of MoreBases = 171
number_of BasesNext = 172
number_of ClassKeywordBase = 173
number_of ClassKeywordTail = 174
number_of ClassKeywordNext = 175
number_of ClassKeywordMore = 176
number_of Step = 177
number_of UpperStep = 178
number_of WithItem = 179
number_of WithTarget = 180
number_of WithBinding = 181
number_of WithBracket = 182
number_of WithNext = 183
number_of AsyncStatement = 184
number_of YieldValue = 185
number_of HeadedLoop = 186
number_of LoopConditions = 187
number_of LoopMore = 188
number_of WalrusArgument = 189
number_of PlainWalrusArgument = 190
number_of WalrusSet = 191
number_of RelativeModule = 192
number_of ExceptNext = 193
number_of ExceptMore = 194
number_of DeletedRest = 195
number_of DeletedNames = 196
number_of DeletedNamesNext = 197
number_of DeletedName = 198
number_of StarTargets = 199
number_of StarTargetMore = 200

abbrev pub names : List Name
names =
    Profile t.Module ∷ Profile t.TopStatement ∷ Profile t.Statements ∷ Profile t.Statement ∷ Profile t.Compound ∷ Profile t.Otherwise ∷ Profile t.Suite ∷ Profile t.Handler ∷ Profile t.HandlerAlias ∷ Profile t.MoreHandlers ∷ Profile t.QualifiedName ∷ Profile t.QualifiedNameTail ∷ Profile t.Definition ∷ Profile t.ParameterList ∷ Profile t.ParameterNext ∷ Profile t.ParameterItem ∷ Profile t.ParameterDefault ∷ Profile t.ClassDefinition ∷ Profile t.ClassBase ∷ Profile t.BaseList ∷ Profile t.ClassSuite ∷ Profile t.Member ∷ Profile t.Members ∷ Profile t.Brief ∷ Profile t.ImportStatement ∷ Profile t.ImportItem ∷ Profile t.ImportAlias ∷ Profile t.ImportNext ∷ Profile t.FromItem ∷ Profile t.FromNext ∷ Profile t.Line ∷ Profile t.LineTail ∷ Profile t.LineMore ∷ Profile t.Small ∷ Profile t.SmallTail ∷ Profile t.AssignTail ∷ Profile t.Returned ∷ Profile t.GlobalNext ∷ Profile t.AssertMessage ∷ Profile t.DeletedTail ∷ Profile t.DeletedAttribute ∷ Profile t.DeletedEnd ∷ Profile t.DeletedSubscript ∷ Profile t.DeletedSubscriptTail ∷ Profile t.Binding ∷ Profile t.BindingTail ∷ Profile t.BindingMore ∷ Profile t.BindingNext ∷ Profile t.ExpressionList ∷ Profile t.ExpressionListTail ∷ Profile t.ItemMore ∷ Profile t.ItemNext ∷ Profile t.Expression ∷ Profile t.ExpressionTail ∷ Profile t.OrTest ∷ Profile t.OrTail ∷ Profile t.OrMore ∷ Profile t.AndTest ∷ Profile t.AndTail ∷ Profile t.AndMore ∷ Profile t.NotTest ∷ Profile t.Comparison ∷ Profile t.ComparisonTail ∷ Profile t.ComparisonMore ∷ Profile t.ComparisonSign ∷ Profile t.IsTail ∷ Profile t.OrExpr ∷ Profile t.OrExprTail ∷ Profile t.XorExpr ∷ Profile t.XorExprTail ∷ Profile t.AndExpr ∷ Profile t.AndExprTail ∷ Profile t.ShiftExpr ∷ Profile t.ShiftTail ∷ Profile t.Sum ∷ Profile t.SumTail ∷ Profile t.Product ∷ Profile t.ProductTail ∷ Profile t.Factor ∷ Profile t.PowerExpr ∷ Profile t.PowerTail ∷ Profile t.Primary ∷ Profile t.PrimaryTail ∷ Profile t.AttributeTail ∷ Profile t.Subscription ∷ Profile t.SubscriptionTail ∷ Profile t.Upper ∷ Profile t.Arguments ∷ Profile t.ArgumentTail ∷ Profile t.KeywordNext ∷ Profile t.KeywordMore ∷ Profile t.PlainArguments ∷ Profile t.PlainArgumentTail ∷ Profile t.Atom ∷ Profile t.Parenthesised ∷ Profile t.ParenthesisedTail ∷ Profile t.Bracketed ∷ Profile t.BracketedTail ∷ Profile t.Braced ∷ Profile t.BracedTail ∷ Profile t.PairNext ∷ Profile t.PairMore ∷ Profile t.Comprehension ∷ Profile t.Conditions ∷ Profile t.Comprehensions ∷ Profile t.AnyName ∷ NamedExpression ∷ Named ∷ NamedCondition ∷ NamedItemMore ∷ NamedItemNext ∷ LoopElse ∷ TryTail ∷ HandlersEnd ∷ BlockLine ∷ BlockLineTail ∷ BlockLineMore ∷ BlockSmall ∷ DefinitionRest ∷ Arrow ∷ ClassRest ∷ BaseEnd ∷ BriefText ∷ FromModule ∷ FromDots ∷ FromItems ∷ ImportTail ∷ Raised ∷ RaisedTail ∷ Yielded ∷ Deleted ∷ DeletedSlice ∷ BindingEnd ∷ Assigned ∷ RightSide ∷ UpperEnd ∷ TextTail ∷ FirstPairNext ∷ MoreBytes ∷ MoreTexts ∷ Decorated ∷ DecoratedMember ∷ LambdaParameters ∷ LambdaDefault ∷ LambdaNext ∷ StarName ∷ StarNext ∷ StarMore ∷ StarEnd ∷ ArgumentsNext ∷ PairsNext ∷ PairsMore ∷ PlainNext ∷ PlainPairsNext ∷ PlainPairsMore ∷ PlainKeywordNext ∷ PlainKeywordMore ∷ AnnotatedDefault ∷ AnnotatedValue ∷ AnnotatedMember ∷ AnnotatedBracket ∷ ClassTargets ∷ ClassItems ∷ ClassItemNext ∷ ClassBracket ∷ Target ∷ TargetTail ∷ TargetAttribute ∷ TargetEnd ∷ TargetSubscript ∷ TargetSubscriptTail ∷ MoreBases ∷ BasesNext ∷ ClassKeywordBase ∷ ClassKeywordTail ∷ ClassKeywordNext ∷ ClassKeywordMore ∷ Step ∷ UpperStep ∷ WithItem ∷ WithTarget ∷ WithBinding ∷ WithBracket ∷ WithNext ∷ AsyncStatement ∷ YieldValue ∷ HeadedLoop ∷ LoopConditions ∷ LoopMore ∷ WalrusArgument ∷ PlainWalrusArgument ∷ WalrusSet ∷ RelativeModule ∷ ExceptNext ∷ ExceptMore ∷ DeletedRest ∷ DeletedNames ∷ DeletedNamesNext ∷ DeletedName ∷ StarTargets ∷ StarTargetMore ∷ []

pub data Addition : Type 0 where
  to : (name : Name) → (rows : List (Row Name Action Value)) → Addition
  -- more may be targets
  widened : (by : Widening) → Addition

-- what each construct adds
abbrev pub additions : c.Construct → List Addition
additions c.Float =
    to (Profile t.Atom) (row (Tok 4 ∷ Do Head ∷ Do (Own b.MakeNone) ∷ []) ∷ [])
    ∷ []
additions c.Imaginary =
    to (Profile t.Atom) (row (Tok 5 ∷ Do Head ∷ Do (Own b.MakeNone) ∷ []) ∷ [])
    ∷ []
additions c.Bytes =
    to (Profile t.Atom) (row (Tok 6 ∷ Do Head ∷ Do (Own b.MakeNone) ∷ Non MoreBytes ∷ []) ∷ [])
    ∷ []
additions c.FormattedText =
    to (Profile t.Atom) (row (Tok 7 ∷ Do Head ∷ Do (Own b.MakeNone) ∷ Non MoreTexts ∷ []) ∷ [])
    ∷ to TextTail (row (Tok 7 ∷ Do Head ∷ Do (Own b.Drop) ∷ Non MoreTexts ∷ []) ∷ [])
    ∷ []
additions c.Division =
    to (Profile t.ProductTail) (row (Tok 92 ∷ Do Head ∷ Non (Profile t.Factor) ∷ Do (Own (b.MakeBinary Multiply)) ∷ Non (Profile t.ProductTail) ∷ []) ∷ [])
    ∷ to (Profile t.SmallTail) (guarded is_target (Tok 67 ∷ Do Head ∷ Non RightSide ∷ Do (Own (b.MakeAugmented Multiply)) ∷ []) ∷ [])
    ∷ []
additions c.MatrixProduct =
    to (Profile t.ProductTail) (row (Tok 93 ∷ Do Head ∷ Non (Profile t.Factor) ∷ Do (Own (b.MakeBinary Multiply)) ∷ Non (Profile t.ProductTail) ∷ []) ∷ [])
    ∷ to (Profile t.SmallTail) (guarded is_target (Tok 68 ∷ Do Head ∷ Non RightSide ∷ Do (Own (b.MakeAugmented Multiply)) ∷ []) ∷ [])
    ∷ []
additions c.Decorator =
    to (Profile t.TopStatement) (row (Tok 93 ∷ Do Head ∷ Do (Own b.Drop) ∷ Non (Profile t.Expression) ∷ Tok 8 ∷ Do (Own b.Drop) ∷ Do Forget ∷ Non Decorated ∷ []) ∷ [])
    ∷ to (Profile t.Statement) (row (Tok 93 ∷ Do Head ∷ Do (Own b.Drop) ∷ Non (Profile t.Expression) ∷ Tok 8 ∷ Do (Own b.Drop) ∷ Do Forget ∷ Non Decorated ∷ []) ∷ [])
    ∷ to (Profile t.Member) (row (Tok 93 ∷ Do Head ∷ Do (Own b.Drop) ∷ Non (Profile t.Expression) ∷ Tok 8 ∷ Do (Own b.Drop) ∷ Do Forget ∷ Non DecoratedMember ∷ []) ∷ [])
    ∷ []
additions c.Lambda =
    to (Profile t.Expression) (row (Tok 35 ∷ Do Head ∷ Non LambdaParameters ∷ Tok 88 ∷ Do (Own b.Drop) ∷ Non (Profile t.Expression) ∷ Do (Own b.MakeNot) ∷ []) ∷ [])
    ∷ []
additions c.NestedDefinition =
    to (Profile t.Statement) (row (Tok 22 ∷ Do Head ∷ Non DefinitionRest ∷ Do (Own b.AddStmt) ∷ []) ∷ [])
    ∷ []
additions c.NestedClass =
    to (Profile t.Statement) (row (Tok 20 ∷ Do Head ∷ Non ClassRest ∷ Do (Own b.AddStmt) ∷ []) ∷ [])
    ∷ to (Profile t.Member) (row (Tok 20 ∷ Do Head ∷ Non ClassRest ∷ Do (Own b.AddStmt) ∷ []) ∷ [])
    ∷ []
additions c.StarParameter =
    to (Profile t.ParameterList) (row (Tok 73 ∷ Do Head ∷ Do (Own b.Drop) ∷ Non StarName ∷ []) ∷ row (Tok 53 ∷ Do Head ∷ Do (Own b.Drop) ∷ Non (Profile t.AnyName) ∷ Do (Own b.Drop) ∷ Non StarEnd ∷ []) ∷ [])
    ∷ []
additions c.StarArgument =
    to (Profile t.Arguments) (row (Tok 73 ∷ Do Head ∷ Do (Own b.Drop) ∷ Non (Profile t.Expression) ∷ Do Forget ∷ Non ArgumentsNext ∷ []) ∷ row (Tok 53 ∷ Do Head ∷ Do (Own b.Drop) ∷ Non (Profile t.Expression) ∷ Do Forget ∷ Non PairsNext ∷ []) ∷ [])
    ∷ to (Profile t.KeywordMore) (row (Tok 73 ∷ Do Head ∷ Do (Own b.Drop) ∷ Non (Profile t.Expression) ∷ Do Forget ∷ Non (Profile t.KeywordNext) ∷ []) ∷ row (Tok 53 ∷ Do Head ∷ Do (Own b.Drop) ∷ Non (Profile t.Expression) ∷ Do Forget ∷ Non PairsNext ∷ []) ∷ [])
    ∷ to (Profile t.PlainArguments) (row (Tok 73 ∷ Do Head ∷ Do (Own b.Drop) ∷ Non (Profile t.Expression) ∷ Do Forget ∷ Non PlainNext ∷ []) ∷ row (Tok 53 ∷ Do Head ∷ Do (Own b.Drop) ∷ Non (Profile t.Expression) ∷ Do Forget ∷ Non PlainPairsNext ∷ []) ∷ [])
    ∷ []
additions c.MethodKeyword =
    to (Profile t.PlainArgumentTail) (guarded is_name (Tok 91 ∷ Do Head ∷ Non (Profile t.Expression) ∷ Do (Own b.AddKeyword) ∷ Non PlainKeywordNext ∷ []) ∷ [])
    ∷ []
additions c.Annotation =
    to (Profile t.ParameterDefault) (row (Tok 88 ∷ Do Head ∷ Do (Own b.Drop) ∷ Non (Profile t.Expression) ∷ Do Forget ∷ Non AnnotatedDefault ∷ []) ∷ [])
    ∷ to Arrow (row (Tok 69 ∷ Do Head ∷ Do (Own b.Drop) ∷ Non (Profile t.Expression) ∷ Do Forget ∷ []) ∷ [])
    ∷ to (Profile t.SmallTail) (guarded is_annotable (Tok 88 ∷ Do Head ∷ Do (Own b.Drop) ∷ Non (Profile t.Expression) ∷ Do Forget ∷ Non AnnotatedValue ∷ Do (Own b.MakeExprStmt) ∷ []) ∷ [])
    ∷ to (Profile t.Brief) (row (Non (Profile t.AnyName) ∷ Do (Own b.MakeLeaf) ∷ Non TargetEnd ∷ Non AnnotatedMember ∷ []) ∷ row (Tok 2 ∷ Do (Own b.MakeLeaf) ∷ Non TargetTail ∷ Non AnnotatedMember ∷ []) ∷ row (Tok 13 ∷ Do (Own b.MakeTrue) ∷ Non TargetTail ∷ Non AnnotatedMember ∷ []) ∷ row (Tok 11 ∷ Do (Own b.MakeFalse) ∷ Non TargetTail ∷ Non AnnotatedMember ∷ []) ∷ row (Tok 12 ∷ Do (Own b.MakeNone) ∷ Non TargetTail ∷ Non AnnotatedMember ∷ []) ∷ row (Tok 81 ∷ Non (Profile t.Parenthesised) ∷ Non AnnotatedBracket ∷ []) ∷ row (Tok 83 ∷ Non (Profile t.Bracketed) ∷ Non TargetTail ∷ Non AnnotatedMember ∷ []) ∷ row (Tok 85 ∷ Non (Profile t.Braced) ∷ Non TargetTail ∷ Non AnnotatedMember ∷ []) ∷ [])
    ∷ to BriefText (row (Tok 89 ∷ Non (Profile t.AnyName) ∷ Do (Own b.MakeAttribute) ∷ Non TargetAttribute ∷ Non AnnotatedMember ∷ []) ∷ row (Tok 81 ∷ Do (Own b.BeginCall) ∷ Non (Profile t.Arguments) ∷ Tok 82 ∷ Do (Own b.Drop) ∷ Non TargetTail ∷ Non AnnotatedMember ∷ []) ∷ row (Tok 83 ∷ Non TargetSubscript ∷ Non AnnotatedMember ∷ []) ∷ [])
    ∷ []
additions c.ClassAttribute =
    to (Profile t.Brief) (row (Non (Profile t.AnyName) ∷ Do (Own b.MakeLeaf) ∷ Non TargetEnd ∷ Non ClassTargets ∷ []) ∷ row (Tok 2 ∷ Do (Own b.MakeLeaf) ∷ Non TargetTail ∷ Non ClassTargets ∷ []) ∷ row (Tok 13 ∷ Do (Own b.MakeTrue) ∷ Non TargetTail ∷ Non ClassTargets ∷ []) ∷ row (Tok 11 ∷ Do (Own b.MakeFalse) ∷ Non TargetTail ∷ Non ClassTargets ∷ []) ∷ row (Tok 12 ∷ Do (Own b.MakeNone) ∷ Non TargetTail ∷ Non ClassTargets ∷ []) ∷ row (Tok 81 ∷ Non (Profile t.Parenthesised) ∷ Non ClassBracket ∷ []) ∷ row (Tok 83 ∷ Non (Profile t.Bracketed) ∷ Non ClassBracket ∷ []) ∷ row (Tok 85 ∷ Non (Profile t.Braced) ∷ Non TargetTail ∷ Non ClassTargets ∷ []) ∷ [])
    ∷ to BriefText (row (Tok 89 ∷ Non (Profile t.AnyName) ∷ Do (Own b.MakeAttribute) ∷ Non TargetAttribute ∷ Non ClassTargets ∷ []) ∷ row (Tok 81 ∷ Do (Own b.BeginCall) ∷ Non (Profile t.Arguments) ∷ Tok 82 ∷ Do (Own b.Drop) ∷ Non TargetTail ∷ Non ClassTargets ∷ []) ∷ row (Tok 83 ∷ Non TargetSubscript ∷ Non ClassTargets ∷ []) ∷ [])
    ∷ []
additions c.SeveralBases =
    to BaseEnd (row (Tok 87 ∷ Do Head ∷ Do (Own b.Drop) ∷ Non MoreBases ∷ Tok 82 ∷ Do (Own b.AddBase) ∷ []) ∷ [])
    ∷ []
additions c.ClassKeyword =
    to BaseEnd (guarded is_bare (Tok 91 ∷ Do Head ∷ Do (Own b.Drop) ∷ Non (Profile t.Expression) ∷ Do Forget ∷ Non ClassKeywordNext ∷ Tok 82 ∷ Do (Own b.AddBase) ∷ []) ∷ row (Tok 87 ∷ Do (Own b.Drop) ∷ Non ClassKeywordBase ∷ Tok 82 ∷ Do (Own b.AddBase) ∷ []) ∷ [])
    ∷ []
additions c.SliceStep =
    to (Profile t.Upper) (row (Tok 88 ∷ Do Head ∷ Do (Own b.Drop) ∷ Non Step ∷ []) ∷ [])
    ∷ to UpperEnd (row (Tok 88 ∷ Do Head ∷ Do (Own b.Drop) ∷ Non UpperStep ∷ []) ∷ [])
    ∷ []
additions c.SliceTarget =
    widened Slices
    ∷ to DeletedSlice (row (Do HoldSlice ∷ []) ∷ [])
    ∷ []
additions c.LoopElse =
    to LoopElse (row (Tok 25 ∷ Do Head ∷ Do (Own b.Drop) ∷ Tok 88 ∷ Do (Own b.Drop) ∷ Non (Profile t.Suite) ∷ Do Forget ∷ []) ∷ [])
    ∷ []
additions c.TryElse =
    to HandlersEnd (row (Tok 25 ∷ Do Head ∷ Do (Own b.Drop) ∷ Tok 88 ∷ Do (Own b.Drop) ∷ Non (Profile t.Suite) ∷ Do Forget ∷ []) ∷ [])
    ∷ []
additions c.Finally =
    to TryTail (row (Tok 27 ∷ Do Head ∷ Do (Own b.Drop) ∷ Tok 88 ∷ Do (Own b.Drop) ∷ Non (Profile t.Suite) ∷ Do Forget ∷ []) ∷ [])
    ∷ to HandlersEnd (row (Tok 27 ∷ Do Head ∷ Do (Own b.Drop) ∷ Tok 88 ∷ Do (Own b.Drop) ∷ Non (Profile t.Suite) ∷ Do Forget ∷ []) ∷ [])
    ∷ []
additions c.With =
    to (Profile t.Compound) (row (Tok 44 ∷ Do Head ∷ Non WithItem ∷ Non WithNext ∷ Tok 88 ∷ Non (Profile t.Suite) ∷ Do (Own b.MakeWhile) ∷ []) ∷ [])
    ∷ []
additions c.Async =
    to (Profile t.TopStatement) (row (Tok 17 ∷ Do Head ∷ Do (Own b.Drop) ∷ Non AsyncStatement ∷ Do (Own b.AddStmt) ∷ []) ∷ [])
    ∷ to (Profile t.Statement) (row (Tok 17 ∷ Do Head ∷ Do (Own b.Drop) ∷ Non AsyncStatement ∷ Do (Own b.AddStmt) ∷ []) ∷ [])
    ∷ to (Profile t.Member) (row (Tok 17 ∷ Do Head ∷ Do (Own b.Drop) ∷ Non (Profile t.Definition) ∷ Do (Own b.AddStmt) ∷ []) ∷ [])
    ∷ to (Profile t.Comprehension) (row (Tok 17 ∷ Do Head ∷ Do (Own b.Drop) ∷ Tok 28 ∷ Non (Profile t.Binding) ∷ Tok 33 ∷ Non (Profile t.OrTest) ∷ Do (Own b.BeginLoop) ∷ Non (Profile t.Conditions) ∷ Do (Own b.AddLoop) ∷ []) ∷ [])
    ∷ []
additions c.Await =
    to (Profile t.PowerExpr) (row (Tok 18 ∷ Do Head ∷ Non (Profile t.Primary) ∷ Do (Own b.MakeNot) ∷ Non (Profile t.PowerTail) ∷ []) ∷ [])
    ∷ []
additions c.Nonlocal =
    to (Profile t.Small) (row (Tok 36 ∷ Do Head ∷ Do (Own b.BeginGlobal) ∷ Non (Profile t.AnyName) ∷ Do (Own b.AddGlobal) ∷ Non (Profile t.GlobalNext) ∷ []) ∷ [])
    ∷ []
additions c.YieldExpression =
    to Assigned (row (Tok 45 ∷ Do Head ∷ Non YieldValue ∷ Do (Own b.MakeAssign) ∷ []) ∷ [])
    ∷ to RightSide (row (Tok 45 ∷ Do Head ∷ Non YieldValue ∷ []) ∷ [])
    ∷ to (Profile t.Parenthesised) (row (Tok 45 ∷ Do Head ∷ Non YieldValue ∷ Tok 82 ∷ Do (Own b.MakeParenthesis) ∷ []) ∷ [])
    ∷ []
additions c.YieldFrom =
    to Yielded (row (Tok 29 ∷ Do Head ∷ Do (Own b.Drop) ∷ Non (Profile t.Expression) ∷ Do (Own b.MakeYield) ∷ []) ∷ [])
    ∷ []
additions c.GeneratorExpression =
    to (Profile t.ParenthesisedTail) (row (Tok 28 ∷ Do Head ∷ Non HeadedLoop ∷ Do Plain ∷ Tok 82 ∷ Do (Own b.MakeParenthesis) ∷ []) ∷ [])
    ∷ to (Profile t.ArgumentTail) (guarded is_first_argument (Tok 28 ∷ Do Head ∷ Non HeadedLoop ∷ Do (Own b.AddArgument) ∷ []) ∷ [])
    ∷ to (Profile t.PlainArgumentTail) (guarded is_first_argument (Tok 28 ∷ Do Head ∷ Non HeadedLoop ∷ Do (Own b.AddArgument) ∷ []) ∷ [])
    ∷ []
additions c.SetComprehension =
    to (Profile t.BracedTail) (row (Tok 28 ∷ Do Head ∷ Non HeadedLoop ∷ Tok 86 ∷ Do (Own b.MakeSetOfOne) ∷ []) ∷ [])
    ∷ []
additions c.DictComprehension =
    to FirstPairNext (row (Tok 28 ∷ Do Head ∷ Non HeadedLoop ∷ []) ∷ [])
    ∷ []
additions c.Walrus =
    to Named (guarded is_name (Tok 70 ∷ Do Head ∷ Non (Profile t.Expression) ∷ Do (Own (b.MakeBinary Add)) ∷ []) ∷ [])
    ∷ to NamedCondition (guarded is_name (Tok 70 ∷ Do Head ∷ Non (Profile t.OrTest) ∷ Do (Own (b.MakeBinary Add)) ∷ []) ∷ [])
    ∷ to (Profile t.SubscriptionTail) (guarded is_name (Tok 70 ∷ Do Head ∷ Non (Profile t.Expression) ∷ Do (Own (b.MakeBinary Add)) ∷ Tok 84 ∷ Do (Own b.MakeSubscript) ∷ []) ∷ [])
    ∷ to (Profile t.DeletedSubscriptTail) (guarded is_name (Tok 70 ∷ Do Head ∷ Non (Profile t.Expression) ∷ Do (Own (b.MakeBinary Add)) ∷ Tok 84 ∷ Do (Own b.MakeSubscript) ∷ Non (Profile t.DeletedEnd) ∷ []) ∷ [])
    ∷ to (Profile t.ArgumentTail) (guarded is_name (Tok 70 ∷ Do Head ∷ Non (Profile t.Expression) ∷ Do (Own (b.MakeBinary Add)) ∷ Non WalrusArgument ∷ []) ∷ [])
    ∷ to (Profile t.PlainArgumentTail) (guarded is_name (Tok 70 ∷ Do Head ∷ Non (Profile t.Expression) ∷ Do (Own (b.MakeBinary Add)) ∷ Non PlainWalrusArgument ∷ []) ∷ [])
    ∷ to (Profile t.BracedTail) (guarded is_name (Tok 70 ∷ Do Head ∷ Non (Profile t.Expression) ∷ Do (Own (b.MakeBinary Add)) ∷ Non WalrusSet ∷ []) ∷ [])
    ∷ []
additions c.StarImport =
    to FromItems (row (Tok 73 ∷ Do Head ∷ Do (Own b.Drop) ∷ []) ∷ [])
    ∷ []
additions c.RelativeImport =
    to FromModule (row (Tok 89 ∷ Do Head ∷ Non RelativeModule ∷ []) ∷ row (Tok 51 ∷ Do Head ∷ Non RelativeModule ∷ []) ∷ [])
    ∷ []
additions c.DottedImport =
    to ImportTail (row (Tok 89 ∷ Do Head ∷ Do (Own b.Drop) ∷ Non (Profile t.AnyName) ∷ Do (Own b.Drop) ∷ Non ImportTail ∷ []) ∷ [])
    ∷ to FromDots (row (Tok 89 ∷ Do Head ∷ Do (Own b.Drop) ∷ Non (Profile t.AnyName) ∷ Do (Own b.Drop) ∷ Non FromDots ∷ []) ∷ [])
    ∷ []
additions c.NestedImport =
    to BlockSmall (row (Tok 32 ∷ Do Head ∷ Do (Own b.BeginImport) ∷ Non (Profile t.ImportItem) ∷ Non (Profile t.ImportNext) ∷ []) ∷ row (Tok 29 ∷ Do Head ∷ Non FromModule ∷ Tok 32 ∷ Do (Own b.BeginFrom) ∷ Non FromItems ∷ []) ∷ [])
    ∷ to (Profile t.Brief) (row (Tok 32 ∷ Do Head ∷ Do (Own b.BeginImport) ∷ Non (Profile t.ImportItem) ∷ Non (Profile t.ImportNext) ∷ Do (Own b.AddStmt) ∷ Tok 8 ∷ Do (Own b.Drop) ∷ []) ∷ row (Tok 29 ∷ Do Head ∷ Non FromModule ∷ Tok 32 ∷ Do (Own b.BeginFrom) ∷ Non FromItems ∷ Do (Own b.AddStmt) ∷ Tok 8 ∷ Do (Own b.Drop) ∷ []) ∷ [])
    ∷ []
additions c.NonasciiModule =
    to (Profile t.ImportItem) (row (Tok 0 ∷ Do Head ∷ Non ImportTail ∷ []) ∷ [])
    ∷ to FromModule (row (Tok 0 ∷ Do Head ∷ []) ∷ [])
    ∷ []
additions c.BareRaise =
    to Raised (row (Do Hold ∷ Do (Own b.MakePass) ∷ []) ∷ [])
    ∷ []
additions c.RaiseFrom =
    to RaisedTail (row (Tok 29 ∷ Do Head ∷ Do (Own b.Drop) ∷ Non (Profile t.Expression) ∷ Do Forget ∷ Do (Own b.MakeRaise) ∷ []) ∷ [])
    ∷ []
additions c.ExceptTuple =
    to (Profile t.Handler) (row (Tok 81 ∷ Do Head ∷ Do (Own b.MakeClassName) ∷ Non (Profile t.Expression) ∷ Do Forget ∷ Non ExceptNext ∷ Tok 82 ∷ Do (Own b.Drop) ∷ Non (Profile t.HandlerAlias) ∷ []) ∷ [])
    ∷ []
additions c.DeleteName =
    to Deleted (guarded is_deleted (Do Hold ∷ Non DeletedRest ∷ []) ∷ [])
    ∷ []
additions c.NestedTarget =
    widened Brackets
    ∷ to (Profile t.Binding) (row (Tok 83 ∷ Do TellLoop ∷ Non (Profile t.Binding) ∷ Tok 84 ∷ Do (Own b.MakeLoopParenthesis) ∷ Tok 87 ∷ Do (Own b.MakeLoopNames) ∷ Non (Profile t.BindingMore) ∷ []) ∷ [])
    ∷ to BindingEnd (row (Tok 87 ∷ Do TellLoop ∷ Do (Own b.MakeLoopNames) ∷ Non (Profile t.BindingMore) ∷ []) ∷ [])
    ∷ to (Profile t.BindingMore) (row (Tok 81 ∷ Do TellLoop ∷ Non (Profile t.Binding) ∷ Tok 82 ∷ Do (Own b.MakeLoopParenthesis) ∷ Do (Own b.AddLoopName) ∷ Non (Profile t.BindingNext) ∷ []) ∷ row (Tok 83 ∷ Do TellLoop ∷ Non (Profile t.Binding) ∷ Tok 84 ∷ Do (Own b.MakeLoopParenthesis) ∷ Do (Own b.AddLoopName) ∷ Non (Profile t.BindingNext) ∷ []) ∷ [])
    ∷ []
additions c.StarredTarget =
    to (Profile t.Binding) (row (Tok 73 ∷ Do Head ∷ Do (Own b.Drop) ∷ Non (Profile t.AnyName) ∷ Do (Own b.MakeLoopName) ∷ Non (Profile t.BindingTail) ∷ []) ∷ [])
    ∷ to (Profile t.BindingMore) (row (Tok 73 ∷ Do Head ∷ Do (Own b.Drop) ∷ Non (Profile t.AnyName) ∷ Do (Own b.AddLoopName) ∷ Non (Profile t.BindingNext) ∷ []) ∷ [])
    ∷ to (Profile t.Small) (row (Tok 73 ∷ Do Head ∷ Do (Own b.Drop) ∷ Non Target ∷ Non StarTargets ∷ []) ∷ [])
    ∷ to Assigned (row (Tok 73 ∷ Do Head ∷ Do (Own b.Drop) ∷ Non Target ∷ Non (Profile t.ExpressionListTail) ∷ Non (Profile t.AssignTail) ∷ []) ∷ [])
    ∷ to (Profile t.ItemMore) (guarded may_be_targets (Tok 73 ∷ Do Head ∷ Do (Own b.Drop) ∷ Non Target ∷ Do (Own b.AddItem) ∷ Non (Profile t.ItemNext) ∷ []) ∷ [])
    ∷ to NamedItemMore (guarded may_be_targets (Tok 73 ∷ Do Head ∷ Do (Own b.Drop) ∷ Non Target ∷ Do (Own b.AddItem) ∷ Non NamedItemNext ∷ []) ∷ [])
    ∷ to (Profile t.Parenthesised) (guarded may_be_targets (Tok 73 ∷ Do Head ∷ Do (Own b.Drop) ∷ Non Target ∷ Non (Profile t.ParenthesisedTail) ∷ []) ∷ [])
    ∷ to (Profile t.Bracketed) (guarded may_be_targets (Tok 73 ∷ Do Head ∷ Do (Own b.Drop) ∷ Non Target ∷ Non (Profile t.BracketedTail) ∷ []) ∷ [])
    ∷ []
additions c.Ellipsis =
    to (Profile t.Atom) (row (Tok 51 ∷ Do Head ∷ Do (Own b.MakeNone) ∷ []) ∷ [])
    ∷ []

abbrev pub added_to : ℕ → List Addition → List (Row Name Action Value)
added_to n [] = []
added_to n (to x rows ∷ more) = if number_of x == n then rows ++ added_to n more else added_to n more
added_to n (widened w ∷ more) = added_to n more

abbrev pub widening_of : List Addition → Widening
widening_of [] = NoWidening
widening_of (to x rows ∷ more) = widening_of more
widening_of (widened w ∷ more) = w

abbrev pub rows_with : List Addition → Name → List (Row Name Action Value)
rows_with more x = rows_of (widening_of more) x ++ added_to (number_of x) more

-- with these additions
abbrev pub grammar_with : List Addition → Grammar Name Action Token Value
grammar_with more = record { kind = kind_of; take_in = take_in; act = act; rows = rows_with more }

-- the profile's grammar with this construct added
abbrev pub extended : c.Construct → Grammar Name Action Token Value
extended construct = grammar_with (additions construct)

abbrev pub goal : List Symbol
goal = Do (Own b.BeginBody) ∷ Non (Profile t.Module) ∷ []

abbrev pub nullable : Name → Bool
nullable (Profile t.Module) = true
nullable (Profile t.TopStatement) = false
nullable (Profile t.Statements) = true
nullable (Profile t.Statement) = false
nullable (Profile t.Compound) = false
nullable (Profile t.Otherwise) = true
nullable (Profile t.Suite) = false
nullable (Profile t.Handler) = false
nullable (Profile t.HandlerAlias) = false
nullable (Profile t.MoreHandlers) = true
nullable (Profile t.QualifiedName) = false
nullable (Profile t.QualifiedNameTail) = true
nullable (Profile t.Definition) = false
nullable (Profile t.ParameterList) = true
nullable (Profile t.ParameterNext) = true
nullable (Profile t.ParameterItem) = false
nullable (Profile t.ParameterDefault) = true
nullable (Profile t.ClassDefinition) = false
nullable (Profile t.ClassBase) = true
nullable (Profile t.BaseList) = false
nullable (Profile t.ClassSuite) = false
nullable (Profile t.Member) = false
nullable (Profile t.Members) = true
nullable (Profile t.Brief) = false
nullable (Profile t.ImportStatement) = false
nullable (Profile t.ImportItem) = false
nullable (Profile t.ImportAlias) = true
nullable (Profile t.ImportNext) = true
nullable (Profile t.FromItem) = false
nullable (Profile t.FromNext) = true
nullable (Profile t.Line) = false
nullable (Profile t.LineTail) = false
nullable (Profile t.LineMore) = false
nullable (Profile t.Small) = false
nullable (Profile t.SmallTail) = true
nullable (Profile t.AssignTail) = true
nullable (Profile t.Returned) = true
nullable (Profile t.GlobalNext) = true
nullable (Profile t.AssertMessage) = true
nullable (Profile t.DeletedTail) = false
nullable (Profile t.DeletedAttribute) = false
nullable (Profile t.DeletedEnd) = true
nullable (Profile t.DeletedSubscript) = false
nullable (Profile t.DeletedSubscriptTail) = false
nullable (Profile t.Binding) = false
nullable (Profile t.BindingTail) = true
nullable (Profile t.BindingMore) = true
nullable (Profile t.BindingNext) = true
nullable (Profile t.ExpressionList) = false
nullable (Profile t.ExpressionListTail) = true
nullable (Profile t.ItemMore) = true
nullable (Profile t.ItemNext) = true
nullable (Profile t.Expression) = false
nullable (Profile t.ExpressionTail) = true
nullable (Profile t.OrTest) = false
nullable (Profile t.OrTail) = true
nullable (Profile t.OrMore) = true
nullable (Profile t.AndTest) = false
nullable (Profile t.AndTail) = true
nullable (Profile t.AndMore) = true
nullable (Profile t.NotTest) = false
nullable (Profile t.Comparison) = false
nullable (Profile t.ComparisonTail) = true
nullable (Profile t.ComparisonMore) = true
nullable (Profile t.ComparisonSign) = false
nullable (Profile t.IsTail) = true
nullable (Profile t.OrExpr) = false
nullable (Profile t.OrExprTail) = true
nullable (Profile t.XorExpr) = false
nullable (Profile t.XorExprTail) = true
nullable (Profile t.AndExpr) = false
nullable (Profile t.AndExprTail) = true
nullable (Profile t.ShiftExpr) = false
nullable (Profile t.ShiftTail) = true
nullable (Profile t.Sum) = false
nullable (Profile t.SumTail) = true
nullable (Profile t.Product) = false
nullable (Profile t.ProductTail) = true
nullable (Profile t.Factor) = false
nullable (Profile t.PowerExpr) = false
nullable (Profile t.PowerTail) = true
nullable (Profile t.Primary) = false
nullable (Profile t.PrimaryTail) = true
nullable (Profile t.AttributeTail) = true
nullable (Profile t.Subscription) = false
nullable (Profile t.SubscriptionTail) = false
nullable (Profile t.Upper) = false
nullable (Profile t.Arguments) = true
nullable (Profile t.ArgumentTail) = true
nullable (Profile t.KeywordNext) = true
nullable (Profile t.KeywordMore) = true
nullable (Profile t.PlainArguments) = true
nullable (Profile t.PlainArgumentTail) = true
nullable (Profile t.Atom) = false
nullable (Profile t.Parenthesised) = false
nullable (Profile t.ParenthesisedTail) = false
nullable (Profile t.Bracketed) = false
nullable (Profile t.BracketedTail) = false
nullable (Profile t.Braced) = false
nullable (Profile t.BracedTail) = false
nullable (Profile t.PairNext) = true
nullable (Profile t.PairMore) = true
nullable (Profile t.Comprehension) = false
nullable (Profile t.Conditions) = true
nullable (Profile t.Comprehensions) = true
nullable (Profile t.AnyName) = false
nullable NamedExpression = false
nullable Named = true
nullable NamedCondition = true
nullable NamedItemMore = true
nullable NamedItemNext = true
nullable LoopElse = true
nullable TryTail = false
nullable HandlersEnd = true
nullable BlockLine = false
nullable BlockLineTail = false
nullable BlockLineMore = false
nullable BlockSmall = false
nullable DefinitionRest = false
nullable Arrow = true
nullable ClassRest = false
nullable BaseEnd = false
nullable BriefText = false
nullable FromModule = false
nullable FromDots = true
nullable FromItems = false
nullable ImportTail = true
nullable Raised = true
nullable RaisedTail = true
nullable Yielded = false
nullable Deleted = true
nullable DeletedSlice = true
nullable BindingEnd = true
nullable Assigned = false
nullable RightSide = false
nullable UpperEnd = false
nullable TextTail = true
nullable FirstPairNext = true
nullable MoreBytes = true
nullable MoreTexts = true
nullable Decorated = false
nullable DecoratedMember = false
nullable LambdaParameters = true
nullable LambdaDefault = true
nullable LambdaNext = true
nullable StarName = true
nullable StarNext = true
nullable StarMore = true
nullable StarEnd = true
nullable ArgumentsNext = true
nullable PairsNext = true
nullable PairsMore = true
nullable PlainNext = true
nullable PlainPairsNext = true
nullable PlainPairsMore = true
nullable PlainKeywordNext = true
nullable PlainKeywordMore = true
nullable AnnotatedDefault = true
nullable AnnotatedValue = true
nullable AnnotatedMember = false
nullable AnnotatedBracket = false
nullable ClassTargets = false
nullable ClassItems = false
nullable ClassItemNext = false
nullable ClassBracket = false
nullable Target = false
nullable TargetTail = false
nullable TargetAttribute = true
nullable TargetEnd = true
nullable TargetSubscript = false
nullable TargetSubscriptTail = false
nullable MoreBases = true
nullable BasesNext = true
nullable ClassKeywordBase = false
nullable ClassKeywordTail = false
nullable ClassKeywordNext = true
nullable ClassKeywordMore = true
nullable Step = false
nullable UpperStep = false
nullable WithItem = false
nullable WithTarget = true
nullable WithBinding = false
nullable WithBracket = true
nullable WithNext = true
nullable AsyncStatement = false
nullable YieldValue = true
nullable HeadedLoop = false
nullable LoopConditions = true
nullable LoopMore = true
nullable WalrusArgument = true
nullable PlainWalrusArgument = true
nullable WalrusSet = false
nullable RelativeModule = true
nullable ExceptNext = true
nullable ExceptMore = true
nullable DeletedRest = true
nullable DeletedNames = true
nullable DeletedNamesNext = true
nullable DeletedName = false
nullable StarTargets = false
nullable StarTargetMore = false

abbrev pub first : Name → List Sight
first (Profile t.Module) = Some 0 ∷ Some 1 ∷ Some 2 ∷ Some 3 ∷ Some 4 ∷ Some 5 ∷ Some 6 ∷ Some 7 ∷ Some 11 ∷ Some 12 ∷ Some 13 ∷ Some 16 ∷ Some 17 ∷ Some 18 ∷ Some 19 ∷ Some 20 ∷ Some 21 ∷ Some 22 ∷ Some 23 ∷ Some 28 ∷ Some 29 ∷ Some 30 ∷ Some 31 ∷ Some 32 ∷ Some 35 ∷ Some 36 ∷ Some 37 ∷ Some 39 ∷ Some 40 ∷ Some 41 ∷ Some 42 ∷ Some 43 ∷ Some 44 ∷ Some 45 ∷ Some 51 ∷ Some 71 ∷ Some 72 ∷ Some 73 ∷ Some 78 ∷ Some 81 ∷ Some 83 ∷ Some 85 ∷ Some 93 ∷ []
first (Profile t.TopStatement) = Some 0 ∷ Some 1 ∷ Some 2 ∷ Some 3 ∷ Some 4 ∷ Some 5 ∷ Some 6 ∷ Some 7 ∷ Some 11 ∷ Some 12 ∷ Some 13 ∷ Some 16 ∷ Some 17 ∷ Some 18 ∷ Some 19 ∷ Some 20 ∷ Some 21 ∷ Some 22 ∷ Some 23 ∷ Some 28 ∷ Some 29 ∷ Some 30 ∷ Some 31 ∷ Some 32 ∷ Some 35 ∷ Some 36 ∷ Some 37 ∷ Some 39 ∷ Some 40 ∷ Some 41 ∷ Some 42 ∷ Some 43 ∷ Some 44 ∷ Some 45 ∷ Some 51 ∷ Some 71 ∷ Some 72 ∷ Some 73 ∷ Some 78 ∷ Some 81 ∷ Some 83 ∷ Some 85 ∷ Some 93 ∷ []
first (Profile t.Statements) = Some 0 ∷ Some 1 ∷ Some 2 ∷ Some 3 ∷ Some 4 ∷ Some 5 ∷ Some 6 ∷ Some 7 ∷ Some 11 ∷ Some 12 ∷ Some 13 ∷ Some 16 ∷ Some 17 ∷ Some 18 ∷ Some 19 ∷ Some 20 ∷ Some 21 ∷ Some 22 ∷ Some 23 ∷ Some 28 ∷ Some 29 ∷ Some 30 ∷ Some 31 ∷ Some 32 ∷ Some 35 ∷ Some 36 ∷ Some 37 ∷ Some 39 ∷ Some 40 ∷ Some 41 ∷ Some 42 ∷ Some 43 ∷ Some 44 ∷ Some 45 ∷ Some 51 ∷ Some 71 ∷ Some 72 ∷ Some 73 ∷ Some 78 ∷ Some 81 ∷ Some 83 ∷ Some 85 ∷ Some 93 ∷ []
first (Profile t.Statement) = Some 0 ∷ Some 1 ∷ Some 2 ∷ Some 3 ∷ Some 4 ∷ Some 5 ∷ Some 6 ∷ Some 7 ∷ Some 11 ∷ Some 12 ∷ Some 13 ∷ Some 16 ∷ Some 17 ∷ Some 18 ∷ Some 19 ∷ Some 20 ∷ Some 21 ∷ Some 22 ∷ Some 23 ∷ Some 28 ∷ Some 29 ∷ Some 30 ∷ Some 31 ∷ Some 32 ∷ Some 35 ∷ Some 36 ∷ Some 37 ∷ Some 39 ∷ Some 40 ∷ Some 41 ∷ Some 42 ∷ Some 43 ∷ Some 44 ∷ Some 45 ∷ Some 51 ∷ Some 71 ∷ Some 72 ∷ Some 73 ∷ Some 78 ∷ Some 81 ∷ Some 83 ∷ Some 85 ∷ Some 93 ∷ []
first (Profile t.Compound) = Some 28 ∷ Some 31 ∷ Some 42 ∷ Some 43 ∷ Some 44 ∷ []
first (Profile t.Otherwise) = Some 24 ∷ Some 25 ∷ []
first (Profile t.Suite) = Some 0 ∷ Some 1 ∷ Some 2 ∷ Some 3 ∷ Some 4 ∷ Some 5 ∷ Some 6 ∷ Some 7 ∷ Some 8 ∷ Some 11 ∷ Some 12 ∷ Some 13 ∷ Some 16 ∷ Some 18 ∷ Some 19 ∷ Some 21 ∷ Some 23 ∷ Some 29 ∷ Some 30 ∷ Some 32 ∷ Some 35 ∷ Some 36 ∷ Some 37 ∷ Some 39 ∷ Some 40 ∷ Some 41 ∷ Some 45 ∷ Some 51 ∷ Some 71 ∷ Some 72 ∷ Some 73 ∷ Some 78 ∷ Some 81 ∷ Some 83 ∷ Some 85 ∷ []
first (Profile t.Handler) = Some 0 ∷ Some 1 ∷ Some 81 ∷ Some 88 ∷ []
first (Profile t.HandlerAlias) = Some 15 ∷ Some 88 ∷ []
first (Profile t.MoreHandlers) = Some 25 ∷ Some 26 ∷ Some 27 ∷ []
first (Profile t.QualifiedName) = Some 0 ∷ Some 1 ∷ []
first (Profile t.QualifiedNameTail) = Some 89 ∷ []
first (Profile t.Definition) = Some 22 ∷ []
first (Profile t.ParameterList) = Some 0 ∷ Some 1 ∷ Some 53 ∷ Some 73 ∷ []
first (Profile t.ParameterNext) = Some 87 ∷ []
first (Profile t.ParameterItem) = Some 0 ∷ Some 1 ∷ []
first (Profile t.ParameterDefault) = Some 88 ∷ Some 91 ∷ []
first (Profile t.ClassDefinition) = Some 20 ∷ []
first (Profile t.ClassBase) = Some 81 ∷ []
first (Profile t.BaseList) = Some 0 ∷ Some 1 ∷ Some 82 ∷ []
first (Profile t.ClassSuite) = Some 0 ∷ Some 1 ∷ Some 2 ∷ Some 3 ∷ Some 8 ∷ Some 11 ∷ Some 12 ∷ Some 13 ∷ Some 29 ∷ Some 32 ∷ Some 39 ∷ Some 81 ∷ Some 83 ∷ Some 85 ∷ []
first (Profile t.Member) = Some 0 ∷ Some 1 ∷ Some 2 ∷ Some 3 ∷ Some 11 ∷ Some 12 ∷ Some 13 ∷ Some 17 ∷ Some 20 ∷ Some 22 ∷ Some 29 ∷ Some 32 ∷ Some 39 ∷ Some 81 ∷ Some 83 ∷ Some 85 ∷ Some 93 ∷ []
first (Profile t.Members) = Some 0 ∷ Some 1 ∷ Some 2 ∷ Some 3 ∷ Some 11 ∷ Some 12 ∷ Some 13 ∷ Some 17 ∷ Some 20 ∷ Some 22 ∷ Some 29 ∷ Some 32 ∷ Some 39 ∷ Some 81 ∷ Some 83 ∷ Some 85 ∷ Some 93 ∷ []
first (Profile t.Brief) = Some 0 ∷ Some 1 ∷ Some 2 ∷ Some 3 ∷ Some 11 ∷ Some 12 ∷ Some 13 ∷ Some 29 ∷ Some 32 ∷ Some 39 ∷ Some 81 ∷ Some 83 ∷ Some 85 ∷ []
first (Profile t.ImportStatement) = Some 29 ∷ Some 32 ∷ []
first (Profile t.ImportItem) = Some 0 ∷ Some 1 ∷ []
first (Profile t.ImportAlias) = Some 15 ∷ []
first (Profile t.ImportNext) = Some 87 ∷ []
first (Profile t.FromItem) = Some 0 ∷ Some 1 ∷ []
first (Profile t.FromNext) = Some 87 ∷ []
first (Profile t.Line) = Some 0 ∷ Some 1 ∷ Some 2 ∷ Some 3 ∷ Some 4 ∷ Some 5 ∷ Some 6 ∷ Some 7 ∷ Some 11 ∷ Some 12 ∷ Some 13 ∷ Some 16 ∷ Some 18 ∷ Some 19 ∷ Some 21 ∷ Some 23 ∷ Some 30 ∷ Some 35 ∷ Some 36 ∷ Some 37 ∷ Some 39 ∷ Some 40 ∷ Some 41 ∷ Some 45 ∷ Some 51 ∷ Some 71 ∷ Some 72 ∷ Some 73 ∷ Some 78 ∷ Some 81 ∷ Some 83 ∷ Some 85 ∷ []
first (Profile t.LineTail) = Some 8 ∷ Some 90 ∷ []
first (Profile t.LineMore) = Some 0 ∷ Some 1 ∷ Some 2 ∷ Some 3 ∷ Some 4 ∷ Some 5 ∷ Some 6 ∷ Some 7 ∷ Some 8 ∷ Some 11 ∷ Some 12 ∷ Some 13 ∷ Some 16 ∷ Some 18 ∷ Some 19 ∷ Some 21 ∷ Some 23 ∷ Some 30 ∷ Some 35 ∷ Some 36 ∷ Some 37 ∷ Some 39 ∷ Some 40 ∷ Some 41 ∷ Some 45 ∷ Some 51 ∷ Some 71 ∷ Some 72 ∷ Some 73 ∷ Some 78 ∷ Some 81 ∷ Some 83 ∷ Some 85 ∷ []
first (Profile t.Small) = Some 0 ∷ Some 1 ∷ Some 2 ∷ Some 3 ∷ Some 4 ∷ Some 5 ∷ Some 6 ∷ Some 7 ∷ Some 11 ∷ Some 12 ∷ Some 13 ∷ Some 16 ∷ Some 18 ∷ Some 19 ∷ Some 21 ∷ Some 23 ∷ Some 30 ∷ Some 35 ∷ Some 36 ∷ Some 37 ∷ Some 39 ∷ Some 40 ∷ Some 41 ∷ Some 45 ∷ Some 51 ∷ Some 71 ∷ Some 72 ∷ Some 73 ∷ Some 78 ∷ Some 81 ∷ Some 83 ∷ Some 85 ∷ []
first (Profile t.SmallTail) = Some 47 ∷ Some 48 ∷ Some 49 ∷ Some 50 ∷ Some 60 ∷ Some 61 ∷ Some 62 ∷ Some 63 ∷ Some 64 ∷ Some 65 ∷ Some 66 ∷ Some 67 ∷ Some 68 ∷ Some 88 ∷ Some 91 ∷ []
first (Profile t.AssignTail) = Some 91 ∷ []
first (Profile t.Returned) = Some 0 ∷ Some 1 ∷ Some 2 ∷ Some 3 ∷ Some 4 ∷ Some 5 ∷ Some 6 ∷ Some 7 ∷ Some 11 ∷ Some 12 ∷ Some 13 ∷ Some 18 ∷ Some 35 ∷ Some 37 ∷ Some 51 ∷ Some 71 ∷ Some 72 ∷ Some 78 ∷ Some 81 ∷ Some 83 ∷ Some 85 ∷ []
first (Profile t.GlobalNext) = Some 87 ∷ []
first (Profile t.AssertMessage) = Some 87 ∷ []
first (Profile t.DeletedTail) = Some 81 ∷ Some 83 ∷ Some 89 ∷ []
first (Profile t.DeletedAttribute) = Some 81 ∷ Some 83 ∷ Some 89 ∷ []
first (Profile t.DeletedEnd) = Some 81 ∷ Some 83 ∷ Some 89 ∷ []
first (Profile t.DeletedSubscript) = Some 0 ∷ Some 1 ∷ Some 2 ∷ Some 3 ∷ Some 4 ∷ Some 5 ∷ Some 6 ∷ Some 7 ∷ Some 11 ∷ Some 12 ∷ Some 13 ∷ Some 18 ∷ Some 35 ∷ Some 37 ∷ Some 51 ∷ Some 71 ∷ Some 72 ∷ Some 78 ∷ Some 81 ∷ Some 83 ∷ Some 85 ∷ Some 88 ∷ []
first (Profile t.DeletedSubscriptTail) = Some 70 ∷ Some 84 ∷ Some 88 ∷ []
first (Profile t.Binding) = Some 0 ∷ Some 1 ∷ Some 73 ∷ Some 81 ∷ Some 83 ∷ []
first (Profile t.BindingTail) = Some 87 ∷ []
first (Profile t.BindingMore) = Some 0 ∷ Some 1 ∷ Some 73 ∷ Some 81 ∷ Some 83 ∷ []
first (Profile t.BindingNext) = Some 87 ∷ []
first (Profile t.ExpressionList) = Some 0 ∷ Some 1 ∷ Some 2 ∷ Some 3 ∷ Some 4 ∷ Some 5 ∷ Some 6 ∷ Some 7 ∷ Some 11 ∷ Some 12 ∷ Some 13 ∷ Some 18 ∷ Some 35 ∷ Some 37 ∷ Some 51 ∷ Some 71 ∷ Some 72 ∷ Some 78 ∷ Some 81 ∷ Some 83 ∷ Some 85 ∷ []
first (Profile t.ExpressionListTail) = Some 87 ∷ []
first (Profile t.ItemMore) = Some 0 ∷ Some 1 ∷ Some 2 ∷ Some 3 ∷ Some 4 ∷ Some 5 ∷ Some 6 ∷ Some 7 ∷ Some 11 ∷ Some 12 ∷ Some 13 ∷ Some 18 ∷ Some 35 ∷ Some 37 ∷ Some 51 ∷ Some 71 ∷ Some 72 ∷ Some 73 ∷ Some 78 ∷ Some 81 ∷ Some 83 ∷ Some 85 ∷ []
first (Profile t.ItemNext) = Some 87 ∷ []
first (Profile t.Expression) = Some 0 ∷ Some 1 ∷ Some 2 ∷ Some 3 ∷ Some 4 ∷ Some 5 ∷ Some 6 ∷ Some 7 ∷ Some 11 ∷ Some 12 ∷ Some 13 ∷ Some 18 ∷ Some 35 ∷ Some 37 ∷ Some 51 ∷ Some 71 ∷ Some 72 ∷ Some 78 ∷ Some 81 ∷ Some 83 ∷ Some 85 ∷ []
first (Profile t.ExpressionTail) = Some 31 ∷ []
first (Profile t.OrTest) = Some 0 ∷ Some 1 ∷ Some 2 ∷ Some 3 ∷ Some 4 ∷ Some 5 ∷ Some 6 ∷ Some 7 ∷ Some 11 ∷ Some 12 ∷ Some 13 ∷ Some 18 ∷ Some 37 ∷ Some 51 ∷ Some 71 ∷ Some 72 ∷ Some 78 ∷ Some 81 ∷ Some 83 ∷ Some 85 ∷ []
first (Profile t.OrTail) = Some 38 ∷ []
first (Profile t.OrMore) = Some 38 ∷ []
first (Profile t.AndTest) = Some 0 ∷ Some 1 ∷ Some 2 ∷ Some 3 ∷ Some 4 ∷ Some 5 ∷ Some 6 ∷ Some 7 ∷ Some 11 ∷ Some 12 ∷ Some 13 ∷ Some 18 ∷ Some 37 ∷ Some 51 ∷ Some 71 ∷ Some 72 ∷ Some 78 ∷ Some 81 ∷ Some 83 ∷ Some 85 ∷ []
first (Profile t.AndTail) = Some 14 ∷ []
first (Profile t.AndMore) = Some 14 ∷ []
first (Profile t.NotTest) = Some 0 ∷ Some 1 ∷ Some 2 ∷ Some 3 ∷ Some 4 ∷ Some 5 ∷ Some 6 ∷ Some 7 ∷ Some 11 ∷ Some 12 ∷ Some 13 ∷ Some 18 ∷ Some 37 ∷ Some 51 ∷ Some 71 ∷ Some 72 ∷ Some 78 ∷ Some 81 ∷ Some 83 ∷ Some 85 ∷ []
first (Profile t.Comparison) = Some 0 ∷ Some 1 ∷ Some 2 ∷ Some 3 ∷ Some 4 ∷ Some 5 ∷ Some 6 ∷ Some 7 ∷ Some 11 ∷ Some 12 ∷ Some 13 ∷ Some 18 ∷ Some 51 ∷ Some 71 ∷ Some 72 ∷ Some 78 ∷ Some 81 ∷ Some 83 ∷ Some 85 ∷ []
first (Profile t.ComparisonTail) = Some 33 ∷ Some 34 ∷ Some 37 ∷ Some 56 ∷ Some 57 ∷ Some 58 ∷ Some 59 ∷ Some 79 ∷ Some 80 ∷ []
first (Profile t.ComparisonMore) = Some 33 ∷ Some 34 ∷ Some 37 ∷ Some 56 ∷ Some 57 ∷ Some 58 ∷ Some 59 ∷ Some 79 ∷ Some 80 ∷ []
first (Profile t.ComparisonSign) = Some 33 ∷ Some 34 ∷ Some 37 ∷ Some 56 ∷ Some 57 ∷ Some 58 ∷ Some 59 ∷ Some 79 ∷ Some 80 ∷ []
first (Profile t.IsTail) = Some 37 ∷ []
first (Profile t.OrExpr) = Some 0 ∷ Some 1 ∷ Some 2 ∷ Some 3 ∷ Some 4 ∷ Some 5 ∷ Some 6 ∷ Some 7 ∷ Some 11 ∷ Some 12 ∷ Some 13 ∷ Some 18 ∷ Some 51 ∷ Some 71 ∷ Some 72 ∷ Some 78 ∷ Some 81 ∷ Some 83 ∷ Some 85 ∷ []
first (Profile t.OrExprTail) = Some 76 ∷ []
first (Profile t.XorExpr) = Some 0 ∷ Some 1 ∷ Some 2 ∷ Some 3 ∷ Some 4 ∷ Some 5 ∷ Some 6 ∷ Some 7 ∷ Some 11 ∷ Some 12 ∷ Some 13 ∷ Some 18 ∷ Some 51 ∷ Some 71 ∷ Some 72 ∷ Some 78 ∷ Some 81 ∷ Some 83 ∷ Some 85 ∷ []
first (Profile t.XorExprTail) = Some 77 ∷ []
first (Profile t.AndExpr) = Some 0 ∷ Some 1 ∷ Some 2 ∷ Some 3 ∷ Some 4 ∷ Some 5 ∷ Some 6 ∷ Some 7 ∷ Some 11 ∷ Some 12 ∷ Some 13 ∷ Some 18 ∷ Some 51 ∷ Some 71 ∷ Some 72 ∷ Some 78 ∷ Some 81 ∷ Some 83 ∷ Some 85 ∷ []
first (Profile t.AndExprTail) = Some 75 ∷ []
first (Profile t.ShiftExpr) = Some 0 ∷ Some 1 ∷ Some 2 ∷ Some 3 ∷ Some 4 ∷ Some 5 ∷ Some 6 ∷ Some 7 ∷ Some 11 ∷ Some 12 ∷ Some 13 ∷ Some 18 ∷ Some 51 ∷ Some 71 ∷ Some 72 ∷ Some 78 ∷ Some 81 ∷ Some 83 ∷ Some 85 ∷ []
first (Profile t.ShiftTail) = Some 54 ∷ Some 55 ∷ []
first (Profile t.Sum) = Some 0 ∷ Some 1 ∷ Some 2 ∷ Some 3 ∷ Some 4 ∷ Some 5 ∷ Some 6 ∷ Some 7 ∷ Some 11 ∷ Some 12 ∷ Some 13 ∷ Some 18 ∷ Some 51 ∷ Some 71 ∷ Some 72 ∷ Some 78 ∷ Some 81 ∷ Some 83 ∷ Some 85 ∷ []
first (Profile t.SumTail) = Some 71 ∷ Some 72 ∷ []
first (Profile t.Product) = Some 0 ∷ Some 1 ∷ Some 2 ∷ Some 3 ∷ Some 4 ∷ Some 5 ∷ Some 6 ∷ Some 7 ∷ Some 11 ∷ Some 12 ∷ Some 13 ∷ Some 18 ∷ Some 51 ∷ Some 71 ∷ Some 72 ∷ Some 78 ∷ Some 81 ∷ Some 83 ∷ Some 85 ∷ []
first (Profile t.ProductTail) = Some 52 ∷ Some 73 ∷ Some 74 ∷ Some 92 ∷ Some 93 ∷ []
first (Profile t.Factor) = Some 0 ∷ Some 1 ∷ Some 2 ∷ Some 3 ∷ Some 4 ∷ Some 5 ∷ Some 6 ∷ Some 7 ∷ Some 11 ∷ Some 12 ∷ Some 13 ∷ Some 18 ∷ Some 51 ∷ Some 71 ∷ Some 72 ∷ Some 78 ∷ Some 81 ∷ Some 83 ∷ Some 85 ∷ []
first (Profile t.PowerExpr) = Some 0 ∷ Some 1 ∷ Some 2 ∷ Some 3 ∷ Some 4 ∷ Some 5 ∷ Some 6 ∷ Some 7 ∷ Some 11 ∷ Some 12 ∷ Some 13 ∷ Some 18 ∷ Some 51 ∷ Some 81 ∷ Some 83 ∷ Some 85 ∷ []
first (Profile t.PowerTail) = Some 53 ∷ []
first (Profile t.Primary) = Some 0 ∷ Some 1 ∷ Some 2 ∷ Some 3 ∷ Some 4 ∷ Some 5 ∷ Some 6 ∷ Some 7 ∷ Some 11 ∷ Some 12 ∷ Some 13 ∷ Some 51 ∷ Some 81 ∷ Some 83 ∷ Some 85 ∷ []
first (Profile t.PrimaryTail) = Some 81 ∷ Some 83 ∷ Some 89 ∷ []
first (Profile t.AttributeTail) = Some 81 ∷ Some 83 ∷ Some 89 ∷ []
first (Profile t.Subscription) = Some 0 ∷ Some 1 ∷ Some 2 ∷ Some 3 ∷ Some 4 ∷ Some 5 ∷ Some 6 ∷ Some 7 ∷ Some 11 ∷ Some 12 ∷ Some 13 ∷ Some 18 ∷ Some 35 ∷ Some 37 ∷ Some 51 ∷ Some 71 ∷ Some 72 ∷ Some 78 ∷ Some 81 ∷ Some 83 ∷ Some 85 ∷ Some 88 ∷ []
first (Profile t.SubscriptionTail) = Some 70 ∷ Some 84 ∷ Some 88 ∷ []
first (Profile t.Upper) = Some 0 ∷ Some 1 ∷ Some 2 ∷ Some 3 ∷ Some 4 ∷ Some 5 ∷ Some 6 ∷ Some 7 ∷ Some 11 ∷ Some 12 ∷ Some 13 ∷ Some 18 ∷ Some 35 ∷ Some 37 ∷ Some 51 ∷ Some 71 ∷ Some 72 ∷ Some 78 ∷ Some 81 ∷ Some 83 ∷ Some 84 ∷ Some 85 ∷ Some 88 ∷ []
first (Profile t.Arguments) = Some 0 ∷ Some 1 ∷ Some 2 ∷ Some 3 ∷ Some 4 ∷ Some 5 ∷ Some 6 ∷ Some 7 ∷ Some 11 ∷ Some 12 ∷ Some 13 ∷ Some 18 ∷ Some 35 ∷ Some 37 ∷ Some 51 ∷ Some 53 ∷ Some 71 ∷ Some 72 ∷ Some 73 ∷ Some 78 ∷ Some 81 ∷ Some 83 ∷ Some 85 ∷ []
first (Profile t.ArgumentTail) = Some 28 ∷ Some 70 ∷ Some 87 ∷ Some 91 ∷ []
first (Profile t.KeywordNext) = Some 87 ∷ []
first (Profile t.KeywordMore) = Some 0 ∷ Some 1 ∷ Some 53 ∷ Some 73 ∷ []
first (Profile t.PlainArguments) = Some 0 ∷ Some 1 ∷ Some 2 ∷ Some 3 ∷ Some 4 ∷ Some 5 ∷ Some 6 ∷ Some 7 ∷ Some 11 ∷ Some 12 ∷ Some 13 ∷ Some 18 ∷ Some 35 ∷ Some 37 ∷ Some 51 ∷ Some 53 ∷ Some 71 ∷ Some 72 ∷ Some 73 ∷ Some 78 ∷ Some 81 ∷ Some 83 ∷ Some 85 ∷ []
first (Profile t.PlainArgumentTail) = Some 28 ∷ Some 70 ∷ Some 87 ∷ Some 91 ∷ []
first (Profile t.Atom) = Some 0 ∷ Some 1 ∷ Some 2 ∷ Some 3 ∷ Some 4 ∷ Some 5 ∷ Some 6 ∷ Some 7 ∷ Some 11 ∷ Some 12 ∷ Some 13 ∷ Some 51 ∷ Some 81 ∷ Some 83 ∷ Some 85 ∷ []
first (Profile t.Parenthesised) = Some 0 ∷ Some 1 ∷ Some 2 ∷ Some 3 ∷ Some 4 ∷ Some 5 ∷ Some 6 ∷ Some 7 ∷ Some 11 ∷ Some 12 ∷ Some 13 ∷ Some 18 ∷ Some 35 ∷ Some 37 ∷ Some 45 ∷ Some 51 ∷ Some 71 ∷ Some 72 ∷ Some 73 ∷ Some 78 ∷ Some 81 ∷ Some 82 ∷ Some 83 ∷ Some 85 ∷ []
first (Profile t.ParenthesisedTail) = Some 28 ∷ Some 82 ∷ Some 87 ∷ []
first (Profile t.Bracketed) = Some 0 ∷ Some 1 ∷ Some 2 ∷ Some 3 ∷ Some 4 ∷ Some 5 ∷ Some 6 ∷ Some 7 ∷ Some 11 ∷ Some 12 ∷ Some 13 ∷ Some 18 ∷ Some 35 ∷ Some 37 ∷ Some 51 ∷ Some 71 ∷ Some 72 ∷ Some 73 ∷ Some 78 ∷ Some 81 ∷ Some 83 ∷ Some 84 ∷ Some 85 ∷ []
first (Profile t.BracketedTail) = Some 17 ∷ Some 28 ∷ Some 84 ∷ Some 87 ∷ []
first (Profile t.Braced) = Some 0 ∷ Some 1 ∷ Some 2 ∷ Some 3 ∷ Some 4 ∷ Some 5 ∷ Some 6 ∷ Some 7 ∷ Some 11 ∷ Some 12 ∷ Some 13 ∷ Some 18 ∷ Some 35 ∷ Some 37 ∷ Some 51 ∷ Some 71 ∷ Some 72 ∷ Some 78 ∷ Some 81 ∷ Some 83 ∷ Some 85 ∷ Some 86 ∷ []
first (Profile t.BracedTail) = Some 28 ∷ Some 70 ∷ Some 86 ∷ Some 87 ∷ Some 88 ∷ []
first (Profile t.PairNext) = Some 87 ∷ []
first (Profile t.PairMore) = Some 0 ∷ Some 1 ∷ Some 2 ∷ Some 3 ∷ Some 4 ∷ Some 5 ∷ Some 6 ∷ Some 7 ∷ Some 11 ∷ Some 12 ∷ Some 13 ∷ Some 18 ∷ Some 35 ∷ Some 37 ∷ Some 51 ∷ Some 71 ∷ Some 72 ∷ Some 78 ∷ Some 81 ∷ Some 83 ∷ Some 85 ∷ []
first (Profile t.Comprehension) = Some 17 ∷ Some 28 ∷ []
first (Profile t.Conditions) = Some 31 ∷ []
first (Profile t.Comprehensions) = Some 17 ∷ Some 28 ∷ []
first (Profile t.AnyName) = Some 0 ∷ Some 1 ∷ []
first NamedExpression = Some 0 ∷ Some 1 ∷ Some 2 ∷ Some 3 ∷ Some 4 ∷ Some 5 ∷ Some 6 ∷ Some 7 ∷ Some 11 ∷ Some 12 ∷ Some 13 ∷ Some 18 ∷ Some 35 ∷ Some 37 ∷ Some 51 ∷ Some 71 ∷ Some 72 ∷ Some 78 ∷ Some 81 ∷ Some 83 ∷ Some 85 ∷ []
first Named = Some 70 ∷ []
first NamedCondition = Some 70 ∷ []
first NamedItemMore = Some 0 ∷ Some 1 ∷ Some 2 ∷ Some 3 ∷ Some 4 ∷ Some 5 ∷ Some 6 ∷ Some 7 ∷ Some 11 ∷ Some 12 ∷ Some 13 ∷ Some 18 ∷ Some 35 ∷ Some 37 ∷ Some 51 ∷ Some 71 ∷ Some 72 ∷ Some 73 ∷ Some 78 ∷ Some 81 ∷ Some 83 ∷ Some 85 ∷ []
first NamedItemNext = Some 87 ∷ []
first LoopElse = Some 25 ∷ []
first TryTail = Some 26 ∷ Some 27 ∷ []
first HandlersEnd = Some 25 ∷ Some 27 ∷ []
first BlockLine = Some 0 ∷ Some 1 ∷ Some 2 ∷ Some 3 ∷ Some 4 ∷ Some 5 ∷ Some 6 ∷ Some 7 ∷ Some 11 ∷ Some 12 ∷ Some 13 ∷ Some 16 ∷ Some 18 ∷ Some 19 ∷ Some 21 ∷ Some 23 ∷ Some 29 ∷ Some 30 ∷ Some 32 ∷ Some 35 ∷ Some 36 ∷ Some 37 ∷ Some 39 ∷ Some 40 ∷ Some 41 ∷ Some 45 ∷ Some 51 ∷ Some 71 ∷ Some 72 ∷ Some 73 ∷ Some 78 ∷ Some 81 ∷ Some 83 ∷ Some 85 ∷ []
first BlockLineTail = Some 8 ∷ Some 90 ∷ []
first BlockLineMore = Some 0 ∷ Some 1 ∷ Some 2 ∷ Some 3 ∷ Some 4 ∷ Some 5 ∷ Some 6 ∷ Some 7 ∷ Some 8 ∷ Some 11 ∷ Some 12 ∷ Some 13 ∷ Some 16 ∷ Some 18 ∷ Some 19 ∷ Some 21 ∷ Some 23 ∷ Some 29 ∷ Some 30 ∷ Some 32 ∷ Some 35 ∷ Some 36 ∷ Some 37 ∷ Some 39 ∷ Some 40 ∷ Some 41 ∷ Some 45 ∷ Some 51 ∷ Some 71 ∷ Some 72 ∷ Some 73 ∷ Some 78 ∷ Some 81 ∷ Some 83 ∷ Some 85 ∷ []
first BlockSmall = Some 0 ∷ Some 1 ∷ Some 2 ∷ Some 3 ∷ Some 4 ∷ Some 5 ∷ Some 6 ∷ Some 7 ∷ Some 11 ∷ Some 12 ∷ Some 13 ∷ Some 16 ∷ Some 18 ∷ Some 19 ∷ Some 21 ∷ Some 23 ∷ Some 29 ∷ Some 30 ∷ Some 32 ∷ Some 35 ∷ Some 36 ∷ Some 37 ∷ Some 39 ∷ Some 40 ∷ Some 41 ∷ Some 45 ∷ Some 51 ∷ Some 71 ∷ Some 72 ∷ Some 73 ∷ Some 78 ∷ Some 81 ∷ Some 83 ∷ Some 85 ∷ []
first DefinitionRest = Some 0 ∷ Some 1 ∷ []
first Arrow = Some 69 ∷ []
first ClassRest = Some 0 ∷ Some 1 ∷ []
first BaseEnd = Some 82 ∷ Some 87 ∷ Some 91 ∷ []
first BriefText = Some 8 ∷ Some 81 ∷ Some 83 ∷ Some 89 ∷ []
first FromModule = Some 0 ∷ Some 1 ∷ Some 51 ∷ Some 89 ∷ []
first FromDots = Some 89 ∷ []
first FromItems = Some 0 ∷ Some 1 ∷ Some 73 ∷ []
first ImportTail = Some 15 ∷ Some 89 ∷ []
first Raised = Some 0 ∷ Some 1 ∷ Some 2 ∷ Some 3 ∷ Some 4 ∷ Some 5 ∷ Some 6 ∷ Some 7 ∷ Some 11 ∷ Some 12 ∷ Some 13 ∷ Some 18 ∷ Some 35 ∷ Some 37 ∷ Some 51 ∷ Some 71 ∷ Some 72 ∷ Some 78 ∷ Some 81 ∷ Some 83 ∷ Some 85 ∷ []
first RaisedTail = Some 29 ∷ []
first Yielded = Some 0 ∷ Some 1 ∷ Some 2 ∷ Some 3 ∷ Some 4 ∷ Some 5 ∷ Some 6 ∷ Some 7 ∷ Some 11 ∷ Some 12 ∷ Some 13 ∷ Some 18 ∷ Some 29 ∷ Some 35 ∷ Some 37 ∷ Some 51 ∷ Some 71 ∷ Some 72 ∷ Some 78 ∷ Some 81 ∷ Some 83 ∷ Some 85 ∷ []
first Deleted = Some 81 ∷ Some 83 ∷ Some 87 ∷ Some 89 ∷ []
first DeletedSlice = Some 81 ∷ Some 83 ∷ Some 89 ∷ []
first BindingEnd = Some 87 ∷ []
first Assigned = Some 0 ∷ Some 1 ∷ Some 2 ∷ Some 3 ∷ Some 4 ∷ Some 5 ∷ Some 6 ∷ Some 7 ∷ Some 11 ∷ Some 12 ∷ Some 13 ∷ Some 18 ∷ Some 35 ∷ Some 37 ∷ Some 45 ∷ Some 51 ∷ Some 71 ∷ Some 72 ∷ Some 73 ∷ Some 78 ∷ Some 81 ∷ Some 83 ∷ Some 85 ∷ []
first RightSide = Some 0 ∷ Some 1 ∷ Some 2 ∷ Some 3 ∷ Some 4 ∷ Some 5 ∷ Some 6 ∷ Some 7 ∷ Some 11 ∷ Some 12 ∷ Some 13 ∷ Some 18 ∷ Some 35 ∷ Some 37 ∷ Some 45 ∷ Some 51 ∷ Some 71 ∷ Some 72 ∷ Some 78 ∷ Some 81 ∷ Some 83 ∷ Some 85 ∷ []
first UpperEnd = Some 84 ∷ Some 88 ∷ []
first TextTail = Some 7 ∷ []
first FirstPairNext = Some 28 ∷ Some 87 ∷ []
first MoreBytes = Some 6 ∷ []
first MoreTexts = Some 3 ∷ Some 7 ∷ []
first Decorated = Some 20 ∷ Some 22 ∷ Some 93 ∷ []
first DecoratedMember = Some 22 ∷ Some 93 ∷ []
first LambdaParameters = Some 0 ∷ Some 1 ∷ []
first LambdaDefault = Some 91 ∷ []
first LambdaNext = Some 87 ∷ []
first StarName = Some 0 ∷ Some 1 ∷ Some 87 ∷ []
first StarNext = Some 87 ∷ []
first StarMore = Some 0 ∷ Some 1 ∷ Some 53 ∷ []
first StarEnd = Some 87 ∷ []
first ArgumentsNext = Some 87 ∷ []
first PairsNext = Some 87 ∷ []
first PairsMore = Some 0 ∷ Some 1 ∷ Some 53 ∷ []
first PlainNext = Some 87 ∷ []
first PlainPairsNext = Some 87 ∷ []
first PlainPairsMore = Some 53 ∷ []
first PlainKeywordNext = Some 87 ∷ []
first PlainKeywordMore = Some 0 ∷ Some 1 ∷ []
first AnnotatedDefault = Some 91 ∷ []
first AnnotatedValue = Some 91 ∷ []
first AnnotatedMember = Some 88 ∷ []
first AnnotatedBracket = Some 81 ∷ Some 83 ∷ Some 88 ∷ Some 89 ∷ []
first ClassTargets = Some 87 ∷ Some 91 ∷ []
first ClassItems = Some 0 ∷ Some 1 ∷ Some 2 ∷ Some 3 ∷ Some 11 ∷ Some 12 ∷ Some 13 ∷ Some 81 ∷ Some 83 ∷ Some 85 ∷ Some 91 ∷ []
first ClassItemNext = Some 87 ∷ Some 91 ∷ []
first ClassBracket = Some 81 ∷ Some 83 ∷ Some 89 ∷ Some 91 ∷ []
first Target = Some 0 ∷ Some 1 ∷ Some 2 ∷ Some 3 ∷ Some 11 ∷ Some 12 ∷ Some 13 ∷ Some 81 ∷ Some 83 ∷ Some 85 ∷ []
first TargetTail = Some 81 ∷ Some 83 ∷ Some 89 ∷ []
first TargetAttribute = Some 81 ∷ Some 83 ∷ Some 89 ∷ []
first TargetEnd = Some 81 ∷ Some 83 ∷ Some 89 ∷ []
first TargetSubscript = Some 0 ∷ Some 1 ∷ Some 2 ∷ Some 3 ∷ Some 4 ∷ Some 5 ∷ Some 6 ∷ Some 7 ∷ Some 11 ∷ Some 12 ∷ Some 13 ∷ Some 18 ∷ Some 35 ∷ Some 37 ∷ Some 51 ∷ Some 71 ∷ Some 72 ∷ Some 78 ∷ Some 81 ∷ Some 83 ∷ Some 85 ∷ Some 88 ∷ []
first TargetSubscriptTail = Some 84 ∷ Some 88 ∷ []
first MoreBases = Some 0 ∷ Some 1 ∷ []
first BasesNext = Some 87 ∷ []
first ClassKeywordBase = Some 0 ∷ Some 1 ∷ []
first ClassKeywordTail = Some 87 ∷ Some 89 ∷ Some 91 ∷ []
first ClassKeywordNext = Some 87 ∷ []
first ClassKeywordMore = Some 0 ∷ Some 1 ∷ []
first Step = Some 0 ∷ Some 1 ∷ Some 2 ∷ Some 3 ∷ Some 4 ∷ Some 5 ∷ Some 6 ∷ Some 7 ∷ Some 11 ∷ Some 12 ∷ Some 13 ∷ Some 18 ∷ Some 35 ∷ Some 37 ∷ Some 51 ∷ Some 71 ∷ Some 72 ∷ Some 78 ∷ Some 81 ∷ Some 83 ∷ Some 84 ∷ Some 85 ∷ []
first UpperStep = Some 0 ∷ Some 1 ∷ Some 2 ∷ Some 3 ∷ Some 4 ∷ Some 5 ∷ Some 6 ∷ Some 7 ∷ Some 11 ∷ Some 12 ∷ Some 13 ∷ Some 18 ∷ Some 35 ∷ Some 37 ∷ Some 51 ∷ Some 71 ∷ Some 72 ∷ Some 78 ∷ Some 81 ∷ Some 83 ∷ Some 84 ∷ Some 85 ∷ []
first WithItem = Some 0 ∷ Some 1 ∷ Some 2 ∷ Some 3 ∷ Some 4 ∷ Some 5 ∷ Some 6 ∷ Some 7 ∷ Some 11 ∷ Some 12 ∷ Some 13 ∷ Some 18 ∷ Some 35 ∷ Some 37 ∷ Some 51 ∷ Some 71 ∷ Some 72 ∷ Some 78 ∷ Some 81 ∷ Some 83 ∷ Some 85 ∷ []
first WithTarget = Some 15 ∷ []
first WithBinding = Some 0 ∷ Some 1 ∷ Some 2 ∷ Some 3 ∷ Some 11 ∷ Some 12 ∷ Some 13 ∷ Some 81 ∷ Some 83 ∷ Some 85 ∷ []
first WithBracket = Some 81 ∷ Some 83 ∷ Some 89 ∷ []
first WithNext = Some 87 ∷ []
first AsyncStatement = Some 22 ∷ Some 28 ∷ Some 44 ∷ []
first YieldValue = Some 0 ∷ Some 1 ∷ Some 2 ∷ Some 3 ∷ Some 4 ∷ Some 5 ∷ Some 6 ∷ Some 7 ∷ Some 11 ∷ Some 12 ∷ Some 13 ∷ Some 18 ∷ Some 35 ∷ Some 37 ∷ Some 51 ∷ Some 71 ∷ Some 72 ∷ Some 78 ∷ Some 81 ∷ Some 83 ∷ Some 85 ∷ []
first HeadedLoop = Some 0 ∷ Some 1 ∷ Some 73 ∷ Some 81 ∷ Some 83 ∷ []
first LoopConditions = Some 31 ∷ []
first LoopMore = Some 28 ∷ []
first WalrusArgument = Some 87 ∷ []
first PlainWalrusArgument = Some 87 ∷ []
first WalrusSet = Some 86 ∷ Some 87 ∷ []
first RelativeModule = Some 1 ∷ Some 51 ∷ Some 89 ∷ []
first ExceptNext = Some 87 ∷ []
first ExceptMore = Some 0 ∷ Some 1 ∷ Some 2 ∷ Some 3 ∷ Some 4 ∷ Some 5 ∷ Some 6 ∷ Some 7 ∷ Some 11 ∷ Some 12 ∷ Some 13 ∷ Some 18 ∷ Some 35 ∷ Some 37 ∷ Some 51 ∷ Some 71 ∷ Some 72 ∷ Some 78 ∷ Some 81 ∷ Some 83 ∷ Some 85 ∷ []
first DeletedRest = Some 87 ∷ []
first DeletedNames = Some 0 ∷ Some 1 ∷ Some 81 ∷ Some 83 ∷ []
first DeletedNamesNext = Some 87 ∷ []
first DeletedName = Some 0 ∷ Some 1 ∷ Some 81 ∷ Some 83 ∷ []
first StarTargets = Some 87 ∷ Some 91 ∷ []
first StarTargetMore = Some 0 ∷ Some 1 ∷ Some 2 ∷ Some 3 ∷ Some 11 ∷ Some 12 ∷ Some 13 ∷ Some 73 ∷ Some 81 ∷ Some 83 ∷ Some 85 ∷ Some 91 ∷ []

abbrev pub follow : Name → List Sight
follow (Profile t.Module) = None ∷ []
follow (Profile t.TopStatement) = None ∷ Some 0 ∷ Some 1 ∷ Some 2 ∷ Some 3 ∷ Some 4 ∷ Some 5 ∷ Some 6 ∷ Some 7 ∷ Some 11 ∷ Some 12 ∷ Some 13 ∷ Some 16 ∷ Some 17 ∷ Some 18 ∷ Some 19 ∷ Some 20 ∷ Some 21 ∷ Some 22 ∷ Some 23 ∷ Some 28 ∷ Some 29 ∷ Some 30 ∷ Some 31 ∷ Some 32 ∷ Some 35 ∷ Some 36 ∷ Some 37 ∷ Some 39 ∷ Some 40 ∷ Some 41 ∷ Some 42 ∷ Some 43 ∷ Some 44 ∷ Some 45 ∷ Some 51 ∷ Some 71 ∷ Some 72 ∷ Some 73 ∷ Some 78 ∷ Some 81 ∷ Some 83 ∷ Some 85 ∷ Some 93 ∷ []
follow (Profile t.Statements) = Some 10 ∷ []
follow (Profile t.Statement) = Some 0 ∷ Some 1 ∷ Some 2 ∷ Some 3 ∷ Some 4 ∷ Some 5 ∷ Some 6 ∷ Some 7 ∷ Some 10 ∷ Some 11 ∷ Some 12 ∷ Some 13 ∷ Some 16 ∷ Some 17 ∷ Some 18 ∷ Some 19 ∷ Some 20 ∷ Some 21 ∷ Some 22 ∷ Some 23 ∷ Some 28 ∷ Some 29 ∷ Some 30 ∷ Some 31 ∷ Some 32 ∷ Some 35 ∷ Some 36 ∷ Some 37 ∷ Some 39 ∷ Some 40 ∷ Some 41 ∷ Some 42 ∷ Some 43 ∷ Some 44 ∷ Some 45 ∷ Some 51 ∷ Some 71 ∷ Some 72 ∷ Some 73 ∷ Some 78 ∷ Some 81 ∷ Some 83 ∷ Some 85 ∷ Some 93 ∷ []
follow (Profile t.Compound) = None ∷ Some 0 ∷ Some 1 ∷ Some 2 ∷ Some 3 ∷ Some 4 ∷ Some 5 ∷ Some 6 ∷ Some 7 ∷ Some 10 ∷ Some 11 ∷ Some 12 ∷ Some 13 ∷ Some 16 ∷ Some 17 ∷ Some 18 ∷ Some 19 ∷ Some 20 ∷ Some 21 ∷ Some 22 ∷ Some 23 ∷ Some 28 ∷ Some 29 ∷ Some 30 ∷ Some 31 ∷ Some 32 ∷ Some 35 ∷ Some 36 ∷ Some 37 ∷ Some 39 ∷ Some 40 ∷ Some 41 ∷ Some 42 ∷ Some 43 ∷ Some 44 ∷ Some 45 ∷ Some 51 ∷ Some 71 ∷ Some 72 ∷ Some 73 ∷ Some 78 ∷ Some 81 ∷ Some 83 ∷ Some 85 ∷ Some 93 ∷ []
follow (Profile t.Otherwise) = None ∷ Some 0 ∷ Some 1 ∷ Some 2 ∷ Some 3 ∷ Some 4 ∷ Some 5 ∷ Some 6 ∷ Some 7 ∷ Some 10 ∷ Some 11 ∷ Some 12 ∷ Some 13 ∷ Some 16 ∷ Some 17 ∷ Some 18 ∷ Some 19 ∷ Some 20 ∷ Some 21 ∷ Some 22 ∷ Some 23 ∷ Some 28 ∷ Some 29 ∷ Some 30 ∷ Some 31 ∷ Some 32 ∷ Some 35 ∷ Some 36 ∷ Some 37 ∷ Some 39 ∷ Some 40 ∷ Some 41 ∷ Some 42 ∷ Some 43 ∷ Some 44 ∷ Some 45 ∷ Some 51 ∷ Some 71 ∷ Some 72 ∷ Some 73 ∷ Some 78 ∷ Some 81 ∷ Some 83 ∷ Some 85 ∷ Some 93 ∷ []
follow (Profile t.Suite) = None ∷ Some 0 ∷ Some 1 ∷ Some 2 ∷ Some 3 ∷ Some 4 ∷ Some 5 ∷ Some 6 ∷ Some 7 ∷ Some 10 ∷ Some 11 ∷ Some 12 ∷ Some 13 ∷ Some 16 ∷ Some 17 ∷ Some 18 ∷ Some 19 ∷ Some 20 ∷ Some 21 ∷ Some 22 ∷ Some 23 ∷ Some 24 ∷ Some 25 ∷ Some 26 ∷ Some 27 ∷ Some 28 ∷ Some 29 ∷ Some 30 ∷ Some 31 ∷ Some 32 ∷ Some 35 ∷ Some 36 ∷ Some 37 ∷ Some 39 ∷ Some 40 ∷ Some 41 ∷ Some 42 ∷ Some 43 ∷ Some 44 ∷ Some 45 ∷ Some 51 ∷ Some 71 ∷ Some 72 ∷ Some 73 ∷ Some 78 ∷ Some 81 ∷ Some 83 ∷ Some 85 ∷ Some 93 ∷ []
follow (Profile t.Handler) = None ∷ Some 0 ∷ Some 1 ∷ Some 2 ∷ Some 3 ∷ Some 4 ∷ Some 5 ∷ Some 6 ∷ Some 7 ∷ Some 10 ∷ Some 11 ∷ Some 12 ∷ Some 13 ∷ Some 16 ∷ Some 17 ∷ Some 18 ∷ Some 19 ∷ Some 20 ∷ Some 21 ∷ Some 22 ∷ Some 23 ∷ Some 28 ∷ Some 29 ∷ Some 30 ∷ Some 31 ∷ Some 32 ∷ Some 35 ∷ Some 36 ∷ Some 37 ∷ Some 39 ∷ Some 40 ∷ Some 41 ∷ Some 42 ∷ Some 43 ∷ Some 44 ∷ Some 45 ∷ Some 51 ∷ Some 71 ∷ Some 72 ∷ Some 73 ∷ Some 78 ∷ Some 81 ∷ Some 83 ∷ Some 85 ∷ Some 93 ∷ []
follow (Profile t.HandlerAlias) = None ∷ Some 0 ∷ Some 1 ∷ Some 2 ∷ Some 3 ∷ Some 4 ∷ Some 5 ∷ Some 6 ∷ Some 7 ∷ Some 10 ∷ Some 11 ∷ Some 12 ∷ Some 13 ∷ Some 16 ∷ Some 17 ∷ Some 18 ∷ Some 19 ∷ Some 20 ∷ Some 21 ∷ Some 22 ∷ Some 23 ∷ Some 28 ∷ Some 29 ∷ Some 30 ∷ Some 31 ∷ Some 32 ∷ Some 35 ∷ Some 36 ∷ Some 37 ∷ Some 39 ∷ Some 40 ∷ Some 41 ∷ Some 42 ∷ Some 43 ∷ Some 44 ∷ Some 45 ∷ Some 51 ∷ Some 71 ∷ Some 72 ∷ Some 73 ∷ Some 78 ∷ Some 81 ∷ Some 83 ∷ Some 85 ∷ Some 93 ∷ []
follow (Profile t.MoreHandlers) = None ∷ Some 0 ∷ Some 1 ∷ Some 2 ∷ Some 3 ∷ Some 4 ∷ Some 5 ∷ Some 6 ∷ Some 7 ∷ Some 10 ∷ Some 11 ∷ Some 12 ∷ Some 13 ∷ Some 16 ∷ Some 17 ∷ Some 18 ∷ Some 19 ∷ Some 20 ∷ Some 21 ∷ Some 22 ∷ Some 23 ∷ Some 28 ∷ Some 29 ∷ Some 30 ∷ Some 31 ∷ Some 32 ∷ Some 35 ∷ Some 36 ∷ Some 37 ∷ Some 39 ∷ Some 40 ∷ Some 41 ∷ Some 42 ∷ Some 43 ∷ Some 44 ∷ Some 45 ∷ Some 51 ∷ Some 71 ∷ Some 72 ∷ Some 73 ∷ Some 78 ∷ Some 81 ∷ Some 83 ∷ Some 85 ∷ Some 93 ∷ []
follow (Profile t.QualifiedName) = Some 15 ∷ Some 82 ∷ Some 87 ∷ Some 88 ∷ Some 91 ∷ []
follow (Profile t.QualifiedNameTail) = Some 15 ∷ Some 82 ∷ Some 87 ∷ Some 88 ∷ Some 91 ∷ []
follow (Profile t.Definition) = None ∷ Some 0 ∷ Some 1 ∷ Some 2 ∷ Some 3 ∷ Some 4 ∷ Some 5 ∷ Some 6 ∷ Some 7 ∷ Some 10 ∷ Some 11 ∷ Some 12 ∷ Some 13 ∷ Some 16 ∷ Some 17 ∷ Some 18 ∷ Some 19 ∷ Some 20 ∷ Some 21 ∷ Some 22 ∷ Some 23 ∷ Some 28 ∷ Some 29 ∷ Some 30 ∷ Some 31 ∷ Some 32 ∷ Some 35 ∷ Some 36 ∷ Some 37 ∷ Some 39 ∷ Some 40 ∷ Some 41 ∷ Some 42 ∷ Some 43 ∷ Some 44 ∷ Some 45 ∷ Some 51 ∷ Some 71 ∷ Some 72 ∷ Some 73 ∷ Some 78 ∷ Some 81 ∷ Some 83 ∷ Some 85 ∷ Some 93 ∷ []
follow (Profile t.ParameterList) = Some 82 ∷ []
follow (Profile t.ParameterNext) = Some 82 ∷ []
follow (Profile t.ParameterItem) = Some 82 ∷ Some 87 ∷ []
follow (Profile t.ParameterDefault) = Some 82 ∷ Some 87 ∷ []
follow (Profile t.ClassDefinition) = None ∷ Some 0 ∷ Some 1 ∷ Some 2 ∷ Some 3 ∷ Some 4 ∷ Some 5 ∷ Some 6 ∷ Some 7 ∷ Some 10 ∷ Some 11 ∷ Some 12 ∷ Some 13 ∷ Some 16 ∷ Some 17 ∷ Some 18 ∷ Some 19 ∷ Some 20 ∷ Some 21 ∷ Some 22 ∷ Some 23 ∷ Some 28 ∷ Some 29 ∷ Some 30 ∷ Some 31 ∷ Some 32 ∷ Some 35 ∷ Some 36 ∷ Some 37 ∷ Some 39 ∷ Some 40 ∷ Some 41 ∷ Some 42 ∷ Some 43 ∷ Some 44 ∷ Some 45 ∷ Some 51 ∷ Some 71 ∷ Some 72 ∷ Some 73 ∷ Some 78 ∷ Some 81 ∷ Some 83 ∷ Some 85 ∷ Some 93 ∷ []
follow (Profile t.ClassBase) = Some 88 ∷ []
follow (Profile t.BaseList) = Some 88 ∷ []
follow (Profile t.ClassSuite) = None ∷ Some 0 ∷ Some 1 ∷ Some 2 ∷ Some 3 ∷ Some 4 ∷ Some 5 ∷ Some 6 ∷ Some 7 ∷ Some 10 ∷ Some 11 ∷ Some 12 ∷ Some 13 ∷ Some 16 ∷ Some 17 ∷ Some 18 ∷ Some 19 ∷ Some 20 ∷ Some 21 ∷ Some 22 ∷ Some 23 ∷ Some 28 ∷ Some 29 ∷ Some 30 ∷ Some 31 ∷ Some 32 ∷ Some 35 ∷ Some 36 ∷ Some 37 ∷ Some 39 ∷ Some 40 ∷ Some 41 ∷ Some 42 ∷ Some 43 ∷ Some 44 ∷ Some 45 ∷ Some 51 ∷ Some 71 ∷ Some 72 ∷ Some 73 ∷ Some 78 ∷ Some 81 ∷ Some 83 ∷ Some 85 ∷ Some 93 ∷ []
follow (Profile t.Member) = Some 0 ∷ Some 1 ∷ Some 2 ∷ Some 3 ∷ Some 10 ∷ Some 11 ∷ Some 12 ∷ Some 13 ∷ Some 17 ∷ Some 20 ∷ Some 22 ∷ Some 29 ∷ Some 32 ∷ Some 39 ∷ Some 81 ∷ Some 83 ∷ Some 85 ∷ Some 93 ∷ []
follow (Profile t.Members) = Some 10 ∷ []
follow (Profile t.Brief) = None ∷ Some 0 ∷ Some 1 ∷ Some 2 ∷ Some 3 ∷ Some 4 ∷ Some 5 ∷ Some 6 ∷ Some 7 ∷ Some 10 ∷ Some 11 ∷ Some 12 ∷ Some 13 ∷ Some 16 ∷ Some 17 ∷ Some 18 ∷ Some 19 ∷ Some 20 ∷ Some 21 ∷ Some 22 ∷ Some 23 ∷ Some 28 ∷ Some 29 ∷ Some 30 ∷ Some 31 ∷ Some 32 ∷ Some 35 ∷ Some 36 ∷ Some 37 ∷ Some 39 ∷ Some 40 ∷ Some 41 ∷ Some 42 ∷ Some 43 ∷ Some 44 ∷ Some 45 ∷ Some 51 ∷ Some 71 ∷ Some 72 ∷ Some 73 ∷ Some 78 ∷ Some 81 ∷ Some 83 ∷ Some 85 ∷ Some 93 ∷ []
follow (Profile t.ImportStatement) = None ∷ Some 0 ∷ Some 1 ∷ Some 2 ∷ Some 3 ∷ Some 4 ∷ Some 5 ∷ Some 6 ∷ Some 7 ∷ Some 11 ∷ Some 12 ∷ Some 13 ∷ Some 16 ∷ Some 17 ∷ Some 18 ∷ Some 19 ∷ Some 20 ∷ Some 21 ∷ Some 22 ∷ Some 23 ∷ Some 28 ∷ Some 29 ∷ Some 30 ∷ Some 31 ∷ Some 32 ∷ Some 35 ∷ Some 36 ∷ Some 37 ∷ Some 39 ∷ Some 40 ∷ Some 41 ∷ Some 42 ∷ Some 43 ∷ Some 44 ∷ Some 45 ∷ Some 51 ∷ Some 71 ∷ Some 72 ∷ Some 73 ∷ Some 78 ∷ Some 81 ∷ Some 83 ∷ Some 85 ∷ Some 93 ∷ []
follow (Profile t.ImportItem) = Some 8 ∷ Some 87 ∷ Some 90 ∷ []
follow (Profile t.ImportAlias) = Some 8 ∷ Some 87 ∷ Some 90 ∷ []
follow (Profile t.ImportNext) = Some 8 ∷ Some 90 ∷ []
follow (Profile t.FromItem) = Some 8 ∷ Some 87 ∷ Some 90 ∷ []
follow (Profile t.FromNext) = Some 8 ∷ Some 90 ∷ []
follow (Profile t.Line) = None ∷ Some 0 ∷ Some 1 ∷ Some 2 ∷ Some 3 ∷ Some 4 ∷ Some 5 ∷ Some 6 ∷ Some 7 ∷ Some 11 ∷ Some 12 ∷ Some 13 ∷ Some 16 ∷ Some 17 ∷ Some 18 ∷ Some 19 ∷ Some 20 ∷ Some 21 ∷ Some 22 ∷ Some 23 ∷ Some 28 ∷ Some 29 ∷ Some 30 ∷ Some 31 ∷ Some 32 ∷ Some 35 ∷ Some 36 ∷ Some 37 ∷ Some 39 ∷ Some 40 ∷ Some 41 ∷ Some 42 ∷ Some 43 ∷ Some 44 ∷ Some 45 ∷ Some 51 ∷ Some 71 ∷ Some 72 ∷ Some 73 ∷ Some 78 ∷ Some 81 ∷ Some 83 ∷ Some 85 ∷ Some 93 ∷ []
follow (Profile t.LineTail) = None ∷ Some 0 ∷ Some 1 ∷ Some 2 ∷ Some 3 ∷ Some 4 ∷ Some 5 ∷ Some 6 ∷ Some 7 ∷ Some 11 ∷ Some 12 ∷ Some 13 ∷ Some 16 ∷ Some 17 ∷ Some 18 ∷ Some 19 ∷ Some 20 ∷ Some 21 ∷ Some 22 ∷ Some 23 ∷ Some 28 ∷ Some 29 ∷ Some 30 ∷ Some 31 ∷ Some 32 ∷ Some 35 ∷ Some 36 ∷ Some 37 ∷ Some 39 ∷ Some 40 ∷ Some 41 ∷ Some 42 ∷ Some 43 ∷ Some 44 ∷ Some 45 ∷ Some 51 ∷ Some 71 ∷ Some 72 ∷ Some 73 ∷ Some 78 ∷ Some 81 ∷ Some 83 ∷ Some 85 ∷ Some 93 ∷ []
follow (Profile t.LineMore) = None ∷ Some 0 ∷ Some 1 ∷ Some 2 ∷ Some 3 ∷ Some 4 ∷ Some 5 ∷ Some 6 ∷ Some 7 ∷ Some 11 ∷ Some 12 ∷ Some 13 ∷ Some 16 ∷ Some 17 ∷ Some 18 ∷ Some 19 ∷ Some 20 ∷ Some 21 ∷ Some 22 ∷ Some 23 ∷ Some 28 ∷ Some 29 ∷ Some 30 ∷ Some 31 ∷ Some 32 ∷ Some 35 ∷ Some 36 ∷ Some 37 ∷ Some 39 ∷ Some 40 ∷ Some 41 ∷ Some 42 ∷ Some 43 ∷ Some 44 ∷ Some 45 ∷ Some 51 ∷ Some 71 ∷ Some 72 ∷ Some 73 ∷ Some 78 ∷ Some 81 ∷ Some 83 ∷ Some 85 ∷ Some 93 ∷ []
follow (Profile t.Small) = Some 8 ∷ Some 90 ∷ []
follow (Profile t.SmallTail) = Some 8 ∷ Some 90 ∷ []
follow (Profile t.AssignTail) = Some 8 ∷ Some 90 ∷ []
follow (Profile t.Returned) = Some 8 ∷ Some 90 ∷ []
follow (Profile t.GlobalNext) = Some 8 ∷ Some 90 ∷ []
follow (Profile t.AssertMessage) = Some 8 ∷ Some 90 ∷ []
follow (Profile t.DeletedTail) = Some 8 ∷ Some 90 ∷ []
follow (Profile t.DeletedAttribute) = Some 8 ∷ Some 90 ∷ []
follow (Profile t.DeletedEnd) = Some 8 ∷ Some 90 ∷ []
follow (Profile t.DeletedSubscript) = Some 8 ∷ Some 90 ∷ []
follow (Profile t.DeletedSubscriptTail) = Some 8 ∷ Some 90 ∷ []
follow (Profile t.Binding) = Some 33 ∷ Some 82 ∷ Some 84 ∷ []
follow (Profile t.BindingTail) = Some 33 ∷ Some 82 ∷ Some 84 ∷ []
follow (Profile t.BindingMore) = Some 33 ∷ Some 82 ∷ Some 84 ∷ []
follow (Profile t.BindingNext) = Some 33 ∷ Some 82 ∷ Some 84 ∷ []
follow (Profile t.ExpressionList) = Some 8 ∷ Some 47 ∷ Some 48 ∷ Some 49 ∷ Some 50 ∷ Some 60 ∷ Some 61 ∷ Some 62 ∷ Some 63 ∷ Some 64 ∷ Some 65 ∷ Some 66 ∷ Some 67 ∷ Some 68 ∷ Some 82 ∷ Some 88 ∷ Some 90 ∷ Some 91 ∷ []
follow (Profile t.ExpressionListTail) = Some 8 ∷ Some 47 ∷ Some 48 ∷ Some 49 ∷ Some 50 ∷ Some 60 ∷ Some 61 ∷ Some 62 ∷ Some 63 ∷ Some 64 ∷ Some 65 ∷ Some 66 ∷ Some 67 ∷ Some 68 ∷ Some 82 ∷ Some 88 ∷ Some 90 ∷ Some 91 ∷ []
follow (Profile t.ItemMore) = Some 8 ∷ Some 47 ∷ Some 48 ∷ Some 49 ∷ Some 50 ∷ Some 60 ∷ Some 61 ∷ Some 62 ∷ Some 63 ∷ Some 64 ∷ Some 65 ∷ Some 66 ∷ Some 67 ∷ Some 68 ∷ Some 82 ∷ Some 88 ∷ Some 90 ∷ Some 91 ∷ []
follow (Profile t.ItemNext) = Some 8 ∷ Some 47 ∷ Some 48 ∷ Some 49 ∷ Some 50 ∷ Some 60 ∷ Some 61 ∷ Some 62 ∷ Some 63 ∷ Some 64 ∷ Some 65 ∷ Some 66 ∷ Some 67 ∷ Some 68 ∷ Some 82 ∷ Some 88 ∷ Some 90 ∷ Some 91 ∷ []
follow (Profile t.Expression) = Some 8 ∷ Some 15 ∷ Some 17 ∷ Some 28 ∷ Some 29 ∷ Some 47 ∷ Some 48 ∷ Some 49 ∷ Some 50 ∷ Some 60 ∷ Some 61 ∷ Some 62 ∷ Some 63 ∷ Some 64 ∷ Some 65 ∷ Some 66 ∷ Some 67 ∷ Some 68 ∷ Some 70 ∷ Some 82 ∷ Some 84 ∷ Some 86 ∷ Some 87 ∷ Some 88 ∷ Some 90 ∷ Some 91 ∷ []
follow (Profile t.ExpressionTail) = Some 8 ∷ Some 15 ∷ Some 17 ∷ Some 28 ∷ Some 29 ∷ Some 47 ∷ Some 48 ∷ Some 49 ∷ Some 50 ∷ Some 60 ∷ Some 61 ∷ Some 62 ∷ Some 63 ∷ Some 64 ∷ Some 65 ∷ Some 66 ∷ Some 67 ∷ Some 68 ∷ Some 70 ∷ Some 82 ∷ Some 84 ∷ Some 86 ∷ Some 87 ∷ Some 88 ∷ Some 90 ∷ Some 91 ∷ []
follow (Profile t.OrTest) = Some 8 ∷ Some 15 ∷ Some 17 ∷ Some 25 ∷ Some 28 ∷ Some 29 ∷ Some 31 ∷ Some 47 ∷ Some 48 ∷ Some 49 ∷ Some 50 ∷ Some 60 ∷ Some 61 ∷ Some 62 ∷ Some 63 ∷ Some 64 ∷ Some 65 ∷ Some 66 ∷ Some 67 ∷ Some 68 ∷ Some 70 ∷ Some 82 ∷ Some 84 ∷ Some 86 ∷ Some 87 ∷ Some 88 ∷ Some 90 ∷ Some 91 ∷ []
follow (Profile t.OrTail) = Some 8 ∷ Some 15 ∷ Some 17 ∷ Some 25 ∷ Some 28 ∷ Some 29 ∷ Some 31 ∷ Some 47 ∷ Some 48 ∷ Some 49 ∷ Some 50 ∷ Some 60 ∷ Some 61 ∷ Some 62 ∷ Some 63 ∷ Some 64 ∷ Some 65 ∷ Some 66 ∷ Some 67 ∷ Some 68 ∷ Some 70 ∷ Some 82 ∷ Some 84 ∷ Some 86 ∷ Some 87 ∷ Some 88 ∷ Some 90 ∷ Some 91 ∷ []
follow (Profile t.OrMore) = Some 8 ∷ Some 15 ∷ Some 17 ∷ Some 25 ∷ Some 28 ∷ Some 29 ∷ Some 31 ∷ Some 47 ∷ Some 48 ∷ Some 49 ∷ Some 50 ∷ Some 60 ∷ Some 61 ∷ Some 62 ∷ Some 63 ∷ Some 64 ∷ Some 65 ∷ Some 66 ∷ Some 67 ∷ Some 68 ∷ Some 70 ∷ Some 82 ∷ Some 84 ∷ Some 86 ∷ Some 87 ∷ Some 88 ∷ Some 90 ∷ Some 91 ∷ []
follow (Profile t.AndTest) = Some 8 ∷ Some 15 ∷ Some 17 ∷ Some 25 ∷ Some 28 ∷ Some 29 ∷ Some 31 ∷ Some 38 ∷ Some 47 ∷ Some 48 ∷ Some 49 ∷ Some 50 ∷ Some 60 ∷ Some 61 ∷ Some 62 ∷ Some 63 ∷ Some 64 ∷ Some 65 ∷ Some 66 ∷ Some 67 ∷ Some 68 ∷ Some 70 ∷ Some 82 ∷ Some 84 ∷ Some 86 ∷ Some 87 ∷ Some 88 ∷ Some 90 ∷ Some 91 ∷ []
follow (Profile t.AndTail) = Some 8 ∷ Some 15 ∷ Some 17 ∷ Some 25 ∷ Some 28 ∷ Some 29 ∷ Some 31 ∷ Some 38 ∷ Some 47 ∷ Some 48 ∷ Some 49 ∷ Some 50 ∷ Some 60 ∷ Some 61 ∷ Some 62 ∷ Some 63 ∷ Some 64 ∷ Some 65 ∷ Some 66 ∷ Some 67 ∷ Some 68 ∷ Some 70 ∷ Some 82 ∷ Some 84 ∷ Some 86 ∷ Some 87 ∷ Some 88 ∷ Some 90 ∷ Some 91 ∷ []
follow (Profile t.AndMore) = Some 8 ∷ Some 15 ∷ Some 17 ∷ Some 25 ∷ Some 28 ∷ Some 29 ∷ Some 31 ∷ Some 38 ∷ Some 47 ∷ Some 48 ∷ Some 49 ∷ Some 50 ∷ Some 60 ∷ Some 61 ∷ Some 62 ∷ Some 63 ∷ Some 64 ∷ Some 65 ∷ Some 66 ∷ Some 67 ∷ Some 68 ∷ Some 70 ∷ Some 82 ∷ Some 84 ∷ Some 86 ∷ Some 87 ∷ Some 88 ∷ Some 90 ∷ Some 91 ∷ []
follow (Profile t.NotTest) = Some 8 ∷ Some 14 ∷ Some 15 ∷ Some 17 ∷ Some 25 ∷ Some 28 ∷ Some 29 ∷ Some 31 ∷ Some 38 ∷ Some 47 ∷ Some 48 ∷ Some 49 ∷ Some 50 ∷ Some 60 ∷ Some 61 ∷ Some 62 ∷ Some 63 ∷ Some 64 ∷ Some 65 ∷ Some 66 ∷ Some 67 ∷ Some 68 ∷ Some 70 ∷ Some 82 ∷ Some 84 ∷ Some 86 ∷ Some 87 ∷ Some 88 ∷ Some 90 ∷ Some 91 ∷ []
follow (Profile t.Comparison) = Some 8 ∷ Some 14 ∷ Some 15 ∷ Some 17 ∷ Some 25 ∷ Some 28 ∷ Some 29 ∷ Some 31 ∷ Some 38 ∷ Some 47 ∷ Some 48 ∷ Some 49 ∷ Some 50 ∷ Some 60 ∷ Some 61 ∷ Some 62 ∷ Some 63 ∷ Some 64 ∷ Some 65 ∷ Some 66 ∷ Some 67 ∷ Some 68 ∷ Some 70 ∷ Some 82 ∷ Some 84 ∷ Some 86 ∷ Some 87 ∷ Some 88 ∷ Some 90 ∷ Some 91 ∷ []
follow (Profile t.ComparisonTail) = Some 8 ∷ Some 14 ∷ Some 15 ∷ Some 17 ∷ Some 25 ∷ Some 28 ∷ Some 29 ∷ Some 31 ∷ Some 38 ∷ Some 47 ∷ Some 48 ∷ Some 49 ∷ Some 50 ∷ Some 60 ∷ Some 61 ∷ Some 62 ∷ Some 63 ∷ Some 64 ∷ Some 65 ∷ Some 66 ∷ Some 67 ∷ Some 68 ∷ Some 70 ∷ Some 82 ∷ Some 84 ∷ Some 86 ∷ Some 87 ∷ Some 88 ∷ Some 90 ∷ Some 91 ∷ []
follow (Profile t.ComparisonMore) = Some 8 ∷ Some 14 ∷ Some 15 ∷ Some 17 ∷ Some 25 ∷ Some 28 ∷ Some 29 ∷ Some 31 ∷ Some 38 ∷ Some 47 ∷ Some 48 ∷ Some 49 ∷ Some 50 ∷ Some 60 ∷ Some 61 ∷ Some 62 ∷ Some 63 ∷ Some 64 ∷ Some 65 ∷ Some 66 ∷ Some 67 ∷ Some 68 ∷ Some 70 ∷ Some 82 ∷ Some 84 ∷ Some 86 ∷ Some 87 ∷ Some 88 ∷ Some 90 ∷ Some 91 ∷ []
follow (Profile t.ComparisonSign) = Some 0 ∷ Some 1 ∷ Some 2 ∷ Some 3 ∷ Some 4 ∷ Some 5 ∷ Some 6 ∷ Some 7 ∷ Some 11 ∷ Some 12 ∷ Some 13 ∷ Some 18 ∷ Some 51 ∷ Some 71 ∷ Some 72 ∷ Some 78 ∷ Some 81 ∷ Some 83 ∷ Some 85 ∷ []
follow (Profile t.IsTail) = Some 0 ∷ Some 1 ∷ Some 2 ∷ Some 3 ∷ Some 4 ∷ Some 5 ∷ Some 6 ∷ Some 7 ∷ Some 11 ∷ Some 12 ∷ Some 13 ∷ Some 18 ∷ Some 51 ∷ Some 71 ∷ Some 72 ∷ Some 78 ∷ Some 81 ∷ Some 83 ∷ Some 85 ∷ []
follow (Profile t.OrExpr) = Some 8 ∷ Some 14 ∷ Some 15 ∷ Some 17 ∷ Some 25 ∷ Some 28 ∷ Some 29 ∷ Some 31 ∷ Some 33 ∷ Some 34 ∷ Some 37 ∷ Some 38 ∷ Some 47 ∷ Some 48 ∷ Some 49 ∷ Some 50 ∷ Some 56 ∷ Some 57 ∷ Some 58 ∷ Some 59 ∷ Some 60 ∷ Some 61 ∷ Some 62 ∷ Some 63 ∷ Some 64 ∷ Some 65 ∷ Some 66 ∷ Some 67 ∷ Some 68 ∷ Some 70 ∷ Some 79 ∷ Some 80 ∷ Some 82 ∷ Some 84 ∷ Some 86 ∷ Some 87 ∷ Some 88 ∷ Some 90 ∷ Some 91 ∷ []
follow (Profile t.OrExprTail) = Some 8 ∷ Some 14 ∷ Some 15 ∷ Some 17 ∷ Some 25 ∷ Some 28 ∷ Some 29 ∷ Some 31 ∷ Some 33 ∷ Some 34 ∷ Some 37 ∷ Some 38 ∷ Some 47 ∷ Some 48 ∷ Some 49 ∷ Some 50 ∷ Some 56 ∷ Some 57 ∷ Some 58 ∷ Some 59 ∷ Some 60 ∷ Some 61 ∷ Some 62 ∷ Some 63 ∷ Some 64 ∷ Some 65 ∷ Some 66 ∷ Some 67 ∷ Some 68 ∷ Some 70 ∷ Some 79 ∷ Some 80 ∷ Some 82 ∷ Some 84 ∷ Some 86 ∷ Some 87 ∷ Some 88 ∷ Some 90 ∷ Some 91 ∷ []
follow (Profile t.XorExpr) = Some 8 ∷ Some 14 ∷ Some 15 ∷ Some 17 ∷ Some 25 ∷ Some 28 ∷ Some 29 ∷ Some 31 ∷ Some 33 ∷ Some 34 ∷ Some 37 ∷ Some 38 ∷ Some 47 ∷ Some 48 ∷ Some 49 ∷ Some 50 ∷ Some 56 ∷ Some 57 ∷ Some 58 ∷ Some 59 ∷ Some 60 ∷ Some 61 ∷ Some 62 ∷ Some 63 ∷ Some 64 ∷ Some 65 ∷ Some 66 ∷ Some 67 ∷ Some 68 ∷ Some 70 ∷ Some 76 ∷ Some 79 ∷ Some 80 ∷ Some 82 ∷ Some 84 ∷ Some 86 ∷ Some 87 ∷ Some 88 ∷ Some 90 ∷ Some 91 ∷ []
follow (Profile t.XorExprTail) = Some 8 ∷ Some 14 ∷ Some 15 ∷ Some 17 ∷ Some 25 ∷ Some 28 ∷ Some 29 ∷ Some 31 ∷ Some 33 ∷ Some 34 ∷ Some 37 ∷ Some 38 ∷ Some 47 ∷ Some 48 ∷ Some 49 ∷ Some 50 ∷ Some 56 ∷ Some 57 ∷ Some 58 ∷ Some 59 ∷ Some 60 ∷ Some 61 ∷ Some 62 ∷ Some 63 ∷ Some 64 ∷ Some 65 ∷ Some 66 ∷ Some 67 ∷ Some 68 ∷ Some 70 ∷ Some 76 ∷ Some 79 ∷ Some 80 ∷ Some 82 ∷ Some 84 ∷ Some 86 ∷ Some 87 ∷ Some 88 ∷ Some 90 ∷ Some 91 ∷ []
follow (Profile t.AndExpr) = Some 8 ∷ Some 14 ∷ Some 15 ∷ Some 17 ∷ Some 25 ∷ Some 28 ∷ Some 29 ∷ Some 31 ∷ Some 33 ∷ Some 34 ∷ Some 37 ∷ Some 38 ∷ Some 47 ∷ Some 48 ∷ Some 49 ∷ Some 50 ∷ Some 56 ∷ Some 57 ∷ Some 58 ∷ Some 59 ∷ Some 60 ∷ Some 61 ∷ Some 62 ∷ Some 63 ∷ Some 64 ∷ Some 65 ∷ Some 66 ∷ Some 67 ∷ Some 68 ∷ Some 70 ∷ Some 76 ∷ Some 77 ∷ Some 79 ∷ Some 80 ∷ Some 82 ∷ Some 84 ∷ Some 86 ∷ Some 87 ∷ Some 88 ∷ Some 90 ∷ Some 91 ∷ []
follow (Profile t.AndExprTail) = Some 8 ∷ Some 14 ∷ Some 15 ∷ Some 17 ∷ Some 25 ∷ Some 28 ∷ Some 29 ∷ Some 31 ∷ Some 33 ∷ Some 34 ∷ Some 37 ∷ Some 38 ∷ Some 47 ∷ Some 48 ∷ Some 49 ∷ Some 50 ∷ Some 56 ∷ Some 57 ∷ Some 58 ∷ Some 59 ∷ Some 60 ∷ Some 61 ∷ Some 62 ∷ Some 63 ∷ Some 64 ∷ Some 65 ∷ Some 66 ∷ Some 67 ∷ Some 68 ∷ Some 70 ∷ Some 76 ∷ Some 77 ∷ Some 79 ∷ Some 80 ∷ Some 82 ∷ Some 84 ∷ Some 86 ∷ Some 87 ∷ Some 88 ∷ Some 90 ∷ Some 91 ∷ []
follow (Profile t.ShiftExpr) = Some 8 ∷ Some 14 ∷ Some 15 ∷ Some 17 ∷ Some 25 ∷ Some 28 ∷ Some 29 ∷ Some 31 ∷ Some 33 ∷ Some 34 ∷ Some 37 ∷ Some 38 ∷ Some 47 ∷ Some 48 ∷ Some 49 ∷ Some 50 ∷ Some 56 ∷ Some 57 ∷ Some 58 ∷ Some 59 ∷ Some 60 ∷ Some 61 ∷ Some 62 ∷ Some 63 ∷ Some 64 ∷ Some 65 ∷ Some 66 ∷ Some 67 ∷ Some 68 ∷ Some 70 ∷ Some 75 ∷ Some 76 ∷ Some 77 ∷ Some 79 ∷ Some 80 ∷ Some 82 ∷ Some 84 ∷ Some 86 ∷ Some 87 ∷ Some 88 ∷ Some 90 ∷ Some 91 ∷ []
follow (Profile t.ShiftTail) = Some 8 ∷ Some 14 ∷ Some 15 ∷ Some 17 ∷ Some 25 ∷ Some 28 ∷ Some 29 ∷ Some 31 ∷ Some 33 ∷ Some 34 ∷ Some 37 ∷ Some 38 ∷ Some 47 ∷ Some 48 ∷ Some 49 ∷ Some 50 ∷ Some 56 ∷ Some 57 ∷ Some 58 ∷ Some 59 ∷ Some 60 ∷ Some 61 ∷ Some 62 ∷ Some 63 ∷ Some 64 ∷ Some 65 ∷ Some 66 ∷ Some 67 ∷ Some 68 ∷ Some 70 ∷ Some 75 ∷ Some 76 ∷ Some 77 ∷ Some 79 ∷ Some 80 ∷ Some 82 ∷ Some 84 ∷ Some 86 ∷ Some 87 ∷ Some 88 ∷ Some 90 ∷ Some 91 ∷ []
follow (Profile t.Sum) = Some 8 ∷ Some 14 ∷ Some 15 ∷ Some 17 ∷ Some 25 ∷ Some 28 ∷ Some 29 ∷ Some 31 ∷ Some 33 ∷ Some 34 ∷ Some 37 ∷ Some 38 ∷ Some 47 ∷ Some 48 ∷ Some 49 ∷ Some 50 ∷ Some 54 ∷ Some 55 ∷ Some 56 ∷ Some 57 ∷ Some 58 ∷ Some 59 ∷ Some 60 ∷ Some 61 ∷ Some 62 ∷ Some 63 ∷ Some 64 ∷ Some 65 ∷ Some 66 ∷ Some 67 ∷ Some 68 ∷ Some 70 ∷ Some 75 ∷ Some 76 ∷ Some 77 ∷ Some 79 ∷ Some 80 ∷ Some 82 ∷ Some 84 ∷ Some 86 ∷ Some 87 ∷ Some 88 ∷ Some 90 ∷ Some 91 ∷ []
follow (Profile t.SumTail) = Some 8 ∷ Some 14 ∷ Some 15 ∷ Some 17 ∷ Some 25 ∷ Some 28 ∷ Some 29 ∷ Some 31 ∷ Some 33 ∷ Some 34 ∷ Some 37 ∷ Some 38 ∷ Some 47 ∷ Some 48 ∷ Some 49 ∷ Some 50 ∷ Some 54 ∷ Some 55 ∷ Some 56 ∷ Some 57 ∷ Some 58 ∷ Some 59 ∷ Some 60 ∷ Some 61 ∷ Some 62 ∷ Some 63 ∷ Some 64 ∷ Some 65 ∷ Some 66 ∷ Some 67 ∷ Some 68 ∷ Some 70 ∷ Some 75 ∷ Some 76 ∷ Some 77 ∷ Some 79 ∷ Some 80 ∷ Some 82 ∷ Some 84 ∷ Some 86 ∷ Some 87 ∷ Some 88 ∷ Some 90 ∷ Some 91 ∷ []
follow (Profile t.Product) = Some 8 ∷ Some 14 ∷ Some 15 ∷ Some 17 ∷ Some 25 ∷ Some 28 ∷ Some 29 ∷ Some 31 ∷ Some 33 ∷ Some 34 ∷ Some 37 ∷ Some 38 ∷ Some 47 ∷ Some 48 ∷ Some 49 ∷ Some 50 ∷ Some 54 ∷ Some 55 ∷ Some 56 ∷ Some 57 ∷ Some 58 ∷ Some 59 ∷ Some 60 ∷ Some 61 ∷ Some 62 ∷ Some 63 ∷ Some 64 ∷ Some 65 ∷ Some 66 ∷ Some 67 ∷ Some 68 ∷ Some 70 ∷ Some 71 ∷ Some 72 ∷ Some 75 ∷ Some 76 ∷ Some 77 ∷ Some 79 ∷ Some 80 ∷ Some 82 ∷ Some 84 ∷ Some 86 ∷ Some 87 ∷ Some 88 ∷ Some 90 ∷ Some 91 ∷ []
follow (Profile t.ProductTail) = Some 8 ∷ Some 14 ∷ Some 15 ∷ Some 17 ∷ Some 25 ∷ Some 28 ∷ Some 29 ∷ Some 31 ∷ Some 33 ∷ Some 34 ∷ Some 37 ∷ Some 38 ∷ Some 47 ∷ Some 48 ∷ Some 49 ∷ Some 50 ∷ Some 54 ∷ Some 55 ∷ Some 56 ∷ Some 57 ∷ Some 58 ∷ Some 59 ∷ Some 60 ∷ Some 61 ∷ Some 62 ∷ Some 63 ∷ Some 64 ∷ Some 65 ∷ Some 66 ∷ Some 67 ∷ Some 68 ∷ Some 70 ∷ Some 71 ∷ Some 72 ∷ Some 75 ∷ Some 76 ∷ Some 77 ∷ Some 79 ∷ Some 80 ∷ Some 82 ∷ Some 84 ∷ Some 86 ∷ Some 87 ∷ Some 88 ∷ Some 90 ∷ Some 91 ∷ []
follow (Profile t.Factor) = Some 8 ∷ Some 14 ∷ Some 15 ∷ Some 17 ∷ Some 25 ∷ Some 28 ∷ Some 29 ∷ Some 31 ∷ Some 33 ∷ Some 34 ∷ Some 37 ∷ Some 38 ∷ Some 47 ∷ Some 48 ∷ Some 49 ∷ Some 50 ∷ Some 52 ∷ Some 54 ∷ Some 55 ∷ Some 56 ∷ Some 57 ∷ Some 58 ∷ Some 59 ∷ Some 60 ∷ Some 61 ∷ Some 62 ∷ Some 63 ∷ Some 64 ∷ Some 65 ∷ Some 66 ∷ Some 67 ∷ Some 68 ∷ Some 70 ∷ Some 71 ∷ Some 72 ∷ Some 73 ∷ Some 74 ∷ Some 75 ∷ Some 76 ∷ Some 77 ∷ Some 79 ∷ Some 80 ∷ Some 82 ∷ Some 84 ∷ Some 86 ∷ Some 87 ∷ Some 88 ∷ Some 90 ∷ Some 91 ∷ Some 92 ∷ Some 93 ∷ []
follow (Profile t.PowerExpr) = Some 8 ∷ Some 14 ∷ Some 15 ∷ Some 17 ∷ Some 25 ∷ Some 28 ∷ Some 29 ∷ Some 31 ∷ Some 33 ∷ Some 34 ∷ Some 37 ∷ Some 38 ∷ Some 47 ∷ Some 48 ∷ Some 49 ∷ Some 50 ∷ Some 52 ∷ Some 54 ∷ Some 55 ∷ Some 56 ∷ Some 57 ∷ Some 58 ∷ Some 59 ∷ Some 60 ∷ Some 61 ∷ Some 62 ∷ Some 63 ∷ Some 64 ∷ Some 65 ∷ Some 66 ∷ Some 67 ∷ Some 68 ∷ Some 70 ∷ Some 71 ∷ Some 72 ∷ Some 73 ∷ Some 74 ∷ Some 75 ∷ Some 76 ∷ Some 77 ∷ Some 79 ∷ Some 80 ∷ Some 82 ∷ Some 84 ∷ Some 86 ∷ Some 87 ∷ Some 88 ∷ Some 90 ∷ Some 91 ∷ Some 92 ∷ Some 93 ∷ []
follow (Profile t.PowerTail) = Some 8 ∷ Some 14 ∷ Some 15 ∷ Some 17 ∷ Some 25 ∷ Some 28 ∷ Some 29 ∷ Some 31 ∷ Some 33 ∷ Some 34 ∷ Some 37 ∷ Some 38 ∷ Some 47 ∷ Some 48 ∷ Some 49 ∷ Some 50 ∷ Some 52 ∷ Some 54 ∷ Some 55 ∷ Some 56 ∷ Some 57 ∷ Some 58 ∷ Some 59 ∷ Some 60 ∷ Some 61 ∷ Some 62 ∷ Some 63 ∷ Some 64 ∷ Some 65 ∷ Some 66 ∷ Some 67 ∷ Some 68 ∷ Some 70 ∷ Some 71 ∷ Some 72 ∷ Some 73 ∷ Some 74 ∷ Some 75 ∷ Some 76 ∷ Some 77 ∷ Some 79 ∷ Some 80 ∷ Some 82 ∷ Some 84 ∷ Some 86 ∷ Some 87 ∷ Some 88 ∷ Some 90 ∷ Some 91 ∷ Some 92 ∷ Some 93 ∷ []
follow (Profile t.Primary) = Some 8 ∷ Some 14 ∷ Some 15 ∷ Some 17 ∷ Some 25 ∷ Some 28 ∷ Some 29 ∷ Some 31 ∷ Some 33 ∷ Some 34 ∷ Some 37 ∷ Some 38 ∷ Some 47 ∷ Some 48 ∷ Some 49 ∷ Some 50 ∷ Some 52 ∷ Some 53 ∷ Some 54 ∷ Some 55 ∷ Some 56 ∷ Some 57 ∷ Some 58 ∷ Some 59 ∷ Some 60 ∷ Some 61 ∷ Some 62 ∷ Some 63 ∷ Some 64 ∷ Some 65 ∷ Some 66 ∷ Some 67 ∷ Some 68 ∷ Some 70 ∷ Some 71 ∷ Some 72 ∷ Some 73 ∷ Some 74 ∷ Some 75 ∷ Some 76 ∷ Some 77 ∷ Some 79 ∷ Some 80 ∷ Some 82 ∷ Some 84 ∷ Some 86 ∷ Some 87 ∷ Some 88 ∷ Some 90 ∷ Some 91 ∷ Some 92 ∷ Some 93 ∷ []
follow (Profile t.PrimaryTail) = Some 8 ∷ Some 14 ∷ Some 15 ∷ Some 17 ∷ Some 25 ∷ Some 28 ∷ Some 29 ∷ Some 31 ∷ Some 33 ∷ Some 34 ∷ Some 37 ∷ Some 38 ∷ Some 47 ∷ Some 48 ∷ Some 49 ∷ Some 50 ∷ Some 52 ∷ Some 53 ∷ Some 54 ∷ Some 55 ∷ Some 56 ∷ Some 57 ∷ Some 58 ∷ Some 59 ∷ Some 60 ∷ Some 61 ∷ Some 62 ∷ Some 63 ∷ Some 64 ∷ Some 65 ∷ Some 66 ∷ Some 67 ∷ Some 68 ∷ Some 70 ∷ Some 71 ∷ Some 72 ∷ Some 73 ∷ Some 74 ∷ Some 75 ∷ Some 76 ∷ Some 77 ∷ Some 79 ∷ Some 80 ∷ Some 82 ∷ Some 84 ∷ Some 86 ∷ Some 87 ∷ Some 88 ∷ Some 90 ∷ Some 91 ∷ Some 92 ∷ Some 93 ∷ []
follow (Profile t.AttributeTail) = Some 8 ∷ Some 14 ∷ Some 15 ∷ Some 17 ∷ Some 25 ∷ Some 28 ∷ Some 29 ∷ Some 31 ∷ Some 33 ∷ Some 34 ∷ Some 37 ∷ Some 38 ∷ Some 47 ∷ Some 48 ∷ Some 49 ∷ Some 50 ∷ Some 52 ∷ Some 53 ∷ Some 54 ∷ Some 55 ∷ Some 56 ∷ Some 57 ∷ Some 58 ∷ Some 59 ∷ Some 60 ∷ Some 61 ∷ Some 62 ∷ Some 63 ∷ Some 64 ∷ Some 65 ∷ Some 66 ∷ Some 67 ∷ Some 68 ∷ Some 70 ∷ Some 71 ∷ Some 72 ∷ Some 73 ∷ Some 74 ∷ Some 75 ∷ Some 76 ∷ Some 77 ∷ Some 79 ∷ Some 80 ∷ Some 82 ∷ Some 84 ∷ Some 86 ∷ Some 87 ∷ Some 88 ∷ Some 90 ∷ Some 91 ∷ Some 92 ∷ Some 93 ∷ []
follow (Profile t.Subscription) = Some 8 ∷ Some 14 ∷ Some 15 ∷ Some 17 ∷ Some 25 ∷ Some 28 ∷ Some 29 ∷ Some 31 ∷ Some 33 ∷ Some 34 ∷ Some 37 ∷ Some 38 ∷ Some 47 ∷ Some 48 ∷ Some 49 ∷ Some 50 ∷ Some 52 ∷ Some 53 ∷ Some 54 ∷ Some 55 ∷ Some 56 ∷ Some 57 ∷ Some 58 ∷ Some 59 ∷ Some 60 ∷ Some 61 ∷ Some 62 ∷ Some 63 ∷ Some 64 ∷ Some 65 ∷ Some 66 ∷ Some 67 ∷ Some 68 ∷ Some 70 ∷ Some 71 ∷ Some 72 ∷ Some 73 ∷ Some 74 ∷ Some 75 ∷ Some 76 ∷ Some 77 ∷ Some 79 ∷ Some 80 ∷ Some 81 ∷ Some 82 ∷ Some 83 ∷ Some 84 ∷ Some 86 ∷ Some 87 ∷ Some 88 ∷ Some 89 ∷ Some 90 ∷ Some 91 ∷ Some 92 ∷ Some 93 ∷ []
follow (Profile t.SubscriptionTail) = Some 8 ∷ Some 14 ∷ Some 15 ∷ Some 17 ∷ Some 25 ∷ Some 28 ∷ Some 29 ∷ Some 31 ∷ Some 33 ∷ Some 34 ∷ Some 37 ∷ Some 38 ∷ Some 47 ∷ Some 48 ∷ Some 49 ∷ Some 50 ∷ Some 52 ∷ Some 53 ∷ Some 54 ∷ Some 55 ∷ Some 56 ∷ Some 57 ∷ Some 58 ∷ Some 59 ∷ Some 60 ∷ Some 61 ∷ Some 62 ∷ Some 63 ∷ Some 64 ∷ Some 65 ∷ Some 66 ∷ Some 67 ∷ Some 68 ∷ Some 70 ∷ Some 71 ∷ Some 72 ∷ Some 73 ∷ Some 74 ∷ Some 75 ∷ Some 76 ∷ Some 77 ∷ Some 79 ∷ Some 80 ∷ Some 81 ∷ Some 82 ∷ Some 83 ∷ Some 84 ∷ Some 86 ∷ Some 87 ∷ Some 88 ∷ Some 89 ∷ Some 90 ∷ Some 91 ∷ Some 92 ∷ Some 93 ∷ []
follow (Profile t.Upper) = Some 8 ∷ Some 14 ∷ Some 15 ∷ Some 17 ∷ Some 25 ∷ Some 28 ∷ Some 29 ∷ Some 31 ∷ Some 33 ∷ Some 34 ∷ Some 37 ∷ Some 38 ∷ Some 47 ∷ Some 48 ∷ Some 49 ∷ Some 50 ∷ Some 52 ∷ Some 53 ∷ Some 54 ∷ Some 55 ∷ Some 56 ∷ Some 57 ∷ Some 58 ∷ Some 59 ∷ Some 60 ∷ Some 61 ∷ Some 62 ∷ Some 63 ∷ Some 64 ∷ Some 65 ∷ Some 66 ∷ Some 67 ∷ Some 68 ∷ Some 70 ∷ Some 71 ∷ Some 72 ∷ Some 73 ∷ Some 74 ∷ Some 75 ∷ Some 76 ∷ Some 77 ∷ Some 79 ∷ Some 80 ∷ Some 81 ∷ Some 82 ∷ Some 83 ∷ Some 84 ∷ Some 86 ∷ Some 87 ∷ Some 88 ∷ Some 89 ∷ Some 90 ∷ Some 91 ∷ Some 92 ∷ Some 93 ∷ []
follow (Profile t.Arguments) = Some 82 ∷ []
follow (Profile t.ArgumentTail) = Some 82 ∷ []
follow (Profile t.KeywordNext) = Some 82 ∷ []
follow (Profile t.KeywordMore) = Some 82 ∷ []
follow (Profile t.PlainArguments) = Some 82 ∷ []
follow (Profile t.PlainArgumentTail) = Some 82 ∷ []
follow (Profile t.Atom) = Some 8 ∷ Some 14 ∷ Some 15 ∷ Some 17 ∷ Some 25 ∷ Some 28 ∷ Some 29 ∷ Some 31 ∷ Some 33 ∷ Some 34 ∷ Some 37 ∷ Some 38 ∷ Some 47 ∷ Some 48 ∷ Some 49 ∷ Some 50 ∷ Some 52 ∷ Some 53 ∷ Some 54 ∷ Some 55 ∷ Some 56 ∷ Some 57 ∷ Some 58 ∷ Some 59 ∷ Some 60 ∷ Some 61 ∷ Some 62 ∷ Some 63 ∷ Some 64 ∷ Some 65 ∷ Some 66 ∷ Some 67 ∷ Some 68 ∷ Some 70 ∷ Some 71 ∷ Some 72 ∷ Some 73 ∷ Some 74 ∷ Some 75 ∷ Some 76 ∷ Some 77 ∷ Some 79 ∷ Some 80 ∷ Some 81 ∷ Some 82 ∷ Some 83 ∷ Some 84 ∷ Some 86 ∷ Some 87 ∷ Some 88 ∷ Some 89 ∷ Some 90 ∷ Some 91 ∷ Some 92 ∷ Some 93 ∷ []
follow (Profile t.Parenthesised) = Some 8 ∷ Some 14 ∷ Some 15 ∷ Some 17 ∷ Some 25 ∷ Some 28 ∷ Some 29 ∷ Some 31 ∷ Some 33 ∷ Some 34 ∷ Some 37 ∷ Some 38 ∷ Some 47 ∷ Some 48 ∷ Some 49 ∷ Some 50 ∷ Some 52 ∷ Some 53 ∷ Some 54 ∷ Some 55 ∷ Some 56 ∷ Some 57 ∷ Some 58 ∷ Some 59 ∷ Some 60 ∷ Some 61 ∷ Some 62 ∷ Some 63 ∷ Some 64 ∷ Some 65 ∷ Some 66 ∷ Some 67 ∷ Some 68 ∷ Some 70 ∷ Some 71 ∷ Some 72 ∷ Some 73 ∷ Some 74 ∷ Some 75 ∷ Some 76 ∷ Some 77 ∷ Some 79 ∷ Some 80 ∷ Some 81 ∷ Some 82 ∷ Some 83 ∷ Some 84 ∷ Some 86 ∷ Some 87 ∷ Some 88 ∷ Some 89 ∷ Some 90 ∷ Some 91 ∷ Some 92 ∷ Some 93 ∷ []
follow (Profile t.ParenthesisedTail) = Some 8 ∷ Some 14 ∷ Some 15 ∷ Some 17 ∷ Some 25 ∷ Some 28 ∷ Some 29 ∷ Some 31 ∷ Some 33 ∷ Some 34 ∷ Some 37 ∷ Some 38 ∷ Some 47 ∷ Some 48 ∷ Some 49 ∷ Some 50 ∷ Some 52 ∷ Some 53 ∷ Some 54 ∷ Some 55 ∷ Some 56 ∷ Some 57 ∷ Some 58 ∷ Some 59 ∷ Some 60 ∷ Some 61 ∷ Some 62 ∷ Some 63 ∷ Some 64 ∷ Some 65 ∷ Some 66 ∷ Some 67 ∷ Some 68 ∷ Some 70 ∷ Some 71 ∷ Some 72 ∷ Some 73 ∷ Some 74 ∷ Some 75 ∷ Some 76 ∷ Some 77 ∷ Some 79 ∷ Some 80 ∷ Some 81 ∷ Some 82 ∷ Some 83 ∷ Some 84 ∷ Some 86 ∷ Some 87 ∷ Some 88 ∷ Some 89 ∷ Some 90 ∷ Some 91 ∷ Some 92 ∷ Some 93 ∷ []
follow (Profile t.Bracketed) = Some 8 ∷ Some 14 ∷ Some 15 ∷ Some 17 ∷ Some 25 ∷ Some 28 ∷ Some 29 ∷ Some 31 ∷ Some 33 ∷ Some 34 ∷ Some 37 ∷ Some 38 ∷ Some 47 ∷ Some 48 ∷ Some 49 ∷ Some 50 ∷ Some 52 ∷ Some 53 ∷ Some 54 ∷ Some 55 ∷ Some 56 ∷ Some 57 ∷ Some 58 ∷ Some 59 ∷ Some 60 ∷ Some 61 ∷ Some 62 ∷ Some 63 ∷ Some 64 ∷ Some 65 ∷ Some 66 ∷ Some 67 ∷ Some 68 ∷ Some 70 ∷ Some 71 ∷ Some 72 ∷ Some 73 ∷ Some 74 ∷ Some 75 ∷ Some 76 ∷ Some 77 ∷ Some 79 ∷ Some 80 ∷ Some 81 ∷ Some 82 ∷ Some 83 ∷ Some 84 ∷ Some 86 ∷ Some 87 ∷ Some 88 ∷ Some 89 ∷ Some 90 ∷ Some 91 ∷ Some 92 ∷ Some 93 ∷ []
follow (Profile t.BracketedTail) = Some 8 ∷ Some 14 ∷ Some 15 ∷ Some 17 ∷ Some 25 ∷ Some 28 ∷ Some 29 ∷ Some 31 ∷ Some 33 ∷ Some 34 ∷ Some 37 ∷ Some 38 ∷ Some 47 ∷ Some 48 ∷ Some 49 ∷ Some 50 ∷ Some 52 ∷ Some 53 ∷ Some 54 ∷ Some 55 ∷ Some 56 ∷ Some 57 ∷ Some 58 ∷ Some 59 ∷ Some 60 ∷ Some 61 ∷ Some 62 ∷ Some 63 ∷ Some 64 ∷ Some 65 ∷ Some 66 ∷ Some 67 ∷ Some 68 ∷ Some 70 ∷ Some 71 ∷ Some 72 ∷ Some 73 ∷ Some 74 ∷ Some 75 ∷ Some 76 ∷ Some 77 ∷ Some 79 ∷ Some 80 ∷ Some 81 ∷ Some 82 ∷ Some 83 ∷ Some 84 ∷ Some 86 ∷ Some 87 ∷ Some 88 ∷ Some 89 ∷ Some 90 ∷ Some 91 ∷ Some 92 ∷ Some 93 ∷ []
follow (Profile t.Braced) = Some 8 ∷ Some 14 ∷ Some 15 ∷ Some 17 ∷ Some 25 ∷ Some 28 ∷ Some 29 ∷ Some 31 ∷ Some 33 ∷ Some 34 ∷ Some 37 ∷ Some 38 ∷ Some 47 ∷ Some 48 ∷ Some 49 ∷ Some 50 ∷ Some 52 ∷ Some 53 ∷ Some 54 ∷ Some 55 ∷ Some 56 ∷ Some 57 ∷ Some 58 ∷ Some 59 ∷ Some 60 ∷ Some 61 ∷ Some 62 ∷ Some 63 ∷ Some 64 ∷ Some 65 ∷ Some 66 ∷ Some 67 ∷ Some 68 ∷ Some 70 ∷ Some 71 ∷ Some 72 ∷ Some 73 ∷ Some 74 ∷ Some 75 ∷ Some 76 ∷ Some 77 ∷ Some 79 ∷ Some 80 ∷ Some 81 ∷ Some 82 ∷ Some 83 ∷ Some 84 ∷ Some 86 ∷ Some 87 ∷ Some 88 ∷ Some 89 ∷ Some 90 ∷ Some 91 ∷ Some 92 ∷ Some 93 ∷ []
follow (Profile t.BracedTail) = Some 8 ∷ Some 14 ∷ Some 15 ∷ Some 17 ∷ Some 25 ∷ Some 28 ∷ Some 29 ∷ Some 31 ∷ Some 33 ∷ Some 34 ∷ Some 37 ∷ Some 38 ∷ Some 47 ∷ Some 48 ∷ Some 49 ∷ Some 50 ∷ Some 52 ∷ Some 53 ∷ Some 54 ∷ Some 55 ∷ Some 56 ∷ Some 57 ∷ Some 58 ∷ Some 59 ∷ Some 60 ∷ Some 61 ∷ Some 62 ∷ Some 63 ∷ Some 64 ∷ Some 65 ∷ Some 66 ∷ Some 67 ∷ Some 68 ∷ Some 70 ∷ Some 71 ∷ Some 72 ∷ Some 73 ∷ Some 74 ∷ Some 75 ∷ Some 76 ∷ Some 77 ∷ Some 79 ∷ Some 80 ∷ Some 81 ∷ Some 82 ∷ Some 83 ∷ Some 84 ∷ Some 86 ∷ Some 87 ∷ Some 88 ∷ Some 89 ∷ Some 90 ∷ Some 91 ∷ Some 92 ∷ Some 93 ∷ []
follow (Profile t.PairNext) = Some 86 ∷ []
follow (Profile t.PairMore) = Some 86 ∷ []
follow (Profile t.Comprehension) = Some 17 ∷ Some 28 ∷ Some 84 ∷ []
follow (Profile t.Conditions) = Some 17 ∷ Some 28 ∷ Some 84 ∷ []
follow (Profile t.Comprehensions) = Some 84 ∷ []
follow (Profile t.AnyName) = Some 8 ∷ Some 14 ∷ Some 15 ∷ Some 17 ∷ Some 25 ∷ Some 28 ∷ Some 29 ∷ Some 31 ∷ Some 32 ∷ Some 33 ∷ Some 34 ∷ Some 37 ∷ Some 38 ∷ Some 47 ∷ Some 48 ∷ Some 49 ∷ Some 50 ∷ Some 52 ∷ Some 53 ∷ Some 54 ∷ Some 55 ∷ Some 56 ∷ Some 57 ∷ Some 58 ∷ Some 59 ∷ Some 60 ∷ Some 61 ∷ Some 62 ∷ Some 63 ∷ Some 64 ∷ Some 65 ∷ Some 66 ∷ Some 67 ∷ Some 68 ∷ Some 70 ∷ Some 71 ∷ Some 72 ∷ Some 73 ∷ Some 74 ∷ Some 75 ∷ Some 76 ∷ Some 77 ∷ Some 79 ∷ Some 80 ∷ Some 81 ∷ Some 82 ∷ Some 83 ∷ Some 84 ∷ Some 86 ∷ Some 87 ∷ Some 88 ∷ Some 89 ∷ Some 90 ∷ Some 91 ∷ Some 92 ∷ Some 93 ∷ []
follow NamedExpression = Some 17 ∷ Some 28 ∷ Some 82 ∷ Some 84 ∷ Some 86 ∷ Some 87 ∷ Some 88 ∷ []
follow Named = Some 17 ∷ Some 28 ∷ Some 82 ∷ Some 84 ∷ Some 86 ∷ Some 87 ∷ Some 88 ∷ []
follow NamedCondition = Some 17 ∷ Some 28 ∷ Some 31 ∷ Some 84 ∷ []
follow NamedItemMore = Some 82 ∷ Some 84 ∷ Some 86 ∷ []
follow NamedItemNext = Some 82 ∷ Some 84 ∷ Some 86 ∷ []
follow LoopElse = None ∷ Some 0 ∷ Some 1 ∷ Some 2 ∷ Some 3 ∷ Some 4 ∷ Some 5 ∷ Some 6 ∷ Some 7 ∷ Some 10 ∷ Some 11 ∷ Some 12 ∷ Some 13 ∷ Some 16 ∷ Some 17 ∷ Some 18 ∷ Some 19 ∷ Some 20 ∷ Some 21 ∷ Some 22 ∷ Some 23 ∷ Some 28 ∷ Some 29 ∷ Some 30 ∷ Some 31 ∷ Some 32 ∷ Some 35 ∷ Some 36 ∷ Some 37 ∷ Some 39 ∷ Some 40 ∷ Some 41 ∷ Some 42 ∷ Some 43 ∷ Some 44 ∷ Some 45 ∷ Some 51 ∷ Some 71 ∷ Some 72 ∷ Some 73 ∷ Some 78 ∷ Some 81 ∷ Some 83 ∷ Some 85 ∷ Some 93 ∷ []
follow TryTail = None ∷ Some 0 ∷ Some 1 ∷ Some 2 ∷ Some 3 ∷ Some 4 ∷ Some 5 ∷ Some 6 ∷ Some 7 ∷ Some 10 ∷ Some 11 ∷ Some 12 ∷ Some 13 ∷ Some 16 ∷ Some 17 ∷ Some 18 ∷ Some 19 ∷ Some 20 ∷ Some 21 ∷ Some 22 ∷ Some 23 ∷ Some 28 ∷ Some 29 ∷ Some 30 ∷ Some 31 ∷ Some 32 ∷ Some 35 ∷ Some 36 ∷ Some 37 ∷ Some 39 ∷ Some 40 ∷ Some 41 ∷ Some 42 ∷ Some 43 ∷ Some 44 ∷ Some 45 ∷ Some 51 ∷ Some 71 ∷ Some 72 ∷ Some 73 ∷ Some 78 ∷ Some 81 ∷ Some 83 ∷ Some 85 ∷ Some 93 ∷ []
follow HandlersEnd = None ∷ Some 0 ∷ Some 1 ∷ Some 2 ∷ Some 3 ∷ Some 4 ∷ Some 5 ∷ Some 6 ∷ Some 7 ∷ Some 10 ∷ Some 11 ∷ Some 12 ∷ Some 13 ∷ Some 16 ∷ Some 17 ∷ Some 18 ∷ Some 19 ∷ Some 20 ∷ Some 21 ∷ Some 22 ∷ Some 23 ∷ Some 28 ∷ Some 29 ∷ Some 30 ∷ Some 31 ∷ Some 32 ∷ Some 35 ∷ Some 36 ∷ Some 37 ∷ Some 39 ∷ Some 40 ∷ Some 41 ∷ Some 42 ∷ Some 43 ∷ Some 44 ∷ Some 45 ∷ Some 51 ∷ Some 71 ∷ Some 72 ∷ Some 73 ∷ Some 78 ∷ Some 81 ∷ Some 83 ∷ Some 85 ∷ Some 93 ∷ []
follow BlockLine = None ∷ Some 0 ∷ Some 1 ∷ Some 2 ∷ Some 3 ∷ Some 4 ∷ Some 5 ∷ Some 6 ∷ Some 7 ∷ Some 10 ∷ Some 11 ∷ Some 12 ∷ Some 13 ∷ Some 16 ∷ Some 17 ∷ Some 18 ∷ Some 19 ∷ Some 20 ∷ Some 21 ∷ Some 22 ∷ Some 23 ∷ Some 24 ∷ Some 25 ∷ Some 26 ∷ Some 27 ∷ Some 28 ∷ Some 29 ∷ Some 30 ∷ Some 31 ∷ Some 32 ∷ Some 35 ∷ Some 36 ∷ Some 37 ∷ Some 39 ∷ Some 40 ∷ Some 41 ∷ Some 42 ∷ Some 43 ∷ Some 44 ∷ Some 45 ∷ Some 51 ∷ Some 71 ∷ Some 72 ∷ Some 73 ∷ Some 78 ∷ Some 81 ∷ Some 83 ∷ Some 85 ∷ Some 93 ∷ []
follow BlockLineTail = None ∷ Some 0 ∷ Some 1 ∷ Some 2 ∷ Some 3 ∷ Some 4 ∷ Some 5 ∷ Some 6 ∷ Some 7 ∷ Some 10 ∷ Some 11 ∷ Some 12 ∷ Some 13 ∷ Some 16 ∷ Some 17 ∷ Some 18 ∷ Some 19 ∷ Some 20 ∷ Some 21 ∷ Some 22 ∷ Some 23 ∷ Some 24 ∷ Some 25 ∷ Some 26 ∷ Some 27 ∷ Some 28 ∷ Some 29 ∷ Some 30 ∷ Some 31 ∷ Some 32 ∷ Some 35 ∷ Some 36 ∷ Some 37 ∷ Some 39 ∷ Some 40 ∷ Some 41 ∷ Some 42 ∷ Some 43 ∷ Some 44 ∷ Some 45 ∷ Some 51 ∷ Some 71 ∷ Some 72 ∷ Some 73 ∷ Some 78 ∷ Some 81 ∷ Some 83 ∷ Some 85 ∷ Some 93 ∷ []
follow BlockLineMore = None ∷ Some 0 ∷ Some 1 ∷ Some 2 ∷ Some 3 ∷ Some 4 ∷ Some 5 ∷ Some 6 ∷ Some 7 ∷ Some 10 ∷ Some 11 ∷ Some 12 ∷ Some 13 ∷ Some 16 ∷ Some 17 ∷ Some 18 ∷ Some 19 ∷ Some 20 ∷ Some 21 ∷ Some 22 ∷ Some 23 ∷ Some 24 ∷ Some 25 ∷ Some 26 ∷ Some 27 ∷ Some 28 ∷ Some 29 ∷ Some 30 ∷ Some 31 ∷ Some 32 ∷ Some 35 ∷ Some 36 ∷ Some 37 ∷ Some 39 ∷ Some 40 ∷ Some 41 ∷ Some 42 ∷ Some 43 ∷ Some 44 ∷ Some 45 ∷ Some 51 ∷ Some 71 ∷ Some 72 ∷ Some 73 ∷ Some 78 ∷ Some 81 ∷ Some 83 ∷ Some 85 ∷ Some 93 ∷ []
follow BlockSmall = Some 8 ∷ Some 90 ∷ []
follow DefinitionRest = None ∷ Some 0 ∷ Some 1 ∷ Some 2 ∷ Some 3 ∷ Some 4 ∷ Some 5 ∷ Some 6 ∷ Some 7 ∷ Some 10 ∷ Some 11 ∷ Some 12 ∷ Some 13 ∷ Some 16 ∷ Some 17 ∷ Some 18 ∷ Some 19 ∷ Some 20 ∷ Some 21 ∷ Some 22 ∷ Some 23 ∷ Some 28 ∷ Some 29 ∷ Some 30 ∷ Some 31 ∷ Some 32 ∷ Some 35 ∷ Some 36 ∷ Some 37 ∷ Some 39 ∷ Some 40 ∷ Some 41 ∷ Some 42 ∷ Some 43 ∷ Some 44 ∷ Some 45 ∷ Some 51 ∷ Some 71 ∷ Some 72 ∷ Some 73 ∷ Some 78 ∷ Some 81 ∷ Some 83 ∷ Some 85 ∷ Some 93 ∷ []
follow Arrow = Some 88 ∷ []
follow ClassRest = None ∷ Some 0 ∷ Some 1 ∷ Some 2 ∷ Some 3 ∷ Some 4 ∷ Some 5 ∷ Some 6 ∷ Some 7 ∷ Some 10 ∷ Some 11 ∷ Some 12 ∷ Some 13 ∷ Some 16 ∷ Some 17 ∷ Some 18 ∷ Some 19 ∷ Some 20 ∷ Some 21 ∷ Some 22 ∷ Some 23 ∷ Some 28 ∷ Some 29 ∷ Some 30 ∷ Some 31 ∷ Some 32 ∷ Some 35 ∷ Some 36 ∷ Some 37 ∷ Some 39 ∷ Some 40 ∷ Some 41 ∷ Some 42 ∷ Some 43 ∷ Some 44 ∷ Some 45 ∷ Some 51 ∷ Some 71 ∷ Some 72 ∷ Some 73 ∷ Some 78 ∷ Some 81 ∷ Some 83 ∷ Some 85 ∷ Some 93 ∷ []
follow BaseEnd = Some 88 ∷ []
follow BriefText = None ∷ Some 0 ∷ Some 1 ∷ Some 2 ∷ Some 3 ∷ Some 4 ∷ Some 5 ∷ Some 6 ∷ Some 7 ∷ Some 10 ∷ Some 11 ∷ Some 12 ∷ Some 13 ∷ Some 16 ∷ Some 17 ∷ Some 18 ∷ Some 19 ∷ Some 20 ∷ Some 21 ∷ Some 22 ∷ Some 23 ∷ Some 28 ∷ Some 29 ∷ Some 30 ∷ Some 31 ∷ Some 32 ∷ Some 35 ∷ Some 36 ∷ Some 37 ∷ Some 39 ∷ Some 40 ∷ Some 41 ∷ Some 42 ∷ Some 43 ∷ Some 44 ∷ Some 45 ∷ Some 51 ∷ Some 71 ∷ Some 72 ∷ Some 73 ∷ Some 78 ∷ Some 81 ∷ Some 83 ∷ Some 85 ∷ Some 93 ∷ []
follow FromModule = Some 32 ∷ []
follow FromDots = Some 32 ∷ []
follow FromItems = Some 8 ∷ Some 90 ∷ []
follow ImportTail = Some 8 ∷ Some 87 ∷ Some 90 ∷ []
follow Raised = Some 8 ∷ Some 90 ∷ []
follow RaisedTail = Some 8 ∷ Some 90 ∷ []
follow Yielded = Some 8 ∷ Some 90 ∷ []
follow Deleted = Some 8 ∷ Some 90 ∷ []
follow DeletedSlice = Some 8 ∷ Some 90 ∷ []
follow BindingEnd = Some 33 ∷ Some 82 ∷ Some 84 ∷ []
follow Assigned = Some 8 ∷ Some 90 ∷ []
follow RightSide = Some 8 ∷ Some 90 ∷ []
follow UpperEnd = Some 8 ∷ Some 14 ∷ Some 15 ∷ Some 17 ∷ Some 25 ∷ Some 28 ∷ Some 29 ∷ Some 31 ∷ Some 33 ∷ Some 34 ∷ Some 37 ∷ Some 38 ∷ Some 47 ∷ Some 48 ∷ Some 49 ∷ Some 50 ∷ Some 52 ∷ Some 53 ∷ Some 54 ∷ Some 55 ∷ Some 56 ∷ Some 57 ∷ Some 58 ∷ Some 59 ∷ Some 60 ∷ Some 61 ∷ Some 62 ∷ Some 63 ∷ Some 64 ∷ Some 65 ∷ Some 66 ∷ Some 67 ∷ Some 68 ∷ Some 70 ∷ Some 71 ∷ Some 72 ∷ Some 73 ∷ Some 74 ∷ Some 75 ∷ Some 76 ∷ Some 77 ∷ Some 79 ∷ Some 80 ∷ Some 81 ∷ Some 82 ∷ Some 83 ∷ Some 84 ∷ Some 86 ∷ Some 87 ∷ Some 88 ∷ Some 89 ∷ Some 90 ∷ Some 91 ∷ Some 92 ∷ Some 93 ∷ []
follow TextTail = Some 8 ∷ Some 14 ∷ Some 15 ∷ Some 17 ∷ Some 25 ∷ Some 28 ∷ Some 29 ∷ Some 31 ∷ Some 33 ∷ Some 34 ∷ Some 37 ∷ Some 38 ∷ Some 47 ∷ Some 48 ∷ Some 49 ∷ Some 50 ∷ Some 52 ∷ Some 53 ∷ Some 54 ∷ Some 55 ∷ Some 56 ∷ Some 57 ∷ Some 58 ∷ Some 59 ∷ Some 60 ∷ Some 61 ∷ Some 62 ∷ Some 63 ∷ Some 64 ∷ Some 65 ∷ Some 66 ∷ Some 67 ∷ Some 68 ∷ Some 70 ∷ Some 71 ∷ Some 72 ∷ Some 73 ∷ Some 74 ∷ Some 75 ∷ Some 76 ∷ Some 77 ∷ Some 79 ∷ Some 80 ∷ Some 81 ∷ Some 82 ∷ Some 83 ∷ Some 84 ∷ Some 86 ∷ Some 87 ∷ Some 88 ∷ Some 89 ∷ Some 90 ∷ Some 91 ∷ Some 92 ∷ Some 93 ∷ []
follow FirstPairNext = Some 86 ∷ []
follow MoreBytes = Some 8 ∷ Some 14 ∷ Some 15 ∷ Some 17 ∷ Some 25 ∷ Some 28 ∷ Some 29 ∷ Some 31 ∷ Some 33 ∷ Some 34 ∷ Some 37 ∷ Some 38 ∷ Some 47 ∷ Some 48 ∷ Some 49 ∷ Some 50 ∷ Some 52 ∷ Some 53 ∷ Some 54 ∷ Some 55 ∷ Some 56 ∷ Some 57 ∷ Some 58 ∷ Some 59 ∷ Some 60 ∷ Some 61 ∷ Some 62 ∷ Some 63 ∷ Some 64 ∷ Some 65 ∷ Some 66 ∷ Some 67 ∷ Some 68 ∷ Some 70 ∷ Some 71 ∷ Some 72 ∷ Some 73 ∷ Some 74 ∷ Some 75 ∷ Some 76 ∷ Some 77 ∷ Some 79 ∷ Some 80 ∷ Some 81 ∷ Some 82 ∷ Some 83 ∷ Some 84 ∷ Some 86 ∷ Some 87 ∷ Some 88 ∷ Some 89 ∷ Some 90 ∷ Some 91 ∷ Some 92 ∷ Some 93 ∷ []
follow MoreTexts = Some 8 ∷ Some 14 ∷ Some 15 ∷ Some 17 ∷ Some 25 ∷ Some 28 ∷ Some 29 ∷ Some 31 ∷ Some 33 ∷ Some 34 ∷ Some 37 ∷ Some 38 ∷ Some 47 ∷ Some 48 ∷ Some 49 ∷ Some 50 ∷ Some 52 ∷ Some 53 ∷ Some 54 ∷ Some 55 ∷ Some 56 ∷ Some 57 ∷ Some 58 ∷ Some 59 ∷ Some 60 ∷ Some 61 ∷ Some 62 ∷ Some 63 ∷ Some 64 ∷ Some 65 ∷ Some 66 ∷ Some 67 ∷ Some 68 ∷ Some 70 ∷ Some 71 ∷ Some 72 ∷ Some 73 ∷ Some 74 ∷ Some 75 ∷ Some 76 ∷ Some 77 ∷ Some 79 ∷ Some 80 ∷ Some 81 ∷ Some 82 ∷ Some 83 ∷ Some 84 ∷ Some 86 ∷ Some 87 ∷ Some 88 ∷ Some 89 ∷ Some 90 ∷ Some 91 ∷ Some 92 ∷ Some 93 ∷ []
follow Decorated = None ∷ Some 0 ∷ Some 1 ∷ Some 2 ∷ Some 3 ∷ Some 4 ∷ Some 5 ∷ Some 6 ∷ Some 7 ∷ Some 10 ∷ Some 11 ∷ Some 12 ∷ Some 13 ∷ Some 16 ∷ Some 17 ∷ Some 18 ∷ Some 19 ∷ Some 20 ∷ Some 21 ∷ Some 22 ∷ Some 23 ∷ Some 28 ∷ Some 29 ∷ Some 30 ∷ Some 31 ∷ Some 32 ∷ Some 35 ∷ Some 36 ∷ Some 37 ∷ Some 39 ∷ Some 40 ∷ Some 41 ∷ Some 42 ∷ Some 43 ∷ Some 44 ∷ Some 45 ∷ Some 51 ∷ Some 71 ∷ Some 72 ∷ Some 73 ∷ Some 78 ∷ Some 81 ∷ Some 83 ∷ Some 85 ∷ Some 93 ∷ []
follow DecoratedMember = Some 0 ∷ Some 1 ∷ Some 2 ∷ Some 3 ∷ Some 10 ∷ Some 11 ∷ Some 12 ∷ Some 13 ∷ Some 17 ∷ Some 20 ∷ Some 22 ∷ Some 29 ∷ Some 32 ∷ Some 39 ∷ Some 81 ∷ Some 83 ∷ Some 85 ∷ Some 93 ∷ []
follow LambdaParameters = Some 88 ∷ []
follow LambdaDefault = Some 87 ∷ Some 88 ∷ []
follow LambdaNext = Some 88 ∷ []
follow StarName = Some 82 ∷ []
follow StarNext = Some 82 ∷ []
follow StarMore = Some 82 ∷ []
follow StarEnd = Some 82 ∷ []
follow ArgumentsNext = Some 82 ∷ []
follow PairsNext = Some 82 ∷ []
follow PairsMore = Some 82 ∷ []
follow PlainNext = Some 82 ∷ []
follow PlainPairsNext = Some 82 ∷ []
follow PlainPairsMore = Some 82 ∷ []
follow PlainKeywordNext = Some 82 ∷ []
follow PlainKeywordMore = Some 82 ∷ []
follow AnnotatedDefault = Some 82 ∷ Some 87 ∷ []
follow AnnotatedValue = Some 8 ∷ Some 90 ∷ []
follow AnnotatedMember = None ∷ Some 0 ∷ Some 1 ∷ Some 2 ∷ Some 3 ∷ Some 4 ∷ Some 5 ∷ Some 6 ∷ Some 7 ∷ Some 10 ∷ Some 11 ∷ Some 12 ∷ Some 13 ∷ Some 16 ∷ Some 17 ∷ Some 18 ∷ Some 19 ∷ Some 20 ∷ Some 21 ∷ Some 22 ∷ Some 23 ∷ Some 28 ∷ Some 29 ∷ Some 30 ∷ Some 31 ∷ Some 32 ∷ Some 35 ∷ Some 36 ∷ Some 37 ∷ Some 39 ∷ Some 40 ∷ Some 41 ∷ Some 42 ∷ Some 43 ∷ Some 44 ∷ Some 45 ∷ Some 51 ∷ Some 71 ∷ Some 72 ∷ Some 73 ∷ Some 78 ∷ Some 81 ∷ Some 83 ∷ Some 85 ∷ Some 93 ∷ []
follow AnnotatedBracket = None ∷ Some 0 ∷ Some 1 ∷ Some 2 ∷ Some 3 ∷ Some 4 ∷ Some 5 ∷ Some 6 ∷ Some 7 ∷ Some 10 ∷ Some 11 ∷ Some 12 ∷ Some 13 ∷ Some 16 ∷ Some 17 ∷ Some 18 ∷ Some 19 ∷ Some 20 ∷ Some 21 ∷ Some 22 ∷ Some 23 ∷ Some 28 ∷ Some 29 ∷ Some 30 ∷ Some 31 ∷ Some 32 ∷ Some 35 ∷ Some 36 ∷ Some 37 ∷ Some 39 ∷ Some 40 ∷ Some 41 ∷ Some 42 ∷ Some 43 ∷ Some 44 ∷ Some 45 ∷ Some 51 ∷ Some 71 ∷ Some 72 ∷ Some 73 ∷ Some 78 ∷ Some 81 ∷ Some 83 ∷ Some 85 ∷ Some 93 ∷ []
follow ClassTargets = None ∷ Some 0 ∷ Some 1 ∷ Some 2 ∷ Some 3 ∷ Some 4 ∷ Some 5 ∷ Some 6 ∷ Some 7 ∷ Some 10 ∷ Some 11 ∷ Some 12 ∷ Some 13 ∷ Some 16 ∷ Some 17 ∷ Some 18 ∷ Some 19 ∷ Some 20 ∷ Some 21 ∷ Some 22 ∷ Some 23 ∷ Some 28 ∷ Some 29 ∷ Some 30 ∷ Some 31 ∷ Some 32 ∷ Some 35 ∷ Some 36 ∷ Some 37 ∷ Some 39 ∷ Some 40 ∷ Some 41 ∷ Some 42 ∷ Some 43 ∷ Some 44 ∷ Some 45 ∷ Some 51 ∷ Some 71 ∷ Some 72 ∷ Some 73 ∷ Some 78 ∷ Some 81 ∷ Some 83 ∷ Some 85 ∷ Some 93 ∷ []
follow ClassItems = None ∷ Some 0 ∷ Some 1 ∷ Some 2 ∷ Some 3 ∷ Some 4 ∷ Some 5 ∷ Some 6 ∷ Some 7 ∷ Some 10 ∷ Some 11 ∷ Some 12 ∷ Some 13 ∷ Some 16 ∷ Some 17 ∷ Some 18 ∷ Some 19 ∷ Some 20 ∷ Some 21 ∷ Some 22 ∷ Some 23 ∷ Some 28 ∷ Some 29 ∷ Some 30 ∷ Some 31 ∷ Some 32 ∷ Some 35 ∷ Some 36 ∷ Some 37 ∷ Some 39 ∷ Some 40 ∷ Some 41 ∷ Some 42 ∷ Some 43 ∷ Some 44 ∷ Some 45 ∷ Some 51 ∷ Some 71 ∷ Some 72 ∷ Some 73 ∷ Some 78 ∷ Some 81 ∷ Some 83 ∷ Some 85 ∷ Some 93 ∷ []
follow ClassItemNext = None ∷ Some 0 ∷ Some 1 ∷ Some 2 ∷ Some 3 ∷ Some 4 ∷ Some 5 ∷ Some 6 ∷ Some 7 ∷ Some 10 ∷ Some 11 ∷ Some 12 ∷ Some 13 ∷ Some 16 ∷ Some 17 ∷ Some 18 ∷ Some 19 ∷ Some 20 ∷ Some 21 ∷ Some 22 ∷ Some 23 ∷ Some 28 ∷ Some 29 ∷ Some 30 ∷ Some 31 ∷ Some 32 ∷ Some 35 ∷ Some 36 ∷ Some 37 ∷ Some 39 ∷ Some 40 ∷ Some 41 ∷ Some 42 ∷ Some 43 ∷ Some 44 ∷ Some 45 ∷ Some 51 ∷ Some 71 ∷ Some 72 ∷ Some 73 ∷ Some 78 ∷ Some 81 ∷ Some 83 ∷ Some 85 ∷ Some 93 ∷ []
follow ClassBracket = None ∷ Some 0 ∷ Some 1 ∷ Some 2 ∷ Some 3 ∷ Some 4 ∷ Some 5 ∷ Some 6 ∷ Some 7 ∷ Some 10 ∷ Some 11 ∷ Some 12 ∷ Some 13 ∷ Some 16 ∷ Some 17 ∷ Some 18 ∷ Some 19 ∷ Some 20 ∷ Some 21 ∷ Some 22 ∷ Some 23 ∷ Some 28 ∷ Some 29 ∷ Some 30 ∷ Some 31 ∷ Some 32 ∷ Some 35 ∷ Some 36 ∷ Some 37 ∷ Some 39 ∷ Some 40 ∷ Some 41 ∷ Some 42 ∷ Some 43 ∷ Some 44 ∷ Some 45 ∷ Some 51 ∷ Some 71 ∷ Some 72 ∷ Some 73 ∷ Some 78 ∷ Some 81 ∷ Some 83 ∷ Some 85 ∷ Some 93 ∷ []
follow Target = Some 8 ∷ Some 17 ∷ Some 28 ∷ Some 47 ∷ Some 48 ∷ Some 49 ∷ Some 50 ∷ Some 60 ∷ Some 61 ∷ Some 62 ∷ Some 63 ∷ Some 64 ∷ Some 65 ∷ Some 66 ∷ Some 67 ∷ Some 68 ∷ Some 82 ∷ Some 84 ∷ Some 86 ∷ Some 87 ∷ Some 88 ∷ Some 90 ∷ Some 91 ∷ []
follow TargetTail = Some 8 ∷ Some 17 ∷ Some 28 ∷ Some 47 ∷ Some 48 ∷ Some 49 ∷ Some 50 ∷ Some 60 ∷ Some 61 ∷ Some 62 ∷ Some 63 ∷ Some 64 ∷ Some 65 ∷ Some 66 ∷ Some 67 ∷ Some 68 ∷ Some 82 ∷ Some 84 ∷ Some 86 ∷ Some 87 ∷ Some 88 ∷ Some 90 ∷ Some 91 ∷ []
follow TargetAttribute = Some 8 ∷ Some 17 ∷ Some 28 ∷ Some 47 ∷ Some 48 ∷ Some 49 ∷ Some 50 ∷ Some 60 ∷ Some 61 ∷ Some 62 ∷ Some 63 ∷ Some 64 ∷ Some 65 ∷ Some 66 ∷ Some 67 ∷ Some 68 ∷ Some 82 ∷ Some 84 ∷ Some 86 ∷ Some 87 ∷ Some 88 ∷ Some 90 ∷ Some 91 ∷ []
follow TargetEnd = Some 8 ∷ Some 17 ∷ Some 28 ∷ Some 47 ∷ Some 48 ∷ Some 49 ∷ Some 50 ∷ Some 60 ∷ Some 61 ∷ Some 62 ∷ Some 63 ∷ Some 64 ∷ Some 65 ∷ Some 66 ∷ Some 67 ∷ Some 68 ∷ Some 82 ∷ Some 84 ∷ Some 86 ∷ Some 87 ∷ Some 88 ∷ Some 90 ∷ Some 91 ∷ []
follow TargetSubscript = Some 8 ∷ Some 17 ∷ Some 28 ∷ Some 47 ∷ Some 48 ∷ Some 49 ∷ Some 50 ∷ Some 60 ∷ Some 61 ∷ Some 62 ∷ Some 63 ∷ Some 64 ∷ Some 65 ∷ Some 66 ∷ Some 67 ∷ Some 68 ∷ Some 82 ∷ Some 84 ∷ Some 86 ∷ Some 87 ∷ Some 88 ∷ Some 90 ∷ Some 91 ∷ []
follow TargetSubscriptTail = Some 8 ∷ Some 17 ∷ Some 28 ∷ Some 47 ∷ Some 48 ∷ Some 49 ∷ Some 50 ∷ Some 60 ∷ Some 61 ∷ Some 62 ∷ Some 63 ∷ Some 64 ∷ Some 65 ∷ Some 66 ∷ Some 67 ∷ Some 68 ∷ Some 82 ∷ Some 84 ∷ Some 86 ∷ Some 87 ∷ Some 88 ∷ Some 90 ∷ Some 91 ∷ []
follow MoreBases = Some 82 ∷ []
follow BasesNext = Some 82 ∷ []
follow ClassKeywordBase = Some 82 ∷ []
follow ClassKeywordTail = Some 82 ∷ []
follow ClassKeywordNext = Some 82 ∷ []
follow ClassKeywordMore = Some 82 ∷ []
follow Step = Some 8 ∷ Some 14 ∷ Some 15 ∷ Some 17 ∷ Some 25 ∷ Some 28 ∷ Some 29 ∷ Some 31 ∷ Some 33 ∷ Some 34 ∷ Some 37 ∷ Some 38 ∷ Some 47 ∷ Some 48 ∷ Some 49 ∷ Some 50 ∷ Some 52 ∷ Some 53 ∷ Some 54 ∷ Some 55 ∷ Some 56 ∷ Some 57 ∷ Some 58 ∷ Some 59 ∷ Some 60 ∷ Some 61 ∷ Some 62 ∷ Some 63 ∷ Some 64 ∷ Some 65 ∷ Some 66 ∷ Some 67 ∷ Some 68 ∷ Some 70 ∷ Some 71 ∷ Some 72 ∷ Some 73 ∷ Some 74 ∷ Some 75 ∷ Some 76 ∷ Some 77 ∷ Some 79 ∷ Some 80 ∷ Some 81 ∷ Some 82 ∷ Some 83 ∷ Some 84 ∷ Some 86 ∷ Some 87 ∷ Some 88 ∷ Some 89 ∷ Some 90 ∷ Some 91 ∷ Some 92 ∷ Some 93 ∷ []
follow UpperStep = Some 8 ∷ Some 14 ∷ Some 15 ∷ Some 17 ∷ Some 25 ∷ Some 28 ∷ Some 29 ∷ Some 31 ∷ Some 33 ∷ Some 34 ∷ Some 37 ∷ Some 38 ∷ Some 47 ∷ Some 48 ∷ Some 49 ∷ Some 50 ∷ Some 52 ∷ Some 53 ∷ Some 54 ∷ Some 55 ∷ Some 56 ∷ Some 57 ∷ Some 58 ∷ Some 59 ∷ Some 60 ∷ Some 61 ∷ Some 62 ∷ Some 63 ∷ Some 64 ∷ Some 65 ∷ Some 66 ∷ Some 67 ∷ Some 68 ∷ Some 70 ∷ Some 71 ∷ Some 72 ∷ Some 73 ∷ Some 74 ∷ Some 75 ∷ Some 76 ∷ Some 77 ∷ Some 79 ∷ Some 80 ∷ Some 81 ∷ Some 82 ∷ Some 83 ∷ Some 84 ∷ Some 86 ∷ Some 87 ∷ Some 88 ∷ Some 89 ∷ Some 90 ∷ Some 91 ∷ Some 92 ∷ Some 93 ∷ []
follow WithItem = Some 87 ∷ Some 88 ∷ []
follow WithTarget = Some 87 ∷ Some 88 ∷ []
follow WithBinding = Some 87 ∷ Some 88 ∷ []
follow WithBracket = Some 87 ∷ Some 88 ∷ []
follow WithNext = Some 88 ∷ []
follow AsyncStatement = None ∷ Some 0 ∷ Some 1 ∷ Some 2 ∷ Some 3 ∷ Some 4 ∷ Some 5 ∷ Some 6 ∷ Some 7 ∷ Some 10 ∷ Some 11 ∷ Some 12 ∷ Some 13 ∷ Some 16 ∷ Some 17 ∷ Some 18 ∷ Some 19 ∷ Some 20 ∷ Some 21 ∷ Some 22 ∷ Some 23 ∷ Some 28 ∷ Some 29 ∷ Some 30 ∷ Some 31 ∷ Some 32 ∷ Some 35 ∷ Some 36 ∷ Some 37 ∷ Some 39 ∷ Some 40 ∷ Some 41 ∷ Some 42 ∷ Some 43 ∷ Some 44 ∷ Some 45 ∷ Some 51 ∷ Some 71 ∷ Some 72 ∷ Some 73 ∷ Some 78 ∷ Some 81 ∷ Some 83 ∷ Some 85 ∷ Some 93 ∷ []
follow YieldValue = Some 8 ∷ Some 82 ∷ Some 90 ∷ []
follow HeadedLoop = Some 82 ∷ Some 86 ∷ []
follow LoopConditions = Some 28 ∷ Some 82 ∷ Some 86 ∷ []
follow LoopMore = Some 82 ∷ Some 86 ∷ []
follow WalrusArgument = Some 82 ∷ []
follow PlainWalrusArgument = Some 82 ∷ []
follow WalrusSet = Some 8 ∷ Some 14 ∷ Some 15 ∷ Some 17 ∷ Some 25 ∷ Some 28 ∷ Some 29 ∷ Some 31 ∷ Some 33 ∷ Some 34 ∷ Some 37 ∷ Some 38 ∷ Some 47 ∷ Some 48 ∷ Some 49 ∷ Some 50 ∷ Some 52 ∷ Some 53 ∷ Some 54 ∷ Some 55 ∷ Some 56 ∷ Some 57 ∷ Some 58 ∷ Some 59 ∷ Some 60 ∷ Some 61 ∷ Some 62 ∷ Some 63 ∷ Some 64 ∷ Some 65 ∷ Some 66 ∷ Some 67 ∷ Some 68 ∷ Some 70 ∷ Some 71 ∷ Some 72 ∷ Some 73 ∷ Some 74 ∷ Some 75 ∷ Some 76 ∷ Some 77 ∷ Some 79 ∷ Some 80 ∷ Some 81 ∷ Some 82 ∷ Some 83 ∷ Some 84 ∷ Some 86 ∷ Some 87 ∷ Some 88 ∷ Some 89 ∷ Some 90 ∷ Some 91 ∷ Some 92 ∷ Some 93 ∷ []
follow RelativeModule = Some 32 ∷ []
follow ExceptNext = Some 82 ∷ []
follow ExceptMore = Some 82 ∷ []
follow DeletedRest = Some 8 ∷ Some 90 ∷ []
follow DeletedNames = Some 8 ∷ Some 82 ∷ Some 84 ∷ Some 90 ∷ []
follow DeletedNamesNext = Some 8 ∷ Some 82 ∷ Some 84 ∷ Some 90 ∷ []
follow DeletedName = Some 8 ∷ Some 82 ∷ Some 84 ∷ Some 87 ∷ Some 90 ∷ []
follow StarTargets = Some 8 ∷ Some 90 ∷ []
follow StarTargetMore = Some 8 ∷ Some 90 ∷ []

abbrev pub rank : Name → ℕ
rank (Profile t.Module) = 0
rank (Profile t.TopStatement) = 2
rank (Profile t.Statements) = 0
rank (Profile t.Statement) = 3
rank (Profile t.Compound) = 6
rank (Profile t.Otherwise) = 0
rank (Profile t.Suite) = 3
rank (Profile t.Handler) = 4
rank (Profile t.HandlerAlias) = 4
rank (Profile t.MoreHandlers) = 1
rank (Profile t.QualifiedName) = 1
rank (Profile t.QualifiedNameTail) = 0
rank (Profile t.Definition) = 5
rank (Profile t.ParameterList) = 0
rank (Profile t.ParameterNext) = 0
rank (Profile t.ParameterItem) = 1
rank (Profile t.ParameterDefault) = 0
rank (Profile t.ClassDefinition) = 3
rank (Profile t.ClassBase) = 0
rank (Profile t.BaseList) = 0
rank (Profile t.ClassSuite) = 1
rank (Profile t.Member) = 1
rank (Profile t.Members) = 0
rank (Profile t.Brief) = 0
rank (Profile t.ImportStatement) = 3
rank (Profile t.ImportItem) = 2
rank (Profile t.ImportAlias) = 0
rank (Profile t.ImportNext) = 0
rank (Profile t.FromItem) = 1
rank (Profile t.FromNext) = 0
rank (Profile t.Line) = 1
rank (Profile t.LineTail) = 0
rank (Profile t.LineMore) = 0
rank (Profile t.Small) = 0
rank (Profile t.SmallTail) = 0
rank (Profile t.AssignTail) = 0
rank (Profile t.Returned) = 0
rank (Profile t.GlobalNext) = 0
rank (Profile t.AssertMessage) = 0
rank (Profile t.DeletedTail) = 16
rank (Profile t.DeletedAttribute) = 16
rank (Profile t.DeletedEnd) = 0
rank (Profile t.DeletedSubscript) = 15
rank (Profile t.DeletedSubscriptTail) = 1
rank (Profile t.Binding) = 1
rank (Profile t.BindingTail) = 0
rank (Profile t.BindingMore) = 0
rank (Profile t.BindingNext) = 0
rank (Profile t.ExpressionList) = 15
rank (Profile t.ExpressionListTail) = 0
rank (Profile t.ItemMore) = 0
rank (Profile t.ItemNext) = 0
rank (Profile t.Expression) = 14
rank (Profile t.ExpressionTail) = 0
rank (Profile t.OrTest) = 13
rank (Profile t.OrTail) = 0
rank (Profile t.OrMore) = 0
rank (Profile t.AndTest) = 12
rank (Profile t.AndTail) = 0
rank (Profile t.AndMore) = 0
rank (Profile t.NotTest) = 11
rank (Profile t.Comparison) = 10
rank (Profile t.ComparisonTail) = 0
rank (Profile t.ComparisonMore) = 0
rank (Profile t.ComparisonSign) = 0
rank (Profile t.IsTail) = 0
rank (Profile t.OrExpr) = 9
rank (Profile t.OrExprTail) = 0
rank (Profile t.XorExpr) = 8
rank (Profile t.XorExprTail) = 0
rank (Profile t.AndExpr) = 7
rank (Profile t.AndExprTail) = 0
rank (Profile t.ShiftExpr) = 6
rank (Profile t.ShiftTail) = 0
rank (Profile t.Sum) = 5
rank (Profile t.SumTail) = 0
rank (Profile t.Product) = 4
rank (Profile t.ProductTail) = 0
rank (Profile t.Factor) = 3
rank (Profile t.PowerExpr) = 2
rank (Profile t.PowerTail) = 0
rank (Profile t.Primary) = 1
rank (Profile t.PrimaryTail) = 0
rank (Profile t.AttributeTail) = 0
rank (Profile t.Subscription) = 1
rank (Profile t.SubscriptionTail) = 0
rank (Profile t.Upper) = 0
rank (Profile t.Arguments) = 0
rank (Profile t.ArgumentTail) = 0
rank (Profile t.KeywordNext) = 0
rank (Profile t.KeywordMore) = 0
rank (Profile t.PlainArguments) = 0
rank (Profile t.PlainArgumentTail) = 0
rank (Profile t.Atom) = 0
rank (Profile t.Parenthesised) = 0
rank (Profile t.ParenthesisedTail) = 0
rank (Profile t.Bracketed) = 0
rank (Profile t.BracketedTail) = 0
rank (Profile t.Braced) = 0
rank (Profile t.BracedTail) = 0
rank (Profile t.PairNext) = 0
rank (Profile t.PairMore) = 0
rank (Profile t.Comprehension) = 14
rank (Profile t.Conditions) = 0
rank (Profile t.Comprehensions) = 0
rank (Profile t.AnyName) = 0
rank NamedExpression = 15
rank Named = 0
rank NamedCondition = 0
rank NamedItemMore = 0
rank NamedItemNext = 0
rank LoopElse = 0
rank TryTail = 5
rank HandlersEnd = 0
rank BlockLine = 2
rank BlockLineTail = 0
rank BlockLineMore = 0
rank BlockSmall = 1
rank DefinitionRest = 4
rank Arrow = 0
rank ClassRest = 2
rank BaseEnd = 0
rank BriefText = 0
rank FromModule = 1
rank FromDots = 0
rank FromItems = 2
rank ImportTail = 1
rank Raised = 15
rank RaisedTail = 0
rank Yielded = 16
rank Deleted = 17
rank DeletedSlice = 17
rank BindingEnd = 0
rank Assigned = 16
rank RightSide = 16
rank UpperEnd = 0
rank TextTail = 0
rank FirstPairNext = 0
rank MoreBytes = 0
rank MoreTexts = 0
rank Decorated = 4
rank DecoratedMember = 6
rank LambdaParameters = 0
rank LambdaDefault = 0
rank LambdaNext = 0
rank StarName = 1
rank StarNext = 0
rank StarMore = 0
rank StarEnd = 0
rank ArgumentsNext = 0
rank PairsNext = 0
rank PairsMore = 0
rank PlainNext = 0
rank PlainPairsNext = 0
rank PlainPairsMore = 0
rank PlainKeywordNext = 0
rank PlainKeywordMore = 0
rank AnnotatedDefault = 0
rank AnnotatedValue = 0
rank AnnotatedMember = 15
rank AnnotatedBracket = 16
rank ClassTargets = 17
rank ClassItems = 17
rank ClassItemNext = 17
rank ClassBracket = 18
rank Target = 1
rank TargetTail = 1
rank TargetAttribute = 0
rank TargetEnd = 0
rank TargetSubscript = 2
rank TargetSubscriptTail = 1
rank MoreBases = 0
rank BasesNext = 0
rank ClassKeywordBase = 16
rank ClassKeywordTail = 15
rank ClassKeywordNext = 0
rank ClassKeywordMore = 0
rank Step = 0
rank UpperStep = 0
rank WithItem = 15
rank WithTarget = 0
rank WithBinding = 1
rank WithBracket = 1
rank WithNext = 0
rank AsyncStatement = 6
rank YieldValue = 0
rank HeadedLoop = 14
rank LoopConditions = 0
rank LoopMore = 0
rank WalrusArgument = 0
rank PlainWalrusArgument = 0
rank WalrusSet = 0
rank RelativeModule = 0
rank ExceptNext = 0
rank ExceptMore = 0
rank DeletedRest = 0
rank DeletedNames = 0
rank DeletedNamesNext = 0
rank DeletedName = 1
rank StarTargets = 17
rank StarTargetMore = 17

abbrev pub sets : Sets Name Token
sets = record { nullable = nullable; first = first; follow = follow; rank = rank; specimen = specimen }
