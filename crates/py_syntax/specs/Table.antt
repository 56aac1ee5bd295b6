-- The grammar as a table: rows of symbols for each nonterminal, and the sets by which one token of sight decides.
-- Grammar.antt says what a module is; that the table says the same is proved. `tools/table.py` writes this file from
-- `tools/grammar.txt`.
use Rattle.std.specs.Prelude.{ℕ, Bool, true, false, List, [], ◌∷◌, Some, None}
use Rattle.grammars.specs.Grammar.{Sym, Tok, Non, Do, Always, Where, Row, Grammar, Sight}
use Rattle.grammars.specs.Sets.{Sets}
use Rattle.py_syntax.specs.Token.{Token}
use Rattle.py_syntax.specs.Kinds.{kind_of, specimen}
use Rattle.py_syntax.specs.Tree.{Add, BitAnd, BitOr, BitXor, Equal, FloorDivide, Greater, GreaterOrEqual, In, Invert, Is, IsNot, LeftShift, Less, LessOrEqual, Modulo, Multiply, Negative, NotEqual, NotIn, Positive, Power, RightShift, Subtract}
use Rattle.py_syntax.specs.Build.{PToken, Parts, Action, AddAnd, AddArgument, AddBase, AddCondition, AddDefault, AddGlobal, AddImported, AddImportedAs, AddItem, AddKeyword, AddLink, AddLoop, AddLoopName, AddOr, AddPair, AddParameter, AddStmt, AddTargets, AddUpper, BeginBody, BeginCall, BeginClass, BeginComprehension, BeginDef, BeginDict, BeginFrom, BeginGlobal, BeginImport, BeginLoop, BeginTry, Catch, CatchAll, CatchAs, Drop, EndClass, EndDef, MakeAnd, MakeAssert, MakeAssertMessage, MakeAssign, MakeAttribute, MakeAugmented, MakeBinary, MakeBreak, MakeClassName, MakeClassWithin, MakeCompare, MakeConditional, MakeContinue, MakeDelete, MakeElif, MakeElse, MakeEmptyDict, MakeEmptyList, MakeEmptyTuple, MakeExprStmt, MakeFalse, MakeFor, MakeIf, MakeLeaf, MakeList, MakeListOfOne, MakeLongSign, MakeLoopName, MakeLoopNames, MakeLoopParenthesis, MakeNone, MakeNot, MakeOr, MakeParenthesis, MakePass, MakeRaise, MakeReturn, MakeReturnValue, MakeSet, MakeSetOfOne, MakeSign, MakeSlice, MakeSliceFrom, MakeSubscript, MakeTargets, MakeTrue, MakeTuple, MakeUnary, MakeWhile, MakeYield, act, are_targets_last, is_name_last, is_target_last}

pub data Nonterminal : Type 0 where
  Module : Nonterminal
  TopStatement : Nonterminal
  Statements : Nonterminal
  Statement : Nonterminal
  Compound : Nonterminal
  Otherwise : Nonterminal
  Suite : Nonterminal
  Handler : Nonterminal
  HandlerAlias : Nonterminal
  MoreHandlers : Nonterminal
  QualifiedName : Nonterminal
  QualifiedNameTail : Nonterminal
  Definition : Nonterminal
  ParameterList : Nonterminal
  ParameterNext : Nonterminal
  ParameterItem : Nonterminal
  ParameterDefault : Nonterminal
  ClassDefinition : Nonterminal
  ClassBase : Nonterminal
  BaseList : Nonterminal
  ClassSuite : Nonterminal
  Member : Nonterminal
  Members : Nonterminal
  Brief : Nonterminal
  ImportStatement : Nonterminal
  ImportItem : Nonterminal
  ImportAlias : Nonterminal
  ImportNext : Nonterminal
  FromItem : Nonterminal
  FromNext : Nonterminal
  Line : Nonterminal
  LineTail : Nonterminal
  LineMore : Nonterminal
  Small : Nonterminal
  SmallTail : Nonterminal
  AssignTail : Nonterminal
  Returned : Nonterminal
  GlobalNext : Nonterminal
  AssertMessage : Nonterminal
  DeletedTail : Nonterminal
  DeletedAttribute : Nonterminal
  DeletedEnd : Nonterminal
  DeletedSubscript : Nonterminal
  DeletedSubscriptTail : Nonterminal
  Binding : Nonterminal
  BindingTail : Nonterminal
  BindingMore : Nonterminal
  BindingNext : Nonterminal
  ExpressionList : Nonterminal
  ExpressionListTail : Nonterminal
  ItemMore : Nonterminal
  ItemNext : Nonterminal
  Expression : Nonterminal
  ExpressionTail : Nonterminal
  OrTest : Nonterminal
  OrTail : Nonterminal
  OrMore : Nonterminal
  AndTest : Nonterminal
  AndTail : Nonterminal
  AndMore : Nonterminal
  NotTest : Nonterminal
  Comparison : Nonterminal
  ComparisonTail : Nonterminal
  ComparisonMore : Nonterminal
  ComparisonSign : Nonterminal
  IsTail : Nonterminal
  OrExpr : Nonterminal
  OrExprTail : Nonterminal
  XorExpr : Nonterminal
  XorExprTail : Nonterminal
  AndExpr : Nonterminal
  AndExprTail : Nonterminal
  ShiftExpr : Nonterminal
  ShiftTail : Nonterminal
  Sum : Nonterminal
  SumTail : Nonterminal
  Product : Nonterminal
  ProductTail : Nonterminal
  Factor : Nonterminal
  PowerExpr : Nonterminal
  PowerTail : Nonterminal
  Primary : Nonterminal
  PrimaryTail : Nonterminal
  AttributeTail : Nonterminal
  Subscription : Nonterminal
  SubscriptionTail : Nonterminal
  Upper : Nonterminal
  Arguments : Nonterminal
  ArgumentTail : Nonterminal
  KeywordNext : Nonterminal
  KeywordMore : Nonterminal
  PlainArguments : Nonterminal
  PlainArgumentTail : Nonterminal
  Atom : Nonterminal
  Parenthesised : Nonterminal
  ParenthesisedTail : Nonterminal
  Bracketed : Nonterminal
  BracketedTail : Nonterminal
  Braced : Nonterminal
  BracedTail : Nonterminal
  PairNext : Nonterminal
  PairMore : Nonterminal
  Comprehension : Nonterminal
  Conditions : Nonterminal
  Comprehensions : Nonterminal
  AnyName : Nonterminal

abbrev pub Symbol : Type 0
Symbol = Sym Nonterminal Action

abbrev pub other_name : Symbol
other_name = Tok 0

abbrev pub ascii_name : Symbol
ascii_name = Tok 1

abbrev pub a_number : Symbol
a_number = Tok 2

abbrev pub a_text : Symbol
a_text = Tok 3

abbrev pub a_newline : Symbol
a_newline = Tok 8

abbrev pub a_indent : Symbol
a_indent = Tok 9

abbrev pub a_dedent : Symbol
a_dedent = Tok 10

abbrev pub the_false : Symbol
the_false = Tok 11

abbrev pub the_none : Symbol
the_none = Tok 12

abbrev pub the_true : Symbol
the_true = Tok 13

abbrev pub the_and : Symbol
the_and = Tok 14

abbrev pub the_as : Symbol
the_as = Tok 15

abbrev pub the_assert : Symbol
the_assert = Tok 16

abbrev pub the_break : Symbol
the_break = Tok 19

abbrev pub the_class : Symbol
the_class = Tok 20

abbrev pub the_continue : Symbol
the_continue = Tok 21

abbrev pub the_def : Symbol
the_def = Tok 22

abbrev pub the_del : Symbol
the_del = Tok 23

abbrev pub the_elif : Symbol
the_elif = Tok 24

abbrev pub the_else : Symbol
the_else = Tok 25

abbrev pub the_except : Symbol
the_except = Tok 26

abbrev pub the_for : Symbol
the_for = Tok 28

abbrev pub the_from : Symbol
the_from = Tok 29

abbrev pub the_global : Symbol
the_global = Tok 30

abbrev pub the_if : Symbol
the_if = Tok 31

abbrev pub the_import : Symbol
the_import = Tok 32

abbrev pub the_in : Symbol
the_in = Tok 33

abbrev pub the_is : Symbol
the_is = Tok 34

abbrev pub the_not : Symbol
the_not = Tok 37

abbrev pub the_or : Symbol
the_or = Tok 38

abbrev pub the_pass : Symbol
the_pass = Tok 39

abbrev pub the_raise : Symbol
the_raise = Tok 40

abbrev pub the_return : Symbol
the_return = Tok 41

abbrev pub the_try : Symbol
the_try = Tok 42

abbrev pub the_while : Symbol
the_while = Tok 43

abbrev pub the_yield : Symbol
the_yield = Tok 45

abbrev pub the_double_slash_equal : Symbol
the_double_slash_equal = Tok 47

abbrev pub the_double_star_equal : Symbol
the_double_star_equal = Tok 48

abbrev pub the_left_shift_equal : Symbol
the_left_shift_equal = Tok 49

abbrev pub the_right_shift_equal : Symbol
the_right_shift_equal = Tok 50

abbrev pub the_double_slash : Symbol
the_double_slash = Tok 52

abbrev pub the_double_star : Symbol
the_double_star = Tok 53

abbrev pub the_left_shift : Symbol
the_left_shift = Tok 54

abbrev pub the_right_shift : Symbol
the_right_shift = Tok 55

abbrev pub the_less_equal : Symbol
the_less_equal = Tok 56

abbrev pub the_greater_equal : Symbol
the_greater_equal = Tok 57

abbrev pub the_equal_equal : Symbol
the_equal_equal = Tok 58

abbrev pub the_not_equal : Symbol
the_not_equal = Tok 59

abbrev pub the_plus_equal : Symbol
the_plus_equal = Tok 60

abbrev pub the_minus_equal : Symbol
the_minus_equal = Tok 61

abbrev pub the_star_equal : Symbol
the_star_equal = Tok 62

abbrev pub the_percent_equal : Symbol
the_percent_equal = Tok 63

abbrev pub the_ampersand_equal : Symbol
the_ampersand_equal = Tok 64

abbrev pub the_bar_equal : Symbol
the_bar_equal = Tok 65

abbrev pub the_caret_equal : Symbol
the_caret_equal = Tok 66

abbrev pub the_plus : Symbol
the_plus = Tok 71

abbrev pub the_minus : Symbol
the_minus = Tok 72

abbrev pub the_star : Symbol
the_star = Tok 73

abbrev pub the_percent : Symbol
the_percent = Tok 74

abbrev pub the_ampersand : Symbol
the_ampersand = Tok 75

abbrev pub the_bar : Symbol
the_bar = Tok 76

abbrev pub the_caret : Symbol
the_caret = Tok 77

abbrev pub the_tilde : Symbol
the_tilde = Tok 78

abbrev pub the_less : Symbol
the_less = Tok 79

abbrev pub the_greater : Symbol
the_greater = Tok 80

abbrev pub the_open_parenthesis : Symbol
the_open_parenthesis = Tok 81

abbrev pub the_close_parenthesis : Symbol
the_close_parenthesis = Tok 82

abbrev pub the_open_bracket : Symbol
the_open_bracket = Tok 83

abbrev pub the_close_bracket : Symbol
the_close_bracket = Tok 84

abbrev pub the_open_brace : Symbol
the_open_brace = Tok 85

abbrev pub the_close_brace : Symbol
the_close_brace = Tok 86

abbrev pub the_comma : Symbol
the_comma = Tok 87

abbrev pub the_colon : Symbol
the_colon = Tok 88

abbrev pub the_dot : Symbol
the_dot = Tok 89

abbrev pub the_semicolon : Symbol
the_semicolon = Tok 90

abbrev pub the_equal : Symbol
the_equal = Tok 91

abbrev pub row : List Symbol → Row Nonterminal Action Parts
row symbols = record { guard = Always; symbols = symbols }

abbrev pub guarded : (Parts → Bool) → List Symbol → Row Nonterminal Action Parts
guarded test symbols = record { guard = Where test; symbols = symbols }

abbrev pub rows : Nonterminal → List (Row Nonterminal Action Parts)
rows Module = row (Non TopStatement ∷ Non Module ∷ []) ∷ row [] ∷ []
rows TopStatement =
    row (Non Line ∷ [])
    ∷ row (Non Compound ∷ Do AddStmt ∷ [])
    ∷ row (Non Definition ∷ Do AddStmt ∷ [])
    ∷ row (Non ClassDefinition ∷ Do AddStmt ∷ [])
    ∷ row (Non ImportStatement ∷ Do AddStmt ∷ [])
    ∷ []
rows Statements = row (Non Statement ∷ Non Statements ∷ []) ∷ row [] ∷ []
rows Statement = row (Non Line ∷ []) ∷ row (Non Compound ∷ Do AddStmt ∷ []) ∷ []
rows Compound =
    row (the_if ∷ Non Expression ∷ the_colon ∷ Non Suite ∷ Non Otherwise ∷ Do MakeIf ∷ [])
    ∷ row (the_while ∷ Non Expression ∷ the_colon ∷ Non Suite ∷ Do MakeWhile ∷ [])
    ∷ row (the_for ∷ Non Binding ∷ the_in ∷ Non ExpressionList ∷ the_colon ∷ Non Suite ∷ Do MakeFor ∷ [])
    ∷ row (the_try ∷ the_colon ∷ Non Suite ∷ Do BeginTry ∷ the_except ∷ Non Handler ∷ [])
    ∷ []
rows Otherwise =
    row (Do BeginBody ∷ [])
    ∷ row (the_else ∷ the_colon ∷ Non Suite ∷ Do MakeElse ∷ [])
    ∷ row (the_elif ∷ Non Expression ∷ the_colon ∷ Non Suite ∷ Non Otherwise ∷ Do MakeElif ∷ [])
    ∷ []
rows Suite =
    row (Do BeginBody ∷ Non Line ∷ [])
    ∷ row (a_newline ∷ Do Drop ∷ a_indent ∷ Do Drop ∷ Do BeginBody ∷ Non Statement ∷ Non Statements ∷ a_dedent ∷ Do Drop ∷ [])
    ∷ []
rows Handler = row (the_colon ∷ Non Suite ∷ Do CatchAll ∷ []) ∷ row (Non QualifiedName ∷ Non HandlerAlias ∷ []) ∷ []
rows HandlerAlias =
    row (the_colon ∷ Non Suite ∷ Do Catch ∷ Non MoreHandlers ∷ [])
    ∷ row (the_as ∷ Non AnyName ∷ the_colon ∷ Non Suite ∷ Do CatchAs ∷ Non MoreHandlers ∷ [])
    ∷ []
rows MoreHandlers = row [] ∷ row (the_except ∷ Non Handler ∷ []) ∷ []
rows QualifiedName = row (Non AnyName ∷ Do MakeClassName ∷ Non QualifiedNameTail ∷ []) ∷ []
rows QualifiedNameTail = row [] ∷ row (the_dot ∷ Non AnyName ∷ Do MakeClassWithin ∷ []) ∷ []
rows Definition =
    row (the_def ∷ Non AnyName ∷ the_open_parenthesis ∷ Do BeginDef ∷ Non ParameterList ∷ the_close_parenthesis ∷ the_colon ∷ Non Suite ∷ Do EndDef ∷ [])
    ∷ []
rows ParameterList = row [] ∷ row (Non ParameterItem ∷ Non ParameterNext ∷ []) ∷ []
rows ParameterNext = row [] ∷ row (the_comma ∷ Do Drop ∷ Non ParameterList ∷ []) ∷ []
rows ParameterItem = row (Non AnyName ∷ Non ParameterDefault ∷ []) ∷ []
rows ParameterDefault = row (Do AddParameter ∷ []) ∷ row (the_equal ∷ Non Expression ∷ Do AddDefault ∷ []) ∷ []
rows ClassDefinition = row (the_class ∷ Non AnyName ∷ Do BeginClass ∷ Non ClassBase ∷ the_colon ∷ Non ClassSuite ∷ Do EndClass ∷ []) ∷ []
rows ClassBase = row [] ∷ row (the_open_parenthesis ∷ Non BaseList ∷ []) ∷ []
rows BaseList =
    row (the_close_parenthesis ∷ Do Drop ∷ Do Drop ∷ [])
    ∷ row (Non QualifiedName ∷ the_close_parenthesis ∷ Do AddBase ∷ [])
    ∷ []
rows ClassSuite =
    row (Do BeginBody ∷ Non Brief ∷ [])
    ∷ row (a_newline ∷ Do Drop ∷ a_indent ∷ Do Drop ∷ Do BeginBody ∷ Non Member ∷ Non Members ∷ a_dedent ∷ Do Drop ∷ [])
    ∷ []
rows Member = row (Non Brief ∷ []) ∷ row (Non Definition ∷ Do AddStmt ∷ []) ∷ []
rows Members = row (Non Member ∷ Non Members ∷ []) ∷ row [] ∷ []
rows Brief =
    row (the_pass ∷ Do MakePass ∷ Do AddStmt ∷ a_newline ∷ Do Drop ∷ [])
    ∷ row (a_text ∷ Do MakeLeaf ∷ Do MakeExprStmt ∷ Do AddStmt ∷ a_newline ∷ Do Drop ∷ [])
    ∷ []
rows ImportStatement =
    row (the_import ∷ Do BeginImport ∷ Non ImportItem ∷ Non ImportNext ∷ a_newline ∷ Do Drop ∷ [])
    ∷ row (the_from ∷ ascii_name ∷ the_import ∷ Do BeginFrom ∷ Non FromItem ∷ Non FromNext ∷ a_newline ∷ Do Drop ∷ [])
    ∷ []
rows ImportItem = row (ascii_name ∷ Non ImportAlias ∷ []) ∷ []
rows ImportAlias = row (Do AddImported ∷ []) ∷ row (the_as ∷ Non AnyName ∷ Do AddImportedAs ∷ []) ∷ []
rows ImportNext = row [] ∷ row (the_comma ∷ Do Drop ∷ Non ImportItem ∷ Non ImportNext ∷ []) ∷ []
rows FromItem = row (Non AnyName ∷ Non ImportAlias ∷ []) ∷ []
rows FromNext = row [] ∷ row (the_comma ∷ Do Drop ∷ Non FromItem ∷ Non FromNext ∷ []) ∷ []
rows Line = row (Non Small ∷ Do AddStmt ∷ Non LineTail ∷ []) ∷ []
rows LineTail = row (a_newline ∷ Do Drop ∷ []) ∷ row (the_semicolon ∷ Do Drop ∷ Non LineMore ∷ []) ∷ []
rows LineMore = row (a_newline ∷ Do Drop ∷ []) ∷ row (Non Small ∷ Do AddStmt ∷ Non LineTail ∷ []) ∷ []
rows Small =
    row (Non ExpressionList ∷ Non SmallTail ∷ [])
    ∷ row (the_pass ∷ Do MakePass ∷ [])
    ∷ row (the_break ∷ Do MakeBreak ∷ [])
    ∷ row (the_continue ∷ Do MakeContinue ∷ [])
    ∷ row (the_return ∷ Non Returned ∷ [])
    ∷ row (the_raise ∷ Non Expression ∷ Do MakeRaise ∷ [])
    ∷ row (the_yield ∷ Non ExpressionList ∷ Do MakeYield ∷ [])
    ∷ row (the_global ∷ Do BeginGlobal ∷ Non AnyName ∷ Do AddGlobal ∷ Non GlobalNext ∷ [])
    ∷ row (the_assert ∷ Non Expression ∷ Non AssertMessage ∷ [])
    ∷ row (the_del ∷ Non Atom ∷ Non DeletedTail ∷ Do MakeDelete ∷ [])
    ∷ []
rows SmallTail =
    row (Do MakeExprStmt ∷ [])
    ∷ guarded are_targets_last (the_equal ∷ Do MakeTargets ∷ Non ExpressionList ∷ Non AssignTail ∷ [])
    ∷ guarded is_target_last (the_bar_equal ∷ Non ExpressionList ∷ Do (MakeAugmented BitOr) ∷ [])
    ∷ guarded is_target_last (the_caret_equal ∷ Non ExpressionList ∷ Do (MakeAugmented BitXor) ∷ [])
    ∷ guarded is_target_last (the_ampersand_equal ∷ Non ExpressionList ∷ Do (MakeAugmented BitAnd) ∷ [])
    ∷ guarded is_target_last (the_left_shift_equal ∷ Non ExpressionList ∷ Do (MakeAugmented LeftShift) ∷ [])
    ∷ guarded is_target_last (the_right_shift_equal ∷ Non ExpressionList ∷ Do (MakeAugmented RightShift) ∷ [])
    ∷ guarded is_target_last (the_plus_equal ∷ Non ExpressionList ∷ Do (MakeAugmented Add) ∷ [])
    ∷ guarded is_target_last (the_minus_equal ∷ Non ExpressionList ∷ Do (MakeAugmented Subtract) ∷ [])
    ∷ guarded is_target_last (the_star_equal ∷ Non ExpressionList ∷ Do (MakeAugmented Multiply) ∷ [])
    ∷ guarded is_target_last (the_double_slash_equal ∷ Non ExpressionList ∷ Do (MakeAugmented FloorDivide) ∷ [])
    ∷ guarded is_target_last (the_percent_equal ∷ Non ExpressionList ∷ Do (MakeAugmented Modulo) ∷ [])
    ∷ guarded is_target_last (the_double_star_equal ∷ Non ExpressionList ∷ Do (MakeAugmented Power) ∷ [])
    ∷ []
rows AssignTail =
    row (Do MakeAssign ∷ [])
    ∷ guarded are_targets_last (the_equal ∷ Do AddTargets ∷ Non ExpressionList ∷ Non AssignTail ∷ [])
    ∷ []
rows Returned = row (Do MakeReturn ∷ []) ∷ row (Non ExpressionList ∷ Do MakeReturnValue ∷ []) ∷ []
rows GlobalNext = row [] ∷ row (the_comma ∷ Do Drop ∷ Non AnyName ∷ Do AddGlobal ∷ Non GlobalNext ∷ []) ∷ []
rows AssertMessage = row (Do MakeAssert ∷ []) ∷ row (the_comma ∷ Non Expression ∷ Do MakeAssertMessage ∷ []) ∷ []
rows DeletedTail =
    row (the_dot ∷ Non AnyName ∷ Do MakeAttribute ∷ Non DeletedAttribute ∷ [])
    ∷ row (the_open_parenthesis ∷ Do BeginCall ∷ Non Arguments ∷ the_close_parenthesis ∷ Do Drop ∷ Non DeletedTail ∷ [])
    ∷ row (the_open_bracket ∷ Non DeletedSubscript ∷ [])
    ∷ []
rows DeletedAttribute =
    row (the_dot ∷ Non AnyName ∷ Do MakeAttribute ∷ Non DeletedAttribute ∷ [])
    ∷ row (the_open_parenthesis ∷ Do BeginCall ∷ Non PlainArguments ∷ the_close_parenthesis ∷ Do Drop ∷ Non DeletedTail ∷ [])
    ∷ row (the_open_bracket ∷ Non DeletedSubscript ∷ [])
    ∷ []
rows DeletedEnd =
    row []
    ∷ row (the_dot ∷ Non AnyName ∷ Do MakeAttribute ∷ Non DeletedAttribute ∷ [])
    ∷ row (the_open_parenthesis ∷ Do BeginCall ∷ Non Arguments ∷ the_close_parenthesis ∷ Do Drop ∷ Non DeletedTail ∷ [])
    ∷ row (the_open_bracket ∷ Non DeletedSubscript ∷ [])
    ∷ []
rows DeletedSubscript =
    row (Non Expression ∷ Non DeletedSubscriptTail ∷ [])
    ∷ row (the_colon ∷ Do MakeSlice ∷ Non Upper ∷ Non DeletedTail ∷ [])
    ∷ []
rows DeletedSubscriptTail =
    row (the_close_bracket ∷ Do MakeSubscript ∷ Non DeletedEnd ∷ [])
    ∷ row (the_colon ∷ Do MakeSliceFrom ∷ Non Upper ∷ Non DeletedTail ∷ [])
    ∷ []
rows Binding =
    row (Non AnyName ∷ Do MakeLoopName ∷ Non BindingTail ∷ [])
    ∷ row (the_open_parenthesis ∷ Non Binding ∷ the_close_parenthesis ∷ Do MakeLoopParenthesis ∷ [])
    ∷ []
rows BindingTail = row [] ∷ row (the_comma ∷ Do MakeLoopNames ∷ Non BindingMore ∷ []) ∷ []
rows BindingMore = row [] ∷ row (Non AnyName ∷ Do AddLoopName ∷ Non BindingNext ∷ []) ∷ []
rows BindingNext = row [] ∷ row (the_comma ∷ Do Drop ∷ Non BindingMore ∷ []) ∷ []
rows ExpressionList = row (Non Expression ∷ Non ExpressionListTail ∷ []) ∷ []
rows ExpressionListTail = row [] ∷ row (the_comma ∷ Do MakeTuple ∷ Non ItemMore ∷ []) ∷ []
rows ItemMore = row [] ∷ row (Non Expression ∷ Do AddItem ∷ Non ItemNext ∷ []) ∷ []
rows ItemNext = row [] ∷ row (the_comma ∷ Do Drop ∷ Non ItemMore ∷ []) ∷ []
rows Expression = row (Non OrTest ∷ Non ExpressionTail ∷ []) ∷ []
rows ExpressionTail = row [] ∷ row (the_if ∷ Non OrTest ∷ the_else ∷ Non Expression ∷ Do MakeConditional ∷ []) ∷ []
rows OrTest = row (Non AndTest ∷ Non OrTail ∷ []) ∷ []
rows OrTail = row [] ∷ row (the_or ∷ Non AndTest ∷ Do MakeOr ∷ Non OrMore ∷ []) ∷ []
rows OrMore = row [] ∷ row (the_or ∷ Non AndTest ∷ Do AddOr ∷ Non OrMore ∷ []) ∷ []
rows AndTest = row (Non NotTest ∷ Non AndTail ∷ []) ∷ []
rows AndTail = row [] ∷ row (the_and ∷ Non NotTest ∷ Do MakeAnd ∷ Non AndMore ∷ []) ∷ []
rows AndMore = row [] ∷ row (the_and ∷ Non NotTest ∷ Do AddAnd ∷ Non AndMore ∷ []) ∷ []
rows NotTest = row (the_not ∷ Non NotTest ∷ Do MakeNot ∷ []) ∷ row (Non Comparison ∷ []) ∷ []
rows Comparison = row (Non OrExpr ∷ Non ComparisonTail ∷ []) ∷ []
rows ComparisonTail = row [] ∷ row (Non ComparisonSign ∷ Non OrExpr ∷ Do MakeCompare ∷ Non ComparisonMore ∷ []) ∷ []
rows ComparisonMore = row [] ∷ row (Non ComparisonSign ∷ Non OrExpr ∷ Do AddLink ∷ Non ComparisonMore ∷ []) ∷ []
rows ComparisonSign =
    row (the_less ∷ Do (MakeSign Less) ∷ [])
    ∷ row (the_greater ∷ Do (MakeSign Greater) ∷ [])
    ∷ row (the_less_equal ∷ Do (MakeSign LessOrEqual) ∷ [])
    ∷ row (the_greater_equal ∷ Do (MakeSign GreaterOrEqual) ∷ [])
    ∷ row (the_equal_equal ∷ Do (MakeSign Equal) ∷ [])
    ∷ row (the_not_equal ∷ Do (MakeSign NotEqual) ∷ [])
    ∷ row (the_in ∷ Do (MakeSign In) ∷ [])
    ∷ row (the_not ∷ the_in ∷ Do (MakeLongSign NotIn) ∷ [])
    ∷ row (the_is ∷ Non IsTail ∷ [])
    ∷ []
rows IsTail = row (Do (MakeSign Is) ∷ []) ∷ row (the_not ∷ Do (MakeLongSign IsNot) ∷ []) ∷ []
rows OrExpr = row (Non XorExpr ∷ Non OrExprTail ∷ []) ∷ []
rows OrExprTail = row [] ∷ row (the_bar ∷ Non XorExpr ∷ Do (MakeBinary BitOr) ∷ Non OrExprTail ∷ []) ∷ []
rows XorExpr = row (Non AndExpr ∷ Non XorExprTail ∷ []) ∷ []
rows XorExprTail = row [] ∷ row (the_caret ∷ Non AndExpr ∷ Do (MakeBinary BitXor) ∷ Non XorExprTail ∷ []) ∷ []
rows AndExpr = row (Non ShiftExpr ∷ Non AndExprTail ∷ []) ∷ []
rows AndExprTail = row [] ∷ row (the_ampersand ∷ Non ShiftExpr ∷ Do (MakeBinary BitAnd) ∷ Non AndExprTail ∷ []) ∷ []
rows ShiftExpr = row (Non Sum ∷ Non ShiftTail ∷ []) ∷ []
rows ShiftTail =
    row []
    ∷ row (the_left_shift ∷ Non Sum ∷ Do (MakeBinary LeftShift) ∷ Non ShiftTail ∷ [])
    ∷ row (the_right_shift ∷ Non Sum ∷ Do (MakeBinary RightShift) ∷ Non ShiftTail ∷ [])
    ∷ []
rows Sum = row (Non Product ∷ Non SumTail ∷ []) ∷ []
rows SumTail =
    row []
    ∷ row (the_plus ∷ Non Product ∷ Do (MakeBinary Add) ∷ Non SumTail ∷ [])
    ∷ row (the_minus ∷ Non Product ∷ Do (MakeBinary Subtract) ∷ Non SumTail ∷ [])
    ∷ []
rows Product = row (Non Factor ∷ Non ProductTail ∷ []) ∷ []
rows ProductTail =
    row []
    ∷ row (the_star ∷ Non Factor ∷ Do (MakeBinary Multiply) ∷ Non ProductTail ∷ [])
    ∷ row (the_double_slash ∷ Non Factor ∷ Do (MakeBinary FloorDivide) ∷ Non ProductTail ∷ [])
    ∷ row (the_percent ∷ Non Factor ∷ Do (MakeBinary Modulo) ∷ Non ProductTail ∷ [])
    ∷ []
rows Factor =
    row (the_minus ∷ Non Factor ∷ Do (MakeUnary Negative) ∷ [])
    ∷ row (the_plus ∷ Non Factor ∷ Do (MakeUnary Positive) ∷ [])
    ∷ row (the_tilde ∷ Non Factor ∷ Do (MakeUnary Invert) ∷ [])
    ∷ row (Non PowerExpr ∷ [])
    ∷ []
rows PowerExpr = row (Non Primary ∷ Non PowerTail ∷ []) ∷ []
rows PowerTail = row [] ∷ row (the_double_star ∷ Non Factor ∷ Do (MakeBinary Power) ∷ []) ∷ []
rows Primary = row (Non Atom ∷ Non PrimaryTail ∷ []) ∷ []
rows PrimaryTail =
    row []
    ∷ row (the_dot ∷ Non AnyName ∷ Do MakeAttribute ∷ Non AttributeTail ∷ [])
    ∷ row (the_open_parenthesis ∷ Do BeginCall ∷ Non Arguments ∷ the_close_parenthesis ∷ Do Drop ∷ Non PrimaryTail ∷ [])
    ∷ row (the_open_bracket ∷ Non Subscription ∷ Non PrimaryTail ∷ [])
    ∷ []
rows AttributeTail =
    row []
    ∷ row (the_dot ∷ Non AnyName ∷ Do MakeAttribute ∷ Non AttributeTail ∷ [])
    ∷ row (the_open_parenthesis ∷ Do BeginCall ∷ Non PlainArguments ∷ the_close_parenthesis ∷ Do Drop ∷ Non PrimaryTail ∷ [])
    ∷ row (the_open_bracket ∷ Non Subscription ∷ Non PrimaryTail ∷ [])
    ∷ []
rows Subscription = row (Non Expression ∷ Non SubscriptionTail ∷ []) ∷ row (the_colon ∷ Do MakeSlice ∷ Non Upper ∷ []) ∷ []
rows SubscriptionTail = row (the_close_bracket ∷ Do MakeSubscript ∷ []) ∷ row (the_colon ∷ Do MakeSliceFrom ∷ Non Upper ∷ []) ∷ []
rows Upper = row (the_close_bracket ∷ Do Drop ∷ []) ∷ row (Non Expression ∷ the_close_bracket ∷ Do AddUpper ∷ []) ∷ []
rows Arguments = row [] ∷ row (Non Expression ∷ Non ArgumentTail ∷ []) ∷ []
rows ArgumentTail =
    row (Do AddArgument ∷ [])
    ∷ row (the_comma ∷ Do Drop ∷ Do AddArgument ∷ Non Arguments ∷ [])
    ∷ guarded is_name_last (the_equal ∷ Non Expression ∷ Do AddKeyword ∷ Non KeywordNext ∷ [])
    ∷ []
rows KeywordNext = row [] ∷ row (the_comma ∷ Do Drop ∷ Non KeywordMore ∷ []) ∷ []
rows KeywordMore = row [] ∷ row (Non AnyName ∷ Do MakeLeaf ∷ the_equal ∷ Non Expression ∷ Do AddKeyword ∷ Non KeywordNext ∷ []) ∷ []
rows PlainArguments = row [] ∷ row (Non Expression ∷ Non PlainArgumentTail ∷ []) ∷ []
rows PlainArgumentTail = row (Do AddArgument ∷ []) ∷ row (the_comma ∷ Do Drop ∷ Do AddArgument ∷ Non PlainArguments ∷ []) ∷ []
rows Atom =
    row (Non AnyName ∷ Do MakeLeaf ∷ [])
    ∷ row (a_number ∷ Do MakeLeaf ∷ [])
    ∷ row (a_text ∷ Do MakeLeaf ∷ [])
    ∷ row (the_true ∷ Do MakeTrue ∷ [])
    ∷ row (the_false ∷ Do MakeFalse ∷ [])
    ∷ row (the_none ∷ Do MakeNone ∷ [])
    ∷ row (the_open_parenthesis ∷ Non Parenthesised ∷ [])
    ∷ row (the_open_bracket ∷ Non Bracketed ∷ [])
    ∷ row (the_open_brace ∷ Non Braced ∷ [])
    ∷ []
rows Parenthesised = row (the_close_parenthesis ∷ Do MakeEmptyTuple ∷ []) ∷ row (Non Expression ∷ Non ParenthesisedTail ∷ []) ∷ []
rows ParenthesisedTail =
    row (the_close_parenthesis ∷ Do MakeParenthesis ∷ [])
    ∷ row (the_comma ∷ Do MakeTuple ∷ Non ItemMore ∷ the_close_parenthesis ∷ Do MakeParenthesis ∷ [])
    ∷ []
rows Bracketed = row (the_close_bracket ∷ Do MakeEmptyList ∷ []) ∷ row (Non Expression ∷ Non BracketedTail ∷ []) ∷ []
rows BracketedTail =
    row (the_close_bracket ∷ Do MakeListOfOne ∷ [])
    ∷ row (the_comma ∷ Do MakeTuple ∷ Non ItemMore ∷ the_close_bracket ∷ Do MakeList ∷ [])
    ∷ row (Do BeginComprehension ∷ Non Comprehension ∷ Non Comprehensions ∷ the_close_bracket ∷ Do Drop ∷ [])
    ∷ []
rows Braced = row (the_close_brace ∷ Do MakeEmptyDict ∷ []) ∷ row (Non Expression ∷ Non BracedTail ∷ []) ∷ []
rows BracedTail =
    row (the_close_brace ∷ Do MakeSetOfOne ∷ [])
    ∷ row (the_comma ∷ Do MakeTuple ∷ Non ItemMore ∷ the_close_brace ∷ Do MakeSet ∷ [])
    ∷ row (the_colon ∷ Non Expression ∷ Do BeginDict ∷ Non PairNext ∷ the_close_brace ∷ Do Drop ∷ [])
    ∷ []
rows PairNext = row [] ∷ row (the_comma ∷ Do Drop ∷ Non PairMore ∷ []) ∷ []
rows PairMore = row [] ∷ row (Non Expression ∷ the_colon ∷ Non Expression ∷ Do AddPair ∷ Non PairNext ∷ []) ∷ []
rows Comprehension = row (the_for ∷ Non Binding ∷ the_in ∷ Non OrTest ∷ Do BeginLoop ∷ Non Conditions ∷ Do AddLoop ∷ []) ∷ []
rows Conditions = row [] ∷ row (the_if ∷ Non OrTest ∷ Do AddCondition ∷ Non Conditions ∷ []) ∷ []
rows Comprehensions = row [] ∷ row (Non Comprehension ∷ Non Comprehensions ∷ []) ∷ []
rows AnyName = row (ascii_name ∷ []) ∷ row (other_name ∷ []) ∷ []

abbrev pub table : Grammar Nonterminal Action Token Parts
table = record { kind = kind_of; take_in = λ t v. PToken t ∷ v; act = act; rows = rows }

abbrev pub nullable : Nonterminal → Bool
nullable Module = true
nullable TopStatement = false
nullable Statements = true
nullable Statement = false
nullable Compound = false
nullable Otherwise = true
nullable Suite = false
nullable Handler = false
nullable HandlerAlias = false
nullable MoreHandlers = true
nullable QualifiedName = false
nullable QualifiedNameTail = true
nullable Definition = false
nullable ParameterList = true
nullable ParameterNext = true
nullable ParameterItem = false
nullable ParameterDefault = true
nullable ClassDefinition = false
nullable ClassBase = true
nullable BaseList = false
nullable ClassSuite = false
nullable Member = false
nullable Members = true
nullable Brief = false
nullable ImportStatement = false
nullable ImportItem = false
nullable ImportAlias = true
nullable ImportNext = true
nullable FromItem = false
nullable FromNext = true
nullable Line = false
nullable LineTail = false
nullable LineMore = false
nullable Small = false
nullable SmallTail = true
nullable AssignTail = true
nullable Returned = true
nullable GlobalNext = true
nullable AssertMessage = true
nullable DeletedTail = false
nullable DeletedAttribute = false
nullable DeletedEnd = true
nullable DeletedSubscript = false
nullable DeletedSubscriptTail = false
nullable Binding = false
nullable BindingTail = true
nullable BindingMore = true
nullable BindingNext = true
nullable ExpressionList = false
nullable ExpressionListTail = true
nullable ItemMore = true
nullable ItemNext = true
nullable Expression = false
nullable ExpressionTail = true
nullable OrTest = false
nullable OrTail = true
nullable OrMore = true
nullable AndTest = false
nullable AndTail = true
nullable AndMore = true
nullable NotTest = false
nullable Comparison = false
nullable ComparisonTail = true
nullable ComparisonMore = true
nullable ComparisonSign = false
nullable IsTail = true
nullable OrExpr = false
nullable OrExprTail = true
nullable XorExpr = false
nullable XorExprTail = true
nullable AndExpr = false
nullable AndExprTail = true
nullable ShiftExpr = false
nullable ShiftTail = true
nullable Sum = false
nullable SumTail = true
nullable Product = false
nullable ProductTail = true
nullable Factor = false
nullable PowerExpr = false
nullable PowerTail = true
nullable Primary = false
nullable PrimaryTail = true
nullable AttributeTail = true
nullable Subscription = false
nullable SubscriptionTail = false
nullable Upper = false
nullable Arguments = true
nullable ArgumentTail = true
nullable KeywordNext = true
nullable KeywordMore = true
nullable PlainArguments = true
nullable PlainArgumentTail = true
nullable Atom = false
nullable Parenthesised = false
nullable ParenthesisedTail = false
nullable Bracketed = false
nullable BracketedTail = false
nullable Braced = false
nullable BracedTail = false
nullable PairNext = true
nullable PairMore = true
nullable Comprehension = false
nullable Conditions = true
nullable Comprehensions = true
nullable AnyName = false

abbrev pub first : Nonterminal → List Sight
first Module = Some 0 ∷ Some 1 ∷ Some 2 ∷ Some 3 ∷ Some 11 ∷ Some 12 ∷ Some 13 ∷ Some 16 ∷ Some 19 ∷ Some 20 ∷ Some 21 ∷ Some 22 ∷ Some 23 ∷ Some 28 ∷ Some 29 ∷ Some 30 ∷ Some 31 ∷ Some 32 ∷ Some 37 ∷ Some 39 ∷ Some 40 ∷ Some 41 ∷ Some 42 ∷ Some 43 ∷ Some 45 ∷ Some 71 ∷ Some 72 ∷ Some 78 ∷ Some 81 ∷ Some 83 ∷ Some 85 ∷ []
first TopStatement = Some 0 ∷ Some 1 ∷ Some 2 ∷ Some 3 ∷ Some 11 ∷ Some 12 ∷ Some 13 ∷ Some 16 ∷ Some 19 ∷ Some 20 ∷ Some 21 ∷ Some 22 ∷ Some 23 ∷ Some 28 ∷ Some 29 ∷ Some 30 ∷ Some 31 ∷ Some 32 ∷ Some 37 ∷ Some 39 ∷ Some 40 ∷ Some 41 ∷ Some 42 ∷ Some 43 ∷ Some 45 ∷ Some 71 ∷ Some 72 ∷ Some 78 ∷ Some 81 ∷ Some 83 ∷ Some 85 ∷ []
first Statements = Some 0 ∷ Some 1 ∷ Some 2 ∷ Some 3 ∷ Some 11 ∷ Some 12 ∷ Some 13 ∷ Some 16 ∷ Some 19 ∷ Some 21 ∷ Some 23 ∷ Some 28 ∷ Some 30 ∷ Some 31 ∷ Some 37 ∷ Some 39 ∷ Some 40 ∷ Some 41 ∷ Some 42 ∷ Some 43 ∷ Some 45 ∷ Some 71 ∷ Some 72 ∷ Some 78 ∷ Some 81 ∷ Some 83 ∷ Some 85 ∷ []
first Statement = Some 0 ∷ Some 1 ∷ Some 2 ∷ Some 3 ∷ Some 11 ∷ Some 12 ∷ Some 13 ∷ Some 16 ∷ Some 19 ∷ Some 21 ∷ Some 23 ∷ Some 28 ∷ Some 30 ∷ Some 31 ∷ Some 37 ∷ Some 39 ∷ Some 40 ∷ Some 41 ∷ Some 42 ∷ Some 43 ∷ Some 45 ∷ Some 71 ∷ Some 72 ∷ Some 78 ∷ Some 81 ∷ Some 83 ∷ Some 85 ∷ []
first Compound = Some 28 ∷ Some 31 ∷ Some 42 ∷ Some 43 ∷ []
first Otherwise = Some 24 ∷ Some 25 ∷ []
first Suite = Some 0 ∷ Some 1 ∷ Some 2 ∷ Some 3 ∷ Some 8 ∷ Some 11 ∷ Some 12 ∷ Some 13 ∷ Some 16 ∷ Some 19 ∷ Some 21 ∷ Some 23 ∷ Some 30 ∷ Some 37 ∷ Some 39 ∷ Some 40 ∷ Some 41 ∷ Some 45 ∷ Some 71 ∷ Some 72 ∷ Some 78 ∷ Some 81 ∷ Some 83 ∷ Some 85 ∷ []
first Handler = Some 0 ∷ Some 1 ∷ Some 88 ∷ []
first HandlerAlias = Some 15 ∷ Some 88 ∷ []
first MoreHandlers = Some 26 ∷ []
first QualifiedName = Some 0 ∷ Some 1 ∷ []
first QualifiedNameTail = Some 89 ∷ []
first Definition = Some 22 ∷ []
first ParameterList = Some 0 ∷ Some 1 ∷ []
first ParameterNext = Some 87 ∷ []
first ParameterItem = Some 0 ∷ Some 1 ∷ []
first ParameterDefault = Some 91 ∷ []
first ClassDefinition = Some 20 ∷ []
first ClassBase = Some 81 ∷ []
first BaseList = Some 0 ∷ Some 1 ∷ Some 82 ∷ []
first ClassSuite = Some 3 ∷ Some 8 ∷ Some 39 ∷ []
first Member = Some 3 ∷ Some 22 ∷ Some 39 ∷ []
first Members = Some 3 ∷ Some 22 ∷ Some 39 ∷ []
first Brief = Some 3 ∷ Some 39 ∷ []
first ImportStatement = Some 29 ∷ Some 32 ∷ []
first ImportItem = Some 1 ∷ []
first ImportAlias = Some 15 ∷ []
first ImportNext = Some 87 ∷ []
first FromItem = Some 0 ∷ Some 1 ∷ []
first FromNext = Some 87 ∷ []
first Line = Some 0 ∷ Some 1 ∷ Some 2 ∷ Some 3 ∷ Some 11 ∷ Some 12 ∷ Some 13 ∷ Some 16 ∷ Some 19 ∷ Some 21 ∷ Some 23 ∷ Some 30 ∷ Some 37 ∷ Some 39 ∷ Some 40 ∷ Some 41 ∷ Some 45 ∷ Some 71 ∷ Some 72 ∷ Some 78 ∷ Some 81 ∷ Some 83 ∷ Some 85 ∷ []
first LineTail = Some 8 ∷ Some 90 ∷ []
first LineMore = Some 0 ∷ Some 1 ∷ Some 2 ∷ Some 3 ∷ Some 8 ∷ Some 11 ∷ Some 12 ∷ Some 13 ∷ Some 16 ∷ Some 19 ∷ Some 21 ∷ Some 23 ∷ Some 30 ∷ Some 37 ∷ Some 39 ∷ Some 40 ∷ Some 41 ∷ Some 45 ∷ Some 71 ∷ Some 72 ∷ Some 78 ∷ Some 81 ∷ Some 83 ∷ Some 85 ∷ []
first Small = Some 0 ∷ Some 1 ∷ Some 2 ∷ Some 3 ∷ Some 11 ∷ Some 12 ∷ Some 13 ∷ Some 16 ∷ Some 19 ∷ Some 21 ∷ Some 23 ∷ Some 30 ∷ Some 37 ∷ Some 39 ∷ Some 40 ∷ Some 41 ∷ Some 45 ∷ Some 71 ∷ Some 72 ∷ Some 78 ∷ Some 81 ∷ Some 83 ∷ Some 85 ∷ []
first SmallTail = Some 47 ∷ Some 48 ∷ Some 49 ∷ Some 50 ∷ Some 60 ∷ Some 61 ∷ Some 62 ∷ Some 63 ∷ Some 64 ∷ Some 65 ∷ Some 66 ∷ Some 91 ∷ []
first AssignTail = Some 91 ∷ []
first Returned = Some 0 ∷ Some 1 ∷ Some 2 ∷ Some 3 ∷ Some 11 ∷ Some 12 ∷ Some 13 ∷ Some 37 ∷ Some 71 ∷ Some 72 ∷ Some 78 ∷ Some 81 ∷ Some 83 ∷ Some 85 ∷ []
first GlobalNext = Some 87 ∷ []
first AssertMessage = Some 87 ∷ []
first DeletedTail = Some 81 ∷ Some 83 ∷ Some 89 ∷ []
first DeletedAttribute = Some 81 ∷ Some 83 ∷ Some 89 ∷ []
first DeletedEnd = Some 81 ∷ Some 83 ∷ Some 89 ∷ []
first DeletedSubscript = Some 0 ∷ Some 1 ∷ Some 2 ∷ Some 3 ∷ Some 11 ∷ Some 12 ∷ Some 13 ∷ Some 37 ∷ Some 71 ∷ Some 72 ∷ Some 78 ∷ Some 81 ∷ Some 83 ∷ Some 85 ∷ Some 88 ∷ []
first DeletedSubscriptTail = Some 84 ∷ Some 88 ∷ []
first Binding = Some 0 ∷ Some 1 ∷ Some 81 ∷ []
first BindingTail = Some 87 ∷ []
first BindingMore = Some 0 ∷ Some 1 ∷ []
first BindingNext = Some 87 ∷ []
first ExpressionList = Some 0 ∷ Some 1 ∷ Some 2 ∷ Some 3 ∷ Some 11 ∷ Some 12 ∷ Some 13 ∷ Some 37 ∷ Some 71 ∷ Some 72 ∷ Some 78 ∷ Some 81 ∷ Some 83 ∷ Some 85 ∷ []
first ExpressionListTail = Some 87 ∷ []
first ItemMore = Some 0 ∷ Some 1 ∷ Some 2 ∷ Some 3 ∷ Some 11 ∷ Some 12 ∷ Some 13 ∷ Some 37 ∷ Some 71 ∷ Some 72 ∷ Some 78 ∷ Some 81 ∷ Some 83 ∷ Some 85 ∷ []
first ItemNext = Some 87 ∷ []
first Expression = Some 0 ∷ Some 1 ∷ Some 2 ∷ Some 3 ∷ Some 11 ∷ Some 12 ∷ Some 13 ∷ Some 37 ∷ Some 71 ∷ Some 72 ∷ Some 78 ∷ Some 81 ∷ Some 83 ∷ Some 85 ∷ []
first ExpressionTail = Some 31 ∷ []
first OrTest = Some 0 ∷ Some 1 ∷ Some 2 ∷ Some 3 ∷ Some 11 ∷ Some 12 ∷ Some 13 ∷ Some 37 ∷ Some 71 ∷ Some 72 ∷ Some 78 ∷ Some 81 ∷ Some 83 ∷ Some 85 ∷ []
first OrTail = Some 38 ∷ []
first OrMore = Some 38 ∷ []
first AndTest = Some 0 ∷ Some 1 ∷ Some 2 ∷ Some 3 ∷ Some 11 ∷ Some 12 ∷ Some 13 ∷ Some 37 ∷ Some 71 ∷ Some 72 ∷ Some 78 ∷ Some 81 ∷ Some 83 ∷ Some 85 ∷ []
first AndTail = Some 14 ∷ []
first AndMore = Some 14 ∷ []
first NotTest = Some 0 ∷ Some 1 ∷ Some 2 ∷ Some 3 ∷ Some 11 ∷ Some 12 ∷ Some 13 ∷ Some 37 ∷ Some 71 ∷ Some 72 ∷ Some 78 ∷ Some 81 ∷ Some 83 ∷ Some 85 ∷ []
first Comparison = Some 0 ∷ Some 1 ∷ Some 2 ∷ Some 3 ∷ Some 11 ∷ Some 12 ∷ Some 13 ∷ Some 71 ∷ Some 72 ∷ Some 78 ∷ Some 81 ∷ Some 83 ∷ Some 85 ∷ []
first ComparisonTail = Some 33 ∷ Some 34 ∷ Some 37 ∷ Some 56 ∷ Some 57 ∷ Some 58 ∷ Some 59 ∷ Some 79 ∷ Some 80 ∷ []
first ComparisonMore = Some 33 ∷ Some 34 ∷ Some 37 ∷ Some 56 ∷ Some 57 ∷ Some 58 ∷ Some 59 ∷ Some 79 ∷ Some 80 ∷ []
first ComparisonSign = Some 33 ∷ Some 34 ∷ Some 37 ∷ Some 56 ∷ Some 57 ∷ Some 58 ∷ Some 59 ∷ Some 79 ∷ Some 80 ∷ []
first IsTail = Some 37 ∷ []
first OrExpr = Some 0 ∷ Some 1 ∷ Some 2 ∷ Some 3 ∷ Some 11 ∷ Some 12 ∷ Some 13 ∷ Some 71 ∷ Some 72 ∷ Some 78 ∷ Some 81 ∷ Some 83 ∷ Some 85 ∷ []
first OrExprTail = Some 76 ∷ []
first XorExpr = Some 0 ∷ Some 1 ∷ Some 2 ∷ Some 3 ∷ Some 11 ∷ Some 12 ∷ Some 13 ∷ Some 71 ∷ Some 72 ∷ Some 78 ∷ Some 81 ∷ Some 83 ∷ Some 85 ∷ []
first XorExprTail = Some 77 ∷ []
first AndExpr = Some 0 ∷ Some 1 ∷ Some 2 ∷ Some 3 ∷ Some 11 ∷ Some 12 ∷ Some 13 ∷ Some 71 ∷ Some 72 ∷ Some 78 ∷ Some 81 ∷ Some 83 ∷ Some 85 ∷ []
first AndExprTail = Some 75 ∷ []
first ShiftExpr = Some 0 ∷ Some 1 ∷ Some 2 ∷ Some 3 ∷ Some 11 ∷ Some 12 ∷ Some 13 ∷ Some 71 ∷ Some 72 ∷ Some 78 ∷ Some 81 ∷ Some 83 ∷ Some 85 ∷ []
first ShiftTail = Some 54 ∷ Some 55 ∷ []
first Sum = Some 0 ∷ Some 1 ∷ Some 2 ∷ Some 3 ∷ Some 11 ∷ Some 12 ∷ Some 13 ∷ Some 71 ∷ Some 72 ∷ Some 78 ∷ Some 81 ∷ Some 83 ∷ Some 85 ∷ []
first SumTail = Some 71 ∷ Some 72 ∷ []
first Product = Some 0 ∷ Some 1 ∷ Some 2 ∷ Some 3 ∷ Some 11 ∷ Some 12 ∷ Some 13 ∷ Some 71 ∷ Some 72 ∷ Some 78 ∷ Some 81 ∷ Some 83 ∷ Some 85 ∷ []
first ProductTail = Some 52 ∷ Some 73 ∷ Some 74 ∷ []
first Factor = Some 0 ∷ Some 1 ∷ Some 2 ∷ Some 3 ∷ Some 11 ∷ Some 12 ∷ Some 13 ∷ Some 71 ∷ Some 72 ∷ Some 78 ∷ Some 81 ∷ Some 83 ∷ Some 85 ∷ []
first PowerExpr = Some 0 ∷ Some 1 ∷ Some 2 ∷ Some 3 ∷ Some 11 ∷ Some 12 ∷ Some 13 ∷ Some 81 ∷ Some 83 ∷ Some 85 ∷ []
first PowerTail = Some 53 ∷ []
first Primary = Some 0 ∷ Some 1 ∷ Some 2 ∷ Some 3 ∷ Some 11 ∷ Some 12 ∷ Some 13 ∷ Some 81 ∷ Some 83 ∷ Some 85 ∷ []
first PrimaryTail = Some 81 ∷ Some 83 ∷ Some 89 ∷ []
first AttributeTail = Some 81 ∷ Some 83 ∷ Some 89 ∷ []
first Subscription = Some 0 ∷ Some 1 ∷ Some 2 ∷ Some 3 ∷ Some 11 ∷ Some 12 ∷ Some 13 ∷ Some 37 ∷ Some 71 ∷ Some 72 ∷ Some 78 ∷ Some 81 ∷ Some 83 ∷ Some 85 ∷ Some 88 ∷ []
first SubscriptionTail = Some 84 ∷ Some 88 ∷ []
first Upper = Some 0 ∷ Some 1 ∷ Some 2 ∷ Some 3 ∷ Some 11 ∷ Some 12 ∷ Some 13 ∷ Some 37 ∷ Some 71 ∷ Some 72 ∷ Some 78 ∷ Some 81 ∷ Some 83 ∷ Some 84 ∷ Some 85 ∷ []
first Arguments = Some 0 ∷ Some 1 ∷ Some 2 ∷ Some 3 ∷ Some 11 ∷ Some 12 ∷ Some 13 ∷ Some 37 ∷ Some 71 ∷ Some 72 ∷ Some 78 ∷ Some 81 ∷ Some 83 ∷ Some 85 ∷ []
first ArgumentTail = Some 87 ∷ Some 91 ∷ []
first KeywordNext = Some 87 ∷ []
first KeywordMore = Some 0 ∷ Some 1 ∷ []
first PlainArguments = Some 0 ∷ Some 1 ∷ Some 2 ∷ Some 3 ∷ Some 11 ∷ Some 12 ∷ Some 13 ∷ Some 37 ∷ Some 71 ∷ Some 72 ∷ Some 78 ∷ Some 81 ∷ Some 83 ∷ Some 85 ∷ []
first PlainArgumentTail = Some 87 ∷ []
first Atom = Some 0 ∷ Some 1 ∷ Some 2 ∷ Some 3 ∷ Some 11 ∷ Some 12 ∷ Some 13 ∷ Some 81 ∷ Some 83 ∷ Some 85 ∷ []
first Parenthesised = Some 0 ∷ Some 1 ∷ Some 2 ∷ Some 3 ∷ Some 11 ∷ Some 12 ∷ Some 13 ∷ Some 37 ∷ Some 71 ∷ Some 72 ∷ Some 78 ∷ Some 81 ∷ Some 82 ∷ Some 83 ∷ Some 85 ∷ []
first ParenthesisedTail = Some 82 ∷ Some 87 ∷ []
first Bracketed = Some 0 ∷ Some 1 ∷ Some 2 ∷ Some 3 ∷ Some 11 ∷ Some 12 ∷ Some 13 ∷ Some 37 ∷ Some 71 ∷ Some 72 ∷ Some 78 ∷ Some 81 ∷ Some 83 ∷ Some 84 ∷ Some 85 ∷ []
first BracketedTail = Some 28 ∷ Some 84 ∷ Some 87 ∷ []
first Braced = Some 0 ∷ Some 1 ∷ Some 2 ∷ Some 3 ∷ Some 11 ∷ Some 12 ∷ Some 13 ∷ Some 37 ∷ Some 71 ∷ Some 72 ∷ Some 78 ∷ Some 81 ∷ Some 83 ∷ Some 85 ∷ Some 86 ∷ []
first BracedTail = Some 86 ∷ Some 87 ∷ Some 88 ∷ []
first PairNext = Some 87 ∷ []
first PairMore = Some 0 ∷ Some 1 ∷ Some 2 ∷ Some 3 ∷ Some 11 ∷ Some 12 ∷ Some 13 ∷ Some 37 ∷ Some 71 ∷ Some 72 ∷ Some 78 ∷ Some 81 ∷ Some 83 ∷ Some 85 ∷ []
first Comprehension = Some 28 ∷ []
first Conditions = Some 31 ∷ []
first Comprehensions = Some 28 ∷ []
first AnyName = Some 0 ∷ Some 1 ∷ []

abbrev pub follow : Nonterminal → List Sight
follow Module = None ∷ []
follow TopStatement = None ∷ Some 0 ∷ Some 1 ∷ Some 2 ∷ Some 3 ∷ Some 11 ∷ Some 12 ∷ Some 13 ∷ Some 16 ∷ Some 19 ∷ Some 20 ∷ Some 21 ∷ Some 22 ∷ Some 23 ∷ Some 28 ∷ Some 29 ∷ Some 30 ∷ Some 31 ∷ Some 32 ∷ Some 37 ∷ Some 39 ∷ Some 40 ∷ Some 41 ∷ Some 42 ∷ Some 43 ∷ Some 45 ∷ Some 71 ∷ Some 72 ∷ Some 78 ∷ Some 81 ∷ Some 83 ∷ Some 85 ∷ []
follow Statements = Some 10 ∷ []
follow Statement = Some 0 ∷ Some 1 ∷ Some 2 ∷ Some 3 ∷ Some 10 ∷ Some 11 ∷ Some 12 ∷ Some 13 ∷ Some 16 ∷ Some 19 ∷ Some 21 ∷ Some 23 ∷ Some 28 ∷ Some 30 ∷ Some 31 ∷ Some 37 ∷ Some 39 ∷ Some 40 ∷ Some 41 ∷ Some 42 ∷ Some 43 ∷ Some 45 ∷ Some 71 ∷ Some 72 ∷ Some 78 ∷ Some 81 ∷ Some 83 ∷ Some 85 ∷ []
follow Compound = None ∷ Some 0 ∷ Some 1 ∷ Some 2 ∷ Some 3 ∷ Some 10 ∷ Some 11 ∷ Some 12 ∷ Some 13 ∷ Some 16 ∷ Some 19 ∷ Some 20 ∷ Some 21 ∷ Some 22 ∷ Some 23 ∷ Some 28 ∷ Some 29 ∷ Some 30 ∷ Some 31 ∷ Some 32 ∷ Some 37 ∷ Some 39 ∷ Some 40 ∷ Some 41 ∷ Some 42 ∷ Some 43 ∷ Some 45 ∷ Some 71 ∷ Some 72 ∷ Some 78 ∷ Some 81 ∷ Some 83 ∷ Some 85 ∷ []
follow Otherwise = None ∷ Some 0 ∷ Some 1 ∷ Some 2 ∷ Some 3 ∷ Some 10 ∷ Some 11 ∷ Some 12 ∷ Some 13 ∷ Some 16 ∷ Some 19 ∷ Some 20 ∷ Some 21 ∷ Some 22 ∷ Some 23 ∷ Some 28 ∷ Some 29 ∷ Some 30 ∷ Some 31 ∷ Some 32 ∷ Some 37 ∷ Some 39 ∷ Some 40 ∷ Some 41 ∷ Some 42 ∷ Some 43 ∷ Some 45 ∷ Some 71 ∷ Some 72 ∷ Some 78 ∷ Some 81 ∷ Some 83 ∷ Some 85 ∷ []
follow Suite = None ∷ Some 0 ∷ Some 1 ∷ Some 2 ∷ Some 3 ∷ Some 10 ∷ Some 11 ∷ Some 12 ∷ Some 13 ∷ Some 16 ∷ Some 19 ∷ Some 20 ∷ Some 21 ∷ Some 22 ∷ Some 23 ∷ Some 24 ∷ Some 25 ∷ Some 26 ∷ Some 28 ∷ Some 29 ∷ Some 30 ∷ Some 31 ∷ Some 32 ∷ Some 37 ∷ Some 39 ∷ Some 40 ∷ Some 41 ∷ Some 42 ∷ Some 43 ∷ Some 45 ∷ Some 71 ∷ Some 72 ∷ Some 78 ∷ Some 81 ∷ Some 83 ∷ Some 85 ∷ []
follow Handler = None ∷ Some 0 ∷ Some 1 ∷ Some 2 ∷ Some 3 ∷ Some 10 ∷ Some 11 ∷ Some 12 ∷ Some 13 ∷ Some 16 ∷ Some 19 ∷ Some 20 ∷ Some 21 ∷ Some 22 ∷ Some 23 ∷ Some 28 ∷ Some 29 ∷ Some 30 ∷ Some 31 ∷ Some 32 ∷ Some 37 ∷ Some 39 ∷ Some 40 ∷ Some 41 ∷ Some 42 ∷ Some 43 ∷ Some 45 ∷ Some 71 ∷ Some 72 ∷ Some 78 ∷ Some 81 ∷ Some 83 ∷ Some 85 ∷ []
follow HandlerAlias = None ∷ Some 0 ∷ Some 1 ∷ Some 2 ∷ Some 3 ∷ Some 10 ∷ Some 11 ∷ Some 12 ∷ Some 13 ∷ Some 16 ∷ Some 19 ∷ Some 20 ∷ Some 21 ∷ Some 22 ∷ Some 23 ∷ Some 28 ∷ Some 29 ∷ Some 30 ∷ Some 31 ∷ Some 32 ∷ Some 37 ∷ Some 39 ∷ Some 40 ∷ Some 41 ∷ Some 42 ∷ Some 43 ∷ Some 45 ∷ Some 71 ∷ Some 72 ∷ Some 78 ∷ Some 81 ∷ Some 83 ∷ Some 85 ∷ []
follow MoreHandlers = None ∷ Some 0 ∷ Some 1 ∷ Some 2 ∷ Some 3 ∷ Some 10 ∷ Some 11 ∷ Some 12 ∷ Some 13 ∷ Some 16 ∷ Some 19 ∷ Some 20 ∷ Some 21 ∷ Some 22 ∷ Some 23 ∷ Some 28 ∷ Some 29 ∷ Some 30 ∷ Some 31 ∷ Some 32 ∷ Some 37 ∷ Some 39 ∷ Some 40 ∷ Some 41 ∷ Some 42 ∷ Some 43 ∷ Some 45 ∷ Some 71 ∷ Some 72 ∷ Some 78 ∷ Some 81 ∷ Some 83 ∷ Some 85 ∷ []
follow QualifiedName = Some 15 ∷ Some 82 ∷ Some 88 ∷ []
follow QualifiedNameTail = Some 15 ∷ Some 82 ∷ Some 88 ∷ []
follow Definition = None ∷ Some 0 ∷ Some 1 ∷ Some 2 ∷ Some 3 ∷ Some 10 ∷ Some 11 ∷ Some 12 ∷ Some 13 ∷ Some 16 ∷ Some 19 ∷ Some 20 ∷ Some 21 ∷ Some 22 ∷ Some 23 ∷ Some 28 ∷ Some 29 ∷ Some 30 ∷ Some 31 ∷ Some 32 ∷ Some 37 ∷ Some 39 ∷ Some 40 ∷ Some 41 ∷ Some 42 ∷ Some 43 ∷ Some 45 ∷ Some 71 ∷ Some 72 ∷ Some 78 ∷ Some 81 ∷ Some 83 ∷ Some 85 ∷ []
follow ParameterList = Some 82 ∷ []
follow ParameterNext = Some 82 ∷ []
follow ParameterItem = Some 82 ∷ Some 87 ∷ []
follow ParameterDefault = Some 82 ∷ Some 87 ∷ []
follow ClassDefinition = None ∷ Some 0 ∷ Some 1 ∷ Some 2 ∷ Some 3 ∷ Some 11 ∷ Some 12 ∷ Some 13 ∷ Some 16 ∷ Some 19 ∷ Some 20 ∷ Some 21 ∷ Some 22 ∷ Some 23 ∷ Some 28 ∷ Some 29 ∷ Some 30 ∷ Some 31 ∷ Some 32 ∷ Some 37 ∷ Some 39 ∷ Some 40 ∷ Some 41 ∷ Some 42 ∷ Some 43 ∷ Some 45 ∷ Some 71 ∷ Some 72 ∷ Some 78 ∷ Some 81 ∷ Some 83 ∷ Some 85 ∷ []
follow ClassBase = Some 88 ∷ []
follow BaseList = Some 88 ∷ []
follow ClassSuite = None ∷ Some 0 ∷ Some 1 ∷ Some 2 ∷ Some 3 ∷ Some 11 ∷ Some 12 ∷ Some 13 ∷ Some 16 ∷ Some 19 ∷ Some 20 ∷ Some 21 ∷ Some 22 ∷ Some 23 ∷ Some 28 ∷ Some 29 ∷ Some 30 ∷ Some 31 ∷ Some 32 ∷ Some 37 ∷ Some 39 ∷ Some 40 ∷ Some 41 ∷ Some 42 ∷ Some 43 ∷ Some 45 ∷ Some 71 ∷ Some 72 ∷ Some 78 ∷ Some 81 ∷ Some 83 ∷ Some 85 ∷ []
follow Member = Some 3 ∷ Some 10 ∷ Some 22 ∷ Some 39 ∷ []
follow Members = Some 10 ∷ []
follow Brief = None ∷ Some 0 ∷ Some 1 ∷ Some 2 ∷ Some 3 ∷ Some 10 ∷ Some 11 ∷ Some 12 ∷ Some 13 ∷ Some 16 ∷ Some 19 ∷ Some 20 ∷ Some 21 ∷ Some 22 ∷ Some 23 ∷ Some 28 ∷ Some 29 ∷ Some 30 ∷ Some 31 ∷ Some 32 ∷ Some 37 ∷ Some 39 ∷ Some 40 ∷ Some 41 ∷ Some 42 ∷ Some 43 ∷ Some 45 ∷ Some 71 ∷ Some 72 ∷ Some 78 ∷ Some 81 ∷ Some 83 ∷ Some 85 ∷ []
follow ImportStatement = None ∷ Some 0 ∷ Some 1 ∷ Some 2 ∷ Some 3 ∷ Some 11 ∷ Some 12 ∷ Some 13 ∷ Some 16 ∷ Some 19 ∷ Some 20 ∷ Some 21 ∷ Some 22 ∷ Some 23 ∷ Some 28 ∷ Some 29 ∷ Some 30 ∷ Some 31 ∷ Some 32 ∷ Some 37 ∷ Some 39 ∷ Some 40 ∷ Some 41 ∷ Some 42 ∷ Some 43 ∷ Some 45 ∷ Some 71 ∷ Some 72 ∷ Some 78 ∷ Some 81 ∷ Some 83 ∷ Some 85 ∷ []
follow ImportItem = Some 8 ∷ Some 87 ∷ []
follow ImportAlias = Some 8 ∷ Some 87 ∷ []
follow ImportNext = Some 8 ∷ []
follow FromItem = Some 8 ∷ Some 87 ∷ []
follow FromNext = Some 8 ∷ []
follow Line = None ∷ Some 0 ∷ Some 1 ∷ Some 2 ∷ Some 3 ∷ Some 10 ∷ Some 11 ∷ Some 12 ∷ Some 13 ∷ Some 16 ∷ Some 19 ∷ Some 20 ∷ Some 21 ∷ Some 22 ∷ Some 23 ∷ Some 24 ∷ Some 25 ∷ Some 26 ∷ Some 28 ∷ Some 29 ∷ Some 30 ∷ Some 31 ∷ Some 32 ∷ Some 37 ∷ Some 39 ∷ Some 40 ∷ Some 41 ∷ Some 42 ∷ Some 43 ∷ Some 45 ∷ Some 71 ∷ Some 72 ∷ Some 78 ∷ Some 81 ∷ Some 83 ∷ Some 85 ∷ []
follow LineTail = None ∷ Some 0 ∷ Some 1 ∷ Some 2 ∷ Some 3 ∷ Some 10 ∷ Some 11 ∷ Some 12 ∷ Some 13 ∷ Some 16 ∷ Some 19 ∷ Some 20 ∷ Some 21 ∷ Some 22 ∷ Some 23 ∷ Some 24 ∷ Some 25 ∷ Some 26 ∷ Some 28 ∷ Some 29 ∷ Some 30 ∷ Some 31 ∷ Some 32 ∷ Some 37 ∷ Some 39 ∷ Some 40 ∷ Some 41 ∷ Some 42 ∷ Some 43 ∷ Some 45 ∷ Some 71 ∷ Some 72 ∷ Some 78 ∷ Some 81 ∷ Some 83 ∷ Some 85 ∷ []
follow LineMore = None ∷ Some 0 ∷ Some 1 ∷ Some 2 ∷ Some 3 ∷ Some 10 ∷ Some 11 ∷ Some 12 ∷ Some 13 ∷ Some 16 ∷ Some 19 ∷ Some 20 ∷ Some 21 ∷ Some 22 ∷ Some 23 ∷ Some 24 ∷ Some 25 ∷ Some 26 ∷ Some 28 ∷ Some 29 ∷ Some 30 ∷ Some 31 ∷ Some 32 ∷ Some 37 ∷ Some 39 ∷ Some 40 ∷ Some 41 ∷ Some 42 ∷ Some 43 ∷ Some 45 ∷ Some 71 ∷ Some 72 ∷ Some 78 ∷ Some 81 ∷ Some 83 ∷ Some 85 ∷ []
follow Small = Some 8 ∷ Some 90 ∷ []
follow SmallTail = Some 8 ∷ Some 90 ∷ []
follow AssignTail = Some 8 ∷ Some 90 ∷ []
follow Returned = Some 8 ∷ Some 90 ∷ []
follow GlobalNext = Some 8 ∷ Some 90 ∷ []
follow AssertMessage = Some 8 ∷ Some 90 ∷ []
follow DeletedTail = Some 8 ∷ Some 90 ∷ []
follow DeletedAttribute = Some 8 ∷ Some 90 ∷ []
follow DeletedEnd = Some 8 ∷ Some 90 ∷ []
follow DeletedSubscript = Some 8 ∷ Some 90 ∷ []
follow DeletedSubscriptTail = Some 8 ∷ Some 90 ∷ []
follow Binding = Some 33 ∷ Some 82 ∷ []
follow BindingTail = Some 33 ∷ Some 82 ∷ []
follow BindingMore = Some 33 ∷ Some 82 ∷ []
follow BindingNext = Some 33 ∷ Some 82 ∷ []
follow ExpressionList = Some 8 ∷ Some 47 ∷ Some 48 ∷ Some 49 ∷ Some 50 ∷ Some 60 ∷ Some 61 ∷ Some 62 ∷ Some 63 ∷ Some 64 ∷ Some 65 ∷ Some 66 ∷ Some 88 ∷ Some 90 ∷ Some 91 ∷ []
follow ExpressionListTail = Some 8 ∷ Some 47 ∷ Some 48 ∷ Some 49 ∷ Some 50 ∷ Some 60 ∷ Some 61 ∷ Some 62 ∷ Some 63 ∷ Some 64 ∷ Some 65 ∷ Some 66 ∷ Some 88 ∷ Some 90 ∷ Some 91 ∷ []
follow ItemMore = Some 8 ∷ Some 47 ∷ Some 48 ∷ Some 49 ∷ Some 50 ∷ Some 60 ∷ Some 61 ∷ Some 62 ∷ Some 63 ∷ Some 64 ∷ Some 65 ∷ Some 66 ∷ Some 82 ∷ Some 84 ∷ Some 86 ∷ Some 88 ∷ Some 90 ∷ Some 91 ∷ []
follow ItemNext = Some 8 ∷ Some 47 ∷ Some 48 ∷ Some 49 ∷ Some 50 ∷ Some 60 ∷ Some 61 ∷ Some 62 ∷ Some 63 ∷ Some 64 ∷ Some 65 ∷ Some 66 ∷ Some 82 ∷ Some 84 ∷ Some 86 ∷ Some 88 ∷ Some 90 ∷ Some 91 ∷ []
follow Expression = Some 8 ∷ Some 28 ∷ Some 47 ∷ Some 48 ∷ Some 49 ∷ Some 50 ∷ Some 60 ∷ Some 61 ∷ Some 62 ∷ Some 63 ∷ Some 64 ∷ Some 65 ∷ Some 66 ∷ Some 82 ∷ Some 84 ∷ Some 86 ∷ Some 87 ∷ Some 88 ∷ Some 90 ∷ Some 91 ∷ []
follow ExpressionTail = Some 8 ∷ Some 28 ∷ Some 47 ∷ Some 48 ∷ Some 49 ∷ Some 50 ∷ Some 60 ∷ Some 61 ∷ Some 62 ∷ Some 63 ∷ Some 64 ∷ Some 65 ∷ Some 66 ∷ Some 82 ∷ Some 84 ∷ Some 86 ∷ Some 87 ∷ Some 88 ∷ Some 90 ∷ Some 91 ∷ []
follow OrTest = Some 8 ∷ Some 25 ∷ Some 28 ∷ Some 31 ∷ Some 47 ∷ Some 48 ∷ Some 49 ∷ Some 50 ∷ Some 60 ∷ Some 61 ∷ Some 62 ∷ Some 63 ∷ Some 64 ∷ Some 65 ∷ Some 66 ∷ Some 82 ∷ Some 84 ∷ Some 86 ∷ Some 87 ∷ Some 88 ∷ Some 90 ∷ Some 91 ∷ []
follow OrTail = Some 8 ∷ Some 25 ∷ Some 28 ∷ Some 31 ∷ Some 47 ∷ Some 48 ∷ Some 49 ∷ Some 50 ∷ Some 60 ∷ Some 61 ∷ Some 62 ∷ Some 63 ∷ Some 64 ∷ Some 65 ∷ Some 66 ∷ Some 82 ∷ Some 84 ∷ Some 86 ∷ Some 87 ∷ Some 88 ∷ Some 90 ∷ Some 91 ∷ []
follow OrMore = Some 8 ∷ Some 25 ∷ Some 28 ∷ Some 31 ∷ Some 47 ∷ Some 48 ∷ Some 49 ∷ Some 50 ∷ Some 60 ∷ Some 61 ∷ Some 62 ∷ Some 63 ∷ Some 64 ∷ Some 65 ∷ Some 66 ∷ Some 82 ∷ Some 84 ∷ Some 86 ∷ Some 87 ∷ Some 88 ∷ Some 90 ∷ Some 91 ∷ []
follow AndTest = Some 8 ∷ Some 25 ∷ Some 28 ∷ Some 31 ∷ Some 38 ∷ Some 47 ∷ Some 48 ∷ Some 49 ∷ Some 50 ∷ Some 60 ∷ Some 61 ∷ Some 62 ∷ Some 63 ∷ Some 64 ∷ Some 65 ∷ Some 66 ∷ Some 82 ∷ Some 84 ∷ Some 86 ∷ Some 87 ∷ Some 88 ∷ Some 90 ∷ Some 91 ∷ []
follow AndTail = Some 8 ∷ Some 25 ∷ Some 28 ∷ Some 31 ∷ Some 38 ∷ Some 47 ∷ Some 48 ∷ Some 49 ∷ Some 50 ∷ Some 60 ∷ Some 61 ∷ Some 62 ∷ Some 63 ∷ Some 64 ∷ Some 65 ∷ Some 66 ∷ Some 82 ∷ Some 84 ∷ Some 86 ∷ Some 87 ∷ Some 88 ∷ Some 90 ∷ Some 91 ∷ []
follow AndMore = Some 8 ∷ Some 25 ∷ Some 28 ∷ Some 31 ∷ Some 38 ∷ Some 47 ∷ Some 48 ∷ Some 49 ∷ Some 50 ∷ Some 60 ∷ Some 61 ∷ Some 62 ∷ Some 63 ∷ Some 64 ∷ Some 65 ∷ Some 66 ∷ Some 82 ∷ Some 84 ∷ Some 86 ∷ Some 87 ∷ Some 88 ∷ Some 90 ∷ Some 91 ∷ []
follow NotTest = Some 8 ∷ Some 14 ∷ Some 25 ∷ Some 28 ∷ Some 31 ∷ Some 38 ∷ Some 47 ∷ Some 48 ∷ Some 49 ∷ Some 50 ∷ Some 60 ∷ Some 61 ∷ Some 62 ∷ Some 63 ∷ Some 64 ∷ Some 65 ∷ Some 66 ∷ Some 82 ∷ Some 84 ∷ Some 86 ∷ Some 87 ∷ Some 88 ∷ Some 90 ∷ Some 91 ∷ []
follow Comparison = Some 8 ∷ Some 14 ∷ Some 25 ∷ Some 28 ∷ Some 31 ∷ Some 38 ∷ Some 47 ∷ Some 48 ∷ Some 49 ∷ Some 50 ∷ Some 60 ∷ Some 61 ∷ Some 62 ∷ Some 63 ∷ Some 64 ∷ Some 65 ∷ Some 66 ∷ Some 82 ∷ Some 84 ∷ Some 86 ∷ Some 87 ∷ Some 88 ∷ Some 90 ∷ Some 91 ∷ []
follow ComparisonTail = Some 8 ∷ Some 14 ∷ Some 25 ∷ Some 28 ∷ Some 31 ∷ Some 38 ∷ Some 47 ∷ Some 48 ∷ Some 49 ∷ Some 50 ∷ Some 60 ∷ Some 61 ∷ Some 62 ∷ Some 63 ∷ Some 64 ∷ Some 65 ∷ Some 66 ∷ Some 82 ∷ Some 84 ∷ Some 86 ∷ Some 87 ∷ Some 88 ∷ Some 90 ∷ Some 91 ∷ []
follow ComparisonMore = Some 8 ∷ Some 14 ∷ Some 25 ∷ Some 28 ∷ Some 31 ∷ Some 38 ∷ Some 47 ∷ Some 48 ∷ Some 49 ∷ Some 50 ∷ Some 60 ∷ Some 61 ∷ Some 62 ∷ Some 63 ∷ Some 64 ∷ Some 65 ∷ Some 66 ∷ Some 82 ∷ Some 84 ∷ Some 86 ∷ Some 87 ∷ Some 88 ∷ Some 90 ∷ Some 91 ∷ []
follow ComparisonSign = Some 0 ∷ Some 1 ∷ Some 2 ∷ Some 3 ∷ Some 11 ∷ Some 12 ∷ Some 13 ∷ Some 71 ∷ Some 72 ∷ Some 78 ∷ Some 81 ∷ Some 83 ∷ Some 85 ∷ []
follow IsTail = Some 0 ∷ Some 1 ∷ Some 2 ∷ Some 3 ∷ Some 11 ∷ Some 12 ∷ Some 13 ∷ Some 71 ∷ Some 72 ∷ Some 78 ∷ Some 81 ∷ Some 83 ∷ Some 85 ∷ []
follow OrExpr = Some 8 ∷ Some 14 ∷ Some 25 ∷ Some 28 ∷ Some 31 ∷ Some 33 ∷ Some 34 ∷ Some 37 ∷ Some 38 ∷ Some 47 ∷ Some 48 ∷ Some 49 ∷ Some 50 ∷ Some 56 ∷ Some 57 ∷ Some 58 ∷ Some 59 ∷ Some 60 ∷ Some 61 ∷ Some 62 ∷ Some 63 ∷ Some 64 ∷ Some 65 ∷ Some 66 ∷ Some 79 ∷ Some 80 ∷ Some 82 ∷ Some 84 ∷ Some 86 ∷ Some 87 ∷ Some 88 ∷ Some 90 ∷ Some 91 ∷ []
follow OrExprTail = Some 8 ∷ Some 14 ∷ Some 25 ∷ Some 28 ∷ Some 31 ∷ Some 33 ∷ Some 34 ∷ Some 37 ∷ Some 38 ∷ Some 47 ∷ Some 48 ∷ Some 49 ∷ Some 50 ∷ Some 56 ∷ Some 57 ∷ Some 58 ∷ Some 59 ∷ Some 60 ∷ Some 61 ∷ Some 62 ∷ Some 63 ∷ Some 64 ∷ Some 65 ∷ Some 66 ∷ Some 79 ∷ Some 80 ∷ Some 82 ∷ Some 84 ∷ Some 86 ∷ Some 87 ∷ Some 88 ∷ Some 90 ∷ Some 91 ∷ []
follow XorExpr = Some 8 ∷ Some 14 ∷ Some 25 ∷ Some 28 ∷ Some 31 ∷ Some 33 ∷ Some 34 ∷ Some 37 ∷ Some 38 ∷ Some 47 ∷ Some 48 ∷ Some 49 ∷ Some 50 ∷ Some 56 ∷ Some 57 ∷ Some 58 ∷ Some 59 ∷ Some 60 ∷ Some 61 ∷ Some 62 ∷ Some 63 ∷ Some 64 ∷ Some 65 ∷ Some 66 ∷ Some 76 ∷ Some 79 ∷ Some 80 ∷ Some 82 ∷ Some 84 ∷ Some 86 ∷ Some 87 ∷ Some 88 ∷ Some 90 ∷ Some 91 ∷ []
follow XorExprTail = Some 8 ∷ Some 14 ∷ Some 25 ∷ Some 28 ∷ Some 31 ∷ Some 33 ∷ Some 34 ∷ Some 37 ∷ Some 38 ∷ Some 47 ∷ Some 48 ∷ Some 49 ∷ Some 50 ∷ Some 56 ∷ Some 57 ∷ Some 58 ∷ Some 59 ∷ Some 60 ∷ Some 61 ∷ Some 62 ∷ Some 63 ∷ Some 64 ∷ Some 65 ∷ Some 66 ∷ Some 76 ∷ Some 79 ∷ Some 80 ∷ Some 82 ∷ Some 84 ∷ Some 86 ∷ Some 87 ∷ Some 88 ∷ Some 90 ∷ Some 91 ∷ []
follow AndExpr = Some 8 ∷ Some 14 ∷ Some 25 ∷ Some 28 ∷ Some 31 ∷ Some 33 ∷ Some 34 ∷ Some 37 ∷ Some 38 ∷ Some 47 ∷ Some 48 ∷ Some 49 ∷ Some 50 ∷ Some 56 ∷ Some 57 ∷ Some 58 ∷ Some 59 ∷ Some 60 ∷ Some 61 ∷ Some 62 ∷ Some 63 ∷ Some 64 ∷ Some 65 ∷ Some 66 ∷ Some 76 ∷ Some 77 ∷ Some 79 ∷ Some 80 ∷ Some 82 ∷ Some 84 ∷ Some 86 ∷ Some 87 ∷ Some 88 ∷ Some 90 ∷ Some 91 ∷ []
follow AndExprTail = Some 8 ∷ Some 14 ∷ Some 25 ∷ Some 28 ∷ Some 31 ∷ Some 33 ∷ Some 34 ∷ Some 37 ∷ Some 38 ∷ Some 47 ∷ Some 48 ∷ Some 49 ∷ Some 50 ∷ Some 56 ∷ Some 57 ∷ Some 58 ∷ Some 59 ∷ Some 60 ∷ Some 61 ∷ Some 62 ∷ Some 63 ∷ Some 64 ∷ Some 65 ∷ Some 66 ∷ Some 76 ∷ Some 77 ∷ Some 79 ∷ Some 80 ∷ Some 82 ∷ Some 84 ∷ Some 86 ∷ Some 87 ∷ Some 88 ∷ Some 90 ∷ Some 91 ∷ []
follow ShiftExpr = Some 8 ∷ Some 14 ∷ Some 25 ∷ Some 28 ∷ Some 31 ∷ Some 33 ∷ Some 34 ∷ Some 37 ∷ Some 38 ∷ Some 47 ∷ Some 48 ∷ Some 49 ∷ Some 50 ∷ Some 56 ∷ Some 57 ∷ Some 58 ∷ Some 59 ∷ Some 60 ∷ Some 61 ∷ Some 62 ∷ Some 63 ∷ Some 64 ∷ Some 65 ∷ Some 66 ∷ Some 75 ∷ Some 76 ∷ Some 77 ∷ Some 79 ∷ Some 80 ∷ Some 82 ∷ Some 84 ∷ Some 86 ∷ Some 87 ∷ Some 88 ∷ Some 90 ∷ Some 91 ∷ []
follow ShiftTail = Some 8 ∷ Some 14 ∷ Some 25 ∷ Some 28 ∷ Some 31 ∷ Some 33 ∷ Some 34 ∷ Some 37 ∷ Some 38 ∷ Some 47 ∷ Some 48 ∷ Some 49 ∷ Some 50 ∷ Some 56 ∷ Some 57 ∷ Some 58 ∷ Some 59 ∷ Some 60 ∷ Some 61 ∷ Some 62 ∷ Some 63 ∷ Some 64 ∷ Some 65 ∷ Some 66 ∷ Some 75 ∷ Some 76 ∷ Some 77 ∷ Some 79 ∷ Some 80 ∷ Some 82 ∷ Some 84 ∷ Some 86 ∷ Some 87 ∷ Some 88 ∷ Some 90 ∷ Some 91 ∷ []
follow Sum = Some 8 ∷ Some 14 ∷ Some 25 ∷ Some 28 ∷ Some 31 ∷ Some 33 ∷ Some 34 ∷ Some 37 ∷ Some 38 ∷ Some 47 ∷ Some 48 ∷ Some 49 ∷ Some 50 ∷ Some 54 ∷ Some 55 ∷ Some 56 ∷ Some 57 ∷ Some 58 ∷ Some 59 ∷ Some 60 ∷ Some 61 ∷ Some 62 ∷ Some 63 ∷ Some 64 ∷ Some 65 ∷ Some 66 ∷ Some 75 ∷ Some 76 ∷ Some 77 ∷ Some 79 ∷ Some 80 ∷ Some 82 ∷ Some 84 ∷ Some 86 ∷ Some 87 ∷ Some 88 ∷ Some 90 ∷ Some 91 ∷ []
follow SumTail = Some 8 ∷ Some 14 ∷ Some 25 ∷ Some 28 ∷ Some 31 ∷ Some 33 ∷ Some 34 ∷ Some 37 ∷ Some 38 ∷ Some 47 ∷ Some 48 ∷ Some 49 ∷ Some 50 ∷ Some 54 ∷ Some 55 ∷ Some 56 ∷ Some 57 ∷ Some 58 ∷ Some 59 ∷ Some 60 ∷ Some 61 ∷ Some 62 ∷ Some 63 ∷ Some 64 ∷ Some 65 ∷ Some 66 ∷ Some 75 ∷ Some 76 ∷ Some 77 ∷ Some 79 ∷ Some 80 ∷ Some 82 ∷ Some 84 ∷ Some 86 ∷ Some 87 ∷ Some 88 ∷ Some 90 ∷ Some 91 ∷ []
follow Product = Some 8 ∷ Some 14 ∷ Some 25 ∷ Some 28 ∷ Some 31 ∷ Some 33 ∷ Some 34 ∷ Some 37 ∷ Some 38 ∷ Some 47 ∷ Some 48 ∷ Some 49 ∷ Some 50 ∷ Some 54 ∷ Some 55 ∷ Some 56 ∷ Some 57 ∷ Some 58 ∷ Some 59 ∷ Some 60 ∷ Some 61 ∷ Some 62 ∷ Some 63 ∷ Some 64 ∷ Some 65 ∷ Some 66 ∷ Some 71 ∷ Some 72 ∷ Some 75 ∷ Some 76 ∷ Some 77 ∷ Some 79 ∷ Some 80 ∷ Some 82 ∷ Some 84 ∷ Some 86 ∷ Some 87 ∷ Some 88 ∷ Some 90 ∷ Some 91 ∷ []
follow ProductTail = Some 8 ∷ Some 14 ∷ Some 25 ∷ Some 28 ∷ Some 31 ∷ Some 33 ∷ Some 34 ∷ Some 37 ∷ Some 38 ∷ Some 47 ∷ Some 48 ∷ Some 49 ∷ Some 50 ∷ Some 54 ∷ Some 55 ∷ Some 56 ∷ Some 57 ∷ Some 58 ∷ Some 59 ∷ Some 60 ∷ Some 61 ∷ Some 62 ∷ Some 63 ∷ Some 64 ∷ Some 65 ∷ Some 66 ∷ Some 71 ∷ Some 72 ∷ Some 75 ∷ Some 76 ∷ Some 77 ∷ Some 79 ∷ Some 80 ∷ Some 82 ∷ Some 84 ∷ Some 86 ∷ Some 87 ∷ Some 88 ∷ Some 90 ∷ Some 91 ∷ []
follow Factor = Some 8 ∷ Some 14 ∷ Some 25 ∷ Some 28 ∷ Some 31 ∷ Some 33 ∷ Some 34 ∷ Some 37 ∷ Some 38 ∷ Some 47 ∷ Some 48 ∷ Some 49 ∷ Some 50 ∷ Some 52 ∷ Some 54 ∷ Some 55 ∷ Some 56 ∷ Some 57 ∷ Some 58 ∷ Some 59 ∷ Some 60 ∷ Some 61 ∷ Some 62 ∷ Some 63 ∷ Some 64 ∷ Some 65 ∷ Some 66 ∷ Some 71 ∷ Some 72 ∷ Some 73 ∷ Some 74 ∷ Some 75 ∷ Some 76 ∷ Some 77 ∷ Some 79 ∷ Some 80 ∷ Some 82 ∷ Some 84 ∷ Some 86 ∷ Some 87 ∷ Some 88 ∷ Some 90 ∷ Some 91 ∷ []
follow PowerExpr = Some 8 ∷ Some 14 ∷ Some 25 ∷ Some 28 ∷ Some 31 ∷ Some 33 ∷ Some 34 ∷ Some 37 ∷ Some 38 ∷ Some 47 ∷ Some 48 ∷ Some 49 ∷ Some 50 ∷ Some 52 ∷ Some 54 ∷ Some 55 ∷ Some 56 ∷ Some 57 ∷ Some 58 ∷ Some 59 ∷ Some 60 ∷ Some 61 ∷ Some 62 ∷ Some 63 ∷ Some 64 ∷ Some 65 ∷ Some 66 ∷ Some 71 ∷ Some 72 ∷ Some 73 ∷ Some 74 ∷ Some 75 ∷ Some 76 ∷ Some 77 ∷ Some 79 ∷ Some 80 ∷ Some 82 ∷ Some 84 ∷ Some 86 ∷ Some 87 ∷ Some 88 ∷ Some 90 ∷ Some 91 ∷ []
follow PowerTail = Some 8 ∷ Some 14 ∷ Some 25 ∷ Some 28 ∷ Some 31 ∷ Some 33 ∷ Some 34 ∷ Some 37 ∷ Some 38 ∷ Some 47 ∷ Some 48 ∷ Some 49 ∷ Some 50 ∷ Some 52 ∷ Some 54 ∷ Some 55 ∷ Some 56 ∷ Some 57 ∷ Some 58 ∷ Some 59 ∷ Some 60 ∷ Some 61 ∷ Some 62 ∷ Some 63 ∷ Some 64 ∷ Some 65 ∷ Some 66 ∷ Some 71 ∷ Some 72 ∷ Some 73 ∷ Some 74 ∷ Some 75 ∷ Some 76 ∷ Some 77 ∷ Some 79 ∷ Some 80 ∷ Some 82 ∷ Some 84 ∷ Some 86 ∷ Some 87 ∷ Some 88 ∷ Some 90 ∷ Some 91 ∷ []
follow Primary = Some 8 ∷ Some 14 ∷ Some 25 ∷ Some 28 ∷ Some 31 ∷ Some 33 ∷ Some 34 ∷ Some 37 ∷ Some 38 ∷ Some 47 ∷ Some 48 ∷ Some 49 ∷ Some 50 ∷ Some 52 ∷ Some 53 ∷ Some 54 ∷ Some 55 ∷ Some 56 ∷ Some 57 ∷ Some 58 ∷ Some 59 ∷ Some 60 ∷ Some 61 ∷ Some 62 ∷ Some 63 ∷ Some 64 ∷ Some 65 ∷ Some 66 ∷ Some 71 ∷ Some 72 ∷ Some 73 ∷ Some 74 ∷ Some 75 ∷ Some 76 ∷ Some 77 ∷ Some 79 ∷ Some 80 ∷ Some 82 ∷ Some 84 ∷ Some 86 ∷ Some 87 ∷ Some 88 ∷ Some 90 ∷ Some 91 ∷ []
follow PrimaryTail = Some 8 ∷ Some 14 ∷ Some 25 ∷ Some 28 ∷ Some 31 ∷ Some 33 ∷ Some 34 ∷ Some 37 ∷ Some 38 ∷ Some 47 ∷ Some 48 ∷ Some 49 ∷ Some 50 ∷ Some 52 ∷ Some 53 ∷ Some 54 ∷ Some 55 ∷ Some 56 ∷ Some 57 ∷ Some 58 ∷ Some 59 ∷ Some 60 ∷ Some 61 ∷ Some 62 ∷ Some 63 ∷ Some 64 ∷ Some 65 ∷ Some 66 ∷ Some 71 ∷ Some 72 ∷ Some 73 ∷ Some 74 ∷ Some 75 ∷ Some 76 ∷ Some 77 ∷ Some 79 ∷ Some 80 ∷ Some 82 ∷ Some 84 ∷ Some 86 ∷ Some 87 ∷ Some 88 ∷ Some 90 ∷ Some 91 ∷ []
follow AttributeTail = Some 8 ∷ Some 14 ∷ Some 25 ∷ Some 28 ∷ Some 31 ∷ Some 33 ∷ Some 34 ∷ Some 37 ∷ Some 38 ∷ Some 47 ∷ Some 48 ∷ Some 49 ∷ Some 50 ∷ Some 52 ∷ Some 53 ∷ Some 54 ∷ Some 55 ∷ Some 56 ∷ Some 57 ∷ Some 58 ∷ Some 59 ∷ Some 60 ∷ Some 61 ∷ Some 62 ∷ Some 63 ∷ Some 64 ∷ Some 65 ∷ Some 66 ∷ Some 71 ∷ Some 72 ∷ Some 73 ∷ Some 74 ∷ Some 75 ∷ Some 76 ∷ Some 77 ∷ Some 79 ∷ Some 80 ∷ Some 82 ∷ Some 84 ∷ Some 86 ∷ Some 87 ∷ Some 88 ∷ Some 90 ∷ Some 91 ∷ []
follow Subscription = Some 8 ∷ Some 14 ∷ Some 25 ∷ Some 28 ∷ Some 31 ∷ Some 33 ∷ Some 34 ∷ Some 37 ∷ Some 38 ∷ Some 47 ∷ Some 48 ∷ Some 49 ∷ Some 50 ∷ Some 52 ∷ Some 53 ∷ Some 54 ∷ Some 55 ∷ Some 56 ∷ Some 57 ∷ Some 58 ∷ Some 59 ∷ Some 60 ∷ Some 61 ∷ Some 62 ∷ Some 63 ∷ Some 64 ∷ Some 65 ∷ Some 66 ∷ Some 71 ∷ Some 72 ∷ Some 73 ∷ Some 74 ∷ Some 75 ∷ Some 76 ∷ Some 77 ∷ Some 79 ∷ Some 80 ∷ Some 81 ∷ Some 82 ∷ Some 83 ∷ Some 84 ∷ Some 86 ∷ Some 87 ∷ Some 88 ∷ Some 89 ∷ Some 90 ∷ Some 91 ∷ []
follow SubscriptionTail = Some 8 ∷ Some 14 ∷ Some 25 ∷ Some 28 ∷ Some 31 ∷ Some 33 ∷ Some 34 ∷ Some 37 ∷ Some 38 ∷ Some 47 ∷ Some 48 ∷ Some 49 ∷ Some 50 ∷ Some 52 ∷ Some 53 ∷ Some 54 ∷ Some 55 ∷ Some 56 ∷ Some 57 ∷ Some 58 ∷ Some 59 ∷ Some 60 ∷ Some 61 ∷ Some 62 ∷ Some 63 ∷ Some 64 ∷ Some 65 ∷ Some 66 ∷ Some 71 ∷ Some 72 ∷ Some 73 ∷ Some 74 ∷ Some 75 ∷ Some 76 ∷ Some 77 ∷ Some 79 ∷ Some 80 ∷ Some 81 ∷ Some 82 ∷ Some 83 ∷ Some 84 ∷ Some 86 ∷ Some 87 ∷ Some 88 ∷ Some 89 ∷ Some 90 ∷ Some 91 ∷ []
follow Upper = Some 8 ∷ Some 14 ∷ Some 25 ∷ Some 28 ∷ Some 31 ∷ Some 33 ∷ Some 34 ∷ Some 37 ∷ Some 38 ∷ Some 47 ∷ Some 48 ∷ Some 49 ∷ Some 50 ∷ Some 52 ∷ Some 53 ∷ Some 54 ∷ Some 55 ∷ Some 56 ∷ Some 57 ∷ Some 58 ∷ Some 59 ∷ Some 60 ∷ Some 61 ∷ Some 62 ∷ Some 63 ∷ Some 64 ∷ Some 65 ∷ Some 66 ∷ Some 71 ∷ Some 72 ∷ Some 73 ∷ Some 74 ∷ Some 75 ∷ Some 76 ∷ Some 77 ∷ Some 79 ∷ Some 80 ∷ Some 81 ∷ Some 82 ∷ Some 83 ∷ Some 84 ∷ Some 86 ∷ Some 87 ∷ Some 88 ∷ Some 89 ∷ Some 90 ∷ Some 91 ∷ []
follow Arguments = Some 82 ∷ []
follow ArgumentTail = Some 82 ∷ []
follow KeywordNext = Some 82 ∷ []
follow KeywordMore = Some 82 ∷ []
follow PlainArguments = Some 82 ∷ []
follow PlainArgumentTail = Some 82 ∷ []
follow Atom = Some 8 ∷ Some 14 ∷ Some 25 ∷ Some 28 ∷ Some 31 ∷ Some 33 ∷ Some 34 ∷ Some 37 ∷ Some 38 ∷ Some 47 ∷ Some 48 ∷ Some 49 ∷ Some 50 ∷ Some 52 ∷ Some 53 ∷ Some 54 ∷ Some 55 ∷ Some 56 ∷ Some 57 ∷ Some 58 ∷ Some 59 ∷ Some 60 ∷ Some 61 ∷ Some 62 ∷ Some 63 ∷ Some 64 ∷ Some 65 ∷ Some 66 ∷ Some 71 ∷ Some 72 ∷ Some 73 ∷ Some 74 ∷ Some 75 ∷ Some 76 ∷ Some 77 ∷ Some 79 ∷ Some 80 ∷ Some 81 ∷ Some 82 ∷ Some 83 ∷ Some 84 ∷ Some 86 ∷ Some 87 ∷ Some 88 ∷ Some 89 ∷ Some 90 ∷ Some 91 ∷ []
follow Parenthesised = Some 8 ∷ Some 14 ∷ Some 25 ∷ Some 28 ∷ Some 31 ∷ Some 33 ∷ Some 34 ∷ Some 37 ∷ Some 38 ∷ Some 47 ∷ Some 48 ∷ Some 49 ∷ Some 50 ∷ Some 52 ∷ Some 53 ∷ Some 54 ∷ Some 55 ∷ Some 56 ∷ Some 57 ∷ Some 58 ∷ Some 59 ∷ Some 60 ∷ Some 61 ∷ Some 62 ∷ Some 63 ∷ Some 64 ∷ Some 65 ∷ Some 66 ∷ Some 71 ∷ Some 72 ∷ Some 73 ∷ Some 74 ∷ Some 75 ∷ Some 76 ∷ Some 77 ∷ Some 79 ∷ Some 80 ∷ Some 81 ∷ Some 82 ∷ Some 83 ∷ Some 84 ∷ Some 86 ∷ Some 87 ∷ Some 88 ∷ Some 89 ∷ Some 90 ∷ Some 91 ∷ []
follow ParenthesisedTail = Some 8 ∷ Some 14 ∷ Some 25 ∷ Some 28 ∷ Some 31 ∷ Some 33 ∷ Some 34 ∷ Some 37 ∷ Some 38 ∷ Some 47 ∷ Some 48 ∷ Some 49 ∷ Some 50 ∷ Some 52 ∷ Some 53 ∷ Some 54 ∷ Some 55 ∷ Some 56 ∷ Some 57 ∷ Some 58 ∷ Some 59 ∷ Some 60 ∷ Some 61 ∷ Some 62 ∷ Some 63 ∷ Some 64 ∷ Some 65 ∷ Some 66 ∷ Some 71 ∷ Some 72 ∷ Some 73 ∷ Some 74 ∷ Some 75 ∷ Some 76 ∷ Some 77 ∷ Some 79 ∷ Some 80 ∷ Some 81 ∷ Some 82 ∷ Some 83 ∷ Some 84 ∷ Some 86 ∷ Some 87 ∷ Some 88 ∷ Some 89 ∷ Some 90 ∷ Some 91 ∷ []
follow Bracketed = Some 8 ∷ Some 14 ∷ Some 25 ∷ Some 28 ∷ Some 31 ∷ Some 33 ∷ Some 34 ∷ Some 37 ∷ Some 38 ∷ Some 47 ∷ Some 48 ∷ Some 49 ∷ Some 50 ∷ Some 52 ∷ Some 53 ∷ Some 54 ∷ Some 55 ∷ Some 56 ∷ Some 57 ∷ Some 58 ∷ Some 59 ∷ Some 60 ∷ Some 61 ∷ Some 62 ∷ Some 63 ∷ Some 64 ∷ Some 65 ∷ Some 66 ∷ Some 71 ∷ Some 72 ∷ Some 73 ∷ Some 74 ∷ Some 75 ∷ Some 76 ∷ Some 77 ∷ Some 79 ∷ Some 80 ∷ Some 81 ∷ Some 82 ∷ Some 83 ∷ Some 84 ∷ Some 86 ∷ Some 87 ∷ Some 88 ∷ Some 89 ∷ Some 90 ∷ Some 91 ∷ []
follow BracketedTail = Some 8 ∷ Some 14 ∷ Some 25 ∷ Some 28 ∷ Some 31 ∷ Some 33 ∷ Some 34 ∷ Some 37 ∷ Some 38 ∷ Some 47 ∷ Some 48 ∷ Some 49 ∷ Some 50 ∷ Some 52 ∷ Some 53 ∷ Some 54 ∷ Some 55 ∷ Some 56 ∷ Some 57 ∷ Some 58 ∷ Some 59 ∷ Some 60 ∷ Some 61 ∷ Some 62 ∷ Some 63 ∷ Some 64 ∷ Some 65 ∷ Some 66 ∷ Some 71 ∷ Some 72 ∷ Some 73 ∷ Some 74 ∷ Some 75 ∷ Some 76 ∷ Some 77 ∷ Some 79 ∷ Some 80 ∷ Some 81 ∷ Some 82 ∷ Some 83 ∷ Some 84 ∷ Some 86 ∷ Some 87 ∷ Some 88 ∷ Some 89 ∷ Some 90 ∷ Some 91 ∷ []
follow Braced = Some 8 ∷ Some 14 ∷ Some 25 ∷ Some 28 ∷ Some 31 ∷ Some 33 ∷ Some 34 ∷ Some 37 ∷ Some 38 ∷ Some 47 ∷ Some 48 ∷ Some 49 ∷ Some 50 ∷ Some 52 ∷ Some 53 ∷ Some 54 ∷ Some 55 ∷ Some 56 ∷ Some 57 ∷ Some 58 ∷ Some 59 ∷ Some 60 ∷ Some 61 ∷ Some 62 ∷ Some 63 ∷ Some 64 ∷ Some 65 ∷ Some 66 ∷ Some 71 ∷ Some 72 ∷ Some 73 ∷ Some 74 ∷ Some 75 ∷ Some 76 ∷ Some 77 ∷ Some 79 ∷ Some 80 ∷ Some 81 ∷ Some 82 ∷ Some 83 ∷ Some 84 ∷ Some 86 ∷ Some 87 ∷ Some 88 ∷ Some 89 ∷ Some 90 ∷ Some 91 ∷ []
follow BracedTail = Some 8 ∷ Some 14 ∷ Some 25 ∷ Some 28 ∷ Some 31 ∷ Some 33 ∷ Some 34 ∷ Some 37 ∷ Some 38 ∷ Some 47 ∷ Some 48 ∷ Some 49 ∷ Some 50 ∷ Some 52 ∷ Some 53 ∷ Some 54 ∷ Some 55 ∷ Some 56 ∷ Some 57 ∷ Some 58 ∷ Some 59 ∷ Some 60 ∷ Some 61 ∷ Some 62 ∷ Some 63 ∷ Some 64 ∷ Some 65 ∷ Some 66 ∷ Some 71 ∷ Some 72 ∷ Some 73 ∷ Some 74 ∷ Some 75 ∷ Some 76 ∷ Some 77 ∷ Some 79 ∷ Some 80 ∷ Some 81 ∷ Some 82 ∷ Some 83 ∷ Some 84 ∷ Some 86 ∷ Some 87 ∷ Some 88 ∷ Some 89 ∷ Some 90 ∷ Some 91 ∷ []
follow PairNext = Some 86 ∷ []
follow PairMore = Some 86 ∷ []
follow Comprehension = Some 28 ∷ Some 84 ∷ []
follow Conditions = Some 28 ∷ Some 84 ∷ []
follow Comprehensions = Some 84 ∷ []
follow AnyName = Some 8 ∷ Some 14 ∷ Some 15 ∷ Some 25 ∷ Some 28 ∷ Some 31 ∷ Some 33 ∷ Some 34 ∷ Some 37 ∷ Some 38 ∷ Some 47 ∷ Some 48 ∷ Some 49 ∷ Some 50 ∷ Some 52 ∷ Some 53 ∷ Some 54 ∷ Some 55 ∷ Some 56 ∷ Some 57 ∷ Some 58 ∷ Some 59 ∷ Some 60 ∷ Some 61 ∷ Some 62 ∷ Some 63 ∷ Some 64 ∷ Some 65 ∷ Some 66 ∷ Some 71 ∷ Some 72 ∷ Some 73 ∷ Some 74 ∷ Some 75 ∷ Some 76 ∷ Some 77 ∷ Some 79 ∷ Some 80 ∷ Some 81 ∷ Some 82 ∷ Some 83 ∷ Some 84 ∷ Some 86 ∷ Some 87 ∷ Some 88 ∷ Some 89 ∷ Some 90 ∷ Some 91 ∷ []

-- how far each is from an exit: a name for an expression, and nothing for a tail
abbrev pub rank : Nonterminal → ℕ
rank Module = 0
rank TopStatement = 2
rank Statements = 0
rank Statement = 2
rank Compound = 4
rank Otherwise = 0
rank Suite = 2
rank Handler = 3
rank HandlerAlias = 3
rank MoreHandlers = 0
rank QualifiedName = 1
rank QualifiedNameTail = 0
rank Definition = 3
rank ParameterList = 0
rank ParameterNext = 0
rank ParameterItem = 1
rank ParameterDefault = 0
rank ClassDefinition = 2
rank ClassBase = 0
rank BaseList = 0
rank ClassSuite = 1
rank Member = 1
rank Members = 0
rank Brief = 0
rank ImportStatement = 2
rank ImportItem = 1
rank ImportAlias = 0
rank ImportNext = 0
rank FromItem = 1
rank FromNext = 0
rank Line = 1
rank LineTail = 0
rank LineMore = 0
rank Small = 0
rank SmallTail = 0
rank AssignTail = 0
rank Returned = 0
rank GlobalNext = 0
rank AssertMessage = 0
rank DeletedTail = 16
rank DeletedAttribute = 16
rank DeletedEnd = 0
rank DeletedSubscript = 15
rank DeletedSubscriptTail = 1
rank Binding = 1
rank BindingTail = 0
rank BindingMore = 0
rank BindingNext = 0
rank ExpressionList = 15
rank ExpressionListTail = 0
rank ItemMore = 0
rank ItemNext = 0
rank Expression = 14
rank ExpressionTail = 0
rank OrTest = 13
rank OrTail = 0
rank OrMore = 0
rank AndTest = 12
rank AndTail = 0
rank AndMore = 0
rank NotTest = 11
rank Comparison = 10
rank ComparisonTail = 0
rank ComparisonMore = 0
rank ComparisonSign = 0
rank IsTail = 0
rank OrExpr = 9
rank OrExprTail = 0
rank XorExpr = 8
rank XorExprTail = 0
rank AndExpr = 7
rank AndExprTail = 0
rank ShiftExpr = 6
rank ShiftTail = 0
rank Sum = 5
rank SumTail = 0
rank Product = 4
rank ProductTail = 0
rank Factor = 3
rank PowerExpr = 2
rank PowerTail = 0
rank Primary = 1
rank PrimaryTail = 0
rank AttributeTail = 0
rank Subscription = 1
rank SubscriptionTail = 0
rank Upper = 0
rank Arguments = 0
rank ArgumentTail = 0
rank KeywordNext = 0
rank KeywordMore = 0
rank PlainArguments = 0
rank PlainArgumentTail = 0
rank Atom = 0
rank Parenthesised = 0
rank ParenthesisedTail = 0
rank Bracketed = 0
rank BracketedTail = 0
rank Braced = 0
rank BracedTail = 0
rank PairNext = 0
rank PairMore = 0
rank Comprehension = 14
rank Conditions = 0
rank Comprehensions = 0
rank AnyName = 0

abbrev pub sets : Sets Nonterminal Token
sets = record { nullable = nullable; first = first; follow = follow; rank = rank; specimen = specimen }
