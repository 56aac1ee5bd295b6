-- What an action asks of each part that it takes, by what is asked of the part that it leaves.
use Rattle.std.specs.Prelude.{ℕ, List, [], ◌∷◌, ◌++◌, map, Option, Some, None}
use Rattle.py_syntax.specs.Build.{Action, Drop, MakeLeaf, MakeTrue, MakeFalse, MakeNone, MakeEmptyTuple, MakeParenthesis, MakeTuple, AddItem, MakeEmptyList, MakeListOfOne, MakeList, BeginComprehension, BeginLoop, AddCondition, AddLoop, MakeEmptyDict, BeginDict, AddPair, MakeSetOfOne, MakeSet, MakeAttribute, BeginCall, AddArgument, AddKeyword, MakeSubscript, MakeSliceFrom, MakeSlice, AddUpper, MakeUnary, MakeBinary, MakeSign, MakeLongSign, MakeCompare, AddLink, MakeNot, MakeAnd, AddAnd, MakeOr, AddOr, MakeConditional, MakeLoopName, MakeLoopNames, AddLoopName, MakeLoopParenthesis, BeginBody, AddStmt, MakeExprStmt, MakeTargets, AddTargets, MakeAssign, MakeAugmented, MakePass, MakeBreak, MakeContinue, MakeReturn, MakeReturnValue, MakeRaise, MakeYield, BeginGlobal, AddGlobal, MakeAssert, MakeAssertMessage, MakeDelete, MakeIf, MakeElif, MakeElse, MakeWhile, MakeFor, BeginTry, CatchAll, Catch, CatchAs, MakeClassName, MakeClassWithin, BeginDef, AddParameter, AddDefault, EndDef, BeginClass, AddBase, EndClass, BeginImport, BeginFrom, AddImported, AddImportedAs}
use Rattle.py_nesting.specs.Outlines.{Label, Plain, Bracket, Tuple}
use Rattle.py_nesting.specs.Walk.{Demand, Nothing, Whole, below, within, loosened, unassigned, comes}

pub data Change : Type 0 where
  -- below a node
  Below : (label : Label) → Change
  -- below no node
  Apart : Change
  -- the topmost node is none any more
  Loose : Change
  -- among targets, below no node
  Turned : Change

pub data Role : Type 0 where
  -- nothing is asked of it
  Lost : Role
  -- a token at which the node stands
  Head : (label : Label) → (changes : List Change) → Role
  -- what is asked, changed one after another
  Through : (changes : List Change) → Role

abbrev pub Kept : Role
Kept = Through []

abbrev pub changed : Change → Demand → Demand
changed (Below l) d = below l d
changed Apart d = within d
changed Loose d = loosened d
changed Turned d = unassigned (within d)

abbrev pub all_changed : List Change → Demand → Demand
all_changed [] d = d
all_changed (c ∷ changes) d = all_changed changes (changed c d)

-- the node that stands at a token, as if the token were its outline
abbrev pub at_token : Option ℕ → Demand
at_token None = Nothing
at_token (Some n) = Whole n

abbrev pub asked_by : Demand → Role → Demand
asked_by d Lost = Nothing
asked_by d (Head l changes) = at_token (comes l (all_changed changes d))
asked_by d (Through changes) = all_changed changes d

abbrev pub roles : Action → List Role
roles Drop = Lost ∷ []
roles MakeLeaf = Head Plain [] ∷ []
roles MakeTrue = Head Plain [] ∷ []
roles MakeFalse = Head Plain [] ∷ []
roles MakeNone = Head Plain [] ∷ []
roles MakeEmptyTuple = Lost ∷ Head Plain [] ∷ []
roles MakeParenthesis = Lost ∷ Through (Below Bracket ∷ []) ∷ Head Bracket [] ∷ []
roles MakeTuple = Head Tuple [] ∷ Through (Below Tuple ∷ []) ∷ []
roles AddItem = Through (Below Tuple ∷ []) ∷ Kept ∷ []
roles MakeEmptyList = Lost ∷ Head Bracket [] ∷ []
roles MakeListOfOne = Lost ∷ Through (Below Bracket ∷ []) ∷ Head Bracket [] ∷ []
roles MakeList = Lost ∷ Through (Below Bracket ∷ Loose ∷ []) ∷ Head Bracket [] ∷ []
roles BeginComprehension = Through (Below Plain ∷ []) ∷ Head Plain [] ∷ []
roles BeginLoop = Through (Apart ∷ []) ∷ Lost ∷ Through (Apart ∷ []) ∷ Lost ∷ []
roles AddCondition = Through (Apart ∷ []) ∷ Lost ∷ Kept ∷ []
roles AddLoop = Through (Below Plain ∷ []) ∷ Kept ∷ []
roles MakeEmptyDict = Lost ∷ Head Plain [] ∷ []
roles BeginDict = Through (Below Plain ∷ Apart ∷ []) ∷ Lost ∷ Through (Below Plain ∷ Apart ∷ []) ∷ Head Plain [] ∷ []
roles AddPair = Through (Below Plain ∷ Apart ∷ []) ∷ Lost ∷ Through (Below Plain ∷ Apart ∷ []) ∷ Kept ∷ []
roles MakeSetOfOne = Lost ∷ Through (Below Plain ∷ Apart ∷ []) ∷ Head Plain [] ∷ []
roles MakeSet = Lost ∷ Through (Below Plain ∷ Loose ∷ []) ∷ Head Plain [] ∷ []
roles MakeAttribute = Lost ∷ Head Plain [] ∷ Through (Below Plain ∷ []) ∷ []
roles BeginCall = Head Plain [] ∷ Through (Below Plain ∷ []) ∷ []
roles AddArgument = Through (Below Plain ∷ []) ∷ Kept ∷ []
roles AddKeyword = Through (Below Plain ∷ []) ∷ Lost ∷ Lost ∷ Kept ∷ []
roles MakeSubscript = Lost ∷ Through (Below Plain ∷ []) ∷ Head Plain [] ∷ Through (Below Plain ∷ []) ∷ []
roles MakeSliceFrom = Lost ∷ Through (Below Plain ∷ []) ∷ Head Plain [] ∷ Through (Below Plain ∷ []) ∷ []
roles MakeSlice = Lost ∷ Head Plain [] ∷ Through (Below Plain ∷ []) ∷ []
roles AddUpper = Lost ∷ Through (Below Plain ∷ []) ∷ Kept ∷ []
roles (MakeUnary o) = Through (Below Plain ∷ []) ∷ Head Plain [] ∷ []
roles (MakeBinary o) = Through (Below Plain ∷ []) ∷ Head Plain [] ∷ Through (Below Plain ∷ []) ∷ []
roles (MakeSign o) = Kept ∷ []
roles (MakeLongSign o) = Lost ∷ Kept ∷ []
roles MakeCompare = Through (Below Plain ∷ []) ∷ Head Plain [] ∷ Through (Below Plain ∷ []) ∷ []
roles AddLink = Through (Below Plain ∷ []) ∷ Lost ∷ Kept ∷ []
roles MakeNot = Through (Below Plain ∷ []) ∷ Head Plain [] ∷ []
roles MakeAnd = Through (Below Plain ∷ []) ∷ Head Plain [] ∷ Through (Below Plain ∷ []) ∷ []
roles AddAnd = Through (Below Plain ∷ []) ∷ Lost ∷ Kept ∷ []
roles MakeOr = Through (Below Plain ∷ []) ∷ Head Plain [] ∷ Through (Below Plain ∷ []) ∷ []
roles AddOr = Through (Below Plain ∷ []) ∷ Lost ∷ Kept ∷ []
roles MakeConditional = Through (Below Plain ∷ []) ∷ Lost ∷ Through (Below Plain ∷ []) ∷ Head Plain [] ∷ Through (Below Plain ∷ []) ∷ []
roles MakeLoopName = Head Plain [] ∷ []
roles MakeLoopNames = Lost ∷ Through (Apart ∷ []) ∷ []
roles AddLoopName = Head Plain (Apart ∷ []) ∷ Kept ∷ []
roles MakeLoopParenthesis = Lost ∷ Through (Below Plain ∷ []) ∷ Head Plain [] ∷ []
roles BeginBody = []
roles AddStmt = Through (Apart ∷ []) ∷ Kept ∷ []
roles MakeExprStmt = Through (Below Plain ∷ []) ∷ []
roles MakeTargets = Lost ∷ Through (Turned ∷ []) ∷ []
roles AddTargets = Lost ∷ Through (Turned ∷ []) ∷ Kept ∷ []
roles MakeAssign = Through (Below Plain ∷ []) ∷ Through (Below Plain ∷ []) ∷ []
roles (MakeAugmented o) = Through (Below Plain ∷ []) ∷ Lost ∷ Through (Below Plain ∷ []) ∷ []
roles MakePass = Head Plain [] ∷ []
roles MakeBreak = Head Plain [] ∷ []
roles MakeContinue = Head Plain [] ∷ []
roles MakeReturn = Head Plain [] ∷ []
roles MakeReturnValue = Through (Below Plain ∷ []) ∷ Head Plain [] ∷ []
roles MakeRaise = Through (Below Plain ∷ []) ∷ Head Plain [] ∷ []
roles MakeYield = Through (Below Plain ∷ []) ∷ Head Plain [] ∷ []
roles BeginGlobal = Head Plain [] ∷ []
roles AddGlobal = Lost ∷ Kept ∷ []
roles MakeAssert = Through (Below Plain ∷ []) ∷ Head Plain [] ∷ []
roles MakeAssertMessage = Through (Below Plain ∷ []) ∷ Lost ∷ Through (Below Plain ∷ []) ∷ Head Plain [] ∷ []
roles MakeDelete = Through (Below Plain ∷ []) ∷ Head Plain [] ∷ []
roles MakeIf = Through (Below Plain ∷ []) ∷ Through (Below Plain ∷ []) ∷ Lost ∷ Through (Below Plain ∷ []) ∷ Head Plain [] ∷ []
roles MakeElif = Through (Apart ∷ Below Plain ∷ []) ∷ Through (Apart ∷ Below Plain ∷ []) ∷ Lost ∷ Through (Apart ∷ Below Plain ∷ []) ∷ Head Plain (Apart ∷ []) ∷ []
roles MakeElse = Kept ∷ Lost ∷ Lost ∷ []
roles MakeWhile = Through (Below Plain ∷ []) ∷ Lost ∷ Through (Below Plain ∷ []) ∷ Head Plain [] ∷ []
roles MakeFor = Through (Below Plain ∷ []) ∷ Lost ∷ Through (Below Plain ∷ []) ∷ Lost ∷ Through (Below Plain ∷ []) ∷ Head Plain [] ∷ []
roles BeginTry = Through (Below Plain ∷ []) ∷ Lost ∷ Head Plain [] ∷ []
roles CatchAll = Through (Below Plain ∷ []) ∷ Lost ∷ Lost ∷ Kept ∷ []
roles Catch = Through (Below Plain ∷ []) ∷ Lost ∷ Lost ∷ Lost ∷ Kept ∷ []
roles CatchAs = Through (Below Plain ∷ []) ∷ Lost ∷ Lost ∷ Lost ∷ Lost ∷ Lost ∷ Kept ∷ []
roles MakeClassName = Lost ∷ []
roles MakeClassWithin = Lost ∷ Lost ∷ Lost ∷ []
roles BeginDef = Lost ∷ Lost ∷ Head Plain [] ∷ []
roles AddParameter = Lost ∷ Kept ∷ []
roles AddDefault = Through (Below Plain ∷ []) ∷ Lost ∷ Lost ∷ Kept ∷ []
roles EndDef = Through (Below Plain ∷ []) ∷ Lost ∷ Lost ∷ Kept ∷ []
roles BeginClass = Lost ∷ Head Plain [] ∷ []
roles AddBase = Lost ∷ Lost ∷ Lost ∷ Kept ∷ []
roles EndClass = Through (Below Plain ∷ []) ∷ Lost ∷ Kept ∷ []
roles BeginImport = Head Plain [] ∷ []
roles BeginFrom = Lost ∷ Lost ∷ Head Plain [] ∷ []
roles AddImported = Lost ∷ Kept ∷ []
roles AddImportedAs = Lost ∷ Lost ∷ Lost ∷ Kept ∷ []

-- what is asked of the parts before an action
abbrev pub asked_before : Action → List Demand → List Demand
asked_before Drop ds = Nothing ∷ ds
asked_before a [] = []
asked_before a (d ∷ ds) = map (asked_by d) (roles a) ++ ds
