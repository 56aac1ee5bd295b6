-- Constructs of Python that the profile leaves out and that are told by name. They stand in the order in which they are named where
-- several have one head.
use Rattle.std.specs.Prelude.{ℕ, List, [], ◌∷◌, codes}

pub data Construct : Type 0 where
  -- a number with a point or an exponent
  Float : Construct
  -- a number with a `j` behind it
  Imaginary : Construct
  -- a literal of bytes
  Bytes : Construct
  -- a formatted text
  FormattedText : Construct
  -- `/` and `/=`
  Division : Construct
  -- `@` and `@=` between operands
  MatrixProduct : Construct
  Decorator : Construct
  Lambda : Construct
  -- a function in a block
  NestedDefinition : Construct
  -- a class in a block or in a class
  NestedClass : Construct
  StarParameter : Construct
  StarArgument : Construct
  -- an argument by name in a call of a method
  MethodKeyword : Construct
  Annotation : Construct
  -- an assignment in a class
  ClassAttribute : Construct
  SeveralBases : Construct
  ClassKeyword : Construct
  SliceStep : Construct
  -- a slice that is assigned to or deleted
  SliceTarget : Construct
  LoopElse : Construct
  TryElse : Construct
  Finally : Construct
  With : Construct
  Async : Construct
  Await : Construct
  Nonlocal : Construct
  YieldExpression : Construct
  YieldFrom : Construct
  GeneratorExpression : Construct
  SetComprehension : Construct
  DictComprehension : Construct
  -- an assignment expression
  Walrus : Construct
  StarImport : Construct
  RelativeImport : Construct
  DottedImport : Construct
  -- an import in a block or in a class
  NestedImport : Construct
  NonasciiModule : Construct
  BareRaise : Construct
  RaiseFrom : Construct
  ExceptTuple : Construct
  DeleteName : Construct
  -- brackets as one of several targets
  NestedTarget : Construct
  StarredTarget : Construct
  -- `...`
  Ellipsis : Construct

abbrev pub construct_text : Construct → List ℕ
construct_text Float = codes "float"
construct_text Imaginary = codes "imaginary"
construct_text Bytes = codes "bytes"
construct_text FormattedText = codes "fstring"
construct_text Division = codes "division"
construct_text MatrixProduct = codes "matmul"
construct_text Decorator = codes "decorator"
construct_text Lambda = codes "lambda"
construct_text NestedDefinition = codes "nested-def"
construct_text NestedClass = codes "nested-class"
construct_text StarParameter = codes "star-parameter"
construct_text StarArgument = codes "star-argument"
construct_text MethodKeyword = codes "method-keyword"
construct_text Annotation = codes "annotation"
construct_text ClassAttribute = codes "class-attribute"
construct_text SeveralBases = codes "several-bases"
construct_text ClassKeyword = codes "class-keyword"
construct_text SliceStep = codes "slice-step"
construct_text SliceTarget = codes "slice-target"
construct_text LoopElse = codes "loop-else"
construct_text TryElse = codes "try-else"
construct_text Finally = codes "finally"
construct_text With = codes "with"
construct_text Async = codes "async"
construct_text Await = codes "await"
construct_text Nonlocal = codes "nonlocal"
construct_text YieldExpression = codes "yield-expression"
construct_text YieldFrom = codes "yield-from"
construct_text GeneratorExpression = codes "generator-expression"
construct_text SetComprehension = codes "set-comprehension"
construct_text DictComprehension = codes "dict-comprehension"
construct_text Walrus = codes "walrus"
construct_text StarImport = codes "star-import"
construct_text RelativeImport = codes "relative-import"
construct_text DottedImport = codes "dotted-import"
construct_text NestedImport = codes "nested-import"
construct_text NonasciiModule = codes "nonascii-module"
construct_text BareRaise = codes "bare-raise"
construct_text RaiseFrom = codes "raise-from"
construct_text ExceptTuple = codes "except-tuple"
construct_text DeleteName = codes "del-name"
construct_text NestedTarget = codes "nested-target"
construct_text StarredTarget = codes "starred-target"
construct_text Ellipsis = codes "ellipsis"

abbrev pub construct_order : Construct → ℕ
construct_order Float = 0
construct_order Imaginary = 1
construct_order Bytes = 2
construct_order FormattedText = 3
construct_order Division = 4
construct_order MatrixProduct = 5
construct_order Decorator = 6
construct_order Lambda = 7
construct_order NestedDefinition = 8
construct_order NestedClass = 9
construct_order StarParameter = 10
construct_order StarArgument = 11
construct_order MethodKeyword = 12
construct_order Annotation = 13
construct_order ClassAttribute = 14
construct_order SeveralBases = 15
construct_order ClassKeyword = 16
construct_order SliceStep = 17
construct_order SliceTarget = 18
construct_order LoopElse = 19
construct_order TryElse = 20
construct_order Finally = 21
construct_order With = 22
construct_order Async = 23
construct_order Await = 24
construct_order Nonlocal = 25
construct_order YieldExpression = 26
construct_order YieldFrom = 27
construct_order GeneratorExpression = 28
construct_order SetComprehension = 29
construct_order DictComprehension = 30
construct_order Walrus = 31
construct_order StarImport = 32
construct_order RelativeImport = 33
construct_order DottedImport = 34
construct_order NestedImport = 35
construct_order NonasciiModule = 36
construct_order BareRaise = 37
construct_order RaiseFrom = 38
construct_order ExceptTuple = 39
construct_order DeleteName = 40
construct_order NestedTarget = 41
construct_order StarredTarget = 42
construct_order Ellipsis = 43

-- all of them, in order
abbrev pub constructs : List Construct
constructs =
    Float ∷ Imaginary ∷ Bytes ∷ FormattedText ∷ Division ∷ MatrixProduct ∷ Decorator ∷ Lambda ∷ NestedDefinition ∷ NestedClass ∷ StarParameter ∷ StarArgument ∷ MethodKeyword ∷ Annotation ∷ ClassAttribute ∷ SeveralBases ∷ ClassKeyword ∷ SliceStep ∷ SliceTarget ∷ LoopElse ∷ TryElse ∷ Finally ∷ With ∷ Async ∷ Await ∷ Nonlocal ∷ YieldExpression ∷ YieldFrom ∷ GeneratorExpression ∷ SetComprehension ∷ DictComprehension ∷ Walrus ∷ StarImport ∷ RelativeImport ∷ DottedImport ∷ NestedImport ∷ NonasciiModule ∷ BareRaise ∷ RaiseFrom ∷ ExceptTuple ∷ DeleteName ∷ NestedTarget ∷ StarredTarget ∷ Ellipsis ∷ []
