-- The code's constructs as the plain ones that definitions speak of, and what they add.
use Rattle.std.specs.Prelude.{◌≡◌, suc, List, [], Option, Some, None}
use Rattle.py_constructs.specs.Construct as meaning
use Rattle.py_constructs.specs.Table.{Addition, additions}
use Rattle.py_outside.specs.declared.construct.Construct.{Construct}
use Rattle.py_outside.specs.declared.construct.Construct.TheVariants as construct

abbrev pub plain_construct : Construct → meaning.Construct
plain_construct construct.Float = meaning.Float
plain_construct construct.Imaginary = meaning.Imaginary
plain_construct construct.Bytes = meaning.Bytes
plain_construct construct.FormattedText = meaning.FormattedText
plain_construct construct.Division = meaning.Division
plain_construct construct.MatrixProduct = meaning.MatrixProduct
plain_construct construct.Decorator = meaning.Decorator
plain_construct construct.Lambda = meaning.Lambda
plain_construct construct.NestedDefinition = meaning.NestedDefinition
plain_construct construct.NestedClass = meaning.NestedClass
plain_construct construct.StarParameter = meaning.StarParameter
plain_construct construct.StarArgument = meaning.StarArgument
plain_construct construct.MethodKeyword = meaning.MethodKeyword
plain_construct construct.Annotation = meaning.Annotation
plain_construct construct.ClassAttribute = meaning.ClassAttribute
plain_construct construct.SeveralBases = meaning.SeveralBases
plain_construct construct.ClassKeyword = meaning.ClassKeyword
plain_construct construct.SliceStep = meaning.SliceStep
plain_construct construct.SliceTarget = meaning.SliceTarget
plain_construct construct.LoopElse = meaning.LoopElse
plain_construct construct.TryElse = meaning.TryElse
plain_construct construct.Finally = meaning.Finally
plain_construct construct.With = meaning.With
plain_construct construct.Async = meaning.Async
plain_construct construct.Await = meaning.Await
plain_construct construct.Nonlocal = meaning.Nonlocal
plain_construct construct.YieldExpression = meaning.YieldExpression
plain_construct construct.YieldFrom = meaning.YieldFrom
plain_construct construct.GeneratorExpression = meaning.GeneratorExpression
plain_construct construct.SetComprehension = meaning.SetComprehension
plain_construct construct.DictComprehension = meaning.DictComprehension
plain_construct construct.Walrus = meaning.Walrus
plain_construct construct.StarImport = meaning.StarImport
plain_construct construct.RelativeImport = meaning.RelativeImport
plain_construct construct.DottedImport = meaning.DottedImport
plain_construct construct.NestedImport = meaning.NestedImport
plain_construct construct.NonasciiModule = meaning.NonasciiModule
plain_construct construct.BareRaise = meaning.BareRaise
plain_construct construct.RaiseFrom = meaning.RaiseFrom
plain_construct construct.ExceptTuple = meaning.ExceptTuple
plain_construct construct.DeleteName = meaning.DeleteName
plain_construct construct.NestedTarget = meaning.NestedTarget
plain_construct construct.StarredTarget = meaning.StarredTarget
plain_construct construct.Ellipsis = meaning.Ellipsis

-- what is added by a construct, or by none
abbrev pub additions_of : Option Construct → List Addition
additions_of None = []
additions_of (Some c) = additions (plain_construct c)

-- what stands behind a construct in order
abbrev pub IsNext : meaning.Construct → Option Construct → Type 0
IsNext c None = suc (meaning.construct_order c) ≡ 44
IsNext c (Some d) = meaning.construct_order (plain_construct d) ≡ suc (meaning.construct_order c)
