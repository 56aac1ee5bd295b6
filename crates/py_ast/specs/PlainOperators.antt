-- The code's operators as the plain ones that definitions speak of.
use Rattle.py_syntax.specs.Tree as meaning
use Rattle.py_ast.specs.declared.operator.UnaryOperator.{UnaryOperator}
use Rattle.py_ast.specs.declared.operator.UnaryOperator.TheVariants as unary
use Rattle.py_ast.specs.declared.operator.BinaryOperator.{BinaryOperator}
use Rattle.py_ast.specs.declared.operator.BinaryOperator.TheVariants as binary
use Rattle.py_ast.specs.declared.operator.ComparisonOperator.{ComparisonOperator}
use Rattle.py_ast.specs.declared.operator.ComparisonOperator.TheVariants as comparison

abbrev pub plain_unary : UnaryOperator → meaning.UnaryOperator
plain_unary unary.Negative = meaning.Negative
plain_unary unary.Positive = meaning.Positive
plain_unary unary.Invert = meaning.Invert

abbrev pub plain_binary : BinaryOperator → meaning.BinaryOperator
plain_binary binary.BitOr = meaning.BitOr
plain_binary binary.BitXor = meaning.BitXor
plain_binary binary.BitAnd = meaning.BitAnd
plain_binary binary.LeftShift = meaning.LeftShift
plain_binary binary.RightShift = meaning.RightShift
plain_binary binary.Add = meaning.Add
plain_binary binary.Subtract = meaning.Subtract
plain_binary binary.Multiply = meaning.Multiply
plain_binary binary.FloorDivide = meaning.FloorDivide
plain_binary binary.Modulo = meaning.Modulo
plain_binary binary.Power = meaning.Power

abbrev pub plain_comparison : ComparisonOperator → meaning.ComparisonOperator
plain_comparison comparison.Less = meaning.Less
plain_comparison comparison.Greater = meaning.Greater
plain_comparison comparison.LessOrEqual = meaning.LessOrEqual
plain_comparison comparison.GreaterOrEqual = meaning.GreaterOrEqual
plain_comparison comparison.Equal = meaning.Equal
plain_comparison comparison.NotEqual = meaning.NotEqual
plain_comparison comparison.In = meaning.In
plain_comparison comparison.NotIn = meaning.NotIn
plain_comparison comparison.Is = meaning.Is
plain_comparison comparison.IsNot = meaning.IsNot
